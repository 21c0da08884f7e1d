-- The caused literals against those of the word where a step ends, as two sets of masks.
use Rattle.std.proofs.Common.{ℕ, ◌<◌, ◌≤◌, Bool, ◌↔◌, List}
use Rattle.words.specs.declared.literals.Literals.{Literals}
use Rattle.words.specs.Words.{Member, Within, Common}
use Rattle.law_book.specs.declared.law.Law.{Law}
use Rattle.law_book.specs.Laws.{Caused, NoneContrary, AllCaused}

module _ (fluents : ℕ) (laws : List Law) (s a t : ℕ) (caused own : Literals) (high : fluents ≤ 32)
    (causes : (f : ℕ) (v : Bool) → Member caused f v ↔ Caused fluents laws s a t f v)
    (owns : (f : ℕ) (v : Bool) → Member own f v ↔ (f < 32) × Common fluents t t f v) where
  pub none_contrary_from : Within caused own → NoneContrary fluents laws s a t
  none_contrary_from h f v x = let k = ((owns f v).0 (h f v ((causes f v).1 x))).1 in (k.fluent, k.after)

  pub all_caused_to : AllCaused fluents laws s a t → Within own caused
  all_caused_to h f v m = let k = ((owns f v).0 m).1 in (causes f v).1 (h f v k.fluent k.after)
