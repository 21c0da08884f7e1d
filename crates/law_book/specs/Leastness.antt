-- The caused literals are the least set of literals with their properties.
use Rattle.std.specs.Prelude.{◌≡◌, ℕ, Bool, true, List}
use Rattle.words.specs.Words.{Common}
use Rattle.law_book.specs.declared.law.Law.{Law}
use Rattle.law_book.specs.Laws.{Closed, Effect, Caused}

-- a set of literals that contains the direct effects and the common literals, and is closed under the static laws
pub record Holding (fluents : ℕ) (laws : List Law) (s a t : ℕ) (P : ℕ → Bool → Type 0) : Type 0 where
  pub effects : (f : ℕ) (v : Bool) → Effect laws s a f v → P f v
  pub commons : (f : ℕ) (v : Bool) → Common fluents s t f v → P f v
  pub closed : Closed laws P

-- the caused literals are such a set, and lie in every other, given by its test
abbrev pub CausedIsLeast : Type 0
CausedIsLeast =
    (fluents : ℕ) (laws : List Law) (s a t : ℕ) → Holding fluents laws s a t (Caused fluents laws s a t)
    × ((P : ℕ → Bool → Bool) → Holding fluents laws s a t (λ f v. P f v ≡ true) → (f : ℕ) (v : Bool) → Caused fluents laws s a t f v → P f v ≡ true)
