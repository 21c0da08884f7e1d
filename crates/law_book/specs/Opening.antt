-- What the opening of a law book answers.
use Rattle.std.specs.Prelude.{◌≡◌, ℕ, ◌<◌, ◌≤◌, List, ◌∷◌, ◌++◌, length, Ok, Err, vec_items, Result, Vec}
use Rattle.std.specs.declared.alloc.Global.{Global}
use Rattle.refusal.specs.declared.part.Part.TheVariants.{Law as LawPart}
use Rattle.refusal.specs.declared.reason.Reason.TheVariants.{TableLength}
use Rattle.refusal.specs.Entries.{entries_refused}
use Rattle.refusal.specs.Order.{Ground, by, First, NoneFits}
use Rattle.refusal.specs.Refusals.{plain}
use Rattle.theory.specs.declared.unopened.Unopened.{Unopened}
use Rattle.theory.specs.Meaning.{Same}
use Rattle.theory.specs.Sizes.{InRange, sizes_refused}
use Rattle.law_book.specs.declared.book.LawBook.{LawBook}
use Rattle.law_book.specs.declared.law.Law.{Law}
use Rattle.law_book.specs.Books.{laws_of, book_meaning}
use Rattle.law_book.specs.Laws.{Good, meaning_of}
use Rattle.law_book.specs.Tables.{AllGood}

-- the sizes and tables that open
pub record Opens (fluents actions : ℕ) (laws : List Law) : Type 0 where
  pub sized : InRange fluents actions
  pub few : length laws ≤ 512
  pub good : AllGood fluents actions laws

-- sizes out of range; then, over 512 laws; then, the first law that breaks a rule
abbrev pub open_refused : ℕ → ℕ → List Law → List Ground
open_refused fluents actions laws =
    sizes_refused fluents actions ++ (by (plain TableLength) (512 < length laws) ∷ entries_refused LawPart (Good fluents actions) laws)

-- the book has exactly these sizes and laws: it means what they mean, and keeps the laws in their order
pub record BookOf (fluents actions : ℕ) (laws : List Law) (b : LawBook) : Type 0 where
  pub means : Same (book_meaning b) (meaning_of fluents actions laws)
  pub table : laws_of b ≡ laws

-- What opens is the book of these sizes and laws. What does not is refused by the first ground that fits, and the table
-- comes back as it was handed in.
abbrev pub Opened : ℕ → ℕ → Vec Law Global → Result LawBook (Unopened (Vec Law Global)) → Type 0
Opened fluents actions laws (Ok b) =
    Opens fluents actions (vec_items laws)
    × NoneFits (open_refused fluents actions (vec_items laws))
    × BookOf fluents actions (vec_items laws) b
Opened fluents actions laws (Err u) = First (open_refused fluents actions (vec_items laws)) u.refusal × (u.tables ≡ laws)
