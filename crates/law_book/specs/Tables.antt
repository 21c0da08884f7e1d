-- What holds of every law of a table.
use Rattle.std.specs.Prelude.{ℕ, List, All}
use Rattle.law_book.specs.declared.law.Law.{Law}
use Rattle.law_book.specs.Laws.{Good, Obeys}

-- the word obeys every law
abbrev pub Obeyed : List Law → ℕ → Type 0
Obeyed laws s = All (Obeys s) laws

-- every law keeps the rules of a book of these sizes
abbrev pub AllGood : ℕ → ℕ → List Law → Type 0
AllGood fluents actions laws = All (Good fluents actions) laws
