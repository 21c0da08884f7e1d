-- What a book is made of, and what it means.
use Rattle.std.specs.Prelude.{ℕ, List, vec_items, IsSomeAnd}
use Rattle.std.specs.List.{slice_get}
use Rattle.theory.specs.Meaning.{Meaning}
use Rattle.law_book.specs.declared.book.LawBook.{LawBook}
use Rattle.law_book.specs.declared.law.Law.{Law}
use Rattle.law_book.specs.Laws.{Obeys, meaning_of}

-- the laws of the book
abbrev pub laws_of : LawBook → List Law
laws_of b = vec_items b.laws

-- what the book means
abbrev pub book_meaning : LawBook → Meaning
book_meaning b = meaning_of b.sizes.fluents b.sizes.actions (laws_of b)

-- the table has a law at place k, and the word w breaks it
abbrev pub Breaks : List Law → ℕ → ℕ → Type 0
Breaks laws w k = IsSomeAnd (slice_get laws k) (λ law. ¬ Obeys w law)
