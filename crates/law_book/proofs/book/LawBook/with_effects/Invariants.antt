use Rattle.law_book.specs.Books.{laws_of}
use Rattle.law_book.proofs.Tables.{Gathered}
use Rattle.law_book.proofs.book.LawBook.with_effects.Given as goal

abbrev pub invariant-loop-law : goal.invariant-loop-law
invariant-loop-law l = Gathered (laws_of l.self) l.s l.a l.initial.grown l.grown l.law-index
