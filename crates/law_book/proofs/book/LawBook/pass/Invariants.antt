use Rattle.law_book.specs.Books.{laws_of}
use Rattle.law_book.proofs.Tables.{Passed}
use Rattle.law_book.proofs.book.LawBook.pass.Given as goal

abbrev pub invariant-loop-law : goal.invariant-loop-law
invariant-loop-law l = Passed (laws_of l.self) l.initial.grown l.grown l.law-index
