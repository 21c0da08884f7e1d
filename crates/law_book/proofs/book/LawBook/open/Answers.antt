use Rattle.std.proofs.Common.{rules}
use Rattle.law_book.proofs.book.LawBook.open.Goals as goal

pub returns-in-Ok : goal.returns-in-Ok
returns-in-Ok c = let h = rw c.deref.ensures.value at c.in-Ok.ensures in search rules
