use Rattle.std.proofs.Common.{rules}
use Rattle.law_book.proofs.open.check.Goals as goal

pub returns : goal.returns
returns c = rw (← c.in_ok-sizes.ensures.1.0, ← c.in_ok-sizes.ensures.1.1) (search rules)
