use Rattle.std.proofs.Common.{rules}
use Rattle.transition_graph.proofs.open.check.Goals as goal

pub returns-in_err-check_entries-2 : goal.returns-in_err-check_entries-2
returns-in_err-check_entries-2 c = rw (← c.in_ok-sizes.ensures.1.0, ← c.in_ok-sizes.ensures.1.1) (search rules)

pub returns : goal.returns
returns c = rw (← c.in_ok-sizes.ensures.1.0, ← c.in_ok-sizes.ensures.1.1) (search rules)
