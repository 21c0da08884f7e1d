use Rattle.std.proofs.Common.{rules}
use Rattle.transition_graph.proofs.graph.TransitionGraph.open.Goals as goal

pub returns-in-Ok : goal.returns-in-Ok
returns-in-Ok c = let h = rw (c.deref.ensures.value, c.deref-2.ensures.value) at c.in-Ok.ensures in search rules

pub returns-in-Err : goal.returns-in-Err
returns-in-Err c = let h = rw (c.deref.ensures.value, c.deref-2.ensures.value) at c.in-Err.ensures in search rules
