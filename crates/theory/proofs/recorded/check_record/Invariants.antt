use Rattle.std.proofs.Common.{take}
use Rattle.theory.specs.Trajectories.{Trajectory}
use Rattle.theory.proofs.recorded.check_record.Given as goal

abbrev pub invariant-loop-i : goal.invariant-loop-i
invariant-loop-i g l = Trajectory (g.T.Judging.meaning l.theory) l.initial.last (take l.i l.steps) l.last
