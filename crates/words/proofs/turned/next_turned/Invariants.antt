use Rattle.std.proofs.Common.{◌-◌, ◌^◌, ◌≤◌}
use Rattle.words.specs.Words.{Turned}
use Rattle.words.proofs.Smallest.{NoneBetween}
use Rattle.words.proofs.turned.next_turned.Given as goal

abbrev pub invariant-loop-next : goal.invariant-loop-next
invariant-loop-next l = (l.least ≤ l.next) × NoneBetween l.least l.next (Turned l.s l.mask)

abbrev pub decreases-loop-next : goal.decreases-loop-next
decreases-loop-next l = 2 ^ 32 - l.next
