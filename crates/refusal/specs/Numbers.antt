-- The numbers of reasons and parts.
use Rattle.std.specs.Prelude.{ℕ}
use Rattle.refusal.specs.declared.part.Part.{Part}
use Rattle.refusal.specs.declared.part.Part.TheVariants.{NoPart, Law, State, Link, Ban, Formula, Node, Step}
use Rattle.refusal.specs.declared.reason.Reason.{Reason}
use Rattle.refusal.specs.declared.reason.Reason.TheVariants.{VacantPlace, UnstartedRun, WrongSizes, NotAState, NotAStep, RecordFull, NothingToWithdraw, SearchTooLarge, WorkingTableShort, NoWay, NoTrace, OutputShort, BadEntry, TableLength, TornClaim, IdleRound, NoChoiceLeft, Strayed, LeftOver}

-- the number of a reason, as the table of refusals has it
abbrev pub reason_number : Reason → ℕ
reason_number VacantPlace = 1
reason_number UnstartedRun = 2
reason_number WrongSizes = 3
reason_number NotAState = 4
reason_number NotAStep = 5
reason_number RecordFull = 6
reason_number NothingToWithdraw = 7
reason_number SearchTooLarge = 8
reason_number WorkingTableShort = 9
reason_number NoWay = 10
reason_number NoTrace = 11
reason_number OutputShort = 12
reason_number BadEntry = 13
reason_number TableLength = 14
reason_number TornClaim = 15
reason_number IdleRound = 16
reason_number NoChoiceLeft = 17
reason_number Strayed = 18
reason_number LeftOver = 19

-- the number of a part
abbrev pub part_number : Part → ℕ
part_number NoPart = 0
part_number Law = 1
part_number State = 2
part_number Link = 3
part_number Ban = 4
part_number Formula = 5
part_number Node = 6
part_number Step = 7
