-- What a person reads of a refusal.
use Rattle.std.specs.Prelude.{ℕ, cond, List, ◌++◌, codes, decimal, ◌==◌}
use Rattle.refusal.specs.declared.part.Part.{Part}
use Rattle.refusal.specs.declared.part.Part.TheVariants.{NoPart, Law, State, Link, Ban, Formula, Node, Step}
use Rattle.refusal.specs.declared.reason.Reason.{Reason}
use Rattle.refusal.specs.declared.reason.Reason.TheVariants.{VacantPlace, UnstartedRun, WrongSizes, NotAState, NotAStep, RecordFull, NothingToWithdraw, SearchTooLarge, WorkingTableShort, NoWay, NoTrace, OutputShort, BadEntry, TableLength, TornClaim, IdleRound, NoChoiceLeft, Strayed, LeftOver}
use Rattle.refusal.specs.declared.refusal.Refusal.{Refusal}
use Rattle.refusal.specs.Numbers.{reason_number, part_number}

-- a reason in words
abbrev pub sentence_of : Reason → List ℕ
sentence_of VacantPlace = codes "no program has been admitted to this place"
sentence_of UnstartedRun = codes "the run has not been started"
sentence_of WrongSizes = codes "the counts of fluents and actions are out of range or not the theory's"
sentence_of NotAState = codes "the start word is not a state of the theory"
sentence_of NotAStep = codes "the theory has no such step"
sentence_of RecordFull = codes "the record is full: it holds 255 steps"
sentence_of NothingToWithdraw = codes "the record has no step to withdraw"
sentence_of SearchTooLarge = codes "the program and the fluents need too large a search"
sentence_of WorkingTableShort = codes "a working table is too short"
sentence_of NoWay = codes "no continuation ends the program"
sentence_of NoTrace = codes "the record is no trace of the program"
sentence_of OutputShort = codes "the output is too short for the answer"
sentence_of BadEntry = codes "the entry breaks its rule"
sentence_of TableLength = codes "a table has too few or too many entries"
sentence_of TornClaim = codes "the bytes do not end in a whole claim"
sentence_of IdleRound = codes "a round of the while took no step"
sentence_of NoChoiceLeft = codes "the claim has no choice left for this node"
sentence_of Strayed = codes "the run strays from the program at this node"
sentence_of LeftOver = codes "the program has ended, but steps or choices are left over"

-- a part in a word
abbrev pub word_of : Part → List ℕ
word_of NoPart = codes "no part"
word_of Law = codes "law"
word_of State = codes "state"
word_of Link = codes "link"
word_of Ban = codes "ban"
word_of Formula = codes "formula"
word_of Node = codes "node"
word_of Step = codes "step"

-- a refusal that speaks of no part: its number and the reason in words
abbrev pub shown_plain : ℕ → List ℕ → List ℕ
shown_plain number sentence = codes "refused by " ++ (decimal number ++ (codes ": " ++ sentence))

-- a refusal that names a place: its number, the part with its place and number, and the reason in words
abbrev pub shown_at : ℕ → List ℕ → ℕ → ℕ → List ℕ → List ℕ
shown_at number word place part sentence =
    codes "refused by "
    ++ (decimal number
    ++ (codes " at " ++ (word ++ (codes " " ++ (decimal place ++ (codes " (part " ++ (decimal part ++ (codes "): " ++ sentence))))))))

-- what a person reads of a refusal
abbrev pub shown_of : Refusal → List ℕ
shown_of r =
    cond (part_number r.part == 0) (shown_plain (reason_number r.reason) (sentence_of r.reason))
    (shown_at (reason_number r.reason) (word_of r.part) r.place (part_number r.part) (sentence_of r.reason))
