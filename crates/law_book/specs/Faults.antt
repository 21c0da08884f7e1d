-- Why a book has no such step.
use Rattle.std.specs.Prelude.{ℕ, ◌<◌, ◌≤◌, List, Some, None, codes, Option}
use Rattle.law_book.specs.declared.fault.Fault.{Fault}
use Rattle.law_book.specs.declared.fault.Fault.TheVariants.{FromNotAState, NoSuchAction, MayNotRun, ToNotAState, Contrary, Uncaused}
use Rattle.law_book.specs.declared.law.Law.{Law}
use Rattle.law_book.specs.Laws.{IsState, IsStep, MayRun, NoneContrary, AllCaused}

-- the fault is the first that fits: what it denies fails, and what comes before that in a step's definition holds
abbrev pub Faulty : ℕ → ℕ → List Law → ℕ → ℕ → ℕ → Fault → Type 0
Faulty fluents actions laws s a t FromNotAState = IsState fluents laws s → ⊥
Faulty fluents actions laws s a t NoSuchAction = IsState fluents laws s × (actions ≤ a)
Faulty fluents actions laws s a t MayNotRun = IsState fluents laws s × (a < actions) × (MayRun laws s a → ⊥)
Faulty fluents actions laws s a t ToNotAState =
    IsState fluents laws s × (a < actions) × MayRun laws s a × (IsState fluents laws t → ⊥)
Faulty fluents actions laws s a t Contrary =
    IsState fluents laws s × (a < actions) × MayRun laws s a × IsState fluents laws t × (NoneContrary fluents laws s a t → ⊥)
Faulty fluents actions laws s a t Uncaused =
    IsState fluents laws s × (a < actions) × MayRun laws s a × IsState fluents laws t × NoneContrary fluents laws s a t
    × (AllCaused fluents laws s a t → ⊥)

-- (s, a, t) is a step, or has this fault
abbrev pub Explained : ℕ → ℕ → List Law → ℕ → ℕ → ℕ → Option Fault → Type 0
Explained fluents actions laws s a t None = IsStep fluents actions laws s a t
Explained fluents actions laws s a t (Some fault) = Faulty fluents actions laws s a t fault

-- a fault in words
abbrev pub fault_sentence : Fault → List ℕ
fault_sentence FromNotAState = codes "the step begins in a word that is not a state"
fault_sentence NoSuchAction = codes "the book has no such action"
fault_sentence MayNotRun = codes "the action may not run there"
fault_sentence ToNotAState = codes "the step ends in a word that is not a state"
fault_sentence Contrary = codes "something caused is not so after the step"
fault_sentence Uncaused = codes "something is so after the step that nothing causes"
