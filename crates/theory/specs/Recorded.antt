-- Why a recorded run is refused.
use Rattle.std.specs.Prelude.{◌≡◌, ℕ, List, [], ◌∷◌, ◌++◌, length}
use Rattle.refusal.specs.declared.part.Part.TheVariants.{Step as StepPart}
use Rattle.refusal.specs.declared.reason.Reason.TheVariants.{NotAState, NotAStep}
use Rattle.refusal.specs.Order.{Ground, by, by_place}
use Rattle.refusal.specs.Refusals.{plain, at}
use Rattle.theory.specs.declared.step.Step.{Step}
use Rattle.theory.specs.Meaning.{Meaning}
use Rattle.theory.specs.Trajectories.{Trajectory}

-- k is the place of the first step that is none of the theory: those before it are a trajectory
pub record FirstFaulty (m : Meaning) (s : ℕ) (xs : List Step) (k : ℕ) : Type 0 where
  pub before : List Step
  pub word : ℕ
  pub faulty : Step
  pub after : List Step
  pub split : xs ≡ before ++ faulty ∷ after
  pub place : length before ≡ k
  pub lawful : Trajectory m s before word
  pub no_step : m.Step word faulty.action faulty.to → ⊥

-- the start is no state; then, the first step that is none of the theory
abbrev pub record_refused : Meaning → ℕ → List Step → List Ground
record_refused m s xs =
    by (plain NotAState) (m.State s → ⊥)
    ∷ by_place (at NotAStep StepPart) (FirstFaulty m s xs)
    ∷ []
