-- Trajectories of a theory.
use Rattle.std.specs.Prelude.{ℕ, List, [], ◌∷◌}
use Rattle.theory.specs.declared.step.Step.{Step}
use Rattle.theory.specs.Meaning.{Meaning}

-- Trajectory m s xs t: the steps xs are steps of the theory, each from where the one before ended, and lead from s to t; with no step, s is a state and t is s
pub data Trajectory (m : Meaning) : ℕ → List Step → ℕ → Type 0 where
  rests : {s : ℕ} → m.State s → Trajectory m s [] s
  steps : {s t : ℕ} {x : Step} {xs : List Step} → m.Step s x.action x.to → Trajectory m x.to xs t → Trajectory m s (x ∷ xs) t
