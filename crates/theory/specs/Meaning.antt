-- What an action theory means.
use Rattle.std.specs.Prelude.{◌≡◌, ℕ, ◌^◌, ◌<◌, ◌↔◌}
use Rattle.theory.specs.Sizes.{InRange}

-- the count of fluents, the count of actions, the set of states, and the set of steps (s, a, t)
pub record Meaning : Type 1 where
  pub fluents : ℕ
  pub actions : ℕ
  pub State : ℕ → Type 0
  pub Step : ℕ → ℕ → ℕ → Type 0

-- the ranges of every theory: its sizes, a state is a word of its fluents, and a step leads from a state by an action to a state
pub record Ranged (m : Meaning) : Type 0 where
  pub sizes : InRange m.fluents m.actions
  pub state_below : (s : ℕ) → m.State s → s < 2 ^ m.fluents
  pub step_from : (s a t : ℕ) → m.Step s a t → m.State s
  pub step_action : (s a t : ℕ) → m.Step s a t → a < m.actions
  pub step_to : (s a t : ℕ) → m.Step s a t → m.State t

-- two theories mean the same: equal sizes, the same states and the same steps
pub record Same (m n : Meaning) : Type 0 where
  pub fluents : m.fluents ≡ n.fluents
  pub actions : m.actions ≡ n.actions
  pub states : (s : ℕ) → m.State s ↔ n.State s
  pub steps : (s a t : ℕ) → m.Step s a t ↔ n.Step s a t
