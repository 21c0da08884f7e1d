-- Steps that turn some fluents only.
use Rattle.std.specs.Prelude.{ℕ}
use Rattle.words.specs.Words.{Turned}
use Rattle.theory.specs.Meaning.{Meaning}

-- (s, a, t) is a step that turns no fluent but those of the mask
pub record Turning (m : Meaning) (s a mask t : ℕ) : Type 0 where
  pub step : m.Step s a t
  pub turned : Turned s mask t
