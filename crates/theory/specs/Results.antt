-- All results of an action.
use Rattle.std.specs.Prelude.{ℕ, ◌+◌, List, [], ◌∷◌, Some, None}
use Rattle.words.specs.Smallest.{SmallestFrom}

-- Listed P least xs: xs are all numbers, not below the least, that have the property P, in ascending order: the smallest of them, then those above it
pub data Listed (P : ℕ → Type 0) : ℕ → List ℕ → Type 0 where
  none : {least : ℕ} → SmallestFrom least P None → Listed P least []
  first : {least t : ℕ} {xs : List ℕ} → SmallestFrom least P (Some t) → Listed P (t + 1) xs → Listed P least (t ∷ xs)
