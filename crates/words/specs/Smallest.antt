-- The smallest number with a property, among those that are not below a given one.
use Rattle.std.specs.Prelude.{ℕ, ◌<◌, ◌≤◌, Some, None, Option}

-- the answer is the smallest number, not below the least, that has the property P; none where no such number has it
abbrev pub SmallestFrom : ℕ → (ℕ → Type 0) → Option ℕ → Type 0
SmallestFrom least P None = (t : ℕ) → least ≤ t → P t → ⊥
SmallestFrom least P (Some t) = (least ≤ t) × P t × ((u : ℕ) → least ≤ u → u < t → P u → ⊥)
