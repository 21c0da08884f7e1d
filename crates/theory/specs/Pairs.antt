-- Sizes, and the pair of their counts.
use Rattle.std.specs.Prelude.{◌≡◌, ℕ}
use Rattle.theory.specs.declared.sizes.Sizes.{Sizes}

-- the pair is of these sizes, fluents first
abbrev pub IsPair : Sizes → ℕ × ℕ → Type 0
IsPair z pair = (z.fluents ≡ pair.0) × (z.actions ≡ pair.1)
