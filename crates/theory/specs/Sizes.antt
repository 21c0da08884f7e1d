-- The sizes that a theory may have.
use Rattle.std.specs.Prelude.{ℕ, ◌≤◌, List, [], ◌∷◌}
use Rattle.refusal.specs.declared.reason.Reason.TheVariants.{WrongSizes}
use Rattle.refusal.specs.Order.{Ground, by}
use Rattle.refusal.specs.Refusals.{plain}

-- 1 to 32 fluents and 1 to 64 actions
abbrev pub InRange : ℕ → ℕ → Type 0
InRange fluents actions = (1 ≤ fluents) × (fluents ≤ 32) × (1 ≤ actions) × (actions ≤ 64)

-- sizes out of range are refused
abbrev pub sizes_refused : ℕ → ℕ → List Ground
sizes_refused fluents actions = by (plain WrongSizes) (InRange fluents actions → ⊥) ∷ []
