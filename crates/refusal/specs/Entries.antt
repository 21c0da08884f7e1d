-- Entries of a table that break their rule.
use Rattle.std.specs.Prelude.{ℕ, ◌<◌, List, [], ◌∷◌, length}
use Rattle.std.specs.List.{AllWithin, HoldsAt}
use Rattle.refusal.specs.declared.part.Part.{Part}
use Rattle.refusal.specs.declared.reason.Reason.TheVariants.{BadEntry}
use Rattle.refusal.specs.Order.{Ground, by_place}
use Rattle.refusal.specs.Refusals.{at}

-- k is the place of the first entry that breaks the rule
pub record FirstBad {X : Type 0} (Rule : X → Type 0) (xs : List X) (k : ℕ) : Type 0 where
  pub within : k < length xs
  pub bad : HoldsAt (λ x. ¬ Rule x) xs k
  pub before : AllWithin Rule xs 0 k

-- the first entry that breaks the rule is a bad entry, by the part that the table is
abbrev pub entries_refused : {X : Type 0} → Part → (X → Type 0) → List X → List Ground
entries_refused part Rule xs = by_place (at BadEntry part) (FirstBad Rule xs) ∷ []
