-- Tables whose every entry keeps its rule.
use Rattle.std.proofs.Common.{ℕ, List, [], ◌∷◌, arith}
use Rattle.std.specs.List.{All}
use Rattle.refusal.specs.Entries.{FirstBad}

-- such a table has no first bad entry
pub none_bad : {X : Type 0} (Rule : X → Type 0) (xs : List X) (k : ℕ) → All Rule xs → FirstBad Rule xs k → ⊥
none_bad Rule [] k all b = omega (arith, b.within)
none_bad Rule (x ∷ xs) k all b = b.bad x (all k x b.within)
