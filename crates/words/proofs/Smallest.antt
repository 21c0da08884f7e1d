-- The smallest number with a property, and the search upwards for it.
use Rattle.std.proofs.Common.{◌≡◌, ℕ, ◌+◌, ◌<◌, ◌≤◌, Some, None, Option, subst, ⊎_elim, arith}
use Rattle.std.proofs.lemmas.Bool.{cases_lt}
use Rattle.words.specs.Smallest.{SmallestFrom}

-- no number from low on, and below high, has the property P
abbrev pub NoneBetween : ℕ → ℕ → (ℕ → Type 0) → Type 0
NoneBetween low high P = (u : ℕ) → low ≤ u → u < high → P u → ⊥

module _ (P : ℕ → Type 0) (low mid : ℕ) (below : NoneBetween low mid P) where
  pub none_join : (high : ℕ) → NoneBetween mid high P → NoneBetween low high P
  none_join high above u l h x = ⊎_elim (λ k. below u l k x) (λ k. above u k h x) (cases_lt u mid)

  pub none_more : (P mid → ⊥) → NoneBetween low (mid + 1) P
  none_more n = none_join (mid + 1) (λ u l h x. let e : u ≡ mid = omega arith in n (subst P e x))

-- the same for two properties that agree from the least number on
pub smallest_like : (P Q : ℕ → Type 0) (least : ℕ) (r : Option ℕ) → ((t : ℕ) → least ≤ t → P t → Q t) → ((t : ℕ) → least ≤ t → Q t → P t)
    → SmallestFrom least P r → SmallestFrom least Q r
smallest_like P Q least None to from h = λ t l x. h t l (from t l x)
smallest_like P Q least (Some t) to from h = (h.0, to t h.0 h.1, λ u l k x. h.2 u l k (from u l x))
