-- Which refusal wins: a call has a list of grounds to refuse, and the first that fits refuses.
use Rattle.std.specs.Prelude.{◌≡◌, ℕ, ◌⊎◌, List, [], ◌∷◌, Ok, Err, Result}
use Rattle.refusal.specs.declared.refusal.Refusal.{Refusal}

-- a ground to refuse, by the refusals that it brings about: none where it does not fit
abbrev pub Ground : Type 1
Ground = Refusal → Type 0

-- the ground that brings about this refusal where the condition holds
abbrev pub by : Refusal → Type 0 → Ground
by refusal Holds = λ e. (e ≡ refusal) × Holds

-- the ground that brings about the refusal of each place where the condition holds
abbrev pub by_place : (ℕ → Refusal) → (ℕ → Type 0) → Ground
by_place refusal Holds = λ e. (k : ℕ) × (e ≡ refusal k) × Holds k

-- the ground brings about no refusal
abbrev pub Unfit : Ground → Type 0
Unfit g = (e : Refusal) → g e → ⊥

-- the first ground that fits brings about this refusal
abbrev pub First : List Ground → Refusal → Type 0
First [] e = ⊥
First (g ∷ gs) e = g e ⊎ (Unfit g × First gs e)

-- no ground fits
abbrev pub NoneFits : List Ground → Type 0
NoneFits [] = Unit {0}
NoneFits (g ∷ gs) = Unfit g × NoneFits gs

-- a call is accepted only where no ground fits, with such an answer, and else refused by the first that does
abbrev pub Ordered : {A : Type 0} → List Ground → (A → Type 0) → Result A Refusal → Type 0
Ordered gs Accepted (Ok x) = NoneFits gs × Accepted x
Ordered gs Accepted (Err e) = First gs e
