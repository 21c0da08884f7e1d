-- What a fence is made of, what it means, and what one more ban makes of it.
use Rattle.std.specs.Prelude.{◌≡◌, List, [], ◌∷◌, ◌++◌, take, Ok, Err, Result}
use Rattle.refusal.specs.declared.refusal.Refusal.{Refusal}
use Rattle.refusal.specs.Order.{First, NoneFits}
use Rattle.theory.specs.Meaning.{Meaning, Same}
use Rattle.fence.specs.declared.ban.Ban.{Ban}
use Rattle.fence.specs.declared.fence.Fence.{Fence}
use Rattle.fence.specs.Bans.{fenced, ban_refused}

-- the bans of the fence, in the order in which they came
abbrev pub bans_of : {W : Type 0} → Fence W → List Ban
bans_of f = take f.count f.bans

-- what the fence means, from what the theory below means
abbrev pub fence_meaning : {W : Type 0} → (W → Meaning) → Fence W → Meaning
fence_meaning mean f = fenced (bans_of f) (mean f.below)

-- the fence g is f with one more ban: over the same theory, with the ban behind the others, so that it means f fenced by the ban
pub record OneMore {W : Type 0} (mean : W → Meaning) (f : Fence W) (ban : Ban) (g : Fence W) : Type 0 where
  pub below : g.below ≡ f.below
  pub bans : bans_of g ≡ bans_of f ++ ban ∷ []
  pub means : Same (fence_meaning mean g) (fenced (ban ∷ []) (fence_meaning mean f))

-- A ban that is accepted stands in the fence from then on. A refused one leaves the fence as it is.
abbrev pub Adds : {W : Type 0} → (W → Meaning) → Fence W → Ban → Result (Unit {0}) Refusal → Fence W → Type 0
Adds mean f ban (Ok _) g = NoneFits (ban_refused (mean f.below) (bans_of f) ban) × OneMore mean f ban g
Adds mean f ban (Err e) g = First (ban_refused (mean f.below) (bans_of f) ban) e × (g ≡ f)
