-- Bans, and what a list of them leaves of a theory.
use Rattle.std.specs.Prelude.{◌≡◌, ℕ, ◌<◌, ◌≤◌, List, [], ◌∷◌, length, Any}
use Rattle.refusal.specs.declared.part.Part.TheVariants.{Ban as BanPart}
use Rattle.refusal.specs.declared.reason.Reason.TheVariants.{TableLength, BadEntry}
use Rattle.refusal.specs.Order.{Ground, by}
use Rattle.refusal.specs.Refusals.{plain, at}
use Rattle.words.specs.Words.{Holds, Body}
use Rattle.theory.specs.Meaning.{Meaning}
use Rattle.fence.specs.declared.ban.Ban.{Ban}

-- what a ban keeps over a theory of these sizes: its action and its masks are as in a law
pub record GoodBan (fluents actions : ℕ) (ban : Ban) : Type 0 where
  pub action : ban.action < actions
  pub body : Body fluents ban.body

-- the ban is on the action a, and its masks are satisfied in s
pub record Bars (s a : ℕ) (ban : Ban) : Type 0 where
  pub action : ban.action ≡ a
  pub holds : Holds ban.body s

-- one of the bans bars a in s
abbrev pub Barred : List Ban → ℕ → ℕ → Type 0
Barred bans s a = Any (Bars s a) bans

-- a step of the theory below that no ban bars
pub record Allowed (bans : List Ban) (below : Meaning) (s a t : ℕ) : Type 0 where
  pub step : below.Step s a t
  pub free : Barred bans s a → ⊥

-- the meaning of a fence: sizes and states are those below, the steps those below that no ban bars
abbrev pub fenced : List Ban → Meaning → Meaning
fenced bans below = record {
  fluents = below.fluents;
  actions = below.actions;
  State = below.State;
  Step = Allowed bans below;
}

-- sixteen bans are there already; then, the new one breaks its rule
abbrev pub ban_refused : Meaning → List Ban → Ban → List Ground
ban_refused below bans ban =
    by (plain TableLength) (16 ≤ length bans)
    ∷ by (at BadEntry BanPart 0) (GoodBan below.fluents below.actions ban → ⊥)
    ∷ []
