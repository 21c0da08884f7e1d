use Rattle.std.proofs.Common.{List, ◌∷◌, [], ◌++◌, ◌⊎◌, ◌↔◌, ◌<◌, length, inl, inr, refl, rules, arith, Any}
use Rattle.std.proofs.lemmas.List.{take_more_set, length-take-le}
use Rattle.std.proofs.lemmas.List.Elements.{Contains-append_left, Contains-append_right, Contains-append_cases}
use Rattle.theory.specs.Meaning.{Meaning, Same}
use Rattle.fence.specs.declared.ban.Ban.{Ban}
use Rattle.fence.specs.Bans.{Bars, fenced}
use Rattle.fence.specs.Fences.{bans_of}
use Rattle.fence.proofs.fence.Fence.ban.Goals as goal

-- some element of two joined lists has P exactly when some element of the first or of the second has
Any-append : {X : Type 0} (P : X → Type 0) (xs ys : List X) → Any P (xs ++ ys) ↔ (Any P xs ⊎ Any P ys)
Any-append P xs ys = (
  λ a. search (rules, Contains-append_cases xs ys a.1),
  elim [ inl a ↦ search (rules, Contains-append_left xs ys a.1) | inr a ↦ search (rules, Contains-append_right xs ys a.1) ],
)

-- two joined lists of bans leave of a theory what the second leaves of what the first leaves
fenced-append : (xs ys : List Ban) (below : Meaning) → Same (fenced (xs ++ ys) below) (fenced ys (fenced xs below))
fenced-append xs ys below = record {
  fluents = refl;
  actions = refl;
  states = λ s. search rules;
  steps = λ s a t. search (rules, Any-append (Bars s a) xs ys);
}

pub returns : goal.returns
returns g c =
    let f = c.args.self.now in
    let m = g.W.Judging.meaning f.below in
    let room : f.count < length f.bans = omega arith in
    let bans = take_more_set f.bans f.count c.args.ban room in
    search (rules, bans, length-take-le f.count f.bans (omega arith), fenced-append (bans_of f) (c.args.ban ∷ []) m)
