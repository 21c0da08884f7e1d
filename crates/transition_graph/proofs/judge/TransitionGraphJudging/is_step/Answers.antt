use Rattle.std.proofs.Common.{◌≡◌, ◌==◌, Bool, ◌&&◌, true, Decides, ap, arith}
use Rattle.std.proofs.lemmas.Bool.Decides.{nat_tests}
use Rattle.std.proofs.lemmas.List.Elements.{contains_decides, Decides-contains}
use Rattle.transition_graph.specs.declared.link.Link.{Link}
use Rattle.transition_graph.proofs.judge.TransitionGraphJudging.is_step.Goals as goal

-- what the derived == of links computes
abbrev link_eq : Link → Link → Bool
link_eq x y = x.from == y.from && (x.action == y.action && x.to == y.to)

link_eq_decides : (x y : Link) → Decides (link_eq x y) (x ≡ y)
link_eq_decides x y = (same, λ e. let f = ap (λ z. z.from) e in let a = ap (λ z. z.action) e in let t = ap (λ z. z.to) e in grind (arith, nat_tests))
  where
    same : link_eq x y ≡ true → x ≡ y
    same e = let h : (x.from ≡ y.from) × (x.action ≡ y.action) × (x.to ≡ y.to) = grind (arith, nat_tests) in λ i. record { from = h.0 i; action = h.1 i; to = h.2 i }

pub returns : goal.returns
returns c = rw (← c.deref.ensures.value) (Decides-contains _ _ _ (contains_decides link_eq link_eq_decides _ _ _ c.contains.ensures.cases))
