use Rattle.std.proofs.Common.{rules, sym, subst}
use Rattle.std.proofs.lemmas.Result.{IfOk-weaker}
use Rattle.theory.specs.Results.{Listed}
use Rattle.theory.proofs.Sweeps.{listed_from_drains, step_word}
use Rattle.theory.proofs.results.results.Goals as goal

pub returns : goal.returns
returns g c =
    let m = g.T.Judging.meaning c.args.theory.now in
    IfOk-weaker c.collect.result _ _
    (λ v h. subst (Listed (m.Step c.args.s c.args.a) 0) (sym h.2.0)
    (listed_from_drains (m.Step c.args.s c.args.a) (step_word m (g.met.T.Judging.ranged c.args.theory.now) c.args.s c.args.a)
    c.new.result h.0 h.1 tt c.new.ensures.query c.new.ensures.from (λ n o a. search rules)))
    c.collect.ensures.ran
