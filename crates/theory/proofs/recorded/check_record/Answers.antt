use Rattle.std.proofs.Common.{subst, inl, inr, arith}
use Rattle.std.proofs.lemmas.List.{take_all}
use Rattle.std.proofs.lemmas.Bool.Decides.{not_from_Decides}
use Rattle.theory.specs.declared.step.Step.{Step}
use Rattle.theory.specs.Trajectories.{Trajectory, rests}
use Rattle.theory.proofs.Trajectories.{none_faulty, run_more, faulty_here}
use Rattle.theory.proofs.recorded.check_record.Goals as goal

-- the default that the code's reads have
abbrev no_step : Step
no_step = record { action = 0; to = 0 }

pub loop-i-init : goal.loop-i-init
loop-i-init g c = rests (c.is_state.ensures.0 c.if-not-is_state.false)

pub loop-i-preserved : goal.loop-i-preserved
loop-i-preserved g c =
    let m = g.T.Judging.meaning c.args.theory.now in
    run_more m (g.met.T.Judging.ranged c.args.theory.now) c.args.start c.loop-i.last c.loop-i.i c.args.steps.now no_step c.loop-i-test.true c.loop-i.invariant
    (c.is_step.ensures.0 c.if-not-is_step.false)

pub returns-then-not-is_step : goal.returns-then-not-is_step
returns-then-not-is_step g c =
    let m = g.T.Judging.meaning c.args.theory.now in
    inr (
      λ e p. p.1 (c.is_state.ensures.0 c.if-not-is_state.false),
      inl (
        c.loop-i.i,
        c.at.ensures,
        faulty_here m (g.met.T.Judging.ranged c.args.theory.now) c.args.start c.loop-i.last c.loop-i.i c.args.steps.now no_step c.loop-i-test.true c.loop-i.invariant
            (not_from_Decides c.is_step.result c.is_step.ensures c.if-not-is_step.true),
      ),
    )

pub returns : goal.returns
returns g c =
    let m = g.T.Judging.meaning c.args.theory.now in
    let h = subst (λ xs. Trajectory m c.args.start xs c.loop-i.last) (take_all c.loop-i.i c.args.steps.now (omega arith)) c.loop-i.invariant in (
      (
        λ e p. p.1 (c.is_state.ensures.0 c.if-not-is_state.false),
        (λ e p. none_faulty m c.args.start c.loop-i.last p.0 c.args.steps.now h p.2, tt),
      ),
      h,
    )
