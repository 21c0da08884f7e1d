use Rattle.std.proofs.Common.{arith}
use Rattle.words.proofs.Jumps.{no_stray, jump_up, jump_past}
use Rattle.words.proofs.Smallest.{none_join}
use Rattle.words.proofs.turned.next_turned.Goals as goal

pub returns-then-stray-eq0 : goal.returns-then-stray-eq0
returns-then-stray-eq0 c = (
  c.loop-next.invariant.0,
  no_stray c.args.s c.args.mask c.loop-next.next (omega arith) (omega arith) (omega arith) c.if-stray-eq0.true,
  c.loop-next.invariant.1,
)

pub loop-next-preserved : goal.loop-next-preserved
loop-next-preserved c =
    let up = jump_up c.args.s c.args.mask c.loop-next.next (omega arith) (omega arith) c.if-stray-eq0.false in (
      omega (arith, c.loop-next.invariant.0),
      none_join _ c.args.least c.loop-next.next c.loop-next.invariant.1 _
          (jump_past c.args.s c.args.mask c.loop-next.next (omega arith) (omega arith) c.if-stray-eq0.false),
    )

pub returns : goal.returns
returns c t low turned =
    c.loop-next.invariant.1 t low (omega (arith, turned.word)) turned
