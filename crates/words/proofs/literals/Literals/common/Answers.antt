use Rattle.std.proofs.Common.{arith}
use Rattle.words.proofs.Masks.{common_sound, common_whole}
use Rattle.words.proofs.literals.Literals.common.Goals as goal

pub returns : goal.returns
returns c f v = (
  common_sound c.args.fluents c.args.s c.args.t c.first_fluents-all.result (omega arith) (omega arith) c.first_fluents-all.ensures f v,
  common_whole c.args.fluents c.args.s c.args.t c.first_fluents-all.result (omega arith) (omega arith) c.first_fluents-all.ensures f v,
)
