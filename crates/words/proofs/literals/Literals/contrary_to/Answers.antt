use Rattle.std.proofs.Common.{arith}
use Rattle.words.proofs.Masks.{contrary_sound, contrary_whole}
use Rattle.words.proofs.literals.Literals.contrary_to.Goals as goal

pub returns : goal.returns
returns c f = (
  contrary_sound c.args.self c.args.word (omega arith) (omega arith) (omega arith) f,
  contrary_whole c.args.self c.args.word (omega arith) (omega arith) (omega arith) f,
)
