use Rattle.std.proofs.Common.{sym, arith}
use Rattle.words.proofs.Bit.{bit_past}
use Rattle.words.proofs.word.bit_at.Goals as goal

pub returns-else-fluent-lt32 : goal.returns-else-fluent-lt32
returns-else-fluent-lt32 c = sym (bit_past 32 c.args.word c.args.fluent (omega arith) c.if-fluent-lt32.false)
