use Rattle.std.proofs.Common.{sym, ◌∙◌, arith}
use Rattle.std.proofs.lemmas.Bool.{true≢false}
use Rattle.words.proofs.Masks.{holds_from, holds_to}
use Rattle.words.proofs.literals.Literals.holds_in.Goals as goal

pub returns-then-covers : goal.returns-then-covers
returns-then-covers c = (
  λ e. holds_from c.args.self c.args.word (omega arith) (omega arith) (c.covers.ensures.0 c.if-covers.true) (c.covers-then-covers.ensures.0 e),
  λ h. c.covers-then-covers.ensures.1 (holds_to c.args.self c.args.word (omega arith) (omega arith) h).1,
)

pub returns-else-covers : goal.returns-else-covers
returns-else-covers c = (
  λ e. absurd (true≢false (sym e ∙ c.if-covers.false)),
  λ h. c.covers.ensures.1 (holds_to c.args.self c.args.word (omega arith) (omega arith) h).0,
)
