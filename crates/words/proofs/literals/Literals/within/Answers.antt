use Rattle.std.proofs.Common.{sym, ◌∙◌}
use Rattle.std.proofs.lemmas.Bool.{true≢false}
use Rattle.words.proofs.Masks.{within_from, within_to}
use Rattle.words.proofs.literals.Literals.within.Goals as goal

pub returns-then-covers : goal.returns-then-covers
returns-then-covers c = (
  λ e. within_from c.args.self c.args.other (c.covers.ensures.0 c.if-covers.true) (c.covers-then-covers.ensures.0 e),
  λ h. c.covers-then-covers.ensures.1 (within_to c.args.self c.args.other h).1,
)

pub returns-else-covers : goal.returns-else-covers
returns-else-covers c = (
  λ e. absurd (true≢false (sym e ∙ c.if-covers.false)),
  λ h. c.covers.ensures.1 (within_to c.args.self c.args.other h).0,
)
