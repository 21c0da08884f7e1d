use Rattle.std.proofs.lemmas.Nat.{one_shl}
use Rattle.words.proofs.Masks.{truth_joined, false_joined}
use Rattle.words.proofs.literals.Literals.with.Goals as goal

pub returns-then-literal : goal.returns-then-literal
returns-then-literal c =
    truth_joined c.args.self c.args.literal c.if-literal-ge32.false _ (one_shl c.args.literal.fluent 32 c.if-literal-ge32.false) c.if-literal.true

pub returns-else-literal : goal.returns-else-literal
returns-else-literal c =
    false_joined c.args.self c.args.literal c.if-literal-ge32.false _ (one_shl c.args.literal.fluent 32 c.if-literal-ge32.false) c.if-literal.false
