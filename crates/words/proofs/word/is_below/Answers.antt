use Rattle.std.proofs.Common.{◌^◌, ◌≤◌, arith, pow_mono, eq-eqb, eqb-true, le-leb}
use native.Mathlib.Nat.{div-eq_of_lt}
use Rattle.words.proofs.Bit.{below_from_shift}
use Rattle.words.proofs.word.is_below.Goals as goal

pub returns-then-fluents-ge32 : goal.returns-then-fluents-ge32
returns-then-fluents-ge32 c = (
  λ _. let m : 2 ^ 32 ≤ 2 ^ c.args.fluents = pow_mono c.if-fluents-ge32.true in omega arith,
  λ _. le-leb _ _ c.if-fluents-ge32.true,
)

pub returns-else-fluents-ge32 : goal.returns-else-fluents-ge32
returns-else-fluents-ge32 c = (
  λ e. below_from_shift c.args.word c.args.fluents (eqb-true _ _ e),
  λ h. eq-eqb _ _ (div-eq_of_lt h),
)
