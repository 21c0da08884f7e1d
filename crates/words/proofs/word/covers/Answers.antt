use Rattle.std.proofs.Common.{arith, eq-eqb, eqb-true}
use Rattle.words.proofs.Bit.{covers_from, covers_to}
use Rattle.words.proofs.word.covers.Goals as goal

pub returns : goal.returns
returns c = (
  λ e. covers_from c.args.word c.args.mask (eqb-true _ _ e),
  λ h. eq-eqb _ _ (covers_to c.args.word c.args.mask (omega arith) h),
)
