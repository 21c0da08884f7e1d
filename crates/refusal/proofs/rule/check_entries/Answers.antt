use Rattle.refusal.proofs.Entries.{none_bad}
use Rattle.refusal.proofs.rule.check_entries.Goals as goal

pub returns-in-None : goal.returns-in-None
returns-in-None g c = (
  (λ e p. none_bad _ _ p.0 c.in-None.ensures.none p.2, tt),
  c.in-None.ensures.none,
)
