-- Refusals by reason, part and place.
use Rattle.std.specs.Prelude.{ℕ}
use Rattle.refusal.specs.declared.part.Part.{Part}
use Rattle.refusal.specs.declared.part.Part.TheVariants.{NoPart}
use Rattle.refusal.specs.declared.reason.Reason.{Reason}
use Rattle.refusal.specs.declared.refusal.Refusal.{Refusal}

-- the refusal that names a part and a place in it
abbrev pub at : Reason → Part → ℕ → Refusal
at reason part place = record { reason = reason; part = part; place = place }

-- the refusal that speaks of no part: part and place are 0
abbrev pub plain : Reason → Refusal
plain reason = at reason NoPart 0
