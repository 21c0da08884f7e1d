-- Short forms for the tables.
use Rattle.std.specs.Prelude.{ℕ, true, false}
use Rattle.words.specs.declared.literal.Literal.{Literal}
use Rattle.words.specs.declared.literals.Literals.{Literals}

-- the literal that the fluent is true
abbrev pub on_of : ℕ → Literal
on_of f = record { fluent = f; sign = true }

-- the literal that the fluent is false
abbrev pub off_of : ℕ → Literal
off_of f = record { fluent = f; sign = false }

-- the body with these masks: the fluents that must be true, and those that must be false
abbrev pub body_of : ℕ → ℕ → Literals
body_of truths falses = record { truths = truths; falses = falses }
