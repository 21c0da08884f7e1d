-- Words, and sets of literals as two masks. A literal is a fluent f with a sign v.
use Rattle.std.specs.Prelude.{◌≡◌, ℕ, ◌+◌, ◌/◌, ◌%◌, ◌^◌, ◌<◌, ◌≤◌, Bool, cond, ◌⊎◌, ◌≢◌, count_ones}
use Rattle.words.specs.declared.literal.Literal.{Literal}
use Rattle.words.specs.declared.literals.Literals.{Literals}

-- bit f of the word w: 1 where fluent f is true
abbrev pub bit : ℕ → ℕ → ℕ
bit w f = w / 2 ^ f % 2

-- the word w has each one of the mask m
abbrev pub Covers : ℕ → ℕ → Type 0
Covers w m = (f : ℕ) → bit m f ≡ 1 → bit w f ≡ 1

-- the literal of f with the sign v is true in the word w
abbrev pub Value : ℕ → ℕ → Bool → Type 0
Value w f v = bit w f ≡ cond v 1 0

-- the literal of f with the sign v stands in the set m
abbrev pub Member : Literals → ℕ → Bool → Type 0
Member m f v = bit (cond v m.truths m.falses) f ≡ 1

-- the set holds in the word w: each of its literals is true there
abbrev pub Holds : Literals → ℕ → Type 0
Holds m w = (f : ℕ) (v : Bool) → Member m f v → Value w f v

-- each literal of m stands in n
abbrev pub Within : Literals → Literals → Type 0
Within m n = (f : ℕ) (v : Bool) → Member m f v → Member n f v

-- the literal of f with the sign v stands in m, or is the given one, whose fluent has a bit in a word
abbrev pub Joined : Literals → Literal → ℕ → Bool → Type 0
Joined m l f v = Member m f v ⊎ ((l.fluent < 32) × (l.fluent ≡ f) × (l.sign ≡ v))

-- the literal of f, one of the first fluents, with the sign v is true in both words
pub record Common (fluents s t f : ℕ) (v : Bool) : Type 0 where
  pub fluent : f < fluents
  pub before : Value s f v
  pub after : Value t f v

-- the set has a literal of f that is false in the word w
pub record Contrary (m : Literals) (w f : ℕ) : Type 0 where
  pub sign : Bool
  pub stands : Member m f sign
  pub fails : Value w f sign → ⊥

-- t is a word that differs from s in no fluent but those of the mask
pub record Turned (s mask t : ℕ) : Type 0 where
  pub word : t < 2 ^ 32
  pub turns : (f : ℕ) → (bit t f ≢ bit s f) → bit mask f ≡ 1

-- the set can be a body over these fluents: its masks have no other fluent, and at most eight ones together
pub record Body (fluents : ℕ) (m : Literals) : Type 0 where
  pub truths : m.truths < 2 ^ fluents
  pub falses : m.falses < 2 ^ fluents
  pub few : count_ones m.truths + count_ones m.falses ≤ 8
