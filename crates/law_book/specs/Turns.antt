-- The fluents that a step can turn.
use Rattle.std.specs.Prelude.{ℕ, Bool, List}
use Rattle.words.specs.Words.{Value, Turned}
use Rattle.law_book.specs.declared.law.Law.{Law}
use Rattle.law_book.specs.Laws.{Caused, IsStep}

-- a can turn f in s: the literal of f that is false in s follows from the direct effects of a and the literals of s
pub record CanTurn (fluents : ℕ) (laws : List Law) (s a f : ℕ) : Type 0 where
  pub sign : Bool
  pub follows : Caused fluents laws s a s f sign
  pub fails : Value s f sign → ⊥

-- no step of a from s turns a fluent outside the mask
abbrev pub Covers : ℕ → ℕ → List Law → ℕ → ℕ → ℕ → Type 0
Covers fluents actions laws s a mask = (t : ℕ) → IsStep fluents actions laws s a t → Turned s mask t
