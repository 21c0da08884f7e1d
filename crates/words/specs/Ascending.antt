-- Words taken upwards from a query, one after another. A query is known by its answers: which it may give from which word on.
use Rattle.std.specs.Prelude.{◌≡◌, ℕ, ◌+◌, ◌-◌, ◌^◌, ◌<◌, ◌≤◌, max, Some, None, Option, MatchOption}
use Rattle.words.specs.declared.ascending.Ascending.{Ascending}

-- how many words there are from a word on
abbrev pub words_from : Option ℕ → ℕ
words_from None = 0
words_from (Some n) = 2 ^ 32 - n

-- the word above t: none, where t is the last
abbrev pub Above : ℕ → Option ℕ → Type 0
Above t None = 2 ^ 32 ≤ t + 1
Above t (Some n) = (n ≡ t + 1) × (n < 2 ^ 32)

-- from a word on, the query's answer comes, and the next is asked from the word above it, or above the word asked from where
-- the answer is below that; with no word to ask from, none comes
abbrev pub Ascent : (ℕ → Option ℕ → Type 0) → Option ℕ → Option ℕ → Option ℕ → Type 0
Ascent answers None r next = (r ≡ None) × (next ≡ None)
Ascent answers (Some n) r next = answers n r × MatchOption r (next ≡ Some n) (λ t. Above (max n t) next)

-- a call of `next` at s gives r and leaves t: the query stays, and its answer comes
pub record Ascends {F : Type 0} (answers : F → ℕ → Option ℕ → Type 0) (s : Ascending F) (r : Option ℕ) (t : Ascending F) : Type 0 where
  pub query : t.query ≡ s.query
  pub ascent : Ascent (answers s.query) s.from r t.from
