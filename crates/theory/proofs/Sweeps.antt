-- A sweep upwards over all results.
use Rattle.std.proofs.Common.{◌≡◌, ℕ, ◌+◌, ◌^◌, ◌<◌, ◌≤◌, List, [], ◌∷◌, Some, None, Option, refl, sym, subst, ◌∙◌, arith, pow_mono}
use Rattle.std.specs.Iterator.{Yields, DrainsIf}
use Rattle.std.proofs.Math.Nat.{max-eq_right}
use Rattle.words.specs.declared.ascending.Ascending.{Ascending}
use Rattle.words.specs.Ascending.{Above, Ascends}
use Rattle.words.specs.Smallest.{SmallestFrom}
use Rattle.words.proofs.Upwards.{Climbs, climbs}
use Rattle.theory.specs.Meaning.{Meaning, Ranged}
use Rattle.theory.specs.Results.{Listed, none, first}

module _ (P : ℕ → Type 0) (word : (t : ℕ) → P t → t < 2 ^ 32) where
  -- all from a number on, and none from no number
  AllFrom : Option ℕ → List ℕ → Type 0
  AllFrom None xs = xs ≡ []
  AllFrom (Some n) xs = Listed P n xs

  all_none : (from next : Option ℕ) → Climbs P from None next → AllFrom from []
  unfolding AllFrom
  all_none None next h = refl
  all_none (Some n) next h = none h.0

  all_more : (from next : Option ℕ) (t : ℕ) (xs : List ℕ) → Climbs P from (Some t) next → AllFrom next xs → AllFrom from (t ∷ xs)
  unfolding AllFrom
  all_more None next t xs h k = absurd (cc)
  all_more (Some n) next t xs h k = first h.0 (go next (subst (λ u. Above u next) (max-eq_right h.0.0) h.1) k)
    where
      go : (next : Option ℕ) → Above t next → AllFrom next xs → Listed P (t + 1) xs
      go None a k = subst (Listed P (t + 1)) (sym k) (none (λ u l x. omega (arith, word u x)))
      go (Some m) a k = subst (λ i. Listed P i xs) a.0 k

  module _ {F : Type 0} {answers : F → ℕ → Option ℕ → Type 0} (q : F) (smallest : (n : ℕ) (o : Option ℕ) → answers q n o → SmallestFrom n P o) where
    all_run : (xs : List ℕ) (s t u : Ascending F) → s.query ≡ q → Yields (Ascends answers) s xs t → Ascends answers t None u → AllFrom s.from xs
    all_run [] s t u e y h = all_none s.from u.from (climbs P q smallest s None u e (subst (λ i. Ascends answers i None u) (sym y) h))
    all_run (x ∷ xs) s t u e y h =
        all_more s.from y.0.from x xs (climbs P q smallest s (Some x) y.0 e y.1) (all_run xs y.0 t u (y.1.query ∙ e) y.2 h)

  -- the items that come up to the end
  pub listed_from_drains : {F W : Type 0} {answers : F → ℕ → Option ℕ → Type 0} {q : F} {n : ℕ} (s : Ascending F) (xs : List ℕ)
      → DrainsIf (Ascends answers) W s xs → W → s.query ≡ q → s.from ≡ Some n → ((n : ℕ) (o : Option ℕ) → answers q n o → SmallestFrom n P o) → Listed P n xs
  unfolding AllFrom
  listed_from_drains {q} s xs h w e p smallest = let l = h.2 w in subst (λ i. AllFrom i xs) p (all_run q smallest xs s h.0 l.0 e h.1 l.1)

-- each step ends in a word
pub step_word : (m : Meaning) → Ranged m → (s a t : ℕ) → m.Step s a t → t < 2 ^ 32
step_word m r s a t h =
    let small : 2 ^ m.fluents ≤ 2 ^ 32 = pow_mono r.sizes.1 in
    omega (arith, r.state_below t (r.step_to s a t h))
