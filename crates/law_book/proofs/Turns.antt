-- Which fluents a step can turn.
use Rattle.std.proofs.Common.{◌≡◌, ℕ, ◌^◌, ◌<◌, ◌≤◌, Bool, true, false, ◌↔◌, List, sym, ◌∙◌, inl, inr, ⊎_elim, arith, pow_mono}
use Rattle.std.proofs.lemmas.Bool.{cases_lt}
use Rattle.words.specs.declared.literals.Literals.{Literals}
use Rattle.words.specs.Words.{bit, Value, Member, Contrary}
use Rattle.words.proofs.Bit.{bit_or_zero, bit_past}
use Rattle.law_book.specs.declared.law.Law.{Law}
use Rattle.law_book.specs.Laws.{base, Given, Caused}
use Rattle.law_book.specs.Turns.{CanTurn, Covers}
use Rattle.law_book.proofs.Closure.{least_join}

value_of : (w f : ℕ) → (v : Bool) × Value w f v
value_of w f = ⊎_elim (λ e. (false, e)) (λ e. (true, e)) (bit_or_zero w f)

module _ (fluents : ℕ) (laws : List Law) (s a t : ℕ) where
  given_at_start : (f : ℕ) (v : Bool) → Given fluents laws s a t f v → Given fluents laws s a s f v
  given_at_start f v (inl e) = inl e
  given_at_start f v (inr k) = inr (record { fluent = k.fluent; before = k.before; after = k.before })

  -- whatever a causes from s follows from its direct effects and the literals of s
  pub caused_at_start : (f : ℕ) (v : Bool) → Caused fluents laws s a t f v → Caused fluents laws s a s f v
  caused_at_start = least_join laws (Given fluents laws s a t) (Given fluents laws s a s) (λ f v g. base (given_at_start f v g))

-- the fluents that can turn, from the caused literals and their mask as the code makes them
module _ (fluents : ℕ) (laws : List Law) (s a : ℕ) (caused : Literals) (mask : ℕ)
    (causes : (f : ℕ) (v : Bool) → Member caused f v ↔ Caused fluents laws s a s f v)
    (contraries : (f : ℕ) → bit mask f ≡ 1 ↔ Contrary caused s f) where
  pub can_turn : (f : ℕ) → bit mask f ≡ 1 ↔ CanTurn fluents laws s a f
  can_turn f = (
    λ e. let k = (contraries f).0 e in record { sign = k.sign; follows = (causes f k.sign).0 k.stands; fails = k.fails },
    λ k. (contraries f).1 (record { sign = k.sign; stands = (causes f k.sign).1 k.follows; fails = k.fails }),
  )

  -- no step turns another
  pub covers : (actions : ℕ) → fluents ≤ 32 → Covers fluents actions laws s a mask
  covers actions high t step =
      let small : 2 ^ fluents ≤ 2 ^ 32 = pow_mono high in
      record { word = omega (arith, step.to.below); turns = λ f n. ⊎_elim (inside f n) (outside f n) (cases_lt f fluents) }
    where
      inside : (f : ℕ) → (bit t f ≡ bit s f → ⊥) → f < fluents → bit mask f ≡ 1
      inside f n l =
          let v = value_of t f in
          (can_turn f).1 (record {
            sign = v.0;
            follows = caused_at_start fluents laws s a t f v.0 (step.all_caused f v.0 l v.1);
            fails = λ e. n (v.1 ∙ sym e);
          })

      outside : (f : ℕ) → (bit t f ≡ bit s f → ⊥) → fluents ≤ f → bit mask f ≡ 1
      outside f n l = absurd (n (bit_past fluents t f step.to.below l ∙ sym (bit_past fluents s f step.from.below l)))
