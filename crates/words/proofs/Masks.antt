-- Sets of literals as two masks.
use Rattle.std.proofs.Common.{◌≡◌, ℕ, ◌+◌, ◌-◌, ◌^◌, ◌<◌, min, max, Bool, true, false, ◌⊎◌, ◌↔◌, sym, ap, ◌∙◌, inl, inr, ⊎_elim, arith, pow_pos}
use lib.Bits.{bit_and, bit_or}
use Rattle.std.proofs.lemmas.Nat.{or_lt}
use Rattle.std.proofs.lemmas.Bool.{cases_lt, cases_eq, true≢false}
use Rattle.words.specs.declared.literal.Literal.{Literal}
use Rattle.words.specs.declared.literals.Literals.{Literals}
use Rattle.words.specs.Words.{bit, Covers, Value, Member, Holds, Within, Joined, Common, Contrary}
use Rattle.words.proofs.Bit.{bit_or_zero, bit-and, bit-or, bit_not, bit_ones, bit_past, bit_set_same, bit_set_other}

-- a set holds in a word whose ones cover its truths, and whose zeros cover its falses
module _ (m : Literals) (w : ℕ) (w-low : w < 2 ^ 32) (f-low : m.falses < 2 ^ 32) where
  flipped : (f : ℕ) → bit m.falses f ≡ 1 → bit (4294967295 - w) f + bit w f ≡ 1
  flipped f h = ⊎_elim (bit_not w f w-low) (λ l. absurd (omega (arith, bit_past 32 m.falses f f-low l))) (cases_lt f 32)

  pub holds_from : Covers w m.truths → Covers (4294967295 - w) m.falses → Holds m w
  holds_from p q f true h = p f h
  holds_from p q f false h = omega (arith, q f h, flipped f h)

  pub holds_to : Holds m w → Covers w m.truths × Covers (4294967295 - w) m.falses
  holds_to k = (λ f h. k f true h, λ f h. omega (arith, k f false h, flipped f h))

pub within_from : (m n : Literals) → Covers n.truths m.truths → Covers n.falses m.falses → Within m n
within_from m n p q f true h = p f h
within_from m n p q f false h = q f h

pub within_to : (m n : Literals) → Within m n → Covers n.truths m.truths × Covers n.falses m.falses
within_to m n k = (λ f h. k f true h, λ f h. k f false h)

-- the set of the literals common to two words, of the first n fluents, as the code makes it
module _ (n s t all : ℕ) (s-low : s < 2 ^ 32) (t-low : t < 2 ^ 32) (is : all ≡ 2 ^ min n 32 - 1) where
  abbrev pub common_of : Literals
  common_of = record { truths = bit_and all (bit_and s t); falses = bit_and all (4294967295 - bit_or s t) }

  inside : (f : ℕ) → f < n → f < 32 → bit all f ≡ 1
  inside f l b = ap (λ x. bit x f) is ∙ bit_ones (min n 32) f (omega arith)

  within_all : (f : ℕ) → bit all f ≡ 1 → (f < n) × (f < 32)
  within_all f e = ⊎_elim (λ l. (omega arith, omega arith))
      (λ l. absurd (omega (arith, ap (λ x. bit x f) is, bit_past (min n 32) (2 ^ min n 32 - 1) f (omega (arith, pow_pos (min n 32))) l)))
      (cases_lt f (min n 32))

  both_zero : (f : ℕ) → f < 32 → bit (4294967295 - bit_or s t) f + bit (bit_or s t) f ≡ 1
  both_zero f b = bit_not (bit_or s t) f (or_lt 32 s t s-low t-low) b

  pub common_sound : (f : ℕ) (v : Bool) → Member common_of f v → (f < 32) × Common n s t f v
  common_sound f true e =
      let a = bit-and all (bit_and s t) f in
      let b = bit-and s t f in
      let i = within_all f (omega arith) in
      (i.1, record { fluent = i.0; before = omega arith; after = omega arith })
  common_sound f false e =
      let a = bit-and all (4294967295 - bit_or s t) f in
      let o = bit-or s t f in
      let i = within_all f (omega arith) in
      let z = both_zero f i.1 in
      (i.1, record { fluent = i.0; before = omega arith; after = omega arith })

  pub common_whole : (f : ℕ) (v : Bool) → (f < 32) × Common n s t f v → Member common_of f v
  common_whole f true h = omega (arith, bit-and all (bit_and s t) f, bit-and s t f, inside f h.1.fluent h.0, h.1.before, h.1.after)
  common_whole f false h =
      omega (arith, bit-and all (4294967295 - bit_or s t) f, bit-or s t f, both_zero f h.0, inside f h.1.fluent h.0, h.1.before, h.1.after)

-- one more literal in a set, by the mask `one` of its fluent
module _ (m : Literals) (l : Literal) (low : l.fluent < 32) (one : ℕ) (is : one ≡ 2 ^ l.fluent) where
  abbrev pub with_truth : Literals
  with_truth = record { truths = bit_or m.truths one; falses = m.falses }

  abbrev pub with_false : Literals
  with_false = record { truths = m.truths; falses = bit_or m.falses one }

  only_at : (t f : ℕ) → bit (bit_or t one) f ≡ 1 → (bit t f ≡ 1) ⊎ (l.fluent ≡ f)
  only_at t f e = ⊎_elim (λ i. inr (sym i)) (λ o. inl (sym (bit_set_other t l.fluent f o) ∙ ap (λ x. bit (bit_or t x) f) (sym is) ∙ e)) (cases_eq f l.fluent)

  at_one : (t f : ℕ) → (bit t f ≡ 1) ⊎ (l.fluent ≡ f) → bit (bit_or t one) f ≡ 1
  at_one t f (inl e) = omega (arith, bit-or t one f)
  at_one t f (inr e) = ap (λ x. bit (bit_or t x) f) is ∙ ap (λ x. bit (bit_or t (2 ^ l.fluent)) x) (sym e) ∙ bit_set_same t l.fluent

  pub truth_joined : l.sign ≡ true → (f : ℕ) (v : Bool) → Member with_truth f v ↔ Joined m l f v
  truth_joined e f true =
      (λ h. ⊎_elim inl (λ k. inr (low, k, e)) (only_at m.truths f h), λ j. at_one m.truths f (⊎_elim inl (λ k. inr k.1) j))
  truth_joined e f false =
      (inl, ⊎_elim (λ h. h) (λ k. absurd (true≢false (sym e ∙ k.2))))

  pub false_joined : l.sign ≡ false → (f : ℕ) (v : Bool) → Member with_false f v ↔ Joined m l f v
  false_joined e f false =
      (λ h. ⊎_elim inl (λ k. inr (low, k, e)) (only_at m.falses f h), λ j. at_one m.falses f (⊎_elim inl (λ k. inr k.1) j))
  false_joined e f true = (inl, ⊎_elim (λ h. h) (λ k. absurd (true≢false (sym k.2 ∙ e))))

-- the fluents of the literals that are false in a word, as the code makes their mask
module _ (m : Literals) (w : ℕ) (w-low : w < 2 ^ 32) (t-low : m.truths < 2 ^ 32) (f-low : m.falses < 2 ^ 32) where
  abbrev pub contrary_of : ℕ
  contrary_of = bit_or (bit_and m.truths (4294967295 - w)) (bit_and m.falses w)

  bits : (f : ℕ) → bit contrary_of f ≡ max (min (bit m.truths f) (bit (4294967295 - w) f)) (min (bit m.falses f) (bit w f))
  bits f =
      let o = bit-or (bit_and m.truths (4294967295 - w)) (bit_and m.falses w) f in
      let a = bit-and m.truths (4294967295 - w) f in
      let b = bit-and m.falses w f in
      omega arith

  inverse : (f : ℕ) → bit contrary_of f ≡ 1 → bit (4294967295 - w) f + bit w f ≡ 1
  inverse f e =
      let x = bits f in
      ⊎_elim (bit_not w f w-low) (λ l. absurd (omega (arith, bit_past 32 m.truths f t-low l, bit_past 32 m.falses f f-low l))) (cases_lt f 32)

  pub contrary_sound : (f : ℕ) → bit contrary_of f ≡ 1 → Contrary m w f
  contrary_sound f e =
      let x = bits f in
      let i = inverse f e in
      ⊎_elim (λ z. record { sign = true; stands = omega arith; fails = λ h. omega arith })
      (λ o. record { sign = false; stands = omega arith; fails = λ h. omega arith }) (bit_or_zero w f)

  contrary_by : (f : ℕ) → f < 32 → (v : Bool) → Member m f v → (Value w f v → ⊥) → bit contrary_of f ≡ 1
  contrary_by f l true h n =
      let x = bits f in
      let i = bit_not w f w-low l in
      ⊎_elim (λ z. omega arith) (λ o. absurd (n o)) (bit_or_zero w f)
  contrary_by f l false h n =
      let x = bits f in
      ⊎_elim (λ z. absurd (n z)) (λ o. omega arith) (bit_or_zero w f)

  member_below : (f : ℕ) (v : Bool) → Member m f v → f < 32
  member_below f true h = ⊎_elim (λ l. l) (λ l. absurd (omega (arith, bit_past 32 m.truths f t-low l))) (cases_lt f 32)
  member_below f false h = ⊎_elim (λ l. l) (λ l. absurd (omega (arith, bit_past 32 m.falses f f-low l))) (cases_lt f 32)

  pub contrary_whole : (f : ℕ) → Contrary m w f → bit contrary_of f ≡ 1
  contrary_whole f h = contrary_by f (member_below f h.sign h.stands) h.sign h.stands h.fails
