-- The words that a jump passes over differ from s in a fluent outside the mask.
use Rattle.std.proofs.Common.{◌≡◌, ℕ, suc, ◌+◌, ◌-◌, ◌*◌, ◌/◌, ◌%◌, ◌^◌, ◌<◌, ◌≤◌, sym, ap, ◌∙◌, subst, ⊎_elim, add-mul, pow-suc, arith, pow_pos}
use lib.Bits.{bit_and, bit_xor, and_le_r}
use lib.Count.{count_leading_zeros, leading_top}
use lib.Pow.{shr_mono, shr_le, split}
use Rattle.std.proofs.lemmas.Nat.{div_below, le-div, mod_below, shl_whole}
use Rattle.std.proofs.lemmas.Bool.{cases_eq, cases_lt}
use Rattle.words.specs.Words.{bit, Turned}
use Rattle.words.proofs.Bit.{bit-and, bit-xor, bit_not, bit_past, bit_of_zero}
use Rattle.words.proofs.Smallest.{NoneBetween}

-- the fluents outside the mask in which t differs from s, as the code makes their mask
abbrev pub stray_of : ℕ → ℕ → ℕ → ℕ
stray_of t s mask = bit_and (bit_xor t s) (4294967295 - mask)

-- the highest one of a mask, as the code finds it
abbrev pub highest : ℕ → ℕ
highest w = 31 - count_leading_zeros 32 w

-- where the code goes on after t
abbrev pub jump_of : ℕ → ℕ → ℕ
jump_of t stray = (t / 2 ^ highest stray + 1) * 2 ^ highest stray % 2 ^ 64

-- a word that does not stray is turned
pub no_stray : (s mask t : ℕ) → s < 2 ^ 32 → mask < 2 ^ 32 → t < 2 ^ 32 → stray_of t s mask ≡ 0 → Turned s mask t
no_stray s mask t p q l e = record { word = l; turns = λ f n. ⊎_elim (inside f n) (outside f n) (cases_lt f 32) }
  where
    inside : (f : ℕ) → (bit t f ≡ bit s f → ⊥) → f < 32 → bit mask f ≡ 1
    inside f n b =
        let x = bit-xor t s f in
        let a = bit-and (bit_xor t s) (4294967295 - mask) f in
        let z : bit (stray_of t s mask) f ≡ 0 = ap (λ w. bit w f) e ∙ bit_of_zero f in
        let m = bit_not mask f q b in
        ⊎_elim (λ d. absurd (n d)) (λ d. omega arith) (cases_eq (bit t f) (bit s f))

    outside : (f : ℕ) → (bit t f ≡ bit s f → ⊥) → 32 ≤ f → bit mask f ≡ 1
    outside f n h = absurd (n (bit_past 32 t f l h ∙ sym (bit_past 32 s f p h)))

top_bit : (w : ℕ) → (w ≡ 0 → ⊥) → w < 2 ^ 32 → (highest w < 32) × (bit w (highest w) ≡ 1)
top_bit w n l =
    let h = leading_top 32 w (omega arith) l in
    let e : highest w ≡ h.0 = omega (arith, h.1) in
    (omega arith, subst (λ j. bit w j ≡ 1) (sym e) (one h.0 h.2 h.3))
  where
    one : (j : ℕ) → 2 ^ j ≤ w → w < 2 ^ suc j → bit w j ≡ 1
    one j p q =
        let low : 1 ≤ w / 2 ^ j = le-div 1 w (2 ^ j) (pow_pos j) (omega arith) in
        let high : w / 2 ^ j < 2 = div_below w (2 ^ j) 2 (pow_pos j) (omega (arith, pow-suc 2 j)) in
        omega arith

-- the words from t up to the next multiple of 2 ^ p have the same bits from p on
same_high : (t p u : ℕ) → t ≤ u → u < (t / 2 ^ p + 1) * 2 ^ p → bit u p ≡ bit t p
same_high t p u l h =
    let low : t / 2 ^ p ≤ u / 2 ^ p = shr_mono p l in
    let high : u / 2 ^ p < t / 2 ^ p + 1 = div_below u (2 ^ p) (t / 2 ^ p + 1) (pow_pos p) h in
    let e : u / 2 ^ p ≡ t / 2 ^ p = omega arith in
    ap (λ q. q % 2) e

module _ (s mask t : ℕ) (m-low : mask < 2 ^ 32) (t-low : t < 2 ^ 32) (strays : stray_of t s mask ≡ 0 → ⊥) where
  place : (highest (stray_of t s mask) < 32) × (bit (stray_of t s mask) (highest (stray_of t s mask)) ≡ 1)
  place = top_bit (stray_of t s mask) strays (omega (arith, and_le_r (bit_xor t s) (4294967295 - mask)))

  -- the jump at 64 bits is the jump
  whole : jump_of t (stray_of t s mask) ≡ (t / 2 ^ highest (stray_of t s mask) + 1) * 2 ^ highest (stray_of t s mask)
  whole =
      let p = highest (stray_of t s mask) in
      shl_whole (t / 2 ^ p + 1) 33 p 64 (omega (arith, shr_le t p)) (omega (arith, place.0))

  -- it goes up
  pub jump_up : t < jump_of t (stray_of t s mask)
  jump_up =
      let p = highest (stray_of t s mask) in
      subst (λ x. t < x) (sym whole) (omega (arith, split t p, mod_below t (2 ^ p) (pow_pos p), add-mul (t / 2 ^ p) 1 (2 ^ p)))

  -- and passes over no turned word
  pub jump_past : NoneBetween t (jump_of t (stray_of t s mask)) (Turned s mask)
  jump_past u low high turned =
      let p = highest (stray_of t s mask) in
      let n = bit_not mask p m-low place.0 in
      let x = bit-xor t s p in
      let b = bit-and (bit_xor t s) (4294967295 - mask) p in
      let one = place.1 in
      let outside : bit mask p ≡ 0 = omega arith in
      let same = same_high t p u low (subst (λ y. u < y) whole high) in
      omega (arith, turned.turns p (λ e. omega arith))
