-- The bits of a word under and, or and xor, and words with the same bits.
use Rattle.std.proofs.Common.{◌≡◌, ℕ, zero, suc, ◌+◌, ◌-◌, ◌*◌, ◌/◌, ◌%◌, ◌^◌, ◌<◌, ◌≤◌, min, max, ◌≢◌, ◌⊎◌, sym, ap, ◌∙◌, subst, inl, inr, mod-eq_of_lt, pow-suc, div-one, arith, pow_pos, pow_mono, pow-add, shr-shr}
use native.Mathlib.Nat.{div-eq_of_lt, zero-div}
use lib.Bits.{bit_and, bit_or, bit_xor, and_step, or_step, and_shr, or_shr, xor_shr, xor_add_and, and_le_l, and_le_r, and_comm, and_mask}
use lib.Pow.{split, pow-lt, shl-shr, high, ones_split, ones_lt}
use Rattle.std.proofs.lemmas.Nat.{mod_below}
use Rattle.std.proofs.lemmas.Bool.{cases_lt, cases_eq}
use Rattle.words.specs.Words.{bit, Covers}

pub bit_or_zero : (w f : ℕ) → (bit w f ≡ 0) ⊎ (bit w f ≡ 1)
bit_or_zero w f = go (cases_eq (bit w f) 0)
  where
    go : (bit w f ≡ 0) ⊎ (bit w f ≡ 0 → ⊥) → (bit w f ≡ 0) ⊎ (bit w f ≡ 1)
    go (inl e) = inl e
    go (inr n) = inr (omega arith)

pub bit-and : (a b f : ℕ) → bit (bit_and a b) f ≡ min (bit a f) (bit b f)
bit-and a b f = rw and_shr (omega (arith, and_step (a / 2 ^ f) (b / 2 ^ f)))

pub bit-or : (a b f : ℕ) → bit (bit_or a b) f ≡ max (bit a f) (bit b f)
bit-or a b f = rw or_shr (omega (arith, or_step (a / 2 ^ f) (b / 2 ^ f)))

pub bit_past : (n w f : ℕ) → w < 2 ^ n → n ≤ f → bit w f ≡ 0
bit_past n w f h l =
    let m : 2 ^ n ≤ 2 ^ f = pow_mono l in
    let k : w < 2 ^ f = omega arith in
    let e : w / 2 ^ f ≡ 0 = div-eq_of_lt k in
    omega arith

bit_half : (w f : ℕ) → bit (w / 2) f ≡ bit w (1 + f)
bit_half w f = ap (λ x. x % 2) (shr-shr w 1 f)

bit_zero : (w : ℕ) → bit w 0 ≡ w % 2
bit_zero w = ap (λ x. x % 2) (div-one w)

pub same_bits : (n a b : ℕ) → a < 2 ^ n → b < 2 ^ n → ((f : ℕ) → f < n → bit a f ≡ bit b f) → a ≡ b
same_bits zero a b p q h = omega arith
same_bits (suc n) a b p q h =
    let e : a / 2 ≡ b / 2 = same_bits n (a / 2) (b / 2) (omega (arith, pow-suc 2 n)) (omega (arith, pow-suc 2 n))
    (λ f l. bit_half a f ∙ h (1 + f) (omega arith) ∙ sym (bit_half b f)) in
    let z : a % 2 ≡ b % 2 = sym (bit_zero a) ∙ h 0 (omega arith) ∙ bit_zero b in
    omega arith

pub bit_of_zero : (f : ℕ) → bit 0 f ≡ 0
bit_of_zero f = ap (λ x. x % 2) (zero-div (2 ^ f))

pub bit_pow : (k : ℕ) → bit (2 ^ k) k ≡ 1
bit_pow k =
    let e : 1 * 2 ^ k / 2 ^ k ≡ 1 = shl-shr 1 k in
    let i : 1 * 2 ^ k ≡ 2 ^ k = omega arith in
    ap (λ x. x / 2 ^ k % 2) (sym i) ∙ ap (λ x. x % 2) e

pow_even : (j f : ℕ) → bit (2 ^ (suc j + f)) f ≡ 0
pow_even j f =
    let e : 2 ^ (suc j + f) / 2 ^ f ≡ 2 ^ suc j = ap (λ x. x / 2 ^ f) (pow-add 2 (suc j) f) ∙ shl-shr (2 ^ suc j) f in
    omega (arith, pow-suc 2 j)

pub bit_pow_other : (k f : ℕ) → f ≢ k → bit (2 ^ k) f ≡ 0
bit_pow_other k f n = go (cases_lt k f)
  where
    go : (k < f) ⊎ (f ≤ k) → bit (2 ^ k) f ≡ 0
    go (inl l) = bit_past (suc k) (2 ^ k) f (pow-lt (omega arith)) l
    go (inr l) =
        let e : suc (k - suc f) + f ≡ k = omega arith in
        subst (λ m. bit (2 ^ m) f ≡ 0) e (pow_even (k - suc f) f)

ones_odd : (j f : ℕ) → bit (2 ^ (suc j + f) - 1) f ≡ 1
ones_odd j f =
    let e : (2 ^ (suc j + f) - 1) / 2 ^ f ≡ 2 ^ suc j - 1 = ap (λ x. x / 2 ^ f) (ones_split (suc j) f) ∙ high (2 ^ suc j - 1) f (ones_lt f) in
    omega (arith, pow-suc 2 j, pow_pos j)

-- every bit below n of 2 ^ n - 1 is one
pub bit_ones : (n f : ℕ) → f < n → bit (2 ^ n - 1) f ≡ 1
bit_ones n f l =
    let e : suc (n - suc f) + f ≡ n = omega arith in
    subst (λ m. bit (2 ^ m - 1) f ≡ 1) e (ones_odd (n - suc f) f)

pub bit-xor : (a b f : ℕ) → bit (bit_xor a b) f ≡ (bit a f + bit b f) % 2
bit-xor a b f = rw xor_shr (omega (arith, xor_add_and (a / 2 ^ f) (b / 2 ^ f)))

pub bit_set_same : (w k : ℕ) → bit (bit_or w (2 ^ k)) k ≡ 1
bit_set_same w k = omega (arith, bit-or w (2 ^ k) k, bit_pow k)

pub bit_set_other : (w k f : ℕ) → f ≢ k → bit (bit_or w (2 ^ k)) f ≡ bit w f
bit_set_other w k f n = omega (arith, bit-or w (2 ^ k) f, bit_pow_other k f n)

-- the bits of the mask m are among those of w
pub covers_from : (w m : ℕ) → bit_and w m ≡ m → Covers w m
covers_from w m e f h = omega (arith, bit-and w m f, ap (λ x. bit x f) e)

pub covers_to : (w m : ℕ) → m < 2 ^ 32 → Covers w m → bit_and w m ≡ m
covers_to w m l h = same_bits 32 (bit_and w m) m (omega (arith, and_le_r w m)) l (λ f k. go f (bit_or_zero m f))
  where
    go : (f : ℕ) → (bit m f ≡ 0) ⊎ (bit m f ≡ 1) → bit (bit_and w m) f ≡ bit m f
    go f (inl z) = omega (arith, bit-and w m f)
    go f (inr e) = omega (arith, bit-and w m f, h f e)

-- what covers a mask is no smaller
pub covers_le : (w m : ℕ) → m < 2 ^ 32 → Covers w m → m ≤ w
covers_le w m l h = subst (λ x. x ≤ w) (covers_to w m l h) (and_le_l w m)

-- the bits of `!m`
pub bit_not : (m f : ℕ) → m < 2 ^ 32 → f < 32 → bit (4294967295 - m) f + bit m f ≡ 1
bit_not m f l b =
    let e : bit_and 4294967295 m ≡ m = and_comm 4294967295 m ∙ and_mask m 32 ∙ mod-eq_of_lt l in
    let x : bit_xor 4294967295 m ≡ 4294967295 - m = omega (arith, xor_add_and 4294967295 m) in
    omega (arith, ap (λ w. bit w f) x, bit-xor 4294967295 m f, bit_ones 32 f b)

-- a word that is gone when its first n bits are shifted out is below 2 ^ n
pub below_from_shift : (w n : ℕ) → w / 2 ^ n ≡ 0 → w < 2 ^ n
below_from_shift w n e = omega (arith, split w n, ap (λ q. q * 2 ^ n) e, mod_below w (2 ^ n) (pow_pos n))
