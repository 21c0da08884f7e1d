-- The least set of literals that contains a base and is closed under the static laws.
use Rattle.std.proofs.Common.{◌≡◌, ℕ, ◌+◌, ◌-◌, ◌^◌, ◌<◌, ◌≤◌, Bool, ◌⊎◌, ◌↔◌, List, sym, refl, subst, inl, inr, ⊎_elim, arith}
use Rattle.std.proofs.lemmas.Bool.{cases_eq}
use Rattle.words.specs.declared.literals.Literals.{Literals}
use Rattle.words.specs.Words.{Member, Within, Common}
use Rattle.words.proofs.Bit.{covers_le}
use Rattle.words.proofs.Masks.{within_to}
use Rattle.law_book.specs.declared.law.Law.{Law}
use Rattle.law_book.specs.Laws.{Effect, Least, base, follows, Closed, Given, Caused}

module _ (laws : List Law) where
  -- it is closed
  pub least_closed : (Base : ℕ → Bool → Type 0) → Closed laws (Least laws Base)
  least_closed Base law at k h = follows law at k h (record { fluent = refl; sign = refl })

  -- it lies in every closed set that contains the base
  pub least_smallest : (Base P : ℕ → Bool → Type 0) → ((f : ℕ) (v : Bool) → Base f v → P f v) → Closed laws P
      → {f : ℕ} {v : Bool} → Least laws Base f v → P f v
  least_smallest Base P b c {f} {v} (base x) = b f v x
  least_smallest Base P b c {f} {v} (follows law at k h e) =
      subst (P f) e.sign (subst (λ g. P g law.head.sign) e.fluent (c law at k (λ g w m. least_smallest Base P b c (h g w m))))

  -- a larger base gives a larger set, and the base may be taken from the set itself
  pub least_join : (Base Other : ℕ → Bool → Type 0) → ((f : ℕ) (v : Bool) → Base f v → Least laws Other f v)
      → (f : ℕ) (v : Bool) → Least laws Base f v → Least laws Other f v
  least_join Base Other b f v x = least_smallest Base (Least laws Other) b (least_closed Other) x

-- how many steps a growing set may still take
abbrev pub room : Literals → ℕ
room m = (2 ^ 32 - m.truths) + (2 ^ 32 - m.falses)

within_le : (m n : Literals) → m.truths < 2 ^ 32 → m.falses < 2 ^ 32 → Within m n → (m.truths ≤ n.truths) × (m.falses ≤ n.falses)
within_le m n a b h = let k = within_to m n h in (covers_le n.truths m.truths a k.0, covers_le n.falses m.falses b k.1)

pub room_falls : (m n : Literals) → m.truths < 2 ^ 32 → m.falses < 2 ^ 32 → n.truths < 2 ^ 32 → n.falses < 2 ^ 32
    → Within m n → (Within n m → ⊥) → room n < room m
room_falls m n a b p q h o = go (cases_eq m.truths n.truths) (cases_eq m.falses n.falses)
  where
    l : (m.truths ≤ n.truths) × (m.falses ≤ n.falses)
    l = within_le m n a b h

    go : (m.truths ≡ n.truths) ⊎ (m.truths ≡ n.truths → ⊥) → (m.falses ≡ n.falses) ⊎ (m.falses ≡ n.falses → ⊥) → room n < room m
    go (inl e) (inl g) =
        let same : m ≡ n = λ i. record { truths = e i; falses = g i } in
        absurd (o (subst (λ x. Within n x) (sym same) (λ f v k. k)))
    go (inl e) (inr g) = omega (arith, l)
    go (inr e) z = omega (arith, l)

-- the caused literals are the closure of the given ones, as the code makes both
pub caused_from : (fluents : ℕ) (laws : List Law) (s a t : ℕ) (common given closed : Literals) → fluents ≤ 32
    → ((f : ℕ) (v : Bool) → Member common f v ↔ (f < 32) × Common fluents s t f v)
    → ((f : ℕ) (v : Bool) → Member given f v ↔ Effect laws s a f v ⊎ Member common f v)
    → ((f : ℕ) (v : Bool) → Member closed f v ↔ Least laws (Member given) f v)
    → (f : ℕ) (v : Bool) → Member closed f v ↔ Caused fluents laws s a t f v
caused_from fluents laws s a t common given closed high commons givens closes f v = (
  λ m. least_join laws (Member given) (Given fluents laws s a t) from_given f v ((closes f v).0 m),
  λ x. (closes f v).1 (least_join laws (Given fluents laws s a t) (Member given) to_given f v x),
)
  where
    from_given : (g : ℕ) (w : Bool) → Member given g w → Caused fluents laws s a t g w
    from_given g w m = base (⊎_elim inl (λ k. inr ((commons g w).0 k).1) ((givens g w).0 m))

    to_given : (g : ℕ) (w : Bool) → Given fluents laws s a t g w → Least laws (Member given) g w
    to_given g w (inl e) = base ((givens g w).1 (inl e))
    to_given g w (inr k) = base ((givens g w).1 (inr ((commons g w).1 (omega (arith, k.fluent), k))))
