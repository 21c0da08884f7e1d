-- Runs of an iterator upwards over the numbers with a property P: its query answers the smallest of them.
use Rattle.std.proofs.Common.{◌≡◌, ℕ, ◌+◌, ◌^◌, ◌<◌, ◌≤◌, ◌↔◌, List, [], ◌∷◌, Some, None, Option, Bool, true, false, IfSome, sym, subst, ◌∙◌, arith}
use Rattle.std.specs.Fn.{CalledAt}
use Rattle.std.specs.Iterator.{YieldsThen, FindsItem}
use Rattle.std.specs.List.{FoldsTo}
use Rattle.std.proofs.Math.Nat.{max-eq_right}
use denote.Param.Members.{Mut}
use denote.Ref.{Bor}
use Rattle.words.specs.declared.ascending.Ascending.{Ascending}
use Rattle.words.specs.Ascending.{Above, Ascent, Ascends}
use Rattle.words.specs.Smallest.{SmallestFrom}
use Rattle.words.proofs.Smallest.{NoneBetween, none_join, none_more}

-- one call, where the answers are the smallest numbers
abbrev pub Climbs : (ℕ → Type 0) → Option ℕ → Option ℕ → Option ℕ → Type 0
Climbs P = Ascent (λ n o. SmallestFrom n P o)

module _ {F : Type 0} {answers : F → ℕ → Option ℕ → Type 0} (P : ℕ → Type 0) (q : F) (smallest : (n : ℕ) (o : Option ℕ) → answers q n o → SmallestFrom n P o) where
  pub climbs : (s : Ascending F) (r : Option ℕ) (t : Ascending F) → s.query ≡ q → Ascends answers s r t → Climbs P s.from r t.from
  climbs s r t e h = go s.from (subst (λ p. Ascent (answers p) s.from r t.from) e h.ascent)
    where
      go : (from : Option ℕ) → Ascent (answers q) from r t.from → Climbs P from r t.from
      go None i = i
      go (Some n) i = (smallest n r i.0, i.1)

-- of the numbers with the property P, those with the property Q too: they have the property R
module _ (P Q R : ℕ → Type 0) (parts : (t : ℕ) → R t ↔ (P t × Q t)) (word : (t : ℕ) → P t → t < 2 ^ 32) where
  -- the smallest from a number on, and none from no number
  Found : Option ℕ → Option ℕ → Type 0
  Found None r = r ≡ None
  Found (Some n) r = SmallestFrom n R r

  found_here : (from r next : Option ℕ) → Climbs P from r next → IfSome r Q → Found from r
  unfolding Found
  found_here None r next h y = h.0
  found_here (Some n) None next h y = λ t l x. h.0 t l ((parts t).0 x).0
  found_here (Some n) (Some t) next h y = (h.0.0, (parts t).1 (h.0.1, y), λ u l k x. h.0.2 u l k ((parts u).0 x).0)

  found_past : (n t : ℕ) (r : Option ℕ) → n ≤ t → NoneBetween n (t + 1) R → SmallestFrom (t + 1) R r → SmallestFrom n R r
  found_past n t None l b h = λ u k x. none_join R n (t + 1) b (u + 1) (λ v i j y. h v i y) u k (omega arith) x
  found_past n t (Some u) l b h = (omega (arith, h.0), h.1, none_join R n (t + 1) b u h.2)

  found_later : (from next r : Option ℕ) (x : ℕ) → Climbs P from (Some x) next → (Q x → ⊥) → Found next r → Found from r
  unfolding Found
  found_later None next r x h miss k = absurd (cc)
  found_later (Some n) next r x h miss k = go next (subst (λ t. Above t next) (max-eq_right h.0.0) h.1) k
    where
      passed : NoneBetween n (x + 1) R
      passed = none_more R n x (λ u l j y. h.0.2 u l j ((parts u).0 y).0) (λ y. miss ((parts x).0 y).1)

      go : (next : Option ℕ) → Above x next → Found next r → SmallestFrom n R r
      go None a k = subst (SmallestFrom n R) (sym k) (λ u l y. passed u l (omega (arith, word u ((parts u).0 y).0)) y)
      go (Some m) a k = found_past n x r h.0.0 passed (subst (λ i. SmallestFrom i R r) a.0 k)

  module _ {F G : Type 0} {answers : F → ℕ → Option ℕ → Type 0} {g : Mut G (Bor ℕ × Unit {0}) Bool} (q : F) (f : G)
      (smallest : (n : ℕ) (o : Option ℕ) → answers q n o → SmallestFrom n P o)
      (hits : (x : ℕ) (h : G) → CalledAt g f x true h → Q x) (misses : (x : ℕ) (h : G) → CalledAt g f x false h → (h ≡ f) × (Q x → ⊥)) where
    found_run : (xs : List ℕ) (s u : Ascending F) (r : Option ℕ) (k : G) → s.query ≡ q → YieldsThen (Ascends answers) s xs r u
        → FoldsTo (λ p x h. CalledAt g p x false h) f xs k → IfSome r (λ x. (h : G) × CalledAt g k x true h) → Found s.from r
    found_run [] s u r k e y z w = last r (subst (λ t. Ascends answers t r u) (sym y.1) y.2) w
      where
        last : (r : Option ℕ) → Ascends answers s r u → IfSome r (λ x. (h : G) × CalledAt g k x true h) → Found s.from r
        last None i v = found_here s.from None u.from (climbs P q smallest s None u e i) v
        last (Some x) i v = found_here s.from (Some x) u.from (climbs P q smallest s (Some x) u e i) (hits x v.0 (subst (λ j. CalledAt g j x true v.0) (sym z) v.1))
    found_run (x ∷ xs) s u r k e y z w =
        let m = misses x z.0 z.1 in
        found_later s.from y.1.0.from r x (climbs P q smallest s (Some x) y.1.0 e y.1.1) m.1
        (found_run xs y.1.0 u r k (y.1.1.query ∙ e) (y.0, y.1.2, y.2) (subst (λ j. FoldsTo (λ p x h. CalledAt g p x false h) j xs k) m.0 z.2) w)

  -- what `find` gives, where the closure says whether a number has the property Q
  pub smallest_from_find : {F G : Type 0} {answers : F → ℕ → Option ℕ → Type 0} {g : Mut G (Bor ℕ × Unit {0}) Bool} {q : F} {n : ℕ} (s u : Ascending F) (f : G) (r : Option ℕ)
      → FindsItem (Ascends answers) g s f r u → s.query ≡ q → s.from ≡ Some n → ((n : ℕ) (o : Option ℕ) → answers q n o → SmallestFrom n P o)
      → ((x : ℕ) (h : G) → CalledAt g f x true h → Q x) → ((x : ℕ) (h : G) → CalledAt g f x false h → (h ≡ f) × (Q x → ⊥)) → SmallestFrom n R r
  unfolding Found
  smallest_from_find {q} s u f r h e p smallest hits misses = subst (λ i. Found i r) p (found_run q f smallest hits misses h.0 s u r h.1 e h.2 h.3 h.4)
