-- What the loops over a table of laws keep, and their steps.
use Rattle.std.proofs.Common.{◌≡◌, ℕ, ◌+◌, ◌<◌, Bool, false, ◌⊎◌, ◌↔◌, List, length, get_or, sym, refl, ◌∙◌, subst, inl, inr, ⊎_elim, arith}
use Rattle.std.specs.List.{AllWithin, Contains}
use Rattle.std.proofs.lemmas.List.{get_or_default}
use Rattle.std.proofs.lemmas.List.Elements.{AllWithin-more, Contains-get_or}
use Rattle.words.specs.declared.literals.Literals.{Literals}
use Rattle.words.specs.Words.{Member, Within, Joined}
use Rattle.law_book.specs.declared.law.Law.{Law}
use Rattle.law_book.specs.declared.law.Kind.TheVariants.{Static}
use Rattle.law_book.specs.Laws.{TakesEffect, Fires, Effect, Least, base, follows}

-- the default that the code's reads have
abbrev pub no_law : Law
no_law = record { kind = Static; action = 0; head = record { fluent = 0; sign = false }; body = record { truths = 0; falses = 0 } }

-- the set has what the law directly effects
abbrev pub Effected : ℕ → ℕ → Literals → Law → Type 0
Effected s a m law = TakesEffect s a law → Member m law.head.fluent law.head.sign

-- what the gathering of direct effects keeps
pub record Gathered (laws : List Law) (s a : ℕ) (set grown : Literals) (i : ℕ) : Type 0 where
  pub keeps : Within set grown
  pub has : AllWithin (Effected s a grown) laws 0 i
  pub only : (f : ℕ) (v : Bool) → Member grown f v → Effect laws s a f v ⊎ Member set f v

-- the set is closed under the law
abbrev pub Keeps : Literals → Law → Type 0
Keeps m law = Fires m law → Member m law.head.fluent law.head.sign

-- what one pass of the static laws keeps
pub record Passed (laws : List Law) (set grown : Literals) (i : ℕ) : Type 0 where
  pub keeps : Within set grown
  pub sound : (f : ℕ) (v : Bool) → Member grown f v → Least laws (Member set) f v
  pub closed : Within grown set → AllWithin (Keeps set) laws 0 i

pub pass_none : (laws : List Law) (set : Literals) → Passed laws set set 0
pass_none laws set = record { keeps = λ f v m. m; sound = λ f v m. base m; closed = λ _ k d p q. absurd (omega arith) }

-- the law is read at place i, and its head is a fluent of a word
pub record Read (laws : List Law) (i : ℕ) (law : Law) : Type 0 where
  pub within : i < length laws
  pub is : law ≡ get_or laws i no_law
  pub bounded : law.head.fluent < 32

-- what is read stands in the table
pub stands_at : (laws : List Law) (i : ℕ) (law : Law) → i < length laws → law ≡ get_or laws i no_law → Contains laws law
stands_at laws i law l is = subst (Contains laws) (sym is) (Contains-get_or laws i no_law l)

module _ (laws : List Law) (i : ℕ) (law : Law) (r : Read laws i law) where
  more : (P : Law → Type 0) → AllWithin P laws 0 i → P law → AllWithin P laws 0 (i + 1)
  more P h p = AllWithin-more P laws 0 i h (λ d. subst P (r.is ∙ get_or_default laws i no_law d r.within) p)

  pub gather_same : (s a : ℕ) (set grown : Literals) → Gathered laws s a set grown i → (TakesEffect s a law → ⊥) → Gathered laws s a set grown (i + 1)
  gather_same s a set grown inv n = record { keeps = inv.keeps; has = more (Effected s a grown) inv.has (λ x. absurd (n x)); only = inv.only }

  pub pass_same : (set grown : Literals) → Passed laws set grown i → (Fires grown law → ⊥) → Passed laws set grown (i + 1)
  pass_same set grown inv n = record {
    keeps = inv.keeps;
    sound = inv.sound;
    closed = λ h. more (Keeps set) (inv.closed h) (λ x. absurd (n (record { kind = x.kind; body = λ g w m. inv.keeps g w (x.body g w m) })));
  }

  -- the set grows by its head
  module _ (set grown new : Literals) (joins : (f : ℕ) (v : Bool) → Member new f v ↔ Joined grown law.head f v) where
    kept : Within grown new
    kept f v m = (joins f v).1 (inl m)

    has_head : Member new law.head.fluent law.head.sign
    has_head = (joins _ _).1 (inr (r.bounded, refl, refl))

    pub gather_more : (s a : ℕ) → Gathered laws s a set grown i → TakesEffect s a law → Gathered laws s a set new (i + 1)
    gather_more s a inv takes = record {
      keeps = λ f v m. kept f v (inv.keeps f v m);
      has = more (Effected s a new) (λ j d p q x. kept _ _ (inv.has j d p q x)) (λ _. has_head);
      only = λ f v m. ⊎_elim (inv.only f v)
          (λ x. inl (record { law = law; stands = stands_at laws i law r.within r.is; takes = takes; head = record { fluent = x.1; sign = x.2 } })) ((joins f v).0 m);
    }

    pub pass_more : Passed laws set grown i → Fires grown law → Passed laws set new (i + 1)
    pass_more inv fires = record {
      keeps = λ f v m. kept f v (inv.keeps f v m);
      sound = λ f v m. ⊎_elim (inv.sound f v)
          (λ x. follows law (stands_at laws i law r.within r.is) fires.kind (λ g w n. inv.sound g w (fires.body g w n)) (record { fluent = x.1; sign = x.2 })) ((joins f v).0 m);
      closed = λ h. more (Keeps set) (inv.closed (λ f v m. h f v (kept f v m))) (λ _. h _ _ has_head);
    }
