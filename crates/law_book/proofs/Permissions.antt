-- What the place of an action's first executability law tells of where it may run.
use Rattle.std.proofs.Common.{◌≡◌, ℕ, ◌+◌, ◌-◌, ◌<◌, ◌≤◌, ◌↔◌, List, drop, get_or, sym, ◌∙◌, ap, subst, inl, ⊎_elim, arith, Any}
use Rattle.std.specs.List.{AllWithin}
use Rattle.std.proofs.lemmas.List.{get_or-drop, length-drop}
use Rattle.refusal.specs.Entries.{FirstBad}
use Rattle.law_book.specs.declared.law.Law.{Law}
use Rattle.law_book.specs.Laws.{Permission, Permits, MayRun}
use Rattle.law_book.proofs.Tables.{no_law}

module _ {X : Type 0} (P : X → Type 0) (xs : List X) (k : ℕ) where
  -- some element from k on has P, where some element has it and none before k does
  from_some : AllWithin (λ x. ¬ P x) xs 0 k → Any P xs → Any P (drop k xs)
  from_some none some =
      let j : ℕ = some.0 in
      let not_before : j < k → ⊥ = λ h. none j some.1 (omega arith) h (subst P (sym some.3) some.4) in
      let after : k ≤ j = omega (arith, not_before) in
      let back : k + (j - k) ≡ j = omega (arith, after) in
      (j - k, some.1, omega (arith, some.2, after, length-drop k xs), get_or-drop k xs (j - k) some.1 ∙ ap (λ i. get_or xs i some.1) back ∙ some.3, some.4)

  -- an element from k on is an element
  some_from : Any P (drop k xs) → Any P xs
  some_from some =
      (k + some.0, some.1, omega (arith, some.2, length-drop k xs), sym (get_or-drop k xs some.0 some.1) ∙ some.3, some.4)

-- an action whose first executability law is at place k may run in s exactly when a law from there on permits it
pub runs_from : (laws : List Law) (s a k : ℕ) → FirstBad (λ law. ¬ Permission a law) laws k → MayRun laws s a ↔ Any (Permits s a) (drop k laws)
runs_from laws s a k first = (
  λ runs. ⊎_elim (from_some (Permits s a) laws k (λ j d l h q. first.before j d l h q.permission))
      (λ silent. absurd (first.bad no_law (silent k no_law first.within))) runs,
  λ some. inl (some_from (Permits s a) laws k some),
)
