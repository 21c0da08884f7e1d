-- Trajectories: one more step at the end, and the step at a place.
use Rattle.std.proofs.Common.{◌≡◌, ℕ, ◌+◌, ◌<◌, List, [], ◌∷◌, ◌++◌, length, get_or, take, drop, sym, ap, ◌∙◌, subst, add-one, arith, drop-cons}
use Rattle.std.proofs.lemmas.List.{length-take-le, take_more, take-append-drop}
use Rattle.theory.specs.declared.step.Step.{Step}
use Rattle.theory.specs.Meaning.{Meaning, Ranged}
use Rattle.theory.specs.Trajectories.{Trajectory, rests, steps}
use Rattle.theory.specs.Recorded.{FirstFaulty}

pub one_more : (m : Meaning) → Ranged m → {s t : ℕ} {xs : List Step} → Trajectory m s xs t → (x : Step) → m.Step t x.action x.to → Trajectory m s (xs ++ x ∷ []) x.to
one_more m r (rests h) x e = steps e (rests (r.step_to _ _ _ e))
one_more m r (steps f h) x e = steps f (one_more m r h x e)

-- the step that follows a front of a trajectory begins where the front ends
pub step_at : (m : Meaning) {s w t : ℕ} {before : List Step} (x : Step) (after : List Step) → Trajectory m s before w → Trajectory m s (before ++ x ∷ after) t → m.Step w x.action x.to
step_at m x after (rests h) (steps e _) = e
step_at m x after (steps _ h) (steps _ k) = step_at m x after h k

-- no step of a trajectory is faulty
pub none_faulty : (m : Meaning) (s t k : ℕ) (xs : List Step) → Trajectory m s xs t → FirstFaulty m s xs k → ⊥
none_faulty m s t k xs h f =
    f.no_step (step_at m f.faulty f.after f.lawful (subst (λ ys. Trajectory m s ys t) f.split h))

drop_more : (xs : List Step) (i : ℕ) (d : Step) → i < length xs → drop i xs ≡ get_or xs i d ∷ drop (i + 1) xs
drop_more xs i d l = rw (add-one, drop-cons xs i d)

module _ (m : Meaning) (r : Ranged m) (s w i : ℕ) (xs : List Step) (d : Step) (l : i < length xs) (h : Trajectory m s (take i xs) w) where
  pub run_more : m.Step w (get_or xs i d).action (get_or xs i d).to → Trajectory m s (take (i + 1) xs) (get_or xs i d).to
  run_more e = subst (λ ys. Trajectory m s ys (get_or xs i d).to) (sym (take_more xs i d l)) (one_more m r h (get_or xs i d) e)

  pub faulty_here : (m.Step w (get_or xs i d).action (get_or xs i d).to → ⊥) → FirstFaulty m s xs i
  faulty_here n = record {
    before = take i xs;
    word = w;
    faulty = get_or xs i d;
    after = drop (i + 1) xs;
    split = sym (take-append-drop i xs) ∙ ap (λ ys. take i xs ++ ys) (drop_more xs i d l);
    place = length-take-le i xs (omega arith);
    lawful = h;
    no_step = n;
  }
