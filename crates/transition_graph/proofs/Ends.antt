-- The smallest of the words to which links lead.
use Rattle.std.proofs.Common.{◌≡◌, ℕ, zero, suc, ◌<◌, ◌≤◌, min, Bool, true, false, ◌&&◌, ◌==◌, nat_le, cond, ◌⊎◌, List, [], ◌∷◌, map, length, get_or, filter, fold, All, Contains, ap, subst, inl, inr, ⊎_elim, refl, arith}
use Rattle.std.specs.List.{reduce}
use Rattle.std.proofs.lemmas.Bool.{cases_lt}
use Rattle.std.proofs.lemmas.Bool.Decides.{nat_tests}
use Rattle.std.proofs.lemmas.List.Elements.{All-map, All-filter, All-contains, All-contains_itself, Contains-append_right, filter_passes}
use Rattle.words.specs.Smallest.{SmallestFrom}
use Rattle.transition_graph.specs.declared.link.Link.{Link}
use Rattle.transition_graph.specs.Tables.{link_of}

-- whether the link leads from s by a to a word that is not below the least
abbrev pub is_leading : ℕ → ℕ → ℕ → Link → Bool
is_leading s a least link = link.from == s && (link.action == a && nat_le least link.to)

-- the words, not below the least, to which the links lead from s by a, in the order of the links
abbrev pub ends_of : ℕ → ℕ → ℕ → List Link → List ℕ
ends_of s a least links = map (λ link. link.to) (filter (is_leading s a least) links)

-- an element of a list is the first, or one of the rest
cons_cases : {X : Type 0} (x y : X) (xs : List X) → Contains (x ∷ xs) y → (x ≡ y) ⊎ Contains xs y
cons_cases x y xs h = at h.0 h.1 h.2
  where
    at : (k : ℕ) → k < length (x ∷ xs) → get_or (x ∷ xs) k y ≡ y → (x ≡ y) ⊎ Contains xs y
    at zero l e = inl e
    at (suc k) l e = inr (k, omega arith, e)

-- m is one of the numbers, and not above any of them
abbrev Smallest : ℕ → List ℕ → Type 0
Smallest m xs = Contains xs m × ((n : ℕ) → Contains xs n → m ≤ n)

-- the smallest, where the smaller of the first two stood for both
smallest_of_two : (m x y : ℕ) (ys : List ℕ) → Smallest m (min x y ∷ ys) → Smallest m (x ∷ y ∷ ys)
smallest_of_two m x y ys h = (⊎_elim here (Contains-append_right (x ∷ y ∷ []) ys m) (cons_cases (min x y) m ys h.0), below)
  where
    here : min x y ≡ m → Contains (x ∷ y ∷ ys) m
    here e = ⊎_elim (λ l. (0, omega arith, omega arith)) (λ l. (1, omega arith, omega arith)) (cases_lt x y)

    low : m ≤ min x y
    low = h.1 (min x y) (0, omega arith, refl)

    below : (n : ℕ) → Contains (x ∷ y ∷ ys) n → m ≤ n
    below n c = ⊎_elim (λ e. omega (arith, low))
        (λ d. ⊎_elim (λ e. omega (arith, low)) (λ k. h.1 n (Contains-append_right (min x y ∷ []) ys n k)) (cons_cases y n ys d)) (cons_cases x n (y ∷ ys) c)

-- what min makes of some numbers is the smallest of them
fold_min : (x : ℕ) (xs : List ℕ) → Smallest (fold min x xs) (x ∷ xs)
fold_min x [] = ((0, omega arith, refl), λ n c. ⊎_elim (λ e. omega arith) (λ d. absurd (omega (arith, d.1))) (cons_cases x n [] c))
fold_min x (y ∷ ys) = smallest_of_two (fold min (min x y) ys) x y ys (fold_min (min x y) ys)

module _ (s a least : ℕ) where
  -- t is a word, not below the least, to which a link leads
  abbrev End : List Link → ℕ → Type 0
  End links t = (least ≤ t) × Contains links (link_of s a t)

  -- each word that the code finds is an end
  ends_only : (links : List Link) → All (End links) (ends_of s a least links)
  ends_only links = All-map (End links) (λ link. link.to) (filter (is_leading s a least) links) (λ k d l.
      end_of _ (filter_passes (is_leading s a least) links k d l) (All-filter (is_leading s a least) (Contains links) links (All-contains_itself links) k d l))
    where
      end_of : (link : Link) → is_leading s a least link ≡ true → Contains links link → End links link.to
      end_of link p c =
          let h : (link.from ≡ s) × (link.action ≡ a) × (least ≤ link.to) = grind (arith, nat_tests) in
          let e : link ≡ link_of s a link.to = λ i. record { from = h.0 i; action = h.1 i; to = link.to } in
          (h.2, subst (Contains links) e c)

  -- and it finds each end
  ends_all : (links : List Link) (t : ℕ) → End links t → Contains (ends_of s a least links) t
  ends_all [] t h = absurd (omega (arith, h.1.1))
  ends_all (x ∷ xs) t h = at (is_leading s a least x) refl (⊎_elim inl (λ c. inr (ends_all xs t (h.0, c))) (cons_cases x (link_of s a t) xs h.1))
    where
      at : (b : Bool) → is_leading s a least x ≡ b → (x ≡ link_of s a t) ⊎ Contains (ends_of s a least xs) t
          → Contains (map (λ link. link.to) (cond b (x ∷ filter (is_leading s a least) xs) (filter (is_leading s a least) xs))) t
      at true p (inl e) = (0, omega arith, ap (λ link. link.to) e)
      at true p (inr c) = Contains-append_right (x.to ∷ []) (ends_of s a least xs) t c
      at false p (inl e) =
          let q : is_leading s a least (link_of s a t) ≡ false = subst (λ link. is_leading s a least link ≡ false) e p in
          absurd (grind (arith, nat_tests))
      at false p (inr c) = c

  -- the smallest of some numbers, where these are all the ends and no others
  smallest_end : (links : List Link) (ns : List ℕ) → All (End links) ns → ((t : ℕ) → End links t → Contains ns t)
      → SmallestFrom least (λ t. Contains links (link_of s a t)) (reduce min ns)
  smallest_end links [] only all = λ t l c. absurd (omega (arith, (all t (l, c)).1))
  smallest_end links (x ∷ xs) only all =
      let m = fold_min x xs in
      let h = All-contains (End links) (x ∷ xs) (fold min x xs) only m.0 in
      (h.0, h.1, λ u l b c. omega (arith, m.1 u (all u (l, c))))

  -- the smallest of the words that the code finds is the smallest end
  pub smallest_of : (links : List Link) → SmallestFrom least (λ t. Contains links (link_of s a t)) (reduce min (ends_of s a least links))
  smallest_of links = smallest_end links (ends_of s a least links) (ends_only links) (ends_all links)
