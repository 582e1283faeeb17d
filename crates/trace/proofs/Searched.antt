-- The search through the pairs: it ends with the first opposed pair, whose number tells it, and goes through all where there is none.
-- Assumes nothing.
use Prim.Native.Nat.{ℕ, zero, suc, ◌+◌, ◌<◌, ◌≤◌}
use native.Mathlib.Nat.{le_of_suc-le-suc, not-suc-le-zero, eq-or-lt_of_le, add-zero, add-suc}
use native.Mathlib.Omega.{arith}
use mathlib.Core.Path.{◌≡◌, refl, sym, ◌∙◌, ap}
use mathlib.Core.Logic.{◌⊎◌, inl, inr}
use mathlib.Core.Bool.{Bool, true, false}
use Rattle.trace.specs.Search.{going, ended, compare, search_row, search}
use Rattle.trace.proofs.Bools.{which}
use Rattle.trace.proofs.Triangle.{triangle}

-- ---- the first number below n that passes a test

pub record FirstBelow (g : ℕ → Bool) (n : ℕ) : Type 0 where
  pub at : ℕ
  pub below : at < n
  pub passes : g at ≡ true
  pub none_before : (k : ℕ) → k < at → g k ≡ false

-- none below n, and then not n either
pub none_more : (g : ℕ → Bool) (n : ℕ) → ((k : ℕ) → k < n → g k ≡ false) → g n ≡ false → (k : ℕ) → k < suc n → g k ≡ false
none_more g n none here k h = go (eq-or-lt_of_le (le_of_suc-le-suc h))
  where
    go : (k ≡ n) ⊎ (k < n) → g k ≡ false
    go (inl e) = rw e here
    go (inr l) = none k l

pub first_below : (g : ℕ → Bool) (n : ℕ) → FirstBelow g n ⊎ ((k : ℕ) → k < n → g k ≡ false)
first_below g zero = inr (λ k h. absurd (not-suc-le-zero h))
first_below g (suc n) = go (first_below g n) (which (g n))
  where
    go : FirstBelow g n ⊎ ((k : ℕ) → k < n → g k ≡ false) → (g n ≡ true) ⊎ (g n ≡ false) → FirstBelow g (suc n) ⊎ ((k : ℕ) → k < suc n → g k ≡ false)
    go (inl f) w = inl (record { at = f.at; below = omega (arith, f.below); passes = f.passes; none_before = f.none_before })
    go (inr none) (inl t) = inl (record { at = n; below = omega arith; passes = t; none_before = none })
    go (inr none) (inr f) = inr (none_more g n none f)

module _ (f : ℕ → ℕ → Bool) where
  -- ---- one row

  row-ended : (j i n : ℕ) → search_row f j i (ended n) ≡ ended n
  row-ended j zero n = refl
  row-ended j (suc i) n = rw (row-ended j i n)

  pub row-none : (j i n : ℕ) → ((k : ℕ) → k < i → f k j ≡ false) → search_row f j i (going n) ≡ going (n + i)
  row-none j zero n none = ap going (sym (add-zero n))
  row-none j (suc i) n none =
      let here : f i j ≡ false = none i (omega arith) in
      ap (compare (f i j)) (row-none j i n (λ k h. none k (omega arith))) ∙ rw here (ap going (sym (add-suc n i)))

  pub row-finds : (j r i n : ℕ) → i < r → f i j ≡ true → ((k : ℕ) → k < i → f k j ≡ false) → search_row f j r (going n) ≡ ended (n + i + 1)
  row-finds j zero i n h t none = absurd (not-suc-le-zero h)
  row-finds j (suc r) i n h t none = go (eq-or-lt_of_le (le_of_suc-le-suc h)) (row-finds j r i n)
    where
      go : (i ≡ r) ⊎ (i < r) → (i < r → f i j ≡ true → ((k : ℕ) → k < i → f k j ≡ false) → search_row f j r (going n) ≡ ended (n + i + 1))
          → search_row f j (suc r) (going n) ≡ ended (n + i + 1)
      go (inl e) rest =
          let here : f r j ≡ true = rw e at t in
          let over : search_row f j r (going n) ≡ going (n + r) = row-none j r n (λ k l. none k (omega (arith, e))) in
          ap (compare (f r j)) over ∙ rw here (ap ended (omega (arith, e)))
      go (inr l) rest = ap (compare (f r j)) (rest l t none)

  -- ---- row after row

  -- what has ended stays as it is
  pub search-stays : (m j n : ℕ) → j ≤ m → search f j ≡ ended n → search f m ≡ ended n
  search-stays zero j n h e = let z : j ≡ 0 = omega arith in rw z at e
  search-stays (suc m) j n h e = go (eq-or-lt_of_le h) (search-stays m j n)
    where
      go : (j ≡ suc m) ⊎ (j < suc m) → (j ≤ m → search f j ≡ ended n → search f m ≡ ended n) → search f (suc m) ≡ ended n
      go (inl p) rest = rw p at e
      go (inr l) rest = ap (search_row f m m) (rest (le_of_suc-le-suc l) e) ∙ row-ended m m n

  -- no pair with its later entry before m is opposed
  abbrev pub NoneBefore : ℕ → Type 0
  NoneBefore m = (j : ℕ) → j < m → (i : ℕ) → i < j → f i j ≡ false

  pub search-none : (m : ℕ) → NoneBefore m → search f m ≡ going (triangle m)
  search-none zero none = refl
  search-none (suc m) none =
      ap (search_row f m m) (search-none m (λ j h. none j (omega arith))) ∙ row-none m m (triangle m) (none m (omega arith))

  -- the first opposed pair
  pub record Ends (m : ℕ) : Type 0 where
    pub later : ℕ
    pub later-below : later < m
    pub earlier : FirstBelow (λ i. f i later) later
    pub none_before : NoneBefore later

  pub search-ends : (m : ℕ) (e : Ends m) → search f m ≡ ended (triangle e.later + e.earlier.at + 1)
  search-ends m e =
      search-stays m (suc e.later) _ e.later-below
      (ap (search_row f e.later e.later) (search-none e.later e.none_before)
      ∙ row-finds e.later e.later e.earlier.at (triangle e.later) e.earlier.below e.earlier.passes e.earlier.none_before)

  pub search-cases : (m : ℕ) → Ends m ⊎ NoneBefore m
  search-cases zero = inr (λ j h. absurd (not-suc-le-zero h))
  search-cases (suc m) = go (search-cases m) (first_below (λ i. f i m) m)
    where
      go : Ends m ⊎ NoneBefore m → FirstBelow (λ i. f i m) m ⊎ ((i : ℕ) → i < m → f i m ≡ false) → Ends (suc m) ⊎ NoneBefore (suc m)
      go (inl e) row =
          inl (record { later = e.later; later-below = omega (arith, e.later-below); earlier = e.earlier; none_before = e.none_before })
      go (inr none) (inl r) = inl (record { later = m; later-below = omega arith; earlier = r; none_before = none })
      go (inr none) (inr row) = inr (λ j h. last j (eq-or-lt_of_le (le_of_suc-le-suc h)))
        where
          last : (j : ℕ) → (j ≡ m) ⊎ (j < m) → (i : ℕ) → i < j → f i j ≡ false
          last j (inl p) i l = rw p (row i (rw p at l))
          last j (inr l) i k = none j l i k

-- searches by tests that agree below m
pub search-alike : (f g : ℕ → ℕ → Bool) (m : ℕ) → ((j : ℕ) → j < m → (i : ℕ) → i < j → f i j ≡ g i j) → search f m ≡ search g m
search-alike f g zero alike = refl
search-alike f g (suc m) alike =
    ap (search_row f m m) (search-alike f g m (λ j h. alike j (omega arith))) ∙ rows m (alike m (omega arith))
  where
    rows : (i : ℕ) → ((k : ℕ) → k < i → f k m ≡ g k m) → search_row f m i (search g m) ≡ search_row g m i (search g m)
    rows zero same = refl
    rows (suc i) same =
        let here : f i m ≡ g i m = same i (omega arith) in
        let before : search_row f m i (search g m) ≡ search_row g m i (search g m) = rows i (λ k h. same k (omega arith)) in
        λ t. compare (here t) (before t)
