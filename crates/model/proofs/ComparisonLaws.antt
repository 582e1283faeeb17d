-- What the number of pairs compared tells: the verdict, by the search through the pairs, and the pair that ended it.
-- Assumes nothing.
use Prim.Native.Nat.{ℕ, ◌+◌, ◌-◌, ◌<◌, ◌≤◌}
use native.Mathlib.Omega.{arith}
use mathlib.Core.Path.{◌≡◌, refl, sym, ◌∙◌, ap}
use mathlib.Core.Logic.{◌⊎◌, inl, inr, ◌↔◌}
use mathlib.Core.Bool.{Bool, true, false, not, ◌&&◌, cond}
use mathlib.Core.List.{List}
use lib.ListN.{length}
use Rattle.table.specs.Outcome.{accepted}
use Rattle.table.specs.Read.{read_of}
use Rattle.trace.specs.Same.{same_steps, equivalent}
use Rattle.trace.specs.Search.{Search, compared_in, has_ended, opposed_in}
use Rattle.trace.proofs.Bools.{which, contrary, is_false, both, and_left, and_right}
use Rattle.trace.proofs.Triangle.{triangle, triangle-is, one-pair, some_pair}
use Rattle.trace.proofs.Searched.{NoneBefore, Ends, search-none, search-ends, search-cases}
use Rattle.trace.proofs.Numbered.{searched, search-judges, number_is}
use Rattle.model.specs.Site.{initial}
use Rattle.model.specs.Pair.{depends}
use Rattle.model.specs.Schedule.{machine}
use Rattle.model.specs.Calls.{Result, gives, refuses, pair_of, dependent, independent, SameVerdict, same, different, same_of, Comparison, beside, comparison_of}
use Rattle.model.specs.Demand3.{Accepted, step_name}
use Rattle.model.specs.ComparisonLaws.{verdict_in, all_pairs, number_telling, Sooner, Crossed, FirstCrossed, Answers, EveryComparison}
use Rattle.model.proofs.Checks.{gives-injective, steps-in-table}
use Rattle.model.proofs.Demand3.{comparison-given, pair-given, judged-dependent}
use Rattle.model.proofs.SameVerdicts.{both-accepted}

verdict-kept : (pairs : ℕ) (r : Result SameVerdict) → verdict_in (beside pairs r) ≡ r
verdict-kept pairs (gives v) = refl
verdict-kept pairs (refuses number position) = refl

same-not-different : same ≡ different → ⊥
same-not-different e = let z : ◌≡◌ {A = ℕ} 0 1 = cc in omega arith

-- the number of a pair, by the sum of the rows before it
number-telling : (i j : ℕ) → triangle j + i + 1 ≡ number_telling i j
number-telling i j = ap (λ (t : ℕ). t + i + 1) (triangle-is j)

each_number : (m n : ℕ) → 0 < n → n ≤ all_pairs m → (i : ℕ) × (j : ℕ) × (i < j) × (j < m) × (n ≡ number_telling i j)
each_number m n h l = go (some_pair m (n - 1) (omega (arith, h, l, triangle-is m)))
  where
    go : (i : ℕ) × (j : ℕ) × (i < j) × (j < m) × (n - 1 ≡ triangle j + i) → (i : ℕ) × (j : ℕ) × (i < j) × (j < m) × (n ≡ number_telling i j)
    go s = (s.0, s.1, s.2, s.3, omega (arith, h, s.4, number-telling s.0 s.1))

module _ (table : List ℕ) where
  pub verdicts : (p q : List ℕ) → verdict_in (comparison_of table p q) ≡ same_of table p q
  unfolding comparison_of
  verdicts p q = verdict-kept _ (same_of table p q)

  module _ (read : read_of table ≡ accepted) (p q : List ℕ) where
    -- entries i and j of the first schedule are opposed
    abbrev crosses : ℕ → ℕ → Bool
    crosses = opposed_in (machine table) initial p q

    -- an answer is given of accepted schedules only
    answered : (v : SameVerdict) (n : ℕ) → Answers table p q v n → Accepted table p × Accepted table q
    answered v n h = both-accepted table p q v (n, h)

    module _ (hp : Accepted table p) (hq : Accepted table q) where
      given : (b : Bool) (s : Search) → same_steps (machine table) initial p q ≡ b → searched (machine table) initial p q ≡ s
          → comparison_of table p q ≡ gives (record { verdict = cond (b && not (has_ended s)) same different; pairs = cond b (compared_in s) 0 })
      given b s steps found =
          let verdict : equivalent (machine table) initial p q ≡ (b && not (has_ended s)) =
          search-judges (machine table) initial p q ∙ (λ k. steps k && not (has_ended (found k))) in
          let number = number_is (machine table) initial p q b s steps found in
          comparison-given table read p q hp hq ∙ (λ k. gives (record { verdict = cond (verdict k) same different; pairs = number k }))

      -- ---- the three answers

      none-compared : same_steps (machine table) initial p q ≡ false → Answers table p q different 0
      none-compared steps = given false _ steps refl

      ended_by : (e : Ends crosses (length p)) → same_steps (machine table) initial p q ≡ true → Answers table p q different (number_telling e.earlier.at e.later)
      ended_by e steps =
          given true _ steps (search-ends crosses (length p) e)
          ∙ ap (λ (n : ℕ). gives (record { verdict = different; pairs = n })) (number-telling e.earlier.at e.later)

      all-gone-through : NoneBefore crosses (length p) → same_steps (machine table) initial p q ≡ true → Answers table p q same (all_pairs (length p))
      all-gone-through none steps =
          given true _ steps (search-none crosses (length p) none)
          ∙ ap (λ (n : ℕ). gives (record { verdict = same; pairs = n })) (triangle-is (length p))

      -- ---- a pair that is crossed

      called : (i j : ℕ) → i < j → j < length p
          → pair_of table (step_name table p i) (step_name table p j) ≡ gives (cond (depends table (step_name table p i) (step_name table p j)) dependent independent)
      called i j h l =
          pair-given table read (step_name table p i) (step_name table p j) (steps-in-table table initial p hp i (omega arith)) (steps-in-table table initial p hp j l)

      crosses-of : (i j : ℕ) → Crossed table p q i j → crosses i j ≡ true
      crosses-of i j c =
          let d : depends table (step_name table p i) (step_name table p j) ≡ true =
          judged-dependent _ (gives-injective (sym (called i j c.in_order c.in-first) ∙ c.dependently)) in
          both d c.opposite

      of-crosses : (i j : ℕ) → i < j → j < length p → crosses i j ≡ true → Crossed table p q i j
      of-crosses i j h l t =
          let d : depends table (step_name table p i) (step_name table p j) ≡ true = and_left _ _ t in
          record {
            in_order = h;
            in-first = l;
            dependently = called i j h l ∙ ap (λ (b : Bool). gives (cond b dependent independent)) d;
            opposite = and_right (depends table (step_name table p i) (step_name table p j)) _ t;
          }

      first-crossed : (e : Ends crosses (length p)) → FirstCrossed table p q e.earlier.at e.later
      first-crossed e =
          record {
            crossed = of-crosses e.earlier.at e.later e.earlier.below e.later-below e.earlier.passes;
            none-sooner = λ k l s c. contrary (crosses-of k l c) (sooner k l s c.in_order);
          }
        where
          sooner : (k l : ℕ) → Sooner k l e.earlier.at e.later → k < l → crosses k l ≡ false
          sooner k l (inl less) h = e.none_before l less k h
          sooner k l (inr s) h = rw s.0 (e.earlier.none_before k s.1)

      ends_with : (i j : ℕ) → FirstCrossed table p q i j → Ends crosses (length p)
      ends_with i j f =
          record {
            later = j;
            later-below = f.crossed.in-first;
            earlier =
                record {
                  at = i;
                  below = f.crossed.in_order;
                  passes = crosses-of i j f.crossed;
                  none_before = λ k h. none k j (inr (refl, h)) (omega (arith, h, f.crossed.in_order)) f.crossed.in-first;
                };
            none_before = λ l less k h. none k l (inl less) h (omega (arith, less, f.crossed.in-first));
          }
        where
          none : (k l : ℕ) → Sooner k l i j → k < l → l < length p → crosses k l ≡ false
          none k l s h less = is_false _ (λ t. f.none-sooner k l s (of-crosses k l h less t))

      told : (i j : ℕ) → same_steps (machine table) initial p q ≡ true → FirstCrossed table p q i j → Answers table p q different (number_telling i j)
      unfolding ends_with
      told i j steps f = ended_by (ends_with i j f) steps

    -- ---- what an answer says

    same_number : {v w : SameVerdict} {m n : ℕ} → Answers table p q v m → Answers table p q w n → (v ≡ w) × (m ≡ n)
    same_number h k = let e = gives-injective (sym h ∙ k) in (ap (λ (c : Comparison). c.verdict) e, ap (λ (c : Comparison). c.pairs) e)

    all-compared : (n : ℕ) → Answers table p q same n → n ≡ all_pairs (length p)
    all-compared n h = go (which (same_steps (machine table) initial p q)) (search-cases crosses (length p))
      where
        ok : Accepted table p × Accepted table q
        ok = answered same n h

        go : (same_steps (machine table) initial p q ≡ true) ⊎ (same_steps (machine table) initial p q ≡ false)
            → Ends crosses (length p) ⊎ NoneBefore crosses (length p) → n ≡ all_pairs (length p)
        go (inl steps) (inl e) = absurd (same-not-different (same_number h (ended_by ok.0 ok.1 e steps)).0)
        go (inl steps) (inr none) = (same_number h (all-gone-through ok.0 ok.1 none steps)).1
        go (inr steps) _ = absurd (same-not-different (same_number h (none-compared ok.0 ok.1 steps)).0)

    tells : (n : ℕ) → Answers table p q different n → 0 < n
        → (same_steps (machine table) initial p q ≡ true) × ((i : ℕ) × (j : ℕ) × FirstCrossed table p q i j × (n ≡ number_telling i j))
    tells n h some = go (which (same_steps (machine table) initial p q)) (search-cases crosses (length p))
      where
        ok : Accepted table p × Accepted table q
        ok = answered different n h

        go : (same_steps (machine table) initial p q ≡ true) ⊎ (same_steps (machine table) initial p q ≡ false)
            → Ends crosses (length p) ⊎ NoneBefore crosses (length p)
            → (same_steps (machine table) initial p q ≡ true) × ((i : ℕ) × (j : ℕ) × FirstCrossed table p q i j × (n ≡ number_telling i j))
        go (inl steps) (inl e) =
            (steps, (e.earlier.at, e.later, first-crossed ok.0 ok.1 e, (same_number h (ended_by ok.0 ok.1 e steps)).1))
        go (inl steps) (inr none) = absurd (same-not-different (sym (same_number h (all-gone-through ok.0 ok.1 none steps)).0))
        go (inr steps) _ = absurd (omega (arith, (same_number h (none-compared ok.0 ok.1 steps)).1))

    found : Accepted table p → Accepted table q
        → ((n : ℕ) × (0 < n) × Answers table p q different n)
        ↔ ((same_steps (machine table) initial p q ≡ true) × ((i : ℕ) × (j : ℕ) × Crossed table p q i j))
    found hp hq = (
      λ a. let t = tells a.0 a.2 a.1 in (t.0, (t.1.0, t.1.1, t.1.2.crossed)),
      λ c. go c.0 c.1 (search-cases crosses (length p)),
    )
      where
        go : same_steps (machine table) initial p q ≡ true → (i : ℕ) × (j : ℕ) × Crossed table p q i j
            → Ends crosses (length p) ⊎ NoneBefore crosses (length p) → (n : ℕ) × (0 < n) × Answers table p q different n
        go steps c (inl e) = (number_telling e.earlier.at e.later, omega arith, ended_by hp hq e steps)
        go steps c (inr none) = contrary (crosses-of hp hq c.0 c.1 c.2) (none c.1 c.2.in-first c.0 c.2.in_order)

pub every-comparison : EveryComparison
every-comparison =
    record {
      verdicts = verdicts;
      one-pair = λ i j k l h h' e. one-pair i j k l h h' (omega (arith, number-telling i j, number-telling k l, e));
      some_pair = each_number;
      accepted-table = λ table read.
          record {
            all-compared = all-compared table read;
            none-compared = none-compared table read;
            tells = λ p q n h some. (tells table read p q n h some).1;
            told = λ p q i j hp hq. told table read p q hp hq i j;
            found = found table read;
          };
    }
