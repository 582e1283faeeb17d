-- The names of a table as one list, and counts over it: a list of some of them that holds none twice is no longer than the count of those that
-- pass a test which all of its own pass.
-- Assumes nothing.
use Prim.Native.Nat.{ℕ, zero, suc, ◌+◌, ◌≤◌, ◌<◌}
use native.Mathlib.Omega.{arith}
use mathlib.Core.Path.{◌≡◌, refl, ap, sym, subst}
use mathlib.Core.Logic.{◌⊎◌, inl, inr, ◌≢◌}
use mathlib.Core.Bool.{Bool, true, false, false≢true}
use mathlib.Core.List.{List, [], ◌∷◌, ◌++◌}
use lib.Dec.{eqb}
use borrow.Author.Tests.{eqb-true, eqb-false}
use lib.ListN.{length}
use Rattle.table.specs.Format.{actors_of, count_of}
use Rattle.trace.specs.Machine.{Name}
use Rattle.trace.specs.Order.{mem, Distinct}
use Rattle.trace.specs.Inversions.{count}
use Rattle.trace.specs.Route.{remove}
use Rattle.trace.proofs.Bools.{which, contrary}
use Rattle.trace.proofs.Names.{mem-head, mem-here, mem-tail, mem-cases}
use Rattle.trace.proofs.Remove.{mem-remove}
use Rattle.trace.proofs.Count.{count-remove}
use Rattle.model.specs.Site.{name}
use Rattle.model.specs.Ready.{bit, how_many}
use Rattle.model.specs.Bound.{sum_of}
use Rattle.model.proofs.ReportBoundCounts.{sum-add}

-- ---- a list that holds no name twice is no longer than the count

pub distinct-count : (f : Name → Bool) (l all : List Name) → Distinct l → ((x : Name) → mem x l ≡ true → (mem x all ≡ true) × (f x ≡ true))
    → length l ≤ count f all
distinct-count f [] all d h = omega arith
distinct-count f (x ∷ l) all d h =
    let here = h x (mem-head x l) in
    omega (arith, count-remove f x all here.0 here.1, distinct-count f l (remove x all) d.1 rest)
  where
    rest : (y : Name) → mem y l ≡ true → (mem y (remove x all) ≡ true) × (f y ≡ true)
    rest y m =
        let ne : y ≢ x = λ e. contrary (rw e at m) d.0 in
        let there = h y (mem-tail y x l m) in
        (mem-remove y x all ne there.0, there.1)

-- ---- the names of a table

-- `n` names of an actor from action k on; the names of `n` actors from actor a on
abbrev pub row : ℕ → ℕ → ℕ → List Name
row a zero k = []
row a (suc n) k = name a k ∷ row a n (suc k)

abbrev pub rows : List ℕ → ℕ → ℕ → List Name
rows table zero a = []
rows table (suc n) a = row a (count_of table a) 0 ++ rows table n (suc a)

abbrev pub all_names : List ℕ → List Name
all_names table = rows table (actors_of table) 0

pub mem_append_left : (x : Name) (l m : List Name) → mem x l ≡ true → mem x (l ++ m) ≡ true
mem_append_left x [] m h = absurd (false≢true h)
mem_append_left x (y ∷ l) m h = go (mem-cases x y l h) (mem_append_left x l m)
  where
    go : (x ≡ y) ⊎ (mem x l ≡ true) → (mem x l ≡ true → mem x (l ++ m) ≡ true) → mem x (y ∷ (l ++ m)) ≡ true
    go (inl e) rest = mem-here x y (l ++ m) e
    go (inr n) rest = mem-tail x y (l ++ m) (rest n)

pub mem_append_right : (x : Name) (l m : List Name) → mem x m ≡ true → mem x (l ++ m) ≡ true
mem_append_right x [] m h = h
mem_append_right x (y ∷ l) m h = mem-tail x y (l ++ m) (mem_append_right x l m h)

row-mem : (a n k j : ℕ) → k ≤ j → j < k + n → mem (name a j) (row a n k) ≡ true
row-mem a zero k j l h = absurd (omega arith)
row-mem a (suc n) k j l h = go (which (eqb j k)) (λ e. row-mem a n (suc k) j e (omega arith))
  where
    go : (eqb j k ≡ true) ⊎ (eqb j k ≡ false) → (suc k ≤ j → mem (name a j) (row a n (suc k)) ≡ true) → mem (name a j) (row a (suc n) k) ≡ true
    go (inl e) rest =
        subst (λ (w : ℕ). mem (name a w) (row a (suc n) k) ≡ true) (sym (eqb-true j k e))
        (mem-head (name a k) (row a n (suc k)))
    go (inr e) rest =
        let ne : j ≢ k = eqb-false j k e in
        mem-tail (name a j) (name a k) (row a n (suc k)) (rest (omega arith))

rows-mem : (table : List ℕ) (n a b j : ℕ) → a ≤ b → b < a + n → j < count_of table b → mem (name b j) (rows table n a) ≡ true
rows-mem table zero a b j l h c = absurd (omega arith)
rows-mem table (suc n) a b j l h c = go (which (eqb b a)) (λ e. rows-mem table n (suc a) b j e (omega arith) c)
  where
    go : (eqb b a ≡ true) ⊎ (eqb b a ≡ false) → (suc a ≤ b → mem (name b j) (rows table n (suc a)) ≡ true)
        → mem (name b j) (rows table (suc n) a) ≡ true
    go (inl e) rest =
        let same : b ≡ a = eqb-true b a e in
        mem_append_left (name b j) (row a (count_of table a) 0) (rows table n (suc a)) (rw (← same) (row-mem b (count_of table b) 0 j (omega arith) (omega arith)))
    go (inr e) rest =
        let ne : b ≢ a = eqb-false b a e in
        mem_append_right (name b j) (row a (count_of table a) 0) (rows table n (suc a)) (rest (omega arith))

-- a name of the table is in the list
pub all-names : (table : List ℕ) (x : Name) → x.actor < actors_of table → x.position < count_of table x.actor → mem x (all_names table) ≡ true
all-names table x a c = rows-mem table (actors_of table) 0 x.actor x.position (omega arith) (omega arith) c

-- ---- counts over the names

count-append : (f : Name → Bool) (l m : List Name) → count f (l ++ m) ≡ count f l + count f m
count-append f [] m = omega arith
count-append f (x ∷ l) m = omega (arith, count-append f l m)

count-row : (f : Name → Bool) (a n k : ℕ) → count f (row a n k) ≡ how_many (λ j. f (name a j)) n k
count-row f a zero k = refl
count-row f a (suc n) k = ap (λ (r : ℕ). bit (f (name a k)) + r) (count-row f a n (suc k))

count-rows : (f : Name → Bool) (table : List ℕ) (n a : ℕ)
    → count f (rows table n a) ≡ sum_of (λ b. how_many (λ j. f (name b j)) (count_of table b) 0) n a
count-rows f table zero a = refl
count-rows f table (suc n) a =
    omega (arith, count-append f (row a (count_of table a) 0) (rows table n (suc a)), count-row f a (count_of table a) 0, count-rows f table n (suc a))

-- counted name by name is counted actor by actor
pub count-all : (f : Name → Bool) (table : List ℕ)
    → count f (all_names table) ≡ sum_of (λ b. how_many (λ j. f (name b j)) (count_of table b) 0) (actors_of table) 0
count-all f table = count-rows f table (actors_of table) 0

-- what passes at most one of several tests, and then another: the counts of the several come to no more than that other's
pub counts-apart : (f : ℕ → Name → Bool) (g : Name → Bool) (n k : ℕ) → ((x : Name) → sum_of (λ m. bit (f m x)) n k ≤ bit (g x)) → (l : List Name)
    → sum_of (λ m. count (f m) l) n k ≤ count g l
counts-apart f g n k h [] = none n k
  where
    none : (n k : ℕ) → sum_of (λ m. 0) n k ≤ 0
    none zero k = omega arith
    none (suc n) k = omega (arith, none n (suc k))
counts-apart f g n k h (x ∷ l) =
    omega (arith, sum-add (λ m. bit (f m x)) (λ m. count (f m) l) n k, h x, counts-apart f g n k h l)
