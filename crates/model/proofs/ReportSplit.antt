-- The pieces of a report delimit themselves: where two of a kind, each with something after it, are equal as bytes, what they stand for is equal
-- and so is what follows.
-- Assumes nothing.
use Prim.Native.Nat.{ℕ, zero, suc, ◌+◌, ◌/◌, ◌%◌, ◌≤◌, ◌<◌}
use native.Mathlib.Omega.{arith}
use mathlib.Core.Path.{◌≡◌, refl, sym, ◌∙◌, ap}
use mathlib.Core.Logic.{◌⊎◌, inl, inr, ◌≢◌}
use mathlib.Core.Bool.{true, false}
use mathlib.Core.List.{List, [], ◌∷◌, ◌++◌, append_assoc}
use lib.Dec.{eqb}
use lib.ListN.{length, get_or}
use lib.Seq.{ext_get_or}
use borrow.Author.Tests.{eqb-true, eqb-false}
use Rattle.trace.specs.Machine.{Name}
use Rattle.trace.proofs.Bools.{which}
use Rattle.model.specs.Site.{Actor, Comm, unposted, pending, done, Entry, Queued}
use Rattle.model.specs.Mail.{carried}
use Rattle.model.specs.Report.{word, long, parts, actor_bytes, comm_bytes, name_bytes, box_bytes, queued_bytes, mutex_bytes, entry_bytes, journal_bytes}
use Rattle.model.proofs.ReportBoundValues.{Small, SmallCells, SmallJournal}

-- ---- pieces in a row

pub parts-split : (f g : ℕ → List ℕ) (Same : ℕ → Type 0) (n k : ℕ)
    → ((j : ℕ) → k ≤ j → j < k + n → (u v : List ℕ) → f j ++ u ≡ g j ++ v → Same j × (u ≡ v))
    → (u v : List ℕ) → parts f n k ++ u ≡ parts g n k ++ v → ((j : ℕ) → k ≤ j → j < k + n → Same j) × (u ≡ v)
parts-split f g Same zero k h u v e = (λ j a b. absurd (omega arith), e)
parts-split f g Same (suc n) k h u v e =
    let here : Same k × (parts f n (suc k) ++ u ≡ parts g n (suc k) ++ v) =
    h k (omega arith) (omega arith) (parts f n (suc k) ++ u) (parts g n (suc k) ++ v)
    (sym (append_assoc (f k) (parts f n (suc k)) u) ∙ e ∙ append_assoc (g k) (parts g n (suc k)) v) in
    let later = parts-split f g Same n (suc k) (λ j a b. h j (omega arith) (omega arith)) u v here.1 in
    (λ j a b. go j a b here.0 later.0 (which (eqb j k)), later.1)
  where
    go : (j : ℕ) → k ≤ j → j < k + suc n → Same k → ((i : ℕ) → suc k ≤ i → i < suc k + n → Same i) → (eqb j k ≡ true) ⊎ (eqb j k ≡ false) → Same j
    go j a b first rest (inl t) = rw (eqb-true j k t) first
    go j a b first rest (inr t) =
        let ne : j ≢ k = eqb-false j k t in
        rest j (omega arith) (omega arith)

-- ---- numbers

pub word_split : (x y : ℕ) → x < 65536 → y < 65536 → (u v : List ℕ) → word x ++ u ≡ word y ++ v → (x ≡ y) × (u ≡ v)
word_split x y a b u v e =
    let low : x % 256 ≡ y % 256 = cc in
    let high : x / 256 % 256 ≡ y / 256 % 256 = cc in
    (omega arith, cc)

-- 32 bits from the top: the highest byte, then one byte more at each step down
fourth : (x y : ℕ) → Small x → Small y → x / 16777216 % 256 ≡ y / 16777216 % 256 → x / 16777216 ≡ y / 16777216
fourth x y a b e = omega arith

third : (x y : ℕ) → x / 16777216 ≡ y / 16777216 → x / 65536 % 256 ≡ y / 65536 % 256 → x / 65536 ≡ y / 65536
third x y h e = omega arith

second : (x y : ℕ) → x / 65536 ≡ y / 65536 → x / 256 % 256 ≡ y / 256 % 256 → x / 256 ≡ y / 256
second x y h e = omega arith

first : (x y : ℕ) → x / 256 ≡ y / 256 → x % 256 ≡ y % 256 → x ≡ y
first x y h e = omega arith

pub long-split : (x y : ℕ) → Small x → Small y → (u v : List ℕ) → long x ++ u ≡ long y ++ v → (x ≡ y) × (u ≡ v)
long-split x y a b u v e = (first x y (second x y (third x y (fourth x y a b (cc)) (cc)) (cc)) (cc), cc)

-- ---- an actor's record: eight cells, each below 2^32

pub actor-split : (r q : Actor) → length r.cells ≡ 8 → length q.cells ≡ 8 → SmallCells r.cells → SmallCells q.cells → (u v : List ℕ)
    → actor_bytes r ++ u ≡ actor_bytes q ++ v → (r ≡ q) × (u ≡ v)
actor-split r q eight eight' small small' u v e =
    let at : r.position ≡ q.position = cc in
    let after : parts (λ c. long (get_or r.cells c 0)) 8 0 ++ u ≡ parts (λ c. long (get_or q.cells c 0)) 8 0 ++ v = cc in
    let split = parts-split (λ c. long (get_or r.cells c 0)) (λ c. long (get_or q.cells c 0)) (λ c. get_or r.cells c 0 ≡ get_or q.cells c 0) 8 0
    (λ c a b. long-split (get_or r.cells c 0) (get_or q.cells c 0) (small c) (small' c)) u v after in
    let cells : r.cells ≡ q.cells = ext_get_or 0 r.cells q.cells (eight ∙ sym eight') (λ c a. split.0 c (omega arith) (omega arith)) in
    (λ i. record { position = at i; cells = cells i }, split.1)

-- ---- a communication, whose value is below 2^32

pub comm-split : (c d : Comm) → Small (carried c) → Small (carried d) → (u v : List ℕ) → comm_bytes c ++ u ≡ comm_bytes d ++ v → (c ≡ d) × (u ≡ v)
comm-split unposted unposted a b u v e = (refl, cc)
comm-split unposted (pending w) a b u v e = let z : ◌≡◌ {A = ℕ} 0 1 = cc in absurd (omega arith)
comm-split unposted (done y w) a b u v e = let z : ◌≡◌ {A = ℕ} 0 2 = cc in absurd (omega arith)
comm-split (pending w) unposted a b u v e = let z : ◌≡◌ {A = ℕ} 1 0 = cc in absurd (omega arith)
comm-split (pending w) (pending t) a b u v e =
    let split = long-split w t a b u v (cc) in
    (ap pending split.0, split.1)
comm-split (pending w) (done y t) a b u v e = let z : ◌≡◌ {A = ℕ} 1 2 = cc in absurd (omega arith)
comm-split (done x w) unposted a b u v e = let z : ◌≡◌ {A = ℕ} 2 0 = cc in absurd (omega arith)
comm-split (done x w) (pending t) a b u v e = let z : ◌≡◌ {A = ℕ} 2 1 = cc in absurd (omega arith)
comm-split (done x w) (done y t) a b u v e =
    let actor : x.actor ≡ y.actor = cc in
    let action : x.position ≡ y.position = cc in
    let split = long-split w t a b u v (cc) in
    (λ i. done (record { actor = actor i; position = action i }) (split.0 i), split.1)

-- ---- queues: the length decides where one ends

pub names-split : (l k : List Name) → length l ≡ length k → (u v : List ℕ) → name_bytes l ++ u ≡ name_bytes k ++ v → (l ≡ k) × (u ≡ v)
names-split [] [] n u v e = (refl, e)
names-split [] (y ∷ k) n u v e = absurd (omega arith)
names-split (x ∷ l) [] n u v e = absurd (omega arith)
names-split (x ∷ l) (y ∷ k) n u v e =
    let actor : x.actor ≡ y.actor = cc in
    let action : x.position ≡ y.position = cc in
    let rest : (l ≡ k) × (u ≡ v) = names-split l k (omega arith) u v (cc) in
    (λ i. record { actor = actor i; position = action i } ∷ rest.0 i, rest.1)

pub box-split : (l k : List Name) → length l < 65536 → length k < 65536 → (u v : List ℕ) → box_bytes l ++ u ≡ box_bytes k ++ v → (l ≡ k) × (u ≡ v)
box-split l k a b u v e =
    let count = word_split (length l) (length k) a b (name_bytes l ++ u) (name_bytes k ++ v) e in
    names-split l k count.0 u v count.1

queued-split : (l k : List Queued) → length l ≡ length k → (u v : List ℕ) → queued_bytes l ++ u ≡ queued_bytes k ++ v → (l ≡ k) × (u ≡ v)
queued-split [] [] n u v e = (refl, e)
queued-split [] (y ∷ k) n u v e = absurd (omega arith)
queued-split (x ∷ l) [] n u v e = absurd (omega arith)
queued-split (x ∷ l) (y ∷ k) n u v e =
    let actor : x.actor ≡ y.actor = cc in
    let depth : x.depth ≡ y.depth = cc in
    let rest : (l ≡ k) × (u ≡ v) = queued-split l k (omega arith) u v (cc) in
    (λ i. record { actor = actor i; depth = depth i } ∷ rest.0 i, rest.1)

pub mutex-split : (l k : List Queued) → (u v : List ℕ) → mutex_bytes l ++ u ≡ mutex_bytes k ++ v → (l ≡ k) × (u ≡ v)
mutex-split l k u v e =
    let count : length l ≡ length k = cc in
    queued-split l k count u v (cc)

-- ---- the journal, whose values are below 2^32

entries-split : (l k : List Entry) → SmallJournal l → SmallJournal k → length l ≡ length k → (u v : List ℕ) → entry_bytes l ++ u ≡ entry_bytes k ++ v
    → (l ≡ k) × (u ≡ v)
entries-split [] [] a b n u v e = (refl, e)
entries-split [] (y ∷ k) a b n u v e = absurd (omega arith)
entries-split (x ∷ l) [] a b n u v e = absurd (omega arith)
entries-split (x ∷ l) (y ∷ k) a b n u v e =
    let actor : x.step.actor ≡ y.step.actor = cc in
    let action : x.step.position ≡ y.step.position = cc in
    let value = long-split x.value y.value a.0 b.0 (entry_bytes l ++ u) (entry_bytes k ++ v) (cc) in
    let rest : (l ≡ k) × (u ≡ v) = entries-split l k a.1 b.1 (omega arith) u v value.1 in
    (λ i. record { step = record { actor = actor i; position = action i }; value = value.0 i } ∷ rest.0 i, rest.1)

pub journal-split : (l k : List Entry) → SmallJournal l → SmallJournal k → length l < 65536 → length k < 65536 → (u v : List ℕ)
    → journal_bytes l ++ u ≡ journal_bytes k ++ v → (l ≡ k) × (u ≡ v)
journal-split l k a b m n u v e =
    let count = word_split (length l) (length k) m n (entry_bytes l ++ u) (entry_bytes k ++ v) e in
    entries-split l k a b count.0 u v count.1
