-- Two states with equal reports agree in all that the table names, and the other way round. The first holds of any two states that are as reached,
-- whose records have eight cells, and whose cells and values are below 2^32; the second of any two.
-- Assumes nothing.
use Prim.Native.Nat.{ℕ, ◌+◌, ◌≤◌, ◌<◌}
use native.Mathlib.Omega.{arith}
use mathlib.Core.Path.{◌≡◌, refl, sym, ◌∙◌, ap}
use mathlib.Core.Logic.{◌⊎◌, inl, inr}
use mathlib.Core.Bool.{true, true≢false}
use mathlib.Core.List.{List, [], ◌∷◌, ◌++◌, append-nil}
use Rattle.table.specs.Format.{actors_of, mailboxes_of, mutexes_of, count_of}
use Rattle.table.specs.Promise.{WellFormed}
use Rattle.trace.specs.Machine.{Name}
use Rattle.trace.specs.Order.{mem}
use Rattle.trace.proofs.Names.{mem-head}
use Rattle.model.specs.Site.{Side, sends, receives, eq_side, Port, Site, name}
use Rattle.model.specs.Views.{mails, posts}
use Rattle.model.specs.Step.{action_at}
use Rattle.model.specs.Report.{parts, actor_bytes, comm_bytes, box_bytes, mutex_bytes, box_queue, actors_part, actions_part, boxes_part, mutexes_part, journal_bytes, report}
use Rattle.model.specs.Reached.{Reached}
use Rattle.model.specs.Determined.{SameSite}
use Rattle.model.proofs.ReachedQueued.{one-port}
use Rattle.model.proofs.ReportBoundCells.{EightCells}
use Rattle.model.proofs.ReportBoundValues.{SmallSite}
use Rattle.model.proofs.ReportBoundLengths.{port_of}
use Rattle.model.proofs.ReportBound.{box-room, journal-room}
use Rattle.model.proofs.Parts.{parts_same}
use Rattle.model.proofs.ReportSplit.{parts-split, actor-split, comm-split, box-split, mutex-split, journal-split}

-- ---- the two sides of a mailbox from its one queue

-- a list that has no member
pub none-held : (l : List Name) → ((x : Name) → mem x l ≡ true → ⊥) → l ≡ []
none-held [] h = refl
none-held (x ∷ l) h = absurd (h x (mem-head x l))

-- of each queue one side is empty, and no name stands on different sides of the two
sides-split : (S R S' R' : List Name) → (S ≡ []) ⊎ (R ≡ []) → (S' ≡ []) ⊎ (R' ≡ []) → ((x : Name) → mem x S ≡ true → mem x R' ≡ true → ⊥)
    → ((x : Name) → mem x S' ≡ true → mem x R ≡ true → ⊥) → S ++ R ≡ S' ++ R' → (S ≡ S') × (R ≡ R')
sides-split S R S' R' (inl a) (inl b) h k e = (a ∙ sym b, rw (a, b) at e)
sides-split S R S' R' (inl a) (inr b) h k e =
    let same : R ≡ S' = (rw (a, b) at e) ∙ append-nil S' in
    let none : R ≡ [] = none-held R (λ x m. k x (ap (mem x) (sym same) ∙ m) m) in
    (a ∙ sym none ∙ same, none ∙ sym b)
sides-split S R S' R' (inr a) (inl b) h k e =
    let same : S ≡ R' = sym (append-nil S) ∙ (rw (a, b) at e) in
    let none : S ≡ [] = none-held S (λ x m. h x m (ap (mem x) (sym same) ∙ m)) in
    (none ∙ sym b, a ∙ sym none ∙ same)
sides-split S R S' R' (inr a) (inr b) h k e = (sym (append-nil S) ∙ (rw (a, b) at e) ∙ append-nil S', a ∙ sym b)

-- a step posts to one side only
one_side : (table : List ℕ) (m : ℕ) (x : Name) → posts (action_at table x) ≡ mails (port_of m sends) → posts (action_at table x) ≡ mails (port_of m receives)
    → ⊥
one_side table m x p q = true≢false (ap (λ (r : Port). eq_side r.side sends) (one-port (sym p ∙ q)))

-- ---- equal reports

-- what the report of a state takes to determine it
pub record Lossless (table : List ℕ) (s : Site) : Type 0 where
  pub reached : Reached table s
  pub eight : EightCells s
  pub small : SmallSite s

module _ (table : List ℕ) (ok : WellFormed table) (s t : Site) (i : Lossless table s) (j : Lossless table t) where
  both-sides : (m : ℕ) → box_queue table s m ≡ box_queue table t m
      → (s.mail.waiting (port_of m sends) ≡ t.mail.waiting (port_of m sends)) × (s.mail.waiting (port_of m receives) ≡ t.mail.waiting (port_of m receives))
  both-sides m e =
      sides-split (s.mail.waiting (port_of m sends)) (s.mail.waiting (port_of m receives)) (t.mail.waiting (port_of m sends))
      (t.mail.waiting (port_of m receives))
      (i.reached.mail.one-sided (port_of m sends))
      (j.reached.mail.one-sided (port_of m sends))
      (λ x a b.
      one_side table m x ((i.reached.mail.pending-queued (port_of m sends) x).0 a).1 ((j.reached.mail.pending-queued (port_of m receives) x).0 b).1)
      (λ x a b.
      one_side table m x ((j.reached.mail.pending-queued (port_of m sends) x).0 a).1 ((i.reached.mail.pending-queued (port_of m receives) x).0 b).1)
      e

  side_same : (m : ℕ) → box_queue table s m ≡ box_queue table t m → (d : Side) → s.mail.waiting (port_of m d) ≡ t.mail.waiting (port_of m d)
  side_same m e sends = (both-sides m e).0
  side_same m e receives = (both-sides m e).1

  -- the bytes of one actor's actions
  own_split : (a : ℕ) (u v : List ℕ)
      → parts (λ k. comm_bytes (s.mail.comm (name a k))) (count_of table a) 0 ++ u ≡ parts (λ k. comm_bytes (t.mail.comm (name a k))) (count_of table a) 0 ++ v
      → ((k : ℕ) → 0 ≤ k → k < 0 + count_of table a → s.mail.comm (name a k) ≡ t.mail.comm (name a k)) × (u ≡ v)
  own_split a =
      parts-split (λ k. comm_bytes (s.mail.comm (name a k))) (λ k. comm_bytes (t.mail.comm (name a k)))
      (λ k. s.mail.comm (name a k) ≡ t.mail.comm (name a k))
      (count_of table a)
      0
      (λ k l h. comm-split (s.mail.comm (name a k)) (t.mail.comm (name a k)) (i.small.values (name a k)) (j.small.values (name a k)))

  pub report-determines : report table s ≡ report table t → SameSite table s t
  unfolding report
  report-determines e =
      let actors =
      parts-split (λ a. actor_bytes (s.actor a)) (λ a. actor_bytes (t.actor a)) (λ a. s.actor a ≡ t.actor a) (actors_of table) 0
      (λ a l h. actor-split (s.actor a) (t.actor a) (i.eight a) (j.eight a) (i.small.cells a) (j.small.cells a))
      (actions_part table s ++ (boxes_part table s ++ (mutexes_part table s ++ journal_bytes s.journal)))
      (actions_part table t ++ (boxes_part table t ++ (mutexes_part table t ++ journal_bytes t.journal)))
      e in
      let actions =
      parts-split (λ a. parts (λ k. comm_bytes (s.mail.comm (name a k))) (count_of table a) 0)
      (λ a. parts (λ k. comm_bytes (t.mail.comm (name a k))) (count_of table a) 0)
      (λ a. (k : ℕ) → 0 ≤ k → k < 0 + count_of table a → s.mail.comm (name a k) ≡ t.mail.comm (name a k))
      (actors_of table)
      0
      (λ a l h. own_split a)
      (boxes_part table s ++ (mutexes_part table s ++ journal_bytes s.journal))
      (boxes_part table t ++ (mutexes_part table t ++ journal_bytes t.journal))
      actors.1 in
      let boxes =
      parts-split (λ m. box_bytes (box_queue table s m)) (λ m. box_bytes (box_queue table t m)) (λ m. box_queue table s m ≡ box_queue table t m)
      (mailboxes_of table)
      0
      (λ m l h.
      box-split (box_queue table s m) (box_queue table t m) (omega (arith, box-room table ok s i.reached m)) (omega (arith, box-room table ok t j.reached m)))
      (mutexes_part table s ++ journal_bytes s.journal)
      (mutexes_part table t ++ journal_bytes t.journal)
      actions.1 in
      let mutexes =
      parts-split (λ m. mutex_bytes (s.queue m)) (λ m. mutex_bytes (t.queue m)) (λ m. s.queue m ≡ t.queue m) (mutexes_of table) 0
      (λ m l h. mutex-split (s.queue m) (t.queue m))
      (journal_bytes s.journal)
      (journal_bytes t.journal)
      boxes.1 in
      let journal =
      journal-split s.journal t.journal i.small.noted j.small.noted (omega (arith, journal-room table ok s i.reached))
      (omega (arith, journal-room table ok t j.reached))
      []
      []
      (ap (λ (l : List ℕ). l ++ []) mutexes.1) in
      record {
        records = λ a h. actors.0 a (omega arith) (omega arith);
        communications = λ a k h l. actions.0 a (omega arith) (omega arith) k (omega arith) (omega arith);
        mailboxes = λ m d h. side_same m (boxes.0 m (omega arith) (omega arith)) d;
        mutexes = λ m h. mutexes.0 m (omega arith) (omega arith);
        journal = journal.0;
      }

-- ---- states that agree

module _ (table : List ℕ) (s t : Site) (same : SameSite table s t) where
  pub report-same : report table s ≡ report table t
  unfolding report
  report-same =
      let actors : actors_part table s ≡ actors_part table t =
      parts_same _ _ (actors_of table) 0 (λ a l h. ap actor_bytes (same.records a (omega arith))) in
      let actions : actions_part table s ≡ actions_part table t =
      parts_same _ _ (actors_of table) 0
      (λ a l h. parts_same _ _ (count_of table a) 0 (λ k m n. ap comm_bytes (same.communications a k (omega arith) (omega arith)))) in
      let boxes : boxes_part table s ≡ boxes_part table t =
      parts_same _ _ (mailboxes_of table) 0
      (λ m l h i. box_bytes (same.mailboxes m sends (omega arith) i ++ same.mailboxes m receives (omega arith) i)) in
      let mutexes : mutexes_part table s ≡ mutexes_part table t =
      parts_same _ _ (mutexes_of table) 0 (λ m l h. ap mutex_bytes (same.mutexes m (omega arith))) in
      λ i. actors i ++ (actions i ++ (boxes i ++ (mutexes i ++ journal_bytes (same.journal i))))
