-- Readiness over the arrays: one actor's look, the mask from the last actor down, and whether everyone is finished.
-- Assumes nothing.
use mathlib.Core.Path.{◌≡◌, refl, ◌∙◌, ap, ap₂, sym, subst}
use mathlib.Core.Bool.{Bool, true, false, not, ◌&&◌}
use mathlib.Core.Logic.{◌⊎◌, inl, inr}
use mathlib.Core.List.{List, [], ◌∷◌}
use Prim.Native.Nat.{ℕ, zero, suc, ◌+◌, ◌-◌, ◌*◌, ◌%◌, ◌^◌, ◌<◌, ◌≤◌}
use native.Mathlib.Nat.{zero-div}
use native.Mathlib.Numerals.{add-one}
use native.Mathlib.Omega.{arith}
use borrow.Author.Tests.{lt-ltb, le-leb, lt-leb, ltb-true, ltb-false}
use lib.Dec.{leb, ltb}
use lib.ListN.{length, get_or, take}
use Rattle.std.specs.List.{list_all, enumerate_from}
use Rattle.trace.proofs.Bools.{which}
use lib.Pow.{pow_mono}
use mir.Val.{bool_byte}
use lib.Count.{ones}
use Rattle.table.specs.Format.{actors_of, count_of}
use Rattle.model.specs.Site.{Entry, Site}
use Rattle.model.specs.Step.{NextStep, is_taken, next_step, ready}
use Rattle.model.specs.Ready.{bit_of, bit, mask_of, all, ending_of, ready_mask, ready_count, ready_answer}
use Rattle.model.proofs.ReadyMask.{mask-small, mask-right}
use Rattle.state.specs.State.{journal_of, site_of, fresh_actor, next_of}
use Rattle.state.specs.declared.arrays.Site.{Site as Arrays}
use Rattle.readiness.specs.Parts.{Answerable, KnownAlike, step_in, ready_in, looks_ready, everyone_finished, site_with, seen_with}
use Rattle.answers.specs.Answers.{ending_as, readiness_of}
use Rattle.state.specs.declared.Actor.{Actor}
use Rattle.answers.specs.declared.Readiness.{Readiness}
use Rattle.std.proofs.lemmas.List.{get_or_default}
use Rattle.look.proofs.Sees.{step-parts}

-- ---- one actor

-- what an actor's next step is, by its record: the others', the ports' logs and the journal play no part
pub step-looks : (table : List ℕ) (actors : List Actor) (site : Arrays) (log ends : List ℕ) (journal : List Entry)
    (log' ends' : List ℕ) (journal' : List Entry) (a : ℕ) → let r : Actor = get_or actors a fresh_actor in
    next_step table (site_with actors site log ends journal) a ≡ step_in table a r (seen_with r site log' ends' journal')
step-looks table actors site log ends journal log' ends' journal' a =
    let r : Actor = get_or actors a fresh_actor in
    step-parts table (site_with actors site log ends journal) (seen_with r site log' ends' journal') a (next_of table a r) refl refl refl

-- nor whether it is ready
pub ready-alike : (table : List ℕ) (actors : List Actor) (site : Arrays) (log ends : List ℕ) (journal : List Entry)
    (log' ends' : List ℕ) (journal' : List Entry) (a : ℕ)
    → ready table (site_with actors site log ends journal) a ≡ ready table (site_with actors site log' ends' journal') a
unfolding ready
ready-alike table actors site log ends journal log' ends' journal' a =
    ap (λ (t : NextStep). ltb a (actors_of table) && (ltb (get_or actors a fresh_actor).position (count_of table a) && is_taken t))
    (step-looks table actors site log ends journal log' ends' journal' a
    ∙ sym (step-looks table actors site log' ends' journal' log' ends' journal' a))

pub ready-looks : (table : List ℕ) (actors : List Actor) (site : Arrays) (log ends : List ℕ) (journal : List Entry)
    (log' ends' : List ℕ) (journal' : List Entry) (a : ℕ) → a < actors_of table → let r : Actor = get_or actors a fresh_actor in
    ready table (site_with actors site log ends journal) a ≡ ready_in table a r (seen_with r site log' ends' journal')
unfolding ready
ready-looks table actors site log ends journal log' ends' journal' a h =
    rw (lt-ltb a (actors_of table) h)
    (ap (λ (t : NextStep). ltb (get_or actors a fresh_actor).position (count_of table a) && is_taken t)
    (step-looks table actors site log ends journal log' ends' journal' a))

-- of the site in the arrays
pub ready-held : (table : List ℕ) (actors : List Actor) (site : Arrays) (a : ℕ) → a < actors_of table
    → ready table (site_of actors site) a ≡ looks_ready table a (get_or actors a fresh_actor) site
ready-held table actors site =
    ready-looks table actors site site.mail.log site.mail.ends (journal_of site.journal) site.mail.log site.mail.ends []

-- ---- the mask

-- a mask of 0 has nobody
pub nobody-known : (table : List ℕ) (a : ℕ) (actors : List Actor) (site : Arrays) → KnownAlike table 0 a actors site
nobody-known table a actors site i h ne log ends journal =
    let none : bit_of 0 i ≡ 0 = ap (λ (x : ℕ). x % 2) (zero-div (2 ^ i)) in
    absurd (omega arith)

-- one bit more, below those that stand
pub mask_next : (f : ℕ → Bool) (n a : ℕ) → 0 < a → a ≤ n → mask_of f (n - (a - 1)) (a - 1) ≡ bit (f (a - 1)) + 2 * mask_of f (n - a) a
mask_next f n a h low =
    let more : n - (a - 1) ≡ suc (n - a) = omega arith in
    let up : suc (a - 1) ≡ a = omega arith in
    ap (λ (c : ℕ). mask_of f c (a - 1)) more ∙ ap (λ (k : ℕ). bit (f (a - 1)) + 2 * mask_of f (n - a) k) up

pub mask_end : (f : ℕ → Bool) (n a : ℕ) → a ≤ 0 → mask_of f (n - a) a ≡ mask_of f n 0
mask_end f n a h = let z : a ≡ 0 = omega arith in let m : n - a ≡ n = omega arith in ap₂ (mask_of f) m z

-- seven actors' bits leave room for one more
mask-room : (f : ℕ → Bool) (c k : ℕ) → c ≤ 7 → mask_of f c k < 128
mask-room f c k h = let small : mask_of f c k < 2 ^ c = mask-small f c k in let most : 2 ^ c ≤ 128 = pow_mono h in omega arith

-- a test as a number
pub as_bit : (b : Bool) → bool_byte b ≡ bit b
as_bit true = refl
as_bit false = refl

pub bit_most : (b : Bool) → bit b ≤ 1
bit_most true = omega arith
bit_most false = omega arith

pub in_table : (table : List ℕ) {n : ℕ} → n ≡ actors_of table → {i : ℕ} → 0 < i → i ≤ n → i - 1 < actors_of table
in_table table counted some low = omega arith

module _ {table : List ℕ} {actors : List Actor} (A : Answerable table actors) {n : ℕ} (counted : n ≡ actors_of table) (site : Arrays) where
  -- m has the bits of the actors from i on
  abbrev Bits : ℕ → ℕ → Type 0
  Bits m i = m ≡ mask_of (ready table (site_of actors site)) (n - i) i

  -- before the last bit there is room for one more
  pub room-left : {m i : ℕ} → Bits m i → 0 < i → i ≤ n → m < 128
  room-left {m} {i} bits some low =
      let few : n - i ≤ 7 = omega (arith, A.accepted.actors-most) in
      rw bits (mask-room (ready table (site_of actors site)) (n - i) i few)

  -- what the record at a place tells of its actor
  pub looked : {a : ℕ} {b : Bool} (r : Actor) → a < actors_of table
      → (b ≡ looks_ready table a (get_or actors a r) site)
      → b ≡ ready table (site_of actors site) a
  looked {a} {b} r there looks =
      looks
      ∙ ap (λ (q : Actor). looks_ready table a q site)
      (get_or_default actors a r fresh_actor (omega (arith, A.accepted.actors-most, A.actors-long)))
      ∙ sym (ready-held table actors site a there)

  -- an actor's bit below those that stand
  pub one_more : {m i b : ℕ} {is : Bool} → Bits m i → 0 < i → i ≤ n → b ≡ bit is
      → (is ≡ ready table (site_of actors site) (i - 1)) → Bits (b + 2 * m) (i - 1)
  one_more {m} {i} bits some low value right =
      ap₂ (λ (y z : ℕ). y + 2 * z) (value ∙ ap bit right) bits
      ∙ sym (mask_next (ready table (site_of actors site)) n i some low)

-- ---- everyone

not_below : (m n : ℕ) → leb n m ≡ not (ltb m n)
not_below m n = go (which (ltb m n))
  where
    go : (ltb m n ≡ true) ⊎ (ltb m n ≡ false) → leb n m ≡ not (ltb m n)
    go (inl t) = rw (t, lt-leb n m (ltb-true m n t))
    go (inr f) = rw (f, le-leb n m (ltb-false m n f))

-- a test of each element with its number is that of the numbers
each_numbered : {A : Type 0} (g : ℕ × A → Bool) (f : ℕ → Bool) (d : A) (l : List A) (n from : ℕ) → n ≤ length l
    → ((i : ℕ) → g (from + i, get_or l i d) ≡ f (from + i)) → list_all g (enumerate_from from (take n l)) ≡ all f n from
each_numbered g f d l zero from h each = refl
each_numbered g f d [] (suc n) from h each = absurd (omega arith)
each_numbered g f d (x ∷ l) (suc n) from h each =
    let here : from + 0 ≡ from = omega arith in
    let first : g (from, x) ≡ f from = subst (λ (k : ℕ). g (k, x) ≡ f k) here (each 0) in
    ap₂ (λ (b c : Bool). b && c) first
    (ap (λ (k : ℕ). list_all g (enumerate_from k (take n l))) (add-one from)
    ∙ each_numbered g f d l n (suc from) (omega arith)
    (λ i. let up : from + suc i ≡ suc from + i = omega arith in subst (λ (k : ℕ). g (k, get_or l i d) ≡ f k) up (each (suc i))))

pub everyone : (table : List ℕ) (actors : List Actor) (n : ℕ) → n ≤ length actors
    → list_all (λ (p : ℕ × Actor). leb (count_of table p.0) p.1.position) (enumerate_from 0 (take n actors)) ≡ everyone_finished table n actors
everyone table actors n h =
    each_numbered (λ (p : ℕ × Actor). leb (count_of table p.0) p.1.position) (λ a. not (ltb (get_or actors a fresh_actor).position (count_of table a))) fresh_actor actors n 0 h
    (λ i. let k : 0 + i ≡ i = omega arith in rw k (not_below (get_or actors i fresh_actor).position (count_of table i)))

-- ---- the answer

module _ (table : List ℕ) (actors : List Actor) (site : Arrays) where
  -- who is ready in the site that the arrays hold is so whatever the logs, their ends and the journal are
  ready-same : (log ends : List ℕ) (journal : List Entry) → ready table (site_of actors site) ≡ ready table (site_with actors site log ends journal)
  ready-same log ends journal =
      λ i a. ready-alike table actors site site.mail.log site.mail.ends (journal_of site.journal) log ends journal a i

  pub mask-alike : (log ends : List ℕ) (journal : List Entry)
      → ready_mask table (site_of actors site) ≡ ready_mask table (site_with actors site log ends journal)
  mask-alike log ends journal = ap (λ (f : ℕ → Bool). mask_of f (actors_of table) 0) (ready-same log ends journal)

  -- so the answer is by the mask of that site
  pub answer-right : (r : Readiness) → r.mask ≡ ready_mask table (site_of actors site) → r.count ≡ ones r.mask
      → ending_as r.ending ≡ ending_of (everyone_finished table (actors_of table) actors) r.count
      → (log ends : List ℕ) (journal : List Entry) → readiness_of r ≡ ready_answer table (site_with actors site log ends journal)
  unfolding ready_answer
  answer-right r mask count end log ends journal =
      let s : Site = site_with actors site log ends journal in
      let same : r.mask ≡ ready_mask table s = mask ∙ mask-alike log ends journal in
      let counted : r.count ≡ ready_count table s = count ∙ ap ones same ∙ (mask-right table s).counted in
      let ending : ending_as r.ending ≡ ending_of (everyone_finished table (actors_of table) actors) (ready_count table s) =
      end ∙ ap (ending_of (everyone_finished table (actors_of table) actors)) counted in
      λ i. record { mask = same i; count = counted i; ending = ending i }
