-- Two recordings: what the verdict on them looks at and says, by what the same verdict says; and that the longer goes on from the shorter one's end.
-- Assumes nothing.
use Prim.Native.Nat.{ℕ, ◌+◌, ◌-◌, ◌≤◌, ◌<◌}
use native.Mathlib.Nat.{zero-add}
use native.Mathlib.Omega.{arith}
use mathlib.Core.Path.{◌≡◌, refl, sym, ◌∙◌, ap, subst}
use mathlib.Core.Logic.{◌⊎◌, inl, inr}
use mathlib.Core.Bool.{Bool, true, false, cond}
use mathlib.Core.List.{List, ◌++◌}
use borrow.Author.Tests.{ltb-true, ltb-false}
use lib.Dec.{ltb}
use lib.ListN.{length, take, drop, length-append, length-drop, take-append-drop}
use lib.Seq.{take_all, take_at}
use Rattle.table.specs.Outcome.{accepted}
use Rattle.table.specs.Read.{read_of}
use Rattle.trace.specs.Schedule.{accepted as all-taken, final}
use Rattle.trace.specs.Same.{equivalent}
use Rattle.trace.proofs.Bools.{which}
use Rattle.trace.proofs.Run.{final-append, accepted-append, accepted-after}
use Rattle.model.specs.Site.{Site, initial}
use Rattle.model.specs.Schedule.{machine, end_state, check_from}
use Rattle.model.specs.Calls.{SameVerdict, same, different, comparison_of}
use Rattle.model.specs.Demand3.{Accepted, Says}
use Rattle.model.specs.Over.{GoOnAlike}
use Rattle.model.specs.Recordings.{held, prefix_comparison_of, Recording, the_first, the_second, choose, Part, remainder_of, Slice, remainder_in}
use Rattle.model.specs.RecordingLaws.{remainder_part, longer, shorter, remainder, longer_slice, Handed, Split, Continues, EveryRecording}
use Rattle.model.proofs.Checks.{checks-after}
use Rattle.model.proofs.Demand3.{says-test, demand-3}
use Rattle.model.proofs.SameVerdicts.{called_same, called-different, same-either-way}
use Rattle.model.proofs.Over.{every-over}

-- ---- by the two lengths

-- the remainder is of the second, or of the first
pub by_lengths : (m n : ℕ) (P : Part → Type 0)
    → (m < n → P (record { recording = the_second; from = m; length = n - m }))
    → (n ≤ m → P (record { recording = the_first; from = n; length = m - n }))
    → P (remainder_of m n)
by_lengths m n P under over = go (which (ltb m n))
  where
    of : Bool → Part
    of b = cond b (record { recording = the_second; from = m; length = n - m }) (record { recording = the_first; from = n; length = m - n })

    go : (ltb m n ≡ true) ⊎ (ltb m n ≡ false) → P (of (ltb m n))
    go (inl h) = subst (λ (b : Bool). P (of b)) (sym h) (under (ltb-true m n h))
    go (inr h) = subst (λ (b : Bool). P (of b)) (sym h) (over (ltb-false m n h))

split_at : (short long : List ℕ) → length short ≤ length long
    → Split short long (take (length long - length short) (drop (length short) long)) (length short) (length long - length short)
split_at short long h =
    let tail : List ℕ = drop (length short) long in
    let n : ℕ = length long - length short in
    let all : take n tail ≡ tail = take_all n tail (omega (arith, length-drop (length short) long)) in
    record {
      short = take_all (length long) short h;
      long = rw (all, take-append-drop (length short) long);
      begins = refl;
      counts = sym (ap length all ∙ length-drop (length short) long);
    }

split-of : (p q : List ℕ) → Split (shorter p q) (longer p q) (remainder p q) (remainder_part p q).from (remainder_part p q).length
split-of p q =
    by_lengths (length p) (length q)
    (λ (x : Part).
    Split (choose x.recording q p) (choose x.recording p q) (take x.length (drop x.from (choose x.recording p q))) x.from x.length)
    (λ h. split_at p q (omega arith))
    (λ h. split_at q p h)

chosen-bytes : (r : Recording) (a b : Slice) → (choose r a b).bytes ≡ choose r a.bytes b.bytes
chosen-bytes the_first a b = refl
chosen-bytes the_second a b = refl

handed : (a b : Slice) → Handed a b
unfolding remainder_in
handed a b =
    let part : Part = remainder_part a.bytes b.bytes in
    let same_bytes : (longer_slice a b).bytes ≡ longer a.bytes b.bytes = chosen-bytes part.recording a b in
    record {
      bytes = ap (λ (l : List ℕ). take part.length (drop part.from l)) same_bytes;
      block = refl;
      offset = ap (λ (n : ℕ). (longer_slice a b).offset + n) (split-of a.bytes b.bytes).begins;
      longer-bytes = same_bytes;
    }

module _ (table : List ℕ) where
  -- ---- what the verdict looks at

  -- of the shorter all
  pub first-compared : (p q : List ℕ) → length p ≤ length q → prefix_comparison_of table p q ≡ comparison_of table p (take (length p) q)
  unfolding prefix_comparison_of
  first-compared p q l = ap (λ (r : List ℕ). comparison_of table r (take (length p) q)) (take_all (length q) p l)

  pub second-compared : (p q : List ℕ) → length q ≤ length p → prefix_comparison_of table p q ≡ comparison_of table (take (length q) p) q
  unfolding prefix_comparison_of
  second-compared p q l = ap (comparison_of table (take (length q) p)) (take_all (length p) q l)

  unseen-first : (p q more : List ℕ) → length p ≡ length q → prefix_comparison_of table (p ++ more) q ≡ comparison_of table p q
  unseen-first p q more e =
      second-compared (p ++ more) q (omega (arith, length-append p more)) ∙ ap (λ (r : List ℕ). comparison_of table r q) (take_at p more (length q) e)

  unseen-second : (p q more : List ℕ) → length p ≡ length q → prefix_comparison_of table p (q ++ more) ≡ comparison_of table p q
  unseen-second p q more e =
      first-compared p (q ++ more) (omega (arith, length-append q more)) ∙ ap (comparison_of table p) (take_at q more (length p) (sym e))

  equal-lengths : (p q : List ℕ) → length p ≡ length q → prefix_comparison_of table p q ≡ comparison_of table p q
  equal-lengths p q e = first-compared p q (omega arith) ∙ ap (comparison_of table p) (take_all (length p) q (omega arith))

  held-accepted : (p q : List ℕ) → Accepted table p → Accepted table (held p q)
  held-accepted p q h =
      (accepted-append (machine table) initial (take (length q) p) (drop (length q) p) (rw (take-append-drop (length q) p) h)).0

  module _ (read : read_of table ≡ accepted) where
    -- ---- the longer goes on

    goes_on : (part short rest : List ℕ) → Says (comparison_of table part short) same → Continues table short (part ++ rest) rest
    goes_on part short rest h =
        let c = (called_same table read part short).0 h in
        let end : end_state table short ≡ end_state table part = ((demand-3 table read).chains c.2.0 part short c.0 c.2.1).1.ends in
        let alike : GoOnAlike table part short rest = ((every-over table read).exchanged c.2.0 part short rest c.0 c.2.1).1 in
        record {
          ends = final-append (machine table) initial part rest ∙ ap (λ (s : Site). final (machine table) s rest) (sym end);
          accepts =
              accepted-after (machine table) initial part rest c.0 ∙ ap (λ (s : Site). all-taken (machine table) s rest) (sym end);
          checks =
              λ n.
              sym (alike.checks n) ∙ checks-after table n initial 0 short rest c.1
              ∙ ap (λ (k : ℕ). check_from n table (end_state table short) k rest) (zero-add (length short));
          readies = sym alike.readies;
          runs = λ buffer. sym (alike.runs buffer);
          pages = λ buffer. sym (alike.pages buffer);
        }

    continues-at : (short long : List ℕ) → length short ≤ length long → Says (prefix_comparison_of table long short) same
        → Continues table short long (take (length long - length short) (drop (length short) long))
    unfolding prefix_comparison_of
    continues-at short long l h =
        let rest : List ℕ = take (length long - length short) (drop (length short) long) in
        let parts = split_at short long l in
        subst (λ (r : List ℕ). Continues table short r rest) parts.long (goes_on (held long short) short rest (rw parts.short at h))

    either_way : (p q : List ℕ) (v : SameVerdict) → Says (prefix_comparison_of table p q) v → Says (prefix_comparison_of table q p) v
    unfolding prefix_comparison_of
    either_way p q v h = same-either-way table read (held p q) (held q p) v h

    continues : (p q : List ℕ) → Says (prefix_comparison_of table p q) same → Continues table (shorter p q) (longer p q) (remainder p q)
    continues p q h =
        by_lengths (length p) (length q)
        (λ (x : Part).
        Continues table (choose x.recording q p) (choose x.recording p q) (take x.length (drop x.from (choose x.recording p q))))
        (λ l. continues-at p q (omega arith) (either_way p q same h))
        (λ l. continues-at q p l h)

    accepted-judged : (p q : List ℕ) → Accepted table p → Accepted table q → (v : SameVerdict) × Says (prefix_comparison_of table p q) v
    unfolding prefix_comparison_of
    accepted-judged p q hp hq = (
      cond (equivalent (machine table) initial (held p q) (held q p)) same different,
      (says-test table read (held p q) (held q p) (held-accepted p q hp) (held-accepted q p hq) _).1 refl,
    )

pub every-recording : EveryRecording
unfolding prefix_comparison_of
every-recording =
    record {
      handed = handed;
      split = split-of;
      equal-lengths = equal-lengths;
      unseen = λ table p q more e. (unseen-first table p q more e, unseen-second table p q more e);
      accepted-table = λ table read.
          record {
            called_same = λ p q. called_same table read (held p q) (held q p);
            called-different = λ p q. called-different table read (held p q) (held q p);
            accepted-judged = accepted-judged table read;
            either_way = either_way table read;
            same-either-way = same-either-way table read;
            continues = continues table read;
          };
    }
