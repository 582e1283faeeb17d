-- What a part says that is the remainder by two lengths, whose it is and from where on; and that the end of a slice from there on is what is handed
-- back. Assumes nothing.
use Prim.Native.Nat.{ℕ, ◌+◌, ◌-◌, ◌≤◌, ◌<◌}
use native.Mathlib.Nat.{add_comm}
use native.Mathlib.Omega.{arith}
use mathlib.Core.Path.{◌≡◌, sym, ◌∙◌, ap}
use borrow.Author.Tests.{lt-ltb, le-ltb}
use lib.ListN.{length, take, drop}
use Rattle.model.specs.Recordings as Model
use Rattle.model.proofs.RecordingLaws.{by_lengths}
use Rattle.answers.specs.declared.Recording.TheVariants.{First, Second}
use Rattle.answers.specs.declared.Part.{Part}
use Rattle.answers.specs.Answers.{recording_of, part_of}

apart : {X : Type 0} → Model.the_first ≡ Model.the_second → X
apart e = let z : ◌≡◌ {A = ℕ} 0 1 = ap (λ (r : Model.Recording). Model.choose r 0 1) e in absurd (omega arith)

whose : (p : Part) (x : Model.Part) → part_of p ≡ x → recording_of p.recording ≡ x.recording
whose p x e = ap (λ (y : Model.Part). y.recording) e

from-where : (p : Part) (x : Model.Part) → part_of p ≡ x → p.from ≡ x.from
from-where p x e = ap (λ (y : Model.Part). y.from) e

pub of-first : (m n : ℕ) (p : Part) → part_of p ≡ Model.remainder_of m n → p.recording ≡ First → (n ≤ m) × (p.from ≡ n)
of-first m n =
    by_lengths m n (λ (x : Model.Part). (p : Part) → part_of p ≡ x → p.recording ≡ First → (n ≤ m) × (p.from ≡ n))
    (λ l p e f. apart (sym (ap recording_of f) ∙ whose p _ e))
    (λ l p e f. (l, from-where p _ e))

pub of-second : (m n : ℕ) (p : Part) → part_of p ≡ Model.remainder_of m n → p.recording ≡ Second → (m < n) × (p.from ≡ m)
of-second m n =
    by_lengths m n (λ (x : Model.Part). (p : Part) → part_of p ≡ x → p.recording ≡ Second → (m < n) × (p.from ≡ m))
    (λ l p e f. (l, from-where p _ e))
    (λ l p e f. apart (sym (whose p _ e) ∙ ap recording_of f))

-- a slice from one byte on
abbrev tail : Model.Slice → ℕ → Model.Slice
tail s from =
    record { block = s.block; offset = from + s.offset; bytes = take (length s.bytes - from) (drop from s.bytes) }

module _ (a b : Model.Slice) (from : ℕ) where
  pub left-of-first : length b.bytes ≤ length a.bytes → from ≡ length b.bytes → tail a from ≡ Model.remainder_in a b
  unfolding Model.remainder_in
  left-of-first l e = rw (e, le-ltb _ _ l, add_comm (length b.bytes) a.offset)

  pub left-of-second : length a.bytes < length b.bytes → from ≡ length a.bytes → tail b from ≡ Model.remainder_in a b
  unfolding Model.remainder_in
  left-of-second l e = rw (e, lt-ltb _ _ l, add_comm (length a.bytes) b.offset)
