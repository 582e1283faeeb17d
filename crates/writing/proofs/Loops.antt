-- A loop that writes one part after another, each into the rest after the parts before it.
-- Assumes nothing.
use mathlib.Core.Path.{◌≡◌, ◌∙◌, ap, sym, subst}
use mathlib.Core.List.{List, ◌++◌, append_assoc, append-nil}
use Prim.Native.Nat.{ℕ, zero, suc, ◌+◌, ◌-◌, ◌<◌, ◌≤◌}
use native.Mathlib.Nat.{add-zero, zero-add, add-suc, suc-add, le_refl}
use native.Mathlib.Numerals.{add-one}
use native.Mathlib.Omega.{arith}
use lib.ListN.{length, length-append}
use Rattle.model.specs.Report.{parts}
use Rattle.writing.specs.Written.{Wrote}
use Rattle.writing.proofs.Written.{rest, joined, rest-room, written-length, wrote_then}

-- one part more, at the end
parts_last : (f : ℕ → List ℕ) (n k : ℕ) → parts f (suc n) k ≡ parts f n k ++ f (k + n)
parts_last f zero k = append-nil (f k) ∙ ap f (sym (add-zero k))
parts_last f (suc n) k =
    ap (λ (l : List ℕ). f k ++ l) (parts_last f n (suc k))
    ∙ rw (suc-add, add-suc) (sym (append_assoc (f k) (parts f n (suc k)) (f (suc (k + n)))))

parts_more : (f : ℕ → List ℕ) (n : ℕ) → parts f (n + 1) 0 ≡ parts f n 0 ++ f n
parts_more f n = rw add-one (parts_last f n 0 ∙ rw zero-add)

-- a part has its place within all of them
parts_within : (f : ℕ → List ℕ) (k d : ℕ) → length (parts f k 0) + length (f k) ≤ length (parts f (suc k + d) 0)
parts_within f k zero =
    rw (add-zero, parts_last f k 0, length-append, zero-add) (le_refl (length (parts f k 0) + length (f k)))
parts_within f k (suc d) =
    let less : length (parts f k 0) + length (f k) ≤ length (parts f (suc k + d) 0) = parts_within f k d in
    rw (add-suc, parts_last f (suc k + d) 0, length-append) (omega arith)

-- of n parts `f 0`, `f 1`, .. that have room in e, the first k are written: the buffer is b, and they end at `at`. A loop's invariant
pub record Turn (f : ℕ → List ℕ) (n : ℕ) (e : List ℕ) (k : ℕ) (b : List ℕ) (at : ℕ) : Type 0 where
  pub room : length (parts f n 0) ≤ length e
  pub most : k ≤ n
  pub wrote : Wrote e (parts f k 0) b at

module _ {f : ℕ → List ℕ} {n : ℕ} {e : List ℕ} {k : ℕ} {b : List ℕ} {at : ℕ} (t : Turn f n e k b at) where
  within : k < n → length (parts f k 0) + length (f k) ≤ length e
  within h =
      let whole : suc k + (n - suc k) ≡ n = omega arith in
      let w : length (parts f k 0) + length (f k) ≤ length (parts f n 0) = subst (λ (m : ℕ). length (parts f k 0) + length (f k) ≤ length (parts f m 0)) whole (parts_within f k (n - suc k)) in
      omega (arith, t.room)

  -- before the next part
  next_fits : k < n → at + length (f k) ≤ length b
  next_fits h =
      let g : length (parts f k 0) + length (f k) ≤ length e = within h in
      let same : length b ≡ length e = written-length e (parts f k 0) b (omega arith) t.wrote.1 in
      omega (arith, t.wrote.0)

  pub next-room : k < n → length (f k) ≤ length (rest at b)
  next-room h = rest-room at (length (f k)) b (next_fits h)

  -- after it
  pub next-turn : {p : List ℕ} {m : ℕ} → k < n → Wrote (rest at b) (f k) p m → Turn f n e (k + 1) (joined at b p) (at + m)
  next-turn {p} {m} h v =
      record { room = t.room; most = omega arith; wrote = rw (parts_more f k) (wrote_then e (parts f k 0) b (f k) p at m t.wrote v) }
