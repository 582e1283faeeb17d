-- Sections of different kinds, each written into the rest after the section before it.
-- Assumes nothing.
use mathlib.Core.Path.{◌≡◌, refl, ◌∙◌, ap, sym, subst}
use mathlib.Core.List.{List, ◌++◌, append_assoc}
use Prim.Native.Nat.{ℕ, ◌+◌, ◌≤◌}
use native.Mathlib.Omega.{arith}
use lib.ListN.{length, length-append}
use Rattle.writing.specs.Written.{Wrote}
use Rattle.writing.proofs.Written.{rest, joined, rest-room, written-length, wrote_then}

-- of the bytes `whole`, which have room in e, all but `left` are written: the buffer is b, and they end at `at`
pub record Begun (whole e b : List ℕ) (at : ℕ) (left : List ℕ) : Type 0 where
  pub front : List ℕ
  pub split : whole ≡ front ++ left
  pub room : length whole ≤ length e
  pub wrote : Wrote e front b at

pub first-section : (s left : List ℕ) {e b : List ℕ} {at : ℕ} → length (s ++ left) ≤ length e → Wrote e s b at → Begun (s ++ left) e b at left
first-section s left h w = record { front = s; split = refl; room = h; wrote = w }

module _ {whole e b : List ℕ} {at : ℕ} {left : List ℕ} (g : Begun whole e b at left) where
  within : at + length left ≤ length e
  within =
      let sum : length whole ≡ length g.front + length left = ap length g.split ∙ length-append g.front left in
      omega (arith, g.room, g.wrote.0)

  -- before the next section
  left-fits : at + length left ≤ length b
  left-fits =
      let same : length b ≡ length e = written-length e g.front b (omega (arith, within, g.wrote.0)) g.wrote.1 in
      omega (arith, within)

  pub left_at : at ≤ length b
  left_at = omega (arith, left-fits)

  pub left-room : length left ≤ length (rest at b)
  left-room = rest-room at (length left) b left-fits

  -- after the last
  pub last-wrote : {p : List ℕ} {m : ℕ} → Wrote (rest at b) left p m → Wrote e whole (joined at b p) (at + m)
  last-wrote {p} {m} v = subst (λ (s : List ℕ). Wrote e s (joined at b p) (at + m)) (sym g.split) (wrote_then e g.front b left p at m g.wrote v)

-- one section of several
module _ (s left : List ℕ) {whole e b : List ℕ} {at : ℕ} (g : Begun whole e b at (s ++ left)) where
  pub section-room : length s ≤ length (rest at b)
  section-room = omega (arith, left-room g, length-append s left)

  pub next-section : {p : List ℕ} {m : ℕ} → Wrote (rest at b) s p m → Begun whole e (joined at b p) (at + m) left
  next-section {p} {m} v =
      record {
        front = g.front ++ s;
        split = g.split ∙ sym (append_assoc g.front s left);
        room = g.room;
        wrote = wrote_then e g.front b s p at m g.wrote v;
      }
