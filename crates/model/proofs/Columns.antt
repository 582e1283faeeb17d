-- Texts in columns: their length, and that they are printed.
-- Assumes nothing.
use Prim.Native.Nat.{ℕ, zero, suc, ◌-◌, ◌/◌, ◌%◌, ◌<◌, ◌≤◌}
use native.Mathlib.Omega.{arith}
use borrow.Author.Tests.{le-leb, leb-true, ne_eqb}
use mathlib.Core.Path.{◌≡◌, refl}
use mathlib.Core.Bool.{true, false, ◌&&◌}
use mathlib.Core.List.{List, [], ◌∷◌, ◌++◌}
use lib.Dec.{leb}
use lib.ListN.{length, replicate, length-append, length-replicate}
use Rattle.trace.specs.Order.{has}
use Rattle.trace.proofs.Bools.{both, and_left, and_right}
use Rattle.model.specs.Report.{parts}
use Rattle.model.specs.Text.{digit, digits, decimal, space, right, line_feed}
use Rattle.model.specs.PageShape.{printable}

-- ---- lengths

pub length-right : (columns : ℕ) (text : List ℕ) → length text ≤ columns → length (right columns text) ≡ columns
length-right columns text h = simp (length-append, length-replicate) (omega arith)

-- ---- printed

pub printed-append : (s t : List ℕ) → printable s ≡ true → printable t ≡ true → printable (s ++ t) ≡ true
printed-append [] t p q = q
printed-append (c ∷ s) t p q =
    both (and_left (leb 32 c && leb c 126) (printable s) p) (printed-append s t (and_right (leb 32 c && leb c 126) (printable s) p) q)

printed-one : (c : ℕ) → 32 ≤ c → c ≤ 126 → printable (c ∷ []) ≡ true
printed-one c h k = both (both (le-leb 32 c h) (le-leb c 126 k)) refl

printed-digit : (n : ℕ) → n < 10 → printable (digit n ∷ []) ≡ true
printed-digit n h = printed-one (digit n) (omega arith) (omega arith)

printed-digits : (most n : ℕ) → printable (digits most n) ≡ true
printed-digits zero n = refl
printed-digits (suc most) zero = refl
printed-digits (suc most) (suc n) =
    printed-append (digits most (suc n / 10)) (digit (suc n % 10) ∷ []) (printed-digits most (suc n / 10)) (printed-digit (suc n % 10) (omega arith))

pub printed-decimal : (n : ℕ) → printable (decimal n) ≡ true
printed-decimal n = printed-append (digits n (n / 10)) (digit (n % 10) ∷ []) (printed-digits n (n / 10)) (printed-digit (n % 10) (omega arith))

printed-spaces : (n : ℕ) → printable (replicate n space) ≡ true
printed-spaces zero = refl
printed-spaces (suc n) = printed-spaces n

pub printed-right : (columns : ℕ) (text : List ℕ) → printable text ≡ true → printable (right columns text) ≡ true
printed-right columns text h = printed-append (replicate (columns - length text) space) text (printed-spaces (columns - length text)) h

pub printed-parts : (f : ℕ → List ℕ) (n k : ℕ) → ((j : ℕ) → printable (f j) ≡ true) → printable (parts f n k) ≡ true
printed-parts f zero k h = refl
printed-parts f (suc n) k h = printed-append (f k) (parts f n (suc k)) (h k) (printed-parts f n (suc k) h)

-- a line feed is not printed
pub no-feed : (text : List ℕ) → printable text ≡ true → has text line_feed ≡ false
no-feed [] h = refl
no-feed (c ∷ text) h =
    let low : 32 ≤ c = leb-true 32 c (and_left (leb 32 c) (leb c 126) (and_left (leb 32 c && leb c 126) (printable text) h)) in
    rw (ne_eqb line_feed c (omega arith)) (no-feed text (and_right (leb 32 c && leb c 126) (printable text) h))
