-- Bytes that move up by one within a list.
-- Assumes nothing.
use Rattle.std.proofs.Common.{◌≡◌, sym, ◌∙◌, ap, ℕ, ◌+◌, ◌≤◌, List, ◌++◌, length, take, drop, arith}
use Rattle.std.proofs.Math.Seq.{paste, take-take, take_at, drop_at, length-take-le}
use Rattle.std.proofs.lemmas.List.{drop-take, length-drop}
use Rattle.std.proofs.lemmas.List.Edits.{length-paste, take-paste, drop-paste}

-- the n bytes behind `from` have moved up by one; those before it and after the n are as they were
pub record MovedUp (l after : List ℕ) (from n : ℕ) : Type 0 where
  pub long : length after ≡ length l
  pub before : take from after ≡ take from l
  pub moved : take n (drop from after) ≡ take n (drop (from + 1) l)
  pub behind : drop (from + n) after ≡ drop (from + n) l

pub moved-up : (l : List ℕ) (from n : ℕ) → from + n + 1 ≤ length l → MovedUp l (paste l from (drop (from + 1) l) n) from n
moved-up l from n fits =
    let s : List ℕ = drop (from + 1) l in
    let after : List ℕ = paste l from s n in
    let enough : n ≤ length s = omega (arith, length-drop (from + 1) l) in
    let starts : length (take from l) ≡ from = length-take-le from l (omega arith) in
    let front : take (from + n) after ≡ take from l ++ take n s = take-paste l from s n (omega arith) enough in
    record {
      long = length-paste l from s n (omega arith) enough;
      before = sym (take-take from (from + n) after (omega arith)) ∙ ap (take from) front ∙ take_at (take from l) (take n s) from starts;
      moved = sym (drop-take from n after) ∙ ap (drop from) front ∙ drop_at (take from l) (take n s) from starts;
      behind = drop-paste l from s n (omega arith) enough;
    }
