-- The ports' ends after a store: a store at a head leaves the other heads and all tails as they are, and the other way round.
-- Assumes nothing.
use Prim.Native.Nat.{ℕ, ◌+◌, ◌*◌, ◌<◌}
use native.Mathlib.Omega.{arith}
use mathlib.Core.Path.{◌≡◌}
use mathlib.Core.Logic.{◌⊎◌, inl, inr, ◌≢◌}
use mathlib.Core.Bool.{true, false}
use mathlib.Core.List.{List}
use borrow.Author.Tests.{eqb-true, eqb-false}
use lib.Dec.{eqb}
use lib.ListN.{length, get_or, set}
use lib.Seq.{get_or-set_same, get_or-set_other}
use Rattle.trace.proofs.Bools.{which}
use Rattle.state.specs.Rooms.{head_in, tail_in}

-- ends of one kind, heads or tails: a store at port n's leaves the others'; what holds of the stored one, and of every one before the store, holds of
-- every one after it
module _ (place : ℕ → ℕ) (one : (j k : ℕ) → place j ≡ place k → j ≡ k) (ends : List ℕ) (n v : ℕ) where
  other : (k : ℕ) → k ≢ n → get_or (set ends (place n) v) (place k) 0 ≡ get_or ends (place k) 0
  other k ne = get_or-set_other ends (place n) (place k) v 0 (λ e. ne (one k n e))

  each : place n < length ends → (P : ℕ → ℕ → Type 0) → P n v → ((k : ℕ) → P k (get_or ends (place k) 0)) → (k : ℕ)
      → P k (get_or (set ends (place n) v) (place k) 0)
  each inside P own before k = go (which (eqb k n))
    where
      go : (eqb k n ≡ true) ⊎ (eqb k n ≡ false) → P k (get_or (set ends (place n) v) (place k) 0)
      go (inl t) = rw (eqb-true k n t) (rw (get_or-set_same ends (place n) v 0 inside) own)
      go (inr f) = rw (other k (eqb-false k n f)) (before k)

module _ (ends : List ℕ) (n v : ℕ) where
  -- a store at a tail leaves all heads, and one at a head all tails
  pub heads-kept : (k : ℕ) → head_in (set ends (2 * n + 1) v) k ≡ head_in ends k
  heads-kept k = get_or-set_other ends (2 * n + 1) (2 * k) v 0 (λ e. omega arith)

  pub tails-kept : (k : ℕ) → tail_in (set ends (2 * n) v) k ≡ tail_in ends k
  tails-kept k = get_or-set_other ends (2 * n) (2 * k + 1) v 0 (λ e. omega arith)

  pub head-other : (k : ℕ) → k ≢ n → head_in (set ends (2 * n) v) k ≡ head_in ends k
  head-other = other (λ k. 2 * k) (λ j k e. omega arith) ends n v

  pub tail-other : (k : ℕ) → k ≢ n → tail_in (set ends (2 * n + 1) v) k ≡ tail_in ends k
  tail-other = other (λ k. 2 * k + 1) (λ j k e. omega arith) ends n v

  module _ (long : length ends ≡ 32) (small : n < 16) where
    pub head-own : head_in (set ends (2 * n) v) n ≡ v
    head-own = get_or-set_same ends (2 * n) v 0 (omega arith)

    pub tail-own : tail_in (set ends (2 * n + 1) v) n ≡ v
    tail-own = get_or-set_same ends (2 * n + 1) v 0 (omega arith)

    pub each-head : (P : ℕ → ℕ → Type 0) → P n v → ((k : ℕ) → P k (head_in ends k)) → (k : ℕ) → P k (head_in (set ends (2 * n) v) k)
    each-head = each (λ k. 2 * k) (λ j k e. omega arith) ends n v (omega arith)

    pub each_tail : (P : ℕ → ℕ → Type 0) → P n v → ((k : ℕ) → P k (tail_in ends k)) → (k : ℕ) → P k (tail_in (set ends (2 * n + 1) v) k)
    each_tail = each (λ k. 2 * k + 1) (λ j k e. omega arith) ends n v (omega arith)
