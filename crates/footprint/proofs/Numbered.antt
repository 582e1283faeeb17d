-- A step by the number of its kind: a Send, Receive, Lock or Unlock posts to the resource of its kind and its p, and no other kind to a mailbox or a mutex.
-- Assumes nothing but the accepted table.
use Prim.Native.Nat.{ℕ, zero, suc, ◌<◌}
use native.Mathlib.Omega.{arith}
use mathlib.Core.Path.{◌≡◌, refl, sym, ◌∙◌, ap₂, subst}
use mathlib.Core.Logic.{◌⊎◌, inl, inr, ◌≢◌}
use mathlib.Core.Bool.{true, false, ◌||◌, false≢true}
use mathlib.Core.List.{List, [], ◌∷◌}
use borrow.Author.Tests.{eqb-true}
use lib.Dec.{eqb}
use Rattle.table.specs.declared.Action.{Action}
use Rattle.table.specs.declared.Action.TheVariants.{Send, Receive, Lock, Unlock}
use Rattle.table.specs.Format.{offset_of, place_of, kind_at, p_at, q_at}
use Rattle.table.specs.Decode.{decode_as, action_of}
use Rattle.table.specs.Promise.{WellFormed}
use Rattle.table.proofs.Decoded.{of-kind}
use Rattle.trace.proofs.Bools.{or_cases}
use Rattle.model.specs.Site.{name}
use Rattle.model.specs.Views.{blind, posts, looks}
use Rattle.model.specs.Pair.{post_at}
use Rattle.names.specs.Steps.{Stands}
use Rattle.footprint.specs.Resources.{resource, unlock_group, numbered, posted_to, contested_by, Unnumbered}
use Rattle.footprint.specs.Latest.{Posted, Passed}
use Rattle.footprint.proofs.Passes.{small-post-as, passed-contest, passed-release}

abbrev OneOfFour : ℕ → Type 0
OneOfFour kind = (kind ≡ 3) ⊎ ((kind ≡ 4) ⊎ ((kind ≡ 7) ⊎ (kind ≡ 8)))

one-of-four : (kind : ℕ) → numbered kind ≡ true → OneOfFour kind
one-of-four kind t = first (or_cases (eqb kind 3) (eqb kind 4 || (eqb kind 7 || eqb kind 8)) t)
  where
    third : (eqb kind 7 ≡ true) ⊎ (eqb kind 8 ≡ true) → OneOfFour kind
    third (inl e) = inr (inr (inl (eqb-true kind 7 e)))
    third (inr e) = inr (inr (inr (eqb-true kind 8 e)))

    second : (eqb kind 4 ≡ true) ⊎ ((eqb kind 7 || eqb kind 8) ≡ true) → OneOfFour kind
    second (inl e) = inr (inl (eqb-true kind 4 e))
    second (inr h) = third (or_cases (eqb kind 7) (eqb kind 8) h)

    first : (eqb kind 3 ≡ true) ⊎ ((eqb kind 4 || (eqb kind 7 || eqb kind 8)) ≡ true) → OneOfFour kind
    first (inl e) = inl (eqb-true kind 3 e)
    first (inr h) = second (or_cases (eqb kind 4) (eqb kind 7 || eqb kind 8) h)

module _ (table : List ℕ) (a k : ℕ) where
  abbrev at : ℕ
  at = place_of (offset_of table a) k

  -- ---- the action of each of the four kinds

  is-send : kind_at table at ≡ 3 → action_of table a k ≡ Send (p_at table at) (q_at table at)
  unfolding decode_as
  is-send e = sym (of-kind table at 3 e)

  is-receive : kind_at table at ≡ 4 → action_of table a k ≡ Receive (p_at table at) (q_at table at)
  unfolding decode_as
  is-receive e = sym (of-kind table at 4 e)

  is-lock : kind_at table at ≡ 7 → action_of table a k ≡ Lock (p_at table at)
  unfolding decode_as
  is-lock e = sym (of-kind table at 7 e)

  is-unlock : kind_at table at ≡ 8 → action_of table a k ≡ Unlock (p_at table at)
  unfolding decode_as
  is-unlock e = sym (of-kind table at 8 e)

  -- ---- it posts to its p

  module _ {kind number : ℕ} (ek : kind ≡ kind_at table at) (en : number ≡ p_at table at) (t : numbered kind ≡ true) where
    pub numbers-small : WellFormed table → Stands table (name a k) → (kind < 12) × (number < 8)
    numbers-small ok s = go (one-of-four kind t)
      where
        go : OneOfFour kind → (kind < 12) × (number < 8)
        go (inl e) = let small = small-post-as ok s (is-send (sym ek ∙ e)) in (omega (arith, e), omega (arith, en, small))
        go (inr (inl e)) = let small = small-post-as ok s (is-receive (sym ek ∙ e)) in (omega (arith, e), omega (arith, en, small))
        go (inr (inr (inl e))) = let small = small-post-as ok s (is-lock (sym ek ∙ e)) in (omega (arith, e), omega (arith, en, small))
        go (inr (inr (inr e))) = let small = small-post-as ok s (is-unlock (sym ek ∙ e)) in (omega (arith, e), omega (arith, en, small))

    module _ {place met : ℕ} {before after sights : List ℕ} (p : Posted kind (resource kind number) place before sights after met) where
      here : (group : ℕ) → kind ≡ group → (resource group (p_at table at) ∷ []) ≡ (resource kind number ∷ [])
      here group e = ap₂ (λ g n. resource g n ∷ []) (sym e) (sym en)

      contests : (group : ℕ) {y : Action} → kind ≡ group → group ≢ unlock_group → action_of table a k ≡ y → looks y ≡ blind
          → posted_to (posts y) ≡ resource group (p_at table at) ∷ [] → contested_by (posts y) ≡ resource group (p_at table at) ∷ []
          → Passed table (name a k) place before sights after sights met
      contests group e other is g f h =
          passed-contest is g (f ∙ here group e) p.raised-there (h ∙ here group e) (p.contested-met (λ u. other (sym e ∙ u)))

      pub passed-post : Passed table (name a k) place before sights after sights met
      passed-post = go (one-of-four kind t)
        where
          go : OneOfFour kind → Passed table (name a k) place before sights after sights met
          go (inl e) = contests 3 e (λ h. omega (arith, h)) (is-send (sym ek ∙ e)) refl refl refl
          go (inr (inl e)) = contests 4 e (λ h. omega (arith, h)) (is-receive (sym ek ∙ e)) refl refl refl
          go (inr (inr (inl e))) = contests 7 e (λ h. omega (arith, h)) (is-lock (sym ek ∙ e)) refl refl refl
          go (inr (inr (inr e))) = passed-release (is-unlock (sym ek ∙ e)) refl (here 8 e) p.raised-there refl (p.released-met e)

  -- ---- any other kind

  unnumbered : (kind : ℕ) → numbered kind ≡ false → Unnumbered (posts (decode_as kind table at))
  unfolding decode_as
  unnumbered zero f = tt
  unnumbered (suc zero) f = tt
  unnumbered (suc (suc zero)) f = tt
  unnumbered (suc (suc (suc zero))) f = absurd (false≢true (sym f))
  unnumbered (suc (suc (suc (suc zero)))) f = absurd (false≢true (sym f))
  unnumbered (suc (suc (suc (suc (suc zero))))) f = tt
  unnumbered (suc (suc (suc (suc (suc (suc zero)))))) f = tt
  unnumbered (suc (suc (suc (suc (suc (suc (suc zero))))))) f = absurd (false≢true (sym f))
  unnumbered (suc (suc (suc (suc (suc (suc (suc (suc zero)))))))) f = absurd (false≢true (sym f))
  unnumbered (suc (suc (suc (suc (suc (suc (suc (suc (suc zero))))))))) f = tt
  unnumbered (suc (suc (suc (suc (suc (suc (suc (suc (suc (suc zero)))))))))) f = tt
  unnumbered (suc (suc (suc (suc (suc (suc (suc (suc (suc (suc (suc n))))))))))) f = tt

  pub unnumbered-post : {kind : ℕ} → kind ≡ kind_at table at → numbered kind ≡ false → Unnumbered (post_at table a k)
  unnumbered-post {kind} e f = subst (λ n. Unnumbered (posts (decode_as n table at))) e (unnumbered kind f)
