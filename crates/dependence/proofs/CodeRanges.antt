-- Where a code compares listed actions, those of a step of an accepted table stand in the table: by a computed test over every two kinds, none that
-- looks at mutexes has such a code.
-- Assumes nothing but the accepted table.
use Prim.Native.Nat.{ℕ}
use mathlib.Core.Path.{◌≡◌, refl, ◌∙◌, sym, ap, subst}
use mathlib.Core.Logic.{◌⊎◌, inl, inr}
use mathlib.Core.Bool.{Bool, true, false, not, ◌||◌}
use mathlib.Core.List.{List}
use borrow.Author.Tests.{not-true}
use Rattle.table.specs.declared.Action.{Action}
use Rattle.table.specs.declared.Action.TheVariants.{TestAny, WaitAny}
use Rattle.table.specs.declared.Numbers.{Numbers}
use Rattle.table.specs.declared.Kind.{Kind}
use Rattle.table.specs.Promise.{WellFormed, InRange}
use Rattle.trace.specs.Machine.{Name}
use Rattle.trace.proofs.Bools.{contrary}
use Rattle.model.specs.Site.{name}
use Rattle.model.specs.Views.{Look, blind, communications, mutexes, looks}
use Rattle.model.specs.Step.{action_at}
use Rattle.model.proofs.ByKind.{Looking, blindly, testing, mutex-testing, looking, mutex-looks}
use Rattle.actions.specs.Fields.{kind_of, list_of, look_by}
use Rattle.actions.proofs.ByKind.{looks-by}
use Rattle.actions.proofs.EveryKind.{every_two, at-two}
use Rattle.names.specs.Steps.{Stands, Each}
use Rattle.names.proofs.Listed.{listed-standing}
use Rattle.dependence.specs.declared.Compared.{Compared}
use Rattle.dependence.specs.Codes.{code_of, lists_own}

-- ---- the test

abbrev at_mutexes : Look → Bool
at_mutexes blind = false
at_mutexes (communications l) = false
at_mutexes (mutexes l) = true

-- the code of kinds i and j compares no listed actions, or what an action of kind i that lists l looks at are not mutexes
abbrev fits : List ℕ → Kind → Kind → Bool
fits l i j = not (lists_own (code_of i j)) || not (at_mutexes (look_by i l))

all_fit : (l : List ℕ) → every_two (fits l) ≡ true
unfolding code_of
all_fit l = refl

no-mutexes : (t : Action) (j : Kind) → lists_own (code_of (kind_of t) j) ≡ true → at_mutexes (looks t) ≡ false
no-mutexes t j own =
    let test = at-two (fits (list_of t)) (all_fit (list_of t)) (kind_of t) j in
    ap at_mutexes (looks-by t) ∙ not-true (at_mutexes (look_by (kind_of t) (list_of t))) (rw own at test)

-- ---- the actions that a step lists

module _ (table : List ℕ) (accepted : WellFormed table) (x : Name) (s : Stands table x) where
  abbrev Own : Action → Type 0
  Own t = Each (λ k. Stands table (name x.actor k)) (list_of t)

  by-action : (t : Action) → InRange table x.actor x.position t → (j : Kind) → lists_own (code_of (kind_of t) j) ≡ true → Own t
  by-action t h j own = go (looking t)
    where
      in-range : {y : Action} → t ≡ y → InRange table x.actor x.position y
      in-range e = subst (InRange table x.actor x.position) e h

      tested : (list : Numbers) (result : ℕ) → (t ≡ TestAny result list) ⊎ (t ≡ WaitAny result list) → Own t
      tested list result (inl e) = rw e (listed-standing table x s list (in-range e).1)
      tested list result (inr e) = rw e (listed-standing table x s list (in-range e).1)

      go : Looking t → Own t
      go (blindly e) = rw e tt
      go (testing list w) = tested list w.0 w.1
      go (mutex-testing list w) = contrary (ap at_mutexes (mutex-looks t list w)) (no-mutexes t j own)

  -- from what was looked up: the step's action t, its kind i and its code with a kind j
  pub own-listed : {t : Action} {i : Kind} {code : Compared} (j : Kind) → t ≡ action_at table x → i ≡ kind_of t → code ≡ code_of i j → lists_own code ≡ true → Own t
  own-listed {t} {i} {code} j found kind e own =
      by-action t (subst (InRange table x.actor x.position) (sym found) (accepted.in-range x.actor x.position s.0 s.1)) j (rw (e, kind) at own)
