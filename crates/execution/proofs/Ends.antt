-- What an execution's end is good for: its schedule is accepted, its positions are small, and it can be asked who is ready.
-- Assumes nothing.
use Prim.Native.Nat.{ℕ, ◌<◌}
use mathlib.Core.Path.{◌≡◌, sym, subst}
use mathlib.Core.Logic.{◌⊎◌, inl, inr}
use mathlib.Core.Bool.{true, false}
use mathlib.Core.List.{List}
use native.Mathlib.Omega.{arith}
use borrow.Author.Tests.{ltb-true, ltb-false}
use lib.Dec.{ltb}
use Rattle.table.specs.Format.{actors_of}
use Rattle.table.specs.Read.{read_of}
use Rattle.table.proofs.Checks.{then-right}
use Rattle.trace.specs.Schedule.{accepted}
use Rattle.trace.proofs.Bools.{which}
use Rattle.model.specs.Site.{Site, initial}
use Rattle.model.specs.Schedule.{machine, end_state, first_numbers, check_schedule}
use Rattle.model.proofs.Checks.{checks-taken}
use Rattle.model.proofs.Reached.{reached-end}
use Rattle.state.specs.declared.Actor.{Actor}
use Rattle.state.specs.declared.arrays.Site.{Site as Arrays}
use Rattle.state.specs.State.{Positions}
use Rattle.readiness.specs.Parts.{Answerable}
use Rattle.execution.specs.Parts.{AtEnd}

module _ {table schedule : List ℕ} {arrays : Arrays} {names : List ℕ} {actors : List Actor} (E : AtEnd table schedule arrays names actors) where
  pub all-taken : accepted (machine table) initial schedule ≡ true
  all-taken = checks-taken table first_numbers initial 0 schedule (then-right (read_of table) (check_schedule first_numbers table schedule) E.checked)

  pub positions-small : Positions actors
  positions-small a = subst (λ (s : Site). (s.actor a).position < 256) (sym E.end.site) (go (which (ltb a (actors_of table))))
    where
      go : (ltb a (actors_of table) ≡ true) ⊎ (ltb a (actors_of table) ≡ false) → ((end_state table schedule).actor a).position < 256
      go (inl h) =
          let most = (reached-end table schedule all-taken).position-most a in
          let few = E.promise.actions-most a (ltb-true a (actors_of table) h) in omega arith
      go (inr h) = let none = (reached-end table schedule all-taken).absent-still a (ltb-false a (actors_of table) h) in omega arith

  pub answerable : Answerable table actors
  answerable =
      record {
        accepted = E.promise;
        actors-long = E.end.actors-long;
      }
