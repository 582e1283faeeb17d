-- A schedule in the middle of its run: the arrays hold the state that the entries so far have left. What the first entry that is refused, one more
-- step, and the end make of that.
-- Assumes nothing.
use mathlib.Core.Path.{◌≡◌, refl, ◌∙◌, ap, fun_ext}
use mathlib.Core.Bool.{true, false}
use mathlib.Core.Logic.{◌⊎◌, inl, inr}
use mathlib.Core.List.{List, map}
use Prim.Native.Nat.{ℕ, ◌+◌, ◌<◌, ◌≤◌}
use native.Mathlib.Omega.{arith}
use borrow.Author.Tests.{eqb-true, eqb-false}
use lib.Dec.{eqb}
use lib.ListN.{length, get_or, take, set, length-map}
use lib.Seq.{get_or-set_same, get_or-set_other}
use Rattle.table.specs.Format.{actors_of, count_of}
use Rattle.table.specs.Promise.{WellFormed}
use Rattle.trace.specs.Schedule.{accepted, final, names}
use Rattle.trace.specs.Order.{has}
use Rattle.trace.proofs.Bools.{which}
use Rattle.model.specs.Site.{Site, upd, initial}
use Rattle.model.specs.Mutex.{join}
use Rattle.model.specs.Pair.{is_join, post_at}
use Rattle.model.specs.Depths.{depth_in}
use Rattle.model.specs.Schedule.{machine}
use Rattle.model.specs.Reached.{actors_in, locks_below, Reached}
use Rattle.model.proofs.ReportBoundQueues.{once-count}
use Rattle.model.proofs.QueuedOnce.{once_join, join-members}
use Rattle.model.proofs.QueuedDepths.{join-own, depth-most, queued-locked}
use Rattle.model.proofs.ReportBoundCounts.{how_many-most}
use Rattle.model.proofs.ReportBoundLengths.{stepped-actor}
use Rattle.names.specs.InByte.{name_of}
use Rattle.state.specs.declared.arrays.Site.{Site as Arrays}
use Rattle.state.specs.State.{record_of, records_of, fresh_actor, site_of}
use Rattle.state.specs.Rooms.{tail_in}
use Rattle.state.specs.declared.Actor.{Actor}

-- the state after the first i entries
abbrev pub reached : List ℕ → List ℕ → ℕ → Site
reached table schedule i = final (machine table) initial (take i schedule)

pub record Playing (table schedule : List ℕ) (arrays : Arrays) (actors : List Actor) (i : ℕ) : Type 0 where
  pub accepted-table : WellFormed table
  pub site : site_of actors arrays ≡ reached table schedule i
  pub taken : accepted (machine table) initial (take i schedule) ≡ true
  pub index : i ≤ length schedule
  pub actors-long : length actors ≡ 8
  pub tail-room : (n : ℕ) → tail_in arrays.mail.ends n ≤ i

-- where the names of the steps are kept: those of the entries so far
pub record Named (table schedule names' : List ℕ) (i : ℕ) : Type 0 where
  pub names-long : length names' ≡ 256
  pub names-right : map name_of (take i names') ≡ names (machine table) initial (take i schedule)

-- a record put into its place
pub records-set : (actors : List Actor) (a : ℕ) (next : Actor) → a < length actors
    → records_of (set actors a next) ≡ upd eqb (records_of actors) a (record_of next)
records-set actors a next h = fun_ext (λ j. go j (which (eqb j a)))
  where
    go : (j : ℕ) → (eqb j a ≡ true) ⊎ (eqb j a ≡ false) → records_of (set actors a next) j ≡ upd eqb (records_of actors) a (record_of next) j
    go j (inl e) =
        rw e
        (ap (λ (k : ℕ). record_of (get_or (set actors a next) k fresh_actor)) (eqb-true j a e)
        ∙ ap record_of (get_or-set_same actors a next fresh_actor h))
    go j (inr e) = rw e (ap record_of (get_or-set_other actors a j next fresh_actor (eqb-false j a e)))

-- no queue outgrows eight by a Lock
pub join-most : (table : List ℕ) (s : Site) (a : ℕ) → WellFormed table → Reached table s → a < actors_of table → (m : ℕ) → length (join (s.queue m) a) ≤ 8
join-most table s a ok i here m =
    omega (
      arith,
      ok.actors-most,
      length-map (join (s.queue m) a) (λ x. x.actor),
      once-count (λ b. true) (actors_of table) 0 (actors_in (join (s.queue m) a)) (once_join a (s.queue m) (i.queued-once m)) member,
      how_many-most (λ b. true) (actors_of table) 0,
    )
  where
    in-table : (b : ℕ) → (b ≡ a) ⊎ (has (actors_in (s.queue m)) b ≡ true) → b < actors_of table
    in-table b (inl e) = omega arith
    in-table b (inr h) =
        let k = queued-locked table s m b (s.queue m) (i.queued-depths m) h in stepped-actor table s i b (omega (arith, k.1))

    member : (b : ℕ) → has (actors_in (join (s.queue m) a)) b ≡ true → (0 ≤ b) × (b < 0 + actors_of table) × (true ≡ true)
    member b h = (omega arith, omega (arith, in-table b (join-members a b (s.queue m) h)), refl)

-- and no depth 32: an actor that has an action left has locked at most 31 times
pub deeper-most : (table : List ℕ) (s : Site) (a : ℕ) → WellFormed table → Reached table s → a < actors_of table → (s.actor a).position < count_of table a
    → (m : ℕ) → depth_in (join (s.queue m) a) a ≤ 32
deeper-most table s a ok i here left m =
    omega (
      arith,
      join-own (s.queue m) a,
      depth-most (locks_below table s m) (s.queue m) a (i.queued-depths m),
      how_many-most (λ k. is_join (post_at table a k) m) (s.actor a).position 0,
      ok.actions-most a here,
    )
