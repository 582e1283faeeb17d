-- The begin and the end of a schedule's run: empty arrays hold a fresh site, and after the last entry the arrays hold the end state.
-- Assumes nothing.
use mathlib.Core.Path.{◌≡◌, refl, ◌∙◌, ap, sym, fun_ext}
use mathlib.Core.Bool.{Bool, true, false, cond}
use mathlib.Core.List.{List, [], map}
use Prim.Native.Nat.{ℕ, ◌+◌, ◌*◌, ◌≤◌}
use native.Mathlib.Omega.{arith}
use lib.Dec.{ltb}
use lib.ListN.{length, get_or, take, drop, replicate, length-replicate}
use lib.Seq.{take-length}
use Rattle.table.specs.Promise.{WellFormed}
use Rattle.trace.specs.Machine.{Name}
use Rattle.trace.specs.Schedule.{accepted, names}
use Rattle.model.specs.Site.{Port, unposted, initial}
use Rattle.model.specs.Schedule.{machine, end_state}
use Rattle.model.proofs.Checks.{taken-checks}
use Rattle.model.proofs.ReportBound.{entries-room}
use Rattle.names.specs.InByte.{name_of}
use Rattle.state.specs.declared.arrays.Site.{Site as Arrays}
use Rattle.state.proofs.Fresh.{get_or-alike, zeros}
use Rattle.state.specs.State.{record_of, records_of, fresh_actor, comm_of, comms_of, waiting_of, queued_of, queues_of, entry_of, site_of, Empty, port_number}
use Rattle.play.specs.Parts.{Through}
use Rattle.state.specs.declared.Actor.{Actor}
use Rattle.play.proofs.Playing.{Playing, Named}

fresh-records : records_of (replicate 8 fresh_actor) ≡ (λ a. record_of fresh_actor)
fresh-records = fun_ext (λ a. ap record_of (get_or-alike 8 a fresh_actor))

fresh-comms : comms_of (zeros 256) ≡ (λ x. unposted)
fresh-comms = fun_ext each
  where
    either : (b : Bool) → cond b unposted unposted ≡ unposted
    either true = refl
    either false = refl

    each : (x : Name) → comms_of (zeros 256) x ≡ unposted
    each x =
        ap (λ (c : ℕ). cond (ltb x.position 32) (comm_of c) unposted) (get_or-alike 256 (32 * x.actor + x.position) 0)
        ∙ either (ltb x.position 32)

fresh-waiting : (log : List ℕ) → waiting_of log (zeros 32) ≡ (λ p. [])
fresh-waiting log = fun_ext each
  where
    each : (p : Port) → waiting_of log (zeros 32) p ≡ []
    each p = rw (get_or-alike {A = ℕ} 32 (2 * port_number p) 0, get_or-alike {A = ℕ} 32 (2 * port_number p + 1) 0)

fresh-queues : queues_of (zeros 72) ≡ (λ m. [])
fresh-queues = fun_ext each
  where
    each : (m : ℕ) → queues_of (zeros 72) m ≡ []
    each m = ap (λ (n : ℕ). map queued_of (take n (drop (9 * m + 1) (zeros 72)))) (get_or-alike {A = ℕ} 72 (9 * m) 0)

fresh-site : (arrays : Arrays) → Empty arrays → site_of (replicate 8 fresh_actor) arrays ≡ initial
unfolding initial
fresh-site arrays z =
    λ i. record {
      actor = fresh-records i;
      mail = record {
        comm = (ap comms_of z.comms-fresh ∙ fresh-comms) i;
        waiting = (ap (waiting_of arrays.mail.log) z.ends_fresh ∙ fresh-waiting arrays.mail.log) i;
      };
      queue = (ap queues_of z.queues-fresh ∙ fresh-queues) i;
      journal = ap (λ (n : ℕ). map entry_of (take n arrays.journal.entries)) z.journal-empty i;
    }

-- such arrays hold a fresh site
pub playing-start : (table schedule : List ℕ) (arrays : Arrays) (actors : List Actor) → WellFormed table → Empty arrays → actors ≡ replicate 8 fresh_actor
    → Playing table schedule arrays actors 0
playing-start table schedule arrays actors ok z e =
    rw e
    (record {
      accepted-table = ok;
      site = fresh-site arrays z;
      taken = refl;
      index = omega arith;
      actors-long = length-replicate 8 fresh_actor;
      tail-room = λ n. omega (arith, ap (λ (l : List ℕ). get_or l (2 * n + 1) 0) z.ends_fresh, get_or-alike {A = ℕ} 32 (2 * n + 1) 0);
    })

pub named_start : (table schedule names' : List ℕ) → length names' ≡ 256 → Named table schedule names' 0
named_start table schedule names' long = record { names-long = long; names-right = refl }

module _ {table schedule : List ℕ} {arrays : Arrays} {actors : List Actor} {i : ℕ}
    (P : Playing table schedule arrays actors i) (through : length schedule ≤ i) where
  all : i ≡ length schedule
  all = omega (arith, P.index)

  whole : take i schedule ≡ schedule
  whole = ap (λ (n : ℕ). take n schedule) all ∙ take-length schedule

  taken-all : accepted (machine table) initial schedule ≡ true
  taken-all = sym (ap (accepted (machine table) initial) whole) ∙ P.taken

  -- the schedule was played to its end
  pub played-through : {names' : List ℕ} → Named table schedule names' i
      → Through table schedule arrays names' (record { steps = i; actors = actors })
  played-through {names'} N =
      record {
        checked = λ n. taken-checks table n initial 0 schedule taken-all;
        counted = all;
        ended = record {
          site = P.site ∙ ap (end_state table) whole;
          actors-long = P.actors-long;
          entries-most = entries-room table P.accepted-table schedule taken-all;
          names-long = N.names-long;
          names-right =
              ap (λ (n : ℕ). map name_of (take n names')) (sym all) ∙ N.names-right ∙ ap (names (machine table) initial) whole;
        };
      }
