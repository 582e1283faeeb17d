-- `report::write` meets its contract: the five sections, each in the rest after the one before it. Assumes nothing.
use mathlib.Core.Path.{◌≡◌, refl, sym, subst}
use mathlib.Core.List.{List, ◌++◌}
use Prim.Native.Nat.{ℕ, ◌+◌, ◌<◌, ◌≤◌}
use native.Mathlib.Omega.{arith}
use lib.ListN.{length, length-append}
use Rattle.table.specs.Format.{actors_of, mailboxes_of, mutexes_of, count_of}
use Rattle.model.specs.Report.{journal_bytes, report}
use Rattle.state.specs.declared.Actor.{Actor}
use Rattle.state.specs.declared.arrays.Site.{Site as Arrays}
use Rattle.state.specs.State.{journal_of, site_of, Positions}
use Rattle.writing.specs.Written.{Wrote}
use Rattle.actor_sections.specs.Parts.{actors_bytes, actions_bytes}
use Rattle.queue_sections.specs.Parts.{boxes_bytes, mutexes_bytes}
use Rattle.writing.proofs.Written.{rest, joined}
use Rattle.writing.proofs.Sections.{Begun, first-section, left-room, last-wrote, section-room, next-section}
use Rattle.report.specs.Parts.{Reportable}
use Rattle.report.proofs.write.Goals as goal

module _ {table : List ℕ} {actors : List Actor} {arrays : Arrays} {e : List ℕ} (R : Reportable table actors arrays e) where
  -- the sections
  abbrev sec1 : List ℕ
  sec1 = actors_bytes actors (actors_of table)

  abbrev sec2 : List ℕ
  sec2 = actions_bytes table arrays.mail.comms (actors_of table)

  abbrev sec3 : List ℕ
  sec3 = boxes_bytes arrays.mail.log arrays.mail.ends (mailboxes_of table)

  abbrev sec4 : List ℕ
  sec4 = mutexes_bytes arrays.queues.bytes (mutexes_of table)

  abbrev sec5 : List ℕ
  sec5 = journal_bytes (journal_of arrays.journal)

  abbrev whole : List ℕ
  whole = report table (site_of actors arrays)

  same : sec1 ++ (sec2 ++ (sec3 ++ (sec4 ++ sec5))) ≡ whole
  unfolding report
  same = refl

  fits : length (sec1 ++ (sec2 ++ (sec3 ++ (sec4 ++ sec5)))) ≤ length e
  fits = subst (λ (l : List ℕ). length l ≤ length e) (sym same) R.room

  -- what each section asks, with the number of its parts as the code read it, and what is written after it
  asked1 : {n : ℕ} → n ≡ actors_of table → (n ≤ 8) × Positions actors × (length (actors_bytes actors n) ≤ length e)
  asked1 h = rw h (R.accepted.actors-most, R.positions, omega (arith, fits, length-append sec1 (sec2 ++ (sec3 ++ (sec4 ++ sec5)))))

  begun1 : {n at : ℕ} {b : List ℕ} → n ≡ actors_of table → Wrote e (actors_bytes actors n) b at → Begun whole e b at (sec2 ++ (sec3 ++ (sec4 ++ sec5)))
  begun1 {n} {at} {b} h w =
      subst (λ (l : List ℕ). Begun l e b at (sec2 ++ (sec3 ++ (sec4 ++ sec5)))) same
      (first-section sec1 (sec2 ++ (sec3 ++ (sec4 ++ sec5))) fits (subst (λ (k : ℕ). Wrote e (actors_bytes actors k) b at) h w))

  asked2 : {n at : ℕ} {b : List ℕ} → n ≡ actors_of table → Begun whole e b at (sec2 ++ (sec3 ++ (sec4 ++ sec5)))
      → (n ≤ 8) × ((a : ℕ) → a < n → count_of table a ≤ 32) × (length (actions_bytes table arrays.mail.comms n) ≤ length (rest at b))
  asked2 h g = rw h (R.accepted.actors-most, R.accepted.actions-most, section-room sec2 (sec3 ++ (sec4 ++ sec5)) g)

  begun2 : {n at m : ℕ} {b p : List ℕ} → n ≡ actors_of table → Begun whole e b at (sec2 ++ (sec3 ++ (sec4 ++ sec5)))
      → Wrote (rest at b) (actions_bytes table arrays.mail.comms n) p m → Begun whole e (joined at b p) (at + m) (sec3 ++ (sec4 ++ sec5))
  begun2 {n} {at} {m} {b} {p} h g w =
      next-section sec2 (sec3 ++ (sec4 ++ sec5)) g (subst (λ (k : ℕ). Wrote (rest at b) (actions_bytes table arrays.mail.comms k) p m) h w)

  asked3 : {n at : ℕ} {b : List ℕ} → n ≡ mailboxes_of table → Begun whole e b at (sec3 ++ (sec4 ++ sec5))
      → (n ≤ 8) × (length (boxes_bytes arrays.mail.log arrays.mail.ends n) ≤ length (rest at b))
  asked3 h g = rw h (R.accepted.mailboxes-most, section-room sec3 (sec4 ++ sec5) g)

  begun3 : {n at m : ℕ} {b p : List ℕ} → n ≡ mailboxes_of table → Begun whole e b at (sec3 ++ (sec4 ++ sec5))
      → Wrote (rest at b) (boxes_bytes arrays.mail.log arrays.mail.ends n) p m → Begun whole e (joined at b p) (at + m) (sec4 ++ sec5)
  begun3 {n} {at} {m} {b} {p} h g w =
      next-section sec3 (sec4 ++ sec5) g (subst (λ (k : ℕ). Wrote (rest at b) (boxes_bytes arrays.mail.log arrays.mail.ends k) p m) h w)

  asked4 : {n at : ℕ} {b : List ℕ} → n ≡ mutexes_of table → Begun whole e b at (sec4 ++ sec5)
      → (n ≤ 8) × (length (mutexes_bytes arrays.queues.bytes n) ≤ length (rest at b))
  asked4 h g = rw h (R.accepted.mutexes-most, section-room sec4 sec5 g)

  begun4 : {n at m : ℕ} {b p : List ℕ} → n ≡ mutexes_of table → Begun whole e b at (sec4 ++ sec5)
      → Wrote (rest at b) (mutexes_bytes arrays.queues.bytes n) p m → Begun whole e (joined at b p) (at + m) sec5
  begun4 {n} {at} {m} {b} {p} h g w =
      next-section sec4 sec5 g (subst (λ (k : ℕ). Wrote (rest at b) (mutexes_bytes arrays.queues.bytes k) p m) h w)

pub actors_part-actions-requires : goal.actors_part-actions-requires
actors_part-actions-requires c = asked1 c.requires c.actors-n.ensures

pub actions_part-requires : goal.actions_part-requires
actions_part-requires c = asked2 c.requires c.actors-n.ensures (begun1 c.requires c.actors-n.ensures c.actors_part-actions.ensures)

pub boxes_part-requires : goal.boxes_part-requires
boxes_part-requires c = asked3 c.requires c.mailboxes-m.ensures (begun2 c.requires c.actors-n.ensures (begun1 c.requires c.actors-n.ensures c.actors_part-actions.ensures) c.actions_part.ensures)

pub mutexes_part-requires : goal.mutexes_part-requires
mutexes_part-requires c = asked4 c.requires c.mutexes-x.ensures (begun3 c.requires c.mailboxes-m.ensures (begun2 c.requires c.actors-n.ensures (begun1 c.requires c.actors-n.ensures c.actors_part-actions.ensures) c.actions_part.ensures) c.boxes_part.ensures)

pub part-requires : goal.part-requires
part-requires c = (left-room (begun4 c.requires c.mutexes-x.ensures (begun3 c.requires c.mailboxes-m.ensures (begun2 c.requires c.actors-n.ensures (begun1 c.requires c.actors-n.ensures c.actors_part-actions.ensures) c.actions_part.ensures) c.boxes_part.ensures) c.mutexes_part.ensures))

pub returns : goal.returns
returns c = last-wrote (begun4 c.requires c.mutexes-x.ensures (begun3 c.requires c.mailboxes-m.ensures (begun2 c.requires c.actors-n.ensures (begun1 c.requires c.actors-n.ensures c.actors_part-actions.ensures) c.actions_part.ensures) c.boxes_part.ensures) c.mutexes_part.ensures) c.part.ensures
