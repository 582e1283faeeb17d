-- `page::actor_line` meets its contract: four sections, each in the rest after the one before it, and a line feed. Assumes nothing.
use mathlib.Core.Path.{◌≡◌, sym, subst}
use mathlib.Core.List.{List, [], ◌∷◌, ◌++◌}
use Prim.Native.Nat.{ℕ, ◌+◌, ◌<◌, ◌≤◌}
use native.Mathlib.Omega.{arith}
use lib.ListN.{length, length-append}
use Rattle.model.specs.Text.{decimal, space, left, right, line}
use Rattle.model.specs.Page.{status_word, cells_text, actor_text}
use Rattle.state.specs.State.{record_of}
use Rattle.state.specs.declared.Actor.{Actor}
use Rattle.writing.specs.Written.{Wrote}
use Rattle.writing.proofs.Written.{rest, joined}
use Rattle.writing.proofs.Texts.{wrote-store, wrote-below}
use Rattle.writing.proofs.Sections.{Begun, first-section, left_at, left-room, last-wrote, section-room, next-section}
use Rattle.page.specs.Parts.{status_as}
use Rattle.page.specs.declared.Status.{Status}
use Rattle.page.proofs.actor_line.Goals as goal

-- the sections
abbrev sec1 : ℕ → List ℕ
sec1 a = right 1 (decimal a)

abbrev sec2 : Actor → List ℕ
sec2 r = space ∷ right 2 (decimal r.position)

abbrev sec3 : Status → List ℕ
sec3 status = space ∷ left 8 (status_word (status_as status))

abbrev sec4 : Actor → List ℕ
sec4 r = cells_text r.cells

abbrev whole : ℕ → Actor → Status → List ℕ
whole a r status = sec1 a ++ (sec2 r ++ (sec3 status ++ sec4 r))

-- with room for the line feed too
record Room (a : ℕ) (r : Actor) (status : Status) (e : List ℕ) : Type 0 where
  fits : length (whole a r status) < length e

room : (a : ℕ) (r : Actor) (status : Status) (e : List ℕ) → length (line (actor_text a (record_of r) (status_as status))) ≤ length e
    → Room a r status e
room a r status e h = record { fits = omega (arith, h, length-append (whole a r status) (10 ∷ [])) }

module _ {a : ℕ} {r : Actor} {status : Status} {e : List ℕ} (R : Room a r status e) where
  asked1 : length (sec1 a) ≤ length e
  asked1 = omega (arith, R.fits, length-append (sec1 a) (sec2 r ++ (sec3 status ++ sec4 r)))

  begun1 : {at : ℕ} {b : List ℕ} → Wrote e (sec1 a) b at → Begun (whole a r status) e b at (sec2 r ++ (sec3 status ++ sec4 r))
  begun1 w = first-section (sec1 a) (sec2 r ++ (sec3 status ++ sec4 r)) (omega (arith, R.fits)) w

  begun2 : {at m : ℕ} {b p : List ℕ} → Wrote e (sec1 a) b at → Wrote (rest at b) (sec2 r) p m
      → Begun (whole a r status) e (joined at b p) (at + m) (sec3 status ++ sec4 r)
  begun2 w1 w2 = next-section (sec2 r) (sec3 status ++ sec4 r) (begun1 w1) w2

  begun3 : {at m n : ℕ} {b p q : List ℕ} → Wrote e (sec1 a) b at → Wrote (rest at b) (sec2 r) p m → Wrote (rest (at + m) (joined at b p)) (sec3 status) q n
      → Begun (whole a r status) e (joined (at + m) (joined at b p) q) (at + m + n) (sec4 r)
  begun3 w1 w2 w3 = next-section (sec3 status) (sec4 r) (begun2 w1 w2) w3

  asked2 : {at : ℕ} {b : List ℕ} → Wrote e (sec1 a) b at → length (sec2 r) ≤ length (rest at b)
  asked2 w1 = section-room (sec2 r) (sec3 status ++ sec4 r) (begun1 w1)

  asked3 : {at m : ℕ} {b p word : List ℕ} → word ≡ sec3 status → Wrote e (sec1 a) b at → Wrote (rest at b) (sec2 r) p m
      → length word ≤ length (rest (at + m) (joined at b p))
  asked3 {at} {m} {b} {p} same w1 w2 =
      subst (λ (l : List ℕ). length l ≤ length (rest (at + m) (joined at b p))) (sym same) (section-room (sec3 status) (sec4 r) (begun2 w1 w2))

-- the status's word is written
told : (status : Status) {word : List ℕ} (e : List ℕ) {b : List ℕ} {m : ℕ} → word ≡ sec3 status → Wrote e word b m → Wrote e (sec3 status) b m
told status e {b} {m} same w = subst (λ (l : List ℕ). Wrote e l b m) same w

pub column-requires : goal.column-requires
column-requires c = asked2 (room c.args.a c.args.r c.args.status c.args.buf.now c.requires.2) c.right-number.ensures

pub slice_bounds-put-count : goal.slice_bounds-put-count
slice_bounds-put-count c = left_at (begun2 (room c.args.a c.args.r c.args.status c.args.buf.now c.requires.2) c.right-number.ensures c.column.ensures)

pub slice_bounds-put-start : goal.slice_bounds-put-start
slice_bounds-put-start c = left_at (begun2 (room c.args.a c.args.r c.args.status c.args.buf.now c.requires.2) c.right-number.ensures c.column.ensures)

pub put-requires : goal.put-requires
put-requires c = asked3 (room c.args.a c.args.r c.args.status c.args.buf.now c.requires.2) c.word.ensures c.right-number.ensures c.column.ensures

pub cells_part-requires : goal.cells_part-requires
cells_part-requires c = left-room (begun3 (room c.args.a c.args.r c.args.status c.args.buf.now c.requires.2) c.right-number.ensures c.column.ensures (told c.args.status _ c.word.ensures c.put.ensures))

pub bounds-buf-end : goal.bounds-buf-end
bounds-buf-end c =
    wrote-below c.args.buf.now (whole c.args.a c.args.r c.args.status)
    (last-wrote (begun3 (room c.args.a c.args.r c.args.status c.args.buf.now c.requires.2) c.right-number.ensures c.column.ensures (told c.args.status _ c.word.ensures c.put.ensures)) c.cells_part.ensures)
    (room c.args.a c.args.r c.args.status c.args.buf.now c.requires.2).fits

pub returns : goal.returns
returns c =
    wrote-store c.args.buf.now (whole c.args.a c.args.r c.args.status) _ _ 10 (room c.args.a c.args.r c.args.status c.args.buf.now c.requires.2).fits
    (last-wrote (begun3 (room c.args.a c.args.r c.args.status c.args.buf.now c.requires.2) c.right-number.ensures c.column.ensures (told c.args.status _ c.word.ensures c.put.ensures)) c.cells_part.ensures)
