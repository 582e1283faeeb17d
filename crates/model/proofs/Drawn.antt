-- The schedule that a seed determines: what every made schedule is, that it follows the rule of the draw, and that it alone does.
-- Assumes nothing.
use Prim.Native.Nat.{ℕ, zero, suc, ◌-◌, ◌≤◌, ◌<◌}
use native.Mathlib.Nat.{mod-lt}
use native.Mathlib.Omega.{arith}
use mathlib.Core.Path.{◌≡◌, sym, ◌∙◌, ap}
use mathlib.Core.Logic.{◌⊎◌, inl, inr}
use mathlib.Core.Bool.{Bool, true, false}
use mathlib.Core.List.{List, [], ◌∷◌}
use lib.Dec.{eqb}
use lib.ListN.{length}
use borrow.Author.Tests.{ltb-true, eqb-true, eqb-false}
use Rattle.table.specs.Format.{actors_of}
use Rattle.table.specs.Outcome.{Outcome}
use Rattle.table.specs.Read.{read_of}
use Rattle.table.proofs.Promise.{promised}
use Rattle.trace.proofs.Bools.{which}
use Rattle.model.specs.Site.{Site, initial}
use Rattle.model.specs.Step.{ready, step}
use Rattle.model.specs.Ready.{how_many, ready_count}
use Rattle.model.specs.Calls.{answer}
use Rattle.model.specs.Reached.{Reached}
use Rattle.model.specs.Scheduler.{schedule_room, turn_of, entries_from, made_from}
use Rattle.model.specs.Draw.{draw, rank_by, drawing, drawn_from, draw_of}
use Rattle.model.specs.Drawn.{rank_in, Follows, EveryDraw, DrawTold, EqualDraws}
use Rattle.model.proofs.Checks.{ready-parts}
use Rattle.model.proofs.Reached.{reached-initial, reached-step}
use Rattle.model.proofs.Fills.{with-room}
use Rattle.model.proofs.Ranked.{Rank, ranked-finds, ranked-only}
use Rattle.model.proofs.Scheduled.{some-ready, nobody-ready, nobody-counts, ready-left, Chooses, entries-end, entries-turn, Room, room_next, nobody-left, made-room, scheduled}
use Rattle.model.proofs.Told.{made_told}

-- the rank that a draw takes is that of an actor that is ready
pub drawn-rank : (f : ℕ → Bool) (n x : ℕ) → 0 < how_many f n 0 → Rank f n 0 (rank_by (draw x) (how_many f n 0)) (drawing.chooses x f n)
drawn-rank f n x h = ranked-finds f n 0 (rank_by (draw x) (how_many f n 0)) (mod-lt _ h)

pub draw-chooses : Chooses drawing
draw-chooses x f n h = (drawn-rank f n x h).holds

module _ (table : List ℕ) where
  abbrev turn : Site → ℕ → ℕ
  turn = turn_of drawing table

  turn-rank : (s : Site) (x : ℕ) → 0 < ready_count table s → rank_in table s (turn s x) ≡ rank_by (draw x) (ready_count table s)
  turn-rank s x h =
      let whole : turn s x ≡ turn s x - 0 = omega arith in
      ap (rank_in table s) whole ∙ (drawn-rank (ready table s) (actors_of table) x h).others

  -- whoever is ready and has the rank is the one
  the-turn : (s : Site) (x a : ℕ) → ready table s a ≡ true → rank_in table s a ≡ rank_by (draw x) (ready_count table s) → a ≡ turn s x
  the-turn s x a h e =
      let whole : a - 0 ≡ a = omega arith in
      sym
      (ranked-only (ready table s) (actors_of table) 0 (rank_by (draw x) (ready_count table s)) a
      (record { from = omega arith; below = omega (arith, ltb-true a (actors_of table) (ready-parts table s a h).0); holds = h; others = ap (rank_in table s) whole ∙ e }))

  follows-from : (bound : ℕ) (s : Site) (x : ℕ) → Reached table s → Room drawing draw-chooses table bound s
      → Follows table s x (entries_from drawing table bound s x)
  follows-from zero s x r room = nobody-left drawing draw-chooses table s r room
  follows-from (suc bound) s x r room = go (which (eqb (ready_count table s) 0)) (follows-from bound)
    where
      go : (eqb (ready_count table s) 0 ≡ true) ⊎ (eqb (ready_count table s) 0 ≡ false)
          → ((t : Site) (y : ℕ) → Reached table t → Room drawing draw-chooses table bound t → Follows table t y (entries_from drawing table bound t y))
          → Follows table s x (entries_from drawing table (suc bound) s x)
      go (inl e) rest = rw e (nobody-ready table s (eqb-true (ready_count table s) 0 e))
      go (inr e) rest =
          let ne : ready_count table s ≡ 0 → ⊥ = eqb-false (ready_count table s) 0 e in
          let some : 0 < ready_count table s = omega arith in
          let h : ready table s (turn s x) ≡ true = draw-chooses x (ready table s) (actors_of table) some in
          rw e
          (h, turn-rank s x some, rest _ _ (reached-step table s r _ h) (room_next drawing draw-chooses table bound s _ room h))

  only-from : (bound : ℕ) (s : Site) (x : ℕ) (p : List ℕ) → Reached table s → Room drawing draw-chooses table bound s → Follows table s x p
      → p ≡ entries_from drawing table bound s x
  only-from bound s x [] r room f = sym (entries-end drawing draw-chooses table bound s x (nobody-counts table s f))
  only-from zero s x (a ∷ p) r room f = absurd (omega (arith, ready-left table s r a f.0))
  only-from (suc bound) s x (a ∷ p) r room f =
      let same : a ≡ turn s x = the-turn s x a f.0 f.1 in
      ap (λ (l : List ℕ). a ∷ l)
      (only-from bound (step table s a) (draw x) p (reached-step table s r a f.0) (room_next drawing draw-chooses table bound s a room f.0) f.2)
      ∙ ap (λ (b : ℕ). b ∷ entries_from drawing table bound (step table s b) (draw x)) same
      ∙ sym (entries-turn drawing draw-chooses table bound s x (some-ready table s a f.0))

pub every-draw : EveryDraw
unfolding made_from
every-draw table reads =
    let ok = promised table reads in
    record {
      scheduled = scheduled drawing draw-chooses table ok;
      follows = λ seed. follows-from table schedule_room initial seed (reached-initial table) (made-room drawing draw-chooses table ok);
      only = λ seed p. only-from table schedule_room initial seed p (reached-initial table) (made-room drawing draw-chooses table ok);
    }

-- ---- told by the call

pub draw-told : DrawTold
unfolding draw_of
draw-told table seed buffer n h = made_told drawing draw-chooses table seed buffer n h

-- with enough room what is answered goes by the table and the entries alone
answered : (table : List ℕ) (seed : ℕ) (buffer : List ℕ) → schedule_room ≤ length buffer
    → (draw_of table seed buffer).result ≡ answer (read_of table) (length (drawn_from table seed))
unfolding draw_of
answered table seed buffer h =
    ap (λ (o : Outcome). answer o (length (drawn_from table seed))) (with-room schedule_room 23 (read_of table) (drawn_from table seed) buffer h)

pub equal-draws : EqualDraws
equal-draws table seed buffer other h k =
    let same_answer : (draw_of table seed buffer).result ≡ (draw_of table seed other).result = answered table seed buffer h ∙ sym (answered table seed other k) in
    record {
      answers = same_answer;
      entries = λ n given. (draw-told table seed buffer n given).entries ∙ sym (draw-told table seed other n (sym same_answer ∙ given)).entries;
    }
