-- The route's turns: the invariant of the loop, from its begin to its end.
-- Assumes nothing.
use Prim.Native.Nat.{ℕ, suc, ◌+◌, ◌-◌, ◌<◌, ◌≤◌}
use native.Mathlib.Numerals.{add-one}
use native.Mathlib.Omega.{arith}
use mathlib.Core.Path.{◌≡◌, refl, ◌∙◌, ap, sym, subst}
use mathlib.Core.Bool.{true}
use mathlib.Core.List.{List, [], ◌∷◌, ◌++◌, map, append_assoc, append-nil, map-append}
use lib.ListN.{length, get_or, take, drop, length-map, length-append, length-drop, take-append-drop, drop_of_length-le}
use lib.Seq.{length-take-le, take_all, drop-cons, drop-drop, drop-append_seam}
use borrow.Rule.Slice.PartMut.{put_mid}
use Rattle.trace.specs.Machine.{Name}
use Rattle.trace.specs.Order.{mem}
use Rattle.trace.specs.Route.{place, remove, pull, route_from}
use Rattle.trace.proofs.Names.{within-mem}
use Rattle.trace.proofs.SameNames.{SameNames, same_head, same-tail}
use Rattle.names.specs.InByte.{name_of}
use Rattle.writing.specs.Written.{Wrote}
use Rattle.writing.proofs.Written.{rest, joined, rest-room, written-length, wrote_then}
use Rattle.names.specs.Names.{names_in}
use Rattle.routing.specs.Routable.{Routable}
use Rattle.routing.specs.Parts.{route_in, Brought}
use Rattle.routing.proofs.NamePlaces.{place-below, mem-front, place-front, remove-front}
use Rattle.routing.proofs.TakenOut.{held}
use Rattle.routing.proofs.Positions.{pull-length}

-- ---- the names from place b on

abbrev pub names_from : ℕ → List ℕ → List Name
names_from b bytes = map name_of (drop b bytes)

names-next : (b : ℕ) (l : List ℕ) → b < length l → names_from b l ≡ name_of (get_or l b 0) ∷ names_from (b + 1) l
names-next b l h = ap (map name_of) (drop-cons l b 0 h) ∙ ap (λ (k : ℕ). name_of (get_or l b 0) ∷ names_from k l) (sym (add-one b))

-- the bytes from place b on, as they are lent, and all when those have come back as p
abbrev lent : ℕ → List ℕ → List ℕ
lent b l = take (256 - b) (drop b l)

lent-names : (b : ℕ) (l : List ℕ) → length l ≡ 256 → map name_of (lent b l) ≡ names_from b l
lent-names b l e = ap (map name_of) (take_all (256 - b) (drop b l) (omega (arith, length-drop b l)))

module _ (b : ℕ) (l p : List ℕ) (e : length l ≡ 256) (h : b < 256) (f : length p ≡ length (lent b l)) where
  whole : put_mid b (256 - b) l p ≡ take b l ++ p
  whole =
      let none : drop (256 - b) (drop b l) ≡ [] = drop_of_length-le (drop b l) (omega (arith, length-drop b l)) in
      rw (none, append-nil)

  whole-long : length (put_mid b (256 - b) l p) ≡ 256
  whole-long = rw whole (omega (arith, length-append (take b l) p, length-take-le b l (omega arith), length-take-le (256 - b) (drop b l) (omega (arith, length-drop b l))))

  whole-names : names_from (b + 1) (put_mid b (256 - b) l p) ≡ map name_of (drop 1 p)
  whole-names =
      let front : length (take b l) ≡ b = length-take-le b l (omega arith) in
      let behind : drop b (take b l ++ p) ≡ p = subst (λ n. drop n (take b l ++ p) ≡ p) front (drop-append_seam (take b l) p) in
      rw whole (ap (map name_of) (sym (drop-drop 1 b (take b l ++ p)) ∙ ap (drop 1) behind))

-- b steps are in place: `written` is written of the route, and what is left of the first list stands from b on
pub record Routing (first second : List ℕ) (m : ℕ) (positions left now : List ℕ) (n b : ℕ) : Type 0 where
  pub written : List ℕ
  pub names : List Name
  pub long : length left ≡ 256
  pub most : b ≤ m
  pub held : names_from b left ≡ names ++ names_from m first
  pub same : SameNames names (names_from b (take m second))
  pub whole : route_in first second m ≡ written ++ route_from b names (names_from b (take m second))
  pub wrote : Wrote positions written now n

module _ {first second : List ℕ} {m : ℕ} {positions : List ℕ} (r : Routable first second m positions) where
  pub begins : Routing first second m positions first positions 0 0
  begins =
      record {
        written = [];
        names = names_in m first;
        long = r.first-long;
        most = omega arith;
        held = ap (map name_of) (sym (take-append-drop m first)) ∙ map-append name_of (take m first) (drop m first);
        same = record {
          once-first = r.first-distinct;
          once-second = r.second-distinct;
          in-second = within-mem (names_in m first) (names_in m second) r.in-second;
          in-first = within-mem (names_in m second) (names_in m first) r.in-first;
        };
        whole = refl;
        wrote = (refl, refl);
      }

  taken-long : length (take m second) ≡ m
  taken-long = length-take-le m second (omega (arith, r.most, r.second-long))

  module _ {left now : List ℕ} {n b : ℕ} (t : Routing first second m positions left now n b) where
    written-room : length t.written ≤ length positions
    written-room = omega (arith, simp length-append at (ap length t.whole), r.room)

    pub keeps-length : length now ≡ length positions
    keeps-length = written-length positions t.written now written-room t.wrote.1

    module _ (inside : b < length (take m second)) where
      h : b < m
      h = omega (arith, taken-long)

      abbrev y : ℕ
      y = get_or (take m second) b 0

      -- the names that are left of the second list begin with y, and y is left of the first
      second-next : names_from b (take m second) ≡ name_of y ∷ names_from (b + 1) (take m second)
      second-next = names-next b (take m second) (omega (arith, taken-long))

      same_next : SameNames t.names (name_of y ∷ names_from (b + 1) (take m second))
      same_next = subst (SameNames t.names) second-next t.same

      held-left : mem (name_of y) t.names ≡ true
      held-left = same_head (name_of y) t.names (names_from (b + 1) (take m second)) same_next

      here : map name_of (lent b left) ≡ t.names ++ names_from m first
      here = lent-names b left t.long ∙ t.held

      pub bringable : held y (lent b left)
      bringable = subst (λ (u : List Name). mem (name_of y) u ≡ true) (sym here) (mem-front (name_of y) t.names (names_from m first) held-left)

      module _ {left' : List ℕ} {way : ℕ} (g : Brought (lent b left) left' y way) where
        way-left : way ≡ place (name_of y) t.names
        way-left = g.before ∙ ap (place (name_of y)) here ∙ place-front (name_of y) t.names (names_from m first) held-left

        -- the positions fit 16 bits
        pub way-below : b + way ≤ 256
        way-below =
            let counts : length (names_from b left) ≡ length t.names + length (names_from m first) = ap length t.held ∙ length-append t.names (names_from m first) in
            let all : length (names_from b left) ≡ length left - b = length-map (drop b left) name_of ∙ length-drop b left in
            omega (arith, place-below (name_of y) t.names held-left, way-left, t.long, r.most)

        whole-next : route_in first second m
            ≡ (t.written ++ pull b way) ++ route_from (b + 1) (remove (name_of y) t.names) (names_from (b + 1) (take m second))
        whole-next =
            t.whole
            ∙ ap (λ (v : List Name). t.written ++ route_from b t.names v) second-next
            ∙ rw (add-one, way-left)
            (sym (append_assoc t.written (pull b (place (name_of y) t.names)) (route_from (suc b) (remove (name_of y) t.names) (names_from (suc b) (take m second)))))

        -- and there is room for them
        pub fits : n + way ≤ length now
        fits =
            omega (arith, simp length-append at (ap length whole-next), pull-length b way, r.room, keeps-length, t.wrote.0)

        pub room : way ≤ length (rest n now)
        room = rest-room n way now fits

        pub next : {p : List ℕ} {k : ℕ} → Wrote (rest n now) (pull b way) p k → Routing first second m positions (put_mid b (256 - b) left left') (joined n now p) (n + k) (b + 1)
        next {p} {k} w =
            record {
              written = t.written ++ pull b way;
              names = remove (name_of y) t.names;
              long = whole-long b left left' t.long (omega (arith, h, r.most)) g.long;
              most = omega (arith, h);
              held =
                  whole-names b left left' t.long (omega (arith, h, r.most)) g.long
                  ∙ g.behind ∙ ap (remove (name_of y)) here ∙ remove-front (name_of y) t.names (names_from m first) held-left;
              same = same-tail (name_of y) t.names (names_from (b + 1) (take m second)) same_next;
              whole = whole-next;
              wrote = wrote_then positions t.written now (pull b way) p n k t.wrote w;
            }
