-- Where the header, the directory and the file's end are right, every action lies within a file that is no longer than a table.
-- Assumes nothing.
use mathlib.Core.Path.{◌≡◌}
use mathlib.Core.List.{List}
use Prim.Native.Nat.{ℕ, zero, suc, ◌+◌, ◌*◌, ◌<◌, ◌≤◌}
use native.Mathlib.Omega.{arith}
use borrow.Author.Tests.{leb-true, eqb-true}
use lib.Dec.{leb, eqb}
use lib.ListN.{length}
use mathlib.Core.Bool.{◌&&◌}
use Rattle.table.specs.Outcome.{accepted, demand, each}
use Rattle.table.specs.Format.{edition_of, actors_of, offset_of, count_of, due_of, place_of}
use Rattle.table.specs.Read.{entry_of}
use Rattle.table.proofs.Checks.{then-left, then-right, demand-true, and_right}
use Rattle.table.proofs.Placed.{offset-due, count_most, inside}
use Rattle.fields.specs.Parts.{Room}
use Rattle.reader.specs.Parts.{Placed}

module _ (b : List ℕ) (placed : Placed b) where
  actors-most : actors_of b ≤ 8
  actors-most =
      let counts = then-right (demand (eqb (edition_of b) 1) 2 0) _ (then-right (demand (leb 4 (length b)) 1 0) _ placed.header) in
      let actors = demand-true _ 3 0 (then-left (demand (leb 1 (actors_of b) && leb (actors_of b) 8) 3 0) _ counts) in
      leb-true _ _ (and_right (leb 1 (actors_of b)) (leb (actors_of b) 8) actors)

  entries : each (entry_of b) (actors_of b) 0 ≡ accepted
  entries = then-right (demand (leb (4 + 4 * actors_of b) (length b)) 4 0) _ placed.directory

  ends : length b ≡ due_of b (actors_of b)
  ends = eqb-true _ _ (demand-true _ 5 0 placed.end)

  due-most : (a : ℕ) → a ≤ actors_of b → due_of b a ≤ 4 + 4 * actors_of b + 256 * a
  due-most zero h = omega arith
  due-most (suc a) h =
      omega (arith, offset-due b entries a (omega arith), count_most b entries a (omega arith), due-most a (omega arith))

  pub room : (a k first : ℕ) → first ≡ offset_of b a → a < actors_of b → k < count_of b a → Room b (place_of first k)
  room a k first e in-actors in-actions =
      (omega (arith, inside b entries ends a in-actors), omega (arith, ends, actors-most, due-most (actors_of b) (omega arith)))
