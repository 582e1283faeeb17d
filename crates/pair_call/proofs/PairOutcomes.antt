-- The outcome of the pair call by what is known of its checks: refused, a name that is not in the table, or the verdict.
-- Assumes nothing.
use mathlib.Core.Path.{◌≡◌, ◌∙◌, ap, sym}
use mathlib.Core.Bool.{Bool, true, false, ◌&&◌, cond}
use mathlib.Core.List.{List}
use Prim.Native.Nat.{ℕ}
use Rattle.table.specs.Outcome.{Outcome, accepted, refused, demand}
use Rattle.table.specs.Read.{read_of}
use Rattle.trace.specs.Machine.{Name}
use Rattle.model.specs.Pair.{depends}
use Rattle.model.specs.Calls.{gives, refuses, answer, in_table, independent, dependent, pair_checks, pair_of}
use Rattle.model.proofs.Checks.{answer-given}
use Rattle.table.proofs.Checks.{then-refused, then-accepted}

module _ (table : List ℕ) (x y : Name) where
  pub pair-refused : (n p : ℕ) → pair_checks table x y ≡ refused n p → refuses n p ≡ pair_of table x y
  unfolding pair_of
  pair-refused n p e = sym (ap (λ (o : Outcome). answer o (cond (depends table x y) dependent independent)) e)

  pub table-refused : (n p : ℕ) → read_of table ≡ refused n p → refuses n p ≡ pair_of table x y
  table-refused n p e = pair-refused n p (then-refused (read_of table) (demand (in_table table x && in_table table y) 17 0) n p e)

  no_step : read_of table ≡ accepted → (in_table table x && in_table table y) ≡ false → refuses 17 0 ≡ pair_of table x y
  no_step read e =
      pair-refused 17 0
      (then-accepted (read_of table) (demand (in_table table x && in_table table y) 17 0) read ∙ ap (λ (b : Bool). demand b 17 0) e)

  pub no-first : read_of table ≡ accepted → in_table table x ≡ false → refuses 17 0 ≡ pair_of table x y
  no-first read e = no_step read (rw e)

  pub no_second : read_of table ≡ accepted → in_table table x ≡ true → in_table table y ≡ false → refuses 17 0 ≡ pair_of table x y
  no_second read f e = no_step read (rw (f, e))

  pub pair-given : (b : Bool) → read_of table ≡ accepted → in_table table x ≡ true → in_table table y ≡ true → b ≡ depends table x y
      → gives (cond b dependent independent) ≡ pair_of table x y
  unfolding pair_of
  pair-given b read f g e =
      ap (λ (d : Bool). gives (cond d dependent independent)) e
      ∙ sym (answer-given (pair_checks table x y) (cond (depends table x y) dependent independent)
      (then-accepted (read_of table) (demand (in_table table x && in_table table y) 17 0) read ∙ rw (f, g)))
