-- `pair_call::pair` meets its contract: the reader's refusal, then a name that is not in the table, then the verdict.
-- Assumes nothing.
use mathlib.Core.Path.{◌≡◌, refl, ◌∙◌, ap₂, sym}
use mathlib.Core.Bool.{true, false}
use Prim.Native.Nat.{ℕ}
use Rattle.std.proofs.Common.{Err, rules}
use Rattle.table.specs.Answer.{fault_of}
use Rattle.trace.specs.Machine.{Name}
use Rattle.model.specs.Site.{name}
use Rattle.model.specs.Calls.{in_table}
use Rattle.answers.specs.declared.Refusal.TheVariants.{Table}
use Rattle.table.proofs.Readings.{refusing}
use Rattle.pair_call.proofs.PairOutcomes.{table-refused, no-first, no_second, pair-given}
use Rattle.pair_call.proofs.pair.Goals as goal

pub returns-in_err-read : goal.returns-in_err-read
returns-in_err-read c =
    let x = name c.args.actor c.args.action in
    let y = name c.args.actor2 c.args.action2 in
    let f = c.in_err-read.field-0.0 in
    let e : c.from_residual.result ≡ Err (Table f) = search rules in
    rw e (table-refused c.args.table.now x y _ _ (sym c.in_err-read.ensures.result_value ∙ refusing f))

pub returns-then-not-stands : goal.returns-then-not-stands
returns-then-not-stands c =
    let t = c.args.table.now in
    let x = name c.args.actor c.args.action in
    let y = name c.args.actor2 c.args.action2 in
    let read = sym c.in_ok-read.ensures.result_value in
    let first : in_table t x ≡ false = ap₂ (λ (a k : ℕ). in_table t (name a k)) (sym c.from-a.ensures) (sym c.from-k.ensures) ∙ sym c.stands.ensures ∙ c.if-not-stands.true in
    no-first t x y read first

pub returns-then-not-stands-2 : goal.returns-then-not-stands-2
returns-then-not-stands-2 c =
    let t = c.args.table.now in
    let x = name c.args.actor c.args.action in
    let y = name c.args.actor2 c.args.action2 in
    let read = sym c.in_ok-read.ensures.result_value in
    let first : in_table t x ≡ true = ap₂ (λ (a k : ℕ). in_table t (name a k)) (sym c.from-a.ensures) (sym c.from-k.ensures) ∙ sym c.stands.ensures ∙ c.if-not-stands.false in
    let second : in_table t y ≡ false = ap₂ (λ (a k : ℕ). in_table t (name a k)) (sym c.from-b.ensures) (sym c.from-l.ensures) ∙ sym c.stands-2.ensures ∙ c.if-not-stands-2.true in
    no_second t x y read first second

pub returns-then-dependent : goal.returns-then-dependent
returns-then-dependent c =
    let t = c.args.table.now in
    let x = name c.args.actor c.args.action in
    let y = name c.args.actor2 c.args.action2 in
    let read = sym c.in_ok-read.ensures.result_value in
    let first : in_table t x ≡ true = ap₂ (λ (a k : ℕ). in_table t (name a k)) (sym c.from-a.ensures) (sym c.from-k.ensures) ∙ sym c.stands.ensures ∙ c.if-not-stands.false in
    let second : in_table t y ≡ true = ap₂ (λ (a k : ℕ). in_table t (name a k)) (sym c.from-b.ensures) (sym c.from-l.ensures) ∙ sym c.stands-2.ensures ∙ c.if-not-stands-2.false in
    pair-given t x y true read first second (sym c.if-dependent.true ∙ c.dependent.ensures ∙ rw (c.from-a.ensures, c.from-k.ensures, c.from-b.ensures, c.from-l.ensures) refl)

pub returns-else-dependent : goal.returns-else-dependent
returns-else-dependent c =
    let t = c.args.table.now in
    let x = name c.args.actor c.args.action in
    let y = name c.args.actor2 c.args.action2 in
    let read = sym c.in_ok-read.ensures.result_value in
    let first : in_table t x ≡ true = ap₂ (λ (a k : ℕ). in_table t (name a k)) (sym c.from-a.ensures) (sym c.from-k.ensures) ∙ sym c.stands.ensures ∙ c.if-not-stands.false in
    let second : in_table t y ≡ true = ap₂ (λ (a k : ℕ). in_table t (name a k)) (sym c.from-b.ensures) (sym c.from-l.ensures) ∙ sym c.stands-2.ensures ∙ c.if-not-stands-2.false in
    pair-given t x y false read first second (sym c.if-dependent.false ∙ c.dependent.ensures ∙ rw (c.from-a.ensures, c.from-k.ensures, c.from-b.ensures, c.from-l.ensures) refl)
