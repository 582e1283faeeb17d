-- The names pending in mailboxes: no port's queue holds one twice, and of a mailbox's two ports one is always empty.
-- Assumes nothing.
use Prim.Native.Nat.{ℕ}
use mathlib.Core.Path.{◌≡◌, refl, sym, ◌∙◌, ap, subst}
use mathlib.Core.Logic.{◌⊎◌, inl, inr}
use mathlib.Core.Bool.{Bool, true, false, true≢false}
use mathlib.Core.List.{List, [], ◌∷◌, ◌++◌}
use Rattle.trace.specs.Machine.{Name}
use Rattle.trace.specs.Order.{eq_name, mem, Distinct}
use Rattle.trace.proofs.Bools.{which, contrary, is_false, or-false-left, or-false-right}
use Rattle.trace.proofs.Names.{eq_name-refl}
use Rattle.model.specs.Site.{upd, Port, opposite, eq_port, Mail}
use Rattle.model.specs.Mail.{meet_with}
use Rattle.model.specs.Reached.{OneSided}
use Rattle.model.proofs.Upd.{upd_other}
use Rattle.model.proofs.Ports.{port-test, opposite-opposite, opposite-apart}
use Rattle.model.proofs.Invariant.{mem-append}

-- ---- no name twice

pub distinct_append : (x : Name) (l : List Name) → Distinct l → mem x l ≡ false → Distinct (l ++ (x ∷ []))
distinct_append x [] d n = (refl, tt)
distinct_append x (y ∷ l) d n =
    (is_false _ (λ h. twice (mem-append y x l h)), distinct_append x l d.1 (or-false-right (eq_name x y) (mem x l) n))
  where
    twice : (y ≡ x) ⊎ (mem y l ≡ true) → ⊥
    twice (inl e) = contrary (eq_name-refl x) (rw e at (or-false-left (eq_name x y) (mem x l) n))
    twice (inr m) = contrary m d.0

-- a property of every port's queue is kept by a change of one queue to another that has it
change-keeps : (P : List Name → Type 0) (w : Port → List Name) (Q : Port) (l : List Name) → ((R : Port) → P (w R)) → P l → (R : Port)
    → P (upd eq_port w Q l R)
change-keeps P w Q l h new R = go (which (eq_port R Q))
  where
    go : (eq_port R Q ≡ true) ⊎ (eq_port R Q ≡ false) → P (upd eq_port w Q l R)
    go (inl e) = rw e new
    go (inr e) = rw e (h R)

pub meeting-distinct : (l : List Name) (P : Port) (x : Name) (v : ℕ) (m : Mail) → m.waiting (opposite P) ≡ l → ((R : Port) → Distinct (m.waiting R))
    → mem x (m.waiting P) ≡ false → (R : Port) → Distinct ((meet_with l P x v m).waiting R)
meeting-distinct [] P x v m e d n R = change-keeps Distinct m.waiting P _ d (distinct_append x (m.waiting P) (d P) n) R
meeting-distinct (y ∷ l) P x v m e d n R =
    let whole : Distinct (y ∷ l) = subst (λ (q : List Name). Distinct q) e (d (opposite P)) in
    change-keeps Distinct m.waiting (opposite P) l d whole.1 R

-- ---- one side is empty

-- a queue changes whose opposite is empty
change-one-sided : (w : Port → List Name) (Q : Port) (l : List Name) → w (opposite Q) ≡ [] → OneSided w → OneSided (upd eq_port w Q l)
change-one-sided w Q l none o R = go (which (eq_port R Q)) (which (eq_port (opposite R) Q)) (o R)
  where
    -- the opposite of the changed queue is as it was
    still : upd eq_port w Q l (opposite Q) ≡ []
    still = upd_other port-test w (opposite Q) Q l (λ e. opposite-apart Q (sym e)) ∙ none

    go : (eq_port R Q ≡ true) ⊎ (eq_port R Q ≡ false) → (eq_port (opposite R) Q ≡ true) ⊎ (eq_port (opposite R) Q ≡ false)
        → (w R ≡ []) ⊎ (w (opposite R) ≡ []) → (upd eq_port w Q l R ≡ []) ⊎ (upd eq_port w Q l (opposite R) ≡ [])
    go (inl e) f old = inr (subst (λ (S : Port). upd eq_port w Q l (opposite S) ≡ []) (sym (port-test.equal R Q e)) still)
    go (inr e) (inl f) old =
        let back : opposite Q ≡ R = ap opposite (sym (port-test.equal (opposite R) Q f)) ∙ opposite-opposite R in
        inl (subst (λ (S : Port). upd eq_port w Q l S ≡ []) back still)
    go (inr e) (inr f) (inl old) = inl (rw e old)
    go (inr e) (inr f) (inr old) = inr (rw f old)

not-empty : (x : Name) (l : List Name) → (x ∷ l ≡ []) → ⊥
not-empty x l h = true≢false (ap full h)
  where
    full : List Name → Bool
    full [] = false
    full (y ∷ r) = true

pub meeting-one-sided : (l : List Name) (P : Port) (x : Name) (v : ℕ) (m : Mail) → m.waiting (opposite P) ≡ l → OneSided m.waiting
    → OneSided (meet_with l P x v m).waiting
meeting-one-sided [] P x v m e o = change-one-sided m.waiting P _ e o
meeting-one-sided (y ∷ l) P x v m e o = change-one-sided m.waiting (opposite P) l (none (o P)) o
  where
    none : (m.waiting P ≡ []) ⊎ (m.waiting (opposite P) ≡ []) → m.waiting (opposite (opposite P)) ≡ []
    none (inl h) = rw (opposite-opposite P) h
    none (inr h) = absurd (not-empty y l (sym e ∙ h))
