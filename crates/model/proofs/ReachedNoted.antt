-- The journal stays right when a step that is not in it runs: a Note is then in it, once, and every other name is in it exactly if it was.
-- Assumes nothing.
use Prim.Native.Nat.{ℕ}
use mathlib.Core.Path.{◌≡◌, refl, ◌∙◌, ap}
use mathlib.Core.Logic.{◌⊎◌, inl, inr}
use mathlib.Core.Bool.{true, false}
use mathlib.Core.List.{List, [], ◌∷◌, ◌++◌}
use Rattle.trace.specs.Machine.{Name}
use Rattle.trace.specs.Order.{mem, Distinct}
use Rattle.trace.proofs.Names.{mem-head}
use Rattle.model.specs.Site.{Entry}
use Rattle.model.specs.Views.{Post, silent, mails, joins, leaves, notes}
use Rattle.model.specs.Journal.{noting}
use Rattle.model.specs.Reached.{noted_in}
use Rattle.model.proofs.Invariant.{mem-append}
use Rattle.model.proofs.ReportBoundNames.{mem_append_left, mem_append_right}
use Rattle.model.proofs.ReportBoundMail.{distinct_append}

names-append : (j : List Entry) (e : Entry) → noted_in (j ++ (e ∷ [])) ≡ noted_in j ++ (e.step ∷ [])
names-append [] e = refl
names-append (f ∷ j) e = ap {B = List Name} (λ l. f.step ∷ l) (names-append j e)

-- a name that is in the journal was so before, or it is that of a Note that has run now
pub noting-members : (p : Post) (me x : Name) (v : ℕ) (j : List Entry) → mem x (noted_in (noting p me v j)) ≡ true
    → (mem x (noted_in j) ≡ true) ⊎ ((x ≡ me) × (p ≡ notes))
noting-members silent me x v j h = inl h
noting-members (mails port) me x v j h = inl h
noting-members (joins m) me x v j h = inl h
noting-members (leaves m) me x v j h = inl h
noting-members notes me x v j h = go (mem-append x me (noted_in j) (rw (names-append j (record { step = me; value = v })) at h))
  where
    go : (x ≡ me) ⊎ (mem x (noted_in j) ≡ true) → (mem x (noted_in j) ≡ true) ⊎ ((x ≡ me) × (notes ≡ notes))
    go (inl e) = inr (e, refl)
    go (inr m) = inl m

-- what was in it stays
pub noting-keeps : (p : Post) (me x : Name) (v : ℕ) (j : List Entry) → mem x (noted_in j) ≡ true → mem x (noted_in (noting p me v j)) ≡ true
noting-keeps silent me x v j h = h
noting-keeps (mails port) me x v j h = h
noting-keeps (joins m) me x v j h = h
noting-keeps (leaves m) me x v j h = h
noting-keeps notes me x v j h =
    ap (mem x) (names-append j (record { step = me; value = v })) ∙ mem_append_left x (noted_in j) (me ∷ []) h

-- a Note that runs is in it
pub noting-adds : (p : Post) (me : Name) (v : ℕ) (j : List Entry) → p ≡ notes → mem me (noted_in (noting p me v j)) ≡ true
noting-adds p me v j e =
    rw e (ap (mem me) (names-append j (record { step = me; value = v })) ∙ mem_append_right me (noted_in j) (me ∷ []) (mem-head me []))

pub noting-once : (p : Post) (me : Name) (v : ℕ) (j : List Entry) → Distinct (noted_in j) → mem me (noted_in j) ≡ false
    → Distinct (noted_in (noting p me v j))
noting-once silent me v j d new = d
noting-once (mails port) me v j d new = d
noting-once (joins m) me v j d new = d
noting-once (leaves m) me v j d new = d
noting-once notes me v j d new = rw (names-append j (record { step = me; value = v })) (distinct_append me (noted_in j) d new)
