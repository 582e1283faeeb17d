-- What a look depends on, and what a step is.
-- Assumes nothing.
use Prim.Native.Nat.{ℕ}
use mathlib.Core.Path.{◌≡◌, refl, ap}
use mathlib.Core.List.{List}
use Rattle.table.specs.declared.Action.{Action}
use Rattle.trace.specs.Machine.{Name}
use Rattle.model.specs.Site.{Comm, Queued, Site}
use Rattle.model.specs.Views.{Look, blind, communications, mutexes, looks}
use Rattle.model.specs.Local.{see}
use Rattle.model.specs.Step.{step_of}

-- a look sees the communications and the mutex queues alone
pub see-parts : (s t : Site) (a : ℕ) (l : Look) → s.mail.comm ≡ t.mail.comm → s.queue ≡ t.queue → see s a l ≡ see t a l
see-parts s t a blind m q = refl
see-parts s t a (communications l) m q =
    ap (λ (x : Name → Comm). see (record { actor = s.actor; mail = record { comm = x; waiting = s.mail.waiting }; queue = s.queue; journal = s.journal }) a (communications l)) m
see-parts s t a (mutexes l) m q = ap (λ (x : ℕ → List Queued). see (record { actor = s.actor; mail = s.mail; queue = x; journal = s.journal }) a (mutexes l)) q

-- and what an action is as the next step depends on its actor's cells besides
pub step-parts : (table : List ℕ) (s t : Site) (a : ℕ) (x : Action) → (s.actor a).cells ≡ (t.actor a).cells → s.mail.comm ≡ t.mail.comm
    → s.queue ≡ t.queue → step_of table s a x ≡ step_of table t a x
step-parts table s t a x c m q = rw (c, see-parts s t a (looks x) m q)
