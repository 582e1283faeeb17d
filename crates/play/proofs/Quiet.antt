-- A step that nobody waits for leaves the others as they are: who is ready changes for its own actor alone.
-- Assumes nothing.
use mathlib.Core.Path.{◌≡◌, ◌∙◌, ap}
use mathlib.Core.Logic.{inl, inr, ◌≢◌}
use mathlib.Core.Bool.{◌&&◌}
use mathlib.Core.List.{List}
use Prim.Native.Nat.{ℕ}
use lib.Dec.{ltb}
use Rattle.table.specs.Format.{actors_of, count_of}
use Rattle.table.specs.Decode.{action_of}
use Rattle.trace.specs.Machine.{Name}
use Rattle.model.specs.Site.{Queued, Site, Actor, Mail}
use Rattle.model.specs.Views.{Post, posts}
use Rattle.model.specs.Mail.{mailing}
use Rattle.model.specs.Mutex.{queueing}
use Rattle.lead.specs.Parts.{Unheard}
use Rattle.model.specs.Step.{NextStep, is_taken, step_of, next_action, ready, step}
use Rattle.model.proofs.Invariant.{others-record}
use Rattle.look.proofs.Sees.{step-parts}

-- it changes neither the mail nor the queues
unheard-mail : (p : Post) (me : Name) (v : ℕ) (m : Mail) → Unheard p → mailing p me v m ≡ m
unheard-mail p me v m (inl e) = rw e
unheard-mail p me v m (inr e) = rw e

unheard-queues : (p : Post) (a : ℕ) (f : ℕ → List Queued) → Unheard p → queueing p a f ≡ f
unheard-queues p a f (inl e) = rw e
unheard-queues p a f (inr e) = rw e

module _ (table : List ℕ) (s : Site) (a : ℕ) (quiet : Unheard (posts (next_action table s a))) where
  same-mail : (step table s a).mail ≡ s.mail
  unfolding step
  same-mail = unheard-mail (posts (next_action table s a)) _ _ s.mail quiet

  same-queues : (step table s a).queue ≡ s.queue
  unfolding step
  same-queues = unheard-queues (posts (next_action table s a)) a s.queue quiet

  pub quiet-ready : (j : ℕ) → j ≢ a → ready table (step table s a) j ≡ ready table s j
  unfolding ready
  quiet-ready j ne =
      let own : (step table s a).actor j ≡ s.actor j = others-record table s j a ne in
      ap
      (λ (r : Actor).
      ltb j (actors_of table) && (ltb r.position (count_of table j) && is_taken (step_of table (step table s a) j (action_of table j r.position))))
      own
      ∙ ap (λ (t : NextStep). ltb j (actors_of table) && (ltb (s.actor j).position (count_of table j) && is_taken t))
      (step-parts table (step table s a) s j (action_of table j (s.actor j).position) (ap (λ (r : Actor). r.cells) own) (ap (λ (m : Mail). m.comm) same-mail)
      same-queues)
