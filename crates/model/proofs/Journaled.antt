-- The journal is what the entries of a schedule add, in their order: by induction on the schedule, from any start. That each Note stands in it once is
-- part of what holds of every reached state.
-- Assumes nothing.
use Prim.Native.Nat.{ℕ, zero, suc, ◌+◌}
use mathlib.Core.Path.{◌≡◌, refl, sym, ◌∙◌, ap}
use mathlib.Core.Logic.{◌↔◌}
use mathlib.Core.Bool.{true, false≢true, cond}
use mathlib.Core.List.{List, [], ◌∷◌, ◌++◌, append_assoc, append-nil}
use lib.ListN.{length, get_or, take, length-append}
use Rattle.table.specs.declared.Action.{Action}
use Rattle.table.specs.declared.Action.TheVariants.{Note}
use Rattle.trace.specs.Machine.{Name}
use Rattle.trace.specs.Schedule.{final, names}
use Rattle.model.specs.Site.{Entry, Site, name, initial}
use Rattle.model.specs.Views.{Post, silent, mails, joins, leaves, notes, posts}
use Rattle.model.specs.Journal.{noting}
use Rattle.model.specs.Pair.{is_note}
use Rattle.model.specs.Step.{action_at, next_name, next_action, step}
use Rattle.model.specs.Schedule.{machine, end_state}
use Rattle.model.specs.Journaled.{noted, in_order_of, noted_at, EveryJournal}
use Rattle.model.proofs.ByKind.{posting}
use Rattle.model.proofs.PairCases.{note-action}
use Rattle.model.proofs.Reached.{reached-end}

-- ---- what a step adds

post-adds : (p : Post) (me : Name) (v : ℕ) (j : List Entry) → noting p me v j ≡ j ++ cond (is_note p) (record { step = me; value = v } ∷ []) []
post-adds silent me v j = sym (append-nil j)
post-adds (mails port) me v j = sym (append-nil j)
post-adds (joins m) me v j = sym (append-nil j)
post-adds (leaves m) me v j = sym (append-nil j)
post-adds notes me v j = refl

in_order_of-later : (f : ℕ → List Entry) (n k : ℕ) → in_order_of f n (suc k) ≡ in_order_of (λ i. f (suc i)) n k
in_order_of-later f zero k = refl
in_order_of-later f (suc n) k = ap (λ (l : List Entry). f (suc k) ++ l) (in_order_of-later f n (suc k))

initial-empty : initial.journal ≡ []
unfolding initial
initial-empty = refl

module _ (table : List ℕ) where
  -- what entry k of a schedule from this start adds
  abbrev added_from : Site → List ℕ → ℕ → List Entry
  added_from s p k =
      let me : Name = get_or (names (machine table) s p) k (name 0 0) in
      noted (action_at table me) me ((final (machine table) s (take k p)).actor me.actor).cells

  step-adds : (s : Site) (a : ℕ) → (step table s a).journal ≡ s.journal ++ noted (next_action table s a) (next_name table s a) (s.actor a).cells
  unfolding step
  step-adds s a = post-adds (posts (next_action table s a)) (next_name table s a) _ s.journal

  journal-from : (s : Site) (p : List ℕ) → (final (machine table) s p).journal ≡ s.journal ++ in_order_of (added_from s p) (length p) 0
  journal-from s [] = sym (append-nil s.journal)
  journal-from s (a ∷ p) =
      let later : List Entry = in_order_of (added_from (step table s a) p) (length p) 0 in
      let own : List Entry = noted (next_action table s a) (next_name table s a) (s.actor a).cells in
      journal-from (step table s a) p
      ∙ ap (λ (j : List Entry). j ++ later) (step-adds s a)
      ∙ append_assoc s.journal own later
      ∙ ap (λ (l : List Entry). s.journal ++ (own ++ l)) (sym (in_order_of-later (added_from s (a ∷ p)) (length p) 0))

  in_order : (p : List ℕ) → (end_state table p).journal ≡ in_order_of (noted_at table p) (length p) 0
  in_order p = journal-from initial p ∙ ap (λ (j : List Entry). j ++ in_order_of (noted_at table p) (length p) 0) initial-empty

  -- a Note makes it longer by one
  pub note-longer : (s : Site) (a cell : ℕ) → next_action table s a ≡ Note cell → length (step table s a).journal ≡ length s.journal + 1
  note-longer s a cell e =
      ap length (step-adds s a ∙ ap (λ (x : Action). s.journal ++ noted x (next_name table s a) (s.actor a).cells) e)
      ∙ length-append s.journal (noted (Note cell) (next_name table s a) (s.actor a).cells)

-- ---- a Note, and nothing else

is-note : (x : Action) → (is_note (posts x) ≡ true) ↔ ((cell : ℕ) × (x ≡ Note cell))
is-note x = (note-action x (posting x), λ h. ap (λ (y : Action). is_note (posts y)) h.1)

posts-notes : (p : Post) → is_note p ≡ true → p ≡ notes
posts-notes silent h = absurd (false≢true h)
posts-notes (mails port) h = absurd (false≢true h)
posts-notes (joins m) h = absurd (false≢true h)
posts-notes (leaves m) h = absurd (false≢true h)
posts-notes notes h = refl

pub every-journal : EveryJournal
every-journal =
    record {
      journals = λ table p read taken.
          let r = reached-end table p taken in
          record {
            in_order = in_order table p;
            once = r.noted-once;
            exactly = λ x. (
              λ h. let k = (r.noted-below x).0 h in let n = (is-note (action_at table x)).0 (ap is_note k.0) in (n.0, n.1, k.1),
              λ h. (r.noted-below x).1 (posts-notes _ ((is-note (action_at table x)).1 (h.0, h.1)), h.2),
            );
          };
      notes-alone = is-note;
      holds = λ cell cells. refl;
    }
