-- A step by its action: what the action's range gives, and what the step leaves, put together from plain facts.
-- Assumes nothing.
use mathlib.Core.Path.{◌≡◌, refl, ◌∙◌, ap, ap₂, sym, subst}
use mathlib.Core.Bool.{Bool}
use mathlib.Core.List.{List, [], ◌∷◌, ◌++◌}
use Prim.Native.Nat.{ℕ, ◌+◌, ◌*◌, ◌<◌, ◌≤◌}
use native.Mathlib.Omega.{arith}
use lib.ListN.{get_or}
use Rattle.std.proofs.Common.{Result, Ok, Err}
use Rattle.table.specs.declared.Action.{Action}
use Rattle.table.specs.declared.Action.TheVariants.{Note}
use Rattle.table.specs.declared.Numbers.{Numbers}
use Rattle.table.specs.Format.{count_of}
use Rattle.table.specs.Decode.{action_of}
use Rattle.table.specs.Promise.{InRange, Listing, LowerCommunication, number}
use Rattle.trace.specs.Machine.{Name}
use Rattle.model.specs.Site as Model
use Rattle.model.specs.Site.{Port, name}
use Rattle.model.specs.Views.{Post, silent, mails, posts, looks, sent, listed}
use Rattle.model.specs.Mail.{mailing, meet}
use Rattle.model.specs.Mutex.{queueing}
use Rattle.model.specs.Journal.{noting}
use Rattle.model.specs.Local.{Seen, unseen, seen, first, see, cells_after}
use Rattle.model.specs.Step.{taken, step_of}
use Rattle.names.specs.InByte.{name_of}
use Rattle.state.specs.State.{held_mail, held_queues, queues_of, journal_of, next_of, seen_from, step_as}
use Rattle.state.specs.Rooms.{tail_in}
use Rattle.state.specs.declared.arrays.Mail.{Mail}
use Rattle.state.specs.declared.arrays.Queues.{Queues}
use Rattle.state.specs.declared.arrays.Journal.{Journal}
use Rattle.state.specs.declared.arrays.Site.{Site as Arrays}
use Rattle.step.specs.Parts.{Steppable, StepTaken, Picks, SmallPlace}
use Rattle.state.specs.declared.Actor.{Actor}
use Rattle.state.specs.declared.Hold.{Hold}
use Rattle.mail.specs.Parts.{Posted}
use Rattle.names.proofs.InByte.{name-byte}
use Rattle.step.proofs.Steps.{record-after}
use Rattle.step.proofs.Found.{Has, listed_has}

has-picks : (table : List ℕ) (a : ℕ) (s : Seen) → Has (λ place n. n < count_of table a) s → Picks table a s
has-picks table a unseen h = tt
has-picks table a (seen place n v) h = h

has-place : (s : Seen) → Has (λ place n. place ≤ 4) s → SmallPlace s
has-place unseen h = tt
has-place (seen place n v) h = h

-- the place of a listed number is at most 4
pub small-place : (test : ℕ → Bool) (value : ℕ → ℕ) (l : Numbers) → l.count ≤ 4 → SmallPlace (first test value 1 (listed l))
small-place test value l most =
    has-place (first test value 1 (listed l)) (listed_has test value (λ place n. place ≤ 4) l (λ i below. omega arith))

module _ {table : List ℕ} {a : ℕ} {r : Actor} {site : Arrays} (S : Steppable table a r site) where
  pub ranged : (x : Action) → next_of table a r ≡ x → InRange table a r.position x
  ranged x e = subst (InRange table a r.position) e (S.accepted.in-range a r.position S.actor S.unfinished)

  pub position-small : r.position < 32
  position-small = omega (arith, S.accepted.actions-most a S.actor, S.unfinished)

  pub actor-small : a < 8
  actor-small = omega (arith, S.accepted.actors-most, S.actor)

  -- a listed action lies below 32, and what a look finds of a list can be picked up
  pub listed_small : (l : Numbers) → Listing (LowerCommunication table a r.position) l → (i : ℕ) → i < l.count → number l i < 32
  listed_small l L i h = omega (arith, (L.right i h).0, position-small)

  pub pickable : (test : ℕ → Bool) (value : ℕ → ℕ) (l : Numbers) → Listing (LowerCommunication table a r.position) l → Picks table a (first test value 1 (listed l))
  pickable test value l L =
      has-picks table a (first test value 1 (listed l))
      (listed_has test value (λ place n. n < count_of table a) l (λ i h. omega (arith, (L.right i h).0, S.unfinished)))

  -- a step that is taken has room to post
  pub room-to-post : (x : Action) → next_of table a r ≡ x → step_of table (seen_from r site) a x ≡ taken
      → (n : ℕ) → tail_in site.mail.ends n < 256
  room-to-post x e t = S.tail-room (ap (step_of table (seen_from r site) a) e ∙ t)

  -- the record of a step of the action x that is taken
  abbrev Moves : Action → Actor → Type 0
  Moves x next = (next.position ≡ r.position + 1) × (next.cells ≡ cells_after (action_of table a) x (see (seen_from r site) a (looks x)) r.cells)

  -- a step that is taken leaves its record, and what it posts
  done : (x : Action) (next : Actor) {after : Arrays} → taken ≡ step_of table (seen_from r site) a x → Moves x next
      → held_mail after ≡ mailing (posts x) (name a r.position) (sent x r.cells) (held_mail site)
      → held_queues after ≡ queueing (posts x) a (held_queues site)
      → journal_of after.journal ≡ noting (posts x) (name a r.position) (sent x r.cells) (journal_of site.journal)
      → ((n : ℕ) → tail_in after.mail.ends n ≤ tail_in site.mail.ends n + 1)
      → StepTaken table a x r site after (Ok next)
  done x next right moved mail queue journaled grown =
      record {
        next-right = right;
        took = record {
          record-next = record-after (action_of table a) x (see (seen_from r site) a (looks x)) r next moved.0 moved.1;
          mail-next = mail;
          queue-next = queue;
          journal-next = journaled;
        };
        grown = grown;
      }

  -- one that is not taken leaves the site as it is
  pub held : (x : Action) (h : Hold) → step_as {T = Actor} (Err h) ≡ step_of table (seen_from r site) a x → StepTaken table a x r site site (Err h)
  held x h right = record { next-right = right; took = tt; grown = λ n. omega arith }

  -- nor does one that posts nothing
  pub quiet : (x : Action) (next : Actor) → posts x ≡ silent → taken ≡ step_of table (seen_from r site) a x → Moves x next
      → StepTaken table a x r site site (Ok next)
  quiet x next none right moved =
      done x next right moved
      (sym (ap (λ (p : Post). mailing p (name a r.position) (sent x r.cells) (held_mail site)) none))
      (sym (ap (λ (p : Post). queueing p a (held_queues site)) none))
      (sym (ap (λ (p : Post). noting p (name a r.position) (sent x r.cells) (journal_of site.journal)) none))
      (λ n. omega arith)

  -- a step that posts to a mailbox changes the mail alone, and the step's name in one byte is its name
  pub posted : (x : Action) (next : Actor) (port : Port) {mail : Mail} (v : ℕ) → posts x ≡ mails port → sent x r.cells ≡ v
      → taken ≡ step_of table (seen_from r site) a x
      → Posted port (name_of (32 * a + r.position)) v site.mail mail
      → Moves x next
      → StepTaken table a x r site (record { mail = mail; queues = site.queues; journal = site.journal }) (Ok next)
  posted x next port v mailed carries right post moved =
      done x next right moved
      (post.mail
      ∙ ap (λ (me : Name). meet port me v (held_mail site)) (name-byte a r.position position-small)
      ∙ sym (ap₂ (λ (p : Post) (w : ℕ). mailing p (name a r.position) w (held_mail site)) mailed carries))
      (sym (ap (λ (p : Post). queueing p a (held_queues site)) mailed))
      (sym (ap (λ (p : Post). noting p (name a r.position) (sent x r.cells) (journal_of site.journal)) mailed))
      post.grown

  -- a step that joins or leaves a mutex's queue changes the queues alone
  pub queued : (x : Action) (next : Actor) (p : Post) {queues : Queues} → posts x ≡ p
      → taken ≡ step_of table (seen_from r site) a x
      → ((me : Name) (v : ℕ) (mail : Model.Mail) → mailing p me v mail ≡ mail)
      → ((me : Name) (v : ℕ) (entries : List Model.Entry) → noting p me v entries ≡ entries)
      → queues_of queues.bytes ≡ queueing p a (held_queues site)
      → Moves x next
      → StepTaken table a x r site (record { mail = site.mail; queues = queues; journal = site.journal }) (Ok next)
  queued x next p post right unmailed unnoted changed moved =
      done x next right moved
      (sym
      (ap (λ (q : Post). mailing q (name a r.position) (sent x r.cells) (held_mail site)) post
      ∙ unmailed (name a r.position) (sent x r.cells) (held_mail site)))
      (changed ∙ sym (ap (λ (q : Post). queueing q a (held_queues site)) post))
      (sym
      (ap (λ (q : Post). noting q (name a r.position) (sent x r.cells) (journal_of site.journal)) post
      ∙ unnoted (name a r.position) (sent x r.cells) (journal_of site.journal)))
      (λ n. omega arith)

  -- a Note changes the journal alone
  pub noted : (cell : ℕ) (next : Actor) {journal : Journal}
      → journal_of journal ≡ journal_of site.journal ++ (record { step = name_of (32 * a + r.position); value = get_or r.cells cell 0 } ∷ [])
      → (next.position ≡ r.position + 1) × (next.cells ≡ r.cells)
      → StepTaken table a (Note cell) r site (record { mail = site.mail; queues = site.queues; journal = journal }) (Ok next)
  unfolding cells_after
  noted cell next changed moved =
      done (Note cell) next refl moved refl refl
      (changed
      ∙ ap (λ (me : Name). journal_of site.journal ++ (record { step = me; value = get_or r.cells cell 0 } ∷ [])) (name-byte a r.position position-small))
      (λ n. omega arith)

-- a step of the action x is a step of the next action, which x is
pub of-next : {table : List ℕ} {a : ℕ} {r : Actor} {before after : Arrays} {s : Result Actor Hold}
    (x : Action) → next_of table a r ≡ x → StepTaken table a x r before after s → StepTaken table a (next_of table a r) r before after s
of-next {table} {a} {r} {before} {after} {s} x e t =
    subst (λ (y : Action). StepTaken table a y r before after s) (sym e) t
