-- Who leads a schedule in the middle of its run, the lent entries or a policy: what is due then, and who leads the next turn.
-- Assumes nothing.
use mathlib.Core.Path.{◌≡◌, refl, ◌∙◌, ap, sym, subst}
use mathlib.Core.List.{List}
use mathlib.Core.Bool.{cond}
use Prim.Native.Nat.{ℕ, ◌+◌, ◌-◌, ◌^◌, ◌<◌, ◌≤◌}
use native.Mathlib.Omega.{arith}
use lib.ListN.{length, get_or, take, replicate}
use Rattle.std.specs.Prelude.{⊤, Some, None}
use Rattle.table.specs.Format.{actors_of, count_of}
use Rattle.table.specs.Decode.{action_of}
use Rattle.table.specs.Promise.{WellFormed}
use Rattle.model.specs.Site.{Site}
use Rattle.model.specs.Views.{posts}
use Rattle.model.specs.Step.{ready}
use Rattle.model.specs.Ready.{ready_mask}
use Rattle.model.specs.Scheduler.{Rule, turn_of}
use Rattle.model.proofs.Reached.{reached-end}
use Rattle.state.specs.declared.arrays.Site.{Site as Arrays}
use Rattle.state.specs.State.{fresh_actor}
use Rattle.state.specs.declared.Actor.{Actor}
use Rattle.lead.specs.Parts.{DueRight, Unheard}
use Rattle.lead.specs.declared.Lead.{Lead}
use Rattle.lead.specs.declared.Lead.TheVariants.{Lent, Made}
use Rattle.readiness.specs.Parts.{KnownAlike, looks_ready}
use Rattle.readiness.proofs.Laws.{nobody-known, ready-held}
use Rattle.policy.specs.Parts.{rule_of, kept_of}
use Rattle.policy.specs.declared.Policy.{Policy}
use Rattle.policy.proofs.Choices.{policy-chooses}
use Rattle.play.specs.Parts.{played_by}
use Rattle.play.proofs.Playing.{reached, Playing}
use Rattle.play.proofs.Masks.{OwnOpen, own-masked}
use Rattle.play.proofs.Making.{Left, left-start, left-next, known_next, open_next, turn-in-table, at-end, more, entry}

-- where the schedule is made: the rest is what the policy makes, and the actors of the mask but the last are known to be ready
pub record Making (table whole : List ℕ) (policy : Policy) (mask last i : ℕ) (actors : List Actor) (arrays : Arrays) : Type 0 where
  pub rest : Left (rule_of policy) table whole i (kept_of policy)
  pub last-in : last < actors_of table
  pub known : KnownAlike table mask last actors arrays
  -- and where nobody waited for what its step posted, nobody else has become ready
  pub quiet : 0 < (get_or actors last fresh_actor).position → Unheard (posts (action_of table last ((get_or actors last fresh_actor).position - 1)))
      → OwnOpen table (reached table whole i) mask last

-- a lent schedule is all of it, and a policy makes the rest of it
abbrev pub Leads : Lead → (table whole : List ℕ) (mask last i : ℕ) → List Actor → (arrays : Arrays) → Type 0
Leads (Lent schedule) table whole mask last i actors arrays = schedule.now ≡ whole
Leads (Made policy) table whole mask last i actors arrays = Making table whole policy mask last i actors arrays

-- where it is made, the mask is that of the state that the first i entries have left
abbrev pub Masked : Lead → (table whole : List ℕ) (i mask : ℕ) → Type 0
Masked (Lent schedule) table whole i mask = ⊤
Masked (Made policy) table whole i mask = mask ≡ ready_mask table (reached table whole i)

pub leads-start : (lead : Lead) (table : List ℕ) (fresh : Actor) (arrays : Arrays) → WellFormed table → fresh ≡ fresh_actor
    → Leads lead table (played_by table lead) 0 0 0 (replicate 8 fresh) arrays
leads-start (Lent schedule) table fresh arrays ok e = refl
leads-start (Made policy) table fresh arrays ok e =
    record {
      rest = left-start (rule_of policy) table (kept_of policy);
      last-in = omega (arith, ok.actors-least);
      quiet = λ some posted. absurd (omega (arith, ap (λ (r : Actor). r.position) e));
      known = nobody-known table 0 (replicate 8 fresh) arrays;
    }

-- who leads is no policy: nothing is asked of the mask
pub unmasked : (lead : Lead) (table whole : List ℕ) (i mask : ℕ) → ((policy : Policy) → lead ≡ Made policy → ⊥) → Masked lead table whole i mask
unmasked (Lent schedule) table whole i mask not = tt
unmasked (Made policy) table whole i mask not = absurd (not policy refl)

module _ {table whole : List ℕ} {policy : Policy} {arrays : Arrays} {actors : List Actor} {mask last i : ℕ}
    (P : Playing table whole arrays actors i) (M : Making table whole policy mask last i actors arrays) where
  pub last-in-actors : last < length actors
  last-in-actors = omega (arith, M.last-in, P.actors-long, P.accepted-table.actors-most)

  -- the last actor's record, as the code has it
  module _ (r : Actor) (own : r ≡ get_or actors last fresh_actor) where
    pub last-position : r.position ≤ count_of table last
    last-position =
        let reached-there : (get_or actors last fresh_actor).position ≡ _ = ap (λ (s : Site). (s.actor last).position) P.site in
        omega (arith, ap (λ (q : Actor). q.position) own, reached-there, (reached-end table (take i _) P.taken).position-most last)

    -- its step posted nothing: the mask is right but for it
    pub opened : (0 < r.position) × Unheard (posts (action_of table last (r.position - 1))) → OwnOpen table (reached table whole i) mask last
    opened q =
        M.quiet (subst (λ (s : Actor). 0 < s.position) own q.0) (subst (λ (s : Actor). Unheard (posts (action_of table last (s.position - 1)))) own q.1)

    -- what its record says of it is what the state says
    last-looks : looks_ready table last r arrays ≡ ready table (reached table whole i) last
    last-looks =
        ap (λ (q : Actor). looks_ready table last q arrays) own
        ∙ sym (ready-held table actors arrays last M.last-in)
        ∙ ap (λ (s : Site). ready table s last) P.site

    -- so its own bit makes it right
    pub own-right : (0 < r.position) × Unheard (posts (action_of table last (r.position - 1)))
        → cond (looks_ready table last r arrays) mask (mask - 2 ^ last) ≡ ready_mask table (reached table whole i)
    own-right q = rw last-looks (own-masked (opened q) M.last-in)

-- ---- what is due

module _ {table whole : List ℕ} {arrays : Arrays} {actors : List Actor} {i : ℕ} (P : Playing table whole arrays actors i)
    (was last mask : ℕ) where
  -- the end
  pub due-end : (lead after : Lead) → Leads lead table whole was last i actors arrays → Masked lead table whole i mask
      → DueRight lead i mask None after → length whole ≤ i
  due-end (Lent schedule) after L right d = subst (λ (l : List ℕ). length l ≤ i) L d
  due-end (Made policy) after L right d = at-end (rule_of policy) (policy-chooses policy) table whole (kept_of policy) P L.rest right d

  -- the next entry
  pub due-entry : (lead after : Lead) (a : ℕ) → Leads lead table whole was last i actors arrays → Masked lead table whole i mask
      → DueRight lead i mask (Some a) after → (i < length whole) × (a ≡ get_or whole i 0)
  due-entry (Lent schedule) after a L right d = subst (λ (l : List ℕ). (i < length l) × (a ≡ get_or l i 0)) L (d.0, d.1)
  due-entry (Made policy) (Made next) a L right d =
      let turn : a ≡ turn_of (rule_of policy) table (reached table whole i) (kept_of policy) =
      d.1.chosen (ready table (reached table whole i)) (actors_of table) right in (
        more (rule_of policy) (policy-chooses policy) table whole (kept_of policy) P L.rest right d.0 a turn,
        entry (rule_of policy) (policy-chooses policy) table whole (kept_of policy) P L.rest right d.0 a turn,
      )
  due-entry (Made policy) (Lent schedule) a L right d = absurd d

  -- after it, who leads then
  pub leads-next : {arrays' : Arrays} {actors' : List Actor} (lead after : Lead) (a : ℕ)
      → Leads lead table whole was last i actors arrays → Masked lead table whole i mask → DueRight lead i mask (Some a) after
      → Playing table whole arrays' actors' (i + 1) → Leads after table whole mask a (i + 1) actors' arrays'
  leads-next {arrays'} {actors'} (Lent schedule) after a L right d Q =
      subst (λ (lead : Lead). Leads lead table whole mask a (i + 1) actors' arrays') (sym d.2) L
  leads-next (Made policy) (Made next) a L right d Q =
      let turn : a ≡ turn_of (rule_of policy) table (reached table whole i) (kept_of policy) =
      d.1.chosen (ready table (reached table whole i)) (actors_of table) right in
      record {
        rest =
            subst (λ (rule : Rule). Left rule table whole (i + 1) (kept_of next)) (sym d.1.same-rule)
            (left-next (rule_of policy) (policy-chooses policy) table whole (kept_of policy) P L.rest right d.0 a turn _ d.1.keeps);
        known = known_next (rule_of policy) (policy-chooses policy) table whole (kept_of policy) P L.rest right d.0 a turn Q;
        last-in = turn-in-table (rule_of policy) (policy-chooses policy) table whole (kept_of policy) P L.rest right d.0 a turn;
        quiet = λ some posted. open_next (rule_of policy) (policy-chooses policy) table whole (kept_of policy) P L.rest right d.0 a turn Q posted;
      }
  leads-next (Made policy) (Lent schedule) a L right d Q = absurd d
