-- What is due: the end of a schedule, or a turn.
-- Assumes nothing: these are definitions.
use Rattle.std.specs.Prelude.{ℕ, ◌<◌, ◌≤◌, ◌≡◌, ◌⊎◌, Option, Some, None, length, get_or}
use Rattle.model.specs.Views.{Post, silent, notes}
use Rattle.policy.specs.Parts.{TurnRight}
use Rattle.lead.specs.declared.Lead.{Lead}
use Rattle.lead.specs.declared.Lead.TheVariants.{Lent, Made}

-- what is due at entry i, and who leads then: of a lent schedule its end, or the entry's actor, and the schedule still; of a made one its end where
-- the mask has nobody, or the policy's turn, and the policy after it
abbrev pub DueRight : Lead → (i mask : ℕ) → Option ℕ → Lead → Type 0
DueRight (Lent schedule) i mask None after = length schedule.now ≤ i
DueRight (Lent schedule) i mask (Some actor) after = (i < length schedule.now) × (actor ≡ get_or schedule.now i 0) × (after ≡ Lent schedule)
DueRight (Made policy) i mask None after = mask ≡ 0
DueRight (Made policy) i mask (Some actor) (Made next) = (0 < mask) × TurnRight policy mask actor next
DueRight (Made policy) i mask (Some actor) (Lent schedule) = ⊥

-- nobody waits for what a step posts: it posts nothing, or adds to the journal
abbrev pub Unheard : Post → Type 0
Unheard p = (p ≡ silent) ⊎ (p ≡ notes)
