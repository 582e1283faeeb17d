-- The site's journal: what a step adds to it.
-- Assumes nothing: these are definitions.
use Rattle.std.specs.Prelude.{ℕ, List, [], ◌∷◌, ◌++◌}
use Rattle.trace.specs.Machine.{Name}
use Rattle.model.specs.Site.{Entry}
use Rattle.model.specs.Views.{Post, silent, mails, joins, leaves, notes}

-- a Note adds its step name and its cell's value at the end; any other step adds nothing
abbrev pub noting : Post → Name → ℕ → List Entry → List Entry
noting silent me v j = j
noting (mails port) me v j = j
noting (joins mutex) me v j = j
noting (leaves mutex) me v j = j
noting notes me v j = j ++ (record { step = me; value = v } ∷ [])
