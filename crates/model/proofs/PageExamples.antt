-- The pages of `specs/PageExamples.antt`: one proof, by computation.
-- Assumes nothing.
use mathlib.Core.Path.{refl}
use Rattle.table.specs.Decode.{decode_as}
use Rattle.table.specs.Read.{read_of}
use Rattle.model.specs.Site.{initial}
use Rattle.model.specs.Local.{cells_after}
use Rattle.model.specs.Step.{ready, step}
use Rattle.model.specs.Page as Page
use Rattle.model.specs.Claims.{AllHold}
use Rattle.model.specs.PageExamples.{pages}

pub pages-hold : AllHold pages
unfolding Page.page_of Page.page read_of decode_as initial ready step cells_after
pages-hold = refl
