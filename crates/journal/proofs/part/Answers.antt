-- `journal::part` meets its contract: the number of entries, then the entries. Assumes nothing.
use mathlib.Core.Path.{sym, subst}
use mathlib.Core.List.{List, ◌++◌}
use Prim.Native.Nat.{ℕ, ◌+◌, ◌≤◌}
use native.Mathlib.Omega.{arith}
use lib.ListN.{length}
use Rattle.model.specs.Report.{word, entry_bytes}
use Rattle.state.specs.State.{journal_of}
use Rattle.writing.specs.Written.{Wrote}
use Rattle.writing.proofs.Written.{rest, joined, wrote_then}
use Rattle.writing.proofs.Texts.{wrote-room}
use Rattle.journal.proofs.Held.{counts, entries_at}
use Rattle.journal.proofs.part.Goals as goal

pub entries-requires : goal.entries-requires
entries-requires c =
    let t = c.short-at in
    let j = c.args.journal.now in
    let room : length (entry_bytes (journal_of j)) ≤ length (rest t.result t.new.buf) = wrote-room c.args.buf.now (word j.count) t.ensures _ (omega (arith, c.requires)) in
    subst (λ (l : List ℕ). length l ≤ length (rest t.result t.new.buf)) (sym (entries_at j)) room

pub returns : goal.returns
returns c =
    let t = c.short-at in
    let e = c.entries in
    let j = c.args.journal.now in
    let told : Wrote (rest t.result t.new.buf) (entry_bytes (journal_of j)) e.new.buf e.result = subst (λ (l : List ℕ). Wrote (rest t.result t.new.buf) l e.new.buf e.result) (entries_at j) e.ensures in
    subst (λ (n : ℕ). Wrote c.args.buf.now (word n ++ entry_bytes (journal_of j)) (joined t.result t.new.buf e.new.buf) (t.result + e.result)) (sym (counts j))
    (wrote_then c.args.buf.now (word j.count) t.new.buf (entry_bytes (journal_of j)) e.new.buf t.result e.result t.ensures told)
