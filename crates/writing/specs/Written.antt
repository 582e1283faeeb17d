-- Bytes written at the front of a lent part, and what follows them kept.
-- Assumes nothing: these are definitions.
use Rattle.std.specs.Prelude.{ℕ, ◌≡◌, List, ◌++◌, length, drop}

-- a part that was e and is now b has the bytes s at its front, and after them what it held
abbrev pub Written : (e s b : List ℕ) → Type 0
Written e s b = b ≡ s ++ drop (length s) e

-- what a writer of the bytes s promises: it answers with their number, and has written them
abbrev pub Wrote : (e s b : List ℕ) (r : ℕ) → Type 0
Wrote e s b r = (r ≡ length s) × Written e s b
