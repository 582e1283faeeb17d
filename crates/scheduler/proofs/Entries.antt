-- The entries of a schedule are the actors of its steps' names: written one by one, and all of them.
-- Assumes nothing.
use mathlib.Core.Path.{◌≡◌, ◌∙◌, ap, sym}
use mathlib.Core.List.{List, [], ◌∷◌, ◌++◌, map, append_assoc, map-append, map-map}
use Prim.Native.Nat.{ℕ, suc, ◌+◌, ◌/◌, ◌<◌, ◌≤◌}
use native.Mathlib.Numerals.{add-one}
use native.Mathlib.Omega.{arith}
use lib.ListN.{length, get_or, set, take, drop, length-map}
use lib.Seq.{take-suc, drop-cons, set_at, length-take-le}
use Rattle.trace.specs.Machine.{Name}
use Rattle.trace.specs.Schedule.{names}
use Rattle.trace.proofs.Run.{actors}
use Rattle.model.specs.Site.{initial}
use Rattle.model.specs.Schedule.{machine}
use Rattle.names.specs.InByte.{name_of}

-- the actor of a name in a byte
abbrev pub actor_in : ℕ → ℕ
actor_in x = x / 32

-- the actors of the first i names are written
abbrev pub written : (held before : List ℕ) (i : ℕ) → List ℕ
written held before i = map actor_in (take i held) ++ drop i before

front_long : (held : List ℕ) (i : ℕ) → i ≤ length held → length (map actor_in (take i held)) ≡ i
front_long held i h = length-map (take i held) actor_in ∙ length-take-le i held h

pub written_next : (held before : List ℕ) (i : ℕ) → i < length held → i < length before
    → set (written held before i) i (actor_in (get_or held i 0)) ≡ written held before (i + 1)
written_next held before i h k =
    let x : ℕ = get_or held i 0 in
    ap (λ (l : List ℕ). set (map actor_in (take i held) ++ l) i (actor_in x)) (drop-cons before i 0 k)
    ∙ set_at (map actor_in (take i held)) (get_or before i 0) (drop (suc i) before) (actor_in x) i (front_long held i (omega arith))
    ∙ sym (append_assoc (map actor_in (take i held)) (actor_in x ∷ []) (drop (suc i) before))
    ∙ ap (λ (l : List ℕ). l ++ drop (suc i) before) (sym (map-append actor_in (take i held) (x ∷ [])) ∙ ap (map actor_in) (sym (take-suc held i 0 h)))
    ∙ ap (written held before) (sym (add-one i))

-- the names of a schedule's steps give it back
pub entries-back : (table schedule held : List ℕ) (n : ℕ) → map name_of (take n held) ≡ names (machine table) initial schedule
    → map actor_in (take n held) ≡ schedule
entries-back table schedule held n e =
    sym (map-map (λ (x : Name). x.actor) name_of (take n held)) ∙ ap (map (λ (x : Name). x.actor)) e ∙ actors (machine table) initial schedule
