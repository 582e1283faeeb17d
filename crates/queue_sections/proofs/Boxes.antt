-- A mailbox's bytes, from its two ports' logs.
-- Assumes nothing.
use mathlib.Core.Path.{◌≡◌, refl, ◌∙◌, ap, sym}
use mathlib.Core.List.{List, [], ◌∷◌, ◌++◌, map}
use Prim.Native.Nat.{ℕ, ◌+◌, ◌-◌, ◌*◌, ◌<◌, ◌≤◌}
use native.Mathlib.Nat.{add-zero}
use native.Mathlib.Omega.{arith}
use lib.ListN.{length, length-append, length-map}
use Rattle.trace.specs.Machine.{Name}
use Rattle.model.specs.Report.{parts, word, name_bytes, box_bytes}
use Rattle.names.specs.InByte.{name_of}
use Rattle.state.specs.State.{pending_in}
use Rattle.state.specs.Rooms.{head_in, tail_in, LogRoom}
use Rattle.queue_sections.specs.Parts.{name_at, port_bytes, queue_of}
use Rattle.queue_sections.proofs.Lists.{names_at, taken-length}

names-append : (l k : List Name) → name_bytes (l ++ k) ≡ name_bytes l ++ name_bytes k
names-append [] k = refl
names-append (x ∷ l) k = ap (λ (r : List ℕ). x.actor ∷ x.position ∷ r) (names-append l k)

module _ (log ends : List ℕ) where
  -- how many steps are pending at a port
  abbrev pub count_in : ℕ → ℕ
  count_in port = tail_in ends port - head_in ends port

  module _ (r : LogRoom log ends) where
    -- a port's pending steps lie within the log
    pub port-room : (port : ℕ) → port < 16 → 256 * port + head_in ends port + count_in port ≤ 4096
    port-room port h = omega (arith, r.ordered port, r.bounded port)

    -- the names that are written are those
    pub port-steps : (port : ℕ) → port < 16 → parts (name_at log (256 * port + head_in ends port)) (count_in port) 0 ≡ port_bytes log ends port
    port-steps port h = names_at log (256 * port + head_in ends port) (count_in port) (omega (arith, port-room port h, r.log-long))

    port-length : (port : ℕ) → port < 16 → length (map name_of (pending_in log ends port)) ≡ count_in port
    port-length port h =
        length-map (pending_in log ends port) name_of
        ∙ taken-length log (256 * port + head_in ends port) (count_in port) (omega (arith, port-room port h, r.log-long))

    -- the queue's length, and the steps of both ports
    pub box-split : (m : ℕ) → m < 8 → word (count_in (2 * m) + count_in (2 * m + 1)) ++ (port_bytes log ends (2 * m) ++ port_bytes log ends (2 * m + 1)) ≡ box_bytes (queue_of log ends m)
    box-split m h =
        let sends : List Name = map name_of (pending_in log ends (2 * m)) in
        let receives : List Name = map name_of (pending_in log ends (2 * m + 1)) in
        let size : length (sends ++ receives) ≡ count_in (2 * m) + count_in (2 * m + 1) = length-append sends receives ∙ rw (port-length (2 * m) (omega arith), port-length (2 * m + 1) (omega arith)) in
        let both : word (count_in (2 * m) + count_in (2 * m + 1)) ++ (port_bytes log ends (2 * m) ++ port_bytes log ends (2 * m + 1)) ≡ box_bytes (sends ++ receives) = rw (size, names-append) in
        both ∙ ap (λ (j : ℕ). box_bytes (map name_of (pending_in log ends j) ++ receives)) (sym (add-zero (2 * m)))
