-- A step that joins a port, and one that pairs with the oldest step of the opposite port: what they do to the arrays is the model's `meet`, and the
-- arrays keep their room.
-- Assumes nothing.
use Prim.Native.Nat.{ℕ, ◌+◌, ◌*◌, ◌^◌, ◌<◌, ◌≤◌}
use native.Mathlib.Omega.{arith}
use mathlib.Core.Path.{◌≡◌, sym, ◌∙◌, ap}
use mathlib.Core.List.{List, [], ◌∷◌}
use lib.ListN.{length, get_or, set}
use Rattle.trace.specs.Machine.{Name}
use Rattle.trace.specs.Order.{eq_name}
use Rattle.model.specs.Site.{upd, Port, opposite, done}
use Rattle.model.specs.Mail.{pair_value, carried, pair, meet, meet_with}
use Rattle.names.specs.InByte.{name_of}
use Rattle.state.specs.State.{comm_of, comms_of, port_number, waiting_of, mail_of}
use Rattle.state.specs.Rooms.{head_in, tail_in, MailRoom}
use Rattle.state.specs.declared.arrays.Mail.{Mail}
use Rattle.std.specs.Prelude.{Option, Some, None, unwrap_or}
use Rattle.mail.specs.Parts.{port_at, pending_code, paired, oldest_in, appended, head_on, tail_on, Joined, Posted}
use Rattle.mail.proofs.Ends.{tails-kept, each_tail}
use Rattle.mail.proofs.Comms.{joined, both-done, carried-at}
use Rattle.mail.proofs.Queues.{waiting-appended, waiting-taken, waiting-some, waiting_none}

-- a tail that goes one further
grown-by-one : (ends : List ℕ) (n : ℕ) → length ends ≡ 32 → n < 16 → (k : ℕ) → tail_in (tail_on ends n) k ≤ tail_in ends k + 1
grown-by-one ends n long small =
    each_tail ends n (tail_in ends n + 1) long small (λ (k t : ℕ). t ≤ tail_in ends k + 1) (omega arith) (λ k. omega arith)

module _ (comms log ends : List ℕ) (room : MailRoom comms log ends) (me value : ℕ) (is_name : me < 256) (port : Port) where
  -- ---- nothing is pending on the other side: the step joins its own side's end

  module _ (own-number other-number : ℕ) (is-own : own-number ≡ port_number port) (is-other : other-number ≡ port_number (opposite port)) (own-small : own-number < 16)
      (other-small : other-number < 16) (fits : value < 2 ^ 32) (free : tail_in ends own-number < 256) (none : tail_in ends other-number ≤ head_in ends other-number)
    where
      join-meets : mail_of (set comms me (pending_code value)) (appended log ends own-number me) (tail_on ends own-number)
          ≡ meet port (name_of me) value (mail_of comms log ends)
      join-meets =
          own
          ∙ ap (λ (l : List Name). meet_with l port (name_of me) value (mail_of comms log ends))
          (sym (waiting_none log ends room.log-room other-number other-small (opposite port) is-other none))
        where
          own : mail_of (set comms me (pending_code value)) (appended log ends own-number me) (tail_on ends own-number)
              ≡ meet_with [] port (name_of me) value (mail_of comms log ends)
          own =
              let c = joined comms me value (omega (arith, room.comms-room.long)) in
              let w = waiting-appended log ends room.log-room own-number own-small port is-own me free in
              λ i. record { comm = c i; waiting = w i }

      pub join-posted : {before after : Mail} → before.comms ≡ comms → before.log ≡ log → before.ends ≡ ends → Joined me own-number value before after
          → Posted port (name_of me) value before after
      join-posted {before} {after} p q r j =
          record {
            mail = rw (j.comms, j.log, j.ends, p, q, r) join-meets;
            grown = rw (j.ends, r) (grown-by-one ends own-number room.log-room.ends-long own-small);
          }

  -- ---- a step is pending on the other side: the step pairs with the oldest

  module _ (other-number : ℕ) (is-other : other-number ≡ port_number (opposite port)) (other-small : other-number < 16)
      (some : head_in ends other-number < tail_in ends other-number) (other : ℕ) (is-oldest : other ≡ oldest_in log ends other-number) (other_name : other < 256)
      (sent : ℕ) (is-sent : sent ≡ pair_value port.side value (carried (comm_of (get_or comms other 0)))) (fits : sent < 2 ^ 32)
    where
      abbrev rest : List Name
      rest = waiting_of log (head_on ends other-number) (opposite port)

      pair-meets : mail_of (paired comms me other sent) log (head_on ends other-number) ≡ meet port (name_of me) value (mail_of comms log ends)
      pair-meets = own ∙ ap (λ (l : List Name). meet_with l port (name_of me) value (mail_of comms log ends)) oldest
        where
          comm : comms_of (paired comms me other sent) ≡ (pair port (name_of me) value (name_of other) rest (mail_of comms log ends)).comm
          comm =
              both-done comms me other sent room.comms-room.long is_name other_name
              ∙ ap (λ (v : ℕ). upd eq_name (upd eq_name (comms_of comms) (name_of other) (done (name_of me) v)) (name_of me) (done (name_of other) v))
              (is-sent ∙ ap (pair_value port.side value) (sym (carried-at comms other)))

          own : mail_of (paired comms me other sent) log (head_on ends other-number)
              ≡ meet_with (name_of other ∷ rest) port (name_of me) value (mail_of comms log ends)
          own =
              let w = waiting-taken log ends room.log-room other-number other-small (opposite port) is-other some in
              λ i. record { comm = comm i; waiting = w i }

          oldest : name_of other ∷ rest ≡ waiting_of log ends (opposite port)
          oldest =
              ap (λ (x : ℕ). name_of x ∷ rest) is-oldest
              ∙ sym (waiting-some log ends room.log-room other-number other-small (opposite port) is-other some)

      pub pair-posted : {before after : Mail} → before.comms ≡ comms → before.log ≡ log → before.ends ≡ ends
          → after.comms ≡ paired comms me other sent → after.log ≡ log → after.ends ≡ head_on ends other-number
          → Posted port (name_of me) value before after
      pair-posted p q r x y z =
          record {
            mail = rw (x, y, z, p, q, r) pair-meets;
            grown = rw (z, r) (λ n. omega (arith, tails-kept ends other-number (head_in ends other-number + 1) n));
          }

-- ---- a Send of a value, or else a Receive

-- a port's number and the opposite port's
pub record Numbers (m : ℕ) (sent : Option ℕ) (numbers : ℕ × ℕ) : Type 0 where
  pub own : numbers.0 ≡ port_number (port_at m sent)
  pub theirs : numbers.1 ≡ port_number (opposite (port_at m sent))
  pub small : (numbers.0 < 16) × (numbers.1 < 16)

pub sending : (m value : ℕ) (sent : Option ℕ) (numbers : ℕ × ℕ) → m < 8 → sent ≡ Some value → numbers ≡ (2 * m, 2 * m + 1) → Numbers m sent numbers
sending m value sent numbers small s n = rw (s, n) (record { own = omega arith; theirs = omega arith; small = (omega arith, omega arith) })

pub receiving : (m : ℕ) (sent : Option ℕ) (numbers : ℕ × ℕ) → m < 8 → sent ≡ None → numbers ≡ (2 * m + 1, 2 * m) → Numbers m sent numbers
receiving m sent numbers small s n = rw (s, n) (record { own = omega arith; theirs = omega arith; small = (omega arith, omega arith) })

-- the value of the pair that it makes
pub pair_sent : (m value kept : ℕ) (sent : Option ℕ) (v : ℕ) → sent ≡ Some v → value ≡ v → value ≡ pair_value (port_at m sent).side (unwrap_or sent 0) kept
pair_sent m value kept sent v s e = rw s e

pub pair_kept : (m value kept : ℕ) (sent : Option ℕ) → sent ≡ None → value ≡ kept → value ≡ pair_value (port_at m sent).side (unwrap_or sent 0) kept
pair_kept m value kept sent s e = rw s e
