-- Arrays of zeros have room.
-- Assumes nothing.
use mathlib.Core.Path.{◌≡◌, refl, sym, subst}
use mathlib.Core.List.{List}
use Prim.Native.Nat.{ℕ, zero, suc, ◌+◌, ◌*◌, ◌^◌, ◌<◌}
use native.Mathlib.Omega.{arith}
use lib.Dec.{lit<}
use lib.ListN.{length, get_or, replicate, length-replicate}
use Rattle.state.specs.Rooms.{CommsRoom, LogRoom, MailRoom, QueueRoom}

pub get_or-alike : {A : Type 0} (n i : ℕ) (x : A) → get_or (replicate n x) i x ≡ x
get_or-alike zero i x = refl
get_or-alike (suc n) zero x = refl
get_or-alike (suc n) (suc i) x = get_or-alike n i x

abbrev pub zeros : ℕ → List ℕ
zeros n = replicate n 0

comms-zero : CommsRoom (zeros 256)
comms-zero =
    record {
      long = length-replicate {A = ℕ} 256 0;
      valued = λ j. subst (λ (c : ℕ). c < 2 ^ 42) (sym (get_or-alike {A = ℕ} 256 j 0)) (lit< tt);
    }

ends-zero : (log : List ℕ) → length log ≡ 4096 → LogRoom log (zeros 32)
ends-zero log e =
    record {
      log-long = e;
      ends-long = length-replicate {A = ℕ} 32 0;
      ordered = λ n. omega (arith, get_or-alike {A = ℕ} 32 (2 * n) 0);
      bounded = λ n. omega (arith, get_or-alike {A = ℕ} 32 (2 * n + 1) 0);
    }

pub mail_zero : MailRoom (zeros 256) (zeros 4096) (zeros 32)
mail_zero = record { comms-room = comms-zero; log-room = ends-zero (zeros 4096) (length-replicate {A = ℕ} 4096 0) }

pub comms_cleared : {comms log ends : List ℕ} → MailRoom comms log ends → MailRoom (zeros 256) log ends
comms_cleared room = record { comms-room = comms-zero; log-room = room.log-room }

pub ends_cleared : {comms log ends : List ℕ} → MailRoom comms log ends → MailRoom comms log (zeros 32)
ends_cleared {log = log} room = record { comms-room = room.comms-room; log-room = ends-zero log room.log-room.log-long }

pub queues_zero : QueueRoom (zeros 72)
queues_zero = record { long = length-replicate {A = ℕ} 72 0; bounded = λ m. omega (arith, get_or-alike {A = ℕ} 72 (9 * m) 0) }
