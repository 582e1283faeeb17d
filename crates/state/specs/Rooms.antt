-- The arrays that hold a state but for the actors' records: where the counts in them stand, and that none passes its array's room. It names no type
-- of the source, so that the types name it.
-- Assumes nothing: these are definitions.
use Rattle.std.specs.Prelude.{ℕ, ◌+◌, ◌*◌, ◌^◌, ◌<◌, ◌≤◌, ◌≡◌, List, length, get_or}

-- each port has a log of 256 names, to which it only appends; those from its head to its tail are pending. The ends stand side by side: port n's
-- head at 2 · n, and its tail one further
abbrev pub head_in : (ends : List ℕ) → ℕ → ℕ
head_in ends n = get_or ends (2 * n) 0

abbrev pub tail_in : (ends : List ℕ) → ℕ → ℕ
tail_in ends n = get_or ends (2 * n + 1) 0

-- a mutex has nine bytes: its queue's length, then its entries
abbrev pub size_in : (queues : List ℕ) → ℕ → ℕ
size_in queues m = get_or queues (9 * m) 0

-- the communications have their array's length, and each value fits 32 bits
pub record CommsRoom (comms : List ℕ) : Type 0 where
  pub long : length comms ≡ 256
  pub valued : (j : ℕ) → get_or comms j 0 < 2 ^ 42

-- the ports' logs have their arrays' lengths, and none runs over
pub record LogRoom (log ends : List ℕ) : Type 0 where
  pub log-long : length log ≡ 4096
  pub ends-long : length ends ≡ 32
  pub ordered : (n : ℕ) → head_in ends n ≤ tail_in ends n
  pub bounded : (n : ℕ) → tail_in ends n ≤ 256

pub record MailRoom (comms log ends : List ℕ) : Type 0 where
  pub comms-room : CommsRoom comms
  pub log-room : LogRoom log ends

-- the queues' array has its length, and no queue is longer than eight
pub record QueueRoom (queues : List ℕ) : Type 0 where
  pub long : length queues ≡ 72
  pub bounded : (m : ℕ) → size_in queues m ≤ 8

-- the journal's array has its length, room for each action of the largest table
pub record JournalRoom (count : ℕ) (entries : List ℕ) : Type 0 where
  pub long : length entries ≡ 256
  pub bounded : count ≤ 256
