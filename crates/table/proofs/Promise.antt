-- A file that the reader accepts keeps the promise made to the layer above: everything that it names is in range.
-- Assumes nothing.
use mathlib.Core.Path.{◌≡◌, refl, sym, subst}
use mathlib.Core.Bool.{true, false, ◌&&◌}
use mathlib.Core.Logic.{◌⊎◌, inl, inr}
use mathlib.Core.List.{List}
use Prim.Native.Nat.{ℕ, zero, suc, ◌+◌, ◌*◌, ◌<◌, ◌≤◌}
use native.Mathlib.Nat.{zero-add}
use native.Mathlib.Omega.{arith}
use borrow.Author.Tests.{ltb-true, leb-true, eqb-true}
use lib.Dec.{eqb, leb, ltb}
use lib.ListN.{length}
use Rattle.table.specs.Outcome.{Outcome, accepted, demand, ◌⨾◌, each}
use Rattle.table.specs.Format.{edition_of, actors_of, mailboxes_of, mutexes_of, offset_of, count_of, due_of, place_of, kind_at, p_at, q_at, z_at, listed_at}
use Rattle.table.specs.Kinds.{Form, form_of, last_kind, actions, mutexes, mutex}
use Rattle.table.specs.Decode.{numbers_at, decode_as, action_of}
use Rattle.table.specs.Read.{header_of, directory_of, end_of, actions_of, actor_of, check_of, entry_of, read_of, fields_of, fits, list_fits, list_allowed, clear, rest_clear, allowed, communication_kind}
use Rattle.table.specs.Promise.{number, Listing, is_communication, LowerCommunication, InRange, WellFormed}
use Rattle.table.proofs.Checks.{which, then-left, then-right, demand-true, and_left, and_right, each_at}
use Rattle.table.proofs.Placed.{count_most, inside}

-- the i-th number of a decoded list is the i-th list byte
number_at : (b : List ℕ) (at i : ℕ) → i < 4 → number (numbers_at b at) i ≡ listed_at b at i
number_at b at zero h = refl
number_at b at (suc zero) h = refl
number_at b at (suc (suc zero)) h = refl
number_at b at (suc (suc (suc zero))) h = refl
number_at b at (suc (suc (suc (suc i)))) h = absurd (omega arith)

-- an action of kind 3 or 4 is a Send or a Receive
communication-decoded : (b : List ℕ) (at kind : ℕ) → communication_kind kind ≡ true → is_communication (decode_as kind b at) ≡ true
unfolding decode_as
communication-decoded b at kind h = go (which (eqb kind 3)) (which (eqb kind 4))
  where
    go : (eqb kind 3 ≡ true) ⊎ (eqb kind 3 ≡ false) → (eqb kind 4 ≡ true) ⊎ (eqb kind 4 ≡ false) → is_communication (decode_as kind b at) ≡ true
    go (inl e) f = rw (eqb-true kind 3 e)
    go (inr e) (inl f) = rw (eqb-true kind 4 f)
    go (inr e) (inr f) = let z : false ≡ true = simp (e, f) at h in cc

module _ (b : List ℕ) (actor k : ℕ) where
  abbrev first : ℕ
  first = offset_of b actor

  abbrev at : ℕ
  at = place_of first k

  module _ (f : Form) (right : fields_of b first k f ≡ accepted) where
    abbrev all-clear : Outcome
    all-clear = demand (clear f.p (p_at b at)) 9 at ⨾ demand (clear f.q (q_at b at)) 9 at ⨾ rest_clear b at f.rest

    after-p : (demand (fits b f.q (q_at b at)) 7 at ⨾ list_fits b at f.rest ⨾ list_allowed b first k f.rest ⨾ all-clear) ≡ accepted
    after-p = then-right (demand (fits b f.p (p_at b at)) 7 at) _ right

    after-q : (list_fits b at f.rest ⨾ list_allowed b first k f.rest ⨾ all-clear) ≡ accepted
    after-q = then-right (demand (fits b f.q (q_at b at)) 7 at) _ after-p

    p-fits : fits b f.p (p_at b at) ≡ true
    p-fits = demand-true _ 7 at (then-left (demand (fits b f.p (p_at b at)) 7 at) _ right)

    q-fits : fits b f.q (q_at b at) ≡ true
    q-fits = demand-true _ 7 at (then-left (demand (fits b f.q (q_at b at)) 7 at) _ after-p)

    list-fits : list_fits b at f.rest ≡ accepted
    list-fits = then-left (list_fits b at f.rest) _ after-q

    list-allowed : list_allowed b first k f.rest ≡ accepted
    list-allowed = then-left (list_allowed b first k f.rest) _ (then-right (list_fits b at f.rest) _ after-q)

  -- a list whose z is from 1 to 4 and whose bytes pass a check, as a listing
  listing : (P : ℕ → Type 0) → (leb 1 (z_at b at) && leb (z_at b at) 4) ≡ true → ((i : ℕ) → i < z_at b at → P (listed_at b at i))
      → Listing P (numbers_at b at)
  listing P z Each-right =
      let most : z_at b at ≤ 4 = leb-true _ _ (and_right (leb 1 (z_at b at)) (leb (z_at b at) 4) z) in
      record {
        least = leb-true _ _ (and_left (leb 1 (z_at b at)) (leb (z_at b at) 4) z);
        most = most;
        right = λ i h. subst P (sym (number_at b at i (omega arith))) (Each-right i h);
      }

  lower-communications : list_fits b at actions ≡ accepted → list_allowed b first k actions ≡ accepted → Listing (LowerCommunication b actor k) (numbers_at b at)
  lower-communications z listed = listing (LowerCommunication b actor k) (demand-true _ 7 at z) lower
    where
      lower : (i : ℕ) → i < z_at b at → LowerCommunication b actor k (listed_at b at i)
      lower i h =
          let x : ℕ = listed_at b at i in
          let ok : allowed b first k x ≡ true =
          demand-true _ 8 at (rw zero-add at (each_at (λ j. demand (allowed b first k (listed_at b at j)) 8 at) (z_at b at) 0 listed i h)) in (
            ltb-true _ _ (and_left (ltb x k) (communication_kind (kind_at b (place_of first x))) ok),
            communication-decoded b (place_of first x) (kind_at b (place_of first x)) (and_right (ltb x k) (communication_kind (kind_at b (place_of first x))) ok),
          )

  all-mutexes : list_fits b at mutexes ≡ accepted → Listing (λ m. m < mutexes_of b) (numbers_at b at)
  all-mutexes z =
      listing (λ m. m < mutexes_of b) (demand-true _ 7 at (then-left (demand (leb 1 (z_at b at) && leb (z_at b at) 4) 7 at) _ z)) below
    where
      below : (i : ℕ) → i < z_at b at → listed_at b at i < mutexes_of b
      below i h =
          ltb-true _ _
          (demand-true _ 7 at
          (rw zero-add at
          (each_at (λ j. demand (fits b mutex (listed_at b at j)) 7 at) (z_at b at) 0
          (then-right (demand (leb 1 (z_at b at) && leb (z_at b at) 4) 7 at) _ z) i h)))

  -- by kind: what its fields' check says is what the decoded action asks
  kind-range : (kind : ℕ) → kind ≤ last_kind → fields_of b first k (form_of kind) ≡ accepted → InRange b actor k (decode_as kind b at)
  unfolding decode_as
  kind-range zero h r = ltb-true _ _ (p-fits (form_of 0) r)
  kind-range (suc zero) h r = (ltb-true _ _ (p-fits (form_of 1) r), ltb-true _ _ (q-fits (form_of 1) r))
  kind-range (suc (suc zero)) h r = (ltb-true _ _ (p-fits (form_of 2) r), ltb-true _ _ (q-fits (form_of 2) r))
  kind-range (suc (suc (suc zero))) h r = (ltb-true _ _ (p-fits (form_of 3) r), ltb-true _ _ (q-fits (form_of 3) r))
  kind-range (suc (suc (suc (suc zero)))) h r = (ltb-true _ _ (p-fits (form_of 4) r), ltb-true _ _ (q-fits (form_of 4) r))
  kind-range (suc (suc (suc (suc (suc zero))))) h r =
      (ltb-true _ _ (p-fits (form_of 5) r), lower-communications (list-fits (form_of 5) r) (list-allowed (form_of 5) r))
  kind-range (suc (suc (suc (suc (suc (suc zero)))))) h r =
      (ltb-true _ _ (p-fits (form_of 6) r), lower-communications (list-fits (form_of 6) r) (list-allowed (form_of 6) r))
  kind-range (suc (suc (suc (suc (suc (suc (suc zero))))))) h r = ltb-true _ _ (p-fits (form_of 7) r)
  kind-range (suc (suc (suc (suc (suc (suc (suc (suc zero)))))))) h r = ltb-true _ _ (p-fits (form_of 8) r)
  kind-range (suc (suc (suc (suc (suc (suc (suc (suc (suc zero))))))))) h r =
      (ltb-true _ _ (p-fits (form_of 9) r), all-mutexes (list-fits (form_of 9) r))
  kind-range (suc (suc (suc (suc (suc (suc (suc (suc (suc (suc zero)))))))))) h r =
      (ltb-true _ _ (p-fits (form_of 10) r), all-mutexes (list-fits (form_of 10) r))
  kind-range (suc (suc (suc (suc (suc (suc (suc (suc (suc (suc (suc zero))))))))))) h r = ltb-true _ _ (p-fits (form_of 11) r)
  kind-range (suc (suc (suc (suc (suc (suc (suc (suc (suc (suc (suc (suc kind)))))))))))) h r = absurd (omega arith)

  checked : check_of b first k ≡ accepted → InRange b actor k (action_of b actor k)
  checked right =
      kind-range (kind_at b at)
      (leb-true _ _ (demand-true (leb (kind_at b at) last_kind) 6 at (then-left (demand (leb (kind_at b at) last_kind) 6 at) _ right)))
      (then-right (demand (leb (kind_at b at) last_kind) 6 at) _ right)

abbrev counts : List ℕ → Outcome
counts b = demand (leb 1 (actors_of b) && leb (actors_of b) 8) 3 0 ⨾ demand (leb (mailboxes_of b) 8) 3 0 ⨾ demand (leb (mutexes_of b) 8) 3 0

pub promised : (b : List ℕ) → read_of b ≡ accepted → WellFormed b
unfolding read_of
promised b right =
    let header : header_of b ≡ accepted = then-left (header_of b) _ right in
    let after-header : (directory_of b ⨾ end_of b ⨾ actions_of b) ≡ accepted = then-right (header_of b) _ right in
    let after-directory : (end_of b ⨾ actions_of b) ≡ accepted = then-right (directory_of b) _ after-header in
    let directory : directory_of b ≡ accepted = then-left (directory_of b) _ after-header in
    let entries : each (entry_of b) (actors_of b) 0 ≡ accepted = then-right (demand (leb (4 + 4 * actors_of b) (length b)) 4 0) _ directory in
    let end : length b ≡ due_of b (actors_of b) = eqb-true _ _ (demand-true _ 5 0 (then-left (end_of b) _ after-directory)) in
    let all-actors : each (actor_of b) (actors_of b) 0 ≡ accepted = then-right (end_of b) _ after-directory in
    let after-length : (demand (eqb (edition_of b) 1) 2 0 ⨾ counts b) ≡ accepted = then-right (demand (leb 4 (length b)) 1 0) _ header in
    let in-counts : counts b ≡ accepted = then-right (demand (eqb (edition_of b) 1) 2 0) _ after-length in
    let actors : (leb 1 (actors_of b) && leb (actors_of b) 8) ≡ true =
    demand-true _ 3 0 (then-left (demand (leb 1 (actors_of b) && leb (actors_of b) 8) 3 0) _ in-counts) in
    let others : (demand (leb (mailboxes_of b) 8) 3 0 ⨾ demand (leb (mutexes_of b) 8) 3 0) ≡ accepted =
    then-right (demand (leb 1 (actors_of b) && leb (actors_of b) 8) 3 0) _ in-counts in
    record {
      actors-least = leb-true _ _ (and_left (leb 1 (actors_of b)) (leb (actors_of b) 8) actors);
      actors-most = leb-true _ _ (and_right (leb 1 (actors_of b)) (leb (actors_of b) 8) actors);
      mailboxes-most = leb-true _ _ (demand-true _ 3 0 (then-left (demand (leb (mailboxes_of b) 8) 3 0) _ others));
      mutexes-most = leb-true _ _ (demand-true _ 3 0 (then-right (demand (leb (mailboxes_of b) 8) 3 0) _ others));
      actions-most = count_most b entries;
      directory = leb-true _ _ (demand-true _ 4 0 (then-left (demand (leb (4 + 4 * actors_of b) (length b)) 4 0) _ directory));
      inside = inside b entries end;
      in-range = λ actor k in-actors in-actions.
          let own : actor_of b actor ≡ accepted = rw zero-add at (each_at (actor_of b) (actors_of b) 0 all-actors actor in-actors) in
          checked b actor k (rw zero-add at (each_at (check_of b (offset_of b actor)) (count_of b actor) 0 own k in-actions));
    }
