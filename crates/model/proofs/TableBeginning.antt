-- A file longer than any table: its first 36 bytes, and that it is longer, decide its refusal.
-- Assumes nothing.
use mathlib.Core.Path.{◌≡◌, refl, ◌∙◌, ap, ap₂, sym, subst}
use mathlib.Core.Bool.{◌&&◌}
use mathlib.Core.List.{List}
use Prim.Native.Nat.{ℕ, zero, suc, ◌+◌, ◌*◌, ◌<◌, ◌≤◌}
use native.Mathlib.Omega.{arith}
use borrow.Author.Tests.{le-leb, ne_eqb, leb-true}
use lib.Dec.{eqb, leb}
use lib.ListN.{length}
use Rattle.table.specs.Outcome.{Outcome, accepted, refused, demand, ◌⨾◌, each}
use Rattle.table.specs.Format.{byte_at, edition_of, actors_of, mailboxes_of, mutexes_of, offset_of, count_of, due_of}
use Rattle.table.specs.Read.{header_of, entry_of, directory_of, end_of, actions_of, read_of}
use Rattle.table.proofs.Checks.{then-left, then-right, demand-true, and_right}
use Rattle.table.proofs.Placed.{offset-due, count_most}

never : {n p : ℕ} → refused n p ≡ accepted → ⊥
never e = let z : ◌≡◌ {A = ℕ} 0 1 = cc in omega arith

-- the second checks count only where the first accept
pub then-alike : {o p x y : Outcome} → o ≡ p → (o ≡ accepted → x ≡ y) → (o ⨾ x) ≡ (p ⨾ y)
then-alike {o} {p} {x} {y} e f = go o e f
  where
    go : (o : Outcome) → o ≡ p → (o ≡ accepted → x ≡ y) → (o ⨾ x) ≡ (p ⨾ y)
    go accepted e f = f refl ∙ ap (λ (z : Outcome). z ⨾ y) e
    go (refused n i) e f = ap (λ (z : Outcome). z ⨾ y) e

each-alike : (f g : ℕ → Outcome) (n k : ℕ) → ((i : ℕ) → i < k + n → f i ≡ g i) → each f n k ≡ each g n k
each-alike f g zero k h = refl
each-alike f g (suc n) k h = ap₂ {C = Outcome} (λ x y. x ⨾ y) (h k (omega arith)) (each-alike f g n (suc k) (λ i l. h i (omega arith)))

module _ (b : List ℕ) (long : 2084 < length b) where
  -- where the file has to end lies below its end
  module _ (few : actors_of b ≤ 8) (right : each (entry_of b) (actors_of b) 0 ≡ accepted) where
    due-most : (a : ℕ) → a ≤ actors_of b → due_of b a ≤ 36 + 256 * a
    due-most zero h = omega arith
    due-most (suc a) h = omega (arith, due-most a (omega arith), offset-due b right a (omega arith), count_most b right a (omega arith))

    end_refused : end_of b ≡ refused 5 0
    end_refused = rw (ne_eqb (length b) (due_of b (actors_of b)) (λ e. omega (arith, e, due-most (actors_of b) (omega arith))))

  -- the directory is not cut short
  within : actors_of b ≤ 8 → demand (leb (4 + 4 * actors_of b) (length b)) 4 0 ≡ accepted
  within few = rw (le-leb (4 + 4 * actors_of b) (length b) (omega arith))

  few-actors : header_of b ≡ accepted → actors_of b ≤ 8
  few-actors h =
      let after : (demand (eqb (edition_of b) 1) 2 0 ⨾ demand (leb 1 (actors_of b) && leb (actors_of b) 8) 3 0 ⨾ demand (leb (mailboxes_of b) 8) 3 0
      ⨾ demand (leb (mutexes_of b) 8) 3 0) ≡ accepted = then-right (demand (leb 4 (length b)) 1 0) _ h in
      let counts : (demand (leb 1 (actors_of b) && leb (actors_of b) 8) 3 0 ⨾ demand (leb (mailboxes_of b) 8) 3 0 ⨾ demand (leb (mutexes_of b) 8) 3 0) ≡ accepted =
      then-right (demand (eqb (edition_of b) 1) 2 0) _ after in
      leb-true (actors_of b) 8
      (and_right (leb 1 (actors_of b)) (leb (actors_of b) 8) (demand-true (leb 1 (actors_of b) && leb (actors_of b) 8) 3 0 (then-left _ _ counts)))

  -- such a file is refused by its header, by its directory, or 5
  pub long-read : read_of b ≡ (header_of b ⨾ directory_of b ⨾ refused 5 0)
  unfolding read_of
  long-read =
      then-alike refl
      (λ header. then-alike refl
      (λ directory. ap (λ (o : Outcome). o ⨾ actions_of b)
      (end_refused (few-actors header) (then-right (demand (leb (4 + 4 * actors_of b) (length b)) 4 0) _ directory))))

  pub long-refused : read_of b ≡ accepted → ⊥
  long-refused h =
      never (then-right (directory_of b) (refused 5 0) (then-right (header_of b) (directory_of b ⨾ refused 5 0) (sym long-read ∙ h)))

-- two such files that begin alike
module _ (b c : List ℕ) (long-b : 2084 < length b) (long-c : 2084 < length c) (alike : (i : ℕ) → i < 36 → byte_at b i ≡ byte_at c i) where
  actors-alike : actors_of b ≡ actors_of c
  actors-alike = alike 1 (omega arith)

  header-alike : header_of b ≡ header_of c
  header-alike =
      rw (le-leb 4 (length b) (omega arith), le-leb 4 (length c) (omega arith), alike 0 (omega arith), alike 1 (omega arith), alike 2 (omega arith), alike 3 (omega arith))

  offset-alike : (a : ℕ) → a < 8 → offset_of b a ≡ offset_of c a
  offset-alike a h = rw (alike (4 + 4 * a) (omega arith), alike (4 + 4 * a + 1) (omega arith))

  count-alike : (a : ℕ) → a < 8 → count_of b a ≡ count_of c a
  count-alike a h = rw (alike (6 + 4 * a) (omega arith), alike (6 + 4 * a + 1) (omega arith))

  due-alike : (a : ℕ) → a < 8 → due_of b a ≡ due_of c a
  due-alike zero h = rw actors-alike
  due-alike (suc a) h = rw (offset-alike a (omega arith), count-alike a (omega arith))

  entry-alike : (a : ℕ) → a < 8 → entry_of b a ≡ entry_of c a
  entry-alike a h = rw (offset-alike a h, count-alike a h, due-alike a h)

  directory-alike : actors_of b ≤ 8 → directory_of b ≡ directory_of c
  directory-alike few =
      then-alike (within b long-b few ∙ sym (within c long-c (subst (λ (n : ℕ). n ≤ 8) actors-alike few)))
      (λ h. each-alike (entry_of b) (entry_of c) (actors_of b) 0 (λ i l. entry-alike i (omega arith)) ∙ ap (λ (n : ℕ). each (entry_of c) n 0) actors-alike)

  pub read_alike : read_of b ≡ read_of c
  read_alike =
      long-read b long-b
      ∙ then-alike header-alike (λ header. then-alike (directory-alike (few-actors b long-b header)) (λ directory. refl))
      ∙ sym (long-read c long-c)
