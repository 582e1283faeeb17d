-- Which code two posts ask for, and a look and a post: what the pair verdict makes of them is what that code compares.
-- Assumes nothing.
use Prim.Native.Nat.{ℕ}
use mathlib.Core.Path.{◌≡◌, refl, ◌∙◌, ap, fun_ext}
use mathlib.Core.Bool.{Bool, true, false, ◌&&◌, cond}
use mathlib.Core.List.{List}
use lib.Dec.{eqb}
use Rattle.table.specs.declared.Action.{Action}
use Rattle.model.specs.Site.{Side, sends, receives}
use Rattle.model.specs.Views.{Post, silent, mails, joins, leaves, notes, posts, Look, blind, communications, mutexes}
use Rattle.model.specs.Pair.{is_join, is_note, competes, answers, any_of, meets}
use Rattle.model.proofs.Upd.{test-symmetric}
use Rattle.model.proofs.Ports.{number-test}
use Rattle.actions.specs.Fields.{target_in, list_in}
use Rattle.dependence.specs.declared.Compared.{Compared}
use Rattle.dependence.specs.declared.Compared.TheVariants.{Never, OneMailbox, ListedReceive, ListedSend, OneMutex, ListedMutex, Always}
use Rattle.dependence.specs.Codes.{code_compares}
use Rattle.dependence.proofs.MailKinds.{is_side, port, on-port, mail-by-kind}

-- ---- the code asked for

abbrev is_lock : Post → Bool
is_lock silent = false
is_lock (mails p) = false
is_lock (joins m) = true
is_lock (leaves m) = false
is_lock notes = false

abbrev is_unlock : Post → Bool
is_unlock silent = false
is_unlock (mails p) = false
is_unlock (joins m) = false
is_unlock (leaves m) = true
is_unlock notes = false

-- to tell whether two posts compete
abbrev pub of_posts : Post → Post → Compared
of_posts silent y = Never
of_posts (mails p) y = cond (is_side p.side y) OneMailbox Never
of_posts (joins m) y = cond (is_lock y) OneMutex Never
of_posts (leaves m) y = Never
of_posts notes y = cond (is_note y) Always Never

-- to tell whether a look meets a post
abbrev pub of_look : Look → Post → Compared
of_look blind y = Never
of_look (communications l) y = cond (is_side sends y) ListedReceive (cond (is_side receives y) ListedSend Never)
of_look (mutexes l) y = cond (is_unlock y) ListedMutex Never

-- ---- whether two posts compete

on-mutex : (m : ℕ) (y : Post) → is_join y m ≡ (is_lock y && eqb (target_in y) m)
on-mutex m silent = refl
on-mutex m (mails p) = refl
on-mutex m (joins n) = refl
on-mutex m (leaves n) = refl
on-mutex m notes = refl

module _ (own : ℕ → Action) (l : List ℕ) where
  -- a comparison that is made only where a test passes
  only-where : (test : Bool) (code : Compared) (m n : ℕ) → (test && code_compares code own m l n) ≡ code_compares (cond test code Never) own m l n
  only-where true code m n = refl
  only-where false code m n = refl

  -- `OneMailbox` and `OneMutex` compare the two numbers
  one_number : (test : Bool) (m n : ℕ) → (test && eqb n m) ≡ (test && eqb m n)
  one_number test m n = ap (λ (b : Bool). test && b) (test-symmetric number-test n m)

  pub competing : (x y : Post) → competes x y ≡ code_compares (of_posts x y) own (target_in x) l (target_in y)
  competing silent y = refl
  competing (mails p) y =
      on-port p.mailbox p.side y
      ∙ one_number (is_side p.side y) p.mailbox (target_in y)
      ∙ only-where (is_side p.side y) OneMailbox p.mailbox (target_in y)
  competing (joins m) y = on-mutex m y ∙ one_number (is_lock y) m (target_in y) ∙ only-where (is_lock y) OneMutex m (target_in y)
  competing (leaves m) y = refl
  competing notes y = one-test (is_note y)
    where
      one-test : (test : Bool) → test ≡ code_compares (cond test Always Never) own 0 l (target_in y)
      one-test true = refl
      one-test false = refl

-- ---- whether a look meets a post

module _ (own : ℕ → Action) (m : ℕ) (l : List ℕ) where
  lists : (n : ℕ) (s : Side) → any_of (λ k. answers (posts (own k)) (port n s)) l ≡ code_compares (of_look (communications l) (mails (port n s))) own m l n
  lists n sends = ap (λ (f : ℕ → Bool). any_of f l) (fun_ext (λ k. mail-by-kind n receives (own k)))
  lists n receives = ap (λ (f : ℕ → Bool). any_of f l) (fun_ext (λ k. mail-by-kind n sends (own k)))

  tests : (y : Post) → meets (λ k. posts (own k)) (communications l) y ≡ code_compares (of_look (communications l) y) own m l (target_in y)
  tests silent = refl
  tests (mails p) = lists p.mailbox p.side
  tests (joins n) = refl
  tests (leaves n) = refl
  tests notes = refl

  mutex-tests : (y : Post) → meets (λ k. posts (own k)) (mutexes l) y ≡ code_compares (of_look (mutexes l) y) own m l (target_in y)
  mutex-tests silent = refl
  mutex-tests (mails p) = refl
  mutex-tests (joins n) = refl
  mutex-tests (leaves n) = refl
  mutex-tests notes = refl

pub meeting : (own : ℕ → Action) (m : ℕ) (x : Look) (y : Post)
    → meets (λ k. posts (own k)) x y ≡ code_compares (of_look x y) own m (list_in x) (target_in y)
meeting own m blind y = refl
meeting own m (communications l) y = tests own m l y
meeting own m (mutexes l) y = mutex-tests own m l y
