-- What is posted on one side of a mailbox is told by the kind: a Send posts on one, a Receive on the other, and no other kind does. One computed
-- test over the kinds.
-- Assumes nothing.
use Prim.Native.Nat.{ℕ}
use mathlib.Core.Path.{◌≡◌, refl, ◌∙◌, ap}
use mathlib.Core.Bool.{Bool, true, false, ◌&&◌, beq, and_comm, false≢true}
use lib.Dec.{eqb}
use Rattle.table.specs.declared.Action.{Action}
use Rattle.table.specs.declared.Kind.{Kind}
use Rattle.table.specs.declared.Kind.TheVariants.{Send, Receive}
use Rattle.model.specs.Site.{Port, Side, sends, receives, eq_side}
use Rattle.model.specs.Views.{Post, silent, mails, joins, leaves, notes, posts}
use Rattle.model.specs.Pair.{is_mail}
use Rattle.actions.specs.Fields.{kind_of, target_in, target_of, post_by}
use Rattle.actions.proofs.ByKind.{posts-by}
use Rattle.actions.proofs.EveryKind.{every_kind, at-kind}
use Rattle.dependence.specs.Codes.{is, is_on}

-- what is posted is a communication on this side, of whatever mailbox
abbrev pub is_side : Side → Post → Bool
is_side s silent = false
is_side s (mails p) = eq_side p.side s
is_side s (joins m) = false
is_side s (leaves m) = false
is_side s notes = false

abbrev pub port : ℕ → Side → Port
port m s = record { mailbox = m; side = s }

pub on-port : (m : ℕ) (s : Side) (x : Post) → is_mail x (port m s) ≡ (is_side s x && eqb (target_in x) m)
on-port m s silent = refl
on-port m s (mails p) = and_comm (eqb p.mailbox m) (eq_side p.side s)
on-port m s (joins n) = refl
on-port m s (leaves n) = refl
on-port m s notes = refl

-- ---- by the kind

abbrev kind_on : Side → Kind
kind_on sends = Send
kind_on receives = Receive

-- the test
all_told : (m : ℕ) (s : Side) → every_kind (λ i. beq (is_side s (post_by i m)) (is i (kind_on s))) ≡ true
all_told m sends = refl
all_told m receives = refl

beq-equal : (a b : Bool) → beq a b ≡ true → a ≡ b
beq-equal true true h = refl
beq-equal true false h = absurd (false≢true h)
beq-equal false true h = absurd (false≢true h)
beq-equal false false h = refl

told : (s : Side) (x : Action) → is_side s (posts x) ≡ is (kind_of x) (kind_on s)
told s x =
    ap (is_side s) (posts-by x)
    ∙ beq-equal (is_side s (post_by (kind_of x) (target_of x))) (is (kind_of x) (kind_on s))
    (at-kind (λ i. beq (is_side s (post_by i (target_of x))) (is i (kind_on s))) (all_told (target_of x) s) (kind_of x))

pub mail-by-kind : (m : ℕ) (s : Side) (x : Action) → is_mail (posts x) (port m s) ≡ is_on (kind_on s) m x
mail-by-kind m s x = on-port m s (posts x) ∙ ap (λ (b : Bool). b && eqb (target_of x) m) (told s x)
