-- `mail::post` meets its contract: what it does to the arrays is the model's `meet`.
-- Assumes nothing.
use Rattle.std.proofs.Common.{◌≡◌, ◌∙◌, refl, subst, ℕ, ◌^◌, ◌<◌, arith}
use Rattle.std.specs.Prelude.{unwrap_or}
use Rattle.std.proofs.Math.ListN.{get_or}
use Rattle.model.specs.Mail.{pair_value, carried}
use Rattle.state.specs.State.{comm_of}
use Rattle.names.specs.InByte.{name_of}
use Rattle.mail.specs.Parts.{port_at, Posted}
use Rattle.mail.proofs.Meets.{Numbers, sending, receiving, pair_sent, pair_kept, join-posted, pair-posted}
use Rattle.mail.proofs.post.Goals as goal
use Rattle.mail.proofs.post.Goals.{in-Some, in-None, in-Some-sent, in-None-sent}

pub returns-after-sent-2 : goal.returns-after-sent-2
returns-after-sent-2 c =
    let t = c.take_oldest-other in
    let m = c.args.mail.now in
    let n : Numbers c.args.m c.args.sent c.match-sent.own = elim c.match-sent.branch [
      | in-Some w ↦ sending c.args.m _ c.args.sent c.match-sent.own c.requires.1 w.in-Some.is w.own-is
      | in-None w ↦ receiving c.args.m c.args.sent c.match-sent.own c.requires.1 w.in-None.is w.own-is
    ] in
    let kept : ℕ = carried (comm_of (get_or m.comms t.result 0)) in
    let value : c.match-sent-2.value ≡ pair_value (port_at c.args.m c.args.sent).side (unwrap_or c.args.sent 0) kept = elim c.match-sent-2.branch [
      | in-Some-sent w ↦ pair_sent c.args.m c.match-sent-2.value kept c.args.sent _ w.in-Some-sent.is (w.value-is ∙ w.from-value.ensures)
      | in-None-sent w ↦ pair_kept c.args.m c.match-sent-2.value kept c.args.sent w.in-None-sent.is (w.value-is ∙ w.carried-value.ensures.0)
    ] in
    let fits : c.match-sent-2.value < 2 ^ 32 = elim c.match-sent-2.branch [
      | in-Some-sent w ↦ omega arith
      | in-None-sent w ↦ omega arith
    ] in
    pair-posted m.comms m.log m.ends m.room c.args.me (unwrap_or c.args.sent 0) c.requires.0 (port_at c.args.m c.args.sent) c.match-sent.own.1 n.theirs n.small.1
    c.if-mail-theirs.true t.result t.ensures.0 t.ensures.1 c.match-sent-2.value value fits refl refl refl c.settle.ensures refl t.ensures.2

pub returns-else-mail-theirs : goal.returns-else-mail-theirs
returns-else-mail-theirs c =
    let m = c.args.mail.now in
    let n : Numbers c.args.m c.args.sent c.match-sent.own = elim c.match-sent.branch [
      | in-Some w ↦ sending c.args.m _ c.args.sent c.match-sent.own c.requires.1 w.in-Some.is w.own-is
      | in-None w ↦ receiving c.args.m c.args.sent c.match-sent.own c.requires.1 w.in-None.is w.own-is
    ] in
    let fits : c.from.result < 2 ^ 32 = omega arith in
    subst (λ (v : ℕ). Posted (port_at c.args.m c.args.sent) (name_of c.args.me) v m c.join.new.mail)
    (c.from.ensures ∙ c.unwrap_or.ensures)
    (join-posted m.comms m.log m.ends m.room c.args.me c.from.result c.requires.0 (port_at c.args.m c.args.sent) c.match-sent.own.0 c.match-sent.own.1 n.own n.theirs
    n.small.0 n.small.1 fits (rw n.own c.requires.2) c.if-mail-theirs.false refl refl refl c.join.ensures)
