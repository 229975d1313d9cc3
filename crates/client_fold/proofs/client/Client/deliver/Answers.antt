use Rattle.std.proofs.Common.{◌∙◌, ◌==◌, sym, ap, subst, ℕ}
use Rattle.dpc_lists.specs.Lists.{place_of}
use Rattle.dpc_model.specs.declared.messages.Message.{Message}
use Rattle.node_model.specs.Clients.{client_message, client_marks_ended}
use Rattle.client_fold.specs.Folding.{ClientValue, Follows}
use Rattle.client_fold.proofs.Following.{replica-within, follows-packet, follows-nothing, follows-other}
use Rattle.client_fold.proofs.client.Client.deliver.Goals as goal

pub returns-in_default-clause-ok : goal.returns-in_default-clause-ok
returns-in_default-clause-ok c =
    let place = c.replica.ensures ∙ ap (λ (v : ClientValue). place_of (λ (a : ℕ). c.args.sender == a) v.upstream.senders) c.self.view_is in
    follows-other c.args.sender c.args.message.now c.args.self.now c.end_marks.new.self (sym c.in_default.is ∙ place) c.end_marks.ensures

pub on_truncated-requires : goal.on_truncated-requires
on_truncated-requires c =
    let place = c.replica.ensures ∙ ap (λ (v : ClientValue). place_of (λ (a : ℕ). c.args.sender == a) v.upstream.senders) c.self.view_is in
    replica-within c.args.sender c.in-Some.r c.args.self.now.upstream.senders (sym c.in-Some.is ∙ place)

pub on_beat-requires : goal.on_beat-requires
on_beat-requires c =
    let place = c.replica.ensures ∙ ap (λ (v : ClientValue). place_of (λ (a : ℕ). c.args.sender == a) v.upstream.senders) c.self.view_is in
    replica-within c.args.sender c.in-Some.r c.args.self.now.upstream.senders (sym c.in-Some.is ∙ place)

pub returns-in_ok-on_batch-in-Batch-clause-ok : goal.returns-in_ok-on_batch-in-Batch-clause-ok
returns-in_ok-on_batch-in-Batch-clause-ok c =
    let place = c.replica.ensures ∙ ap (λ (v : ClientValue). place_of (λ (a : ℕ). c.args.sender == a) v.upstream.senders) c.self.view_is in
    let old : ClientValue = c.args.self.now in
    let new : ClientValue = c.on_batch.new.self in
    follows-packet c.args.sender c.in-Some.r c.args.message.now old new (sym c.in-Some.is ∙ place)
    (subst (λ (m : Message). Follows (λ plan k x. client_message c.in-Some.r m (client_marks_ended x)) old new) (sym c.in-Batch.is) c.in_ok-on_batch-in-Batch.ensures.ok)

pub returns-in-Truncated-clause-ok : goal.returns-in-Truncated-clause-ok
returns-in-Truncated-clause-ok c =
    let place = c.replica.ensures ∙ ap (λ (v : ClientValue). place_of (λ (a : ℕ). c.args.sender == a) v.upstream.senders) c.self.view_is in
    let old : ClientValue = c.args.self.now in
    let new : ClientValue = c.on_truncated.new.self in
    follows-packet c.args.sender c.in-Some.r c.args.message.now old new (sym c.in-Some.is ∙ place)
    (subst (λ (m : Message). Follows (λ plan k x. client_message c.in-Some.r m (client_marks_ended x)) old new) (sym c.in-Truncated.is) c.on_truncated.ensures)

pub returns-in-Beat-clause-ok : goal.returns-in-Beat-clause-ok
returns-in-Beat-clause-ok c =
    let place = c.replica.ensures ∙ ap (λ (v : ClientValue). place_of (λ (a : ℕ). c.args.sender == a) v.upstream.senders) c.self.view_is in
    let old : ClientValue = c.args.self.now in
    let new : ClientValue = c.on_beat.new.self in
    follows-packet c.args.sender c.in-Some.r c.args.message.now old new (sym c.in-Some.is ∙ place)
    (subst (λ (m : Message). Follows (λ plan k x. client_message c.in-Some.r m (client_marks_ended x)) old new) (sym c.in-Beat.is) c.on_beat.ensures)

pub returns-in_default-message : goal.returns-in_default-message
returns-in_default-message c =
    let place = c.replica.ensures ∙ ap (λ (v : ClientValue). place_of (λ (a : ℕ). c.args.sender == a) v.upstream.senders) c.self.view_is in
    let old : ClientValue = c.args.self.now in
    let new : ClientValue = c.end_marks-in_default-message.new.self in
    let m = c.in_default-message in
    record {
      ok = follows-packet c.args.sender c.in-Some.r c.args.message.now old new (sym c.in-Some.is ∙ place)
          (follows-nothing c.in-Some.r c.args.message.now old new m.not-Batch m.not-Truncated m.not-Beat c.end_marks-in_default-message.ensures);
      err = tt;
    }
