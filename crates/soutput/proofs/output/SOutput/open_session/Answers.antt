use Rattle.std.proofs.Common.{rules, ℕ, ◌≡◌, refl, ◌<◌, ◌≤◌, ◌∙◌, List, length, sym, subst, ap, true, false, Some, slice_set}
use Rattle.dpc_lists.proofs.Elements.{set-changed, nth-is}
use Rattle.dpc_lists.specs.Lists.{nth, changed}
use Rattle.dpc_model.specs.PartStands.{OutputValue}
use Rattle.dpc_model.specs.Parts.{shown_of}
use Rattle.dpc_model.specs.declared.tuples.Tuple.{Tuple}
use Rattle.dpc_model.specs.NodeStates.{is_stable}
use Rattle.dpc_model.specs.Sessions.{no_session, is_newer_than_kept, first_batch}
use Rattle.dpc_model.specs.declared.sessions.Sub.{Sub}
use Rattle.dpc_model.specs.declared.messages.Message.TheVariants as message
use Rattle.soutput.specs.Giving.{stream_behind, IsAnswered}
use Rattle.soutput.specs.contracts.output.SOutput.{the_view}
use Rattle.soutput.proofs.Answering.{old-answered, truncated-answered, batch-answered}
use Rattle.soutput.proofs.output.SOutput.open_session.Goals as goal

pub returns-then-not-is_older_than-clause-ok : goal.returns-then-not-is_older_than-clause-ok
returns-then-not-is_older_than-clause-ok c =
    let low = subst (λ (v : OutputValue). c.args.reader < length v.subs) (sym c.self.view_is) c.requires in
    let here = nth-is no_session c.index.result.now c.args.reader c.self.inside.sessions.items low c.index.ensures in
    let old : is_newer_than_kept c.args.asked.sess (nth no_session c.self.inside.sessions.items c.args.reader).kept ≡ false =
    ap (λ (s : Sub). is_newer_than_kept c.args.asked.sess s.kept) here ∙ sym c.if-not-is_older_than.ensures in
    old-answered (is_stable c.args.state) c.args.reader c.args.asked c.args.self.now (subst (λ (v : OutputValue). is_newer_than_kept c.args.asked.sess (nth no_session v.subs c.args.reader).kept ≡ false) c.self.view_is old)

-- the session was changed
pub returns-then-asked-base-clause-ok : goal.returns-then-asked-base-clause-ok
returns-then-asked-base-clause-ok c =
    let reader = c.args.reader in
    let asked = c.args.asked in
    let v = the_view c.self.inside in
    let low = subst (λ (v : OutputValue). reader < length v.subs) (sym c.self.view_is) c.requires in
    let here = nth-is no_session c.index.result.now reader v.subs low c.index.ensures in
    let new : is_newer_than_kept asked.sess (nth no_session v.subs reader).kept ≡ true =
    ap (λ (s : Sub). is_newer_than_kept asked.sess s.kept) here ∙ sym c.if-not-is_older_than.ensures in
    let set = set-changed v.subs reader (λ _. c.shut.result) c.index_mut.result.now c.shut.result low c.index_mut.ensures.value refl in
    let base : c.base-base.result ≡ v.base = search rules in
    let below : asked.n < v.base = subst (λ (b : ℕ). asked.n < b) base c.if-asked-base.true in
    let answered = truncated-answered (is_stable c.args.state) reader asked v new below in
    let told = subst (λ (w : OutputValue). IsAnswered (is_stable c.args.state) reader asked w (record v { subs = changed reader (λ _. record { kept = Some asked.sess; is_open = false; batches = 0 }) v.subs }) (Some (message.Truncated asked.sess v.base))) c.self.view_is answered in
    let changed_so = set ∙ ap (λ (s : Sub). changed reader (λ _. s) v.subs) c.shut.ensures in
    let with_subs = subst (λ (subs : List Sub). IsAnswered (is_stable c.args.state) reader asked c.args.self.now (record v { subs = subs }) (Some (message.Truncated asked.sess v.base))) (sym changed_so) told in
    subst (λ (b : ℕ). IsAnswered (is_stable c.args.state) reader asked c.args.self.now (record v { subs = slice_set v.subs reader c.shut.result }) (Some (message.Truncated asked.sess b))) (sym base) with_subs

pub returns-clause-ok : goal.returns-clause-ok
returns-clause-ok c =
    let reader = c.args.reader in
    let asked = c.args.asked in
    let v = the_view c.self.inside in
    let items = c.in_ok-items.items in
    let low = subst (λ (v : OutputValue). reader < length v.subs) (sym c.self.view_is) c.requires in
    let here = nth-is no_session c.index.result.now reader v.subs low c.index.ensures in
    let new : is_newer_than_kept asked.sess (nth no_session v.subs reader).kept ≡ true =
    ap (λ (s : Sub). is_newer_than_kept asked.sess s.kept) here ∙ sym c.if-not-is_older_than.ensures in
    let set = set-changed v.subs reader (λ _. c.opened.result) c.index_mut-2.result.now c.opened.result low c.index_mut-2.ensures.value refl in
    let base : c.base-base.result ≡ v.base = search rules in
    let past : v.base ≤ asked.n = subst (λ (b : ℕ). b ≤ asked.n) base c.if-asked-base.false in
    let first : (gone : List Tuple) → length gone ≡ v.base → items ≡ first_batch (shown_of (stream_behind gone v) v.base (is_stable c.args.state)) asked =
    subst (λ (w : OutputValue). (gone : List Tuple) → length gone ≡ w.base → items ≡ first_batch (shown_of (stream_behind gone w) w.base (is_stable c.args.state)) asked) (sym c.self.view_is)
    (λ gone h. c.in_ok-items.ensures ∙ c.in_ok-first_batch.ensures gone h) in
    let answered = batch-answered (is_stable c.args.state) reader asked v items new past first in
    let told = subst (λ (w : OutputValue). IsAnswered (is_stable c.args.state) reader asked w (record v { subs = changed reader (λ _. record { kept = Some asked.sess; is_open = true; batches = 1 }) v.subs }) (Some (message.Batch asked.sess 0 items))) c.self.view_is answered in
    let changed_so = set ∙ ap (λ (s : Sub). changed reader (λ _. s) v.subs) c.opened.ensures in
    subst (λ (subs : List Sub). IsAnswered (is_stable c.args.state) reader asked c.args.self.now (record v { subs = subs }) (Some (message.Batch asked.sess 0 items))) (sym changed_so) told
