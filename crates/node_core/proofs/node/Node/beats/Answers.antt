use Rattle.std.proofs.Common.{rules, ◌≡◌, ◌<◌, ◌≤◌, ◌∙◌, ◌++◌, ℕ, List, map, zip, length, sym, ap, subst, arith, None}
use Rattle.std.proofs.lemmas.List.{take_all}
use Rattle.dpc_lists.specs.Lists.{nth}
use Rattle.dpc_model.specs.Sessions.{no_session, tally_of}
use Rattle.node_links.specs.Linking.{peers_in}
use Rattle.node_model.specs.Mails.{in_actor_order}
use Rattle.node_model.specs.NodeSteps.{beats}
use Rattle.node_core.specs.declared.packets.Mail.{Mail}
use Rattle.node_core.specs.Standing.{NodeValue, AreMails}
use Rattle.node_core.specs.Stepping.{plain_mail, beat_with}
use Rattle.node_core.proofs.Announcing.{beat_to, reader-more, readers-served, all-beats}
use Rattle.node_core.proofs.node.Node.beats.Goals as goal

pub loop-reader-preserved : goal.loop-reader-preserved
loop-reader-preserved c =
    let v = c.args.self.now in
    let i = c.loop-reader.reader in
    let rs = c.deref-actor-items.result.now in
    let own : rs ≡ v.readers = c.deref-actor-items.ensures.value ∙ ap (λ (w : NodeValue). w.readers) c.self.view_is in
    let many : length v.path.output.subs ≡ length rs = readers-served v c.requires ∙ ap length (sym own) in
    let low : i < length rs = search rules in
    c.in_ok-push-2.ensures.items
    ∙ reader-more v c.loop-peer.mails.items c.loop-reader.mails.items i _ rs c.mail-in-loop-reader.result c.beat-in-loop-reader.result c.tally.result c.mail-in-loop-reader.ensures low (omega (arith, low, many))
    (c.tally.ensures ∙ ap (λ (w : NodeValue). tally_of (nth no_session w.path.output.subs i)) c.self.view_is) c.beat-in-loop-reader.ensures c.loop-reader.invariant

pub returns : goal.returns
returns c =
    λ home p h fit.
    let v = c.args.self.now in
    let rs = c.deref-actor-items.result.now in
    let own : rs ≡ v.readers = c.deref-actor-items.ensures.value ∙ ap (λ (w : NodeValue). w.readers) c.self.view_is in
    let peers = c.peers-peer-items.result.now in
    let known : peers ≡ peers_in v.links = c.peers-peer-items.ensures ∙ ap (λ (w : NodeValue). peers_in w.links) c.self.view_is in
    let last : length rs ≤ c.loop-reader.reader = search rules in
    let end : length peers ≤ c.loop-peer.peer-index = search rules in
    let each : c.loop-reader.mails.items ≡ map (λ a. plain_mail a (beat_with v None)) peers ++ map (beat_to v) (zip v.readers v.path.output.subs) =
    c.loop-reader.invariant
    ∙ ap (λ (ns : List ℕ). c.loop-peer.mails.items ++ map (beat_to v) (zip ns v.path.output.subs)) (take_all c.loop-reader.reader rs last ∙ own)
    ∙ ap (λ (ms : List Mail). ms ++ map (beat_to v) (zip v.readers v.path.output.subs)) c.loop-peer.invariant
    ∙ ap (λ (ns : List ℕ). map (λ a. plain_mail a (beat_with v None)) ns ++ map (beat_to v) (zip v.readers v.path.output.subs)) (take_all c.loop-peer.peer-index peers end) in
    subst (λ (ms : List Mail). AreMails home ms (in_actor_order (beats home p))) (sym (c.in_ok-mails.ensures {u = tt}))
    (all-beats v c.loop-reader.mails.items peers known each home p h)
