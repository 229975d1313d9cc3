-- Ready buckets are processed: where the node stands then, and what it sends.
use Rattle.std.proofs.Common.{◌≡◌, ℕ, ◌<◌, ◌≤◌, Bool, true, false, List, [], map, refl, sym, ap, subst, ◌∙◌}
use Rattle.dpc_lists.specs.Lists.{nth}
use Rattle.dpc_model.specs.Granting.{with_ask_over}
use Rattle.dpc_model.specs.Parts.{Inputs, Outputs, Stream, Neighbours}
use Rattle.dpc_model.specs.Sessions.{batches_of}
use Rattle.dpc_model.specs.declared.messages.Message.{Message}
use Rattle.dpc_model.specs.declared.tuples.Item.{Item}
use Rattle.sunion.specs.Unions.{after_advancing}
use Rattle.law_buckets.specs.Series.{AreReady}
use Rattle.law_buckets.proofs.Advancing.{ready-buckets-advance}
use Rattle.pipeline.specs.Recovery.{IsSetFor}
use Rattle.pipeline.specs.Flowing.{PipelineValue, StandsForData, IsSetAs, IsMilled, CanMill as CanMillPath, stream_at, items_between, outputs_given}
use Rattle.node_model.specs.Mails.{Mail}
use Rattle.node_model.specs.Nodes.{Home, spec_of, own_readers, PlainNode}
use Rattle.node_model.specs.NodeSteps.{mill_step}
use Rattle.node_model.specs.NodeParts.{inputs_of, outputs_of, neighbours_of}
use Rattle.law_node.proofs.FitNodes.{node-ready}
use Rattle.law_node.proofs.Stepped.{made_by, ends_by, mill_items, mill-inputs, mill-sends, mill-outputs}
use Rattle.node_model.proofs.Viewed.{made_of}
use Rattle.node_core.specs.declared.packets.Mail as code_mail
use Rattle.node_core.specs.Milling.{CanMill, MillSteps, corrected}
use Rattle.node_core.specs.Standing.{NodeValue, StandsForNode, AreMails}
use Rattle.node_core.specs.Stepping.{plain_mail, IsTakenAs}
use Rattle.node_core.proofs.Frames.{set-later, made-as}
use Rattle.node_core.proofs.Mailing.{readers-mails}

-- the buckets are ready
pub ready-at : (home : Home) (v : NodeValue) (p : PlainNode) (count : ℕ) → 1 ≤ count → CanMill count home v p → AreReady home.plan.width (inputs_of p) count
ready-at home v p count some can =
    node-ready home p count (subst (λ (w : ℕ). 0 < w) can.stands.setting.width can.stands.path.some) some can.ready can.fit

-- so the data path can process them
pub can-mill-path : (home : Home) (v : NodeValue) (p : PlainNode) (count : ℕ) → 1 ≤ count → CanMill count home v p → CanMillPath (spec_of home).ops v.path (inputs_of p) (outputs_of p) count
can-mill-path home v p count some can =
    record {
      stands = can.stands.path;
      some = some;
      ready = subst (λ (w : ℕ). AreReady w (inputs_of p) count) (sym can.stands.setting.width) (ready-at home v p count some can);
    }

-- nothing is tentative behind them
none-tentative : (home : Home) (v : NodeValue) (p : PlainNode) (count : ℕ) → 1 ≤ count → CanMill count home v p → (made_by home (after_advancing count (inputs_of p))).tentative ≡ []
none-tentative home v p count some can =
    let pos = subst (λ (w : ℕ). 0 < w) can.stands.setting.width can.stands.path.some in
    ap (λ (s : Stream). s.tentative)
    ((ready-buckets-advance (spec_of home).ops home.plan.width home.plan.passing (inputs_of p) count pos (ready-at home v p count some can)).stream can.stands.path.sound)

-- the items are those of the plain step
items-same : (home : Home) (v : NodeValue) (p : PlainNode) (count : ℕ) (done : Bool) → StandsForNode home v p → done ≡ ends_by home count p →
    items_between (stream_at (spec_of home).ops v.path (inputs_of p)) (stream_at (spec_of home).ops v.path (after_advancing count (inputs_of p))) true false done ≡ mill_items home count p
items-same home v p count done h e =
    ap (λ (s : Stream). items_between s (stream_at (spec_of home).ops v.path (after_advancing count (inputs_of p))) true false done) (made-as home v p (inputs_of p) h)
    ∙ ap (λ (t : Stream). items_between (made_of home p) t true false done) (made-as home v p (after_advancing count (inputs_of p)) h)
    ∙ ap (λ (d : Bool). items_between (made_of home p) (made_by home (after_advancing count (inputs_of p))) true false d) e

outputs-same : (home : Home) (v : NodeValue) (p : PlainNode) (count : ℕ) (done : Bool) → 1 ≤ count → CanMill count home v p → done ≡ ends_by home count p →
    let t = stream_at (spec_of home).ops v.path (after_advancing count (inputs_of p)) in
    outputs_given (items_between (stream_at (spec_of home).ops v.path (inputs_of p)) t true false done) t (outputs_of p) ≡ outputs_of (mill_step home count p).after
outputs-same home v p count done some can e =
    let t = stream_at (spec_of home).ops v.path (after_advancing count (inputs_of p)) in
    ap (λ (items : List Item). outputs_given items t (outputs_of p)) (items-same home v p count done can.stands e)
    ∙ ap (λ (s : Stream). outputs_given (mill_items home count p) s (outputs_of p)) (made-as home v p (after_advancing count (inputs_of p)) can.stands)
    ∙ sym (mill-outputs home count p some (none-tentative home v p count some can))

path-behind : (home : Home) (v : NodeValue) (p : PlainNode) (count : ℕ) (done : Bool) (path : PipelineValue) (sends : List (ℕ × Message)) → 1 ≤ count → CanMill count home v p →
    done ≡ ends_by home count p → IsMilled (spec_of home).ops v.path path (inputs_of p) (outputs_of p) count done sends →
    StandsForData (spec_of home).ops path (inputs_of (mill_step home count p).after) (outputs_of (mill_step home count p).after)
path-behind home v p count done path sends some can e milled =
    subst (λ (x : Inputs). StandsForData (spec_of home).ops path x (outputs_of (mill_step home count p).after)) (sym (mill-inputs home count p))
    (subst (λ (o : Outputs). StandsForData (spec_of home).ops path (after_advancing count (inputs_of p)) o) (outputs-same home v p count done some can e) milled.stands)

-- behind the last corrections, or others
abbrev Behind : Home → ℕ → PlainNode → NodeValue → PipelineValue → Bool → Type 0
Behind home count p v path done =
    (neighbours_of (mill_step home count p).after ≡ (corrected done (record v { path = path })).links.known)
    × ((mill_step home count p).after.state ≡ (corrected done (record v { path = path })).state)

behind-done : (home : Home) (v : NodeValue) (p : PlainNode) (count : ℕ) (path : PipelineValue) (done : Bool) → StandsForNode home v p → done ≡ ends_by home count p → Behind home count p v path done
unfolding mill_step
behind-done home v p count path true h e =
    (rw (sym e) (ap (λ (n : Neighbours). record n { grants = with_ask_over n.grants }) (sym h.links)), rw (sym e) refl)
behind-done home v p count path false h e = (rw (sym e) (sym h.links), rw (sym e) (sym h.state))

same-others : (home : Home) (count : ℕ) (p : PlainNode) → ((mill_step home count p).after.clock ≡ p.clock) × ((mill_step home count p).after.recovering ≡ p.recovering)
unfolding mill_step
same-others home count p = (refl, refl)

pub corrected-rest : (done : Bool) (v : NodeValue) → ((corrected done v).path ≡ v.path) × ((corrected done v).readers ≡ v.readers) × ((corrected done v).clock ≡ v.clock) × ((corrected done v).recovering ≡ v.recovering)
    × ((corrected done v).links.senders ≡ v.links.senders) × ((corrected done v).links.replicas ≡ v.links.replicas) × ((corrected done v).links.me ≡ v.links.me)
corrected-rest true v = (refl, refl, refl, refl, refl, refl, refl)
corrected-rest false v = (refl, refl, refl, refl, refl, refl, refl)

-- where the node stands behind them
pub milled-stands : (home : Home) (v : NodeValue) (p : PlainNode) (count : ℕ) (done : Bool) (path : PipelineValue) (sends : List (ℕ × Message)) → 1 ≤ count → CanMill count home v p →
    done ≡ ends_by home count p → IsSetAs v.path path → IsMilled (spec_of home).ops v.path path (inputs_of p) (outputs_of p) count done sends →
    StandsForNode home (corrected done (record v { path = path })) (mill_step home count p).after
milled-stands home v p count done path sends some can e set milled =
    let h = can.stands in
    let rest = corrected-rest done (record v { path = path }) in
    let behind = behind-done home v p count path done h e in
    let others = same-others home count p in
    record {
      setting = subst (λ (w : PipelineValue). IsSetFor home.plan (spec_of home) w) (sym rest.0) (set-later home.plan (spec_of home) v.path path h.setting set);
      knows = record { senders = rest.4 ∙ h.knows.senders; replicas = rest.5 ∙ h.knows.replicas; me = rest.6 ∙ h.knows.me };
      readers = rest.1 ∙ h.readers;
      path = subst (λ (w : PipelineValue). StandsForData (spec_of home).ops w (inputs_of (mill_step home count p).after) (outputs_of (mill_step home count p).after)) (sym rest.0)
          (path-behind home v p count done path sends some can e milled);
      links = sym behind.0;
      clock = rest.2 ∙ h.clock ∙ sym others.0;
      state = sym behind.1;
      recovering = rest.3 ∙ h.recovering ∙ sym others.1;
    }

-- and what it sends
pub milled-sends : (home : Home) (v : NodeValue) (p : PlainNode) (count : ℕ) (done : Bool) (path : PipelineValue) (sends : List (ℕ × Message)) → 1 ≤ count → CanMill count home v p →
    done ≡ ends_by home count p → IsMilled (spec_of home).ops v.path path (inputs_of p) (outputs_of p) count done sends →
    AreMails home (map (λ (m : ℕ × Message). plain_mail (nth 0 v.readers m.0) m.1) sends) (mill_step home count p).sends
milled-sends home v p count done path sends some can e milled =
    let h = can.stands in
    let ms = batches_of (mill_items home count p) p.subs in
    let same : sends ≡ ms = milled.answer ∙ ap (λ (items : List Item). batches_of items p.subs) (items-same home v p count done h e) in
    subst (λ (ns : List (ℕ × Message)). AreMails home (map (λ (m : ℕ × Message). plain_mail (nth 0 v.readers m.0) m.1) ns) (mill_step home count p).sends) (sym same)
    (subst (λ (rs : List ℕ). AreMails home (map (λ (m : ℕ × Message). plain_mail (nth 0 rs m.0) m.1) ms) (mill_step home count p).sends) (sym h.readers)
    (subst (λ (qs : List Mail). AreMails home (map (λ (m : ℕ × Message). plain_mail (nth 0 (own_readers home) m.0) m.1) ms) qs)
    (sym (mill-sends home count p some (none-tentative home v p count some can))) (readers-mails home (own_readers home) ms)))

-- all of a step that leaves the data path so and sends such mails
pub mill-taken : (home : Home) (p : PlainNode) (v old new : NodeValue) (count : ℕ) (done : Bool) (path : PipelineValue) (ms : List (ℕ × Message)) (told : List code_mail.Mail) → 1 ≤ count → v ≡ old →
    new ≡ corrected done (record v { path = path }) → told ≡ map (λ (m : ℕ × Message). plain_mail (nth 0 v.readers m.0) m.1) ms → IsSetAs v.path path → CanMill count home v p →
    IsMilled (spec_of home).ops v.path path (inputs_of p) (outputs_of p) count done ms → (CanMill count home old p → done ≡ ends_by home count p) → IsTakenAs new told home (mill_step home count p)
mill-taken home p v old new count done path ms told some same behind sent set can milled ends =
    let last = ends (subst (λ (u : NodeValue). CanMill count home u p) same can) in
    record {
      after = subst (λ (u : NodeValue). StandsForNode home u (mill_step home count p).after) (sym behind) (milled-stands home v p count done path ms some can last set milled);
      sends = subst (λ (mails : List code_mail.Mail). AreMails home mails (mill_step home count p).sends) (sym sent) (milled-sends home v p count done path ms some can last milled);
    }

-- at each node where so many buckets can be processed
pub mill-steps : (v old new : NodeValue) (count : ℕ) (done : Bool) (path : PipelineValue) (ms : List (ℕ × Message)) (told : List code_mail.Mail) → 1 ≤ count → v ≡ old →
    new ≡ corrected done (record v { path = path }) → told ≡ map (λ (m : ℕ × Message). plain_mail (nth 0 v.readers m.0) m.1) ms → IsSetAs v.path path →
    ((home : Home) (p : PlainNode) → CanMill count home v p → IsMilled (spec_of home).ops v.path path (inputs_of p) (outputs_of p) count done ms) →
    ((home : Home) (p : PlainNode) → CanMill count home old p → done ≡ ends_by home count p) → MillSteps count old new told
mill-steps v old new count done path ms told some same behind sent set milled ends =
    let taken : (home : Home) (p : PlainNode) → CanMill count home old p → IsTakenAs new told home (mill_step home count p) =
    λ home p h.
    let can : CanMill count home v p = subst (λ (u : NodeValue). CanMill count home u p) (sym same) h in
    mill-taken home p v old new count done path ms told some same behind sent set can (milled home p can) (ends home p) in
    record { after = λ home p h. (taken home p h).after; sends = λ home p h. (taken home p h).sends }
