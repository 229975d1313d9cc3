-- What a node leaves and sends that takes a subscription, an acknowledgement, an ask or a grant, or is asked for a snapshot.
use Rattle.std.proofs.Common.{◌≡◌, ℕ, ◌<◌, Bool, true, false, ◌==◌, List, [], ◌∷◌, length, refl, sym, ap, subst, ◌∙◌, arith, Option, Some, None, Result, Ok, Err, Box, Global}
use Rattle.std.specs.Prelude.{if◌then◌else◌, IfOk}
use Rattle.dpc_lists.specs.Lists.{nth, changed, place_of}
use Rattle.dpc_model.specs.Parts.{Stream, Neighbours, stream_by, shown_of}
use Rattle.dpc_model.specs.Fragments.{fragment_value}
use Rattle.dpc_model.specs.Actors.{replicas_of}
use Rattle.dpc_model.specs.Granting.{grants, with_promise}
use Rattle.dpc_model.specs.NodeStates.{is_stable}
use Rattle.dpc_model.specs.Sessions.{Answered, Shown, after_ack, no_session, answer_to, view_items}
use Rattle.dpc_model.specs.declared.messages.Message.{Message}
use Rattle.dpc_model.specs.declared.messages.Message.TheVariants as message
use Rattle.dpc_model.specs.declared.messages.NodeState.{NodeState}
use Rattle.dpc_model.specs.declared.messages.Subscribe.{Subscribe}
use Rattle.dpc_model.specs.declared.tuples.Tuple.{Tuple}
use Rattle.dpc_model.specs.declared.tuples.Item.{Item}
use Rattle.dpc_lists.proofs.Places.{place-within, place-nth}
use Rattle.soutput.specs.Laws.{outputs_at}
use Rattle.node_links.specs.Linking.{LinksValue}
use Rattle.node_model.specs.Mails.{Snap, Stepped, mail}
use Rattle.pipeline.specs.declared.snapshots.Snapshot.{Snapshot}
use Rattle.node_model.specs.Nodes.{Home, PlainNode, spec_of, own_readers, out_stable, shown}
use Rattle.node_model.specs.NodeSteps.{idle_step, on_ack, on_subscribe, on_ask, on_snap_ask, reader_place, replica_number, snapshot}
use Rattle.node_model.specs.NodeParts.{inputs_of, outputs_of}
use Rattle.pipeline.specs.Flowing.{PipelineValue, StandsForData, IsSetAs, stream_at}
use Rattle.pipeline.specs.Messages.{HasAnswered, answer_in}
use Rattle.pipeline.specs.Recovery.{StandsForSnapshot, snap_of}
use Rattle.node_model.specs.Fitting.{IsFit}
use Rattle.node_model.proofs.Viewed.{made_of, done-is, stable-is, shown-is}
use Rattle.node_core.specs.declared.packets.Mail as code_mail
use Rattle.node_core.specs.declared.packets.Packet.TheVariants as packet
use Rattle.node_core.specs.Standing.{NodeValue, StandsForNode, AreMails}
use Rattle.node_core.specs.Stepping.{Steps, IsTakenAs, plain_mail, unless_recovering}
use Rattle.node_core.proofs.Frames.{stand-path, stand-links, sessions-many}

-- ---- answers

-- what holds of a result's value where another fact does
pub if-ok : {X E : Type 0} (P Q : X → Type 0) (r : Result X E) → ((x : X) → P x → Q x) → IfOk r P → IfOk r Q
if-ok P Q (Ok x) f h = f x h
if-ok P Q (Err e) f h = tt

-- a step, where for each fit plain node it is taken as the plain one
pub steps-by : (f : Home → PlainNode → Stepped PlainNode) (old new : NodeValue) (told : List code_mail.Mail) →
    ((home : Home) (p : PlainNode) → StandsForNode home old p → IsFit home p → IsTakenAs new told home (f home p)) → Steps f old new told
steps-by f old new told h = record { after = λ home p stands fit. (h home p stands fit).after; sends = λ home p stands fit. (h home p stands fit).sends }

pub silently : (home : Home) (v : NodeValue) (p : PlainNode) (told : List code_mail.Mail) → StandsForNode home v p → told ≡ [] → IsTakenAs v told home (idle_step p)
silently home v p told h e = record { after = h; sends = subst (λ (ms : List code_mail.Mail). AreMails home ms []) (sym e) tt }

one-mail : (home : Home) (a b : ℕ) (m : Message) → a ≡ b → AreMails home (plain_mail a m ∷ []) (mail b m ∷ [])
one-mail home a b m e = (record { to = e; packet = refl }, tt)

-- ---- readers

pub reader-is : (home : Home) (v : NodeValue) (p : PlainNode) (a : ℕ) (o : Option ℕ) → StandsForNode home v p → o ≡ place_of (λ b. a == b) v.readers → o ≡ reader_place home a
reader-is home v p a o h e = e ∙ ap (λ (rs : List ℕ). place_of (λ b. a == b) rs) h.readers

pub reader-low : (home : Home) (v : NodeValue) (p : PlainNode) (a k : ℕ) → StandsForNode home v p → IsFit home p → Some k ≡ reader_place home a → k < length v.path.output.subs
reader-low home v p a k h fit found =
    let low = place-within (λ b. a == b) (own_readers home) k (sym found) in
    let readers = fit.readers in
    let sessions = sessions-many home v p h in omega (arith, low, readers, sessions)

-- the output that is stood for is what the plain node makes of its inputs
pub stream-alike : (home : Home) (v : NodeValue) (p : PlainNode) → StandsForNode home v p → stream_at (spec_of home).ops v.path (inputs_of p) ≡ made_of home p
stream-alike home v p h =
    ap (λ (w : ℕ). stream_by (fragment_value (spec_of home).ops) w v.path.passing (inputs_of p)) h.setting.width
    ∙ ap (λ (b : Bool). stream_by (fragment_value (spec_of home).ops) home.plan.width b (inputs_of p)) h.setting.marks

unless-up : (f : Home → PlainNode → Stepped PlainNode) (home : Home) (v : NodeValue) (p : PlainNode) → StandsForNode home v p → v.recovering ≡ false → unless_recovering f home p ≡ f home p
unless-up f home v p h up = ap (λ (b : Bool). if b then idle_step p else f home p) (sym h.recovering ∙ up)

-- ---- acknowledgements

pub ack-nobody : (home : Home) (v : NodeValue) (p : PlainNode) (a inc count : ℕ) → StandsForNode home v p → None ≡ reader_place home a →
    StandsForNode home v (if p.recovering then p else on_ack home inc count (reader_place home a) p)
ack-nobody home v p a inc count h found =
    subst (λ (o : Option ℕ). StandsForNode home v (if p.recovering then p else on_ack home inc count o p)) found
    (elim p.recovering as (λ (b : Bool). StandsForNode home v (if b then p else p)) [ true ↦ h | false ↦ h ])

pub acked : (home : Home) (v : NodeValue) (p : PlainNode) (path : PipelineValue) (a k inc count : ℕ) → StandsForNode home v p → v.recovering ≡ false → Some k ≡ reader_place home a → IsSetAs v.path path →
    StandsForData (spec_of home).ops path (inputs_of p)
    (outputs_at (length (stream_at (spec_of home).ops v.path (inputs_of p)).stable) (record (outputs_of p) { acks = changed k (after_ack inc count) p.acks })) →
    StandsForNode home (record v { path = path }) (if p.recovering then p else on_ack home inc count (reader_place home a) p)
acked home v p path a k inc count h up found set flows =
    let acks = changed k (after_ack inc count) p.acks in
    let q = on_ack home inc count (Some k) p in
    let is : (if p.recovering then p else on_ack home inc count (reader_place home a) p) ≡ q =
    ap (λ (o : Option ℕ). if p.recovering then p else on_ack home inc count o p) (sym found) ∙ ap (λ (b : Bool). if b then p else q) (sym h.recovering ∙ up) in
    let made : out_stable home (record p { acks = acks }) ≡ (stream_at (spec_of home).ops v.path (inputs_of p)).stable =
    stable-is home (record p { acks = acks }) ∙ ap (λ (s : Stream). s.stable) (sym (stream-alike home v p h)) in
    let outputs : outputs_of q ≡ outputs_at (length (stream_at (spec_of home).ops v.path (inputs_of p)).stable) (record (outputs_of p) { acks = acks }) =
    ap (λ (ts : List Tuple). outputs_at (length ts) (record (outputs_of p) { acks = acks })) made in
    subst (λ (n : PlainNode). StandsForNode home (record v { path = path }) n) (sym is)
    (stand-path home v p q path (inputs_of p) _ h set flows refl outputs refl refl refl refl)

-- ---- subscriptions

pub subscribed-nobody : (home : Home) (v : NodeValue) (p : PlainNode) (a : ℕ) (asked : Subscribe) (told : List code_mail.Mail) → StandsForNode home v p → None ≡ reader_place home a → told ≡ [] →
    IsTakenAs v told home (unless_recovering (λ home p. on_subscribe home asked (reader_place home a) p) home p)
subscribed-nobody home v p a asked told h found none =
    subst (λ (o : Option ℕ). IsTakenAs v told home (if p.recovering then idle_step p else on_subscribe home asked o p)) found
    (elim p.recovering as (λ (b : Bool). IsTakenAs v told home (if b then idle_step p else idle_step p)) [ true ↦ silently home v p told h none | false ↦ silently home v p told h none ])

abbrev answer_mail : ℕ → Option Message → List code_mail.Mail
answer_mail a None = []
answer_mail a (Some m) = plain_mail a m ∷ []

answer-sent : (home : Home) (a b : ℕ) (o : Option Message) → a ≡ b → AreMails home (answer_mail a o) (elim o [ None ↦ [] | Some m ↦ mail b m ∷ [] ])
answer-sent home a b None e = tt
answer-sent home a b (Some m) e = one-mail home a b m e

pub subscribed : (home : Home) (v : NodeValue) (p : PlainNode) (path : PipelineValue) (a k : ℕ) (asked : Subscribe) (answer : Option Message) (told : List code_mail.Mail) → StandsForNode home v p →
    v.recovering ≡ false → Some k ≡ reader_place home a → IsSetAs v.path path → HasAnswered (spec_of home).ops k asked (is_stable v.state) v.path path (inputs_of p) (outputs_of p) answer →
    told ≡ answer_mail a answer → IsTakenAs (record v { path = path }) told home (unless_recovering (λ home p. on_subscribe home asked (reader_place home a) p) home p)
subscribed home v p path a k asked answer told h up found set has sent =
    let ops = (spec_of home).ops in
    let given : Answered = answer_to (shown home p) (nth no_session p.subs k) asked in
    let pos : 0 < home.plan.width = subst (λ (w : ℕ). 0 < w) h.setting.width h.path.some in
    let show : shown_of (stream_at ops v.path (inputs_of p)) p.base (is_stable v.state) ≡ shown home p =
    ap (λ (s : Stream). shown_of s p.base (is_stable v.state)) (stream-alike home v p h) ∙ ap (λ (s : NodeState). shown_of (made_of home p) p.base (is_stable s)) h.state ∙ sym (shown-is home p pos) in
    let same : answer_in ops v.path (is_stable v.state) k asked (inputs_of p) (outputs_of p) ≡ given = ap (λ (s : Shown). answer_to s (nth no_session p.subs k) asked) show in
    let step : Stepped PlainNode = on_subscribe home asked (Some k) p in
    let is : unless_recovering (λ home p. on_subscribe home asked (reader_place home a) p) home p ≡ step =
    unless-up (λ home p. on_subscribe home asked (reader_place home a) p) home v p h up ∙ ap (λ (o : Option ℕ). on_subscribe home asked o p) (sym found) in
    let outputs : outputs_of step.after ≡ record (outputs_of p) { subs = changed k (λ _. (answer_in ops v.path (is_stable v.state) k asked (inputs_of p) (outputs_of p)).after) p.subs } =
    ap (λ (b : Answered). record (outputs_of p) { subs = changed k (λ _. b.after) p.subs }) (sym same) in
    let mails : told ≡ answer_mail a given.answer = sent ∙ ap (answer_mail a) (has.answer ∙ ap (λ (b : Answered). b.answer) same) in
    let to : a ≡ nth 0 (own_readers home) k = sym (place-nth a (own_readers home) k (sym found)) in
    subst (λ (s : Stepped PlainNode). IsTakenAs (record v { path = path }) told home s) (sym is)
    (record {
      after = stand-path home v p step.after path (inputs_of p) _ h set has.stands refl outputs refl refl refl refl;
      sends = subst (λ (ms : List code_mail.Mail). AreMails home ms step.sends) (sym mails) (answer-sent home a _ given.answer to);
    })

-- ---- asks

pub replica-is : (home : Home) (v : NodeValue) (p : PlainNode) (a : ℕ) (o : Option ℕ) → StandsForNode home v p → o ≡ place_of (λ b. a == b) v.links.replicas → o ≡ replica_number home a
replica-is home v p a o h e = e ∙ ap (λ (rs : List ℕ). place_of (λ b. a == b) rs) h.knows.replicas

pub asked-nobody : (home : Home) (v : NodeValue) (p : PlainNode) (a inc ask : ℕ) (told : List code_mail.Mail) → StandsForNode home v p → None ≡ replica_number home a → told ≡ [] →
    IsTakenAs v told home (on_ask home inc ask (replica_number home a) p)
asked-nobody home v p a inc ask told h found none = subst (λ (o : Option ℕ). IsTakenAs v told home (on_ask home inc ask o p)) found (silently home v p told h none)

pub asked : (home : Home) (v : NodeValue) (p : PlainNode) (links : LinksValue) (a r inc ask : ℕ) (granted : Bool) (told : List code_mail.Mail) → StandsForNode home v p → Some r ≡ replica_number home a →
    granted ≡ grants v.links.known.grants v.state r (inc, ask) →
    links ≡ (if granted then record v.links { known = record v.links.known { grants = with_promise v.links.known.grants r (inc, ask) } } else v.links) →
    told ≡ (if granted then plain_mail a (message.Grant inc ask) ∷ [] else []) → IsTakenAs (record v { links = links }) told home (on_ask home inc ask (replica_number home a) p)
asked home v p links a r inc ask granted told h found test made sent =
    let yes : Stepped PlainNode =
    record { after = record p { grants = with_promise p.grants r (inc, ask) }; sends = mail (nth 0 (replicas_of home.plan home.frag) r) (message.Grant inc ask) ∷ [] } in
    let same : grants p.grants p.state r (inc, ask) ≡ granted =
    sym (test ∙ ap (λ (n : Neighbours). grants n.grants v.state r (inc, ask)) h.links ∙ ap (λ (s : NodeState). grants p.grants s r (inc, ask)) h.state) in
    let is : on_ask home inc ask (replica_number home a) p ≡ (if granted then yes else idle_step p) =
    ap (λ (o : Option ℕ). on_ask home inc ask o p) (sym found) ∙ ap (λ (b : Bool). if b then yes else idle_step p) same in
    subst (λ (s : Stepped PlainNode). IsTakenAs (record v { links = links }) told home s) (sym is) (answered granted made sent)
  where
    given : Neighbours → Neighbours
    given n = record n { grants = with_promise n.grants r (inc, ask) }

    answered : (b : Bool) → links ≡ (if b then record v.links { known = given v.links.known } else v.links) → told ≡ (if b then plain_mail a (message.Grant inc ask) ∷ [] else []) →
        IsTakenAs (record v { links = links }) told home
        (if b then record { after = record p { grants = with_promise p.grants r (inc, ask) }; sends = mail (nth 0 (replicas_of home.plan home.frag) r) (message.Grant inc ask) ∷ [] } else idle_step p)
    answered true made sent =
        let q = record p { grants = with_promise p.grants r (inc, ask) } in
        record {
          after = subst (λ (l : LinksValue). StandsForNode home (record v { links = l }) q) (sym made) (stand-links home v p q _ h (ap given h.links) refl refl refl refl refl);
          sends = subst (λ (ms : List code_mail.Mail). AreMails home ms (mail (nth 0 (replicas_of home.plan home.frag) r) (message.Grant inc ask) ∷ [])) (sym sent)
              (one-mail home a (nth 0 (replicas_of home.plan home.frag) r) (message.Grant inc ask) (sym (place-nth a (replicas_of home.plan home.frag) r (sym found))));
        }
    answered false made sent = silently home (record v { links = links }) p told (subst (λ (l : LinksValue). StandsForNode home (record v { links = l }) p) (sym made) h) sent

-- ---- snapshots

pub snapshot-sent : (home : Home) (v : NodeValue) (p : PlainNode) (a inc number : ℕ) (s : Box Snapshot Global) (told : List code_mail.Mail) → StandsForNode home v p → v.recovering ≡ false →
    StandsForSnapshot (spec_of home).ops v.path.union.width s.value (snap_of v.path.union.width (inputs_of p) (outputs_of p)) → told ≡ record { to = a; packet = packet.SnapFor inc number s } ∷ [] →
    IsTakenAs v told home (unless_recovering (λ home p. on_snap_ask home a inc number p) home p)
snapshot-sent home v p a inc number s told h up stands sent =
    let step = on_snap_ask home a inc number p in
    let ops = (spec_of home).ops in
    let wide = subst (λ (w : ℕ). StandsForSnapshot ops w s.value (snap_of w (inputs_of p) (outputs_of p))) h.setting.width stands in
    let same : snap_of home.plan.width (inputs_of p) (outputs_of p) ≡ snapshot home p =
    ap (λ (ts : List (List Tuple)). record { cursor = p.cursor; inputs = ts; base = p.base }) (sym (done-is home p)) in
    let alike = subst (λ (t : Snap). StandsForSnapshot ops home.plan.width s.value t) same wide in
    subst (λ (s : Stepped PlainNode). IsTakenAs v told home s) (sym (unless-up (λ home p. on_snap_ask home a inc number p) home v p h up))
    (record { after = h; sends = subst (λ (ms : List code_mail.Mail). AreMails home ms step.sends) (sym sent) (record { to = refl; packet = (snapshot home p, refl, alike) }, tt) })

-- ---- the view

-- what the output that is stood for shows is what the plain node shows
pub view-shown : (home : Home) (v : NodeValue) (p : PlainNode) (items : List Item) → StandsForNode home v p →
    items ≡ view_items (shown_of (stream_at (spec_of home).ops v.path (inputs_of p)) p.base (is_stable p.state)) → items ≡ view_items (shown home p)
view-shown home v p items h told =
    let pos : 0 < home.plan.width = subst (λ (w : ℕ). 0 < w) h.setting.width h.path.some in
    told ∙ ap (λ (s : Stream). view_items (shown_of s p.base (is_stable p.state))) (stream-alike home v p h) ∙ ap (λ (s : Shown). view_items s) (sym (shown-is home p pos))
