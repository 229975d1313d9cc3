-- What a node tells at the end of a tick.
use Rattle.std.proofs.Common.{◌≡◌, ℕ, zero, suc, ◌+◌, ◌*◌, ◌<◌, Bool, false, List, [], ◌∷◌, ◌++◌, map, take, length, refl, sym, ap, subst, ◌∙◌, arith, append_assoc, append-nil, Option, None, zip, slice_index_or}
use Rattle.std.proofs.lemmas.List.{map-append, take_all}
use Rattle.std.specs.Prelude.{if◌then◌else◌}
use Rattle.dpc_model.specs.Actors.{senders_of}
use Rattle.dpc_model.specs.Inlets.{InletState, no_inlet}
use Rattle.dpc_lists.specs.Lists.{nth, sort_by}
use Rattle.dpc_model.specs.Parts.{Inputs, Outputs, Neighbours, AreInOrder}
use Rattle.dpc_model.specs.Ports.{Port, no_port, acks_to}
use Rattle.dpc_model.specs.Sessions.{no_session, tally_of}
use Rattle.dpc_model.specs.Streams.{count_below}
use Rattle.dpc_model.specs.declared.messages.Message.{Message}
use Rattle.dpc_model.specs.declared.messages.Message.TheVariants as message
use Rattle.dpc_model.specs.declared.messages.NodeState.{NodeState}
use Rattle.dpc_model.specs.declared.messages.Sess.{Sess}
use Rattle.dpc_model.specs.declared.operators.OpSpec.{OpSpec}
use Rattle.dpc_model.specs.declared.plans.StreamRef.{StreamRef}
use Rattle.dpc_model.specs.declared.plans.StreamRef.TheVariants.{Source}
use Rattle.dpc_model.specs.declared.sessions.Sub.{Sub}
use Rattle.node_links.specs.Linking.{peers_in}
use Rattle.pipeline.specs.Flowing.{StandsForData}
use Rattle.node_model.specs.Mails.{Plain, Mail, mail, mails, in_actor_order, to_each}
use Rattle.node_model.specs.Nodes.{Home, spec_of, streams_of, own_readers, PlainNode}
use Rattle.node_model.specs.NodeSteps.{peers_of, done_at, acks_from, beat_of, beats, announcing_step}
use Rattle.node_model.specs.NodeParts.{inputs_of, outputs_of}
use Rattle.node_model.specs.Fitting.{IsFit}
use Rattle.node_model.proofs.Viewed.{inlet-at}
use Rattle.node_core.specs.declared.packets.Mail as code_mail
use Rattle.node_core.specs.Standing.{NodeValue, StandsForNode, AreMails}
use Rattle.node_core.specs.Stepping.{IsSound, Steps, plain_mail, beat_with}
use Rattle.node_core.proofs.Choosing.{senders-there}
use Rattle.node_core.proofs.Frames.{upstreams-many, sessions-many}
use Rattle.node_core.proofs.Mailing.{mails-append}
use Rattle.node_core.proofs.Sendings.{peers-mails, sorted-mails}

-- ---- what is done with

-- what the data path tells
abbrev pub TellsDone : NodeValue → ℕ → ℕ → Type 0
TellsDone v port k =
    (ops : List OpSpec) → (x : Inputs) → (o : Outputs) → StandsForData ops v.path x o → AreInOrder x → k ≡ count_below (nth no_inlet x.inlets port).held.stable (x.cursor * v.path.union.width)

pub told-done : (home : Home) (v : NodeValue) (p : PlainNode) (port k : ℕ) → StandsForNode home v p → IsFit home p → v.recovering ≡ false → TellsDone v port k → k ≡ done_at home p (nth no_port p.ports port)
told-done home v p port k h fit e tells =
    let q = nth no_port p.ports port in
    tells (spec_of home).ops (inputs_of p) (outputs_of p) h.path fit.inputs.ordered
    ∙ ap (λ (i : InletState). count_below i.held.stable (p.cursor * v.path.union.width)) (inlet-at port p.ports)
    ∙ ap (λ (w : ℕ). count_below q.inlet.held.stable (p.cursor * w)) h.setting.width
    ∙ ap (λ (b : Bool). if b then 0 else count_below q.inlet.held.stable (p.cursor * home.plan.width)) (sym e ∙ h.recovering)

-- ---- acknowledgements

-- those of the first ports
abbrev pub HasAcked : ℕ → NodeValue → List code_mail.Mail → Type 0
HasAcked i v told = (home : Home) (p : PlainNode) → StandsForNode home v p → IsFit home p → AreMails home told (acks_from home p (take i p.ports) (streams_of home))

acks-more : (home : Home) (p : PlainNode) (i : ℕ) (ports : List Port) (streams : List StreamRef) → i < length ports → length ports ≡ length streams →
    acks_from home p (take (i + 1) ports) streams
    ≡ acks_from home p (take i ports) streams ++ mails (acks_to home.plan p.grants.inc (done_at home p (nth no_port ports i)) (nth (Source 0) streams i))
acks-more home p i [] streams low many = absurd (omega (arith, low))
acks-more home p i (q ∷ ports) [] low many = cc
acks-more home p zero (q ∷ ports) (s ∷ streams) low many = append-nil (mails (acks_to home.plan p.grants.inc (done_at home p q) s))
acks-more home p (suc i) (q ∷ ports) (s ∷ streams) low many =
    let next : suc i + 1 ≡ suc (i + 1) = omega arith in
    let first = mails (acks_to home.plan p.grants.inc (done_at home p q) s) in
    rw next (ap (λ (ms : List Mail). first ++ ms) (acks-more home p i ports streams (omega (arith, low)) (omega (arith, many)))
    ∙ sym (append_assoc first (acks_from home p (take i ports) streams) (mails (acks_to home.plan p.grants.inc (done_at home p (nth no_port ports i)) (nth (Source 0) streams i)))))

ack-mails : (home : Home) (inc count : ℕ) (actors : List ℕ) →
    AreMails home (map (λ a. plain_mail a (message.Ack inc count)) actors) (mails (map (λ (a : ℕ). record { to = a; message = message.Ack inc count }) actors))
ack-mails home inc count [] = tt
ack-mails home inc count (a ∷ actors) = (record { to = refl; packet = refl }, ack-mails home inc count actors)

pub none-acked : (v : NodeValue) → HasAcked 0 v []
none-acked v home p h fit = tt

-- one port more
pub more-acked : (i inc count : ℕ) (v : NodeValue) (told : List code_mail.Mail) (actors : List ℕ) → i < length v.links.known.upstreams → HasAcked i v told → inc ≡ v.links.known.grants.inc →
    ((home : Home) (p : PlainNode) → StandsForNode home v p → IsFit home p → count ≡ done_at home p (nth no_port p.ports i)) → actors ≡ nth [] v.links.senders i →
    HasAcked (i + 1) v (told ++ map (λ a. plain_mail a (message.Ack inc count)) actors)
more-acked i inc count v told actors low acked own done senders home p h fit =
    let many = upstreams-many home v p h in
    let inside : i < length p.ports = omega (arith, low, many) in
    let as_many = fit.ports in
    let s = nth (Source 0) (streams_of home) i in
    let q = nth no_port p.ports i in
    let all : actors ≡ senders_of home.plan s =
    senders ∙ ap (λ (ss : List (List ℕ)). nth [] ss i) h.knows.senders ∙ senders-there home.plan i (streams_of home) (omega (arith, inside, as_many)) in
    let same : map (λ a. plain_mail a (message.Ack inc count)) actors ≡ map (λ a. plain_mail a (message.Ack p.grants.inc (done_at home p q))) (senders_of home.plan s) =
    ap (λ (k : ℕ). map (λ a. plain_mail a (message.Ack k count)) actors) (own ∙ ap (λ (n : Neighbours). n.grants.inc) h.links)
    ∙ ap (λ (k : ℕ). map (λ a. plain_mail a (message.Ack p.grants.inc k)) actors) (done home p h fit)
    ∙ ap (λ (ns : List ℕ). map (λ a. plain_mail a (message.Ack p.grants.inc (done_at home p q))) ns) all in
    let here : AreMails home (map (λ a. plain_mail a (message.Ack inc count)) actors) (mails (acks_to home.plan p.grants.inc (done_at home p q) s)) =
    subst (λ (ms : List code_mail.Mail). AreMails home ms (mails (acks_to home.plan p.grants.inc (done_at home p q) s))) (sym same) (ack-mails home p.grants.inc (done_at home p q) (senders_of home.plan s)) in
    subst (λ (ps : List Mail). AreMails home (told ++ map (λ a. plain_mail a (message.Ack inc count)) actors) ps) (sym (acks-more home p i p.ports (streams_of home) inside fit.ports))
    (mails-append home told (map (λ a. plain_mail a (message.Ack inc count)) actors) (acks_from home p (take i p.ports) (streams_of home)) (mails (acks_to home.plan p.grants.inc (done_at home p q) s)) (acked home p h fit) here)

-- every port
pub all-acked : (many : ℕ) (v : NodeValue) (told : List code_mail.Mail) → many ≡ length v.links.known.upstreams → HasAcked many v told → (home : Home) (p : PlainNode) → StandsForNode home v p → IsFit home p →
    AreMails home (sort_by (λ (m : code_mail.Mail). m.to) told) (in_actor_order (acks_from home p p.ports (streams_of home)))
all-acked many v told all acked home p h fit =
    let count : many ≡ length p.ports = all ∙ upstreams-many home v p h in
    let whole : take many p.ports ≡ p.ports = take_all many p.ports (omega (arith, count)) in
    sorted-mails home told (acks_from home p p.ports (streams_of home)) (subst (λ (ports : List Port). AreMails home told (acks_from home p ports (streams_of home))) whole (acked home p h fit))

-- ---- beats

beat-same : (home : Home) (v : NodeValue) (p : PlainNode) (tally : Option (Sess × ℕ)) → StandsForNode home v p → beat_with v tally ≡ beat_of p tally
beat-same home v p tally h =
    ap (λ (n : Neighbours). message.Beat (record { inc = n.grants.inc; state = v.state; recovering = v.recovering; over = n.grants.over; tally = tally })) h.links
    ∙ ap (λ (s : NodeState). message.Beat (record { inc = p.grants.inc; state = s; recovering = v.recovering; over = p.grants.over; tally = tally })) h.state
    ∙ ap (λ (b : Bool). message.Beat (record { inc = p.grants.inc; state = p.state; recovering = b; over = p.grants.over; tally = tally })) h.recovering

-- to a reader, with its session
abbrev pub beat_to : NodeValue → ℕ × Sub → code_mail.Mail
beat_to v x = plain_mail x.0 (beat_with v (tally_of x.1))

beats-stand : (home : Home) (v : NodeValue) (p : PlainNode) (xs : List (ℕ × Sub)) → StandsForNode home v p →
    AreMails home (map (beat_to v) xs) (map (λ (x : ℕ × Sub). mail x.0 (beat_of p (tally_of x.1))) xs)
beats-stand home v p [] h = tt
beats-stand home v p (x ∷ xs) h =
    (record { to = refl; packet = ap (λ (m : Message). Plain m) (sym (beat-same home v p (tally_of x.1) h)) }, beats-stand home v p xs h)

-- one reader more
zip-more : (i d : ℕ) (rs : List ℕ) (ss : List Sub) → i < length rs → i < length ss → zip (take (i + 1) rs) ss ≡ zip (take i rs) ss ++ (slice_index_or rs i d, nth no_session ss i) ∷ []
zip-more i d [] ss low within = absurd (omega (arith, low))
zip-more i d (q ∷ rs) [] low within = absurd (omega (arith, within))
zip-more zero d (q ∷ rs) (s ∷ ss) low within = refl
zip-more (suc i) d (q ∷ rs) (s ∷ ss) low within =
    let next : suc i + 1 ≡ suc (i + 1) = omega arith in rw next (ap (λ (xs : List (ℕ × Sub)). (q, s) ∷ xs) (zip-more i d rs ss (omega (arith, low)) (omega (arith, within))))

pub reader-more : (v : NodeValue) (before ms : List code_mail.Mail) (i d : ℕ) (rs : List ℕ) (one : code_mail.Mail) (m : Message) (tally : Option (Sess × ℕ)) → one ≡ plain_mail (slice_index_or rs i d) m → i < length rs → i < length v.path.output.subs →
    tally ≡ tally_of (nth no_session v.path.output.subs i) → m ≡ beat_with v tally → ms ≡ before ++ map (beat_to v) (zip (take i rs) v.path.output.subs) →
    ms ++ one ∷ [] ≡ before ++ map (beat_to v) (zip (take (i + 1) rs) v.path.output.subs)
reader-more v before ms i d rs one m tally told low within known said had =
    let ss = v.path.output.subs in
    let f = beat_to v in
    let last : one ≡ f (slice_index_or rs i d, nth no_session ss i) =
    told ∙ ap (λ (n : Message). plain_mail (slice_index_or rs i d) n) said ∙ ap (λ (l : Option (Sess × ℕ)). plain_mail (slice_index_or rs i d) (beat_with v l)) known in
    ap (λ (xs : List code_mail.Mail). xs ++ one ∷ []) had ∙ append_assoc before (map f (zip (take i rs) ss)) (one ∷ [])
    ∙ ap (λ (m : code_mail.Mail). before ++ (map f (zip (take i rs) ss) ++ m ∷ [])) last
    ∙ ap (λ (xs : List code_mail.Mail). before ++ xs) (sym (map-append f (zip (take i rs) ss) ((slice_index_or rs i d, nth no_session ss i) ∷ [])))
    ∙ ap (λ (ys : List (ℕ × Sub)). before ++ map f ys) (sym (zip-more i d rs ss low within))

-- as many sessions as readers
pub readers-served : (v : NodeValue) → IsSound v → length v.path.output.subs ≡ length v.readers
readers-served v sound =
    let home = sound.0 in
    let p = sound.1 in
    sessions-many home v p sound.2 ∙ sound.3.readers ∙ sym (ap length sound.2.readers)

pub all-beats : (v : NodeValue) (told : List code_mail.Mail) (peers : List ℕ) → peers ≡ peers_in v.links → told ≡ map (λ a. plain_mail a (beat_with v None)) peers ++ map (beat_to v) (zip v.readers v.path.output.subs) →
    (home : Home) (p : PlainNode) → StandsForNode home v p → AreMails home (sort_by (λ (m : code_mail.Mail). m.to) told) (in_actor_order (beats home p))
all-beats v told peers known each home p h =
    let xs = zip (own_readers home) p.subs in
    let own : zip v.readers v.path.output.subs ≡ xs = ap (λ (rs : List ℕ). zip rs v.path.output.subs) h.readers ∙ ap (λ (ss : List Sub). zip (own_readers home) ss) h.path.output.subs in
    let sent : told ≡ map (λ a. plain_mail a (beat_of p None)) peers ++ map (beat_to v) xs =
    each ∙ ap (λ (m : Message). map (λ a. plain_mail a m) peers ++ map (beat_to v) (zip v.readers v.path.output.subs)) (beat-same home v p None h)
    ∙ ap (λ (ys : List (ℕ × Sub)). map (λ a. plain_mail a (beat_of p None)) peers ++ map (beat_to v) ys) own in
    let first = peers-mails home v p (beat_of p None) peers (map (λ a. plain_mail a (beat_of p None)) peers) h known refl in
    let both = mails-append home (map (λ a. plain_mail a (beat_of p None)) peers) (map (beat_to v) xs) (to_each (beat_of p None) (peers_of home))
    (map (λ (x : ℕ × Sub). mail x.0 (beat_of p (tally_of x.1))) xs) first (beats-stand home v p xs h) in
    sorted-mails home told (beats home p) (subst (λ (ms : List code_mail.Mail). AreMails home ms (beats home p)) (sym sent) both)

-- ---- both

pub announced : (v : NodeValue) (acks told : List code_mail.Mail) →
    ((home : Home) (p : PlainNode) → StandsForNode home v p → IsFit home p → AreMails home acks (in_actor_order (acks_from home p p.ports (streams_of home)))) →
    ((home : Home) (p : PlainNode) → StandsForNode home v p → IsFit home p → AreMails home told (in_actor_order (beats home p))) → Steps announcing_step v v (acks ++ told)
announced v acks told acked beaten = record {
  after = λ home p h fit. h;
  sends = λ home p h fit. mails-append home acks told (in_actor_order (acks_from home p p.ports (streams_of home))) (in_actor_order (beats home p)) (acked home p h fit) (beaten home p h fit);
}
