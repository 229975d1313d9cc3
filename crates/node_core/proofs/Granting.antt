-- What a node leaves and sends that is granted its ask, or gets a snapshot, and how it takes a packet.
use Rattle.std.proofs.Common.{◌≡◌, ℕ, Bool, true, ◌&&◌, List, [], refl, sym, ap, subst, ◌∙◌, Box, Global}
use Rattle.std.specs.Prelude.{if◌then◌else◌}
use Rattle.dpc_model.specs.Parts.{Neighbours}
use Rattle.dpc_model.specs.Granting.{with_ask, may_enter_by}
use Rattle.dpc_model.specs.NodeStates.{is_up_failure}
use Rattle.dpc_model.specs.declared.messages.Message.{Message}
use Rattle.dpc_model.specs.declared.messages.NodeState.{NodeState}
use Rattle.node_links.specs.Linking.{LinksValue}
use Rattle.node_model.specs.Mails.{Packet, Stepped}
use Rattle.pipeline.specs.declared.snapshots.Snapshot.{Snapshot}
use Rattle.node_model.specs.Nodes.{Home, PlainNode, out_stable}
use Rattle.node_model.specs.NodeSteps.{idle_step, enter_step, on_grant, on_snap, on_message, packet_step, with_marks_ended}
use Rattle.node_model.specs.Fitting.{IsFit, IsFitPacket}
use Rattle.law_node.proofs.FitNodes.{fit-marks}
use Rattle.node_core.specs.declared.packets.Mail as code_mail
use Rattle.node_core.specs.declared.packets.Packet.TheVariants as packet
use Rattle.node_core.specs.Standing.{NodeValue, StandsForNode}
use Rattle.node_core.specs.Stepping.{Follows, Steps, IsTakenAs, IsTaken, CanTake, CanTakeMessage, CanAdopt, taken_back}
use Rattle.node_core.proofs.Frames.{stand-links}
use Rattle.node_core.proofs.Answering.{silently}

-- ---- grants

-- a plain node takes a grant as what is known there says
grant-is : (home : Home) (v : NodeValue) (p : PlainNode) (inc ask : ℕ) (b : Bool) → StandsForNode home v p → (is_up_failure v.state && may_enter_by v.links.known.grants (inc, ask)) ≡ b →
    on_grant home inc ask p ≡ (if b then enter_step home p else idle_step p)
grant-is home v p inc ask b h e =
    let leaves : Bool → Stepped PlainNode = λ c. if c then enter_step home p else idle_step p in
    sym (ap (λ (s : NodeState). leaves (is_up_failure s && may_enter_by p.grants (inc, ask))) h.state)
    ∙ sym (ap (λ (n : Neighbours). leaves (is_up_failure v.state && may_enter_by n.grants (inc, ask))) h.links) ∙ ap leaves e

enters : (home : Home) (p : PlainNode) → enter_step home p ≡ taken_back home (record p { grants = with_ask p.grants })
unfolding enter_step out_stable
enters home p = refl

asks-alike : (home : Home) (v : NodeValue) (p : PlainNode) (links : LinksValue) → StandsForNode home v p →
    links ≡ record v.links { known = record v.links.known { grants = with_ask v.links.known.grants } } → StandsForNode home (record v { links = links }) (record p { grants = with_ask p.grants })
asks-alike home v p links h made =
    subst (λ (l : LinksValue). StandsForNode home (record v { links = l }) (record p { grants = with_ask p.grants })) (sym made)
    (stand-links home v p (record p { grants = with_ask p.grants }) _ h (ap (λ (n : Neighbours). record n { grants = with_ask n.grants }) h.links) refl refl refl refl refl)

fit-asking : (home : Home) (p : PlainNode) → IsFit home p → IsFit home (record p { grants = with_ask p.grants })
fit-asking home p fit = record { end = fit.end; inputs = fit.inputs; ports = fit.ports; readers = fit.readers; silent = fit.silent }

pub granted : (home : Home) (v new : NodeValue) (p : PlainNode) (links : LinksValue) (inc ask : ℕ) (told : List code_mail.Mail) → StandsForNode home v p → IsFit home p →
    (is_up_failure v.state && may_enter_by v.links.known.grants (inc, ask)) ≡ true → links ≡ record v.links { known = record v.links.known { grants = with_ask v.links.known.grants } } →
    Steps taken_back (record v { links = links }) new told → IsTakenAs new told home (on_grant home inc ask p)
granted home v new p links inc ask told h fit e made steps =
    let q = record p { grants = with_ask p.grants } in
    let stands = asks-alike home v p links h made in
    let fits = fit-asking home p fit in
    subst (λ (s : Stepped PlainNode). IsTakenAs new told home s) (sym (grant-is home v p inc ask true h e ∙ enters home p))
    (record { after = steps.after home q stands fits; sends = steps.sends home q stands fits })

-- ---- packets

-- a message is taken by its step
pub told-by : (f : Home → PlainNode → Stepped PlainNode) (home : Home) (p : PlainNode) (sender : ℕ) (old new : NodeValue) (m n : Message) (told : List code_mail.Mail) → m ≡ n →
    CanTakeMessage sender old m home p → Steps f old new told → on_message home sender n p ≡ f home p → IsTakenAs new told home (on_message home sender m p)
told-by f home p sender old new m n told e can steps is =
    subst (λ (s : Stepped PlainNode). IsTakenAs new told home s) (sym (ap (λ (x : Message). on_message home sender x p) e ∙ is))
    (record { after = steps.after home p can.stands can.fit; sends = steps.sends home p can.stands can.fit })

-- or by a step that sends nothing
pub silent-by : (home : Home) (p q : PlainNode) (sender : ℕ) (new now : NodeValue) (m n : Message) (told : List code_mail.Mail) → m ≡ n → now ≡ new →
    StandsForNode home new q → told ≡ [] → on_message home sender n p ≡ idle_step q → IsTakenAs now told home (on_message home sender m p)
silent-by home p q sender new now m n told e same h none is =
    subst (λ (s : Stepped PlainNode). IsTakenAs now told home s) (sym (ap (λ (x : Message). on_message home sender x p) e ∙ is))
    (silently home now q told (subst (λ (v : NodeValue). StandsForNode home v q) (sym same) h) none)

-- once the marks are ended, a message may be taken
pub message-may : (home : Home) (sender : ℕ) (v mid : NodeValue) (m : Message) (p : PlainNode) (q : Packet) → CanTake sender v (packet.Plain m) home p q →
    Follows (λ home p. with_marks_ended p) v mid → CanTakeMessage sender mid m home (with_marks_ended p)
message-may home sender v mid m p q can ends =
    record { stands = ends home p can.stands can.fit; fit = fit-marks home p can.fit; fits = subst (λ (r : Packet). IsFitPacket home sender p r) can.alike can.fits }

pub message-packed : (home : Home) (sender : ℕ) (v new : NodeValue) (m : Message) (p : PlainNode) (q : Packet) (told : List code_mail.Mail) → CanTake sender v (packet.Plain m) home p q →
    IsTakenAs new told home (on_message home sender m (with_marks_ended p)) → IsTaken sender new told home p q
unfolding packet_step
message-packed home sender v new m p q told can taken = subst (λ (r : Packet). IsTaken sender new told home p r) (sym can.alike) taken

-- and a snapshot may be adopted
pub snap-may : (home : Home) (sender inc number : ℕ) (v mid : NodeValue) (snapshot : Box Snapshot Global) (p : PlainNode) (q : Packet) →
    (can : CanTake sender v (packet.SnapFor inc number snapshot) home p q) → Follows (λ home p. with_marks_ended p) v mid → CanAdopt mid snapshot.value home (with_marks_ended p) can.alike.0
snap-may home sender inc number v mid snapshot p q can ends =
    record {
      stands = ends home p can.stands can.fit;
      fit = fit-marks home p can.fit;
      alike = can.alike.2;
      fits = subst (λ (r : Packet). IsFitPacket home sender p r) can.alike.1 can.fits;
    }

pub snap-packed : (home : Home) (sender inc number : ℕ) (v new : NodeValue) (snapshot : Box Snapshot Global) (p : PlainNode) (q : Packet) (told : List code_mail.Mail) →
    (can : CanTake sender v (packet.SnapFor inc number snapshot) home p q) → StandsForNode home new (on_snap home inc number can.alike.0 (with_marks_ended p)) → told ≡ [] → IsTaken sender new told home p q
unfolding packet_step
snap-packed home sender inc number v new snapshot p q told can h none =
    subst (λ (r : Packet). IsTaken sender new told home p r) (sym can.alike.1) (silently home new (on_snap home inc number can.alike.0 (with_marks_ended p)) told h none)
