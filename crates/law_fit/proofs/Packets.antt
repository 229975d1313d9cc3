-- A packet that is true and fits its way is fit for the good node that it comes to.
use Rattle.std.proofs.Common.{◌≡◌, ℕ, ◌+◌, ◌*◌, ◌<◌, Bool, true, false, cond, ◌==◌, List, map, length, refl, sym, ap, ◌∙◌, Option, Some, None, All}
use Rattle.std.proofs.lemmas.List.{length-map}
use Rattle.std.proofs.lemmas.List.Elements.{All-map}
use Rattle.dpc_lists.specs.Lists.{nth}
use Rattle.dpc_model.specs.Streams.{InOrder, is_below}
use Rattle.dpc_model.specs.Fragments.{ideal_upto}
use Rattle.dpc_model.specs.Inlets.{AfterBatch, take_batch}
use Rattle.dpc_model.specs.Parts.{done_in}
use Rattle.dpc_model.specs.Ports.{no_port, sender_at}
use Rattle.dpc_model.specs.Actors.{role_of}
use Rattle.dpc_model.specs.declared.actors.Role.TheVariants.{Node as IsNode}
use Rattle.dpc_model.specs.declared.batches.Taken.{Taken}
use Rattle.dpc_model.specs.declared.batches.Taken.TheVariants as taken
use Rattle.dpc_model.specs.declared.messages.Sess.{Sess}
use Rattle.dpc_model.specs.declared.messages.Message.{Message}
use Rattle.dpc_model.specs.declared.messages.Message.TheVariants as message
use Rattle.dpc_model.specs.declared.tuples.Tuple.{Tuple}
use Rattle.dpc_model.specs.declared.tuples.Item.{Item}
use Rattle.dpc_model.specs.declared.plans.StreamRef.{StreamRef}
use Rattle.dpc_model.proofs.Order.{ideal_upto-InOrder}
use Rattle.node_model.specs.Mails.{Snap, Packet, Plain, SnapFor}
use Rattle.node_model.specs.Nodes.{Home, PlainNode, streams_of}
use Rattle.node_model.specs.NodeSteps.{after_taking, on_batch, on_message, with_marks_ended, packet_step}
use Rattle.node_model.specs.NodeParts.{inputs_of}
use Rattle.world_model.specs.Safe.{IsTruePacket, IsTrueSnap}
use Rattle.world_model.specs.Orderly.{packet_way, carries_fitting}
use Rattle.law_safety.specs.Plans.{IsChecked, IsPlace}
use Rattle.dpc_lists.proofs.Truths.{lt-of}
use Rattle.law_safety.proofs.Columns.{ideal_upto-below}
use Rattle.law_safety.proofs.Outputs.{inputs-held}
use Rattle.law_safety.proofs.Frames.{IsGood, marks-good}
use Rattle.law_safety.proofs.Mailing.{IsActor}
use Rattle.law_safety.proofs.Delivered.{delivered-good, peer-snap}
use Rattle.node_model.specs.Fitting.{IsFitSnap, IsFitMessage, IsFitPacket}
use Rattle.node_model.proofs.Viewed.{done-is}
use Rattle.law_fit.proofs.Readers.{all-of, good-reaches}

-- ---- a batch

-- what a good node has below its cursor's bucket are the failure-free inputs there
pub done-ideal : (home : Home) (most : ℕ) (n : PlainNode) → IsPlace home → IsGood home most n →
    done_in home.plan.width (inputs_of n) ≡ map (λ (s : StreamRef). ideal_upto home.plan s (n.cursor * home.plan.width)) (streams_of home)
done-ideal home most n place g =
    sym (done-is home n)
    ∙ inputs-held home.plan (n.cursor * home.plan.width) place.checked.sound (streams_of home) n.ports g.safe.inputs (good-reaches home most n g)

-- a batch leaves the cursor where it is
taking-cursor : (home : Home) (p : ℕ) (t : AfterBatch) (n : PlainNode) → (after_taking home p t n).cursor ≡ n.cursor
taking-cursor home p t n =
    (elim t.answer as (λ (a : Taken). (after_taking home p (record t { answer = a }) n).cursor ≡ n.cursor) [
      | taken.Used items ↦ refl
      | taken.Old ↦ refl
      | taken.Broken ↦ refl
    ])

batch-cursor : (home : Home) (u : Sess) (index : ℕ) (items : List Item) (o : Option (ℕ × ℕ)) (n : PlainNode) → (on_batch home u index items o n).cursor ≡ n.cursor
batch-cursor home u index items None n = refl
batch-cursor home u index items (Some (p, r)) n =
    let port = nth no_port n.ports p in
    (elim (port.chosen == r) as (λ (b : Bool). (cond b (after_taking home p (take_batch port.inlet u index items) n) n).cursor ≡ n.cursor) [
      | true ↦ taking-cursor home p (take_batch port.inlet u index items) n
      | false ↦ refl
    ])

batch-fits : (home : Home) (most sender : ℕ) (u : Sess) (index : ℕ) (items : List Item) (n : PlainNode) → IsPlace home → IsGood home most n →
    IsGood home (most + 1) (on_message home sender (message.Batch u index items) n).after → IsFitMessage home sender n (message.Batch u index items)
batch-fits home most sender u index items n place before after =
    let next = (on_message home sender (message.Batch u index items) n).after in
    let same = batch-cursor home u index items (sender_at home.plan (streams_of home) sender) n in
    done-ideal home (most + 1) next place after
    ∙ ap (λ (c : ℕ). map (λ (s : StreamRef). ideal_upto home.plan s (c * home.plan.width)) (streams_of home)) same
    ∙ sym (done-ideal home most n place before)

message-fits : (home : Home) (most sender : ℕ) (m : Message) (n : PlainNode) → IsPlace home → IsGood home most n → IsGood home (most + 1) (on_message home sender m n).after → IsFitMessage home sender n m
message-fits home most sender (message.Batch u index items) n place before after = batch-fits home most sender u index items n place before after
message-fits home most sender (message.Subscribe asked) n place before after = tt
message-fits home most sender (message.Truncated u base) n place before after = tt
message-fits home most sender (message.Beat b) n place before after = tt
message-fits home most sender (message.Ack i count) n place before after = tt
message-fits home most sender (message.Ask i ask) n place before after = tt
message-fits home most sender (message.Grant i ask) n place before after = tt
message-fits home most sender (message.SnapAsk i try) n place before after = tt

-- ---- a snapshot

pub snap-fits : (home : Home) (s : Snap) → IsChecked home.plan → IsTrueSnap home.plan home.frag s → IsFitSnap home s
snap-fits home s checked truth =
    let b = s.cursor * home.plan.width in
    let upto : StreamRef → List Tuple = λ (x : StreamRef). ideal_upto home.plan x b in
    record {
      ports = ap length truth.inputs ∙ length-map (streams_of home) upto;
      ordered = rw truth.inputs (All-map InOrder upto (streams_of home) (λ k d low. ideal_upto-InOrder home.plan _ b checked.sound.logs));
      below = rw truth.inputs (All-map (λ (ts : List Tuple). All (λ (t : Tuple). t.stime < b) ts) upto (streams_of home)
          (λ k d low. all-of (is_below b) (λ (t : Tuple). t.stime < b) _ (λ t e. lt-of t.stime b e) (ideal_upto-below home.plan _ b checked)));
      end = truth.within;
    }

-- ---- any packet

pub packet-fits : (home : Home) (me most sender : ℕ) (q : Packet) (n : PlainNode) → IsActor home me → packet_way home.plan (role_of home.plan sender) (IsNode home.frag home.replica) q ≡ true →
    carries_fitting home.plan (role_of home.plan sender) q ≡ true → IsTruePacket home.plan (role_of home.plan sender) q → IsGood home most n → IsFitPacket home sender n q
unfolding packet_step
packet-fits home me most sender (Plain m) n actor way fits truth g =
    message-fits home most sender m (with_marks_ended n) actor.place (marks-good home most n g) (delivered-good home me most sender (Plain m) n actor way fits truth g).after
packet-fits home me most sender (SnapFor i try s) n actor way fits truth g = snap-fits home s actor.place.checked (peer-snap home (role_of home.plan sender) i try s way truth)
