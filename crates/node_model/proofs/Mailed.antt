-- What a step of a node sends and leaves.
use Rattle.std.proofs.Common.{◌≡◌, ℕ, true, false, cond, ◌==◌, List, refl, Option, Some, None}
use Rattle.dpc_lists.specs.Lists.{nth}
use Rattle.dpc_model.specs.Inlets.{AfterBatch, take_batch}
use Rattle.dpc_model.specs.Ports.{no_port}
use Rattle.dpc_model.specs.declared.tuples.Item.{Item}
use Rattle.dpc_model.specs.declared.messages.Sess.{Sess}
use Rattle.dpc_model.specs.declared.messages.Beat.{Beat}
use Rattle.dpc_model.specs.declared.messages.Subscribe.{Subscribe}
use Rattle.dpc_model.specs.declared.messages.Message.TheVariants as message
use Rattle.dpc_model.specs.declared.batches.Taken.{Taken}
use Rattle.dpc_model.specs.declared.batches.Taken.TheVariants.{Used, Old, Broken}
use Rattle.node_model.specs.Mails.{Plain}
use Rattle.node_model.specs.Nodes.{Home, PlainNode}
use Rattle.node_model.specs.NodeSteps.{with_port, with_stamps_of, after_taking, on_batch, on_upstream_beat, on_peer_beat, on_ack, mill_step}
use Rattle.node_model.specs.Clients.{ClientState, with_taken}

pub batch-is : {u v : Sess} {i j : ℕ} {xs ys : List Item} → Plain (message.Batch u i xs) ≡ Plain (message.Batch v j ys) → (u ≡ v) × (i ≡ j) × (xs ≡ ys)
batch-is e = (cc, cc, cc)

pub subscribe-is : (u v : Subscribe) → Plain (message.Subscribe u) ≡ Plain (message.Subscribe v) → u ≡ v
subscribe-is u v e = cc

pub kept-port : (t : Taken) (z : ClientState) → (with_taken t z).port ≡ z.port
kept-port (Used items) z = refl
kept-port Old z = refl
kept-port Broken z = refl

-- ---- what leaves the sessions of a node

took-subs : (home : Home) (p : ℕ) (t : AfterBatch) (n : PlainNode) → (after_taking home p t n).subs ≡ n.subs
took-subs home p t n = by-answer t.answer
  where
    by-answer : (x : Taken) → (with_stamps_of home x (with_port p (λ q. record q { inlet = t.after }) n)).subs ≡ n.subs
    by-answer (Used items) = refl
    by-answer Old = refl
    by-answer Broken = refl

pub batch-subs : (home : Home) (u : Sess) (index : ℕ) (items : List Item) (o : Option (ℕ × ℕ)) (n : PlainNode) → (on_batch home u index items o n).subs ≡ n.subs
batch-subs home u index items None n = refl
batch-subs home u index items (Some pr) n = elim ((nth no_port n.ports pr.0).chosen == pr.1) as (λ b. (cond b (after_taking home pr.0 (take_batch (nth no_port n.ports pr.0).inlet u index items) n) n).subs ≡ n.subs) [
  | true ↦ took-subs home pr.0 (take_batch (nth no_port n.ports pr.0).inlet u index items) n
  | false ↦ refl
]

pub beat-subs : (b : Beat) (o : Option ℕ) (r : Option (ℕ × ℕ)) (n : PlainNode) → (on_peer_beat b o (on_upstream_beat b r n)).subs ≡ n.subs
beat-subs b None None n = refl
beat-subs b None (Some pr) n = refl
beat-subs b (Some q) None n = refl
beat-subs b (Some q) (Some pr) n = refl

pub ack-subs : (home : Home) (i count : ℕ) (o : Option ℕ) (n : PlainNode) → (on_ack home i count o n).subs ≡ n.subs
ack-subs home i count None n = refl
ack-subs home i count (Some j) n = refl

pub mill-ports : (home : Home) (r : ℕ) (n : PlainNode) → (mill_step home r n).after.ports ≡ n.ports
unfolding mill_step
mill-ports home r n = refl
