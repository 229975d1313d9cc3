-- What holds of each outcome of a step holds of the step.
use Rattle.std.proofs.Common.{◌≡◌, ℕ, true, false, cond, not, ◌&&◌, nat_lt, List, [], ◌∷◌, refl, Some, None}
use Rattle.std.specs.Prelude.{is_none}
use Rattle.dpc_lists.specs.Lists.{list_all}
use Rattle.dpc_model.specs.Replicas.{is_absent}
use Rattle.dpc_model.specs.NodeStates.{is_stabilization}
use Rattle.dpc_model.specs.Granting.{with_ask, own_key}
use Rattle.dpc_model.specs.Sessions.{Shown, Answered, answer_to, first_batch, is_newer_than_kept}
use Rattle.dpc_model.specs.declared.sessions.Sub.{Sub}
use Rattle.dpc_model.specs.declared.messages.Subscribe.{Subscribe}
use Rattle.dpc_model.specs.declared.messages.Message.TheVariants as message
use Rattle.node_model.specs.Mails.{Mail, mail, to_each, Stepped}
use Rattle.node_model.specs.Nodes.{Home, PlainNode, wants_to_reconcile, due_at}
use Rattle.node_model.specs.NodeSteps.{idle_step, peers_of, peer_watches, ask_step, enter_step, processing_upto, processing_step}

-- a node enters, asks its peers, or does neither
pub by-asking : (home : Home) (n : PlainNode) (P : Stepped PlainNode → Type 0) → P (enter_step home n) →
    P (record { after = record n { grants = with_ask n.grants }; sends = to_each (message.Ask (own_key n.grants).0 (own_key n.grants).1) (peers_of home) }) →
    P (idle_step n) → P (ask_step home n)
by-asking home n P enters asks leaves =
    elim (wants_to_reconcile home n && is_none n.grants.promise) as (λ b. P (cond b (cond (list_all is_absent (peer_watches home n)) (enter_step home n) asked) (idle_step n))) [
      | true ↦ elim (list_all is_absent (peer_watches home n)) as (λ b. P (cond b (enter_step home n) asked)) [ true ↦ enters | false ↦ asks ]
      | false ↦ leaves
    ]
  where
    asked : Stepped PlainNode
    asked = record { after = record n { grants = with_ask n.grants }; sends = to_each (message.Ask (own_key n.grants).0 (own_key n.grants).1) (peers_of home) }

-- it processes up to some bucket, or none
pub by-processing : (home : Home) (n : PlainNode) (P : Stepped PlainNode → Type 0) → P (idle_step n) →
    ((last : ℕ) → is_stabilization n.state ≡ false → due_at home n n.clock ≡ Some last → P (processing_upto home last n)) → P (processing_step home n)
by-processing home n P leaves processes =
    (elim (is_stabilization n.state) as (λ b. is_stabilization n.state ≡ b → P (cond b (idle_step n) (elim (due_at home n n.clock) as (λ _. Stepped PlainNode) [ None ↦ idle_step n | Some last ↦ processing_upto home last n ]))) [
      | true ↦ λ e. leaves
      | false ↦ λ e. (elim (due_at home n n.clock) as (λ o. due_at home n n.clock ≡ o → P (elim o as (λ _. Stepped PlainNode) [ None ↦ idle_step n | Some last ↦ processing_upto home last n ])) [
        | None ↦ λ due. leaves
        | Some last ↦ λ due. processes last e due
      ]) refl
    ]) refl

-- a subscription is answered by nothing, by Truncated or by a first batch
pub by-answer : (x : Shown) (sub : Sub) (asked : Subscribe) (to : ℕ) (P : List Mail → Type 0) → P [] → P (mail to (message.Truncated asked.sess x.base) ∷ []) →
    P (mail to (message.Batch asked.sess 0 (first_batch x asked)) ∷ []) → P (elim (answer_to x sub asked).answer as (λ _. List Mail) [ None ↦ [] | Some m ↦ mail to m ∷ [] ])
by-answer x sub asked to P none gone first =
    elim (is_newer_than_kept asked.sess sub.kept) as (λ b. P (elim (cond {A = Answered} (not b) (record { after = sub; answer = None }) (cond (nat_lt asked.n x.base) truncated batched)).answer as (λ _. List Mail) [ None ↦ [] | Some m ↦ mail to m ∷ [] ])) [
      | true ↦ elim (nat_lt asked.n x.base) as (λ b. P (elim (cond {A = Answered} b truncated batched).answer as (λ _. List Mail) [ None ↦ [] | Some m ↦ mail to m ∷ [] ])) [ true ↦ gone | false ↦ first ]
      | false ↦ none
    ]
  where
    truncated : Answered
    truncated = record { after = record { kept = Some asked.sess; is_open = false; batches = 0 }; answer = Some (message.Truncated asked.sess x.base) }

    batched : Answered
    batched = record { after = record { kept = Some asked.sess; is_open = true; batches = 1 }; answer = Some (message.Batch asked.sess 0 (first_batch x asked)) }
