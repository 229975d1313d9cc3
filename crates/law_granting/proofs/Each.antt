-- A fact of each mail of a step.
use Rattle.std.proofs.Common.{ℕ, ◌+◌, true, false, cond, nat_lt, List, [], ◌∷◌, ◌++◌, map, Option, Some, None}
use Rattle.std.specs.Prelude.{zip}
use Rattle.dpc_lists.specs.Lists.{nth, insert_by}
use Rattle.dpc_model.specs.Inlets.{with_next_session, asked_by}
use Rattle.dpc_model.specs.Actors.{senders_of}
use Rattle.dpc_model.specs.Ports.{Port, choice_at, must_reopen, subscriptions}
use Rattle.dpc_model.specs.Sessions.{tally_of, batches_from, batches_of}
use Rattle.dpc_model.specs.declared.sessions.Sub.{Sub}
use Rattle.dpc_model.specs.declared.tuples.Item.{Item}
use Rattle.dpc_model.specs.declared.messages.Sess.{Sess}
use Rattle.dpc_model.specs.declared.messages.Message.{Message}
use Rattle.dpc_model.specs.declared.messages.Message.TheVariants as message
use Rattle.dpc_model.specs.declared.plans.Plan.{Plan}
use Rattle.dpc_model.specs.declared.plans.StreamRef.{StreamRef}
use Rattle.node_model.specs.Mails.{Mail, mail, mails, in_actor_order, to_each, to_readers}
use Rattle.node_model.specs.Nodes.{Home, PlainNode, own_readers}
use Rattle.node_model.specs.NodeSteps.{peers_of, done_at, acks_from, beat_of, beats}
use Rattle.dpc_lists.proofs.Each.{Each, each-append}

module _ (P : Mail → Type 0) where
  each-insert : (m : Mail) (ms : List Mail) → P m → Each P ms → Each P (insert_by (λ (x : Mail). x.to) m ms)
  each-insert m [] h k = (h, tt)
  each-insert m (n ∷ ms) h k =
      elim (nat_lt n.to m.to) as (λ b. Each P (cond b (n ∷ insert_by (λ (x : Mail). x.to) m ms) (m ∷ n ∷ ms))) [
        | true ↦ (k.0, each-insert m ms h k.1)
        | false ↦ (h, k)
      ]

  pub each-sorted : (ms : List Mail) → Each P ms → Each P (in_actor_order ms)
  each-sorted [] h = tt
  each-sorted (m ∷ ms) h = each-insert m (in_actor_order ms) h.0 (each-sorted ms h.1)

  pub each-to : (m : Message) (ids : List ℕ) → ((to : ℕ) → P (mail to m)) → Each P (to_each m ids)
  each-to m [] h = tt
  each-to m (a ∷ ids) h = (h a, each-to m ids h)

  each-from : (readers : List ℕ) (k : ℕ) (items : List Item) (subs : List Sub) → ((to : ℕ) (u : Sess) (index : ℕ) → P (mail to (message.Batch u index items))) → Each P (to_readers readers (batches_from k items subs))
  each-from readers k items [] h = tt
  each-from readers k items (sub ∷ subs) h =
      elim (tally_of sub) as (λ o. Each P (to_readers readers (elim o [ None ↦ batches_from (k + 1) items subs | Some l ↦ (k, message.Batch l.0 l.1 items) ∷ batches_from (k + 1) items subs ]))) [
        | None ↦ each-from readers (k + 1) items subs h
        | Some l ↦ (h (nth 0 readers k) l.0 l.1, each-from readers (k + 1) items subs h)
      ]

  pub each-batches : (readers : List ℕ) (items : List Item) (subs : List Sub) → ((to : ℕ) (u : Sess) (index : ℕ) → P (mail to (message.Batch u index items))) → Each P (to_readers readers (batches_of items subs))
  each-batches readers [] subs h = tt
  each-batches readers (i ∷ items) subs h = each-from readers 0 (i ∷ items) subs h

  pub each-subscription : (plan : Plan) (ports : List Port) (ss : List StreamRef) → ((to : ℕ) (asked : _) → P (mail to (message.Subscribe asked))) → Each P (mails (subscriptions plan ports ss))
  each-subscription plan [] ss h = tt
  each-subscription plan (p ∷ ports) [] h = tt
  each-subscription plan (p ∷ ports) (s ∷ ss) h =
      elim (must_reopen p) as (λ b. Each P (mails (cond b (record { to = nth 0 (senders_of plan s) (choice_at p); message = message.Subscribe (asked_by (with_next_session p.inlet)) } ∷ []) [] ++ subscriptions plan ports ss))) [
        | true ↦ (h (nth 0 (senders_of plan s) (choice_at p)) (asked_by (with_next_session p.inlet)), each-subscription plan ports ss h)
        | false ↦ each-subscription plan ports ss h
      ]

  each-acks-to : (i n : ℕ) (ids : List ℕ) (rest : List Mail) → ((to : ℕ) → P (mail to (message.Ack i n))) → Each P rest → Each P (mails (map (λ a. record { to = a; message = message.Ack i n }) ids) ++ rest)
  each-acks-to i n [] rest h k = k
  each-acks-to i n (a ∷ ids) rest h k = (h a, each-acks-to i n ids rest h k)

  pub each-acks : (home : Home) (n : PlainNode) (ports : List Port) (ss : List StreamRef) → ((to count : ℕ) → P (mail to (message.Ack n.grants.inc count))) → Each P (acks_from home n ports ss)
  each-acks home n [] ss h = tt
  each-acks home n (p ∷ ports) [] h = tt
  each-acks home n (p ∷ ports) (s ∷ ss) h = each-acks-to n.grants.inc (done_at home n p) (senders_of home.plan s) (acks_from home n ports ss) (λ to. h to (done_at home n p)) (each-acks home n ports ss h)

  pub each-zipped : (f : Sub → Message) (ids : List ℕ) (subs : List Sub) → ((to : ℕ) (sub : Sub) → P (mail to (f sub))) → Each P (map (λ (x : ℕ × Sub). mail x.0 (f x.1)) (zip ids subs))
  each-zipped f [] [] h = tt
  each-zipped f [] (sub ∷ subs) h = tt
  each-zipped f (a ∷ ids) [] h = tt
  each-zipped f (a ∷ ids) (sub ∷ subs) h = (h a sub, each-zipped f ids subs h)

  pub each-beats : (home : Home) (n : PlainNode) → ((to : ℕ) (l : Option (Sess × ℕ)) → P (mail to (beat_of n l))) → Each P (beats home n)
  each-beats home n h =
      each-append P (to_each (beat_of n None) (peers_of home)) (map (λ (x : ℕ × Sub). mail x.0 (beat_of n (tally_of x.1))) (zip (own_readers home) n.subs))
      (each-to (beat_of n None) (peers_of home) (λ to. h to None)) (each-zipped (λ sub. beat_of n (tally_of sub)) (own_readers home) n.subs (λ to sub. h to (tally_of sub)))
