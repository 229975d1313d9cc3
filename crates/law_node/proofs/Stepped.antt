-- What the steps that process buckets leave of a node's parts, and what they send, told by its parts alone.
use Rattle.std.proofs.Common.{◌≡◌, ℕ, ◌+◌, ◌≤◌, Bool, true, false, ◌&&◌, ◌==◌, nat_lt, List, [], ◌∷◌, length, refl, ap, ◌∙◌, arith}
use Rattle.std.proofs.lemmas.Grind.{common_steps}
use Rattle.dpc_model.specs.Fragments.{fragment_value}
use Rattle.dpc_model.specs.NodeStates.{is_stabilization}
use Rattle.dpc_model.specs.Parts.{Inputs, Stream, stream_by}
use Rattle.dpc_model.specs.Sessions.{Given, given_items, base_after, batches_of, with_batches}
use Rattle.dpc_model.specs.declared.tuples.Item.{Item}
use Rattle.dpc_model.specs.declared.tuples.Item.TheVariants.{Undo}
use Rattle.sunion.specs.Unions.{after_advancing, without_closed}
use Rattle.node_model.specs.Mails.{to_readers}
use Rattle.node_model.specs.Nodes.{Home, spec_of, PlainNode, own_readers, ready, out_stable}
use Rattle.node_model.specs.NodeSteps.{mill_step, after_stable_buckets, given_stable, given_by, past_buckets, processing_upto, after_buckets, count_upto, stably, enter_step}
use Rattle.node_model.specs.NodeParts.{inputs_of, outputs_of}
use Rattle.pipeline.specs.Flowing.{given_between, items_between, outputs_given, after_processing, stably_upto}
use Rattle.node_model.proofs.Viewed.{made_of, stable-is}
use Rattle.law_node.proofs.Buckets.{given-stably, given-processed, stably-is, processed-inputs, made-alike}

-- the output of these inputs
abbrev pub made_by : Home → Inputs → Stream
made_by home x = stream_by (fragment_value (spec_of home).ops) home.plan.width home.plan.passing x

-- whether the last corrections are made by processing so many buckets
abbrev pub ends_by : Home → ℕ → PlainNode → Bool
ends_by home r n = is_stabilization n.state && ready home (after_stable_buckets home r n) == 0

-- ---- so many ready buckets

abbrev pub mill_items : Home → ℕ → PlainNode → List Item
mill_items home r n = items_between (made_of home n) (made_by home (after_advancing r (inputs_of n))) true false (ends_by home r n)

items-stably : (home : Home) (r : ℕ) (n : PlainNode) (done : Bool) → 1 ≤ r → (made_by home (after_advancing r (inputs_of n))).tentative ≡ [] →
    given_items (length (out_stable home n)) (given_stable home n (after_stable_buckets home r n) done)
    ≡ items_between (made_of home n) (made_by home (after_advancing r (inputs_of n))) true false done
items-stably home r n done some none =
    ap (λ (g : Given). given_items (length (out_stable home n)) g) (given-stably home r n done some none)
    ∙ ap (λ (k : ℕ). given_items k (given_between (made_of home n) (made_by home (after_advancing r (inputs_of n))) true false done)) (ap length (stable-is home n))

pub mill-inputs : (home : Home) (r : ℕ) (n : PlainNode) → inputs_of (mill_step home r n).after ≡ after_advancing r (inputs_of n)
unfolding mill_step
mill-inputs home r n = refl

pub mill-sends : (home : Home) (r : ℕ) (n : PlainNode) → 1 ≤ r → (made_by home (after_advancing r (inputs_of n))).tentative ≡ [] →
    (mill_step home r n).sends ≡ to_readers (own_readers home) (batches_of (mill_items home r n) n.subs)
unfolding mill_step
mill-sends home r n some none = ap (λ (items : List Item). to_readers (own_readers home) (batches_of items n.subs)) (items-stably home r n (ends_by home r n) some none)

pub mill-outputs : (home : Home) (r : ℕ) (n : PlainNode) → 1 ≤ r → (made_by home (after_advancing r (inputs_of n))).tentative ≡ [] →
    outputs_of (mill_step home r n).after ≡ outputs_given (mill_items home r n) (made_by home (after_advancing r (inputs_of n))) (outputs_of n)
unfolding mill_step
mill-outputs home r n some none =
    let m = after_stable_buckets home r n in
    ap (λ (items : List Item). record (outputs_of m) { subs = with_batches items n.subs }) (items-stably home r n (ends_by home r n) some none)
    ∙ ap (λ (k : ℕ). record { subs = with_batches (mill_items home r n) n.subs; acks = n.acks; base = base_after n.base n.acks k })
    (ap length (stable-is home (past_buckets r n)))

-- ---- buckets up to a last one

abbrev pub upto_items : Home → ℕ → PlainNode → List Item
upto_items home last n =
    let r = stably_upto home.plan.width last (inputs_of n) in
    items_between (made_of home n) (made_by home (after_processing home.plan.width last (inputs_of n))) (nat_lt 0 r) (nat_lt r (count_upto last n)) false

some-cursor : (c r : ℕ) → nat_lt 0 r ≡ true → (c + r == 0) ≡ false
some-cursor c r some = grind (arith, common_steps, some)

items-upto : (home : Home) (last : ℕ) (n : PlainNode) → let r = stably home n (count_upto last n) in
    given_items (length (out_stable home n)) (given_by home n (after_buckets home r (count_upto last n) n) (nat_lt 0 r) (nat_lt r (count_upto last n))) ≡ upto_items home last n
items-upto home last n =
    let count = count_upto last n in
    let r = stably home n count in
    let new = after_buckets home r count n in
    ap (λ (g : Given). given_items (length (out_stable home n)) g) (given-processed home n new (nat_lt 0 r) (nat_lt r count) (some-cursor n.cursor r))
    ∙ ap (λ (k : ℕ). given_items k (given_between (made_of home n) (made_of home new) (nat_lt 0 r) (nat_lt r count) false)) (ap length (stable-is home n))
    ∙ ap (λ (t : Stream). items_between (made_of home n) t (nat_lt 0 r) (nat_lt r count) false) (made-alike home new _ (processed-inputs home last n))
    ∙ ap (λ (k : ℕ). items_between (made_of home n) (made_by home (after_processing home.plan.width last (inputs_of n))) (nat_lt 0 k) (nat_lt k count) false) (stably-is home last n)

pub upto-inputs : (home : Home) (last : ℕ) (n : PlainNode) → inputs_of (processing_upto home last n).after ≡ after_processing home.plan.width last (inputs_of n)
upto-inputs home last n = processed-inputs home last n

pub upto-sends : (home : Home) (last : ℕ) (n : PlainNode) → (processing_upto home last n).sends ≡ to_readers (own_readers home) (batches_of (upto_items home last n) n.subs)
upto-sends home last n = ap (λ (items : List Item). to_readers (own_readers home) (batches_of items n.subs)) (items-upto home last n)

pub upto-outputs : (home : Home) (last : ℕ) (n : PlainNode) →
    outputs_of (processing_upto home last n).after ≡ outputs_given (upto_items home last n) (made_by home (after_processing home.plan.width last (inputs_of n))) (outputs_of n)
upto-outputs home last n =
    let r = stably home n (count_upto last n) in
    ap (λ (items : List Item). record { subs = with_batches items n.subs; acks = n.acks; base = base_after n.base n.acks (length (out_stable home (past_buckets r n))) }) (items-upto home last n)
    ∙ ap (λ (k : ℕ). record { subs = with_batches (upto_items home last n) n.subs; acks = n.acks; base = base_after n.base n.acks k }) (ap length (stable-is home (past_buckets r n)))
    ∙ ap (λ (k : ℕ). outputs_given (upto_items home last n) (made_by home (after_advancing k (inputs_of n))) (outputs_of n)) (stably-is home last n)

-- ---- entering

abbrev pub undo_items : Home → PlainNode → List Item
undo_items home n = Undo (length (made_of home n).stable) ∷ []

pub enter-inputs : (home : Home) (n : PlainNode) → inputs_of (enter_step home n).after ≡ without_closed (inputs_of n)
unfolding enter_step
enter-inputs home n = refl

pub enter-sends : (home : Home) (n : PlainNode) → (enter_step home n).sends ≡ to_readers (own_readers home) (batches_of (undo_items home n) n.subs)
unfolding enter_step
enter-sends home n = ap (λ (k : ℕ). to_readers (own_readers home) (batches_of (Undo k ∷ []) n.subs)) (ap length (stable-is home n))

pub enter-outputs : (home : Home) (n : PlainNode) → outputs_of (enter_step home n).after ≡ record (outputs_of n) { subs = with_batches (undo_items home n) n.subs }
unfolding enter_step
enter-outputs home n = ap (λ (k : ℕ). record (outputs_of n) { subs = with_batches (Undo k ∷ []) n.subs }) (ap length (stable-is home n))
