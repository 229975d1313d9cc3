-- A replica that has all of its inputs and is not UP_FAILURE processes every bucket within the phase.
use Rattle.std.proofs.Common.{◌≡◌, ℕ, suc, ◌+◌, ◌-◌, ◌*◌, ◌/◌, ◌<◌, ◌≤◌, Bool, true, false, cond, not, ◌&&◌, ◌||◌, ◌==◌, nat_lt, nat_le, min, List, [], ◌∷◌, map, length, refl, sym, ap, ◌∙◌, arith}
use Rattle.std.proofs.lemmas.List.{length-map}
use Rattle.std.proofs.Math.Nat.{div-mul-le_self, div-lt_iff_lt-mul}
use Rattle.dpc_lists.specs.Lists.{least, list_all, is_nil}
use Rattle.dpc_model.specs.Fragments.{ideal, ideal_upto}
use Rattle.dpc_model.specs.Reading.{Reader}
use Rattle.dpc_model.specs.NodeStates.{is_up_failure, is_stabilization}
use Rattle.dpc_model.specs.Ports.{Port, held_at}
use Rattle.dpc_model.specs.declared.messages.NodeState.{NodeState}
use Rattle.dpc_model.specs.declared.messages.NodeState.TheVariants.{Stable, UpFailure, Stabilization}
use Rattle.dpc_model.specs.declared.plans.Plan.{Plan}
use Rattle.dpc_model.specs.declared.plans.StreamRef.{StreamRef}
use Rattle.dpc_model.specs.declared.plans.StreamRef.TheVariants.{Frag}
use Rattle.node_model.specs.Nodes.{Home, PlainNode, streams_of, buckets_of, node_frontier, complete_upto, complete_buckets, ready}
use Rattle.world_model.specs.Safe.{EachHolds}
use Rattle.world_model.specs.Orderly.{are_ports_sound, is_port_sound, has_state_of_closed, closed_in_place}
use Rattle.law_safety.specs.Plans.{IsPlace}
use Rattle.dpc_lists.proofs.Truths.{both, both-of, eq-of, eq-test, le-of, le-test, lt-of, not-lt}
use Rattle.dpc_lists.proofs.Elements.{no-elements}
use Rattle.law_safety.proofs.Frames.{IsGood}
use Rattle.law_granting.specs.Asking.{AsksInOrder, reconciles}
use Rattle.law_settling.specs.Finished.{has_whole_inputs, IsFinished}

-- ---- buckets of a node whose inputs are whole

div-grows : (a b w : ℕ) → 0 < w → a ≤ b → a / w ≤ b / w
div-grows a b w some low =
    (elim (nat_lt (b / w) (a / w)) as (λ c. nat_lt (b / w) (a / w) ≡ c → a / w ≤ b / w) [
      | true ↦ λ e.
          let more = (div-lt_iff_lt-mul some).0 (lt-of (b / w) (a / w) e) in
          let part = div-mul-le_self a w in
          absurd (omega (arith, more, part, low))
      | false ↦ λ e. not-lt (b / w) (a / w) e
    ]) refl

least-same : (v : ℕ) (ns : List ℕ) → 0 < length ns → list_all (λ n. n == v) ns ≡ true → least 0 ns ≡ v
least-same v [] some h = absurd (omega (arith, some))
least-same v (n ∷ []) some h = eq-of n v (both (n == v) true h).0
least-same v (n ∷ m ∷ ns) some h =
    let p = both (n == v) (list_all (λ z. z == v) (m ∷ ns)) h in
    let one = eq-of n v p.0 in
    let rest = least-same v (m ∷ ns) (omega arith) p.1 in
    let out : min n (least 0 (m ∷ ns)) ≡ v = omega (arith, one, rest) in out

least-low : (v : ℕ) (ns : List ℕ) → list_all (λ n. nat_le n v) ns ≡ true → least 0 ns ≤ v
least-low v [] h = omega arith
least-low v (n ∷ []) h = le-of n v (both (nat_le n v) true h).0
least-low v (n ∷ m ∷ ns) h =
    let p = both (nat_le n v) (list_all (λ z. nat_le z v) (m ∷ ns)) h in
    let one = le-of n v p.0 in
    let out : min n (least 0 (m ∷ ns)) ≤ v = omega (arith, one) in out

pub many-ports : (plan : Plan) (i most : ℕ) (ss : List StreamRef) (ps : List Port) → are_ports_sound plan i most ss ps ≡ true → length ps ≡ length ss
many-ports plan i most [] [] h = refl
many-ports plan i most [] (p ∷ ps) h = cc
many-ports plan i most (s ∷ ss) [] h = cc
many-ports plan i most (s ∷ ss) (p ∷ ps) h = ap suc (many-ports plan i most ss ps (both (is_port_sound plan s i most p) (are_ports_sound plan i most ss ps) h).1)

whole-upto : (end width : ℕ) (ps : List Port) → list_all (λ (p : Port). p.inlet.held.bound == end) ps ≡ true → list_all (λ n. n == end / width) (map (λ (r : Reader). r.bound / width) (map held_at ps)) ≡ true
whole-upto end width [] h = refl
whole-upto end width (p ∷ ps) h =
    let q = both (p.inlet.held.bound == end) (list_all (λ (z : Port). z.inlet.held.bound == end) ps) h in
    both-of (p.inlet.held.bound / width == end / width) _ (eq-test _ _ (ap (λ (b : ℕ). b / width) (eq-of p.inlet.held.bound end q.0))) (whole-upto end width ps q.1)

low-upto : (plan : Plan) → 0 < plan.width → (ss : List StreamRef) (ps : List Port) → EachHolds plan ss (map held_at ps) → list_all (λ n. nat_le n (plan.end / plan.width)) (map (λ (r : Reader). r.bound / plan.width) (map held_at ps)) ≡ true
low-upto plan wide [] [] h = refl
low-upto plan wide [] (p ∷ ps) h = absurd h
low-upto plan wide (s ∷ ss) [] h = absurd h
low-upto plan wide (s ∷ ss) (p ∷ ps) h = both-of _ _ (le-test _ _ (div-grows p.inlet.held.bound plan.end plan.width wide h.0.within)) (low-upto plan wide ss ps h.1)

-- who is neither recovering nor UP_FAILURE has nothing closed
pub closed-none : (n : PlainNode) → n.recovering ≡ false → is_up_failure n.state ≡ false → has_state_of_closed n ≡ true → is_nil n.closed ≡ true
closed-none n calm fine h = by-nil (is_nil n.closed) refl
  where
    by-nil : (b : Bool) → is_nil n.closed ≡ b → is_nil n.closed ≡ true
    by-nil true e = e
    by-nil false e =
        let left : (n.recovering || cond (is_nil n.closed) (not (is_up_failure n.state)) (is_up_failure n.state)) ≡ false =
        ap (λ (b : Bool). b || cond (is_nil n.closed) (not (is_up_failure n.state)) (is_up_failure n.state)) calm ∙ ap (λ (b : Bool). cond b (not (is_up_failure n.state)) (is_up_failure n.state)) e ∙ fine in
        let clash : true ≡ false = sym h ∙ left in cc

-- every bucket is complete
pub upto-all : (home : Home) (most : ℕ) (n : PlainNode) → IsPlace home → IsGood home most n → has_whole_inputs home.plan n ≡ true → complete_upto home n ≡ buckets_of home.plan
upto-all home most n place good whole =
    let many = many-ports home.plan n.grants.inc most (streams_of home) n.ports good.orderly.ports in
    let reads = place.reads in
    let some : 0 < length (map (λ (r : Reader). r.bound / home.plan.width) (map held_at n.ports)) = let one = length-map (map held_at n.ports) (λ (r : Reader). r.bound / home.plan.width) in let two = length-map n.ports held_at in omega (arith, one, two, many, reads) in
    least-same (home.plan.end / home.plan.width) (map (λ (r : Reader). r.bound / home.plan.width) (map held_at n.ports)) some (whole-upto home.plan.end home.plan.width n.ports whole)

-- what was processed or closed is no more than there is
pub view-low : (home : Home) (n : PlainNode) → closed_in_place home n ≡ true → node_frontier n ≤ buckets_of home.plan
view-low home n h = let p = both _ (nat_le (node_frontier n) (buckets_of home.plan)) h in le-of (node_frontier n) (buckets_of home.plan) p.1

-- the buckets that may be milled are all that are left
pub ready-all : (home : Home) (most : ℕ) (n : PlainNode) → IsPlace home → IsGood home most n → n.recovering ≡ false → has_whole_inputs home.plan n ≡ true → is_up_failure n.state ≡ false → n.cursor + ready home n ≡ buckets_of home.plan
unfolding ready
ready-all home most n place good calm whole fine =
    let none = closed-none n calm fine good.orderly.state in
    let upto = upto-all home most n place good whole in
    let low = view-low home n good.orderly.closed in
    let is : cond n.recovering 0 (complete_buckets home n) ≡ complete_upto home n - n.cursor = ap (λ (b : Bool). cond {A = ℕ} b 0 (complete_buckets home n)) calm ∙ ap (λ (b : Bool). cond {A = ℕ} b (complete_upto home n - n.cursor) 0) none in
    let out : n.cursor + cond n.recovering 0 (complete_buckets home n) ≡ buckets_of home.plan = omega (arith, is, upto, low) in out

-- ---- a node past its last bucket

pub ideal-end : (plan : Plan) (s : StreamRef) → ideal plan s ≡ ideal_upto plan s plan.end
unfolding ideal
ideal-end plan s = refl

pub finished-of : (home : Home) (most : ℕ) (n : PlainNode) → IsPlace home → IsGood home most n → AsksInOrder home n → n.recovering ≡ false → buckets_of home.plan ≤ n.cursor → IsFinished home n
unfolding ready
finished-of home most n place good asks calm past =
    let p = both _ (nat_le (node_frontier n) (buckets_of home.plan)) good.orderly.closed in
    let low = le-of (node_frontier n) (buckets_of home.plan) p.1 in
    let same : n.cursor ≡ buckets_of home.plan = omega (arith, low, past) in
    let empty = no-elements n.closed (omega (arith, low, past)) in
    let upto = least-low (home.plan.end / home.plan.width) (map (λ (r : Reader). r.bound / home.plan.width) (map held_at n.ports)) (low-upto home.plan place.checked.width (streams_of home) n.ports good.safe.inputs) in
    let width_end : n.cursor * home.plan.width ≡ home.plan.end = ap (λ (c : ℕ). c * home.plan.width) same ∙ place.checked.whole in
    record {
      cursor = same;
      closed = empty;
      state = by-state n.state refl empty upto same;
      recovering = calm;
      output = (good.safe.output calm).output ∙ ap (λ (b : ℕ). ideal_upto home.plan (Frag home.frag) b) width_end ∙ sym (ideal-end home.plan (Frag home.frag));
    }
  where
    none-ready : complete_upto home n ≤ buckets_of home.plan → n.cursor ≡ buckets_of home.plan → n.closed ≡ [] → cond {A = ℕ} n.recovering 0 (complete_buckets home n) ≡ 0
    none-ready upto same empty =
        let is : cond {A = ℕ} n.recovering 0 (complete_buckets home n) ≡ complete_upto home n - n.cursor =
        ap (λ (b : Bool). cond {A = ℕ} b 0 (complete_buckets home n)) calm ∙ ap {B = ℕ} (λ xs. cond {A = ℕ} (is_nil xs) (complete_upto home n - n.cursor) 0) empty in
        omega (arith, is, upto, same)

    by-state : (s : NodeState) → n.state ≡ s → n.closed ≡ [] → complete_upto home n ≤ buckets_of home.plan → n.cursor ≡ buckets_of home.plan → n.state ≡ Stable
    by-state Stable e empty upto same = e
    by-state UpFailure e empty upto same =
        let state : (n.recovering || cond (is_nil n.closed) (not (is_up_failure n.state)) (is_up_failure n.state)) ≡ false =
        ap (λ (b : Bool). b || cond (is_nil n.closed) (not (is_up_failure n.state)) (is_up_failure n.state)) calm ∙ ap {B = Bool} (λ xs. cond (is_nil xs) (not (is_up_failure n.state)) (is_up_failure n.state)) empty ∙ ap (λ (z : NodeState). not (is_up_failure z)) e in
        let clash : true ≡ false = sym good.orderly.state ∙ state in cc
    by-state Stabilization e empty upto same =
        let on : reconciles n ≡ true = ap (λ (z : NodeState). is_stabilization z && not n.recovering) e ∙ ap not calm in
        let some = asks.has_bucket on in
        let none = none-ready upto same empty in
        absurd (omega (arith, some, none))
