-- Milling ready buckets keeps a node safe, and sends true items.
use Rattle.std.proofs.Common.{◌≡◌, ℕ, ◌+◌, ◌*◌, ◌/◌, ◌<◌, ◌≤◌, false, List, [], ◌∷◌, map, length, drop, sym, ◌∙◌, arith, slice_get, Some}
use Rattle.std.proofs.Math.Nat.{le-div_iff_mul-le}
use Rattle.dpc_lists.specs.Lists.{least}
use Rattle.dpc_model.specs.Streams.{is_below}
use Rattle.dpc_model.specs.Fragments.{ideal, ideal_upto, IsSound}
use Rattle.dpc_model.specs.Reading.{Reader}
use Rattle.dpc_model.specs.declared.tuples.Tuple.{Tuple}
use Rattle.dpc_model.specs.declared.plans.Plan.{Plan}
use Rattle.dpc_model.specs.declared.plans.StreamRef.{StreamRef}
use Rattle.dpc_model.specs.declared.plans.StreamRef.TheVariants.{Frag}
use Rattle.dpc_model.proofs.IdealCausality.{cut-ideal, cut-ideal_upto}
use Rattle.dpc_model.proofs.Prefixes.{cut-beginning, get-prefix, length-filter_le}
use Rattle.dpc_model.specs.Sessions.{stable_items}
use Rattle.node_model.specs.Nodes.{Home, PlainNode, held_by, out_stable, complete_upto}
use Rattle.node_model.specs.NodeSteps.{past_buckets, after_stable_buckets}
use Rattle.world_model.specs.Safe.{AreTrueItems, EachHolds, EachReaches, IsSafeNode}
use Rattle.law_safety.proofs.Outputs.{ideal-InOrder, out_stable-ideal}
use Rattle.dpc_lists.proofs.Elements.{get-drop}
use Rattle.law_safety.proofs.Truth.{stable_items-true}

-- ---- items of the failure-free output

-- what lies below a time is numbered as the whole stream is
pub upto-get : (plan : Plan) (s : StreamRef) (b i : ℕ) (t : Tuple) → IsSound plan → b ≤ plan.end → slice_get (ideal_upto plan s b) i ≡ Some t → slice_get (ideal plan s) i ≡ Some t
upto-get plan s b i t sound h e =
    get-prefix (ideal_upto plan s b) (ideal plan s) i t (rw (← cut-ideal plan s b sound.ops h) (cut-beginning b (ideal plan s) (ideal-InOrder plan s sound))) e

-- stable items cut out of it are true
pub upto-items-true : (plan : Plan) (s : StreamRef) (b k : ℕ) (out : List Tuple) → IsSound plan → b ≤ plan.end → out ≡ ideal_upto plan s b →
    AreTrueItems plan s (stable_items k (drop k out))
upto-items-true plan s b k out sound h same =
    stable_items-true plan s k (drop k out) (λ i t e. upto-get plan s b (k + i) t sound h (rw (← same) (sym (get-drop k i out) ∙ e)))

-- fewer tuples lie below an earlier time
pub upto_le : (plan : Plan) (s : StreamRef) (b b' : ℕ) → IsSound plan → b ≤ b' → length (ideal_upto plan s b) ≤ length (ideal_upto plan s b')
upto_le plan s b b' sound h = rw (← cut-ideal_upto plan s b b' sound.ops h) (length-filter_le (is_below b) (ideal_upto plan s b'))

-- ---- the cursor

-- the least number is at most each of them
pub reaches_least : (width c : ℕ) (rs : List Reader) → 0 < width → c ≤ least 0 (map (λ (r : Reader). r.bound / width) rs) → EachReaches (c * width) rs
reaches_least width c [] pos h = tt
reaches_least width c (r ∷ []) pos h = ((le-div_iff_mul-le {k = width} {x = c} {y = r.bound} pos).0 h, tt)
reaches_least width c (r ∷ q ∷ rs) pos h =
    let bounds = map (λ (x : Reader). x.bound / width) rs in
    let first : c ≤ r.bound / width = omega (arith, h) in
    let rest : c ≤ least 0 (q.bound / width ∷ bounds) = omega (arith, h) in
    ((le-div_iff_mul-le {k = width} {x = c} {y = r.bound} pos).0 first, reaches_least width c (q ∷ rs) pos rest)

-- a time that the ports reach is at most end
pub reaches-end : (plan : Plan) (b : ℕ) (ss : List StreamRef) (rs : List Reader) → 0 < length rs → EachHolds plan ss rs → EachReaches b rs → b ≤ plan.end
reaches-end plan b ss [] h k r = absurd (omega (arith, h))
reaches-end plan b [] (q ∷ rs) h k r = absurd k
reaches-end plan b (s ∷ ss) (q ∷ rs) h k r = omega (arith, k.0.within, r.0)

-- ---- nodes with the same inputs and cursor

pub IsSafeNode-same : (home : Home) (n m : PlainNode) → m.ports ≡ n.ports → m.cursor ≡ n.cursor → m.base ≡ n.base → m.recovering ≡ n.recovering → IsSafeNode home n → IsSafeNode home m
unfolding out_stable
IsSafeNode-same home n m ports cursor base recovering safe =
    record {
      inputs = rw ports safe.inputs;
      output = λ e.
          let o = safe.output (sym recovering ∙ e) in
          record {
            reaches = rw (ports, cursor) o.reaches;
            base = rw (ports, cursor, base) o.base;
            output = rw (ports, cursor) o.output;
          };
    }

-- ---- milling

-- the node after r more buckets
pub advanced-safe : (home : Home) (r : ℕ) (n : PlainNode) → IsSound home.plan → home.frag < length home.plan.frags → 0 < home.plan.width →
    IsSafeNode home n → n.recovering ≡ false → n.cursor + r ≤ complete_upto home n → IsSafeNode home (after_stable_buckets home r n)
unfolding out_stable
advanced-safe home r n sound there pos safe up h =
    let width = home.plan.width in
    let reaches : EachReaches ((n.cursor + r) * width) (held_by n) = reaches_least width (n.cursor + r) (held_by n) pos h in
    let out = out_stable-ideal home (past_buckets r n) sound there safe.inputs reaches in
    let old = safe.output up in
    let more : length (out_stable home n) ≤ length (out_stable home (past_buckets r n)) = rw (old.output, out) (upto_le home.plan (Frag home.frag) (n.cursor * width) ((n.cursor + r) * width) sound (omega arith)) in
    record {
      inputs = safe.inputs;
      output = λ e. record {
        reaches = reaches;
        base = let few = old.base in let count = length (out_stable home (past_buckets r n)) in omega (arith, few, more);
        output = out;
      };
    }
