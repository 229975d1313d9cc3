-- No fragment of a checked script reads a stream twice.
use Rattle.std.proofs.Common.{◌≡◌, true, false, List, [], ◌∷◌, map, refl, ap, subst}
use Rattle.std.specs.Prelude.{◌||◌, flat_map, bytes_eq}
use Rattle.std.proofs.lemmas.Bool.{or_parts}
use Rattle.dpc_lists.specs.Lists.{list_any, list_all}
use Rattle.dpc_model.specs.Words.{Word}
use Rattle.dpc_model.specs.Actors.{same_stream}
use Rattle.dpc_model.specs.ScriptText.{stream_name}
use Rattle.dpc_model.specs.declared.plans.FragSpec.{FragSpec}
use Rattle.dpc_model.specs.declared.plans.Plan.{Plan}
use Rattle.dpc_model.specs.declared.plans.StreamRef.{StreamRef}
use Rattle.dpc_model.proofs.Alike.{same_stream-eq}
use Rattle.script_rules.specs.Drafts.{Draft, names}
use Rattle.script_rules.specs.Reasons.{is_among, has_twice}
use Rattle.script_rules.specs.Checking.{frag_statements}
use Rattle.script_rules.specs.Facts.{reads_once}
use Rattle.script_rules.proofs.Apart.{word_is_itself}
use Rattle.script_rules.proofs.Passing.{Passes, passes_then, all_said}

pub is_not : (v w : Word) → v ≡ w → bytes_eq v w ≡ false → ⊥
is_not v w same other = let yes : bytes_eq v w ≡ true = subst (λ x. bytes_eq v x ≡ true) same (word_is_itself v) in absurd cc

-- a stream whose name is not among theirs is none of these
other_streams : (plan : Plan) (s : StreamRef) (ss : List StreamRef) → is_among (stream_name plan s) (map (stream_name plan) ss) ≡ false → list_any (same_stream s) ss ≡ false
other_streams plan s [] h = refl
other_streams plan s (x ∷ ss) h =
    let p = or_parts _ (is_among (stream_name plan s) (map (stream_name plan) ss)) h in
    (elim (same_stream s x) as (λ t. same_stream s x ≡ t → (t || list_any (same_stream s) ss) ≡ false) [
      | true ↦ λ e.
          let same : stream_name plan s ≡ stream_name plan x = ap (stream_name plan) (same_stream-eq s x e) in
          absurd (is_not _ _ same p.0)
      | false ↦ λ e. other_streams plan s ss p.1
    ]) refl

once : (plan : Plan) (ss : List StreamRef) → has_twice (map (stream_name plan) ss) ≡ false → reads_once ss ≡ true
once plan [] h = refl
once plan (s ∷ ss) h =
    let p = or_parts (is_among (stream_name plan s) (map (stream_name plan) ss)) (has_twice (map (stream_name plan) ss)) h in
    rw (other_streams plan s ss p.0, once plan ss p.1) refl

pub all_once : (plan : Plan) (d : Draft) (fs : List FragSpec) → Passes d (flat_map (frag_statements plan) fs) → list_all (λ (f : FragSpec). reads_once f.inputs) fs ≡ true
all_once plan d [] p = refl
all_once plan d (f ∷ fs) p =
    let names_differ = or_parts (is_among f.name (names d)) (has_twice (map (stream_name plan) f.inputs)) p.0.name in
    let rest = passes_then d (frag_statements plan f) (flat_map (frag_statements plan) fs) p in
    rw (once plan f.inputs names_differ.1, all_once plan (all_said d (frag_statements plan f)) fs rest) refl
