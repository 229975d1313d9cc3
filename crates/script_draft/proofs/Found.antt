-- What names of streams and of inputs stand for, where none is unknown.
use Rattle.std.proofs.Common.{◌≡◌, ℕ, true, false, List, [], ◌∷◌, map, length, Option, Some, None, refl, ap, ◌∙◌, arith}
use Rattle.std.specs.Prelude.{is_none, option_map, unwrap_or}
use Rattle.std.proofs.lemmas.Bool.{or_parts, lt-ltb}
use Rattle.std.proofs.lemmas.List.{length-map}
use Rattle.dpc_lists.specs.Lists.{nth, list_any, list_all}
use Rattle.dpc_model.specs.Words.{Word}
use Rattle.dpc_model.specs.Columns.{kind_columns, wire_columns}
use Rattle.dpc_model.specs.declared.operators.OpKind.{OpKind}
use Rattle.dpc_model.specs.declared.operators.OpKind.TheVariants.{Filter, Map, Union, Join, Aggregate}
use Rattle.dpc_model.specs.declared.operators.Wire.{Wire}
use Rattle.dpc_model.specs.declared.operators.Wire.TheVariants.{Port}
use Rattle.dpc_model.specs.declared.plans.SourceSpec.{SourceSpec}
use Rattle.dpc_model.specs.declared.plans.FragSpec.{FragSpec}
use Rattle.dpc_model.specs.declared.plans.StreamRef.TheVariants.{Source, Frag}
use Rattle.script_rules.specs.Drafts.{Draft, stream_named, source_named, frag_names, place_of_name, or_else}
use Rattle.script_draft.specs.Columns.{source_columns, is_among_streams}
use Rattle.script_draft.proofs.Names.{named-within}

one-among : (d : Draft) (w : Word) (o p : Option ℕ) → source_named d w ≡ o → place_of_name w (frag_names d) ≡ p → is_none (or_else (option_map Source o) (option_map Frag p)) ≡ false →
    is_among_streams (length (source_columns d.sources)) (length d.frags) (unwrap_or (or_else (option_map Source o) (option_map Frag p)) (Source 0)) ≡ true
one-among d w (Some s) p is behind known =
    let low = named-within (λ (x : SourceSpec). x.name) w d.sources s is in
    let many = length-map d.sources (λ (x : SourceSpec). x.columns) in lt-ltb s (length (source_columns d.sources)) (omega (arith, low, many))
one-among d w None (Some f) is behind known = lt-ltb f (length d.frags) (named-within (λ (x : FragSpec). x.name) w d.frags f behind)
one-among d w None None is behind known = absurd cc

-- streams that are named are there
pub streams-among : (d : Draft) (ws : List Word) → list_any (λ w. is_none (stream_named d w)) ws ≡ false →
    list_all (is_among_streams (length (source_columns d.sources)) (length d.frags)) (map (λ w. unwrap_or (stream_named d w) (Source 0)) ws) ≡ true
streams-among d [] h = refl
streams-among d (w ∷ ws) h =
    let p = or_parts (is_none (stream_named d w)) (list_any (λ v. is_none (stream_named d v)) ws) h in
    let here : is_among_streams (length (source_columns d.sources)) (length d.frags) (unwrap_or (stream_named d w) (Source 0)) ≡ true = one-among d w (source_named d w) (place_of_name w (frag_names d)) refl refl p.0 in
    rw (here, streams-among d ws p.1) refl

-- the columns of what is read are those of the inputs
pub reads-same : (ports outs : List ℕ) (f : Word → Option Wire) (ws : List Word) → list_any (λ w. is_none (f w)) ws ≡ false →
    map (wire_columns ports outs) (map (λ w. unwrap_or (f w) (Port 0)) ws) ≡ map (λ w. unwrap_or (option_map (wire_columns ports outs) (f w)) 0) ws
reads-same ports outs f [] h = refl
reads-same ports outs f (w ∷ ws) h =
    let p = or_parts (is_none (f w)) (list_any (λ v. is_none (f v)) ws) h in
    ap (λ n. n ∷ map (wire_columns ports outs) (map (λ v. unwrap_or (f v) (Port 0)) ws)) (one (f w) p.0)
    ∙ ap (λ l. unwrap_or (option_map (wire_columns ports outs) (f w)) 0 ∷ l) (reads-same ports outs f ws p.1)
  where
    one : (o : Option Wire) → is_none o ≡ false → wire_columns ports outs (unwrap_or o (Port 0)) ≡ unwrap_or (option_map (wire_columns ports outs) o) 0
    one (Some x) h = refl
    one None h = absurd cc

-- a result's columns are told by the first two inputs
pub kind-two : (k : OpKind) (inputs : List ℕ) → kind_columns k inputs ≡ kind_columns k (nth 0 inputs 0 ∷ nth 0 inputs 1 ∷ [])
kind-two (Filter e) inputs = refl
kind-two (Map es) inputs = refl
kind-two Union inputs = refl
kind-two (Join within keys) inputs = refl
kind-two (Aggregate size step group aggs) inputs = refl
