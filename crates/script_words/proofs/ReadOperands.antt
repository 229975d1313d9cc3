-- Values, aggregates and keys, read word by word.
use Rattle.std.proofs.Common.{◌≡◌, ℕ, true, List, [], ◌∷◌, ◌++◌, map, Option, Some, None, sym, ap, ◌∙◌, append_assoc}
use Rattle.std.specs.Prelude.{ℤ, pos, ◌&&◌}
use Rattle.std.specs.Option.{unwrap_or, option_map, option_to_list}
use Rattle.std.proofs.lemmas.Bool.{and_parts}
use Rattle.dpc_model.specs.Words.{Word}
use Rattle.dpc_model.specs.declared.operators.Agg.{Agg}
use Rattle.script_rules.specs.Spelling.{is_value, value, is_i64, column_of}
use Rattle.script_rules.specs.Keywords.{looked_up}
use Rattle.script_rules.specs.Symbols.{aggregates, aggs_of}
use Rattle.script_rules.specs.Statements.{word}
use Rattle.script_words.specs.Options.{given}
use Rattle.script_words.specs.Numbers.{i64_of}
use Rattle.script_words.specs.Operands.{are_i64}

-- what is read behind a front
abbrev pub ahead : {X : Type 0} → List X → Option (List X) → Option (List X)
ahead front None = None
ahead front (Some xs) = Some (front ++ xs)

-- one more value
pub value_more : (front : List ℤ) (w : Word) (left behind : List Word) (all : List ℤ) (z : ℤ) → left ≡ w ∷ behind → z ≡ unwrap_or (i64_of w) (pos 0) → (are_i64 left ≡ true) × (front ++ map value left ≡ all) → (are_i64 behind ≡ true) × ((front ++ z ∷ []) ++ map value behind ≡ all)
value_more front w left behind all z at is (fit, so_far) =
    let p = and_parts (is_value w && is_i64 (value w)) (are_i64 behind) (sym (ap are_i64 at) ∙ fit) in
    let same : z ≡ value w = is ∙ ap (λ t. unwrap_or (given t (value w)) (pos 0)) p.0 in
    (p.1, append_assoc front (z ∷ []) (map value behind) ∙ ap (λ y. front ++ y ∷ map value behind) same ∙ ap (λ ws. front ++ map value ws) (sym at) ∙ so_far)

-- one more aggregate
pub agg_more : (front : List Agg) (w : Word) (left behind : List Word) (column : ℕ) (o : Option Agg) (agg : Agg) (all : List Agg) → left ≡ w ∷ behind → column ≡ unwrap_or (column_of (word behind 0)) 0 → o ≡ option_map (λ (make : ℕ → Agg). make column) (looked_up aggregates w) → o ≡ Some agg → front ++ aggs_of left ≡ all → (front ++ agg ∷ []) ++ aggs_of behind ≡ all
agg_more front w left behind column o agg all at column_is found is so_far =
    let made : option_map (λ (make : ℕ → Agg). make (unwrap_or (column_of (word behind 0)) 0)) (looked_up aggregates w) ≡ Some agg = ap (λ n. option_map (λ (make : ℕ → Agg). make n) (looked_up aggregates w)) (sym column_is) ∙ sym found ∙ is in
    append_assoc front (agg ∷ []) (aggs_of behind) ∙ ap (λ x. front ++ (option_to_list x ++ aggs_of behind)) (sym made) ∙ ap (λ ws. front ++ aggs_of ws) (sym at) ∙ so_far
