-- What an operator's shape tells of the tests against it.
use Rattle.std.proofs.Common.{◌≡◌, ℕ, ◌+◌, ◌≤◌, Bool, true, false, List, [], ◌∷◌, refl, sym, ap, ◌∙◌}
use Rattle.std.specs.Prelude.{not, ◌&&◌, ◌||◌, nat_le, nat_lt}
use Rattle.dpc_lists.specs.Lists.{nth, list_all}
use Rattle.dpc_model.specs.Columns.{kind_columns}
use Rattle.dpc_model.specs.declared.operators.OpKind.{OpKind}
use Rattle.dpc_model.specs.declared.operators.OpKind.TheVariants as kind
use Rattle.script_rules.specs.Reasons.{fits_inputs}
use Rattle.script_draft.specs.Shapes.{HasShape}
use Rattle.script_draft.specs.declared.shape.Shape.TheVariants.{Map, Join, Aggregate}

-- a column is missing, or there are too many
abbrev pub misses : OpKind → List ℕ → Bool
misses k inputs = not (fits_inputs k inputs) || nat_lt 8 (kind_columns k inputs)

pub misses-map : (k : OpKind) (reads words columns : ℕ) (inputs : List ℕ) → HasShape k (Map reads words columns) → nth 0 inputs 0 ≤ 8 → (not (nat_le reads (nth 0 inputs 0)) || nat_lt 8 columns) ≡ misses k inputs
misses-map (kind.Filter e) reads words columns inputs h low = absurd h
misses-map (kind.Map es) reads words columns inputs h low =
    ap (λ b. not b || nat_lt 8 columns) (sym (h.0 (nth 0 inputs 0) low)) ∙ ap (λ n. not (fits_inputs (kind.Map es) inputs) || nat_lt 8 n) (sym h.2)
misses-map kind.Union reads words columns inputs h low = absurd h
misses-map (kind.Join within keys) reads words columns inputs h low = absurd h
misses-map (kind.Aggregate size step group aggs) reads words columns inputs h low = absurd h

pub misses-aggregate : (k : OpKind) (whole each reads columns : ℕ) (inputs : List ℕ) → HasShape k (Aggregate whole each reads columns) → nth 0 inputs 0 ≤ 8 →
    (not (nat_le reads (nth 0 inputs 0)) || nat_lt 8 columns) ≡ misses k inputs
misses-aggregate (kind.Filter e) whole each reads columns inputs h low = absurd h
misses-aggregate (kind.Map es) whole each reads columns inputs h low = absurd h
misses-aggregate kind.Union whole each reads columns inputs h low = absurd h
misses-aggregate (kind.Join within keys) whole each reads columns inputs h low = absurd h
misses-aggregate (kind.Aggregate size step group aggs) whole each reads columns inputs h low =
    ap (λ b. not b || nat_lt 8 columns) (sym (h.2 (nth 0 inputs 0) low)) ∙ ap (λ n. not (fits_inputs (kind.Aggregate size step group aggs) inputs) || nat_lt 8 n) (sym h.3)

all-both : {X : Type 0} (f g : X → Bool) (xs : List X) → list_all (λ x. f x && g x) xs ≡ (list_all f xs && list_all g xs)
all-both f g [] = refl
all-both f g (x ∷ xs) = ap (λ b. f x && g x && b) (all-both f g xs) ∙ swap (f x) (g x) (list_all f xs) (list_all g xs)
  where
    swap : (a b c d : Bool) → (a && b && (c && d)) ≡ (a && c && (b && d))
    swap true true c d = refl
    swap true false true d = refl
    swap true false false d = refl
    swap false b c d = refl

pub misses-join : (k : OpKind) (left right : ℕ) (inputs : List ℕ) → HasShape k (Join left right) → nth 0 inputs 0 ≤ 8 → nth 0 inputs 1 ≤ 8 →
    (not (nat_le right (nth 0 inputs 1)) || (not (nat_le left (nth 0 inputs 0)) || nat_lt 8 (nth 0 inputs 0 + nth 0 inputs 1))) ≡ misses k inputs
misses-join (kind.Filter e) left right inputs h low low_2 = absurd h
misses-join (kind.Map es) left right inputs h low low_2 = absurd h
misses-join kind.Union left right inputs h low low_2 = absurd h
misses-join (kind.Join within keys) left right inputs h low low_2 =
    let l = nth 0 inputs 0 in
    let r = nth 0 inputs 1 in
    let fits : fits_inputs (kind.Join within keys) inputs ≡ (nat_le left l && nat_le right r) =
    all-both (λ (key : ℕ × ℕ). nat_lt key.0 l) (λ (key : ℕ × ℕ). nat_lt key.1 r) keys
    ∙ ap (λ b. b && list_all (λ (key : ℕ × ℕ). nat_lt key.1 r) keys) (h.0 l low) ∙ ap (λ b. nat_le left l && b) (h.1 r low_2) in
    either (nat_le left l) (nat_le right r) (nat_lt 8 (l + r)) ∙ ap (λ b. not b || nat_lt 8 (l + r)) (sym fits)
  where
    either : (a b c : Bool) → (not b || (not a || c)) ≡ (not (a && b) || c)
    either true true c = refl
    either true false c = refl
    either false true c = refl
    either false false c = refl
misses-join (kind.Aggregate size step group aggs) left right inputs h low low_2 = absurd h
