-- What is printed of a name, a number or a value stands at its place.
use Rattle.std.proofs.Common.{◌≡◌, ℕ, suc, zero, ◌^◌, ◌<◌, ◌≤◌, true, false, List, [], ◌∷◌, map, length, Option, Some, None, refl, ap, subst, ◌∙◌, arith}
use Rattle.std.specs.Prelude.{ℤ, not, ◌&&◌, ◌||◌, ◌==◌, ◌%◌, is_some, codes}
use Rattle.std.specs.Fmt.{decimal, signed_decimal}
use Rattle.std.proofs.Math.ListN.{replicate}
use Rattle.std.proofs.lemmas.Bool.{and_parts}
use Rattle.dpc_lists.specs.Lists.{list_all, list_any}
use Rattle.dpc_model.specs.Words.{Word}
use Rattle.dpc_model.specs.ScriptText.{column_word, group_word}
use Rattle.script_rules.specs.declared.places.Sort.{Sort}
use Rattle.script_rules.specs.declared.places.Sort.TheVariants.{Name, Actor, Natural, Range, Multiple, Value, Count, Group, Column, LeftKey}
use Rattle.script_rules.specs.declared.places.Place.{Place}
use Rattle.script_rules.specs.Spelling.{is_i64, is_name, is_node_name}
use Rattle.script_rules.specs.Places.{may, is_between}
use Rattle.script_rules.proofs.Numerals.{is_numeral-decimal, number-decimal, signed_is_value, column_of-word}
use Rattle.law_scripts.proofs.Lines.{is_plain}
use Rattle.law_scripts.proofs.Plain.{plain_name, plain_decimal, plain_signed, plain_column}
use Rattle.law_scripts.proofs.Fits.{Stands, Fits}

pub name_stands : (w : Word) → is_name w ≡ true → Stands Name w
name_stands w h = record { plain = plain_name w h; sorted = ap not h; number = refl; range = refl }

pub actor_stands : (w : Word) → is_plain w ≡ true → (is_name w || is_node_name w) ≡ true → Stands Actor w
actor_stands w p h = record { plain = p; sorted = ap not h; number = refl; range = refl }

pub natural_stands : (n : ℕ) → n < 2 ^ 64 → Stands Natural (decimal n)
natural_stands n h = record { plain = plain_decimal n h; sorted = refl; number = ap not (is_numeral-decimal n h); range = refl }

pub key_stands : (n : ℕ) → n < 2 ^ 64 → Stands LeftKey (decimal n)
key_stands n h = record { plain = plain_decimal n h; sorted = refl; number = ap not (is_numeral-decimal n h); range = refl }

pub number_stands : (low high n : ℕ) → n < 2 ^ 64 → is_between low high n ≡ true → Stands (Range low high) (decimal n)
number_stands low high n h k =
    record {
      plain = plain_decimal n h;
      sorted = refl;
      number = ap not (is_numeral-decimal n h);
      range = ap (λ m. not (is_between low high m)) (number-decimal n h) ∙ ap not k;
    }

pub multiple_stands : (low high of n : ℕ) → n < 2 ^ 64 → is_between low high n ≡ true → (n % of == 0) ≡ true → Stands (Multiple low high of) (decimal n)
multiple_stands low high of n h k m =
    let both : (is_between low high n && n % of == 0) ≡ true = rw (k, m) refl in
    record {
      plain = plain_decimal n h;
      sorted = refl;
      number = ap not (is_numeral-decimal n h);
      range = ap (λ v. not (is_between low high v && v % of == 0)) (number-decimal n h) ∙ ap not both;
    }

pub count_stands : (n : ℕ) → n < 2 ^ 64 → is_between 1 8 n ≡ true → Stands Count (decimal n)
count_stands n h k =
    record {
      plain = plain_decimal n h;
      sorted = refl;
      number = ap not (is_numeral-decimal n h);
      range = ap (λ m. not (is_between 1 8 m)) (number-decimal n h) ∙ ap not k;
    }

pub value_stands : (z : ℤ) → is_i64 z ≡ true → Stands Value (signed_decimal z)
value_stands z h =
    let v = signed_is_value z h in
    record { plain = plain_signed z h; sorted = refl; number = ap not v.0; range = ap (λ y. not (is_i64 y)) v.1 ∙ ap not h }

pub column_stands : (c : ℕ) → c < 8 → Stands Column (column_word c)
column_stands c h =
    record { plain = plain_column c (omega arith); sorted = ap (λ o. not (is_some o)) (column_of-word c h); number = refl; range = refl }

pub group_stands : (o : Option ℕ) → (c : ℕ) → o ≡ Some c → c < 8 → Stands Group (group_word o)
group_stands None c e h = absurd cc
group_stands (Some d) c e h =
    let same : c ≡ d = cc in
    let low : d < 8 = subst (λ n. n < 8) same h in
    record { plain = plain_column d (omega arith); sorted = ap (λ o. not (is_some o)) (column_of-word d low); number = refl; range = refl }

pub no_group_stands : Stands Group (codes "-")
no_group_stands = record { plain = refl; sorted = refl; number = refl; range = refl }

-- ---- as many as there may be

pub none_needed : (sort : Sort) (n : ℕ) → list_any (λ (p : Place). p.needed) (replicate n (may sort)) ≡ false
none_needed sort zero = refl
none_needed sort (suc n) = none_needed sort n

pub names_fit : (ws : List Word) (n : ℕ) → length ws ≤ n → list_all is_name ws ≡ true → Fits (replicate n (may Name)) ws
names_fit [] n few h = none_needed Name n
names_fit (w ∷ ws) zero few h = absurd (omega (arith, few))
names_fit (w ∷ ws) (suc n) few h =
    let p = and_parts (is_name w) (list_all is_name ws) h in
    (name_stands w p.0, names_fit ws n (omega (arith, few)) p.1)

pub values_fit : (vals : List ℤ) (n : ℕ) → length vals ≤ n → list_all is_i64 vals ≡ true → Fits (replicate n (may Value)) (map signed_decimal vals)
values_fit [] n few h = none_needed Value n
values_fit (z ∷ vals) zero few h = absurd (omega (arith, few))
values_fit (z ∷ vals) (suc n) few h =
    let p = and_parts (is_i64 z) (list_all is_i64 vals) h in
    (value_stands z p.0, values_fit vals n (omega (arith, few)) p.1)
