-- The JSON value of the clients: its names are text, and it has no float.
use Rattle.std.proofs.Common.{◌≡◌, ℕ, zero, suc, ◌<◌, ℤ, pos, negsuc, true, false, List, [], ◌∷◌, length, map, refl, arith}
use Rattle.std.specs.Prelude.{nat_lt, slice_index_or}
use Rattle.std.specs.Str.{IsUtf8, IsAscii}
use Rattle.std.proofs.lemmas.Bool.{and_parts, ltb-true}
use Rattle.std.proofs.lemmas.List.Sums.{AllPass-from_list_all}
use Rattle.std.proofs.lemmas.Str.{IsUtf8-from_ascii}
use Rattle.dpc_lists.specs.Lists.{list_all}
use Rattle.dpc_model.specs.declared.tuples.Item.{Item}
use Rattle.dpc_model.specs.declared.tuples.Item.TheVariants.{Stable, Tentative, Passed, Boundary, Undo, RecDone}
use Rattle.dpc_model.specs.declared.plans.ClientSpec.{ClientSpec}
use Rattle.serde_json.specs.Data.{Data, number}
use Rattle.serde_json.specs.Find.{is_float, of_integer}
use Rattle.serde_json.specs.View.{items_of}
use Rattle.serde_json.specs.Written.{has_float, items_have_float}
use Rattle.client_fold.specs.Folding.{ClientValue}
use Rattle.client_reports.specs.Json.{values_data, item_data, clients_data}
use Rattle.client_reports.specs.Telling.{data_by}

-- ---- names

-- bytes below 128 are text
plain-text : (bytes : List ℕ) → list_all (λ b. nat_lt b 128) bytes ≡ true → IsUtf8 bytes
plain-text bytes h = IsUtf8-from_ascii bytes (ascii bytes h)
  where
    ascii : (bs : List ℕ) → list_all (λ b. nat_lt b 128) bs ≡ true → IsAscii bs
    ascii [] h i = omega arith
    ascii (b ∷ bs) h zero = ltb-true b 128 (and_parts (nat_lt b 128) (list_all (λ b. nat_lt b 128) bs) h).0
    ascii (b ∷ bs) h (suc i) = ascii bs (and_parts (nat_lt b 128) (list_all (λ b. nat_lt b 128) bs) h).1 i

pub name-is-text : (specs : List ClientSpec) (i : ℕ) (d : ClientSpec) → i < length specs → list_all (λ (c : ClientSpec). list_all (λ b. nat_lt b 128) c.name) specs ≡ true → IsUtf8 (slice_index_or specs i d).name
name-is-text specs i d below h = plain-text (slice_index_or specs i d).name (AllPass-from_list_all (λ (c : ClientSpec). list_all (λ b. nat_lt b 128) c.name) specs h i d below)

-- ---- no floats

no-float : (z : ℤ) → is_float (of_integer z) ≡ false
no-float (pos n) = refl
no-float (negsuc n) = refl

no-floats : {X : Type 0} (f : X → Data) → ((x : X) → has_float (f x) ≡ false) → (xs : List X) → items_have_float (items_of (map f xs)) ≡ false
no-floats f each [] = refl
no-floats f each (x ∷ xs) = rw (each x, no-floats f each xs) refl

in-values : (vals : List ℤ) → has_float (values_data vals) ≡ false
in-values vals = no-floats (λ v. number (of_integer v)) no-float vals

in-item : (item : Item) → has_float (item_data item) ≡ false
in-item (Stable k t) = rw (in-values t.vals) refl
in-item (Tentative t) = rw (in-values t.vals) refl
in-item (Passed b) = refl
in-item (Boundary b m) = refl
in-item (Undo n) = refl
in-item RecDone = refl

in-client : (c : List ℕ × ClientValue) → has_float (data_by c) ≡ false
in-client c = rw (no-floats item_data in-item c.1.taken) refl

pub in-clients : (cs : List (List ℕ × ClientValue)) → has_float (clients_data (map data_by cs)) ≡ false
in-clients cs = rw (no-floats data_by in-client cs) refl
