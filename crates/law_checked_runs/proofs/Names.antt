-- The clients of what is read have names, and a name is plain text.
use Rattle.std.proofs.Common.{◌≡◌, ℕ, Bool, true, false, List, [], ◌∷◌, ◌++◌, Some, refl, subst, ◌∙◌, arith}
use Rattle.std.specs.Prelude.{◌&&◌, nat_lt, length, not, slice_index_or}
use Rattle.std.proofs.lemmas.Bool.{and_parts, or_parts, not-false}
use Rattle.std.proofs.lemmas.Bool.Decides.{nat_tests}
use Rattle.std.proofs.lemmas.List.Folds.{list_all-append}
use Rattle.std.proofs.lemmas.List.Sums.{AllPass-from_list_all, list_all-from_AllPass}
use Rattle.dpc_lists.specs.Lists.{list_all, list_any, nth}
use Rattle.dpc_model.specs.Words.{Word}
use Rattle.dpc_model.specs.declared.plans.ClientSpec.{ClientSpec}
use Rattle.dpc_model.specs.declared.scripts.Script.{Script}
use Rattle.script_rules.specs.Spelling.{is_letter, may_stand_in_name, is_name}
use Rattle.script_rules.specs.declared.keywords.Keyword.TheVariants as key
use Rattle.script_rules.specs.Places.{must, is_foreign, placed}
use Rattle.script_rules.specs.declared.places.Sort.{Sort}
use Rattle.script_rules.specs.declared.places.Sort.TheVariants.{Name}
use Rattle.script_rules.specs.Drafts.{Draft}
use Rattle.script_rules.specs.Reasons.{has_foreign_word, has_wrong_length, tests_of_words}
use Rattle.script_rules.specs.Reading.{read}
use Rattle.script_rules.specs.Checking.{is_client_in_range}
use Rattle.script_rules.proofs.Passing.{none_holds}
use Rattle.client_reports.specs.Json.{HasPlainNames}
use Rattle.law_checked_runs.proofs.Lines.{IsKept, read_keeps}

-- ---- a name is plain text

abbrev is_plain : ℕ → Bool
is_plain b = nat_lt b 128

letter_is_plain : (b : ℕ) → is_letter b ≡ true → is_plain b ≡ true
letter_is_plain b h = grind (arith, nat_tests)

byte_is_plain : (b : ℕ) → may_stand_in_name b ≡ true → is_plain b ≡ true
byte_is_plain b h = grind (arith, nat_tests)

name_is_plain : (w : Word) → is_name w ≡ true → list_all is_plain w ≡ true
name_is_plain [] h = refl
name_is_plain (b ∷ bs) h =
    let p = and_parts (is_letter b && list_all may_stand_in_name bs) (nat_lt (length bs) 16) h in
    let q = and_parts (is_letter b) (list_all may_stand_in_name bs) p.0 in
    let rest : list_all is_plain bs ≡ true = list_all-from_AllPass is_plain bs (λ k d low. byte_is_plain _ (AllPass-from_list_all may_stand_in_name bs q.1 k d low)) in
    rw (letter_is_plain b q.0, rest) refl

names_are_plain : (cs : List ClientSpec) → list_all is_client_in_range cs ≡ true → list_all (λ (c : ClientSpec). list_all is_plain c.name) cs ≡ true
names_are_plain cs h = list_all-from_AllPass (λ (c : ClientSpec). list_all is_plain c.name) cs (λ k d low. name_is_plain (slice_index_or cs k d).name (AllPass-from_list_all is_client_in_range cs h k d low))

-- ---- each line keeps that clients have names

abbrev HasNames : Draft → Type 0
HasNames d = list_all is_client_in_range d.clients ≡ true

named_by : (d : Draft) (words : List Word) → has_foreign_word d key.Client words ≡ false → has_wrong_length d key.Client words ≡ false → is_name (nth [] words 0) ≡ true
named_by d [] foreign short = absurd cc
named_by d (w ∷ words) foreign short =
    not-false (is_name w) (or_parts (not (is_name w)) (list_any (λ (x : Sort × Word). is_foreign x.0 x.1) (placed (must Name ∷ []) words)) foreign).0

one_more : (cs : List ClientSpec) (c : ClientSpec) → list_all is_client_in_range cs ≡ true → is_name c.name ≡ true → list_all is_client_in_range (cs ++ c ∷ []) ≡ true
one_more cs c h named = list_all-append is_client_in_range cs (c ∷ []) ∙ (rw (h, named) refl)

names_are_kept : IsKept HasNames
names_are_kept d key.Client words none h =
    let test_2 = none_holds (tests_of_words d (Some key.Client) words) none in
    let test_3 = test_2.1 in
    one_more d.clients _ h (named_by d words test_2.0 test_3.0)
names_are_kept d _ words none h = h

pub reads_have_plain_names : (text : List ℕ) (s : Script) → read text ≡ Some s → HasPlainNames s.plan
reads_have_plain_names text s e =
    let said = read_keeps HasNames names_are_kept refl text s e in
    subst (λ (x : Script). HasPlainNames x.plan) said.1 (names_are_plain said.0.clients said.2)
