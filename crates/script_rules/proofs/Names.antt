-- Lists of names: those that differ, and those in range, of which none is empty.
use Rattle.std.proofs.Common.{◌≡◌, Bool, true, false, List, [], ◌∷◌, ◌++◌, map, refl, sym, ap, subst, ◌∙◌}
use Rattle.std.specs.Prelude.{◌&&◌, ◌||◌, length, flat_map, bytes_eq}
use Rattle.std.proofs.lemmas.Bool.{and_parts, or_parts, false_from_ne_true}
use Rattle.std.proofs.lemmas.List.Folds.{list_all-append, list_all-map}
use Rattle.dpc_lists.specs.Lists.{list_all}
use Rattle.dpc_model.specs.Words.{Word}
use Rattle.dpc_model.specs.declared.operators.OpSpec.{OpSpec}
use Rattle.dpc_model.specs.declared.plans.SourceSpec.{SourceSpec}
use Rattle.dpc_model.specs.declared.plans.FragSpec.{FragSpec}
use Rattle.dpc_model.specs.declared.plans.ClientSpec.{ClientSpec}
use Rattle.dpc_model.specs.declared.plans.Plan.{Plan}
use Rattle.dpc_lists.proofs.Truths.{not-both}
use Rattle.script_rules.specs.Spelling.{is_name}
use Rattle.script_rules.specs.Places.{is_between}
use Rattle.script_rules.specs.Drafts.{op_names}
use Rattle.script_rules.specs.Reasons.{is_among, has_twice}
use Rattle.script_rules.specs.Checking.{is_source_in_range, is_log_in_range, is_frag_in_range, is_op_in_range, is_client_in_range, is_delay_in_range, are_inputs_in_range, is_kind_in_range}
use Rattle.script_rules.proofs.Apart.{same_word, word_is_itself, among_neither, among_no, twice-first, twice-last}
use Rattle.script_rules.proofs.Streams.{other_part}

-- ---- two lists without a word in common

pub twice-append : (a b : List Word) → has_twice a ≡ false → has_twice b ≡ false → ((w : Word) → is_among w b ≡ true → is_among w a ≡ false) → has_twice (a ++ b) ≡ false
twice-append [] b h k other = k
twice-append (x ∷ a) b h k other =
    let p = or_parts (is_among x a) (has_twice a) h in
    let itself : is_among x (x ∷ a) ≡ true = ap (λ t. t || is_among x a) (word_is_itself x) in
    let not_behind : is_among x b ≡ false = false_from_ne_true (is_among x b) (λ e. not-both (is_among x (x ∷ a)) itself (other x e)) in
    rw (among_no x a b p.0 not_behind, twice-append a b p.1 k (λ w e. (or_parts (bytes_eq w x) (is_among w a) (other w e)).1)) refl

-- the second of three lists left out
pub twice-without : (a b c : List Word) → has_twice ((a ++ b) ++ c) ≡ false → has_twice (a ++ c) ≡ false
twice-without a b c h =
    twice-append a c (twice-first a b (twice-first (a ++ b) c h)) (twice-last (a ++ b) c h) (λ w e. (among_neither w a b (other_part w (a ++ b) c h e)).0)

-- what holds of all holds of each
pub each_of : (p : Word → Bool) (ws : List Word) (w : Word) → list_all p ws ≡ true → is_among w ws ≡ true → p w ≡ true
each_of p [] w h k = absurd cc
each_of p (x ∷ ws) w h k =
    let q = and_parts (p x) (list_all p ws) h in
    (elim (bytes_eq w x) as (λ t. bytes_eq w x ≡ t → (t || is_among w ws) ≡ true → p w ≡ true) [
      | true ↦ λ e k. subst (λ v. p v ≡ true) (sym (same_word w x e)) q.0
      | false ↦ λ e k. each_of p ws w q.1 k
    ]) refl k

-- ---- names in range

-- no name is empty
pub nobody_among : (ws : List Word) → list_all is_name ws ≡ true → is_among [] ws ≡ false
nobody_among ws h = false_from_ne_true (is_among [] ws) (λ e. let name : is_name [] ≡ true = each_of is_name ws [] h e in absurd cc)

words_of-append : (a b : List Word) → list_all is_name a ≡ true → list_all is_name b ≡ true → list_all is_name (a ++ b) ≡ true
words_of-append a b h k = list_all-append is_name a b ∙ rw (h, k) refl

pub source_names_in_range : (sources : List SourceSpec) → list_all is_source_in_range sources ≡ true → list_all is_name (map (λ (s : SourceSpec). s.name) sources) ≡ true
source_names_in_range [] h = refl
source_names_in_range (s ∷ sources) h =
    let p = and_parts (is_source_in_range s) (list_all is_source_in_range sources) h in
    let q = and_parts (is_name s.name && is_between 1 8 s.columns) (list_all is_log_in_range s.log) p.0 in
    rw ((and_parts (is_name s.name) (is_between 1 8 s.columns) q.0).0, source_names_in_range sources p.1) refl

pub op_names_in_range : (plan : Plan) (ops : List OpSpec) → list_all (is_op_in_range plan) ops ≡ true → list_all is_name (map (λ (op : OpSpec). op.name) ops) ≡ true
op_names_in_range plan [] h = refl
op_names_in_range plan (op ∷ ops) h =
    let p = and_parts (is_op_in_range plan op) (list_all (is_op_in_range plan) ops) h in
    let q = and_parts (is_name op.name && are_inputs_in_range op.kind (length op.reads)) (is_kind_in_range plan op.kind) p.0 in
    rw ((and_parts (is_name op.name) (are_inputs_in_range op.kind (length op.reads)) q.0).0, op_names_in_range plan ops p.1) refl

pub frag_names_in_range : (plan : Plan) (fs : List FragSpec) → list_all (is_frag_in_range plan) fs ≡ true → (list_all is_name (map (λ (f : FragSpec). f.name) fs) ≡ true) × (list_all is_name (flat_map op_names fs) ≡ true)
frag_names_in_range plan [] h = (refl, refl)
frag_names_in_range plan (f ∷ fs) h =
    let p = and_parts (is_frag_in_range plan f) (list_all (is_frag_in_range plan) fs) h in
    let replicas = is_between 1 4 f.replicas in
    let delay = is_delay_in_range plan f.delay in
    let ports = is_between 1 8 (length f.inputs) in
    let a = and_parts (is_name f.name && replicas && delay && ports) (list_all (is_op_in_range plan) f.ops) p.0 in
    let b = and_parts (is_name f.name && replicas && delay) ports a.0 in
    let c = and_parts (is_name f.name && replicas) delay b.0 in
    let rest = frag_names_in_range plan fs p.1 in
    (rw ((and_parts (is_name f.name) replicas c.0).0, rest.0) refl, words_of-append (op_names f) (flat_map op_names fs) (op_names_in_range plan f.ops a.1) rest.1)

pub client_names_in_range : (cs : List ClientSpec) → list_all is_client_in_range cs ≡ true → list_all is_name (map (λ (c : ClientSpec). c.name) cs) ≡ true
client_names_in_range cs h = list_all-map is_name (λ (c : ClientSpec). c.name) cs ∙ h
