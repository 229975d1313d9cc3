-- A checked script refers to names.
use Rattle.std.proofs.Common.{◌≡◌, ℕ, ◌+◌, ◌≤◌, Bool, true, false, List, [], ◌∷◌, map, length, refl, ap, subst, ◌∙◌, arith}
use Rattle.std.specs.Prelude.{not, ◌&&◌, nat_lt, nat_le, flat_map}
use Rattle.std.proofs.lemmas.Bool.{and_parts, ltb-true, ltb-false, lt-ltb}
use Rattle.std.proofs.lemmas.List.{length-append, length-map}
use Rattle.dpc_lists.specs.Lists.{list_all, is_nil, push}
use Rattle.dpc_model.specs.Actors.{roles_of, role_of, inputs_of}
use Rattle.dpc_model.specs.Columns.{kind_columns, wire_columns, stream_columns}
use Rattle.dpc_model.specs.declared.actors.Role.{Role}
use Rattle.dpc_model.specs.declared.actors.Role.TheVariants.{Nobody}
use Rattle.dpc_model.specs.declared.operators.Wire.{Wire}
use Rattle.dpc_model.specs.declared.operators.Wire.TheVariants.{Port, Op}
use Rattle.dpc_model.specs.declared.operators.OpSpec.{OpSpec}
use Rattle.dpc_model.specs.declared.plans.FragSpec.{FragSpec}
use Rattle.dpc_model.specs.declared.plans.ClientSpec.{ClientSpec}
use Rattle.dpc_model.specs.declared.plans.Plan.{Plan}
use Rattle.dpc_model.specs.declared.scripts.Directive.{Directive}
use Rattle.dpc_model.specs.declared.scripts.Directive.TheVariants.{Emit, Release, Cut, Heal, Lose, Repeat, Crash, Restart}
use Rattle.dpc_model.specs.declared.scripts.Phase.{Phase}
use Rattle.dpc_model.specs.declared.scripts.Script.{Script}
use Rattle.dpc_lists.proofs.Elements.{nth-past}
use Rattle.dpc_model.proofs.Roles.{nothing_sent, no_peer, are_joined}
use Rattle.script_rules.specs.Reasons.{fits_inputs, is_too_large, is_node}
use Rattle.script_rules.specs.Checking.{IsChecked}
use Rattle.script_rules.specs.Facts.{is_there, is_earlier, ops_fit, frag_fits, directive_fits}
use Rattle.script_rules.specs.Laws.{is_actor, is_named_wire, has_named_wires, has_named_actors, refers_to_names}
use Rattle.script_rules.proofs.SaysItself.{checked_has_facts}
use Rattle.law_scripts.proofs.Fragments.{refers}

-- ---- wires

wire_named : (f : FragSpec) (ports outputs : ℕ) (w : Wire) → ports ≡ length f.inputs → outputs ≤ length f.ops → is_earlier ports outputs w ≡ true → is_named_wire f w ≡ true
wire_named f ports outputs (Port p) many few h = subst (λ n. nat_lt p n ≡ true) many h
wire_named f ports outputs (Op j) many few h = let low = ltb-true j outputs h in lt-ltb j (length f.ops) (omega (arith, low, few))

wires_named : (f : FragSpec) (ports outputs : ℕ) (ws : List Wire) → ports ≡ length f.inputs → outputs ≤ length f.ops → list_all (is_earlier ports outputs) ws ≡ true → list_all (is_named_wire f) ws ≡ true
wires_named f ports outputs [] many few h = refl
wires_named f ports outputs (w ∷ ws) many few h =
    let p = and_parts (is_earlier ports outputs w) (list_all (is_earlier ports outputs) ws) h in
    rw (wire_named f ports outputs w many few p.0, wires_named f ports outputs ws many few p.1) refl

pub ops_named : (f : FragSpec) (ports outputs : List ℕ) (ops : List OpSpec) → length ports ≡ length f.inputs → length outputs + length ops ≤ length f.ops → ops_fit ports outputs ops ≡ true → list_all (λ (op : OpSpec). list_all (is_named_wire f) op.reads) ops ≡ true
ops_named f ports outputs [] many few h = refl
ops_named f ports outputs (op ∷ ops) many few h =
    let columns = map (wire_columns ports outputs) op.reads in
    let earlier = list_all (is_earlier (length ports) (length outputs)) op.reads in
    let fits = fits_inputs op.kind columns in
    let narrow = nat_le (kind_columns op.kind columns) 8 in
    let small = not (is_too_large op.kind) in
    let rest = ops_fit ports (push outputs (kind_columns op.kind columns)) ops in
    let a = and_parts (earlier && fits && narrow && small) rest h in
    let b = and_parts (earlier && fits && narrow) small a.0 in
    let c = and_parts (earlier && fits) narrow b.0 in
    let d = and_parts earlier fits c.0 in
    let more : length (push outputs (kind_columns op.kind columns)) ≡ length outputs + 1 = length-append outputs (kind_columns op.kind columns ∷ []) in
    rw (wires_named f (length ports) (length outputs) op.reads many (omega (arith, few)) d.0, ops_named f ports (push outputs (kind_columns op.kind columns)) ops many (omega (arith, few, more)) a.1) refl

frags_refer : (plan : Plan) (fs : List FragSpec) → list_all (frag_fits plan) fs ≡ true → list_all (refers plan) fs ≡ true
frags_refer plan [] h = refl
frags_refer plan (f ∷ fs) h =
    let p = and_parts (frag_fits plan f) (list_all (frag_fits plan) fs) h in
    let ports = map (stream_columns plan) f.inputs in
    let a = and_parts (not (is_nil f.ops) && list_all (is_there plan) f.inputs) (ops_fit ports [] f.ops) p.0 in
    let b = and_parts (not (is_nil f.ops)) (list_all (is_there plan) f.inputs) a.0 in
    let many : length ports ≡ length f.inputs = length-map f.inputs (stream_columns plan) in
    rw (b.1, ops_named f ports [] f.ops many (omega arith) a.1, frags_refer plan fs p.1) refl

-- ---- actors

-- whoever passes a test that nobody passes is there
actor_there : (test : Role → Bool) (plan : Plan) (a : ℕ) → test Nobody ≡ false → test (role_of plan a) ≡ true → is_actor plan a ≡ true
actor_there test plan a none h =
    (elim (nat_lt a (length (roles_of plan))) as (λ t. nat_lt a (length (roles_of plan)) ≡ t → t ≡ true) [
      | true ↦ λ e. refl
      | false ↦ λ e.
          let nobody : role_of plan a ≡ Nobody = nth-past Nobody (roles_of plan) a (ltb-false a (length (roles_of plan)) e) in
          let fails : test (role_of plan a) ≡ false = ap test nobody ∙ none in
          absurd cc
    ]) refl

nobody_first : (plan : Plan) (y : Role) → are_joined plan Nobody y ≡ false
nobody_first plan y = rw (nothing_sent (inputs_of plan y)) refl

nobody_second : (plan : Plan) (x : Role) → are_joined plan x Nobody ≡ false
nobody_second plan x = rw (nothing_sent (inputs_of plan x), no_peer x) refl

linked_there : (plan : Plan) (a b : ℕ) → are_joined plan (role_of plan a) (role_of plan b) ≡ true → (is_actor plan a && is_actor plan b) ≡ true
linked_there plan a b h =
    let first : is_actor plan a ≡ true = actor_there (λ x. are_joined plan x (role_of plan b)) plan a (nobody_first plan (role_of plan b)) h in
    let second : is_actor plan b ≡ true = actor_there (are_joined plan (role_of plan a)) plan b (nobody_second plan (role_of plan a)) h in
    rw (first, second) refl

directive_refers : (plan : Plan) (x : Directive) → directive_fits plan x ≡ true → has_named_actors plan x ≡ true
directive_refers plan (Emit s t) h = h
directive_refers plan (Release s t) h = h
directive_refers plan (Cut a b) h = linked_there plan a b h
directive_refers plan (Heal a b) h = linked_there plan a b h
directive_refers plan (Lose a b) h = linked_there plan a b h
directive_refers plan (Repeat a b) h = linked_there plan a b h
directive_refers plan (Crash a) h = actor_there is_node plan a refl h
directive_refers plan (Restart a) h = actor_there is_node plan a refl h

directives_refer : (plan : Plan) (xs : List Directive) → list_all (directive_fits plan) xs ≡ true → list_all (has_named_actors plan) xs ≡ true
directives_refer plan [] h = refl
directives_refer plan (x ∷ xs) h =
    let p = and_parts (directive_fits plan x) (list_all (directive_fits plan) xs) h in
    rw (directive_refers plan x p.0, directives_refer plan xs p.1) refl

pub checked_refers : (s : Script) → IsChecked s → refers_to_names s ≡ true
checked_refers s c =
    let facts = checked_has_facts s c in
    let frags : list_all (λ (f : FragSpec). list_all (is_there s.plan) f.inputs && has_named_wires f) s.plan.frags ≡ true = frags_refer s.plan s.plan.frags facts.frags in
    let clients : list_all (λ (k : ClientSpec). is_there s.plan k.input) s.plan.clients ≡ true = facts.form.clients in
    let directives : list_all (has_named_actors s.plan) (flat_map (λ (p : Phase). p.directives) s.phases) ≡ true = directives_refer s.plan (flat_map (λ (p : Phase). p.directives) s.phases) facts.directives in
    rw (frags, clients, directives) refl
