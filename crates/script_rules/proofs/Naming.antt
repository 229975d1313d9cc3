-- The names that are taken: each statement adds its own, and none stands twice.
use Rattle.std.proofs.Common.{◌≡◌, ℕ, zero, suc, ◌-◌, true, false, List, [], ◌∷◌, ◌++◌, map, length, refl, sym, ap, ◌∙◌, arith}
use Rattle.std.specs.Prelude.{flat_map}
use Rattle.std.proofs.lemmas.Bool.{or_parts}
use Rattle.std.proofs.lemmas.List.{append-nil, append_assoc, map_push}
use Rattle.std.proofs.lemmas.Grind.{flat_map-append}
use Rattle.dpc_lists.specs.Lists.{changed}
use Rattle.dpc_model.specs.Words.{Word}
use Rattle.dpc_model.specs.declared.operators.OpSpec.{OpSpec}
use Rattle.dpc_model.specs.declared.plans.SourceSpec.{SourceSpec}
use Rattle.dpc_model.specs.declared.plans.FragSpec.{FragSpec}
use Rattle.dpc_model.specs.declared.plans.ClientSpec.{ClientSpec}
use Rattle.script_rules.specs.Statements.{Statement, HeaderLine, SourceLine, LogLine, FragmentLine, PatienceLine, OperatorLine, ClientLine, BeginLine, SendLine, LinkLine, NodeLine, TickLine, SettleLine}
use Rattle.script_rules.specs.Drafts.{Draft, and_then, names, op_names, source_names, frag_names, with_op, change_last}
use Rattle.script_rules.specs.Reasons.{takes_name, is_among, has_twice}
use Rattle.script_rules.proofs.Called.{named, client_names, operator_names}
use Rattle.script_rules.proofs.Passing.{Passes, all_said}
use Rattle.script_rules.proofs.Apart.{four, twice-push_1, twice-push_2, twice-push_3, twice-push_4}

-- an element that keeps this property is changed
pub map-changed : {X Y : Type 0} (g : X → Y) (f : X → X) (i : ℕ) (xs : List X) → ((x : X) → g (f x) ≡ g x) → map g (changed i f xs) ≡ map g xs
map-changed g f i [] h = refl
map-changed g f zero (x ∷ xs) h = ap (λ y. y ∷ map g xs) (h x)
map-changed g f (suc i) (x ∷ xs) h = ap (λ ys. g x ∷ ys) (map-changed g f i xs h)

pub flat_map-changed : {X Y : Type 0} (g : X → List Y) (f : X → X) (i : ℕ) (xs : List X) → ((x : X) → g (f x) ≡ g x) → flat_map g (changed i f xs) ≡ flat_map g xs
flat_map-changed g f i [] h = refl
flat_map-changed g f zero (x ∷ xs) h = ap (λ y. y ++ flat_map g xs) (h x)
flat_map-changed g f (suc i) (x ∷ xs) h = ap (λ ys. g x ++ ys) (flat_map-changed g f i xs h)

-- a further operator of the last fragment is the last one of all
last_op : (op : OpSpec) (f : FragSpec) (fs : List FragSpec) → flat_map op_names (changed (length fs) (with_op op) (f ∷ fs)) ≡ flat_map op_names (f ∷ fs) ++ op.name ∷ []
last_op op f [] = ap (λ l. l ++ []) (map_push (λ (o : OpSpec). o.name) f.ops op) ∙ append-nil (op_names f ++ op.name ∷ []) ∙ ap (λ l. l ++ op.name ∷ []) (sym (append-nil (op_names f)))
last_op op f (g ∷ fs) = ap (λ l. op_names f ++ l) (last_op op g fs) ∙ sym (append_assoc (op_names f) (flat_map op_names (g ∷ fs)) (op.name ∷ []))

pub with_last_op : (op : OpSpec) (f : FragSpec) (fs : List FragSpec) → flat_map op_names (change_last (with_op op) (f ∷ fs)) ≡ flat_map op_names (f ∷ fs) ++ op.name ∷ []
with_last_op op f fs = let less : length (f ∷ fs) - 1 ≡ length fs = omega arith in ap (λ i. flat_map op_names (changed i (with_op op) (f ∷ fs))) less ∙ last_op op f fs

-- ---- no name stands twice

pub with_fragment : (f : FragSpec) (fs : List FragSpec) → f.ops ≡ [] → flat_map op_names (fs ++ f ∷ []) ≡ flat_map op_names fs
with_fragment f fs none = flat_map-append op_names fs (f ∷ []) ∙ ap (λ ops. flat_map op_names fs ++ (map (λ (o : OpSpec). o.name) ops ++ [])) none ∙ append-nil (flat_map op_names fs)

with_operator : (op : OpSpec) (sources clients : List Word) (fs : List FragSpec) → is_among op.name (four sources (named fs) (flat_map op_names fs) clients) ≡ false → has_twice (four sources (named fs) (flat_map op_names fs) clients) ≡ false →
    has_twice (four sources (named (change_last (with_op op) fs)) (flat_map op_names (change_last (with_op op) fs)) clients) ≡ false
with_operator op sources clients [] h k = k
with_operator op sources clients (f ∷ fs) h k =
    ap (λ l. has_twice (four sources l (flat_map op_names (change_last (with_op op) (f ∷ fs))) clients)) (map-changed (λ (x : FragSpec). x.name) (with_op op) (length (f ∷ fs) - 1) (f ∷ fs) (λ x. refl))
    ∙ ap (λ l. has_twice (four sources (named (f ∷ fs)) l clients)) (with_last_op op f fs)
    ∙ twice-push_3 op.name sources (named (f ∷ fs)) (flat_map op_names (f ∷ fs)) clients h k

-- a statement that takes no name that is taken leaves all names different
pub names_apart : (d : Draft) (s : Statement) → takes_name d s ≡ false → has_twice (names d) ≡ false → has_twice (names (and_then d s)) ≡ false
names_apart d (HeaderLine place number) h k = k
names_apart d (SourceLine name columns) h k =
    ap (λ l. has_twice (four l (frag_names d) (operator_names d) (client_names d))) (map_push (λ (s : SourceSpec). s.name) d.sources _)
    ∙ twice-push_1 name (source_names d) (frag_names d) (operator_names d) (client_names d) h k
names_apart d (LogLine source time vals) h k =
    ap (λ l. has_twice (four l (frag_names d) (operator_names d) (client_names d))) (map-changed (λ (s : SourceSpec). s.name) _ _ d.sources (λ s. refl)) ∙ k
names_apart d (FragmentLine name replicas streams) h k =
    let p = or_parts (is_among name (names d)) (has_twice streams) h in
    ap (λ l. has_twice (four (source_names d) l (flat_map op_names (and_then d (FragmentLine name replicas streams)).frags) (client_names d))) (map_push (λ (f : FragSpec). f.name) d.frags _)
    ∙ ap (λ l. has_twice (four (source_names d) (frag_names d ++ name ∷ []) l (client_names d))) (with_fragment _ d.frags refl)
    ∙ twice-push_2 name (source_names d) (frag_names d) (operator_names d) (client_names d) p.0 k
names_apart d (PatienceLine delay) h k =
    ap (λ l. has_twice (four (source_names d) l (flat_map op_names (and_then d (PatienceLine delay)).frags) (client_names d))) (map-changed (λ (f : FragSpec). f.name) _ _ d.frags (λ f. refl))
    ∙ ap (λ l. has_twice (four (source_names d) (frag_names d) l (client_names d))) (flat_map-changed op_names _ _ d.frags (λ f. refl)) ∙ k
names_apart d (OperatorLine name inputs kind) h k = with_operator _ (source_names d) (client_names d) d.frags h k
names_apart d (ClientLine name stream) h k =
    ap (λ l. has_twice (four (source_names d) (frag_names d) (operator_names d) l)) (map_push (λ (c : ClientSpec). c.name) d.clients _)
    ∙ twice-push_4 name (source_names d) (frag_names d) (operator_names d) (client_names d) h k
names_apart d BeginLine h k = k
names_apart d (SendLine make source time) h k = k
names_apart d (LinkLine make a b) h k = k
names_apart d (NodeLine true node) h k = k
names_apart d (NodeLine false node) h k = k
names_apart d (TickLine now) h k = k
names_apart d SettleLine h k = k

pub all_apart : (d : Draft) (ss : List Statement) → Passes d ss → has_twice (names d) ≡ false → has_twice (names (all_said d ss)) ≡ false
all_apart d [] p k = k
all_apart d (s ∷ ss) p k = all_apart (and_then d s) ss p.1 (names_apart d s p.0.name k)
