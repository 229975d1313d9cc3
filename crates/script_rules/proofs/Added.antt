-- The names that stand after all statements are those of the plan.
use Rattle.std.proofs.Common.{◌≡◌, ℕ, zero, suc, true, false, List, [], ◌∷◌, ◌++◌, refl, sym, ap, ◌∙◌}
use Rattle.std.specs.Prelude.{flat_map}
use Rattle.std.proofs.lemmas.List.{append-nil, append_assoc, map_push}
use Rattle.dpc_lists.specs.Lists.{changed, is_nil}
use Rattle.dpc_model.specs.declared.operators.OpSpec.{OpSpec}
use Rattle.dpc_model.specs.declared.plans.SourceSpec.{SourceSpec}
use Rattle.dpc_model.specs.declared.plans.FragSpec.{FragSpec}
use Rattle.dpc_model.specs.declared.plans.ClientSpec.{ClientSpec}
use Rattle.script_rules.specs.Statements.{Statement, HeaderLine, SourceLine, LogLine, FragmentLine, PatienceLine, OperatorLine, ClientLine, BeginLine, SendLine, LinkLine, NodeLine, TickLine, SettleLine}
use Rattle.script_rules.specs.Drafts.{Draft, and_then, source_names, frag_names, op_names, with_op, change_last}
use Rattle.script_rules.proofs.Called.{client_names, operator_names}
use Rattle.script_rules.proofs.Passing.{all_said}
use Rattle.script_rules.proofs.Naming.{map-changed, flat_map-changed, with_last_op, with_fragment}
use Rattle.script_rules.proofs.Picking.{pick}

sources_added : (d : Draft) (s : Statement) → source_names (and_then d s) ≡ source_names d ++ pick true false false false s
sources_added d (HeaderLine place number) = sym (append-nil (source_names d))
sources_added d (SourceLine name columns) = map_push (λ (s : SourceSpec). s.name) d.sources _
sources_added d (LogLine source time vals) = map-changed (λ (s : SourceSpec). s.name) _ _ d.sources (λ s. refl) ∙ sym (append-nil (source_names d))
sources_added d (FragmentLine name replicas streams) = sym (append-nil (source_names d))
sources_added d (PatienceLine delay) = sym (append-nil (source_names d))
sources_added d (OperatorLine name inputs kind) = sym (append-nil (source_names d))
sources_added d (ClientLine name stream) = sym (append-nil (source_names d))
sources_added d BeginLine = sym (append-nil (source_names d))
sources_added d (SendLine make source time) = sym (append-nil (source_names d))
sources_added d (LinkLine make x y) = sym (append-nil (source_names d))
sources_added d (NodeLine true node) = sym (append-nil (source_names d))
sources_added d (NodeLine false node) = sym (append-nil (source_names d))
sources_added d (TickLine now) = sym (append-nil (source_names d))
sources_added d SettleLine = sym (append-nil (source_names d))

frags_added : (d : Draft) (s : Statement) → frag_names (and_then d s) ≡ frag_names d ++ pick false true false false s
frags_added d (HeaderLine place number) = sym (append-nil (frag_names d))
frags_added d (SourceLine name columns) = sym (append-nil (frag_names d))
frags_added d (LogLine source time vals) = sym (append-nil (frag_names d))
frags_added d (FragmentLine name replicas streams) = map_push (λ (f : FragSpec). f.name) d.frags _
frags_added d (PatienceLine delay) = map-changed (λ (f : FragSpec). f.name) _ _ d.frags (λ f. refl) ∙ sym (append-nil (frag_names d))
frags_added d (OperatorLine name inputs kind) = map-changed (λ (f : FragSpec). f.name) _ _ d.frags (λ f. refl) ∙ sym (append-nil (frag_names d))
frags_added d (ClientLine name stream) = sym (append-nil (frag_names d))
frags_added d BeginLine = sym (append-nil (frag_names d))
frags_added d (SendLine make source time) = sym (append-nil (frag_names d))
frags_added d (LinkLine make x y) = sym (append-nil (frag_names d))
frags_added d (NodeLine true node) = sym (append-nil (frag_names d))
frags_added d (NodeLine false node) = sym (append-nil (frag_names d))
frags_added d (TickLine now) = sym (append-nil (frag_names d))
frags_added d SettleLine = sym (append-nil (frag_names d))

clients_added : (d : Draft) (s : Statement) → client_names (and_then d s) ≡ client_names d ++ pick false false false true s
clients_added d (HeaderLine place number) = sym (append-nil (client_names d))
clients_added d (SourceLine name columns) = sym (append-nil (client_names d))
clients_added d (LogLine source time vals) = sym (append-nil (client_names d))
clients_added d (FragmentLine name replicas streams) = sym (append-nil (client_names d))
clients_added d (PatienceLine delay) = sym (append-nil (client_names d))
clients_added d (OperatorLine name inputs kind) = sym (append-nil (client_names d))
clients_added d (ClientLine name stream) = map_push (λ (c : ClientSpec). c.name) d.clients _
clients_added d BeginLine = sym (append-nil (client_names d))
clients_added d (SendLine make source time) = sym (append-nil (client_names d))
clients_added d (LinkLine make x y) = sym (append-nil (client_names d))
clients_added d (NodeLine true node) = sym (append-nil (client_names d))
clients_added d (NodeLine false node) = sym (append-nil (client_names d))
clients_added d (TickLine now) = sym (append-nil (client_names d))
clients_added d SettleLine = sym (append-nil (client_names d))

pub all_sources_added : (d : Draft) (ss : List Statement) → source_names (all_said d ss) ≡ source_names d ++ flat_map (pick true false false false) ss
all_sources_added d [] = sym (append-nil (source_names d))
all_sources_added d (s ∷ ss) =
    all_sources_added (and_then d s) ss ∙ ap (λ l. l ++ flat_map (pick true false false false) ss) (sources_added d s)
    ∙ append_assoc (source_names d) (pick true false false false s) (flat_map (pick true false false false) ss)

pub all_frags_added : (d : Draft) (ss : List Statement) → frag_names (all_said d ss) ≡ frag_names d ++ flat_map (pick false true false false) ss
all_frags_added d [] = sym (append-nil (frag_names d))
all_frags_added d (s ∷ ss) =
    all_frags_added (and_then d s) ss ∙ ap (λ l. l ++ flat_map (pick false true false false) ss) (frags_added d s)
    ∙ append_assoc (frag_names d) (pick false true false false s) (flat_map (pick false true false false) ss)

pub all_clients_added : (d : Draft) (ss : List Statement) → client_names (all_said d ss) ≡ client_names d ++ flat_map (pick false false false true) ss
all_clients_added d [] = sym (append-nil (client_names d))
all_clients_added d (s ∷ ss) =
    all_clients_added (and_then d s) ss ∙ ap (λ l. l ++ flat_map (pick false false false true) ss) (clients_added d s)
    ∙ append_assoc (client_names d) (pick false false false true s) (flat_map (pick false false false true) ss)

-- ---- operators, which stand in the last fragment

nil-push : (f : FragSpec) (fs : List FragSpec) → is_nil (fs ++ f ∷ []) ≡ false
nil-push f [] = refl
nil-push f (g ∷ fs) = refl

nil-changed : (i : ℕ) (g : FragSpec → FragSpec) (fs : List FragSpec) → is_nil (changed i g fs) ≡ is_nil fs
nil-changed i g [] = refl
nil-changed zero g (f ∷ fs) = refl
nil-changed (suc i) g (f ∷ fs) = refl

still_frags : (d : Draft) (s : Statement) → is_nil d.frags ≡ false → is_nil (and_then d s).frags ≡ false
still_frags d (HeaderLine place number) h = h
still_frags d (SourceLine name columns) h = h
still_frags d (LogLine source time vals) h = h
still_frags d (FragmentLine name replicas streams) h = nil-push _ d.frags
still_frags d (PatienceLine delay) h = nil-changed _ _ d.frags ∙ h
still_frags d (OperatorLine name inputs kind) h = nil-changed _ _ d.frags ∙ h
still_frags d (ClientLine name stream) h = h
still_frags d BeginLine h = h
still_frags d (SendLine make source time) h = h
still_frags d (LinkLine make x y) h = h
still_frags d (NodeLine true node) h = h
still_frags d (NodeLine false node) h = h
still_frags d (TickLine now) h = h
still_frags d SettleLine h = h

one_operator : (op : OpSpec) (fs : List FragSpec) → is_nil fs ≡ false → flat_map op_names (change_last (with_op op) fs) ≡ flat_map op_names fs ++ op.name ∷ []
one_operator op [] h = absurd cc
one_operator op (f ∷ fs) h = with_last_op op f fs

operators_added : (d : Draft) (s : Statement) → is_nil d.frags ≡ false → operator_names (and_then d s) ≡ operator_names d ++ pick false false true false s
operators_added d (HeaderLine place number) h = sym (append-nil (operator_names d))
operators_added d (SourceLine name columns) h = sym (append-nil (operator_names d))
operators_added d (LogLine source time vals) h = sym (append-nil (operator_names d))
operators_added d (FragmentLine name replicas streams) h = with_fragment _ d.frags refl ∙ sym (append-nil (operator_names d))
operators_added d (PatienceLine delay) h = flat_map-changed op_names _ _ d.frags (λ f. refl) ∙ sym (append-nil (operator_names d))
operators_added d (OperatorLine name inputs kind) h = one_operator _ d.frags h
operators_added d (ClientLine name stream) h = sym (append-nil (operator_names d))
operators_added d BeginLine h = sym (append-nil (operator_names d))
operators_added d (SendLine make source time) h = sym (append-nil (operator_names d))
operators_added d (LinkLine make x y) h = sym (append-nil (operator_names d))
operators_added d (NodeLine true node) h = sym (append-nil (operator_names d))
operators_added d (NodeLine false node) h = sym (append-nil (operator_names d))
operators_added d (TickLine now) h = sym (append-nil (operator_names d))
operators_added d SettleLine h = sym (append-nil (operator_names d))

pub all_operators_added : (d : Draft) (ss : List Statement) → is_nil d.frags ≡ false → operator_names (all_said d ss) ≡ operator_names d ++ flat_map (pick false false true false) ss
all_operators_added d [] h = sym (append-nil (operator_names d))
all_operators_added d (s ∷ ss) h =
    all_operators_added (and_then d s) ss (still_frags d s h) ∙ ap (λ l. l ++ flat_map (pick false false true false) ss) (operators_added d s h)
    ∙ append_assoc (operator_names d) (pick false false true false s) (flat_map (pick false false true false) ss)
