-- A checked script has at most 16 fragments, each of which reads a stream once.
use Rattle.std.proofs.Common.{◌≡◌, ℕ, zero, suc, ◌+◌, ◌-◌, ◌<◌, ◌≤◌, Bool, true, false, not, List, [], ◌∷◌, ◌++◌, map, length, refl, sym, ap, subst, ◌∙◌, arith, Some, slice_get}
use Rattle.std.specs.Prelude.{nat_lt, unwrap_or}
use Rattle.dpc_model.specs.declared.operators.Wire.TheVariants.{Port}
use Rattle.std.proofs.lemmas.Bool.{and_parts, ltb-true}
use Rattle.std.proofs.lemmas.List.{length-append}
use Rattle.dpc_lists.specs.Lists.{nth, list_any, list_all}
use Rattle.dpc_model.specs.Actors.{inputs_of, same_stream}
use Rattle.dpc_model.specs.declared.actors.Role.{Role}
use Rattle.dpc_model.specs.declared.actors.Role.TheVariants.{Source as IsSource, Node as IsNode, Client as IsClient, Nobody}
use Rattle.dpc_model.specs.declared.plans.FragSpec.{FragSpec}
use Rattle.dpc_model.specs.declared.plans.ClientSpec.{ClientSpec}
use Rattle.dpc_model.specs.declared.plans.Plan.{Plan}
use Rattle.dpc_model.specs.declared.plans.StreamRef.{StreamRef}
use Rattle.dpc_model.specs.declared.scripts.Script.{Script}
use Rattle.dpc_lists.proofs.Elements.{length-changed}
use Rattle.script_rules.specs.Statements.{Statement, HeaderLine, SourceLine, LogLine, FragmentLine, PatienceLine, OperatorLine, ClientLine, BeginLine, SendLine, LinkLine, NodeLine, TickLine, SettleLine}
use Rattle.script_rules.specs.Drafts.{Draft, nothing_yet, and_then, with_delay, with_op, wire_named}
use Rattle.script_rules.specs.Checking.{IsChecked, statements_of}
use Rattle.script_rules.specs.Facts.{reads_once}
use Rattle.script_rules.proofs.Passing.{IsFine, Passes, all_said, checked_passes}
use Rattle.script_rules.proofs.SaysItself.{says_itself}
use Rattle.dpc_lists.proofs.Truths.{or-right}
use Rattle.dpc_model.proofs.Alike.{same_stream-self}

-- ---- few fragments

abbrev HasFew : Draft → Type 0
HasFew d = length d.frags ≤ 16

room_left : (n : ℕ) (b : Bool) → nat_lt n 16 ≡ b → not b ≡ false → n < 16
room_left n true e h = ltb-true n 16 e
room_left n false e h = absurd cc

step : (d : Draft) (s : Statement) → IsFine d s → HasFew d → HasFew (and_then d s)
step d (HeaderLine place number) fine h = h
step d (SourceLine name columns) fine h = h
step d (LogLine source time vals) fine h = h
step d (FragmentLine name replicas streams) fine h =
    let room : length d.frags < 16 = room_left (length d.frags) (nat_lt (length d.frags) 16) refl fine.limit in
    pushed d.frags _ room
  where
    pushed : (fs : List FragSpec) (f : FragSpec) → length fs < 16 → length (fs ++ f ∷ []) ≤ 16
    pushed fs f room = let more : length (fs ++ f ∷ []) ≡ length fs + 1 = length-append fs (f ∷ []) in omega (arith, more, room)
step d (PatienceLine delay) fine h = subst (λ (n : ℕ). n ≤ 16) (sym (length-changed (length d.frags - 1) (with_delay delay) d.frags)) h
step d (OperatorLine name inputs kind) fine h =
    subst (λ (n : ℕ). n ≤ 16) (sym (length-changed (length d.frags - 1) (with_op (record { name = name; kind = kind; reads = map (λ w. unwrap_or (wire_named d w) (Port 0)) inputs })) d.frags)) h
step d (ClientLine name stream) fine h = h
step d BeginLine fine h = h
step d (SendLine make source time) fine h = h
step d (LinkLine make a b) fine h = h
step d (NodeLine true node) fine h = h
step d (NodeLine false node) fine h = h
step d (TickLine now) fine h = h
step d SettleLine fine h = h

steps : (d : Draft) (ss : List Statement) → Passes d ss → HasFew d → HasFew (all_said d ss)
steps d [] p h = h
steps d (s ∷ ss) p h = steps (and_then d s) ss p.1 (step d s p.0 h)

pub few_frags : (s : Script) → IsChecked s → length s.plan.frags ≤ 16
few_frags s c = subst (λ (x : Script). length x.plan.frags ≤ 16) (says_itself s c) (steps nothing_yet (statements_of s) (checked_passes s c) (omega arith))

-- ---- each stream once

any-there : (q : StreamRef → Bool) (ss : List StreamRef) (p : ℕ) (s : StreamRef) → slice_get ss p ≡ Some s → q s ≡ true → list_any q ss ≡ true
any-there q [] p s e h = absurd cc
any-there q (x ∷ ss) zero s e h = let same : x ≡ s = cc in let here : q x ≡ true = ap q same ∙ h in rw here refl
any-there q (x ∷ ss) (suc p) s e h = or-right (q x) (list_any q ss) (any-there q ss p s e h)

not_yes : (b : Bool) → not b ≡ true → b ≡ true → ⊥
not_yes true h k = absurd cc
not_yes false h k = absurd cc

pub once_at : (ss : List StreamRef) (p q : ℕ) (s : StreamRef) → reads_once ss ≡ true → slice_get ss p ≡ Some s → slice_get ss q ≡ Some s → p ≡ q
once_at [] p q s h e f = absurd cc
once_at (x ∷ ss) zero zero s h e f = refl
once_at (x ∷ ss) zero (suc q) s h e f =
    let same : x ≡ s = cc in
    let parts = and_parts (not (list_any (same_stream x) ss)) (reads_once ss) h in
    absurd (not_yes (list_any (same_stream x) ss) parts.0 (any-there (same_stream x) ss q s f (ap (λ (y : StreamRef). same_stream y s) same ∙ same_stream-self s)))
once_at (x ∷ ss) (suc p) zero s h e f =
    let same : x ≡ s = cc in
    let parts = and_parts (not (list_any (same_stream x) ss)) (reads_once ss) h in
    absurd (not_yes (list_any (same_stream x) ss) parts.0 (any-there (same_stream x) ss p s e (ap (λ (y : StreamRef). same_stream y s) same ∙ same_stream-self s)))
once_at (x ∷ ss) (suc p) (suc q) s h e f = ap suc (once_at ss p q s (and_parts (not (list_any (same_stream x) ss)) (reads_once ss) h).1 e f)

frag_once : (fs : List FragSpec) (i : ℕ) → list_all (λ (f : FragSpec). reads_once f.inputs) fs ≡ true → reads_once (nth [] (map (λ (f : FragSpec). f.inputs) fs) i) ≡ true
frag_once [] i h = refl
frag_once (f ∷ fs) zero h = (and_parts (reads_once f.inputs) (list_all (λ (x : FragSpec). reads_once x.inputs) fs) h).0
frag_once (f ∷ fs) (suc i) h = frag_once fs i (and_parts (reads_once f.inputs) (list_all (λ (x : FragSpec). reads_once x.inputs) fs) h).1

client_once : (cs : List ClientSpec) (i : ℕ) → reads_once (nth [] (map (λ (c : ClientSpec). c.input ∷ []) cs) i) ≡ true
client_once [] i = refl
client_once (c ∷ cs) zero = refl
client_once (c ∷ cs) (suc i) = client_once cs i

-- no actor reads a stream at two ports
pub role_once : (plan : Plan) (role : Role) → list_all (λ (f : FragSpec). reads_once f.inputs) plan.frags ≡ true → reads_once (inputs_of plan role) ≡ true
role_once plan (IsSource s) h = refl
role_once plan (IsNode f r) h = frag_once plan.frags f h
role_once plan (IsClient c) h = client_once plan.clients c
role_once plan Nobody h = refl
