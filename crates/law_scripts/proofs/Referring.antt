-- What a script in range refers to by number has a name that can be written.
use Rattle.std.proofs.Common.{◌≡◌, ℕ, suc, zero, ◌+◌, ◌^◌, ◌<◌, ◌≤◌, Bool, true, List, [], ◌∷◌, ◌++◌, map, length, refl, ap, subst, ◌∙◌, arith}
use Rattle.std.specs.Prelude.{not, ◌&&◌, ◌||◌, ◌==◌, nat_lt, nat_le}
use Rattle.std.specs.Fmt.{decimal}
use Rattle.std.proofs.lemmas.Bool.{and_parts, ltb-true, leb-true, ne_eqb, false_from_ne_true, eqb-true}
use Rattle.std.proofs.lemmas.List.{length-map}
use Rattle.std.proofs.lemmas.List.Folds.{list_all-append}
use Rattle.dpc_lists.specs.Lists.{list_all, is_nil, nth}
use Rattle.dpc_model.specs.Words.{Word}
use Rattle.dpc_model.specs.Actors.{roles_of}
use Rattle.dpc_model.specs.declared.actors.Role.TheVariants.{Nobody}
use Rattle.dpc_model.specs.ScriptText.{source_name, stream_name, role_name, actor_name, wire_word}
use Rattle.dpc_model.specs.declared.operators.Wire.{Wire}
use Rattle.dpc_model.specs.declared.operators.Wire.TheVariants.{Port, Op}
use Rattle.dpc_model.specs.declared.operators.OpSpec.{OpSpec}
use Rattle.dpc_model.specs.declared.plans.SourceSpec.{SourceSpec}
use Rattle.dpc_model.specs.declared.plans.FragSpec.{FragSpec}
use Rattle.dpc_model.specs.declared.plans.Plan.{Plan}
use Rattle.dpc_model.specs.declared.plans.StreamRef.{StreamRef}
use Rattle.dpc_model.specs.declared.plans.StreamRef.TheVariants.{Source, Frag}
use Rattle.dpc_model.specs.declared.scripts.Script.{Script}
use Rattle.dpc_lists.proofs.Truths.{or-right}
use Rattle.script_rules.specs.Lines.{pieces}
use Rattle.script_rules.specs.Spelling.{is_digit, is_numeral, may_stand_in_name, is_name, are_name_and_numeral, is_node_name}
use Rattle.script_rules.specs.Places.{is_between}
use Rattle.script_rules.specs.Facts.{is_there, has_sizes}
use Rattle.script_rules.specs.Laws.{is_actor, is_named_wire}
use Rattle.script_rules.proofs.Called.{named_sources, named}
use Rattle.script_rules.proofs.Numerals.{is_numeral-decimal}
use Rattle.script_rules.proofs.Ranges.{HasRanges, between, frag_sizes}
use Rattle.script_rules.proofs.Names.{source_names_in_range, frag_names_in_range, client_names_in_range}
use Rattle.script_rules.proofs.Distinct.{named_clients}
use Rattle.script_rules.proofs.Roles.{dots, dotted, letters, actor_names, roles_named, nth-map}
use Rattle.law_scripts.proofs.Lines.{is_plain, NoneIs, pieces-first, pieces-last}
use Rattle.law_scripts.proofs.Plain.{plain_name, plain_node}

-- ---- the names of a plan

pub record HasGoodNames (plan : Plan) : Type 0 where
  pub sources : list_all is_name (named_sources plan) ≡ true
  pub frags : list_all is_name (named plan.frags) ≡ true
  pub clients : list_all is_name (named_clients plan) ≡ true
  pub sizes : list_all has_sizes plan.frags ≡ true

pub good_names : (s : Script) → HasRanges s → HasGoodNames s.plan
good_names s r =
    record {
      sources = source_names_in_range s.plan.sources r.sources;
      frags = (frag_names_in_range s.plan s.plan.frags r.frags).0;
      clients = client_names_in_range s.plan.clients r.clients;
      sizes = frag_sizes s.plan s.plan.frags r.frags;
    }

-- what holds of all words holds of the one at a place
pub at_place : (p : Word → Bool) (ws : List Word) (i : ℕ) → list_all p ws ≡ true → i < length ws → p (nth [] ws i) ≡ true
at_place p [] i h low = absurd (omega (arith, low))
at_place p (w ∷ ws) zero h low = (and_parts (p w) (list_all p ws) h).0
at_place p (w ∷ ws) (suc i) h low = at_place p ws i (and_parts (p w) (list_all p ws) h).1 (omega (arith, low))

pub source_is_named : (plan : Plan) (s : ℕ) → HasGoodNames plan → nat_lt s (length plan.sources) ≡ true → is_name (source_name plan s) ≡ true
source_is_named plan s names h =
    let low = ltb-true s (length plan.sources) h in
    let many : length (named_sources plan) ≡ length plan.sources = length-map plan.sources (λ (x : SourceSpec). x.name) in
    at_place is_name (named_sources plan) s names.sources (omega (arith, low, many))

pub stream_is_named : (plan : Plan) (s : StreamRef) → HasGoodNames plan → is_there plan s ≡ true → is_name (stream_name plan s) ≡ true
stream_is_named plan (Source s) names h = source_is_named plan s names h
stream_is_named plan (Frag f) names h =
    let low = ltb-true f (length plan.frags) h in
    let many : length (named plan.frags) ≡ length plan.frags = length-map plan.frags (λ (x : FragSpec). x.name) in
    at_place is_name (named plan.frags) f names.frags (omega (arith, low, many))

pub streams_are_named : (plan : Plan) (ss : List StreamRef) → HasGoodNames plan → list_all (is_there plan) ss ≡ true → list_all is_name (map (stream_name plan) ss) ≡ true
streams_are_named plan [] names h = refl
streams_are_named plan (s ∷ ss) names h =
    let p = and_parts (is_there plan s) (list_all (is_there plan) ss) h in
    rw (stream_is_named plan s names p.0, streams_are_named plan ss names p.1) refl

-- ---- wires

module _ (plan : Plan) (f : FragSpec) (ports : list_all is_name (map (stream_name plan) f.inputs) ≡ true) (ops : list_all is_name (map (λ (op : OpSpec). op.name) f.ops) ≡ true) where
  wire_is_named : (w : Wire) → is_named_wire f w ≡ true → is_name (wire_word plan f w) ≡ true
  wire_is_named (Port p) h =
      let low = ltb-true p (length f.inputs) h in
      let many : length (map (stream_name plan) f.inputs) ≡ length f.inputs = length-map f.inputs (stream_name plan) in
      at_place is_name (map (stream_name plan) f.inputs) p ports (omega (arith, low, many))
  wire_is_named (Op i) h =
      let low = ltb-true i (length f.ops) h in
      let many : length (map (λ (op : OpSpec). op.name) f.ops) ≡ length f.ops = length-map f.ops (λ (op : OpSpec). op.name) in
      at_place is_name (map (λ (op : OpSpec). op.name) f.ops) i ops (omega (arith, low, many))

  pub wires_are_named : (ws : List Wire) → list_all (is_named_wire f) ws ≡ true → list_all is_name (map (wire_word plan f) ws) ≡ true
  wires_are_named [] h = refl
  wires_are_named (w ∷ ws) h =
      let p = and_parts (is_named_wire f w) (list_all (is_named_wire f) ws) h in
      rw (wire_is_named w p.0, wires_are_named ws p.1) refl

-- ---- actors

abbrev pub is_actor_word : Word → Bool
is_actor_word w = is_plain w && (is_name w || is_node_name w)

name_is_actor : (w : Word) → is_name w ≡ true → is_actor_word w ≡ true
name_is_actor w h = rw (plain_name w h, h) refl

names_are_actors : (ws : List Word) → list_all is_name ws ≡ true → list_all is_actor_word ws ≡ true
names_are_actors [] h = refl
names_are_actors (w ∷ ws) h =
    let p = and_parts (is_name w) (list_all is_name ws) h in
    rw (name_is_actor w p.0, names_are_actors ws p.1) refl

no_dot : NoneIs 46 may_stand_in_name
no_dot b h =
    false_from_ne_true (b == 46) (λ e.
    let wrong : may_stand_in_name 46 ≡ true = subst (λ x. may_stand_in_name x ≡ true) (eqb-true b 46 e) h in
    absurd cc)

digit_is_no_dot : NoneIs 46 is_digit
digit_is_no_dot b h =
    let low = leb-true 48 b (and_parts (nat_le 48 b) (nat_le b 57) h).0 in
    ne_eqb b 46 (λ e. omega (arith, low, e))

digits_of : (w : Word) → is_numeral w ≡ true → list_all is_digit w ≡ true
digits_of [] h = absurd cc
digits_of (b ∷ bs) h = (and_parts (list_all is_digit (b ∷ bs)) (not (b == 48) || is_nil bs) h).0

node_is_named : (f r : Word) → is_name f ≡ true → is_numeral r ≡ true → is_node_name (f ++ 46 ∷ r) ≡ true
node_is_named f r h k =
    let both : pieces 46 (f ++ 46 ∷ r) ≡ f ∷ r ∷ [] =
    pieces-first 46 may_stand_in_name f r no_dot (letters f h) ∙ ap (λ l. f ∷ l) (pieces-last 46 is_digit r digit_is_no_dot (digits_of r k)) in
    let parts : (is_name f && is_numeral r) ≡ true = rw (h, k) refl in
    ap are_name_and_numeral both ∙ parts

node_is_actor : (f : Word) (r : ℕ) → is_name f ≡ true → r < 2 ^ 63 → is_actor_word (f ++ 46 ∷ decimal r) ≡ true
node_is_actor f r h low =
    let numeral : is_numeral (decimal r) ≡ true = is_numeral-decimal r (omega (arith, low)) in
    let w = f ++ 46 ∷ decimal r in
    let actor : (is_name w || is_node_name w) ≡ true = or-right (is_name w) (is_node_name w) (node_is_named f (decimal r) h numeral) in
    rw (plain_node f (decimal r) h numeral, actor) refl

dots_are_actors : (w : Word) (k n : ℕ) → is_name w ≡ true → k + n ≤ 2 ^ 63 → list_all is_actor_word (dots w k n) ≡ true
dots_are_actors w k zero h few = refl
dots_are_actors w k (suc n) h few = rw (node_is_actor w k h (omega (arith, few)), dots_are_actors w (k + 1) n h (omega (arith, few))) refl

dotted_are_actors : (fs : List FragSpec) → list_all is_name (named fs) ≡ true → list_all has_sizes fs ≡ true → list_all is_actor_word (dotted fs) ≡ true
dotted_are_actors [] h k = refl
dotted_are_actors (f ∷ fs) h k =
    let p = and_parts (is_name f.name) (list_all is_name (named fs)) h in
    let q = and_parts (has_sizes f) (list_all has_sizes fs) k in
    let sizes = and_parts (is_between 1 4 f.replicas) (is_between 1 8 (length f.inputs)) q.0 in
    let most = (between 1 4 f.replicas sizes.0).1 in
    list_all-append is_actor_word (dots f.name 0 f.replicas) (dotted fs) ∙ rw (dots_are_actors f.name 0 f.replicas p.0 (omega (arith, most)), dotted_are_actors fs p.1 q.1) refl

all_actors : (plan : Plan) → HasGoodNames plan → list_all is_actor_word (actor_names plan) ≡ true
all_actors plan h =
    list_all-append is_actor_word (named_sources plan ++ dotted plan.frags) (named_clients plan)
    ∙ ap (λ t. t && list_all is_actor_word (named_clients plan)) (list_all-append is_actor_word (named_sources plan) (dotted plan.frags))
    ∙ rw (names_are_actors (named_sources plan) h.sources, dotted_are_actors plan.frags h.frags h.sizes, names_are_actors (named_clients plan) h.clients) refl

pub actor_is_named : (plan : Plan) (a : ℕ) → HasGoodNames plan → is_actor plan a ≡ true → is_actor_word (actor_name plan a) ≡ true
actor_is_named plan a h k =
    let low = ltb-true a (length (roles_of plan)) k in
    let many : length (map (role_name plan) (roles_of plan)) ≡ length (roles_of plan) = length-map (roles_of plan) (role_name plan) in
    let all : list_all is_actor_word (map (role_name plan) (roles_of plan)) ≡ true = ap (list_all is_actor_word) (roles_named plan) ∙ all_actors plan h in
    let here : is_actor_word (nth [] (map (role_name plan) (roles_of plan)) a) ≡ true = at_place is_actor_word (map (role_name plan) (roles_of plan)) a all (omega (arith, low, many)) in
    subst (λ w. is_actor_word w ≡ true) (nth-map (role_name plan) Nobody (roles_of plan) a refl) here
