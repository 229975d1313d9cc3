-- What is said so far has its names, numbers and counts in their ranges.
use Rattle.std.proofs.Common.{◌≡◌, ℕ, zero, suc, ◌-◌, ◌^◌, ◌%◌, Bool, true, false, List, [], ◌∷◌, ◌++◌, map, length, Some, None, refl, sym, ap, subst, ◌∙◌, arith}
use Rattle.std.specs.Prelude.{⊤, ◌&&◌, ◌||◌, ◌==◌, if◌then◌else◌, unwrap_or}
use Rattle.std.proofs.lemmas.Bool.{and_parts, and_from}
use Rattle.std.proofs.lemmas.List.{length-map}
use Rattle.dpc_lists.specs.Lists.{nth, changed, list_all}
use Rattle.dpc_model.specs.Words.{Word}
use Rattle.dpc_model.specs.declared.tuples.Tuple.{Tuple}
use Rattle.dpc_model.specs.declared.operators.Wire.TheVariants.{Port}
use Rattle.dpc_model.specs.declared.operators.OpKind.{OpKind}
use Rattle.dpc_model.specs.declared.operators.OpSpec.{OpSpec}
use Rattle.dpc_model.specs.declared.plans.SourceSpec.{SourceSpec}
use Rattle.dpc_model.specs.declared.plans.FragSpec.{FragSpec}
use Rattle.dpc_model.specs.declared.plans.Plan.{Plan}
use Rattle.dpc_model.specs.declared.plans.StreamRef.TheVariants.{Source}
use Rattle.dpc_model.specs.declared.scripts.Directive.{Directive}
use Rattle.dpc_lists.proofs.Truths.{not-both}
use Rattle.script_rules.specs.Spelling.{is_name}
use Rattle.script_rules.specs.Places.{is_between}
use Rattle.script_rules.specs.Statements.{Statement, HeaderLine, SourceLine, LogLine, FragmentLine, PatienceLine, OperatorLine, ClientLine, BeginLine, SendLine, LinkLine, NodeLine, TickLine, SettleLine}
use Rattle.script_rules.specs.Drafts.{Draft, nothing_yet, stream_named, wire_named, and_then, is_wide, has_header, with_log, with_delay, with_op, script_of}
use Rattle.script_rules.specs.Checking.{top, is_in_range, is_header_in_range, is_log_in_range, is_source_in_range, are_inputs_in_range, is_kind_in_range, is_op_in_range, is_delay_in_range, is_frag_in_range, is_client_in_range, is_directive_in_range, is_phase_in_range}
use Rattle.script_rules.proofs.Growing.{all-push}
use Rattle.script_rules.proofs.Ranges.{between}
use Rattle.script_rules.proofs.Headers.{declared}
use Rattle.script_rules.proofs.Formed.{IsPlaced}
use Rattle.script_rules.proofs.ReadForms.{few_of}
use Rattle.law_scripts.proofs.Growing.{IsUnderWay}
use Rattle.law_scripts.proofs.LineRanges.{IsNextInRange, bare_plan, IsSaidInRange}

-- ---- the header

abbrev pub IsHeaderInRange : List ℕ → Type 0
IsHeaderInRange [] = ⊤
IsHeaderInRange (v ∷ []) = IsNextInRange [] v
IsHeaderInRange (v ∷ w ∷ []) = IsNextInRange [] v × IsNextInRange (v ∷ []) w
IsHeaderInRange (v ∷ w ∷ dl ∷ []) = IsNextInRange [] v × (IsNextInRange (v ∷ []) w × IsNextInRange (v ∷ w ∷ []) dl)
IsHeaderInRange (v ∷ w ∷ dl ∷ e ∷ rest) = IsNextInRange [] v × (IsNextInRange (v ∷ []) w × (IsNextInRange (v ∷ w ∷ []) dl × IsNextInRange (v ∷ w ∷ dl ∷ []) e))

header-push : (h : List ℕ) (n : ℕ) → IsHeaderInRange h → IsNextInRange h n → IsHeaderInRange (h ++ n ∷ [])
header-push [] n h k = k
header-push (v ∷ []) n h k = (h, k)
header-push (v ∷ w ∷ []) n h k = (h.0, (h.1, k))
header-push (v ∷ w ∷ dl ∷ []) n h k = (h.0, (h.1.0, (h.1.1, k)))
header-push (v ∷ w ∷ dl ∷ e ∷ rest) n h k = h

-- whether tuples pass is said by the version, or by version 3 itself
passing_known : (v : ℕ) (flag : Bool) → is_between 1 3 v ≡ true → (v == 3 || (if v == 2 || (v == 3 && flag) then v == 2 else v == 1)) ≡ true
passing_known zero flag h = absurd cc
passing_known (suc zero) flag h = refl
passing_known (suc (suc zero)) flag h = refl
passing_known (suc (suc (suc zero))) flag h = refl
passing_known (suc (suc (suc (suc v)))) flag h = let most = (between 1 3 (suc (suc (suc (suc v)))) h).1 in absurd (omega (arith, most))

whole_header : (h : List ℕ) → has_header (declared h [] [] []) ≡ true → IsHeaderInRange h → is_header_in_range (bare_plan h) ≡ true
whole_header [] whole k = absurd (few_of (is_wide (declared [] [] [] [])) 0 whole (omega arith))
whole_header (v ∷ []) whole k = absurd (few_of (v == 3) 1 whole (omega arith))
whole_header (v ∷ w ∷ []) whole k = absurd (few_of (v == 3) 2 whole (omega arith))
whole_header (v ∷ w ∷ dl ∷ []) whole k = absurd (few_of (v == 3) 3 whole (omega arith))
whole_header (v ∷ w ∷ dl ∷ e ∷ rest) whole k =
    let plan : Plan = bare_plan (v ∷ w ∷ dl ∷ e ∷ rest) in
    let version : is_between 1 3 v ≡ true = k.0 in
    let passing = passing_known v (nth 0 (v ∷ w ∷ dl ∷ e ∷ rest) 4 == 1) version in
    let width : is_between 1 (if v == 3 then 2 ^ 50 else 1000000) w ≡ true = k.1.0 in
    let delay : is_between 0 (10 ^ 12) dl ≡ true = k.1.1.0 in
    let end = and_parts (is_between w (top plan) e) (e % w == 0) k.1.1.1 in
    let a = and_from _ _ version passing in
    let b = and_from _ _ a width in
    let c = and_from _ _ b delay in
    and_from _ _ (and_from _ _ c end.0) end.1

-- ---- a changed element

all_kept : {X : Type 0} (p : X → Bool) (f : X → X) (i : ℕ) (xs : List X) → ((x : X) → p x ≡ true → p (f x) ≡ true) → list_all p xs ≡ true → list_all p (changed i f xs) ≡ true
all_kept p f i [] keeps h = refl
all_kept p f zero (x ∷ xs) keeps h = let q = and_parts (p x) (list_all p xs) h in and_from (p (f x)) (list_all p xs) (keeps x q.0) q.1
all_kept p f (suc i) (x ∷ xs) keeps h = let q = and_parts (p x) (list_all p xs) h in and_from (p x) (list_all p (changed i f xs)) q.0 (all_kept p f i xs keeps q.1)

log_kept : (t : Tuple) → is_log_in_range t ≡ true → (s : SourceSpec) → is_source_in_range s ≡ true → is_source_in_range (with_log t s) ≡ true
log_kept t h s k =
    let p = and_parts (is_name s.name && is_between 1 8 s.columns) (list_all is_log_in_range s.log) k in
    and_from (is_name s.name && is_between 1 8 s.columns) (list_all is_log_in_range (s.log ++ t ∷ [])) p.0 (all-push is_log_in_range s.log t p.1 h)

delay_kept : (plan : Plan) (n : ℕ) → is_delay_in_range plan (Some n) ≡ true → (f : FragSpec) → is_frag_in_range plan f ≡ true → is_frag_in_range plan (with_delay n f) ≡ true
delay_kept plan n h f k =
    let delay = is_delay_in_range plan f.delay in
    let ports = is_between 1 8 (length f.inputs) in
    let ops = list_all (is_op_in_range plan) f.ops in
    let head = is_name f.name && is_between 1 4 f.replicas in
    let a = and_parts (head && delay && ports) ops k in
    let b = and_parts (head && delay) ports a.0 in
    let c = and_parts head delay b.0 in
    and_from (head && is_delay_in_range plan (Some n) && ports) ops (and_from (head && is_delay_in_range plan (Some n)) ports (and_from head (is_delay_in_range plan (Some n)) c.0 h) b.1) a.1

op_kept : (plan : Plan) (op : OpSpec) → is_op_in_range plan op ≡ true → (f : FragSpec) → is_frag_in_range plan f ≡ true → is_frag_in_range plan (with_op op f) ≡ true
op_kept plan op h f k =
    let head = is_name f.name && is_between 1 4 f.replicas && is_delay_in_range plan f.delay && is_between 1 8 (length f.inputs) in
    let p = and_parts head (list_all (is_op_in_range plan) f.ops) k in
    and_from head (list_all (is_op_in_range plan) (f.ops ++ op ∷ [])) p.0 (all-push (is_op_in_range plan) f.ops op p.1 h)

-- ---- a script under way

pub record HasRangesSoFar (d : Draft) : Type 0 where
  pub header : IsHeaderInRange d.header
  pub sources : list_all is_source_in_range d.sources ≡ true
  pub frags : list_all (is_frag_in_range (bare_plan d.header)) d.frags ≡ true
  pub clients : list_all is_client_in_range d.clients ≡ true
  pub phases : list_all (is_phase_in_range (bare_plan d.header)) d.phases ≡ true
  pub directives : list_all (is_directive_in_range (bare_plan d.header)) d.directives ≡ true

pub nothing_ranges : HasRangesSoFar nothing_yet
nothing_ranges = record { header = tt; sources = refl; frags = refl; clients = refl; phases = refl; directives = refl }

-- a further directive
with_one : (d e : Draft) (x : Directive) → e ≡ record d { directives = d.directives ++ x ∷ [] } → is_directive_in_range (bare_plan d.header) x ≡ true → HasRangesSoFar d → HasRangesSoFar e
with_one d e x is h k =
    subst HasRangesSoFar (sym is) (record {
      header = k.header;
      sources = k.sources;
      frags = k.frags;
      clients = k.clients;
      phases = k.phases;
      directives = all-push (is_directive_in_range (bare_plan d.header)) d.directives x k.directives h;
    })

-- other fragments
with_these : (d : Draft) (fs : List FragSpec) → list_all (is_frag_in_range (bare_plan d.header)) fs ≡ true → HasRangesSoFar d → HasRangesSoFar (record d { frags = fs })
with_these d fs h k = record { header = k.header; sources = k.sources; frags = h; clients = k.clients; phases = k.phases; directives = k.directives }

-- other sources
with_those : (d : Draft) (ss : List SourceSpec) → list_all is_source_in_range ss ≡ true → HasRangesSoFar d → HasRangesSoFar (record d { sources = ss })
with_those d ss h k = record { header = k.header; sources = h; frags = k.frags; clients = k.clients; phases = k.phases; directives = k.directives }

header_kept : (last : Word) (d : Draft) (place n : ℕ) → IsUnderWay last d → has_header d ≡ false → IsNextInRange d.header n → HasRangesSoFar d → HasRangesSoFar (and_then d (HeaderLine place n))
header_kept last d place n u none h k =
    let parts = u.fitted.form.parts in
    let bare = parts.waits none in
    let early = u.early (not_yet d.begun refl) in
    let plan : Plan = bare_plan (d.header ++ n ∷ []) in
    record {
      header = header-push d.header n k.header h;
      sources = k.sources;
      frags = ap (list_all (is_frag_in_range plan)) bare.frags;
      clients = k.clients;
      phases = ap (list_all (is_phase_in_range plan)) early.phases;
      directives = ap (list_all (is_directive_in_range plan)) early.directives;
    }
  where
    not_yet : (b : Bool) → d.begun ≡ b → b ≡ false
    not_yet true is = absurd (not-both (has_header d) (u.fitted.form.parts.whole is).header none)
    not_yet false is = refl

fragment_kept : (d : Draft) (name : Word) (replicas : ℕ) (streams : List Word) → IsSaidInRange d.header (FragmentLine name replicas streams) → HasRangesSoFar d → HasRangesSoFar (and_then d (FragmentLine name replicas streams))
fragment_kept d name replicas streams h k =
    let plan : Plan = bare_plan d.header in
    let f : FragSpec = record { name = name; replicas = replicas; delay = None; inputs = map (λ w. unwrap_or (stream_named d w) (Source 0)) streams; ops = [] } in
    let many : length f.inputs ≡ length streams = length-map streams (λ w. unwrap_or (stream_named d w) (Source 0)) in
    let p = and_parts (is_name name && is_between 1 4 replicas) (is_between 1 8 (length streams)) h in
    let ports : is_between 1 8 (length f.inputs) ≡ true = ap (is_between 1 8) many ∙ p.1 in
    let here : is_frag_in_range plan f ≡ true = and_from _ true (and_from _ (is_between 1 8 (length f.inputs)) (and_from (is_name name && is_between 1 4 replicas) true p.0 refl) ports) refl in
    with_these d (d.frags ++ f ∷ []) (all-push (is_frag_in_range plan) d.frags f k.frags here) k

operator_kept : (d : Draft) (name : Word) (inputs : List Word) (kind : OpKind) → IsSaidInRange d.header (OperatorLine name inputs kind) → HasRangesSoFar d → HasRangesSoFar (and_then d (OperatorLine name inputs kind))
operator_kept d name inputs kind h k =
    let plan : Plan = bare_plan d.header in
    let op : OpSpec = record { name = name; kind = kind; reads = map (λ w. unwrap_or (wire_named d w) (Port 0)) inputs } in
    let many : length op.reads ≡ length inputs = length-map inputs (λ w. unwrap_or (wire_named d w) (Port 0)) in
    let here : is_op_in_range plan op ≡ true = ap (λ n. is_name name && are_inputs_in_range kind n && is_kind_in_range plan kind) many ∙ h in
    with_these d _ (all_kept (is_frag_in_range plan) (with_op op) (length d.frags - 1) d.frags (op_kept plan op here) k.frags) k

pub ranges_kept : (last : Word) (d : Draft) (s : Statement) → IsUnderWay last d → IsPlaced d s → IsSaidInRange d.header s → HasRangesSoFar d → HasRangesSoFar (and_then d s)
ranges_kept last d (HeaderLine place n) u p h k = header_kept last d place n u p.0 h k
ranges_kept last d (SourceLine name columns) u p h k =
    let s : SourceSpec = record { name = name; columns = columns; log = [] } in
    with_those d (d.sources ++ s ∷ []) (all-push is_source_in_range d.sources s k.sources (and_from (is_name name && is_between 1 8 columns) true h refl)) k
ranges_kept last d (LogLine source time vals) u p h k =
    with_those d _ (all_kept is_source_in_range (with_log (record { stime = time; vals = vals })) _ d.sources (log_kept (record { stime = time; vals = vals }) h) k.sources) k
ranges_kept last d (FragmentLine name replicas streams) u p h k = fragment_kept d name replicas streams h k
ranges_kept last d (PatienceLine n) u p h k =
    let plan : Plan = bare_plan d.header in
    with_these d _ (all_kept (is_frag_in_range plan) (with_delay n) (length d.frags - 1) d.frags (delay_kept plan n h) k.frags) k
ranges_kept last d (OperatorLine name inputs kind) u p h k = operator_kept d name inputs kind h k
ranges_kept last d (ClientLine name stream) u p h k =
    record { header = k.header; sources = k.sources; frags = k.frags; clients = all-push is_client_in_range d.clients _ k.clients h; phases = k.phases; directives = k.directives }
ranges_kept last d BeginLine u p h k = record { header = k.header; sources = k.sources; frags = k.frags; clients = k.clients; phases = k.phases; directives = k.directives }
ranges_kept last d (SendLine make source time) u p h k = with_one d _ _ refl (h _) k
ranges_kept last d (LinkLine make a b) u p h k = with_one d _ _ refl (h _ _) k
ranges_kept last d (NodeLine true node) u p h k = with_one d _ _ refl refl k
ranges_kept last d (NodeLine false node) u p h k = with_one d _ _ refl refl k
ranges_kept last d (TickLine now) u p h k =
    let plan : Plan = bare_plan d.header in
    let here : is_phase_in_range plan (record { directives = d.directives; now = now }) ≡ true = and_from (list_all (is_directive_in_range plan) d.directives) (is_between 0 (10 ^ 12) now) k.directives h in
    record {
      header = k.header;
      sources = k.sources;
      frags = k.frags;
      clients = k.clients;
      phases = all-push (is_phase_in_range plan) d.phases (record { directives = d.directives; now = now }) k.phases here;
      directives = refl;
    }
ranges_kept last d SettleLine u p h k = record { header = k.header; sources = k.sources; frags = k.frags; clients = k.clients; phases = k.phases; directives = k.directives }

-- ---- the script, once all is said

pub ranges_at_end : (d : Draft) → has_header d ≡ true → HasRangesSoFar d → is_in_range (script_of d) ≡ true
unfolding is_in_range
ranges_at_end d whole k =
    let header = whole_header d.header whole k.header in
    and_from _ _ (and_from _ _ (and_from _ _ (and_from _ _ header k.sources) k.frags) k.clients) k.phases
