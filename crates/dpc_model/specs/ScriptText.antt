-- The canonical text of a script.
use Rattle.std.specs.Prelude.{ℕ, Bool, ◌==◌, if◌then◌else◌, List, [], ◌∷◌, ◌++◌, map, length, flat_map, Option, Some, None, codes, decimal}
use Rattle.std.specs.Fmt.{signed_decimal}
use Rattle.dpc_lists.specs.Lists.{nth}
use Rattle.dpc_model.specs.Words.{Word, text_of}
use Rattle.dpc_model.specs.Actors.{role_of}
use Rattle.dpc_model.specs.declared.actors.Role.{Role}
use Rattle.dpc_model.specs.declared.actors.Role.TheVariants.{Source as IsSource, Node as IsNode, Client as IsClient, Nobody}
use Rattle.dpc_model.specs.Formula.{Formula, Col, Num, Time, Neg, Not, Bin, If}
use Rattle.dpc_model.specs.declared.tuples.Tuple.{Tuple}
use Rattle.dpc_model.specs.declared.expressions.BinOp.{BinOp}
use Rattle.dpc_model.specs.declared.expressions.BinOp.TheVariants.{Add, Sub, Mul, Min, Max, Lt, Le, Gt, Ge, Eq, Ne, And, Or}
use Rattle.dpc_model.specs.declared.operators.Agg.{Agg}
use Rattle.dpc_model.specs.declared.operators.Agg.TheVariants as agg
use Rattle.dpc_model.specs.declared.operators.Wire.{Wire}
use Rattle.dpc_model.specs.declared.operators.Wire.TheVariants.{Port, Op}
use Rattle.dpc_model.specs.declared.operators.OpKind.{OpKind}
use Rattle.dpc_model.specs.declared.operators.OpKind.TheVariants as kind
use Rattle.dpc_model.specs.declared.operators.OpSpec.{OpSpec}
use Rattle.dpc_model.specs.declared.plans.SourceSpec.{SourceSpec}
use Rattle.dpc_model.specs.declared.plans.FragSpec.{FragSpec}
use Rattle.dpc_model.specs.declared.plans.ClientSpec.{ClientSpec}
use Rattle.dpc_model.specs.declared.plans.Plan.{Plan}
use Rattle.dpc_model.specs.declared.plans.StreamRef.{StreamRef}
use Rattle.dpc_model.specs.declared.plans.StreamRef.TheVariants.{Source, Frag}
use Rattle.dpc_model.specs.declared.scripts.Directive.{Directive}
use Rattle.dpc_model.specs.declared.scripts.Directive.TheVariants.{Emit, Release, Cut, Heal, Lose, Repeat, Crash, Restart}
use Rattle.dpc_model.specs.declared.scripts.Phase.{Phase}
use Rattle.dpc_model.specs.declared.scripts.Script.{Script}

-- ---- names

abbrev pub source_name : Plan → ℕ → Word
source_name plan s = nth [] (map (λ (x : SourceSpec). x.name) plan.sources) s

abbrev pub frag_name : Plan → ℕ → Word
frag_name plan f = nth [] (map (λ (x : FragSpec). x.name) plan.frags) f

abbrev pub client_name : Plan → ℕ → Word
client_name plan c = nth [] (map (λ (x : ClientSpec). x.name) plan.clients) c

abbrev pub stream_name : Plan → StreamRef → Word
stream_name plan (Source s) = source_name plan s
stream_name plan (Frag f) = frag_name plan f

-- a node is named by its fragment, a dot and its replica's number
abbrev pub role_name : Plan → Role → Word
role_name plan (IsSource s) = source_name plan s
role_name plan (IsNode f r) = frag_name plan f ++ 46 ∷ decimal r
role_name plan (IsClient c) = client_name plan c
role_name plan Nobody = []

abbrev pub actor_name : Plan → ℕ → Word
actor_name plan a = role_name plan (role_of plan a)

-- ---- expressions, operator first

abbrev pub column_word : ℕ → Word
column_word i = 99 ∷ decimal i

abbrev pub binary_word : BinOp → Word
binary_word Add = codes "add"
binary_word Sub = codes "sub"
binary_word Mul = codes "mul"
binary_word Min = codes "min"
binary_word Max = codes "max"
binary_word Lt = codes "lt"
binary_word Le = codes "le"
binary_word Gt = codes "gt"
binary_word Ge = codes "ge"
binary_word Eq = codes "eq"
binary_word Ne = codes "ne"
binary_word And = codes "and"
binary_word Or = codes "or"

abbrev pub formula_words : Formula → List Word
formula_words (Col i) = column_word i ∷ []
formula_words (Num z) = signed_decimal z ∷ []
formula_words Time = codes "time" ∷ []
formula_words (Neg e) = codes "neg" ∷ formula_words e
formula_words (Not e) = codes "not" ∷ formula_words e
formula_words (Bin op d e) = binary_word op ∷ formula_words d ++ formula_words e
formula_words (If c d e) = codes "if" ∷ formula_words c ++ formula_words d ++ formula_words e

-- ---- operators

-- an input by its name: a port's stream, or an operator of the fragment
abbrev pub wire_word : Plan → FragSpec → Wire → Word
wire_word plan f (Port p) = nth [] (map (stream_name plan) f.inputs) p
wire_word plan f (Op i) = nth [] (map (λ (op : OpSpec). op.name) f.ops) i

abbrev pub agg_words : Agg → List Word
agg_words agg.Count = codes "count" ∷ []
agg_words (agg.Sum c) = codes "sum" ∷ column_word c ∷ []
agg_words (agg.Min c) = codes "min" ∷ column_word c ∷ []
agg_words (agg.Max c) = codes "max" ∷ column_word c ∷ []

abbrev pub group_word : Option ℕ → Word
group_word None = codes "-"
group_word (Some c) = column_word c

-- the words behind the inputs, and the operator's first word
abbrev pub kind_word : OpKind → Word
kind_word (kind.Filter e) = codes "filter"
kind_word (kind.Map es) = codes "map"
kind_word kind.Union = codes "union"
kind_word (kind.Join within keys) = codes "join"
kind_word (kind.Aggregate size step group aggs) = codes "aggregate"

abbrev pub kind_words : OpKind → List Word
kind_words (kind.Filter e) = formula_words e
kind_words (kind.Map es) = decimal (length es) ∷ flat_map formula_words es
kind_words kind.Union = []
kind_words (kind.Join within keys) = decimal within ∷ flat_map (λ (key : ℕ × ℕ). decimal key.0 ∷ decimal key.1 ∷ []) keys
kind_words (kind.Aggregate size step group aggs) = decimal size ∷ decimal step ∷ group_word group ∷ flat_map agg_words aggs

abbrev pub operator_line : Plan → FragSpec → OpSpec → List Word
operator_line plan f op = kind_word op.kind ∷ op.name ∷ map (wire_word plan f) op.reads ++ kind_words op.kind

-- ---- the parts of a script

abbrev pub number_line : Word → ℕ → List Word
number_line word n = word ∷ decimal n ∷ []

-- a line that tells of passing stands in version 3 alone
abbrev pub passing_lines : Plan → List (List Word)
passing_lines plan = if plan.version == 3 then (number_line (codes "passing") (if plan.passing then 1 else 0) ∷ []) else []

abbrev pub header_lines : Plan → List (List Word)
header_lines plan =
    number_line (codes "borealis") plan.version ∷ number_line (codes "width") plan.width ∷ number_line (codes "delay") plan.delay
    ∷ number_line (codes "end") plan.end ∷ passing_lines plan

abbrev pub log_line : Word → Tuple → List Word
log_line name t = codes "log" ∷ name ∷ decimal t.stime ∷ map signed_decimal t.vals

abbrev pub source_lines : SourceSpec → List (List Word)
source_lines s = (codes "source" ∷ s.name ∷ decimal s.columns ∷ []) ∷ map (log_line s.name) s.log

abbrev pub patience_lines : Option ℕ → List (List Word)
patience_lines None = []
patience_lines (Some d) = number_line (codes "patience") d ∷ []

abbrev pub frag_lines : Plan → FragSpec → List (List Word)
frag_lines plan f =
    (codes "fragment" ∷ f.name ∷ decimal f.replicas ∷ map (stream_name plan) f.inputs) ∷ patience_lines f.delay
    ++ map (operator_line plan f) f.ops

abbrev pub client_line : Plan → ClientSpec → List Word
client_line plan c = codes "client" ∷ c.name ∷ stream_name plan c.input ∷ []

abbrev pub plan_lines : Plan → List (List Word)
plan_lines plan =
    header_lines plan ++ flat_map source_lines plan.sources ++ flat_map (frag_lines plan) plan.frags ++ map (client_line plan) plan.clients

abbrev pub directive_line : Plan → Directive → List Word
directive_line plan (Emit s t) = codes "emit" ∷ source_name plan s ∷ decimal t ∷ []
directive_line plan (Release s t) = codes "release" ∷ source_name plan s ∷ decimal t ∷ []
directive_line plan (Cut a b) = codes "cut" ∷ actor_name plan a ∷ actor_name plan b ∷ []
directive_line plan (Heal a b) = codes "heal" ∷ actor_name plan a ∷ actor_name plan b ∷ []
directive_line plan (Lose a b) = codes "lose" ∷ actor_name plan a ∷ actor_name plan b ∷ []
directive_line plan (Repeat a b) = codes "repeat" ∷ actor_name plan a ∷ actor_name plan b ∷ []
directive_line plan (Crash a) = codes "crash" ∷ actor_name plan a ∷ []
directive_line plan (Restart a) = codes "restart" ∷ actor_name plan a ∷ []

abbrev pub phase_lines : Plan → Phase → List (List Word)
phase_lines plan p = map (directive_line plan) p.directives ++ number_line (codes "tick") p.now ∷ []

abbrev pub settle_lines : Bool → List (List Word)
settle_lines settle = if settle then ((codes "settle" ∷ []) ∷ []) else []

-- the lines of a script: the header, sources with their logs, fragments with their operators, clients, and the phases
abbrev pub script_lines : Script → List (List Word)
script_lines s = plan_lines s.plan ++ (codes "begin" ∷ []) ∷ flat_map (phase_lines s.plan) s.phases ++ settle_lines s.settle

-- the canonical text of a script
unfoldable pub script_text : Script → List ℕ
script_text s = text_of (script_lines s)

-- the script of version 3 that says the same: a line of its own tells whether tuples pass
abbrev pub upgraded : Script → Script
upgraded s = record s { plan = record s.plan { version = 3 } }
