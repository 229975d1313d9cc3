-- The reasons against each statement, by what the script says before it.
use Rattle.std.specs.Prelude.{ℕ, ◌+◌, Bool, false, not, ◌||◌, ◌==◌, nat_lt, nat_le, List, [], ◌∷◌, ◌++◌, map, length, flat_map, Option, Some, None, is_none, option_map, unwrap_or, fold}
use Rattle.dpc_lists.specs.Lists.{list_any, is_nil, last_or}
use Rattle.dpc_model.specs.Words.{Word}
use Rattle.dpc_model.specs.ScriptText.{stream_name, wire_word}
use Rattle.dpc_model.specs.Columns.{kind_columns, wire_columns, columns_by}
use Rattle.dpc_model.specs.Actors.{role_of, are_linked}
use Rattle.dpc_model.specs.declared.tuples.Tuple.{Tuple}
use Rattle.dpc_model.specs.declared.operators.Wire.{Wire}
use Rattle.dpc_model.specs.declared.operators.Wire.TheVariants.{Port, Op}
use Rattle.dpc_model.specs.declared.operators.OpKind.{OpKind}
use Rattle.dpc_model.specs.declared.operators.OpSpec.{OpSpec}
use Rattle.dpc_model.specs.declared.plans.SourceSpec.{SourceSpec}
use Rattle.dpc_model.specs.declared.plans.FragSpec.{FragSpec}
use Rattle.dpc_model.specs.declared.plans.ClientSpec.{ClientSpec}
use Rattle.dpc_model.specs.declared.plans.Plan.{Plan}
use Rattle.dpc_model.specs.declared.plans.StreamRef.{StreamRef}
use Rattle.dpc_model.specs.declared.plans.StreamRef.TheVariants.{Source, Frag}
use Rattle.dpc_model.specs.declared.scripts.Directive.{Directive}
use Rattle.dpc_model.specs.declared.scripts.Directive.TheVariants.{Emit, Release, Cut, Heal, Lose, Repeat, Crash, Restart}
use Rattle.dpc_model.specs.declared.scripts.Phase.{Phase}
use Rattle.script_rules.specs.declared.reasons.Reason.{Reason}
use Rattle.script_rules.specs.declared.reasons.Reason.TheVariants.{NameTaken, Unknown, OutOfTime, NoSuchColumn, ReadsAhead, AgainstState, PastLimit}
use Rattle.script_check.specs.Judging.{told}
use Rattle.script_rules.specs.Drafts.{op_names, place_of_name, or_else}
use Rattle.script_rules.specs.Reasons.{is_among, has_twice, fits_inputs, is_too_large, is_full, is_node, down_after}

abbrev pub Reasons : Type 0
Reasons = List (Bool × Reason)

-- ---- sources and their logs

abbrev pub named_sources : List SourceSpec → List Word
named_sources sources = map (λ (s : SourceSpec). s.name) sources

abbrev pub against_source : List SourceSpec → SourceSpec → Reasons
against_source before s = (is_among s.name (named_sources before), NameTaken) ∷ (is_full 16 before, PastLimit) ∷ []

-- against the entry number i of a log, where so many entries of all logs are left at its beginning
abbrev pub against_entry : ℕ → ℕ → ℕ → ℕ → ℕ → Tuple → Reasons
against_entry end columns room last i t =
    (nat_lt t.stime last || not (nat_lt t.stime end), OutOfTime) ∷ (not (length t.vals == columns), NoSuchColumn) ∷ (nat_le room i, PastLimit) ∷ []

-- ---- fragments

abbrev pub named_frags : List FragSpec → List Word
named_frags frags = map (λ (f : FragSpec). f.name) frags

-- the names of sources and fragments, and of these fragments' operators
abbrev pub names_before : List SourceSpec → List FragSpec → List Word
names_before sources frags = named_sources sources ++ named_frags frags ++ flat_map op_names frags

-- the stream of a name, of these sources and fragments
abbrev pub stream_of : List SourceSpec → List FragSpec → Word → Option StreamRef
stream_of sources frags w = or_else (option_map Source (place_of_name w (named_sources sources))) (option_map Frag (place_of_name w (named_frags frags)))

abbrev pub against_fragment : Plan → List FragSpec → FragSpec → Reasons
against_fragment plan before f =
    let streams = map (stream_name plan) f.inputs in
    (is_among f.name (names_before plan.sources before) || has_twice streams, NameTaken)
    ∷ (list_any (λ w. is_none (stream_of plan.sources before w)) streams, ReadsAhead) ∷ (is_full 16 before, PastLimit) ∷ []

-- the line behind the one that tells a delay, where there is one
abbrev pub behind_delay : Option ℕ → ℕ → ℕ
behind_delay None line = line
behind_delay (Some delay) line = told (line + 1)

-- ---- operators

-- what is read by a name behind the first operators of a fragment
abbrev pub wire_of : Plan → FragSpec → List OpSpec → Word → Option Wire
wire_of plan f done w =
    or_else (option_map Port (place_of_name w (map (stream_name plan) f.inputs))) (option_map Op (place_of_name w (map (λ (op : OpSpec). op.name) done)))

-- the stream that a port's name stands for, among the fragments before
abbrev pub found_stream : Plan → List FragSpec → StreamRef → StreamRef
found_stream plan before s = unwrap_or (stream_of plan.sources before (stream_name plan s)) (Source 0)

-- the columns of a fragment's ports, where those of the fragments before are these
abbrev pub port_columns : Plan → List FragSpec → List ℕ → FragSpec → List ℕ
port_columns plan before earlier f = map (λ s. columns_by plan earlier (found_stream plan before s)) f.inputs

-- the columns of what a name stands for, and of all that an operator reads
abbrev pub name_columns : Plan → FragSpec → List OpSpec → List ℕ → List ℕ → Word → ℕ
name_columns plan f done ports outs w = unwrap_or (option_map (wire_columns ports outs) (wire_of plan f done w)) 0

abbrev pub read_columns : Plan → FragSpec → List OpSpec → List ℕ → List ℕ → List Wire → List ℕ
read_columns plan f done ports outs reads = map (λ r. name_columns plan f done ports outs (wire_word plan f r)) reads

-- inputs lack a column or don't agree, or the result has too many columns
abbrev pub misses_column : OpKind → List ℕ → Bool
misses_column kind columns = not (fits_inputs kind columns) || nat_lt 8 (kind_columns kind columns)

abbrev pub takes_name : Plan → List FragSpec → FragSpec → List OpSpec → Word → Bool
takes_name plan before f done w =
    is_among w (names_before plan.sources before) || (is_among w (f.name ∷ []) || is_among w (map (λ (op : OpSpec). op.name) done))

abbrev pub against_operator : Plan → List FragSpec → FragSpec → List OpSpec → List ℕ → List ℕ → OpSpec → Reasons
against_operator plan before f done ports outs op =
    let columns = read_columns plan f done ports outs op.reads in
    (takes_name plan before f done op.name, NameTaken) ∷ (list_any (λ r. is_none (wire_of plan f done (wire_word plan f r))) op.reads, Unknown)
    ∷ (misses_column op.kind columns, NoSuchColumn) ∷ (is_full 16 done || is_too_large op.kind, PastLimit) ∷ []

-- ---- clients, and `begin`

abbrev pub named_clients : List ClientSpec → List Word
named_clients clients = map (λ (c : ClientSpec). c.name) clients

abbrev pub against_client : Plan → List ClientSpec → ClientSpec → Reasons
against_client plan before c =
    (is_among c.name (names_before plan.sources plan.frags) || is_among c.name (named_clients before), NameTaken)
    ∷ (is_none (stream_of plan.sources plan.frags (stream_name plan c.input)), ReadsAhead) ∷ (is_full 16 before, PastLimit) ∷ []

abbrev pub lacks_part : Plan → Bool
lacks_part plan = is_nil plan.sources || is_nil plan.frags || is_nil plan.clients || list_any (λ (f : FragSpec). is_nil f.ops) plan.frags

-- ---- phases, behind a checked plan

-- whether a node is down behind these phases and directives
abbrev pub is_down : List Phase → List Directive → ℕ → Bool
is_down phases directives node = fold (down_after node) false (flat_map (λ (p : Phase). p.directives) phases ++ directives)

abbrev pub against_directive : Plan → List Phase → List Directive → Directive → Reasons
against_directive plan phases directives (Emit s t) = (not (nat_lt s (length plan.sources)), Unknown) ∷ []
against_directive plan phases directives (Release s t) = (not (nat_lt s (length plan.sources)), Unknown) ∷ []
against_directive plan phases directives (Cut a b) = (not (are_linked plan a b), Unknown) ∷ []
against_directive plan phases directives (Heal a b) = (not (are_linked plan a b), Unknown) ∷ []
against_directive plan phases directives (Lose a b) = (not (are_linked plan a b), Unknown) ∷ []
against_directive plan phases directives (Repeat a b) = (not (are_linked plan a b), Unknown) ∷ []
against_directive plan phases directives (Crash a) = (not (is_node (role_of plan a)), Unknown) ∷ (is_down phases directives a, AgainstState) ∷ []
against_directive plan phases directives (Restart a) = (not (is_node (role_of plan a)), Unknown) ∷ (not (is_down phases directives a), AgainstState) ∷ []

abbrev pub last_clock : List Phase → ℕ
last_clock phases = unwrap_or (last_or None (map (λ (p : Phase). p.now) phases)) 0

abbrev pub against_tick : List Phase → ℕ → Reasons
against_tick before now = (nat_lt now (last_clock before), AgainstState) ∷ (is_full 2000 before, PastLimit) ∷ []
