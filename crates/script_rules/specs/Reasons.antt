-- The reasons to refuse a line, each on what the lines before it say.
use Rattle.std.specs.Prelude.{ℕ, ◌+◌, ◌*◌, ◌/◌, Bool, true, false, not, ◌&&◌, ◌||◌, ◌==◌, nat_lt, if◌then◌else◌, List, [], ◌∷◌, ◌++◌, map, length, flat_map, Option, Some, None, unwrap_or, is_none, option_map, bytes_eq, drop, fold, sum_by}
use Rattle.dpc_lists.specs.Lists.{nth, is_nil, list_any, list_all, last_or}
use Rattle.dpc_model.specs.Words.{Word}
use Rattle.dpc_model.specs.Actors.{role_of, are_linked}
use Rattle.dpc_model.specs.declared.actors.Role.{Role}
use Rattle.dpc_model.specs.declared.actors.Role.TheVariants.{Source as IsSource, Node as IsNode, Client as IsClient, Nobody}
use Rattle.dpc_model.specs.Columns.{kind_columns, wire_columns, columns_after, stream_columns}
use Rattle.dpc_model.specs.Values.{reads_below}
use Rattle.dpc_model.specs.Formula.{Formula}
use Rattle.dpc_model.specs.Formula as formula
use Rattle.dpc_model.specs.declared.tuples.Tuple.{Tuple}
use Rattle.dpc_model.specs.declared.operators.Agg.{Agg}
use Rattle.dpc_model.specs.declared.operators.Agg.TheVariants as agg
use Rattle.dpc_model.specs.declared.operators.OpKind.{OpKind}
use Rattle.dpc_model.specs.declared.operators.OpKind.TheVariants as kind
use Rattle.dpc_model.specs.declared.plans.SourceSpec.{SourceSpec}
use Rattle.dpc_model.specs.declared.plans.FragSpec.{FragSpec}
use Rattle.dpc_model.specs.declared.scripts.Directive.{Directive}
use Rattle.dpc_model.specs.declared.scripts.Directive.TheVariants.{Crash, Restart}
use Rattle.dpc_model.specs.declared.scripts.Phase.{Phase}
use Rattle.script_rules.specs.declared.reasons.Reason.{Reason}
use Rattle.script_rules.specs.declared.reasons.Reason.TheVariants.{ForeignByte, ForeignWord, WrongCount, NoNumber, OutOfRange, OutOfPart, NameTaken, Unknown, OutOfTime, NoSuchColumn, ReadsAhead, PartMissing, AgainstState, PastLimit}
use Rattle.script_rules.specs.ReasonTable.{number_of}
use Rattle.script_rules.specs.Lines.{is_foreign_byte, is_skipped, words_of}
use Rattle.script_rules.specs.declared.keywords.Keyword.TheVariants as key
use Rattle.script_rules.specs.Keywords.{keyword_of}
use Rattle.script_rules.specs.declared.keywords.Keyword.{Keyword}
use Rattle.script_rules.specs.Places.{places_of, placed, leaves_over, is_foreign, is_no_number, is_out_of_range}
use Rattle.script_rules.specs.declared.places.Sort.{Sort}
use Rattle.script_rules.specs.Statements.{Statement, statement_of, HeaderLine, SourceLine, LogLine, FragmentLine, OperatorLine, ClientLine, BeginLine, SendLine, LinkLine, NodeLine, TickLine}
use Rattle.script_rules.specs.Drafts.{Draft, version_of, width_of, end_of, has_header, names, source_named, stream_named, wire_named, actor_named, plan_of, last_frag}

-- ---- a byte that is neither printable ASCII nor LF

abbrev pub has_foreign_byte : List ℕ → Bool
has_foreign_byte line = list_any is_foreign_byte line

-- ---- words and numbers at their places. A line is seen here as its keyword and the words behind it

-- some word with a place breaks a rule of places
abbrev pub some_placed : (Sort → Word → Bool) → Draft → Keyword → List Word → Bool
some_placed breaks d k words = list_any (λ (x : Sort × Word). breaks x.0 x.1) (placed (places_of d k) words)

-- a word that can't stand at its place
abbrev pub has_foreign_word : Draft → Keyword → List Word → Bool
has_foreign_word d k words = some_placed is_foreign d k words

-- too few or too many words
abbrev pub has_wrong_length : Draft → Keyword → List Word → Bool
has_wrong_length d k words = leaves_over (places_of d k) words

-- no number at a number's place
abbrev pub lacks_number : Draft → Keyword → List Word → Bool
lacks_number d k words = some_placed is_no_number d k words

-- a number out of its range
abbrev pub is_past_range : Draft → Keyword → List Word → Bool
is_past_range d k words = some_placed is_out_of_range d k words

-- ---- a line in the wrong part

-- behind the header and before `begin`
abbrev pub declares : Draft → Bool
declares d = has_header d && not d.begun

abbrev pub runs : Draft → Bool
runs d = d.begun && not d.settle

-- the line before was that of a fragment
abbrev pub is_fresh : Draft → Bool
is_fresh d = is_nil (last_frag d).ops && is_none (last_frag d).delay

abbrev pub is_its_part : Draft → Keyword → Bool
is_its_part d (key.Header place) = place == length d.header
is_its_part d key.Source = declares d && is_nil d.frags && is_nil d.clients
is_its_part d key.Log = declares d && is_nil d.frags && is_nil d.clients
is_its_part d key.Fragment = declares d && is_nil d.clients
is_its_part d key.Patience = declares d && not (is_nil d.frags) && is_nil d.clients && is_fresh d
is_its_part d key.Filter = declares d && not (is_nil d.frags) && is_nil d.clients
is_its_part d key.Map = declares d && not (is_nil d.frags) && is_nil d.clients
is_its_part d key.Union = declares d && not (is_nil d.frags) && is_nil d.clients
is_its_part d key.Join = declares d && not (is_nil d.frags) && is_nil d.clients
is_its_part d key.Aggregate = declares d && not (is_nil d.frags) && is_nil d.clients
is_its_part d key.Client = declares d
is_its_part d key.Begin = declares d
is_its_part d _ = runs d

abbrev pub is_out_of_part : Draft → Keyword → Bool
is_out_of_part d k = not (is_its_part d k)

-- ---- from here on a line is seen as what it says

abbrev pub is_among : Word → List Word → Bool
is_among w ws = list_any (bytes_eq w) ws

abbrev pub has_twice : List Word → Bool
has_twice [] = false
has_twice (w ∷ ws) = is_among w ws || has_twice ws

-- a name that is taken, or a stream twice in one fragment
abbrev pub takes_name : Draft → Statement → Bool
takes_name d (SourceLine name columns) = is_among name (names d)
takes_name d (FragmentLine name replicas streams) = is_among name (names d) || has_twice streams
takes_name d (OperatorLine name inputs kind) = is_among name (names d)
takes_name d (ClientLine name stream) = is_among name (names d)
takes_name d _ = false

abbrev pub is_node : Role → Bool
is_node (IsNode f r) = true
is_node (IsSource s) = false
is_node (IsClient c) = false
is_node Nobody = false

-- whether a name is one of a node
abbrev pub names_node : Draft → Word → Bool
names_node d w = unwrap_or (option_map (λ a. is_node (role_of (plan_of d) a)) (actor_named d w)) false

-- whether two names are those of actors that a link joins
abbrev pub names_link : Draft → Word → Word → Bool
names_link d a b =
    unwrap_or (option_map (λ x. unwrap_or (option_map (λ y. are_linked (plan_of d) x y) (actor_named d b)) false) (actor_named d a)) false

-- an unknown operator input, source, actor or node; two actors without a link
abbrev pub is_unknown : Draft → Statement → Bool
is_unknown d (LogLine source time vals) = is_none (source_named d source)
is_unknown d (OperatorLine name inputs kind) = list_any (λ w. is_none (wire_named d w)) inputs
is_unknown d (SendLine make source time) = is_none (source_named d source)
is_unknown d (LinkLine make a b) = not (names_link d a b)
is_unknown d (NodeLine crash node) = not (names_node d node)
is_unknown d _ = false

-- the source of a log line
abbrev pub source_at : Draft → Word → SourceSpec
source_at d w = nth (record { name = []; columns = 0; log = [] }) d.sources (unwrap_or (source_named d w) 0)

abbrev pub last_time : List Tuple → ℕ
last_time log = unwrap_or (last_or None (map (λ (t : Tuple). t.stime) log)) 0

-- a log time below the source's last one, or not below end
abbrev pub is_out_of_time : Draft → Statement → Bool
is_out_of_time d (LogLine source time vals) = nat_lt time (last_time (source_at d source).log) || not (nat_lt time (end_of d))
is_out_of_time d _ = false

-- the columns of what an operator of the last fragment reads
abbrev pub input_columns : Draft → List Word → List ℕ
input_columns d inputs =
    let ports = map (stream_columns (plan_of d)) (last_frag d).inputs in
    map (λ w. unwrap_or (option_map (wire_columns ports (columns_after ports [] (last_frag d).ops)) (wire_named d w)) 0) inputs

abbrev pub agg_reads_below : ℕ → Agg → Bool
agg_reads_below n agg.Count = true
agg_reads_below n (agg.Sum c) = nat_lt c n
agg_reads_below n (agg.Min c) = nat_lt c n
agg_reads_below n (agg.Max c) = nat_lt c n

-- every column that an operator reads of its inputs is there, and the inputs of a union have as many
abbrev pub fits_inputs : OpKind → List ℕ → Bool
fits_inputs (kind.Filter e) inputs = reads_below (nth 0 inputs 0) e
fits_inputs (kind.Map es) inputs = list_all (reads_below (nth 0 inputs 0)) es
fits_inputs kind.Union inputs = list_all (λ n. n == nth 0 inputs 0) inputs
fits_inputs (kind.Join within keys) inputs = list_all (λ (pair : ℕ × ℕ). nat_lt pair.0 (nth 0 inputs 0) && nat_lt pair.1 (nth 0 inputs 1)) keys
fits_inputs (kind.Aggregate size step group aggs) inputs =
    nat_lt (unwrap_or (option_map (λ c. c + 1) group) 0) (nth 0 inputs 0 + 1) && list_all (agg_reads_below (nth 0 inputs 0)) aggs

-- a column that isn't there, a wrong number of values, unequal columns in a union, more than 8 columns in a result
abbrev pub misses_column : Draft → Statement → Bool
misses_column d (LogLine source time vals) = not (length vals == (source_at d source).columns)
misses_column d (OperatorLine name inputs kind) =
    not (fits_inputs kind (input_columns d inputs)) || nat_lt 8 (kind_columns kind (input_columns d inputs))
misses_column d _ = false

-- a fragment or client reads a stream that wasn't declared before
abbrev pub reads_ahead : Draft → Statement → Bool
reads_ahead d (FragmentLine name replicas streams) = list_any (λ w. is_none (stream_named d w)) streams
reads_ahead d (ClientLine name stream) = is_none (stream_named d stream)
reads_ahead d _ = false

-- a part missing, named at `begin`
abbrev pub lacks_part : Draft → Statement → Bool
lacks_part d BeginLine = is_nil d.sources || is_nil d.frags || is_nil d.clients || list_any (λ (f : FragSpec). is_nil f.ops) d.frags
lacks_part d _ = false

-- .. and at the end of input no `begin`, or directives without a tick
abbrev pub lacks_end : Draft → Bool
lacks_end d = not d.begun || not (is_nil d.directives)

abbrev pub all_directives : Draft → List Directive
all_directives d = flat_map (λ (p : Phase). p.directives) d.phases ++ d.directives

-- whether a node is down after a directive
abbrev pub down_after : ℕ → Bool → Directive → Bool
down_after a down (Crash b) = a == b || down
down_after a down (Restart b) = not (a == b) && down
down_after a down _ = down

-- whether a node is down: its last crash or restart is a crash
abbrev pub is_down : Draft → Word → Bool
is_down d node = fold (down_after (unwrap_or (actor_named d node) 0)) false (all_directives d)

abbrev pub last_clock : Draft → ℕ
last_clock d = unwrap_or (last_or None (map (λ (p : Phase). p.now) d.phases)) 0

-- a clock below the last one, a crash of a node that is down, a restart of a node that is up
abbrev pub is_against_state : Draft → Statement → Bool
is_against_state d (TickLine now) = nat_lt now (last_clock d)
is_against_state d (NodeLine true node) = is_down d node
is_against_state d (NodeLine false node) = not (is_down d node)
is_against_state d _ = false

-- ---- past a limit

abbrev pub is_too_long : Formula → Bool
is_too_long e = nat_lt 64 (formula.words e)

-- an expression of more than 64 words, or more than 64 windows for a tuple
abbrev pub is_too_large : OpKind → Bool
is_too_large (kind.Filter e) = is_too_long e
is_too_large (kind.Map es) = list_any is_too_long es
is_too_large kind.Union = false
is_too_large (kind.Join within keys) = false
is_too_large (kind.Aggregate size step group aggs) = nat_lt (64 * step) size

-- whether there is no room for one more
abbrev pub is_full : {X : Type 0} → ℕ → List X → Bool
is_full limit xs = not (nat_lt (length xs) limit)

abbrev pub log_entries : Draft → ℕ
log_entries d = sum_by (λ (s : SourceSpec). length s.log) d.sources

abbrev pub passes_limit : Draft → Statement → Bool
passes_limit d (HeaderLine place number) = place == 3 && nat_lt 10000 (number / width_of d)
passes_limit d (SourceLine name columns) = is_full 16 d.sources
passes_limit d (LogLine source time vals) = not (nat_lt (log_entries d) 200000)
passes_limit d (FragmentLine name replicas streams) = is_full 16 d.frags
passes_limit d (OperatorLine name inputs kind) = is_full 16 (last_frag d).ops || is_too_large kind
passes_limit d (ClientLine name stream) = is_full 16 d.clients
passes_limit d (TickLine now) = is_full 2000 d.phases
passes_limit d _ = false

-- ---- all of them

-- the reason beside the first test that holds
abbrev pub first_of_tests : List (Bool × Reason) → Option Reason
first_of_tests [] = None
first_of_tests (x ∷ xs) = if x.0 then Some x.1 else first_of_tests xs

-- the reasons against what a line says
abbrev pub tests_said : Draft → Statement → List (Bool × Reason)
tests_said d s =
    (takes_name d s, NameTaken) ∷ (is_unknown d s, Unknown) ∷ (is_out_of_time d s, OutOfTime) ∷ (misses_column d s, NoSuchColumn)
    ∷ (reads_ahead d s, ReadsAhead) ∷ (lacks_part d s, PartMissing) ∷ (is_against_state d s, AgainstState)
    ∷ (passes_limit d s, PastLimit) ∷ []

-- those against a line's words; without a keyword the first one is foreign
abbrev pub tests_of_words : Draft → Option Keyword → List Word → List (Bool × Reason)
tests_of_words d None words = (true, ForeignWord) ∷ []
tests_of_words d (Some k) words =
    (has_foreign_word d k words, ForeignWord) ∷ (has_wrong_length d k words, WrongCount) ∷ (lacks_number d k words, NoNumber)
    ∷ (is_past_range d k words, OutOfRange) ∷ (is_out_of_part d k, OutOfPart) ∷ tests_said d (statement_of k words)

abbrev pub keyword_in : Draft → List Word → Option Keyword
keyword_in d [] = None
keyword_in d (w ∷ words) = keyword_of (version_of d) w

-- those against a line that is not skipped
abbrev pub tests_unless_skipped : Bool → Draft → List Word → List (Bool × Reason)
tests_unless_skipped true d words = []
tests_unless_skipped false d words = tests_of_words d (keyword_in d words) (drop 1 words)

-- all reasons against a line
abbrev pub tests_of : Draft → List ℕ → List (Bool × Reason)
tests_of d line = (has_foreign_byte line, ForeignByte) ∷ tests_unless_skipped (is_skipped line) d (words_of line)

-- whether a reason is among those that hold
abbrev pub holds_among : List (Bool × Reason) → Reason → Bool
holds_among tests r = list_any (λ (x : Bool × Reason). x.0 && number_of x.1 == number_of r) tests

-- whether a reason applies to a line, behind those that said d
abbrev pub applies : Draft → List ℕ → Reason → Bool
applies d line r = holds_among (tests_of d line) r
