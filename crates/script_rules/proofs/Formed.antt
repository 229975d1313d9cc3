-- The form of a script under way: what every line keeps against which there is no reason.
use Rattle.std.proofs.Common.{◌≡◌, ℕ, ℤ, ◌+◌, ◌^◌, ◌/◌, ◌%◌, ◌<◌, ◌≤◌, true, false, List, [], ◌∷◌, ◌++◌, map, length, None, refl, sym, ap, subst, ◌∙◌, arith}
use Rattle.std.specs.Prelude.{⊤, not, ◌&&◌, ◌||◌, ◌==◌, nat_lt, unwrap_or}
use Rattle.std.proofs.lemmas.Bool.{and_parts, or_parts, not-false, not-true, ltb-false, ltb-true}
use Rattle.std.proofs.lemmas.List.{length-map}
use Rattle.dpc_lists.specs.Lists.{changed, list_all, is_nil, list_any}
use Rattle.dpc_model.specs.Words.{Word}
use Rattle.dpc_model.specs.Fragments.{IsSoundKind, AreSoundOps, AreSoundFrags}
use Rattle.dpc_model.specs.declared.tuples.Tuple.{Tuple}
use Rattle.dpc_model.specs.declared.plans.SourceSpec.{SourceSpec}
use Rattle.dpc_model.specs.declared.plans.FragSpec.{FragSpec}
use Rattle.dpc_model.specs.declared.plans.ClientSpec.{ClientSpec}
use Rattle.dpc_model.specs.declared.plans.Plan.{Plan}
use Rattle.dpc_model.specs.declared.scripts.Directive.{Directive}
use Rattle.dpc_model.specs.Actors.{are_linked}
use Rattle.dpc_lists.proofs.Truths.{not-both}
use Rattle.script_rules.specs.Places.{is_between}
use Rattle.script_rules.specs.Statements.{Statement, HeaderLine, SourceLine, LogLine, FragmentLine, PatienceLine, OperatorLine, ClientLine, BeginLine, SendLine, LinkLine, NodeLine, TickLine, SettleLine}
use Rattle.script_rules.specs.Drafts.{Draft, and_then, names, source_names, frag_names, end_of, has_header, source_named, with_delay}
use Rattle.script_rules.specs.Reasons.{declares, source_at, last_time, is_among, has_twice, log_entries}
use Rattle.script_rules.specs.Facts.{directive_fits, log_fits, reads_once, has_sizes}
use Rattle.script_rules.proofs.Passing.{IsFine}
use Rattle.script_rules.proofs.Naming.{names_apart}
use Rattle.script_rules.proofs.Clocks.{AreClocks, clocks}
use Rattle.script_rules.proofs.Clocks as clock
use Rattle.script_rules.proofs.Sources.{entries_of}
use Rattle.script_rules.proofs.Streams.{is_within}
use Rattle.script_rules.proofs.Inputs.{EachReads}
use Rattle.script_rules.proofs.Growing.{all-push, all-changed, AreInTime, logs-changed, in_time-push, in_time-changed, entries-push, entries-changed, reads-push, reads-changed, sound-push, sound-changed, keeps_sound}
use Rattle.script_rules.proofs.Found.{found, found_is, found_within, found_once}

-- ---- what a line's words and its part say

-- an end, behind a width
abbrev pub IsEnd : ℕ → ℕ → Type 0
IsEnd w e = (w ≤ e) × (e < 2 ^ 62) × (e % w ≡ 0) × (e / w ≤ 10000)

-- a number that may stand next in the header
abbrev pub IsNext : List ℕ → ℕ → Type 0
IsNext [] n = ⊤
IsNext (v ∷ []) n = 1 ≤ n
IsNext (v ∷ w ∷ []) n = ⊤
IsNext (v ∷ w ∷ dl ∷ []) n = IsEnd w n
IsNext (v ∷ w ∷ dl ∷ e ∷ rest) n = ⊤

-- what a directive of a source and of a link wants
abbrev pub SendsTo : (ℕ → ℕ → Directive) → Type 0
SendsTo make = (plan : Plan) (s t : ℕ) → directive_fits plan (make s t) ≡ nat_lt s (length plan.sources)

abbrev pub ActsOnLink : (ℕ → ℕ → Directive) → Type 0
ActsOnLink make = (plan : Plan) (a b : ℕ) → directive_fits plan (make a b) ≡ are_linked plan a b

-- in its part of the script, with numbers and counts in their ranges
abbrev pub IsPlaced : Draft → Statement → Type 0
IsPlaced d (HeaderLine place number) = (has_header d ≡ false) × IsNext d.header number
IsPlaced d (SourceLine name columns) = (declares d ≡ true) × (is_nil d.frags ≡ true) × (is_nil d.clients ≡ true)
IsPlaced d (LogLine source time vals) = (declares d ≡ true) × (is_nil d.frags ≡ true) × (is_nil d.clients ≡ true)
IsPlaced d (FragmentLine name replicas streams) =
    (declares d ≡ true) × (is_nil d.clients ≡ true) × (is_between 1 4 replicas ≡ true) × (is_between 1 8 (length streams) ≡ true)
IsPlaced d (PatienceLine delay) = (declares d ≡ true) × (is_nil d.clients ≡ true)
IsPlaced d (OperatorLine name inputs kind) = (declares d ≡ true) × (is_nil d.clients ≡ true) × IsSoundKind kind
IsPlaced d (ClientLine name stream) = declares d ≡ true
IsPlaced d BeginLine = declares d ≡ true
IsPlaced d (SendLine make source time) = (d.begun ≡ true) × SendsTo make
IsPlaced d (LinkLine make a b) = (d.begun ≡ true) × ActsOnLink make
IsPlaced d (NodeLine crash node) = d.begun ≡ true
IsPlaced d (TickLine now) = d.begun ≡ true
IsPlaced d SettleLine = d.begun ≡ true

-- ---- the header, and what stands behind it

abbrev pub IsHeader : List ℕ → Type 0
IsHeader [] = ⊤
IsHeader (v ∷ []) = ⊤
IsHeader (v ∷ w ∷ []) = 1 ≤ w
IsHeader (v ∷ w ∷ dl ∷ []) = 1 ≤ w
IsHeader (v ∷ w ∷ dl ∷ e ∷ rest) = (1 ≤ w) × IsEnd w e

header-push : (h : List ℕ) (n : ℕ) → IsHeader h → IsNext h n → IsHeader (h ++ n ∷ [])
header-push [] n h k = tt
header-push (v ∷ []) n h k = k
header-push (v ∷ w ∷ []) n h k = h
header-push (v ∷ w ∷ dl ∷ []) n h k = (h, k)
header-push (v ∷ w ∷ dl ∷ e ∷ rest) n h k = h

-- nothing is declared
pub record IsBare (d : Draft) : Type 0 where
  pub sources : d.sources ≡ []
  pub frags : d.frags ≡ []
  pub clients : d.clients ≡ []

-- what `begin` wants
pub record IsWhole (d : Draft) : Type 0 where
  pub header : has_header d ≡ true
  pub source : is_nil d.sources ≡ false
  pub frag : is_nil d.frags ≡ false
  pub client : is_nil d.clients ≡ false

pub record IsInParts (d : Draft) : Type 0 where
  pub header : IsHeader d.header
  pub waits : has_header d ≡ false → IsBare d
  pub whole : d.begun ≡ true → IsWhole d

-- behind the header, before `begin`
abbrev pub IsDeclaring : Draft → Type 0
IsDeclaring d = (has_header d ≡ true) × (d.begun ≡ false)

pub is_declaring : (d : Draft) → declares d ≡ true → IsDeclaring d
is_declaring d h =
    let p = and_parts (has_header d) (not d.begun) h in
    (p.0, not-true d.begun p.1)

-- a declaration leaves the header and `begin` as they are
still_in_parts : (d e : Draft) → declares d ≡ true → e.header ≡ d.header → e.begun ≡ d.begun → has_header e ≡ has_header d → IsInParts d → IsInParts e
still_in_parts d e h header begun same k =
    let p = is_declaring d h in
    record {
      header = subst IsHeader (sym header) k.header;
      waits = λ none. absurd (not-both (has_header d) p.0 (sym same ∙ none));
      whole = λ yes. absurd (not-both d.begun (sym begun ∙ yes) p.1);
    }

-- so does what runs
same_parts : (d e : Draft) → e.header ≡ d.header → e.begun ≡ d.begun → e.sources ≡ d.sources → e.frags ≡ d.frags → e.clients ≡ d.clients → IsInParts d → IsInParts e
same_parts d e header begun sources frags clients k =
    let same : has_header e ≡ has_header d = ap (λ h. has_header (record d { header = h })) header in
    record {
      header = subst IsHeader (sym header) k.header;
      waits = λ none. let bare = k.waits (sym same ∙ none) in record { sources = sources ∙ bare.sources; frags = frags ∙ bare.frags; clients = clients ∙ bare.clients };
      whole = λ yes. let whole = k.whole (sym begun ∙ yes) in
          record { header = same ∙ whole.header; source = ap is_nil sources ∙ whole.source; frag = ap is_nil frags ∙ whole.frag; client = ap is_nil clients ∙ whole.client };
    }

in_parts : (d : Draft) (s : Statement) → IsPlaced d s → IsFine d s → IsInParts d → IsInParts (and_then d s)
in_parts d (HeaderLine place number) p fine k =
    let bare = k.waits p.0 in
    record {
      header = header-push d.header number k.header p.1;
      waits = λ none. record { sources = bare.sources; frags = bare.frags; clients = bare.clients };
      whole = λ yes. let header : has_header d ≡ true = (k.whole yes).header in let none : has_header d ≡ false = p.0 in absurd cc;
    }
in_parts d (SourceLine name columns) p fine k = still_in_parts d _ p.0 refl refl refl k
in_parts d (LogLine source time vals) p fine k = still_in_parts d _ p.0 refl refl refl k
in_parts d (FragmentLine name replicas streams) p fine k = still_in_parts d _ p.0 refl refl refl k
in_parts d (PatienceLine delay) p fine k = still_in_parts d _ p.0 refl refl refl k
in_parts d (OperatorLine name inputs kind) p fine k = still_in_parts d _ p.0 refl refl refl k
in_parts d (ClientLine name stream) p fine k = still_in_parts d _ p refl refl refl k
in_parts d BeginLine p fine k =
    let tests = or_parts (is_nil d.sources || is_nil d.frags || is_nil d.clients) (list_any (λ (f : FragSpec). is_nil f.ops) d.frags) fine.parts in
    let three = or_parts (is_nil d.sources || is_nil d.frags) (is_nil d.clients) tests.0 in
    let two = or_parts (is_nil d.sources) (is_nil d.frags) three.0 in
    let declaring = is_declaring d p in
    record {
      header = k.header;
      waits = λ none. let bare = k.waits none in record { sources = bare.sources; frags = bare.frags; clients = bare.clients };
      whole = λ yes. record { header = declaring.0; source = two.0; frag = two.1; client = three.1 };
    }
in_parts d (SendLine make source time) p fine k = same_parts d _ refl refl refl refl refl k
in_parts d (LinkLine make a b) p fine k = same_parts d _ refl refl refl refl refl k
in_parts d (NodeLine true node) p fine k = same_parts d _ refl refl refl refl refl k
in_parts d (NodeLine false node) p fine k = same_parts d _ refl refl refl refl refl k
in_parts d (TickLine now) p fine k = same_parts d _ refl refl refl refl refl k
in_parts d SettleLine p fine k = same_parts d _ refl refl refl refl refl k

-- ---- sources

pub record AreFormedSources (end : ℕ) (xs : List SourceSpec) : Type 0 where
  pub fit : list_all (log_fits end) xs ≡ true
  pub ordered : AreInTime xs
  pub few : entries_of xs ≤ 200000

no_sources : (end : ℕ) → AreFormedSources end []
no_sources end = record { fit = refl; ordered = tt; few = omega arith }

with_entry : (d : Draft) (source : Word) (time : ℕ) (vals : List ℤ) → IsFine d (LogLine source time vals) → AreFormedSources (end_of d) d.sources →
    AreFormedSources (end_of d) (and_then d (LogLine source time vals)).sources
with_entry d source time vals fine k =
    let i : ℕ = unwrap_or (source_named d source) 0 in
    let t : Tuple = record { stime = time; vals = vals } in
    let tests = or_parts (nat_lt time (last_time (source_at d source).log)) (not (nat_lt time (end_of d))) fine.time in
    let low = ltb-false time (last_time (source_at d source).log) tests.0 in
    let below = not-false (nat_lt time (end_of d)) tests.1 in
    let counted = not-false (length vals == (source_at d source).columns) fine.columns in
    let room : entries_of d.sources < 200000 = ltb-true (entries_of d.sources) 200000 (not-false (nat_lt (log_entries d) 200000) fine.limit) in
    let more = entries-changed i t d.sources in
    record {
      fit = logs-changed (end_of d) i t d.sources below counted k.fit;
      ordered = in_time-changed i t d.sources low k.ordered;
      few = omega (arith, room, more);
    }

sources_formed : (d : Draft) (s : Statement) → IsPlaced d s → IsFine d s → IsInParts d → AreFormedSources (end_of d) d.sources → AreFormedSources (end_of (and_then d s)) (and_then d s).sources
sources_formed d (HeaderLine place number) p fine parts k = subst (AreFormedSources (end_of (and_then d (HeaderLine place number)))) (sym (parts.waits p.0).sources) (no_sources _)
sources_formed d (SourceLine name columns) p fine parts k =
    let s : SourceSpec = record { name = name; columns = columns; log = [] } in
    let same = entries-push d.sources s refl in
    let few = k.few in
    record { fit = all-push (log_fits (end_of d)) d.sources s k.fit refl; ordered = in_time-push d.sources s k.ordered tt; few = omega (arith, same, few) }
sources_formed d (LogLine source time vals) p fine parts k = with_entry d source time vals fine k
sources_formed d (FragmentLine name replicas streams) p fine parts k = k
sources_formed d (PatienceLine delay) p fine parts k = k
sources_formed d (OperatorLine name inputs kind) p fine parts k = k
sources_formed d (ClientLine name stream) p fine parts k = k
sources_formed d BeginLine p fine parts k = k
sources_formed d (SendLine make source time) p fine parts k = k
sources_formed d (LinkLine make a b) p fine parts k = k
sources_formed d (NodeLine true node) p fine parts k = k
sources_formed d (NodeLine false node) p fine parts k = k
sources_formed d (TickLine now) p fine parts k = k
sources_formed d SettleLine p fine parts k = k

-- ---- fragments

pub record AreFormedFrags (sources : ℕ) (fs : List FragSpec) : Type 0 where
  pub sound : AreSoundFrags fs
  pub reads : EachReads sources 0 fs
  pub sizes : list_all has_sizes fs ≡ true
  pub once : list_all (λ (f : FragSpec). reads_once f.inputs) fs ≡ true

no_frags : (sources : ℕ) (fs : List FragSpec) → is_nil fs ≡ true → AreFormedFrags sources fs
no_frags sources [] none = record { sound = tt; reads = tt; sizes = refl; once = refl }
no_frags sources (f ∷ fs) none = absurd cc

-- a fragment is changed, but for what it reads and its replicas
frag_changed : (sources i : ℕ) (g : FragSpec → FragSpec) (fs : List FragSpec) → ((f : FragSpec) → (g f).inputs ≡ f.inputs) → ((f : FragSpec) → (g f).replicas ≡ f.replicas) →
    ((f : FragSpec) → AreSoundOps f.ops → AreSoundOps (g f).ops) → AreFormedFrags sources fs → AreFormedFrags sources (changed i g fs)
frag_changed sources i g fs inputs replicas sound k =
    record {
      sound = sound-changed i g fs sound k.sound;
      reads = reads-changed sources 0 i g fs inputs k.reads;
      sizes = all-changed has_sizes g i fs (λ f. ap (λ n. is_between 1 4 n && is_between 1 8 (length (g f).inputs)) (replicas f) ∙ ap (λ l. is_between 1 4 f.replicas && is_between 1 8 (length l)) (inputs f)) k.sizes;
      once = all-changed (λ (f : FragSpec). reads_once f.inputs) g i fs (λ f. ap reads_once (inputs f)) k.once;
    }

with_frag : (d : Draft) (name : Word) (replicas : ℕ) (streams : List Word) → IsPlaced d (FragmentLine name replicas streams) → IsFine d (FragmentLine name replicas streams) →
    AreFormedFrags (length d.sources) d.frags → AreFormedFrags (length d.sources) (and_then d (FragmentLine name replicas streams)).frags
with_frag d name replicas streams p fine k =
    let inputs = map (found (source_names d) (frag_names d)) streams in
    let f : FragSpec = record { name = name; replicas = replicas; delay = None; inputs = inputs; ops = [] } in
    let names_differ = or_parts (is_among name (names d)) (has_twice streams) fine.name in
    let within : list_all (is_within (length (source_names d)) (length (frag_names d))) inputs ≡ true = found_within (source_names d) (frag_names d) streams fine.stream in
    let sources : length (source_names d) ≡ length d.sources = length-map d.sources (λ (s : SourceSpec). s.name) in
    let frags : length (frag_names d) ≡ length d.frags = length-map d.frags (λ (g : FragSpec). g.name) in
    let here : list_all (is_within (length d.sources) (length d.frags)) inputs ≡ true =
    subst (λ m. list_all (is_within (length d.sources) m) inputs ≡ true) frags (subst (λ n. list_all (is_within n (length (frag_names d))) inputs ≡ true) sources within) in
    let behind : length d.frags ≡ 0 + length d.frags = omega arith in
    let many : length inputs ≡ length streams = length-map streams (found (source_names d) (frag_names d)) in
    let ports : is_between 1 8 (length inputs) ≡ true = ap (is_between 1 8) many ∙ p.3 in
    record {
      sound = sound-push d.frags f k.sound tt;
      reads = reads-push (length d.sources) 0 d.frags f k.reads (subst (λ n. list_all (is_within (length d.sources) n) inputs ≡ true) behind here);
      sizes = all-push has_sizes d.frags f k.sizes (rw (p.2, ports) refl);
      once = all-push (λ (g : FragSpec). reads_once g.inputs) d.frags f k.once (found_once (source_names d) (frag_names d) streams fine.stream names_differ.1);
    }

frags_formed : (d : Draft) (s : Statement) → IsPlaced d s → IsFine d s → AreFormedFrags (length d.sources) d.frags → AreFormedFrags (length (and_then d s).sources) (and_then d s).frags
frags_formed d (HeaderLine place number) p fine k = k
frags_formed d (SourceLine name columns) p fine k = no_frags _ d.frags p.1
frags_formed d (LogLine source time vals) p fine k = no_frags _ d.frags p.1
frags_formed d (FragmentLine name replicas streams) p fine k = with_frag d name replicas streams p fine k
frags_formed d (PatienceLine delay) p fine k = frag_changed _ _ (with_delay delay) d.frags (λ f. refl) (λ f. refl) (λ f h. h) k
frags_formed d (OperatorLine name inputs kind) p fine k = frag_changed _ _ _ d.frags (λ f. refl) (λ f. refl) (keeps_sound _ p.2) k
frags_formed d (ClientLine name stream) p fine k = k
frags_formed d BeginLine p fine k = k
frags_formed d (SendLine make source time) p fine k = k
frags_formed d (LinkLine make a b) p fine k = k
frags_formed d (NodeLine true node) p fine k = k
frags_formed d (NodeLine false node) p fine k = k
frags_formed d (TickLine now) p fine k = k
frags_formed d SettleLine p fine k = k

-- ---- clients

abbrev pub AreFormedClients : ℕ → ℕ → List ClientSpec → Type 0
AreFormedClients sources frags cs = list_all (λ (c : ClientSpec). is_within sources frags c.input) cs ≡ true

no_clients : (sources frags : ℕ) (cs : List ClientSpec) → is_nil cs ≡ true → AreFormedClients sources frags cs
no_clients sources frags [] none = refl
no_clients sources frags (c ∷ cs) none = absurd cc

with_client : (d : Draft) (name stream : Word) → IsFine d (ClientLine name stream) → AreFormedClients (length d.sources) (length d.frags) d.clients →
    AreFormedClients (length d.sources) (length d.frags) (and_then d (ClientLine name stream)).clients
with_client d name stream fine k =
    let within = (found_is stream (source_names d) (frag_names d) fine.stream).0 in
    let sources : length (source_names d) ≡ length d.sources = length-map d.sources (λ (s : SourceSpec). s.name) in
    let frags : length (frag_names d) ≡ length d.frags = length-map d.frags (λ (g : FragSpec). g.name) in
    let input = found (source_names d) (frag_names d) stream in
    let here : is_within (length d.sources) (length d.frags) input ≡ true =
    subst (λ m. is_within (length d.sources) m input ≡ true) frags (subst (λ n. is_within n (length (frag_names d)) input ≡ true) sources within) in
    all-push (λ (c : ClientSpec). is_within (length d.sources) (length d.frags) c.input) d.clients _ k here

clients_formed : (d : Draft) (s : Statement) → IsPlaced d s → IsFine d s → AreFormedClients (length d.sources) (length d.frags) d.clients →
    AreFormedClients (length (and_then d s).sources) (length (and_then d s).frags) (and_then d s).clients
clients_formed d (HeaderLine place number) p fine k = k
clients_formed d (SourceLine name columns) p fine k = no_clients _ _ d.clients p.2
clients_formed d (LogLine source time vals) p fine k = no_clients _ _ d.clients p.2
clients_formed d (FragmentLine name replicas streams) p fine k = no_clients _ _ d.clients p.1
clients_formed d (PatienceLine delay) p fine k = no_clients _ _ d.clients p.1
clients_formed d (OperatorLine name inputs kind) p fine k = no_clients _ _ d.clients p.1
clients_formed d (ClientLine name stream) p fine k = with_client d name stream fine k
clients_formed d BeginLine p fine k = k
clients_formed d (SendLine make source time) p fine k = k
clients_formed d (LinkLine make a b) p fine k = k
clients_formed d (NodeLine true node) p fine k = k
clients_formed d (NodeLine false node) p fine k = k
clients_formed d (TickLine now) p fine k = k
clients_formed d SettleLine p fine k = k

-- ---- all of it

pub record IsFormed (d : Draft) : Type 0 where
  pub parts : IsInParts d
  pub sources : AreFormedSources (end_of d) d.sources
  pub frags : AreFormedFrags (length d.sources) d.frags
  pub clients : AreFormedClients (length d.sources) (length d.frags) d.clients
  pub distinct : has_twice (names d) ≡ false
  pub clocks : AreClocks (clocks d)

pub formed : (d : Draft) (s : Statement) → IsPlaced d s → IsFine d s → IsFormed d → IsFormed (and_then d s)
formed d s p fine k =
    record {
      parts = in_parts d s p fine k.parts;
      sources = sources_formed d s p fine k.parts k.sources;
      frags = frags_formed d s p fine k.frags;
      clients = clients_formed d s p fine k.clients;
      distinct = names_apart d s fine.name k.distinct;
      clocks = clock.step d s fine k.clocks;
    }
