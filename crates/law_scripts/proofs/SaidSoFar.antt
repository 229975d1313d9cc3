-- What a script under way says so far, in the order of its canonical text, and how sources and clients add to it.
use Rattle.std.proofs.Common.{◌≡◌, ℕ, zero, suc, ◌+◌, Bool, false, List, [], ◌∷◌, ◌++◌, map, length, Some, refl, sym, ap, subst, ◌∙◌, arith}
use Rattle.std.specs.Prelude.{ℤ, flat_map, is_none, unwrap_or, if◌then◌else◌}
use Rattle.std.proofs.lemmas.List.{append-nil, append_assoc, map-append, length-map}
use Rattle.dpc_lists.specs.Lists.{is_nil, changed}
use Rattle.dpc_model.specs.Words.{Word}
use Rattle.dpc_model.specs.declared.tuples.Tuple.{Tuple}
use Rattle.dpc_model.specs.declared.operators.OpSpec.{OpSpec}
use Rattle.dpc_model.specs.declared.plans.SourceSpec.{SourceSpec}
use Rattle.dpc_model.specs.declared.plans.FragSpec.{FragSpec}
use Rattle.dpc_model.specs.declared.plans.ClientSpec.{ClientSpec}
use Rattle.script_rules.specs.Statements.{Statement, HeaderLine, SourceLine, LogLine, FragmentLine, OperatorLine, ClientLine, BeginLine}
use Rattle.script_rules.specs.Drafts.{Draft, plan_of, names, source_names, frag_names, op_names, place_of_name, source_named, and_then, with_log}
use Rattle.script_rules.specs.Reasons.{is_among, has_twice}
use Rattle.script_rules.specs.Checking.{source_statements, patience_statements, phase_statements, directive_statement}
use Rattle.script_rules.proofs.Apart.{twice-first, twice-remove}
use Rattle.script_rules.proofs.Lasts.{place-last, changed-last}
use Rattle.script_rules.proofs.Streams.{name_at, stream_at}
use Rattle.script_rules.proofs.Recalled.{wire_name}
use Rattle.script_rules.proofs.Found.{found, found_is}
use Rattle.script_rules.proofs.Headers.{declared}
use Rattle.script_rules.proofs.Parts.{said_at_last}

-- ---- statements, by the names of streams and of wires

abbrev pub op_said : List Word → List Word → OpSpec → Statement
op_said ports ops op = OperatorLine op.name (map (wire_name ports ops) op.reads) op.kind

-- an operator's fragment with these ports
abbrev pub frag_said_at : List Word → FragSpec → List Statement
frag_said_at ports f = FragmentLine f.name f.replicas ports ∷ (patience_statements f.delay ++ map (op_said ports (op_names f)) f.ops)

abbrev pub frag_said : List Word → List Word → FragSpec → List Statement
frag_said sources frags f = frag_said_at (map (name_at sources frags) f.inputs) f

abbrev pub client_said : List Word → List Word → ClientSpec → Statement
client_said sources frags c = ClientLine c.name (name_at sources frags c.input)

abbrev pub heads : ℕ → List ℕ → List Statement
heads i [] = []
heads i (n ∷ ns) = HeaderLine i n ∷ heads (i + 1) ns

abbrev pub begun_said : Bool → List Statement
begun_said begun = if begun then BeginLine ∷ [] else []

-- all that is said so far, and then the rest
abbrev pub said_then : Draft → List Statement → List Statement
said_then d rest =
    heads 0 d.header ++ (flat_map source_statements d.sources ++ (flat_map (frag_said (source_names d) (frag_names d)) d.frags ++ (map (client_said (source_names d) (frag_names d)) d.clients
    ++ (begun_said d.begun ++ (flat_map (phase_statements (plan_of d)) d.phases ++ (map (directive_statement (plan_of d)) d.directives ++ (said_at_last d.settle ++ rest)))))))

-- a further statement is said at the end
abbrev pub Grows : Draft → Statement → Type 0
Grows d s = (rest : List Statement) → said_then (and_then d s) rest ≡ said_then d (s ∷ rest)

-- ---- lists with a further element

pub flat-push : {X Y : Type 0} (f : X → List Y) (xs : List X) (x : X) (rest : List Y) → flat_map f (xs ++ x ∷ []) ++ rest ≡ flat_map f xs ++ (f x ++ rest)
flat-push f [] x rest = ap (λ l. l ++ rest) (append-nil (f x))
flat-push f (y ∷ xs) x rest = append_assoc (f y) (flat_map f (xs ++ x ∷ [])) rest ∙ ap (λ l. f y ++ l) (flat-push f xs x rest) ∙ sym (append_assoc (f y) (flat_map f xs) (f x ++ rest))

pub map-push : {X Y : Type 0} (f : X → Y) (xs : List X) (x : X) (rest : List Y) → map f (xs ++ x ∷ []) ++ rest ≡ map f xs ++ (f x ∷ rest)
map-push f [] x rest = refl
map-push f (y ∷ xs) x rest = ap (λ l. f y ∷ l) (map-push f xs x rest)

-- a list that ends, its last element apart
pub record Split {X : Type 0} (xs : List X) : Type 0 where
  pub done : List X
  pub last : X
  pub parts : xs ≡ done ++ last ∷ []

split_at : {X : Type 0} (x : X) (xs : List X) → Split (x ∷ xs)
split_at x [] = record { done = []; last = x; parts = refl }
split_at x (y ∷ xs) = let rest = split_at y xs in record { done = x ∷ rest.done; last = rest.last; parts = ap (λ l. x ∷ l) rest.parts }

pub split : {X : Type 0} (xs : List X) → is_nil xs ≡ false → Split xs
split [] h = absurd cc
split (x ∷ xs) h = split_at x xs

-- ---- before `begin`

-- nothing has run
pub record IsEarly (d : Draft) : Type 0 where
  pub begun : d.begun ≡ false
  pub phases : d.phases ≡ []
  pub directives : d.directives ≡ []
  pub settle : d.settle ≡ false

pub as_declared : (d : Draft) → IsEarly d → d ≡ declared d.header d.sources d.frags d.clients
as_declared d e =
    ap (λ b. record d { begun = b }) e.begun ∙ ap (λ ps. record d { begun = false; phases = ps }) e.phases ∙ ap (λ xs. record d { begun = false; phases = []; directives = xs }) e.directives
    ∙ ap (λ b. record d { begun = false; phases = []; directives = []; settle = b }) e.settle

-- ---- the header

heads-push : (i : ℕ) (h : List ℕ) (n : ℕ) (rest : List Statement) → heads i (h ++ n ∷ []) ++ rest ≡ heads i h ++ (HeaderLine (i + length h) n ∷ rest)
heads-push i [] n rest = let same : i ≡ i + 0 = omega arith in ap (λ k. HeaderLine k n ∷ rest) same
heads-push i (m ∷ h) n rest =
    let same : (i + 1) + length h ≡ i + suc (length h) = omega arith in
    ap (λ l. HeaderLine i m ∷ l) (heads-push (i + 1) h n rest ∙ ap (λ k. heads (i + 1) h ++ (HeaderLine k n ∷ rest)) same)

pub header_grows : (h : List ℕ) (place n : ℕ) → place ≡ length h → Grows (declared h [] [] []) (HeaderLine place n)
header_grows h place n e rest =
    let same : 0 + length h ≡ place = omega (arith, e) in
    heads-push 0 h n rest ∙ ap (λ k. heads 0 h ++ (HeaderLine k n ∷ rest)) same

-- ---- sources

pub source_grows : (h : List ℕ) (ss : List SourceSpec) (name : Word) (columns : ℕ) → Grows (declared h ss [] []) (SourceLine name columns)
source_grows h ss name columns rest = ap (λ l. heads 0 h ++ l) (flat-push source_statements ss (record { name = name; columns = columns; log = [] }) rest)

-- the name of the source that was declared last
abbrev pub last_name : List SourceSpec → Word
last_name [] = []
last_name (s ∷ []) = s.name
last_name (s ∷ t ∷ ss) = last_name (t ∷ ss)

pub last_name-push : (ss : List SourceSpec) (s : SourceSpec) → last_name (ss ++ s ∷ []) ≡ s.name
last_name-push [] s = refl
last_name-push (x ∷ []) s = refl
last_name-push (x ∷ y ∷ ss) s = last_name-push (y ∷ ss) s

pub last_name-changed : (i : ℕ) (t : Tuple) (ss : List SourceSpec) → last_name (changed i (with_log t) ss) ≡ last_name ss
last_name-changed i t [] = refl
last_name-changed zero t (s ∷ []) = refl
last_name-changed (suc i) t (s ∷ []) = refl
last_name-changed zero t (s ∷ x ∷ ss) = refl
last_name-changed (suc zero) t (s ∷ x ∷ []) = refl
last_name-changed (suc (suc i)) t (s ∷ x ∷ []) = refl
last_name-changed (suc zero) t (s ∷ x ∷ y ∷ ss) = refl
last_name-changed (suc (suc i)) t (s ∷ x ∷ y ∷ ss) = last_name-changed (suc i) t (x ∷ y ∷ ss)

-- an entry of the last source
entry_said : (s : SourceSpec) (t : Tuple) (rest : List Statement) → source_statements (with_log t s) ++ rest ≡ source_statements s ++ (LogLine s.name t.stime t.vals ∷ rest)
entry_said s t rest = ap (λ l. SourceLine s.name s.columns ∷ l) (map-push (λ (x : Tuple). LogLine s.name x.stime x.vals) s.log t rest)

found_last : (h : List ℕ) (done : List SourceSpec) (s : SourceSpec) → has_twice (names (declared h (done ++ s ∷ []) [] [])) ≡ false → source_named (declared h (done ++ s ∷ []) [] []) s.name ≡ Some (length done)
found_last h done s apart =
    let before : List Word = map (λ (x : SourceSpec). x.name) done in
    let all : List Word = map (λ (x : SourceSpec). x.name) (done ++ s ∷ []) in
    let same : all ≡ before ++ s.name ∷ [] = map-append (λ (x : SourceSpec). x.name) done (s ∷ []) in
    let first : has_twice all ≡ false = twice-first all [] (twice-first (all ++ []) [] (twice-first ((all ++ []) ++ []) [] apart)) in
    let other : is_among s.name before ≡ false = ap (is_among s.name) (sym (append-nil before)) ∙ (twice-remove s.name before [] (ap has_twice (sym same) ∙ first)).0 in
    ap (place_of_name s.name) same ∙ place-last s.name before other ∙ ap Some (length-map done (λ (x : SourceSpec). x.name))

log_grows_last : (h : List ℕ) (done : List SourceSpec) (s : SourceSpec) (time : ℕ) (vals : List ℤ) → has_twice (names (declared h (done ++ s ∷ []) [] [])) ≡ false → Grows (declared h (done ++ s ∷ []) [] []) (LogLine s.name time vals)
log_grows_last h done s time vals apart rest =
    let t : Tuple = record { stime = time; vals = vals } in
    ap (λ o. heads 0 h ++ (flat_map source_statements (changed (unwrap_or o 0) (with_log t) (done ++ s ∷ [])) ++ rest)) (found_last h done s apart)
    ∙ ap (λ l. heads 0 h ++ (flat_map source_statements l ++ rest)) (changed-last (with_log t) done s)
    ∙ ap (λ l. heads 0 h ++ l) (flat-push source_statements done (with_log t s) rest ∙ ap (λ l. flat_map source_statements done ++ l) (entry_said s t rest) ∙ sym (flat-push source_statements done s (LogLine s.name time vals ∷ rest)))

-- each entry is of the source that was declared last
abbrev LogGrows : List ℕ → Word → ℕ → List ℤ → List SourceSpec → Type 0
LogGrows h source time vals ss = has_twice (names (declared h ss [] [])) ≡ false → source ≡ last_name ss → Grows (declared h ss [] []) (LogLine source time vals)

pub log_grows : (h : List ℕ) (ss : List SourceSpec) (source : Word) (time : ℕ) (vals : List ℤ) → is_none (source_named (declared h ss [] []) source) ≡ false → LogGrows h source time vals ss
log_grows h [] source time vals known = absurd cc
log_grows h (x ∷ ss) source time vals known =
    let l = split_at x ss in
    subst (LogGrows h source time vals) (sym l.parts) (λ apart e.
    let same : source ≡ l.last.name = e ∙ last_name-push l.done l.last in
    subst (λ w. Grows (declared h (l.done ++ l.last ∷ []) [] []) (LogLine w time vals)) (sym same) (log_grows_last h l.done l.last time vals apart))

-- ---- clients

pub client_grows : (h : List ℕ) (ss : List SourceSpec) (fs : List FragSpec) (cs : List ClientSpec) (name stream : Word) →
    is_none (stream_at (source_names (declared h ss fs cs)) (frag_names (declared h ss fs cs)) stream) ≡ false → Grows (declared h ss fs cs) (ClientLine name stream)
client_grows h ss fs cs name stream known rest =
    let d = declared h ss fs cs in
    let sources : List Word = source_names d in
    let frags : List Word = frag_names d in
    let c : ClientSpec = record { name = name; input = found sources frags stream } in
    let same : name_at sources frags (found sources frags stream) ≡ stream = (found_is stream sources frags known).1 in
    ap (λ l. heads 0 h ++ (flat_map source_statements ss ++ (flat_map (frag_said sources frags) fs ++ l)))
    (map-push (client_said sources frags) cs c rest ∙ ap (λ w. map (client_said sources frags) cs ++ (ClientLine name w ∷ rest)) same)

-- ---- `begin`

pub begin_grows : (h : List ℕ) (ss : List SourceSpec) (fs : List FragSpec) (cs : List ClientSpec) → Grows (declared h ss fs cs) BeginLine
begin_grows h ss fs cs rest = refl
