-- Each line of a canonical text is said at the end of what the lines before it say.
use Rattle.std.proofs.Common.{◌≡◌, ℕ, zero, suc, ◌+◌, ◌≤◌, Bool, true, false, List, [], ◌∷◌, ◌++◌, length, refl, sym, ap, subst, ◌∙◌, arith}
use Rattle.std.specs.Prelude.{ℤ, ⊤, not, ◌&&◌, ◌==◌, is_none, bytes_eq}
use Rattle.std.proofs.lemmas.Bool.{not-false, not-true, and_parts, ltb-true, lt-ltb, eqb-true}
use Rattle.dpc_lists.specs.Lists.{is_nil, list_all, list_any}
use Rattle.dpc_model.specs.Words.{Word}
use Rattle.dpc_model.specs.declared.operators.OpKind.{OpKind}
use Rattle.dpc_model.specs.declared.plans.FragSpec.{FragSpec}
use Rattle.dpc_model.specs.declared.plans.ClientSpec.{ClientSpec}
use Rattle.dpc_model.specs.declared.plans.StreamRef.{StreamRef}
use Rattle.dpc_model.specs.declared.plans.StreamRef.TheVariants.{Source, Frag}
use Rattle.dpc_model.specs.declared.scripts.Directive.TheVariants as directive
use Rattle.dpc_lists.proofs.Truths.{not-both}
use Rattle.dpc_lists.proofs.Elements.{nil-of}
use Rattle.script_rules.specs.declared.keywords.Keyword.{Keyword}
use Rattle.script_rules.specs.declared.keywords.Keyword.TheVariants as key
use Rattle.script_rules.specs.declared.places.Sort.TheVariants.{Range}
use Rattle.script_rules.specs.Spelling.{number}
use Rattle.script_rules.specs.Statements.{Statement, statement_of, word, number_at, HeaderLine, SourceLine, LogLine, FragmentLine, PatienceLine, OperatorLine, ClientLine, BeginLine, SendLine, LinkLine, NodeLine, TickLine, SettleLine}
use Rattle.script_rules.specs.Places.{must, places_of, is_between}
use Rattle.script_rules.specs.Drafts.{Draft, nothing_yet, names, has_header, wire_named, and_then}
use Rattle.script_rules.specs.Reasons.{declares, is_fresh, runs, is_its_part, has_twice}
use Rattle.script_rules.specs.Canonical.{logs_follow}
use Rattle.script_rules.proofs.Passing.{IsFine}
use Rattle.script_rules.proofs.Apart.{same_word}
use Rattle.script_rules.proofs.Ranges.{between}
use Rattle.script_rules.proofs.Headers.{declared}
use Rattle.script_rules.proofs.Inputs.{EachReads}
use Rattle.script_rules.proofs.Streams.{is_within}
use Rattle.script_rules.proofs.Formed.{IsPlaced, is_declaring}
use Rattle.script_rules.proofs.Fitted.{IsFitted, fitted}
use Rattle.law_scripts.proofs.Filling.{Fills}
use Rattle.law_scripts.proofs.Saying.{keyword_word, is_keyword}
use Rattle.law_scripts.proofs.SaidSoFar.{Grows, IsEarly, as_declared, header_grows, source_grows, last_name, last_name-push, last_name-changed, log_grows, client_grows, begin_grows}
use Rattle.law_scripts.proofs.FragsSaid.{are_within, fragment_grows, patience_grows, operator_grows}
use Rattle.law_scripts.proofs.RunSaid.{IsRunning, in_running, send_grows, link_grows, crash_grows, restart_grows, tick_grows, settle_grows}

-- ---- what every line of a canonical text keeps

-- the header's fifth number is 0 or 1
abbrev pub IsFlag : List ℕ → Type 0
IsFlag (v ∷ w ∷ dl ∷ e ∷ p ∷ rest) = p ≤ 1
IsFlag _ = ⊤

-- a script under way, whose source that was declared last has that name
pub record IsUnderWay (last : Word) (d : Draft) : Type 0 where
  pub fitted : IsFitted d
  pub early : d.begun ≡ false → IsEarly d
  pub flag : IsFlag d.header
  pub named : last ≡ last_name d.sources

pub nothing_under_way : IsFitted nothing_yet → IsUnderWay [] nothing_yet
nothing_under_way h = record { fitted = h; early = λ yet. record { begun = refl; phases = refl; directives = refl; settle = refl }; flag = tt; named = refl }

-- a line's first word, and what stands behind it
pub record IsLine (last : Word) (d : Draft) (k : Keyword) (ws : List Word) : Type 0 where
  pub known : is_keyword k ≡ true
  pub fills : Fills (places_of d k) ws
  pub part : is_its_part d k ≡ true
  pub fine : IsFine d (statement_of k ws)
  pub placed : IsPlaced d (statement_of k ws)
  pub state : IsUnderWay last d

-- ---- logs

-- the last source's name behind a line
abbrev pub next_last : Keyword → List Word → Word → Word
next_last key.Source ws last = word ws 0
next_last _ ws last = last

-- what canonical logs say of a line and of those behind it
record Follows (k : Keyword) (ws : List Word) (last : Word) (lines : List (List Word)) : Type 0 where
  here : k ≡ key.Log → bytes_eq (word ws 0) last ≡ true
  rest : logs_follow (next_last k ws last) lines ≡ true

follows : (k : Keyword) (ws : List Word) (last : Word) (lines : List (List Word)) → is_keyword k ≡ true → logs_follow last ((keyword_word k ∷ ws) ∷ lines) ≡ true → Follows k ws last lines
follows (key.Header zero) ws last lines known h = record { here = λ e. absurd cc; rest = h }
follows (key.Header (suc zero)) ws last lines known h = record { here = λ e. absurd cc; rest = h }
follows (key.Header (suc (suc zero))) ws last lines known h = record { here = λ e. absurd cc; rest = h }
follows (key.Header (suc (suc (suc zero)))) ws last lines known h = record { here = λ e. absurd cc; rest = h }
follows (key.Header (suc (suc (suc (suc zero))))) ws last lines known h = record { here = λ e. absurd cc; rest = h }
follows (key.Header (suc (suc (suc (suc (suc n)))))) ws last lines known h = let few = ltb-true (suc (suc (suc (suc (suc n))))) 5 known in absurd (omega (arith, few))
follows key.Source ws last lines known h = record { here = λ e. absurd cc; rest = h }
follows key.Log ws last lines known h = let p = and_parts (bytes_eq (word ws 0) last) (logs_follow last lines) h in record { here = λ e. p.0; rest = p.1 }
follows key.Fragment ws last lines known h = record { here = λ e. absurd cc; rest = h }
follows key.Patience ws last lines known h = record { here = λ e. absurd cc; rest = h }
follows key.Filter ws last lines known h = record { here = λ e. absurd cc; rest = h }
follows key.Map ws last lines known h = record { here = λ e. absurd cc; rest = h }
follows key.Union ws last lines known h = record { here = λ e. absurd cc; rest = h }
follows key.Join ws last lines known h = record { here = λ e. absurd cc; rest = h }
follows key.Aggregate ws last lines known h = record { here = λ e. absurd cc; rest = h }
follows key.Client ws last lines known h = record { here = λ e. absurd cc; rest = h }
follows key.Begin ws last lines known h = record { here = λ e. absurd cc; rest = h }
follows key.Emit ws last lines known h = record { here = λ e. absurd cc; rest = h }
follows key.Release ws last lines known h = record { here = λ e. absurd cc; rest = h }
follows key.Cut ws last lines known h = record { here = λ e. absurd cc; rest = h }
follows key.Heal ws last lines known h = record { here = λ e. absurd cc; rest = h }
follows key.Lose ws last lines known h = record { here = λ e. absurd cc; rest = h }
follows key.Repeat ws last lines known h = record { here = λ e. absurd cc; rest = h }
follows key.Crash ws last lines known h = record { here = λ e. absurd cc; rest = h }
follows key.Restart ws last lines known h = record { here = λ e. absurd cc; rest = h }
follows key.Tick ws last lines known h = record { here = λ e. absurd cc; rest = h }
follows key.Settle ws last lines known h = record { here = λ e. absurd cc; rest = h }

last_kept : (d : Draft) (k : Keyword) (ws : List Word) (last : Word) → last ≡ last_name d.sources → next_last k ws last ≡ last_name (and_then d (statement_of k ws)).sources
last_kept d (key.Header place) ws last h = h
last_kept d key.Source ws last h = sym (last_name-push d.sources (record { name = word ws 0; columns = number_at ws 1; log = [] }))
last_kept d key.Log ws last h = h ∙ sym (last_name-changed _ _ d.sources)
last_kept d key.Fragment ws last h = h
last_kept d key.Patience ws last h = h
last_kept d key.Filter ws last h = h
last_kept d key.Map ws last h = h
last_kept d key.Union ws last h = h
last_kept d key.Join ws last h = h
last_kept d key.Aggregate ws last h = h
last_kept d key.Client ws last h = h
last_kept d key.Begin ws last h = h
last_kept d key.Emit ws last h = h
last_kept d key.Release ws last h = h
last_kept d key.Cut ws last h = h
last_kept d key.Heal ws last h = h
last_kept d key.Lose ws last h = h
last_kept d key.Repeat ws last h = h
last_kept d key.Crash ws last h = h
last_kept d key.Restart ws last h = h
last_kept d key.Tick ws last h = h
last_kept d key.Settle ws last h = h

-- ---- before `begin`

late : (d : Draft) → d.begun ≡ true → d.begun ≡ false → ⊥
late d h k = not-both d.begun h k

pub early_kept : (d : Draft) (s : Statement) → IsPlaced d s → (d.begun ≡ false → IsEarly d) → (and_then d s).begun ≡ false → IsEarly (and_then d s)
early_kept d (HeaderLine place n) p e yet = let k = e yet in record { begun = yet; phases = k.phases; directives = k.directives; settle = k.settle }
early_kept d (SourceLine name columns) p e yet = let k = e yet in record { begun = yet; phases = k.phases; directives = k.directives; settle = k.settle }
early_kept d (LogLine source time vals) p e yet = let k = e yet in record { begun = yet; phases = k.phases; directives = k.directives; settle = k.settle }
early_kept d (FragmentLine name replicas streams) p e yet = let k = e yet in record { begun = yet; phases = k.phases; directives = k.directives; settle = k.settle }
early_kept d (PatienceLine delay) p e yet = let k = e yet in record { begun = yet; phases = k.phases; directives = k.directives; settle = k.settle }
early_kept d (OperatorLine name inputs kind) p e yet = let k = e yet in record { begun = yet; phases = k.phases; directives = k.directives; settle = k.settle }
early_kept d (ClientLine name stream) p e yet = let k = e yet in record { begun = yet; phases = k.phases; directives = k.directives; settle = k.settle }
early_kept d BeginLine p e yet = absurd cc
early_kept d (SendLine make source time) p e yet = absurd (late d p.0 yet)
early_kept d (LinkLine make a b) p e yet = absurd (late d p.0 yet)
early_kept d (NodeLine true node) p e yet = absurd (late d p yet)
early_kept d (NodeLine false node) p e yet = absurd (late d p yet)
early_kept d (TickLine now) p e yet = absurd (late d p yet)
early_kept d SettleLine p e yet = absurd (late d p yet)

-- ---- the header's last number

flag-push : (h : List ℕ) (n : ℕ) → IsFlag h → (length h ≡ 4 → n ≤ 1) → IsFlag (h ++ n ∷ [])
flag-push [] n h k = tt
flag-push (v ∷ []) n h k = tt
flag-push (v ∷ w ∷ []) n h k = tt
flag-push (v ∷ w ∷ dl ∷ []) n h k = tt
flag-push (v ∷ w ∷ dl ∷ e ∷ []) n h k = k refl
flag-push (v ∷ w ∷ dl ∷ e ∷ p ∷ rest) n h k = h

flag_alone : (ws : List Word) → Fills (must (Range 0 1) ∷ []) ws → number_at ws 0 ≤ 1
flag_alone [] h = absurd cc
flag_alone (w ∷ ws) h = (between 0 1 (number w) (not-false (is_between 0 1 (number w)) h.0.range)).1

pub flag_kept : (d : Draft) (k : Keyword) (ws : List Word) → Fills (places_of d k) ws → is_its_part d k ≡ true → IsFlag d.header → IsFlag (and_then d (statement_of k ws)).header
flag_kept d (key.Header place) ws fill part h =
    let here : place ≡ length d.header = eqb-true place (length d.header) part in
    flag-push d.header (number_at ws 0) h (λ four. flag_alone ws (subst (λ n. Fills (places_of d (key.Header n)) ws) (here ∙ four) fill))
flag_kept d key.Source ws fill part h = h
flag_kept d key.Log ws fill part h = h
flag_kept d key.Fragment ws fill part h = h
flag_kept d key.Patience ws fill part h = h
flag_kept d key.Filter ws fill part h = h
flag_kept d key.Map ws fill part h = h
flag_kept d key.Union ws fill part h = h
flag_kept d key.Join ws fill part h = h
flag_kept d key.Aggregate ws fill part h = h
flag_kept d key.Client ws fill part h = h
flag_kept d key.Begin ws fill part h = h
flag_kept d key.Emit ws fill part h = h
flag_kept d key.Release ws fill part h = h
flag_kept d key.Cut ws fill part h = h
flag_kept d key.Heal ws fill part h = h
flag_kept d key.Lose ws fill part h = h
flag_kept d key.Repeat ws fill part h = h
flag_kept d key.Crash ws fill part h = h
flag_kept d key.Restart ws fill part h = h
flag_kept d key.Tick ws fill part h = h
flag_kept d key.Settle ws fill part h = h

-- ---- it grows

wider : (n m k : ℕ) (ss : List StreamRef) → m ≤ k → list_all (is_within n m) ss ≡ true → list_all (is_within n k) ss ≡ true
wider n m k [] low h = refl
wider n m k (s ∷ ss) low h =
    let p = and_parts (is_within n m s) (list_all (is_within n m) ss) h in
    rw (one s p.0, wider n m k ss low p.1) refl
  where
    one : (s : StreamRef) → is_within n m s ≡ true → is_within n k s ≡ true
    one (Source s) h = h
    one (Frag f) h = let less = ltb-true f m h in lt-ltb f k (omega (arith, less, low))

each_within : (n m k : ℕ) (fs : List FragSpec) → m + length fs ≤ k → EachReads n m fs → are_within n k fs ≡ true
each_within n m k [] few h = refl
each_within n m k (f ∷ fs) few h = rw (wider n m k f.inputs (omega (arith, few)) h.0, each_within n (m + 1) k fs (omega (arith, few)) h.1) refl

-- a script that declares, with these clients
with_clients : (d : Draft) (cs : List ClientSpec) → IsEarly d → d.clients ≡ cs → d ≡ declared d.header d.sources d.frags cs
with_clients d cs e same = as_declared d e ∙ ap (declared d.header d.sources d.frags) same

with_frags : (d : Draft) (fs : List FragSpec) (cs : List ClientSpec) → IsEarly d → d.frags ≡ fs → d.clients ≡ cs → d ≡ declared d.header d.sources fs cs
with_frags d fs cs e frags clients = with_clients d cs e clients ∙ ap (λ l. declared d.header d.sources l cs) frags

module _ (last : Word) (d : Draft) where
  early_of : IsUnderWay last d → declares d ≡ true → IsEarly d
  early_of u h = u.early (is_declaring d h).1

  running_of : runs d ≡ true → IsRunning d
  running_of h =
      let p = and_parts d.begun (not d.settle) h in
      record { begun = p.0; settle = not-true d.settle p.1 }

  header_line_grows : (place n : ℕ) → IsUnderWay last d → has_header d ≡ false → (place == length d.header) ≡ true → Grows d (HeaderLine place n)
  header_line_grows place n u none here =
      let bare = u.fitted.form.parts.waits none in
      let early : IsEarly d = u.early (not_yet d.begun refl) in
      let same : d ≡ declared d.header [] [] [] = with_frags d [] [] early bare.frags bare.clients ∙ ap (λ ss. declared d.header ss [] []) bare.sources in
      subst (λ e. Grows e (HeaderLine place n)) (sym same) (header_grows d.header place n (eqb-true place (length d.header) here))
    where
      not_yet : (b : Bool) → d.begun ≡ b → b ≡ false
      not_yet true is = absurd (not-both (has_header d) (u.fitted.form.parts.whole is).header none)
      not_yet false is = refl

  source_line_grows : (name : Word) (columns : ℕ) → IsUnderWay last d → IsPlaced d (SourceLine name columns) → Grows d (SourceLine name columns)
  source_line_grows name columns u p =
      let same = with_frags d [] [] (early_of u p.0) (nil-of d.frags p.1) (nil-of d.clients p.2) in
      subst (λ e. Grows e (SourceLine name columns)) (sym same) (source_grows d.header d.sources name columns)

  log_line_grows : (source : Word) (time : ℕ) (vals : List ℤ) → IsUnderWay last d → IsPlaced d (LogLine source time vals) → IsFine d (LogLine source time vals) → source ≡ last → Grows d (LogLine source time vals)
  log_line_grows source time vals u p fine is =
      let same = with_frags d [] [] (early_of u p.0) (nil-of d.frags p.1) (nil-of d.clients p.2) in
      let apart : has_twice (names (declared d.header d.sources [] [])) ≡ false = subst (λ e. has_twice (names e) ≡ false) same u.fitted.form.distinct in
      subst (λ e. Grows e (LogLine source time vals)) (sym same) (log_grows d.header d.sources source time vals fine.known apart (is ∙ u.named))

  frag_line_grows : (name : Word) (replicas : ℕ) (streams : List Word) → IsUnderWay last d → IsPlaced d (FragmentLine name replicas streams) → IsFine d (FragmentLine name replicas streams) → Grows d (FragmentLine name replicas streams)
  frag_line_grows name replicas streams u p fine =
      let same = with_clients d [] (early_of u p.0) (nil-of d.clients p.1) in
      let within : are_within (length d.sources) (length d.frags) d.frags ≡ true = each_within (length d.sources) 0 (length d.frags) d.frags (omega arith) u.fitted.form.frags.reads in
      subst (λ e. Grows e (FragmentLine name replicas streams)) (sym same) (fragment_grows d.header d.sources d.frags name replicas streams within fine.stream)

  -- in the part of a fragment's operators
  in_frag : (declares d && not (is_nil d.frags) && is_nil d.clients) ≡ true → (declares d ≡ true) × (is_nil d.frags ≡ false) × (is_nil d.clients ≡ true)
  in_frag h =
      let p = and_parts (declares d && not (is_nil d.frags)) (is_nil d.clients) h in
      let q = and_parts (declares d) (not (is_nil d.frags)) p.0 in
      (q.0, not-true (is_nil d.frags) q.1, p.1)

  patience_line_grows : (n : ℕ) → IsUnderWay last d → (declares d && not (is_nil d.frags) && is_nil d.clients && is_fresh d) ≡ true → Grows d (PatienceLine n)
  patience_line_grows n u part =
      let p = and_parts (declares d && not (is_nil d.frags) && is_nil d.clients) (is_fresh d) part in
      let q = in_frag p.0 in
      let same = with_clients d [] (early_of u q.0) (nil-of d.clients q.2) in
      subst (λ e. Grows e (PatienceLine n)) (sym same) (patience_grows d.header d.sources n d.frags q.1 p.1)

  operator_line_grows : (name : Word) (inputs : List Word) (kind : OpKind) → IsUnderWay last d → (declares d && not (is_nil d.frags) && is_nil d.clients) ≡ true → IsFine d (OperatorLine name inputs kind) → Grows d (OperatorLine name inputs kind)
  operator_line_grows name inputs kind u part fine =
      let q = in_frag part in
      let same = with_clients d [] (early_of u q.0) (nil-of d.clients q.2) in
      let known : list_any (λ w. is_none (wire_named (declared d.header d.sources d.frags []) w)) inputs ≡ false = subst (λ e. list_any (λ w. is_none (wire_named e w)) inputs ≡ false) same fine.known in
      subst (λ e. Grows e (OperatorLine name inputs kind)) (sym same) (operator_grows d.header d.sources name inputs kind d.frags q.1 u.fitted.frags known)

  client_line_grows : (name stream : Word) → IsUnderWay last d → declares d ≡ true → IsFine d (ClientLine name stream) → Grows d (ClientLine name stream)
  client_line_grows name stream u p fine =
      subst (λ e. Grows e (ClientLine name stream)) (sym (as_declared d (early_of u p))) (client_grows d.header d.sources d.frags d.clients name stream fine.stream)

  begin_line_grows : IsUnderWay last d → declares d ≡ true → Grows d BeginLine
  begin_line_grows u p = subst (λ e. Grows e BeginLine) (sym (as_declared d (early_of u p))) (begin_grows d.header d.sources d.frags d.clients)

  pub line_grows : (k : Keyword) (ws : List Word) → IsLine last d k ws → (k ≡ key.Log → word ws 0 ≡ last) → Grows d (statement_of k ws)
  line_grows (key.Header place) ws l is = header_line_grows place _ l.state l.placed.0 l.part
  line_grows key.Source ws l is = source_line_grows _ _ l.state l.placed
  line_grows key.Log ws l is = log_line_grows _ _ _ l.state l.placed l.fine (is refl)
  line_grows key.Fragment ws l is = frag_line_grows _ _ _ l.state l.placed l.fine
  line_grows key.Patience ws l is = patience_line_grows _ l.state l.part
  line_grows key.Filter ws l is = operator_line_grows _ _ _ l.state l.part l.fine
  line_grows key.Map ws l is = operator_line_grows _ _ _ l.state l.part l.fine
  line_grows key.Union ws l is = operator_line_grows _ _ _ l.state l.part l.fine
  line_grows key.Join ws l is = operator_line_grows _ _ _ l.state l.part l.fine
  line_grows key.Aggregate ws l is = operator_line_grows _ _ _ l.state l.part l.fine
  line_grows key.Client ws l is = client_line_grows _ _ l.state l.part l.fine
  line_grows key.Begin ws l is = begin_line_grows l.state l.part
  line_grows key.Emit ws l is = in_running d _ (running_of l.part) (send_grows d directive.Emit _ _ (λ plan s t. refl) l.fine)
  line_grows key.Release ws l is = in_running d _ (running_of l.part) (send_grows d directive.Release _ _ (λ plan s t. refl) l.fine)
  line_grows key.Cut ws l is = in_running d _ (running_of l.part) (link_grows d directive.Cut _ _ (λ plan a b. refl) l.fine)
  line_grows key.Heal ws l is = in_running d _ (running_of l.part) (link_grows d directive.Heal _ _ (λ plan a b. refl) l.fine)
  line_grows key.Lose ws l is = in_running d _ (running_of l.part) (link_grows d directive.Lose _ _ (λ plan a b. refl) l.fine)
  line_grows key.Repeat ws l is = in_running d _ (running_of l.part) (link_grows d directive.Repeat _ _ (λ plan a b. refl) l.fine)
  line_grows key.Crash ws l is = in_running d _ (running_of l.part) (crash_grows d _ l.fine)
  line_grows key.Restart ws l is = in_running d _ (running_of l.part) (restart_grows d _ l.fine)
  line_grows key.Tick ws l is = in_running d _ (running_of l.part) (tick_grows d _)
  line_grows key.Settle ws l is = in_running d _ (running_of l.part) (settle_grows d)

  -- ---- a line, and the state behind it

  pub record IsStep (k : Keyword) (ws : List Word) (lines : List (List Word)) : Type 0 where
    pub grows : Grows d (statement_of k ws)
    pub next : Word
    pub follow : logs_follow next lines ≡ true
    pub state : IsUnderWay next (and_then d (statement_of k ws))

  pub line_steps : (k : Keyword) (ws : List Word) (lines : List (List Word)) → IsLine last d k ws → logs_follow last ((keyword_word k ∷ ws) ∷ lines) ≡ true → IsStep k ws lines
  line_steps k ws lines l h =
      let f = follows k ws last lines l.known h in
      let u = l.state in
      record {
        grows = line_grows k ws l (λ log. same_word (word ws 0) last (f.here log));
        next = next_last k ws last;
        follow = f.rest;
        state = record {
          fitted = fitted d (statement_of k ws) l.placed l.fine u.fitted;
          early = early_kept d (statement_of k ws) l.placed u.early;
          flag = flag_kept d k ws l.fills l.part u.flag;
          named = last_kept d k ws last u.named;
        };
      }
