-- Clients, and `begin`, are judged behind all fragments.
use Rattle.std.proofs.Common.{◌≡◌, ℕ, ◌+◌, ◌<◌, ◌≤◌, true, false, List, [], ◌∷◌, ◌++◌, map, take, drop, length, Some, None, refl, sym, ap, subst, ◌∙◌, get_or}
use Rattle.std.specs.Prelude.{Ok, Err, ◌||◌, not, nat_lt, flat_map, is_none, unwrap_or, bytes_eq}
use Rattle.std.proofs.lemmas.List.{map_push, length-map, take_more, take_all}
use Rattle.std.proofs.lemmas.List.Folds.{list_any-append}
use Rattle.dpc_lists.specs.Lists.{list_any, is_nil}
use Rattle.dpc_model.specs.Words.{Word}
use Rattle.dpc_model.specs.ScriptText.{stream_name}
use Rattle.dpc_model.specs.declared.operators.OpSpec.{OpSpec}
use Rattle.dpc_model.specs.declared.plans.FragSpec.{FragSpec}
use Rattle.dpc_model.specs.declared.plans.ClientSpec.{ClientSpec}
use Rattle.dpc_model.specs.declared.plans.Plan.{Plan}
use Rattle.dpc_model.specs.declared.plans.StreamRef.TheVariants.{Source}
use Rattle.dpc_lists.proofs.Elements.{nil-map}
use Rattle.script_rules.specs.declared.reasons.Reason.{Reason}
use Rattle.script_rules.specs.declared.reasons.Reason.TheVariants.{NameTaken, ReadsAhead, PartMissing, PastLimit}
use Rattle.script_rules.specs.Statements.{BeginLine}
use Rattle.script_rules.specs.Drafts.{Draft, and_then, op_names, stream_named}
use Rattle.script_rules.specs.Reasons.{first_of_tests, tests_said, is_among, is_full}
use Rattle.script_rules.specs.Checking.{client_statement}
use Rattle.script_rules.proofs.Streams.{stream_at}
use Rattle.script_rules.proofs.Passing.{all_said, said-append}
use Rattle.script_check.specs.Judging.{told, Judges, declaring}
use Rattle.script_check.specs.Locals.{named_sources, named_frags, named_clients, names_before, stream_of, against_client, lacks_part}
use Rattle.script_check.specs.Behind.{IsBehindClients, JudgesClients}
use Rattle.script_check.proofs.Judging.{judges_none, judges_then, judges_one, judges_fault, map-more, map-parted}
use Rattle.script_check.proofs.Standing.{flat-same}

module _ (plan : Plan) where
  client_tested : (before : List ClientSpec) (d : Draft) (c : ClientSpec) → IsBehindClients plan before d → first_of_tests (tests_said d (client_statement plan c)) ≡ first_of_tests (against_client plan before c)
  client_tested before d c b =
      let s = named_sources plan.sources in
      let w = stream_name plan c.input in
      let among = is_among c.name in
      let many : length b.clients ≡ length before = sym (length-map b.clients (λ (x : ClientSpec). x.name)) ∙ ap (λ (l : List Word). length l) b.same ∙ length-map before (λ (x : ClientSpec). x.name) in
      ap (λ e. first_of_tests (tests_said e (client_statement plan c))) b.draft
      ∙ ap (λ x. first_of_tests ((x, NameTaken) ∷ (is_none (stream_at s (named_frags b.fs) w), ReadsAhead) ∷ (is_full 16 b.clients, PastLimit) ∷ []))
      (list_any-append (bytes_eq c.name) ((s ++ named_frags b.fs) ++ flat_map op_names b.fs) (named_clients b.clients)
      ∙ ap (λ l. among ((s ++ l) ++ flat_map op_names b.fs) || among (named_clients b.clients)) b.named ∙ ap (λ l. among ((s ++ named_frags plan.frags) ++ l) || among (named_clients b.clients)) (flat-same b.fs plan.frags b.ops)
      ∙ ap (λ l. among (names_before plan.sources plan.frags) || among l) b.same)
      ∙ ap (λ l. first_of_tests ((among (names_before plan.sources plan.frags) || among (named_clients before), NameTaken) ∷ (is_none (stream_at s l w), ReadsAhead) ∷ (is_full 16 b.clients, PastLimit) ∷ [])) b.named
      ∙ ap (λ n. first_of_tests ((among (names_before plan.sources plan.frags) || among (named_clients before), NameTaken) ∷ (is_none (stream_of plan.sources plan.frags w), ReadsAhead) ∷ (not (nat_lt n 16), PastLimit) ∷ [])) many

  client_behind : (before : List ClientSpec) (d : Draft) (c : ClientSpec) → IsBehindClients plan before d → IsBehindClients plan (before ++ c ∷ []) (and_then d (client_statement plan c))
  client_behind before d c b =
      let e = declaring plan plan.sources b.fs b.clients in
      let new : ClientSpec = record { name = c.name; input = unwrap_or (stream_named e (stream_name plan c.input)) (Source 0) } in
      record {
        fs = b.fs;
        clients = b.clients ++ new ∷ [];
        named = b.named;
        ops = b.ops;
        same = map_push (λ (x : ClientSpec). x.name) b.clients new ∙ ap (λ l. l ++ c.name ∷ []) b.same ∙ sym (map_push (λ (x : ClientSpec). x.name) before c);
        draft = ap (λ e. and_then e (client_statement plan c)) b.draft;
      }

  pub record AreClientsTo (line : ℕ) (clients : List ClientSpec) (i next : ℕ) : Type 0 where
    pub judged : (n : ℕ) (d : Draft) → line ≡ told n → IsBehindClients plan [] d → Judges (Ok next) n d (map (client_statement plan) (take i clients))
    pub behind : (d : Draft) → IsBehindClients plan [] d → IsBehindClients plan (take i clients) (all_said d (map (client_statement plan) (take i clients)))

  pub clients_begin : (line : ℕ) (clients : List ClientSpec) → AreClientsTo line clients 0 line
  clients_begin line clients = record { judged = λ n d at b. judges_none line n d at; behind = λ d b. b }

  pub clients_go_on : (line : ℕ) (clients : List ClientSpec) (i next more : ℕ) (c : ClientSpec) → i < length clients → c ≡ get_or clients i c → first_of_tests (against_client plan (take i clients) c) ≡ None → more ≡ told (next + 1) →
      AreClientsTo line clients i next → AreClientsTo line clients (i + 1) more
  clients_go_on line clients i next more c low is none step h =
      let g = client_statement plan in
      let done = map g (take i clients) in
      let lines : map g (take (i + 1) clients) ≡ done ++ g c ∷ [] = map-more g i c clients low is in
      let whole : take i clients ++ c ∷ [] ≡ take (i + 1) clients = sym (take_more clients i c low ∙ ap (λ y. take i clients ++ y ∷ []) (sym is)) in
      record {
        judged = λ n d at b.
            let so_far = h.judged n d at b in
            let one = judges_one next more (n + length done) (all_said d done) (g c) so_far.0 step (client_tested (take i clients) (all_said d done) c (h.behind d b) ∙ none) in
            subst (Judges (Ok more) n d) (sym lines) (judges_then (Ok more) next n d done (g c ∷ []) so_far one);
        behind = λ d b.
            subst (IsBehindClients plan (take (i + 1) clients)) (sym (ap (all_said d) lines ∙ said-append d done (g c ∷ [])))
            (subst (λ l. IsBehindClients plan l (and_then (all_said d done) (g c))) whole (client_behind (take i clients) (all_said d done) c (h.behind d b)));
      }

  pub clients_fail : (line : ℕ) (clients : List ClientSpec) (i next : ℕ) (r : Reason) (c : ClientSpec) → i < length clients → c ≡ get_or clients i c → first_of_tests (against_client plan (take i clients) c) ≡ Some r →
      AreClientsTo line clients i next → (n : ℕ) (d : Draft) → line ≡ told n → IsBehindClients plan [] d → Judges (Err (record { line = next; reason = r })) n d (map (client_statement plan) clients)
  clients_fail line clients i next r c low is some h n d at b =
      let g = client_statement plan in
      let done = map g (take i clients) in
      let rest = map g (drop (i + 1) clients) in
      let so_far = h.judged n d at b in
      let one = judges_fault next r (n + length done) (all_said d done) (g c) rest so_far.0 (client_tested (take i clients) (all_said d done) c (h.behind d b) ∙ some) in
      subst (Judges (Err (record { line = next; reason = r })) n d) (sym (map-parted g i c clients low is)) (judges_then (Err (record { line = next; reason = r })) next n d done (g c ∷ rest) so_far one)

  pub clients_end : (line : ℕ) (clients : List ClientSpec) (i next : ℕ) → length clients ≤ i → clients ≡ plan.clients → AreClientsTo line clients i next → (n : ℕ) (d : Draft) → line ≡ told n → IsBehindClients plan [] d →
      JudgesClients (Ok next) n plan d
  clients_end line clients i next far all h n d at b =
      let whole : take i clients ≡ plan.clients = take_all i clients far ∙ all in
      (subst (λ l. Judges (Ok next) n d (map (client_statement plan) l)) whole (h.judged n d at b), subst (λ l. IsBehindClients plan l (all_said d (map (client_statement plan) l))) whole (h.behind d b))

  -- ---- `begin`

  some-empty : (fs : List FragSpec) → list_any (λ (f : FragSpec). is_nil f.ops) fs ≡ list_any (λ (ws : List Word). is_nil ws) (map op_names fs)
  some-empty [] = refl
  some-empty (f ∷ fs) = ap (λ b. b || list_any (λ (g : FragSpec). is_nil g.ops) fs) (sym (nil-map (λ (op : OpSpec). op.name) f.ops)) ∙ ap (λ b. is_nil (op_names f) || b) (some-empty fs)

  begin_tested : (d : Draft) → IsBehindClients plan plan.clients d → first_of_tests (tests_said d BeginLine) ≡ first_of_tests ((lacks_part plan, PartMissing) ∷ [])
  begin_tested d b =
      let frags : is_nil b.fs ≡ is_nil plan.frags = sym (nil-map (λ (f : FragSpec). f.name) b.fs) ∙ ap is_nil b.named ∙ nil-map (λ (f : FragSpec). f.name) plan.frags in
      let clients : is_nil b.clients ≡ is_nil plan.clients = sym (nil-map (λ (c : ClientSpec). c.name) b.clients) ∙ ap is_nil b.same ∙ nil-map (λ (c : ClientSpec). c.name) plan.clients in
      let empty : list_any (λ (f : FragSpec). is_nil f.ops) b.fs ≡ list_any (λ (f : FragSpec). is_nil f.ops) plan.frags = some-empty b.fs ∙ ap (list_any (λ (ws : List Word). is_nil ws)) b.ops ∙ sym (some-empty plan.frags) in
      ap (λ e. first_of_tests (tests_said e BeginLine)) b.draft
      ∙ ap (λ t. first_of_tests ((((is_nil plan.sources || t) || is_nil b.clients) || list_any (λ (f : FragSpec). is_nil f.ops) b.fs, PartMissing) ∷ [])) frags
      ∙ ap (λ t. first_of_tests ((((is_nil plan.sources || is_nil plan.frags) || t) || list_any (λ (f : FragSpec). is_nil f.ops) b.fs, PartMissing) ∷ [])) clients
      ∙ ap (λ t. first_of_tests ((((is_nil plan.sources || is_nil plan.frags) || is_nil plan.clients) || t, PartMissing) ∷ [])) empty

  pub begin_fails : (line n : ℕ) (d : Draft) → lacks_part plan ≡ true → line ≡ told n → IsBehindClients plan plan.clients d → Judges (Err (record { line = line; reason = PartMissing })) n d (BeginLine ∷ [])
  begin_fails line n d lacks at b = judges_fault line PartMissing n d BeginLine [] at (begin_tested d b ∙ ap (λ t. first_of_tests ((t, PartMissing) ∷ [])) lacks)

  pub begin_judged : (line next n : ℕ) (d : Draft) → lacks_part plan ≡ false → line ≡ told n → next ≡ told (line + 1) → IsBehindClients plan plan.clients d → Judges (Ok next) n d (BeginLine ∷ [])
  begin_judged line next n d whole at more b = judges_one line next n d BeginLine at more (begin_tested d b ∙ ap (λ t. first_of_tests ((t, PartMissing) ∷ [])) whole)
