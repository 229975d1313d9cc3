-- Operators and fragments are judged one behind another.
use Rattle.std.proofs.Common.{◌≡◌, ℕ, ◌+◌, ◌<◌, ◌≤◌, List, [], ◌∷◌, ◌++◌, map, take, drop, length, Option, Some, None, refl, sym, ap, subst, ◌∙◌, arith, get_or}
use Rattle.std.specs.Prelude.{Result, Ok, Err, flat_map, unwrap_or}
use Rattle.std.proofs.lemmas.List.{append_assoc, take_more, take_all, length-append}
use Rattle.dpc_lists.specs.Lists.{last_or}
use Rattle.dpc_model.specs.ScriptText.{stream_name}
use Rattle.dpc_model.specs.Columns.{kind_columns}
use Rattle.dpc_model.specs.declared.operators.OpSpec.{OpSpec}
use Rattle.dpc_model.specs.declared.plans.FragSpec.{FragSpec}
use Rattle.dpc_model.specs.declared.plans.Plan.{Plan}
use Rattle.script_rules.specs.declared.reasons.Reason.{Reason}
use Rattle.script_rules.specs.declared.reasons.PlanFault.{PlanFault}
use Rattle.script_rules.specs.Statements.{Statement, FragmentLine, PatienceLine}
use Rattle.script_rules.specs.Drafts.{Draft, and_then}
use Rattle.script_rules.specs.Reasons.{first_of_tests, tests_said}
use Rattle.script_rules.specs.Checking.{operator_statement, patience_statements, frag_statements}
use Rattle.script_rules.proofs.Passing.{all_said, said-append}
use Rattle.script_check.specs.Judging.{told, Judges, declaring}
use Rattle.script_check.specs.Locals.{behind_delay, port_columns, read_columns, against_fragment, against_operator}
use Rattle.script_check.specs.Behind.{IsBehind, IsInside, JudgesFragment, JudgesFragments}
use Rattle.script_check.proofs.Judging.{judges_none, judges_then, judges_stop, judges_one, judges_fault, map-more, map-parted, flat-more, flat-parted}
use Rattle.script_check.proofs.Standing.{fragment_tested, fragment_inside, operator_tested, operator_inside, patience_inside, fragment_ends}

-- ---- operators

module _ (plan : Plan) (before : List FragSpec) (columns : List ℕ) (f : FragSpec) where
  abbrev ports : List ℕ
  ports = port_columns plan before columns f

  tested : (done : List OpSpec) (outs : List ℕ) (d : Draft) (op : OpSpec) → IsInside plan before columns f done outs d → first_of_tests (tests_said d (operator_statement plan f op)) ≡ first_of_tests (against_operator plan before f done ports outs op)
  tested done outs d op x = ap (λ e. first_of_tests (tests_said e (operator_statement plan f op))) x.draft ∙ operator_tested plan before columns f done outs x.front x.last x.stand x.stands op

  one_inside : (done : List OpSpec) (outs : List ℕ) (d : Draft) (op : OpSpec) → IsInside plan before columns f done outs d → first_of_tests (against_operator plan before f done ports outs op) ≡ None →
      IsInside plan before columns f (done ++ op ∷ []) (outs ++ kind_columns op.kind (read_columns plan f done ports outs op.reads) ∷ []) (and_then d (operator_statement plan f op))
  one_inside done outs d op x none =
      subst (λ e. IsInside plan before columns f (done ++ op ∷ []) (outs ++ kind_columns op.kind (read_columns plan f done ports outs op.reads) ∷ []) (and_then e (operator_statement plan f op))) (sym x.draft)
      (operator_inside plan before columns f done outs x.front x.last x.stand x.stands op none)

  pub record AreOpsTo (line : ℕ) (ops : List OpSpec) (i : ℕ) (outs : List ℕ) (next : ℕ) : Type 0 where
    pub long : length outs ≡ i
    pub judged : (n : ℕ) (d : Draft) → line ≡ told n → IsInside plan before columns f [] [] d → Judges (Ok next) n d (map (operator_statement plan f) (take i ops))
    pub inside : (d : Draft) → IsInside plan before columns f [] [] d → IsInside plan before columns f (take i ops) outs (all_said d (map (operator_statement plan f) (take i ops)))

  pub ops_begin : (line : ℕ) (ops : List OpSpec) → AreOpsTo line ops 0 [] line
  ops_begin line ops = record { long = refl; judged = λ n d at x. judges_none line n d at; inside = λ d x. x }

  pub ops_go_on : (line : ℕ) (ops done : List OpSpec) (i : ℕ) (outs : List ℕ) (next more c : ℕ) (op : OpSpec) → i < length ops → op ≡ get_or ops i op → done ≡ take i ops →
      first_of_tests (against_operator plan before f done ports outs op) ≡ None → more ≡ told (next + 1) → c ≡ kind_columns op.kind (read_columns plan f done ports outs op.reads) →
      AreOpsTo line ops i outs next → AreOpsTo line ops (i + 1) (outs ++ c ∷ []) more
  ops_go_on line ops done i outs next more c op low is same none step columns_is h =
      let g = operator_statement plan f in
      let some : first_of_tests (against_operator plan before f (take i ops) ports outs op) ≡ None = subst (λ l. first_of_tests (against_operator plan before f l ports outs op) ≡ None) same none in
      let count : c ≡ kind_columns op.kind (read_columns plan f (take i ops) ports outs op.reads) = columns_is ∙ ap (λ l. kind_columns op.kind (read_columns plan f l ports outs op.reads)) same in
      let whole : take i ops ++ op ∷ [] ≡ take (i + 1) ops = sym (take_more ops i op low ∙ ap (λ x. take i ops ++ x ∷ []) (sym is)) in
      let lines : map g (take (i + 1) ops) ≡ map g (take i ops) ++ g op ∷ [] = map-more g i op ops low is in
      record {
        long = let sum = length-append outs (c ∷ []) in let before_long = h.long in omega (arith, sum, before_long);
        judged = λ n d at x.
            let so_far = h.judged n d at x in
            let done_lines = map g (take i ops) in
            let one = judges_one next more (n + length done_lines) (all_said d done_lines) (g op) so_far.0 step (tested (take i ops) outs (all_said d done_lines) op (h.inside d x) ∙ some) in
            subst (Judges (Ok more) n d) (sym lines) (judges_then (Ok more) next n d done_lines (g op ∷ []) so_far one);
        inside = λ d x.
            let here = one_inside (take i ops) outs (all_said d (map g (take i ops))) op (h.inside d x) some in
            let counted = subst (λ m. IsInside plan before columns f (take i ops ++ op ∷ []) (outs ++ m ∷ []) (and_then (all_said d (map g (take i ops))) (g op))) (sym count) here in
            let taken = subst (λ l. IsInside plan before columns f l (outs ++ c ∷ []) (and_then (all_said d (map g (take i ops))) (g op))) whole counted in
            subst (IsInside plan before columns f (take (i + 1) ops) (outs ++ c ∷ [])) (sym (ap (all_said d) lines ∙ said-append d (map g (take i ops)) (g op ∷ []))) taken;
      }

  pub ops_fail : (line : ℕ) (ops done : List OpSpec) (i : ℕ) (outs : List ℕ) (next : ℕ) (r : Reason) (op : OpSpec) → i < length ops → op ≡ get_or ops i op → done ≡ take i ops →
      first_of_tests (against_operator plan before f done ports outs op) ≡ Some r → AreOpsTo line ops i outs next → (n : ℕ) (d : Draft) → line ≡ told n → IsInside plan before columns f [] [] d →
      Judges (Err (record { line = next; reason = r })) n d (map (operator_statement plan f) ops)
  ops_fail line ops done i outs next r op low is same some h n d at x =
      let g = operator_statement plan f in
      let done_lines = map g (take i ops) in
      let rest = map g (drop (i + 1) ops) in
      let here : first_of_tests (against_operator plan before f (take i ops) ports outs op) ≡ Some r = subst (λ l. first_of_tests (against_operator plan before f l ports outs op) ≡ Some r) same some in
      let so_far = h.judged n d at x in
      let one = judges_fault next r (n + length done_lines) (all_said d done_lines) (g op) rest so_far.0 (tested (take i ops) outs (all_said d done_lines) op (h.inside d x) ∙ here) in
      subst (Judges (Err (record { line = next; reason = r })) n d) (sym (map-parted g i op ops low is)) (judges_then (Err (record { line = next; reason = r })) next n d done_lines (g op ∷ rest) so_far one)

  pub ops_end : (line : ℕ) (ops : List OpSpec) (i : ℕ) (outs : List ℕ) (next : ℕ) → length ops ≤ i → ops ≡ f.ops → AreOpsTo line ops i outs next → (n : ℕ) (d : Draft) → line ≡ told n → IsInside plan before columns f [] [] d →
      JudgesFragment (Ok (next, unwrap_or (last_or None outs) 0)) n plan before columns f d (map (operator_statement plan f) ops)
  ops_end line ops i outs next far all h n d at x =
      let g = operator_statement plan f in
      let whole = take_all i ops far in
      let inside = h.inside d x in
      let ends = fragment_ends plan before columns f (take i ops) outs inside.front inside.last inside.stand inside.stands (whole ∙ all) in (
        subst (λ l. Judges (Ok next) n d (map g l)) whole (h.judged n d at x),
        subst (λ l. IsBehind plan (before ++ f ∷ []) (columns ++ unwrap_or (last_or None outs) 0 ∷ []) (all_said d (map g l))) whole
            (subst (IsBehind plan (before ++ f ∷ []) (columns ++ unwrap_or (last_or None outs) 0 ∷ [])) (sym inside.draft) ends),
      )

  -- ---- a fragment

  line_tested : (d : Draft) → IsBehind plan before columns d → first_of_tests (tests_said d (FragmentLine f.name f.replicas (map (stream_name plan) f.inputs))) ≡ first_of_tests (against_fragment plan before f)
  line_tested d b = ap (λ e. first_of_tests (tests_said e (FragmentLine f.name f.replicas (map (stream_name plan) f.inputs)))) b.draft ∙ fragment_tested plan before columns b.fs b.stand f

  pub fragment_fails : (line : ℕ) (r : Reason) (n : ℕ) (d : Draft) → first_of_tests (against_fragment plan before f) ≡ Some r → line ≡ told n → IsBehind plan before columns d → Judges (Err (record { line = line; reason = r })) n d (frag_statements plan f)
  fragment_fails line r n d some at b =
      judges_fault line r n d (FragmentLine f.name f.replicas (map (stream_name plan) f.inputs)) (patience_statements f.delay ++ map (operator_statement plan f) f.ops) at (line_tested d b ∙ some)

  -- the lines in front of the operators
  abbrev pub head_of : Option ℕ → List Statement
  head_of delay = FragmentLine f.name f.replicas (map (stream_name plan) f.inputs) ∷ patience_statements delay

  first_judged : (line next n : ℕ) (d : Draft) → first_of_tests (against_fragment plan before f) ≡ None → line ≡ told n → next ≡ told (line + 1) → IsBehind plan before columns d →
      Judges (Ok next) n d (head_of None) × IsInside plan before columns f [] [] (all_said d (head_of None))
  first_judged line next n d none at more b =
      let s = FragmentLine f.name f.replicas (map (stream_name plan) f.inputs) in
      (judges_one line next n d s at more (line_tested d b ∙ none), subst (λ e. IsInside plan before columns f [] [] (and_then e s)) (sym b.draft) (fragment_inside plan before columns b.fs b.stand f none))

  head_judged : (delay : Option ℕ) (line next n : ℕ) (d : Draft) → first_of_tests (against_fragment plan before f) ≡ None → line ≡ told n → next ≡ told (line + 1) → IsBehind plan before columns d →
      Judges (Ok (behind_delay delay next)) n d (head_of delay) × IsInside plan before columns f [] [] (all_said d (head_of delay))
  head_judged None line next n d none at more b = first_judged line next n d none at more b
  head_judged (Some delay) line next n d none at more b =
      let s = FragmentLine f.name f.replicas (map (stream_name plan) f.inputs) in
      let first = first_judged line next n d none at more b in
      let x = first.1 in
      let second : Judges (Ok (told (next + 1))) (n + 1) (and_then d s) (PatienceLine delay ∷ []) = judges_one next (told (next + 1)) (n + 1) (and_then d s) (PatienceLine delay) first.0.0 refl refl in (
        judges_then (Ok (told (next + 1))) next n d (s ∷ []) (PatienceLine delay ∷ []) first.0 second,
        subst (λ e. IsInside plan before columns f [] [] (and_then e (PatienceLine delay))) (sym x.draft) (patience_inside plan before columns f [] [] x.front x.last x.stand x.stands delay),
      )

  pub fragment_judged : (r : Result (ℕ × ℕ) PlanFault) (line next begin n : ℕ) (d : Draft) → first_of_tests (against_fragment plan before f) ≡ None → line ≡ told n → next ≡ told (line + 1) → begin ≡ behind_delay f.delay next →
      ((m : ℕ) (e : Draft) → begin ≡ told m → IsInside plan before columns f [] [] e → JudgesFragment r m plan before columns f e (map (operator_statement plan f) f.ops)) →
      IsBehind plan before columns d → JudgesFragment r n plan before columns f d (frag_statements plan f)
  fragment_judged r line next begin n d none at more begins judged b =
      let head = head_judged f.delay line next n d none at more b in
      let m = n + length (head_of f.delay) in
      both r begin n d head.1 (subst (λ l. Judges (Ok l) n d (head_of f.delay)) (sym begins) head.0) (judged m (all_said d (head_of f.delay)) (begins ∙ head.0.0) head.1)
    where
      both : (r : Result (ℕ × ℕ) PlanFault) (begin n : ℕ) (d : Draft) → IsInside plan before columns f [] [] (all_said d (head_of f.delay)) → Judges (Ok begin) n d (head_of f.delay) →
          JudgesFragment r (n + length (head_of f.delay)) plan before columns f (all_said d (head_of f.delay)) (map (operator_statement plan f) f.ops) → JudgesFragment r n plan before columns f d (frag_statements plan f)
      both (Ok x) begin n d inside h k = (
        judges_then (Ok x.0) begin n d (head_of f.delay) (map (operator_statement plan f) f.ops) h k.0,
        subst (IsBehind plan (before ++ f ∷ []) (columns ++ x.1 ∷ [])) (sym (said-append d (head_of f.delay) (map (operator_statement plan f) f.ops))) k.1,
      )
      both (Err fault) begin n d inside h k = judges_then (Err fault) begin n d (head_of f.delay) (map (operator_statement plan f) f.ops) h k

-- ---- all fragments

pub record AreFragsTo (plan : Plan) (line : ℕ) (fs : List FragSpec) (i : ℕ) (columns : List ℕ) (next : ℕ) : Type 0 where
  pub long : length columns ≡ i
  pub judged : (n : ℕ) → line ≡ told n →
      Judges (Ok next) n (declaring plan plan.sources [] []) (flat_map (frag_statements plan) (take i fs)) × IsBehind plan (take i fs) columns (all_said (declaring plan plan.sources [] []) (flat_map (frag_statements plan) (take i fs)))

pub frags_begin : (plan : Plan) (line : ℕ) (fs : List FragSpec) → AreFragsTo plan line fs 0 [] line
frags_begin plan line fs =
    record {
      long = refl;
      judged = λ n at. (judges_none line n (declaring plan plan.sources [] []) at, record { fs = []; stand = record { named = refl; ops = refl; counted = refl }; draft = refl });
    }

-- a fragment is judged wherever it stands
abbrev pub FragmentJudges : Plan → List FragSpec → List ℕ → FragSpec → ℕ → Result (ℕ × ℕ) PlanFault → Type 0
FragmentJudges plan before columns f line r = (n : ℕ) (d : Draft) → line ≡ told n → IsBehind plan before columns d → JudgesFragment r n plan before columns f d (frag_statements plan f)

pub frags_go_on : (plan : Plan) (line : ℕ) (fs : List FragSpec) (i : ℕ) (columns : List ℕ) (next : ℕ) (x : ℕ × ℕ) (f : FragSpec) → i < length fs → f ≡ get_or fs i f → AreFragsTo plan line fs i columns next →
    FragmentJudges plan (take i fs) columns f next (Ok x) → AreFragsTo plan line fs (i + 1) (columns ++ x.1 ∷ []) x.0
frags_go_on plan line fs i columns next x f low is h judges =
    let g = frag_statements plan in
    let d = declaring plan plan.sources [] [] in
    let done = flat_map g (take i fs) in
    let lines : flat_map g (take (i + 1) fs) ≡ done ++ g f = flat-more g i f fs low is in
    let whole : take i fs ++ f ∷ [] ≡ take (i + 1) fs = sym (take_more fs i f low ∙ ap (λ y. take i fs ++ y ∷ []) (sym is)) in
    record {
      long = let sum = length-append columns (x.1 ∷ []) in let before_long = h.long in omega (arith, sum, before_long);
      judged = λ n at.
          let so_far = h.judged n at in
          let one = judges (n + length done) (all_said d done) so_far.0.0 so_far.1 in (
            subst (Judges (Ok x.0) n d) (sym lines) (judges_then (Ok x.0) next n d done (g f) so_far.0 one.0),
            subst (λ l. IsBehind plan l (columns ++ x.1 ∷ []) (all_said d (flat_map g (take (i + 1) fs)))) whole
                (subst (IsBehind plan (take i fs ++ f ∷ []) (columns ++ x.1 ∷ [])) (sym (ap (all_said d) lines ∙ said-append d done (g f))) one.1),
          );
    }

pub frags_fail : (plan : Plan) (line : ℕ) (fs : List FragSpec) (i : ℕ) (columns : List ℕ) (next : ℕ) (fault : PlanFault) (f : FragSpec) → i < length fs → f ≡ get_or fs i f → fs ≡ plan.frags →
    AreFragsTo plan line fs i columns next → FragmentJudges plan (take i fs) columns f next (Err fault) → (n : ℕ) → line ≡ told n → JudgesFragments (Err fault) n plan
frags_fail plan line fs i columns next fault f low is all h judges n at =
    let g = frag_statements plan in
    let d = declaring plan plan.sources [] [] in
    let done = flat_map g (take i fs) in
    let rest = flat_map g (drop (i + 1) fs) in
    let so_far = h.judged n at in
    let one = judges_then (Err fault) next n d done (g f) so_far.0 (judges (n + length done) (all_said d done) so_far.0.0 so_far.1) in
    subst (λ l. Judges (Err fault) n d (flat_map g l)) all
    (subst (Judges (Err fault) n d) (append_assoc done (g f) rest ∙ sym (flat-parted g i f fs low is)) (judges_stop fault n d (done ++ g f) rest one))

pub frags_end : (plan : Plan) (line : ℕ) (fs : List FragSpec) (i : ℕ) (columns : List ℕ) (next : ℕ) → length fs ≤ i → fs ≡ plan.frags → AreFragsTo plan line fs i columns next → (n : ℕ) → line ≡ told n → JudgesFragments (Ok next) n plan
frags_end plan line fs i columns next far all h n at =
    let g = frag_statements plan in
    let d = declaring plan plan.sources [] [] in
    let whole : take i fs ≡ plan.frags = take_all i fs far ∙ all in
    let so_far = h.judged n at in
    (subst (λ l. Judges (Ok next) n d (flat_map g l)) whole so_far.0, (columns, subst (λ l. IsBehind plan l columns (all_said d (flat_map g l))) whole so_far.1))
