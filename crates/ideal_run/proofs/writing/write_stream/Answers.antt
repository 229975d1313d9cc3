use Rattle.std.proofs.Common.{◌≡◌, ◌++◌, ◌∷◌, [], ◌∙◌, ℕ, List, None, unwrap_or, ap, sym, subst}
use Rattle.std.specs.Prelude.{codes}
use Rattle.dpc_model.specs.Words.{Word, line_of}
use Rattle.dpc_model.specs.Fragments.{ideal}
use Rattle.dpc_model.specs.declared.tuples.Tuple.{Tuple}
use Rattle.ideal_run.specs.Buckets.{LinesTook}
use Rattle.ideal_run.specs.declared.numbering.Lines.{Lines}
use Rattle.ideal_run.specs.declared.faults.WriteFault.TheVariants as fault
use Rattle.ideal_run.proofs.Lines.{named, took-none, stop-some, way-rows, taken-some, taken-all}
use Rattle.ideal_run.proofs.Ways.{stop-at}
use Rattle.ideal_run.proofs.writing.write_stream.Goals as goal

-- the line of a name
abbrev name_line : Word → List ℕ
name_line name = line_of (codes "client" ∷ name ∷ [])

pub returns-in-Some-clause-err : goal.returns-in-Some-clause-err
returns-in-Some-clause-err g c =
    let plan = c.args.plan.now in
    let client = c.args.client.now in
    let old = c.args.lines.now.text.items in
    let rows = ideal plan client.input in
    let a = g.K.Sink.edge c.args.out.now in
    let b = g.K.Sink.edge c.give_stream-given.new.out in
    let start : Lines = record { text = c.put_name.new.text; count = 0; fault = None } in
    let end = c.give_stream-given.new.sink in
    let begun : c.put_name.new.text.items ≡ named plan client old = c.in_ok-put_name.ensures.put ∙ ap (λ (n : Word). old ++ name_line n) c.as_slice.ensures in
    let s = λ (from : Lines) (begin : g.row.K.Denot) (ts : List Tuple). LinesTook None (g.K.Sink.edge begin) a from.text.items from.count ts c.put_name.new.text.items 0 in
    let t = λ (from : Lines) (begin : g.row.K.Denot) (ts : List Tuple). LinesTook end.fault (g.K.Sink.edge begin) b from.text.items from.count ts end.text.items end.count in
    let some = taken-some c.give_stream-given.result s t rows start c.args.out.now c.give_stream-given.ensures.rows c.give_stream-given.ensures.first (took-none c.put_name.new.text.items 0 a) in
    let lines = subst (λ (xs : List ℕ). LinesTook end.fault a b xs 0 some.gone end.text.items end.count) begun some.took in
    stop-some plan client old end.fault c.in-Some.why a b some.gone some.rest end.text.items end.count (sym (ap (λ f. unwrap_or f fault.NoMemory) c.in-Some.is)) some.split lines

pub returns-then-is_err-clause-err : goal.returns-then-is_err-clause-err
returns-then-is_err-clause-err g c =
    let plan = c.args.plan.now in
    let client = c.args.client.now in
    let old = c.args.lines.now.text.items in
    let rows = ideal plan client.input in
    let a = g.K.Sink.edge c.args.out.now in
    let b = g.K.Sink.edge c.give_stream-given.new.out in
    let start : Lines = record { text = c.put_name.new.text; count = 0; fault = None } in
    let end = c.give_stream-given.new.sink in
    let begun : c.put_name.new.text.items ≡ named plan client old = c.in_ok-put_name.ensures.put ∙ ap (λ (n : Word). old ++ name_line n) c.as_slice.ensures in
    let s = λ (from : Lines) (begin : g.row.K.Denot) (ts : List Tuple). LinesTook None (g.K.Sink.edge begin) a from.text.items from.count ts c.put_name.new.text.items 0 in
    let t = λ (from : Lines) (begin : g.row.K.Denot) (ts : List Tuple). LinesTook end.fault (g.K.Sink.edge begin) b from.text.items from.count ts end.text.items end.count in
    let some = taken-some c.give_stream-given.result s t rows start c.args.out.now c.give_stream-given.ensures.rows c.give_stream-given.ensures.first (took-none c.put_name.new.text.items 0 a) in
    let lines = subst (λ (xs : List ℕ). LinesTook end.fault a b xs 0 some.gone end.text.items end.count) begun some.took in
    stop-some plan client old end.fault fault.NoMemory a b some.gone some.rest end.text.items end.count (sym (ap (λ f. unwrap_or f fault.NoMemory) c.in_default.is)) some.split lines

pub returns-in_err-put_total-clause-err : goal.returns-in_err-put_total-clause-err
returns-in_err-put_total-clause-err g c =
    let plan = c.args.plan.now in
    let client = c.args.client.now in
    let old = c.args.lines.now.text.items in
    let rows = ideal plan client.input in
    let a = g.K.Sink.edge c.args.out.now in
    let b = g.K.Sink.edge c.give_stream-given.new.out in
    let start : Lines = record { text = c.put_name.new.text; count = 0; fault = None } in
    let end = c.give_stream-given.new.sink in
    let begun : c.put_name.new.text.items ≡ named plan client old = c.in_ok-put_name.ensures.put ∙ ap (λ (n : Word). old ++ name_line n) c.as_slice.ensures in
    let s = λ (from : Lines) (begin : g.row.K.Denot) (ts : List Tuple). LinesTook None (g.K.Sink.edge begin) a from.text.items from.count ts c.put_name.new.text.items 0 in
    let t = λ (from : Lines) (begin : g.row.K.Denot) (ts : List Tuple). LinesTook end.fault (g.K.Sink.edge begin) b from.text.items from.count ts end.text.items end.count in
    let some = taken-some c.give_stream-given.result s t rows start c.args.out.now c.give_stream-given.ensures.rows c.give_stream-given.ensures.first (took-none c.put_name.new.text.items 0 a) in
    let lines = subst (λ (xs : List ℕ). LinesTook end.fault a b xs 0 some.gone end.text.items end.count) begun some.took in
    stop-at _ fault.NoMemory _ _ _ c.from_residual-in_err-put_total.ensures
    (stop-some plan client old end.fault fault.NoMemory a b some.gone some.rest end.text.items end.count (sym (ap (λ f. unwrap_or f fault.NoMemory) c.in_default.is)) some.split lines)

pub returns-clause-ok : goal.returns-clause-ok
returns-clause-ok g c =
    let plan = c.args.plan.now in
    let client = c.args.client.now in
    let old = c.args.lines.now.text.items in
    let rows = ideal plan client.input in
    let a = g.K.Sink.edge c.args.out.now in
    let b = g.K.Sink.edge c.give_stream-given.new.out in
    let start : Lines = record { text = c.put_name.new.text; count = 0; fault = None } in
    let end = c.give_stream-given.new.sink in
    let begun : c.put_name.new.text.items ≡ named plan client old = c.in_ok-put_name.ensures.put ∙ ap (λ (n : Word). old ++ name_line n) c.as_slice.ensures in
    let s = λ (from : Lines) (begin : g.row.K.Denot) (ts : List Tuple). LinesTook None (g.K.Sink.edge begin) a from.text.items from.count ts c.put_name.new.text.items 0 in
    let t = λ (from : Lines) (begin : g.row.K.Denot) (ts : List Tuple). LinesTook end.fault (g.K.Sink.edge begin) b from.text.items from.count ts end.text.items end.count in
    let all = taken-all c.give_stream-given.result s t rows start c.args.out.now (sym c.is_err.ensures.value ∙ c.if-is_err.false) c.give_stream-given.ensures.rows (took-none c.put_name.new.text.items 0 a) in
    let lines = subst (λ (xs : List ℕ). LinesTook end.fault a b xs 0 rows end.text.items end.count) begun all in
    way-rows plan client old end.fault c.in_default.is a b end.text.items c.put_total.new.text.items end.count c.in_ok-put_total.ensures.put lines
