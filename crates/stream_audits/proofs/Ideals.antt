-- What milling needs of a script that was read.
use Rattle.std.proofs.Common.{◌≡◌, ℕ, zero, suc, ◌<◌, true, ◌&&◌, ◌==◌, nat_lt, List, [], ◌∷◌, map, length, Ok, ap, All}
use Rattle.std.proofs.lemmas.Bool.{and_parts, ltb-true}
use Rattle.std.proofs.lemmas.List.Elements.{All-from_recursion}
use Rattle.std.specs.List.{AllByRecursion}
use Rattle.dpc_lists.specs.Lists.{nth, list_all}
use Rattle.dpc_model.specs.declared.tuples.Tuple.{Tuple}
use Rattle.dpc_model.specs.declared.plans.SourceSpec.{SourceSpec}
use Rattle.dpc_model.specs.declared.scripts.Script.{Script}
use Rattle.script_rules.specs.Facts.{log_fits}
use Rattle.script_rules.specs.Reading.{reading, script_in}
use Rattle.script_rules.proofs.ReadForms.{reads_have_form}
use Rattle.ideal_run.specs.IdealPlans.{IsIdealPlan}

log-below : (end columns : ℕ) (log : List Tuple) → list_all (λ (t : Tuple). nat_lt t.stime end && length t.vals == columns) log ≡ true →
    AllByRecursion (λ (t : Tuple). t.stime < end) log
log-below end columns [] h = tt
log-below end columns (t ∷ ts) h =
    let parts = and_parts (nat_lt t.stime end && length t.vals == columns) (list_all (λ (t : Tuple). nat_lt t.stime end && length t.vals == columns) ts) h in
    (ltb-true t.stime end (and_parts (nat_lt t.stime end) (length t.vals == columns) parts.0).0, log-below end columns ts parts.1)

logs-below : (end : ℕ) (sources : List SourceSpec) (s : ℕ) → list_all (log_fits end) sources ≡ true →
    All (λ (t : Tuple). t.stime < end) (nth [] (map (λ (source : SourceSpec). source.log) sources) s)
logs-below end [] s h = All-from_recursion (λ (t : Tuple). t.stime < end) [] tt
logs-below end (x ∷ xs) zero h =
    All-from_recursion (λ (t : Tuple). t.stime < end) x.log (log-below end x.columns x.log (and_parts (log_fits end x) (list_all (log_fits end) xs) h).0)
logs-below end (x ∷ xs) (suc s) h = logs-below end xs s (and_parts (log_fits end x) (list_all (log_fits end) xs) h).1

pub read_ideal : (text : List ℕ) (s : Script) → reading text ≡ Ok s → IsIdealPlan s.plan
read_ideal text s e =
    let form = reads_have_form text s (ap script_in e) in
    record {
      sound = form.sound;
      width = form.width;
      whole = form.whole;
      small = form.ends;
      logs = λ i. logs-below s.plan.end s.plan.sources i form.logs;
    }
