-- Every port that reads a source has its whole log, from the ninth phase on past the last recovery.
use Rattle.std.proofs.Common.{◌≡◌, ℕ, ◌+◌, ◌≤◌, true, List, [], ◌∷◌, ◌++◌, length, refl, sym, ap, subst, ◌∙◌, arith, Some}
use Rattle.std.proofs.lemmas.List.{append-nil, length-append}
use Rattle.dpc_lists.specs.Lists.{IsPrefixOf}
use Rattle.dpc_model.specs.Fragments.{ideal, ideal_upto, log_of}
use Rattle.dpc_model.specs.Reading.{Reader}
use Rattle.dpc_model.specs.declared.tuples.Tuple.{Tuple}
use Rattle.dpc_model.specs.declared.messages.Event.{Event}
use Rattle.dpc_model.specs.declared.plans.Plan.{Plan}
use Rattle.dpc_model.specs.declared.plans.StreamRef.TheVariants.{Source}
use Rattle.dpc_model.specs.declared.scripts.Script.{Script}
use Rattle.world_model.specs.Worlds.{World, run}
use Rattle.world_model.specs.Schedules.{is_live_so_far, settling_phases}
use Rattle.world_model.specs.Safe.{HoldsOf}
use Rattle.law_safety.specs.Plans.{IsChecked}
use Rattle.law_safety.proofs.Sourcing.{ideal-log}
use Rattle.law_granting.specs.Taken.{port_of}
use Rattle.law_schedules.proofs.Journals.{live-far, prefix-live, phases-counted, progress-run}
use Rattle.law_readers.specs.Newest.{IsPortOf}
use Rattle.law_settling.specs.Read.{ReaderHasLog, ReadsSources}
use Rattle.law_settling.proofs.Steadily.{steady-rests}
use Rattle.law_settling.proofs.Lines.{reading-of}
use Rattle.law_settling.proofs.Full.{run-holds}
use Rattle.law_settling.proofs.Walking.{whole-late}

-- a beginning that is as long as the whole
pub whole-prefix : (xs ys : List Tuple) → IsPrefixOf xs ys → length ys ≤ length xs → xs ≡ ys
whole-prefix xs ys p long = by-rest p.0 p.1
  where
    by-rest : (rest : List Tuple) → ys ≡ xs ++ rest → xs ≡ ys
    by-rest [] e = sym (append-nil xs) ∙ sym e
    by-rest (t ∷ rest) e =
        let more = length-append xs (t ∷ rest) in
        let same : length ys ≡ length (xs ++ (t ∷ rest)) = ap length e in
        absurd (omega (arith, more, same, long))

ideal-end : (plan : Plan) (s : ℕ) → ideal plan (Source s) ≡ ideal_upto plan (Source s) plan.end
unfolding ideal
ideal-end plan s = refl

-- what is held up to the end is the log
holds-log : (plan : Plan) (s : ℕ) (r : Reader) → IsChecked plan → HoldsOf plan (Source s) r → r.bound ≡ plan.end → r.stable ≡ log_of plan s
holds-log plan s r checked h ended =
    let all : length (ideal plan (Source s)) ≤ length r.stable = subst (λ (ts : List Tuple). length ts ≤ length r.stable) (ap (λ (b : ℕ). ideal_upto plan (Source s) b) ended ∙ sym (ideal-end plan s)) h.bound in
    whole-prefix r.stable (ideal plan (Source s)) h.stable all ∙ ideal-log plan s checked

pub reader-has-log : (script : Script) (events : List Event) → ReaderHasLog script events
reader-has-log script events can live well before rest x p s floor is past rests late reads =
    let plan = script.plan in
    let port : IsPortOf plan x p (Source s) = record { there = reads; only = λ q there. can.once x q p (Source s) there reads } in
    let line = reading-of plan x p s can.plan port in
    let before_live = prefix-live script before rest (subst (λ (es : List Event). is_live_so_far script es ≡ true) is live) in
    let counted = phases-counted script before before_live in
    let whole = whole-late script x p s line.0 floor events can line.1 live well past rests before rest is (omega (arith, late, counted)) in
    let there : port_of (run plan before) x p ≡ Some whole.port = ap (λ (w : World). port_of w x p) (sym (progress-run script before)) ∙ whole.there in
    record {
      port = whole.port;
      there = there;
      has = record {
        stable = holds-log plan s whole.port.inlet.held can.plan.checked (run-holds plan before x p s whole.port can.plan port there) whole.bound;
        bound = whole.bound;
        sure = whole.sure;
      };
    }

pub sources-read : (script : Script) (events : List Event) → ReadsSources script events
sources-read script events can live well steady before rest is late x p s reads =
    let so_far = live-far script events live in
    reader-has-log script events can so_far well before rest x p s (length script.phases + settling_phases) is (omega arith) (steady-rests script events so_far steady x) (omega (arith, late)) reads
