-- Where all has healed behind a script's directives, the quiet phases of a live run open well.
use Rattle.std.proofs.Common.{◌≡◌, ℕ, ◌+◌, ◌<◌, true, List, [], ◌∷◌, ◌++◌, length, refl, sym, ap, subst, ◌∙◌, arith, is_some, append-nil}
use Rattle.std.proofs.Math.Seq.{drop-length}
use Rattle.std.specs.Prelude.{IsTrue, IsSome}
use Rattle.std.specs.List.{filter}
use Rattle.std.proofs.lemmas.Bool.{true_from_ne_false}
use Rattle.std.proofs.lemmas.List.Elements.{All-from_get_or}
use Rattle.std.proofs.lemmas.Option.{unwrap_or-slice_get}
use Rattle.dpc_lists.specs.Lists.{list_all, list_any}
use Rattle.dpc_model.specs.declared.messages.Event.{Event}
use Rattle.dpc_model.specs.declared.messages.Event.TheVariants.{Phase}
use Rattle.dpc_model.specs.declared.plans.Plan.{Plan}
use Rattle.dpc_model.specs.declared.scripts.Directive.{Directive}
use Rattle.dpc_model.specs.declared.scripts.Phase.{Phase as PhaseSpec}
use Rattle.dpc_model.specs.declared.scripts.Script.{Script}
use Rattle.node_model.specs.Sources.{SourceState}
use Rattle.world_model.specs.Worlds.{World, Slot, no_source, run}
use Rattle.world_model.specs.Schedules.{Progress, progress, has_event, is_live}
use Rattle.world_model.specs.Steady.{IsOpen, OpensWell}
use Rattle.dpc_lists.proofs.Truths.{both, in-range}
use Rattle.law_schedules.proofs.Calm.{no_slot}
use Rattle.law_schedules.proofs.Journals.{live-far, progress-run}
use Rattle.law_settling.proofs.Along.{live-may}
use Rattle.law_settling.proofs.Splitting.{opens}
use Rattle.law_healing.specs.Healing.{directives_of, releases_all, is_mended, heals}
use Rattle.law_healing.proofs.Behind.{release-events, none-cut, none-down}
use Rattle.law_healing.proofs.Links.{is_cut_behind, AreCutBehind}
use Rattle.law_healing.proofs.Downs.{is_up_at}
use Rattle.law_healing.proofs.Healed.{IsBehind}
use Rattle.law_healing.proofs.Journal.{directives_in, later, IsDone, complete-todo, done-along}

-- ---- what heals, taken apart

module _ (script : Script) (healed : heals script ≡ true) where
  all-mended : list_all (is_mended (directives_of script)) (directives_of script) ≡ true
  all-mended = (both (list_all (is_mended (directives_of script)) (directives_of script)) _ healed).0

  all-released : (s : ℕ) → s < length script.plan.sources → list_any (releases_all script.plan s) (filter has_event (directives_of script)) ≡ true
  all-released s below =
      release-events script.plan s (directives_of script)
      ∙ in-range (λ u. list_any (releases_all script.plan u) (directives_of script)) 0 (length script.plan.sources) s (both (list_all (is_mended (directives_of script)) (directives_of script)) _ healed).1 (omega arith) (omega (arith, below))

  -- ---- the world behind all directives

  no-cuts : (cuts : List (ℕ × ℕ)) → AreCutBehind (filter has_event (directives_of script)) cuts → cuts ≡ []
  no-cuts [] h = refl
  no-cuts (p ∷ cuts) h =
      let done = filter has_event (directives_of script) in
      absurd (none-cut (directives_of script) p.0 p.1 all-mended (both (is_cut_behind done p) (list_all (is_cut_behind done) cuts) h).0)

  pub behind-open : (w : World) → IsBehind script.plan (filter has_event (directives_of script)) w → IsOpen w
  behind-open w h =
      let ended : w.plan.end ≡ script.plan.end = ap (λ (p : Plan). p.end) h.plan_is in
      let many = h.many in
      record {
        sources = All-from_get_or (λ (x : SourceState). x.bound ≡ w.plan.end) w.sources no_source (λ s low.
            let few = h.logs.low s in
            let all = h.logs.whole s (omega (arith, low, many)) (all-released s (omega (arith, low, many))) in
            ap (λ (x : SourceState). x.bound) (sym (unwrap_or-slice_get w.sources s no_source)) ∙ omega (arith, few, all, ended));
        links = no-cuts w.cuts h.links;
        nodes = All-from_get_or (λ (slot : Slot). IsSome slot.node) w.nodes no_slot (λ i low.
            let up : is_up_at w.nodes i ≡ true = true_from_ne_false (is_up_at w.nodes i) (λ down. none-down (directives_of script) (length script.plan.sources + i) all-mended (h.downs i low down)) in
            ap (λ (slot : Slot). is_some slot.node) (sym (unwrap_or-slice_get w.nodes i no_slot)) ∙ up);
      }

-- ---- at the opening of the first quiet phase all directives are done

none-later : (script : Script) → later script (length script.phases) ≡ []
none-later script = ap (λ (ps : List PhaseSpec). filter has_event (directives_in ps)) (drop-length script.phases)

all-done : (script : Script) (x : Progress) (h : IsDone script x) → x.phase ≡ length script.phases → x.todo ≡ [] → h.done ≡ filter has_event (directives_of script)
all-done script x h phase todo =
    sym (append-nil h.done) ∙ ap (λ (ds : List Directive). h.done ++ ds) (sym (none-later script)) ∙ ap (λ (p : ℕ). h.done ++ later script p) (sym phase)
    ∙ ap (λ (ds : List Directive). h.done ++ (ds ++ later script x.phase)) (sym todo) ∙ h.whole

pub opens-well : (script : Script) (events : List Event) → heals script ≡ true → IsTrue (is_live script events) → OpensWell script events
opens-well script events healed live before rest is =
    let far = live-far script events live in
    let x = progress script before in
    let h = done-along script events before (Phase (length script.phases + 1) ∷ rest) far is in
    let o = opens script x (length script.phases + 1) (live-may script events before rest (Phase (length script.phases + 1)) far is) in
    let phase : x.phase ≡ length script.phases = let number = phase-number (length script.phases + 1) (x.phase + 1) o.0 in omega (arith, number) in
    let all = all-done script x h phase (complete-todo script x o.1 h) in
    behind-open script healed (run script.plan before)
    (subst (λ (w : World). IsBehind script.plan (filter has_event (directives_of script)) w) (progress-run script before) (subst (λ (ds : List Directive). IsBehind script.plan ds x.world) all h.behind))
  where
    phase-number : (p q : ℕ) → Phase p ≡ Phase q → p ≡ q
    phase-number p q e = cc
