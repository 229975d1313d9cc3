-- How what was drawn goes on with a run.
use Rattle.std.proofs.Common.{◌≡◌, ℕ, false, cond, ◌==◌, List, [], ◌∷◌, ◌++◌, map, length, Option, true, refl, sym, ap, subst, ◌∙◌}
use Rattle.std.specs.Prelude.{replicate}
use Rattle.dpc_lists.specs.Lists.{push}
use Rattle.dpc_model.specs.declared.messages.Event.{Event}
use Rattle.dpc_model.specs.declared.messages.Event.TheVariants.{Phase, Emit, Release, Cut, Heal, Crash, Restart, Deliver, Tick, Mill}
use Rattle.dpc_model.specs.declared.plans.Plan.{Plan}
use Rattle.dpc_model.specs.declared.plans.SourceSpec.{SourceSpec}
use Rattle.world_model.specs.Events.{is_phase}
use Rattle.world_model.specs.Worlds.{World, happens, run, new_world, node_at}
use Rattle.world_model.proofs.Running.{run-push}
use Rattle.law_safety.proofs.Growing.{run-plan}
use Rattle.world_core.specs.Runs.{RunOf, world_of}
use Rattle.run_watchers.specs.Watching.{gone_on, unstarted}
use Rattle.picture_model.specs.Points.{first_point, replica_state, client_point}
use Rattle.picture_model.specs.declared.columns.ReplicaState.{ReplicaState}
use Rattle.picture_model.specs.declared.columns.ClientPoint.{ClientPoint}
use Rattle.client_fold.specs.Folding.{ClientValue, StandForClients}
use Rattle.world_model.specs.Schedules.{node_actors}
use Rattle.picture_model.specs.Drawing.{Drawing, blank, drawn, drawing, column_of, columns_at, picture_of}
use Rattle.picture_model.specs.Marking.{promises_of, grants_between}
use Rattle.picture_model.specs.declared.columns.Column.{Column}
use Rattle.picture_model.specs.declared.columns.Mark.{Mark}
use Rattle.picture_model.specs.declared.columns.SourcePoint.{SourcePoint}
use Rattle.picture_model.proofs.Going.{drawing-none, drawing-push}
use Rattle.picture_watch.specs.Tallies.{first_tally, AreTallied, AreSeen}
use Rattle.picture_watch.specs.declared.clients.Seen.{Seen}
use Rattle.picture_watch.specs.Seen.{drawing_in, HasDrawn, IsAdded, IsClosed, IsNoted, IsLinked}
use Rattle.picture_watch.specs.declared.tallies.Tally.{Tally}
use Rattle.picture_watch.specs.declared.watch.Picturing.{Picturing}
use Rattle.picture_watch.proofs.Tallying.{map-copies, tallied-first, tallied-next, tallied-whole, stand-both}

-- ---- drawings, part by part

pub same-drawing : (a b : Drawing) → a.columns ≡ b.columns → a.promises ≡ b.promises → a.number ≡ b.number → a.clock ≡ b.clock → a.sources ≡ b.sources → a.marks ≡ b.marks → a ≡ b
same-drawing a b columns promises number clock sources marks =
    let f : List Column → List (Option ℕ) → ℕ → ℕ → List SourcePoint → List Mark → Drawing =
    λ cs ps n k ss ms. record { columns = cs; promises = ps; number = n; clock = k; sources = ss; marks = ms } in
    ap (λ cs. f cs a.promises a.number a.clock a.sources a.marks) columns ∙ ap (λ ps. f b.columns ps a.number a.clock a.sources a.marks) promises
    ∙ ap (λ n. f b.columns b.promises n a.clock a.sources a.marks) number ∙ ap (λ k. f b.columns b.promises b.number k a.sources a.marks) clock
    ∙ ap (λ ss. f b.columns b.promises b.number b.clock ss a.marks) sources ∙ ap (λ ms. f b.columns b.promises b.number b.clock b.sources ms) marks

-- ---- before the first event

no-cuts : (plan : Plan) → (run plan []).cuts ≡ []
unfolding run new_world
no-cuts plan = refl

pub begins : (plan : Plan) (p : Picturing) → p.columns.items ≡ [] → p.promises.items ≡ [] → p.number ≡ 0 → p.clock ≡ 0 → p.sources.items ≡ replicate (length plan.sources) first_point → p.marks.items ≡ []
    → p.cuts.items ≡ [] → p.tallies.items ≡ replicate (length plan.clients) first_tally → HasDrawn (unstarted plan) p
begins plan p columns promises number clock sources marks cuts tallies =
    record {
      drawing = same-drawing (drawing_in p) (blank plan) columns promises number clock (sources ∙ sym (map-copies {X = SourceSpec} first_point plan.sources)) marks ∙ sym (drawing-none plan);
      cuts = cuts ∙ sym (no-cuts plan);
      tallies = tallied-first plan (run plan []) p.tallies.items tallies;
    }

-- ---- a column

-- it was added
pub adds : (run : RunOf) (vs : List ClientValue) (states : List ReplicaState) (promises : List (Option ℕ)) (old new : Picturing) (seen : Seen) (sources : List SourcePoint) (replicas : List ReplicaState)
    (clients : List ClientPoint) (cuts : ℕ) (marks : List Mark) → StandForClients run.plan 0 vs (world_of run).clients
    → ((plan : Plan) (w : World) → StandForClients plan 0 vs w.clients → AreTallied plan w old.tallies.items → AreSeen plan w seen)
    → sources ≡ old.sources.items → replicas ≡ states → clients ≡ seen.points.items → cuts ≡ length old.cuts.items → marks ≡ old.marks.items ++ grants_between run.plan old.promises.items promises
    → new.columns.items ≡ old.columns.items ++ record { number = old.number; clock = old.clock; sources = sources; replicas = replicas; clients = clients; cuts = cuts; marks = marks } ∷ []
    → new.tallies ≡ seen.tallies → new.promises ≡ old.promises → new.number ≡ old.number → new.clock ≡ old.clock → new.sources ≡ old.sources → new.cuts ≡ old.cuts → new.losses ≡ old.losses
    → IsAdded run states promises old new
adds run vs states promises old new seen sources replicas clients cuts marks stand look s r p k m pushed tallies promises_stay number clock same_sources same_cuts losses =
    let w = world_of run in
    let f : List SourcePoint → List ReplicaState → List ClientPoint → ℕ → List Mark → Column =
    λ ss rs ps n ms. record { number = old.number; clock = old.clock; sources = ss; replicas = rs; clients = ps; cuts = n; marks = ms } in
    let shown = map (λ a. replica_state (node_at w a)) (node_actors run.plan) in
    record {
      promises_stay = promises_stay;
      number = number;
      clock = clock;
      sources = same_sources;
      cuts = same_cuts;
      losses = losses;
      columns = λ are_states are_promises was_cut tallied.
          let points = p ∙ (look run.plan w stand tallied).points in
          let count : cuts ≡ length w.cuts = k ∙ ap (λ cs. length cs) was_cut in
          let told : marks ≡ old.marks.items ++ grants_between run.plan old.promises.items (promises_of run.plan w) =
          m ∙ ap (λ (ps : List (Option ℕ)). old.marks.items ++ grants_between run.plan old.promises.items ps) are_promises in
          let column : f sources replicas clients cuts marks ≡ column_of run.plan w (drawing_in old) =
          ap (λ ss. f ss replicas clients cuts marks) s ∙ ap (λ rs. f old.sources.items rs clients cuts marks) (r ∙ are_states)
          ∙ ap (λ ps. f old.sources.items shown ps cuts marks) points
          ∙ ap (λ n. f old.sources.items shown (map (client_point run.plan) w.clients) n marks) count
          ∙ ap (λ ms. f old.sources.items shown (map (client_point run.plan) w.clients) (length w.cuts) ms) told in
          pushed ∙ ap (λ c. old.columns.items ++ c ∷ []) column;
      tallies = λ tallied.
          tallied-whole run.plan w vs new.tallies.items stand (stand-both run.plan 0 vs w.clients stand) (ap (λ ts. ts.items) tallies ∙ (look run.plan w stand tallied).tallies);
    }

-- the phase that runs is over
pub closes : (run : RunOf) (states : List ReplicaState) (promises : List (Option ℕ)) (old mid new : Picturing) → (old.number == 0) ≡ false → IsAdded run states promises old mid
    → states ≡ map (λ a. replica_state (node_at (world_of run) a)) (node_actors run.plan) → promises ≡ promises_of run.plan (world_of run)
    → new.columns ≡ mid.columns → new.promises.items ≡ promises → new.number ≡ mid.number → new.clock ≡ mid.clock → new.sources ≡ mid.sources → new.cuts ≡ mid.cuts → new.tallies ≡ mid.tallies
    → new.losses ≡ mid.losses → IsClosed run old new
closes run states promises old mid new opened added are_states are_promises columns same_promises number clock sources cuts tallies losses =
    let w = world_of run in
    record {
      promises = same_promises ∙ are_promises;
      number = number ∙ added.number;
      clock = clock ∙ added.clock;
      sources = sources ∙ added.sources;
      cuts = cuts ∙ added.cuts;
      losses = losses ∙ added.losses;
      columns = λ was_cut tallied.
          ap (λ cs. cs.items) columns ∙ added.columns are_states are_promises was_cut tallied
          ∙ ap (λ b. cond b old.columns.items (push old.columns.items (column_of run.plan w (drawing_in old)))) (sym opened);
      tallies = λ tallied. subst (λ ts. AreTallied run.plan w ts) (sym (ap (λ ts. ts.items) tallies)) (added.tallies tallied);
    }

-- before the first phase there is none
pub closes-none : (run : RunOf) (old new : Picturing) → (old.number == 0) ≡ true → new.promises.items ≡ promises_of run.plan (world_of run) → new.columns ≡ old.columns → new.number ≡ old.number
    → new.clock ≡ old.clock → new.sources ≡ old.sources → new.cuts ≡ old.cuts → new.tallies ≡ old.tallies → new.losses ≡ old.losses → IsClosed run old new
closes-none run old new none promises columns number clock sources cuts tallies losses =
    let w = world_of run in
    record {
      promises = promises;
      number = number;
      clock = clock;
      sources = sources;
      cuts = cuts;
      losses = losses;
      columns = λ was_cut tallied.
          ap (λ cs. cs.items) columns ∙ ap (λ b. cond b old.columns.items (push old.columns.items (column_of run.plan w (drawing_in old)))) (sym none);
      tallies = λ tallied. subst (λ ts. AreTallied run.plan w ts) (sym (ap (λ ts. ts.items) tallies)) tallied;
    }

-- ---- an event

-- an event that opens no phase
pub no-phase : (e : Event) → ((p : ℕ) → e ≡ Phase p → ⊥) → is_phase e ≡ false
no-phase (Phase p) h = absurd (h p refl)
no-phase (Emit s t) h = refl
no-phase (Release s t) h = refl
no-phase (Cut a b) h = refl
no-phase (Heal a b) h = refl
no-phase (Crash a) h = refl
no-phase (Restart a i) h = refl
no-phase (Deliver k) h = refl
no-phase (Tick a now) h = refl
no-phase (Mill a r) h = refl

-- it is behind the events before
pub world-next : (before now : RunOf) (e : Event) → now ≡ gone_on before e → world_of now ≡ happens (world_of before) e
world-next before now e is = ap world_of is ∙ run-push before.plan before.events e

pub drawing-next : (before now : RunOf) (e : Event) → now ≡ gone_on before e → drawing now.plan now.events ≡ drawn before.plan (world_of before) e (drawing before.plan before.events)
drawing-next before now e is = ap (λ (r : RunOf). drawing r.plan r.events) is ∙ drawing-push before.plan before.events e

module _ (before now : RunOf) (e : Event) (is : now ≡ gone_on before e) where
  same-plan : now.plan ≡ before.plan
  same-plan = ap (λ (r : RunOf). r.plan) is

  tallied : (ts : List Tally) → AreTallied before.plan (world_of before) ts → AreTallied now.plan (world_of now) ts
  tallied ts h =
      subst (λ (w : World). AreTallied now.plan w ts) (sym (world-next before now e is))
      (subst (λ (plan : Plan). AreTallied plan (happens (world_of before) e) ts) (sym same-plan) (tallied-next before.plan (world_of before) e ts h))

  -- no phase opens
  pub noted : (old mid new : Picturing) → is_phase e ≡ false → HasDrawn before old → IsNoted now.plan e old mid → IsLinked now.plan e mid new → HasDrawn now new
  noted old mid new calm h n l =
      let w = world_of before in
      record {
        drawing =
            l.drawing ∙ n.drawing w calm ∙ ap (λ (d : Drawing). drawn now.plan w e d) h.drawing ∙ ap (λ (plan : Plan). drawn plan w e (drawing before.plan before.events)) same-plan
            ∙ sym (drawing-next before now e is);
        cuts =
            l.cuts w (run-plan before.plan before.events ∙ sym same-plan) (ap (λ cuts. cuts.items) n.cuts ∙ h.cuts) ∙ ap (λ (v : World). v.cuts) (sym (world-next before now e is));
        tallies =
            subst (λ (ts : List Tally). AreTallied now.plan (world_of now) ts) (sym (ap (λ ts. ts.items) l.tallies ∙ ap (λ ts. ts.items) n.tallies)) (tallied old.tallies.items h.tallies);
      }

-- a phase opens
pub opened : (before now : RunOf) (p : ℕ) (old mid new : Picturing) → now ≡ gone_on before (Phase p) → HasDrawn before old → IsClosed now old mid
    → new.columns.items ≡ mid.columns.items → new.promises ≡ mid.promises → new.number ≡ p → new.clock ≡ mid.clock → new.sources ≡ mid.sources → new.marks.items ≡ [] → new.cuts ≡ mid.cuts → new.tallies ≡ mid.tallies → HasDrawn now new
opened before now p old mid new is h c columns promises number clock sources marks cuts tallies =
    let w = world_of before in
    let same : now.plan ≡ before.plan = ap (λ (r : RunOf). r.plan) is in
    let here : world_of now ≡ w = world-next before now (Phase p) is in
    let was_cut : old.cuts.items ≡ (world_of now).cuts = h.cuts ∙ ap (λ (v : World). v.cuts) (sym here) in
    let was_tallied : AreTallied now.plan (world_of now) old.tallies.items = tallied before now (Phase p) is old.tallies.items h.tallies in
    let made : mid.columns.items ≡ columns_at before.plan w (drawing before.plan before.events) =
    c.columns was_cut was_tallied ∙ ap (λ (plan : Plan). columns_at plan (world_of now) (drawing_in old)) same ∙ ap (λ (v : World). columns_at before.plan v (drawing_in old)) here
    ∙ ap (λ (d : Drawing). columns_at before.plan w d) h.drawing in
    let promised : mid.promises.items ≡ promises_of before.plan w =
    c.promises ∙ ap (λ (plan : Plan). promises_of plan (world_of now)) same ∙ ap (λ (v : World). promises_of before.plan v) here in
    let old_clock = ap (λ (d : Drawing). d.clock) h.drawing in
    let old_sources = ap (λ (d : Drawing). d.sources) h.drawing in
    record {
      drawing =
          same-drawing (drawing_in new) (drawn before.plan w (Phase p) (drawing before.plan before.events)) (columns ∙ made) (ap (λ ps. ps.items) promises ∙ promised) number (clock ∙ c.clock ∙ old_clock)
          (ap (λ ss. ss.items) sources ∙ ap (λ ss. ss.items) c.sources ∙ old_sources) marks
          ∙ sym (drawing-next before now (Phase p) is);
      cuts = ap (λ cs. cs.items) cuts ∙ ap (λ cs. cs.items) c.cuts ∙ was_cut;
      tallies = subst (λ (ts : List Tally). AreTallied now.plan (world_of now) ts) (sym (ap (λ ts. ts.items) tallies)) (c.tallies was_tallied);
    }

-- the end
pub finished : (now : RunOf) (old mid : Picturing) → HasDrawn now old → IsClosed now old mid → mid.columns.items ≡ picture_of now.plan now.events
unfolding picture_of
finished now old mid h c = c.columns h.cuts h.tallies ∙ ap (λ (d : Drawing). columns_at now.plan (world_of now) d) h.drawing
