-- A fit node stays fit through the steps of a tick.
use Rattle.std.proofs.Common.{◌≡◌, ℕ, zero, suc, ◌*◌, ◌<◌, ◌≤◌, Bool, true, false, ◌&&◌, nat_lt, List, [], ◌∷◌, map, length, refl, sym, ap, subst, ◌∙◌, arith, All, Option, Some, None, is_none}
use Rattle.std.proofs.lemmas.List.{length-map}
use Rattle.std.proofs.lemmas.List.Elements.{All-from_recursion, recursion_from_All}
use Rattle.std.specs.List.{AllByRecursion}
use Rattle.std.specs.Prelude.{if◌then◌else◌}
use Rattle.dpc_lists.specs.Lists.{changed, list_all}
use Rattle.dpc_model.specs.Streams.{InOrder}
use Rattle.dpc_model.specs.Reading.{Reader}
use Rattle.dpc_model.specs.Inlets.{InletState, with_next_session}
use Rattle.dpc_model.specs.Sessions.{given_items}
use Rattle.dpc_model.specs.declared.tuples.Item.TheVariants.{Undo}
use Rattle.dpc_model.specs.NodeStates.{is_stabilization}
use Rattle.dpc_model.specs.Ports.{Port, must_reopen, without_ended_marks, port_after_tick, port_after_choice}
use Rattle.dpc_model.specs.Parts.{Inputs}
use Rattle.dpc_model.specs.Replicas.{is_absent}
use Rattle.dpc_model.specs.declared.tuples.Tuple.{Tuple}
use Rattle.dpc_model.proofs.Subs.{length-counted}
use Rattle.law_buckets.specs.Series.{AreReady}
use Rattle.node_model.specs.Mails.{Stepped}
use Rattle.node_model.specs.Nodes.{Home, out_stable, buckets_of, PlainNode, complete_buckets, ready, due_at, due_inputs, wants_to_reconcile}
use Rattle.node_model.specs.NodeSteps.{with_marks_ended, with_port, after_clock, with_fresh_start, choice_step, enter_step, ask_step, processing_upto, processing_step, idle_step, count_upto, stably, after_buckets, given_by, peer_watches}
use Rattle.node_model.specs.NodeParts.{inputs_of}
use Rattle.node_model.specs.Fitting.{AreFitInputs, IsFit}
use Rattle.node_model.proofs.Viewed.{inlets, same-inlets}
use Rattle.law_node.proofs.Messages.{marks-inputs}
use Rattle.law_node.proofs.Buckets.{ready-is, processed-inputs}
use Rattle.law_node.proofs.Fits.{are-ready, some-ready, fit-processed, due-lies}

-- ---- inputs that hold the same

-- fit inputs of which each port holds the same are fit
pub held-alike : (P : Reader → Type 0) (xs ys : List InletState) → map (λ (i : InletState). i.held) xs ≡ map (λ (i : InletState). i.held) ys →
    All (λ (i : InletState). P i.held) xs → All (λ (i : InletState). P i.held) ys
held-alike P xs ys same h =
    All-from_recursion (λ (i : InletState). P i.held) ys (from ys (subst (λ (rs : List Reader). AllByRecursion P rs) same (to xs (recursion_from_All (λ (i : InletState). P i.held) xs h))))
  where
    to : (zs : List InletState) → AllByRecursion (λ (i : InletState). P i.held) zs → AllByRecursion P (map (λ (i : InletState). i.held) zs)
    to [] a = a
    to (z ∷ zs) a = (a.0, to zs a.1)

    from : (zs : List InletState) → AllByRecursion P (map (λ (i : InletState). i.held) zs) → AllByRecursion (λ (i : InletState). P i.held) zs
    from [] a = a
    from (z ∷ zs) a = (a.0, from zs a.1)

pub fit-alike : (w buckets end : ℕ) (x : Inputs) (is : List InletState) → map (λ (i : InletState). i.held) x.inlets ≡ map (λ (i : InletState). i.held) is →
    AreFitInputs w buckets end x → AreFitInputs w buckets end (record x { inlets = is })
fit-alike w buckets end x is same fit =
    record {
      ordered = held-alike (λ (r : Reader). InOrder r.stable) x.inlets is same fit.ordered;
      past = held-alike (λ (r : Reader). All (λ (t : Tuple). r.bound ≤ t.stime) r.tentative) x.inlets is same fit.past;
      reached = held-alike (λ (r : Reader). x.cursor * w ≤ r.bound) x.inlets is same fit.reached;
      within = held-alike (λ (r : Reader). r.bound ≤ end) x.inlets is same fit.within;
      placed = fit.placed;
      frontier = fit.frontier;
    }

-- ---- marks, the clock, a fresh start

pub fit-marks : (home : Home) (p : PlainNode) → IsFit home p → IsFit home (with_marks_ended p)
fit-marks home p fit =
    record {
      end = fit.end;
      inputs = subst (λ (x : Inputs). AreFitInputs home.plan.width (buckets_of home.plan) home.plan.end x) (sym (marks-inputs p)) fit.inputs;
      ports = length-map p.ports without_ended_marks ∙ fit.ports;
      readers = fit.readers;
      silent = fit.silent;
    }

pub fit-clock : (home : Home) (now : ℕ) (p : PlainNode) → IsFit home p → IsFit home (after_clock now p)
fit-clock home now p fit =
    record {
      end = fit.end;
      inputs = subst (λ (is : List InletState). AreFitInputs home.plan.width (buckets_of home.plan) home.plan.end (record (inputs_of p) { inlets = is }))
          (sym (same-inlets port_after_tick (λ q. refl) p.ports)) fit.inputs;
      ports = length-map p.ports port_after_tick ∙ fit.ports;
      readers = fit.readers;
      silent = fit.silent;
    }

pub fit-afresh : (home : Home) (p : PlainNode) → IsFit home p → IsFit home (with_fresh_start p)
fit-afresh home p fit = record { end = fit.end; inputs = fit.inputs; ports = fit.ports; readers = fit.readers; silent = λ (e : false ≡ true). cc }

-- ---- choosing

chosen-held : (q : Port) → (port_after_choice q).inlet.held ≡ q.inlet.held
chosen-held q = (elim (must_reopen q) as (λ (b : Bool). (if b then with_next_session q.inlet else q.inlet).held ≡ q.inlet.held) [ true ↦ refl | false ↦ refl ])

held-each : (g : Port → Port) → ((q : Port) → (g q).inlet.held ≡ q.inlet.held) → (ports : List Port) →
    map (λ (i : InletState). i.held) (inlets ports) ≡ map (λ (i : InletState). i.held) (inlets (map g ports))
held-each g same [] = refl
held-each g same (p ∷ ports) = rw (same p, held-each g same ports) refl

held-one : (g : Port → Port) → ((q : Port) → (g q).inlet.held ≡ q.inlet.held) → (i : ℕ) (ports : List Port) →
    map (λ (i : InletState). i.held) (inlets ports) ≡ map (λ (i : InletState). i.held) (inlets (changed i g ports))
held-one g same i [] = refl
held-one g same zero (p ∷ ports) = rw (same p) refl
held-one g same (suc i) (p ∷ ports) = ap (λ (rs : List Reader). p.inlet.held ∷ rs) (held-one g same i ports)

changed-many : (g : Port → Port) (i : ℕ) (ports : List Port) → length (changed i g ports) ≡ length ports
changed-many g i [] = refl
changed-many g zero (p ∷ ports) = refl
changed-many g (suc i) (p ∷ ports) = ap suc (changed-many g i ports)

pub fit-choice-at : (home : Home) (i : ℕ) (p : PlainNode) → IsFit home p → IsFit home (with_port i port_after_choice p)
fit-choice-at home i p fit =
    record {
      end = fit.end;
      inputs = fit-alike home.plan.width (buckets_of home.plan) home.plan.end (inputs_of p) (inlets (changed i port_after_choice p.ports)) (held-one port_after_choice chosen-held i p.ports) fit.inputs;
      ports = changed-many port_after_choice i p.ports ∙ fit.ports;
      readers = fit.readers;
      silent = fit.silent;
    }

pub fit-choice : (home : Home) (p : PlainNode) → IsFit home p → IsFit home (choice_step home p).after
fit-choice home p fit =
    record {
      end = fit.end;
      inputs = fit-alike home.plan.width (buckets_of home.plan) home.plan.end (inputs_of p) (inlets (map port_after_choice p.ports)) (held-each port_after_choice chosen-held p.ports) fit.inputs;
      ports = length-map p.ports port_after_choice ∙ fit.ports;
      readers = fit.readers;
      silent = fit.silent;
    }

-- ---- entering and asking

pub fit-enter : (home : Home) (p : PlainNode) → IsFit home p → IsFit home (enter_step home p).after
unfolding enter_step
fit-enter home p fit =
    let x = inputs_of p in
    let f = fit.inputs in
    let frontier = f.frontier in
    record {
      end = fit.end;
      inputs = record { ordered = f.ordered; past = f.past; reached = f.reached; within = f.within; placed = tt; frontier = omega (arith, frontier) };
      ports = fit.ports;
      readers = length-counted (Undo (length (out_stable home p)) ∷ []) p.subs ∙ fit.readers;
      silent = fit.silent;
    }

fit-either : (home : Home) (a b : Bool) (s t u : Stepped PlainNode) → IsFit home s.after → IsFit home t.after → IsFit home u.after →
    IsFit home (if a then (if b then s else t) else u).after
fit-either home true true s t u h i j = h
fit-either home true false s t u h i j = i
fit-either home false b s t u h i j = j

pub fit-ask : (home : Home) (p : PlainNode) → IsFit home p → IsFit home (ask_step home p).after
fit-ask home p fit =
    fit-either home (wants_to_reconcile home p && is_none p.grants.promise) (list_all is_absent (peer_watches home p)) (enter_step home p) _ (idle_step p) (fit-enter home p fit)
    (record { end = fit.end; inputs = fit.inputs; ports = fit.ports; readers = fit.readers; silent = fit.silent }) fit

-- ---- processing

-- so many buckets are ready at a node that fits
pub node-ready : (home : Home) (p : PlainNode) (count : ℕ) → 0 < home.plan.width → 1 ≤ count → count ≤ ready home p → IsFit home p → AreReady home.plan.width (inputs_of p) count
unfolding ready
node-ready home p count pos some few fit =
    let all = at-most p.recovering count (complete_buckets home p) some few in
    let h = some-ready (inputs_of p) home.plan.width count some (subst (λ (k : ℕ). count ≤ k) (ready-is home p) all) in
    are-ready home.plan.width (buckets_of home.plan) home.plan.end count (inputs_of p) pos fit.end fit.inputs h.0 h.1
  where
    at-most : (recovering : Bool) (count k : ℕ) → 1 ≤ count → count ≤ (if recovering then 0 else k) → count ≤ k
    at-most true count k some h = absurd (omega (arith, some, h))
    at-most false count k some h = h

-- where the last bucket that is due is processed, the node fits
pub fit-upto : (home : Home) (last : ℕ) (p : PlainNode) → 0 < home.plan.width → due_at home p p.clock ≡ Some last → IsFit home p → IsFit home (processing_upto home last p).after
fit-upto home last p pos due fit =
    let count = count_upto last p in
    let r = stably home p count in
    let items = given_items (length (out_stable home p)) (given_by home p (after_buckets home r count p) (nat_lt 0 r) (nat_lt r count)) in
    let lies = due-lies (due_inputs home p) p.clock (buckets_of home.plan) last due in
    record {
      end = fit.end;
      inputs = subst (λ (x : Inputs). AreFitInputs home.plan.width (buckets_of home.plan) home.plan.end x) (sym (processed-inputs home last p))
          (fit-processed home.plan.width (buckets_of home.plan) home.plan.end last (inputs_of p) pos refl fit.end fit.inputs lies.0 lies.1);
      ports = fit.ports;
      readers = length-counted items p.subs ∙ fit.readers;
      silent = fit.silent;
    }

pub fit-process : (home : Home) (p : PlainNode) → 0 < home.plan.width → IsFit home p → IsFit home (processing_step home p).after
fit-process home p pos fit =
    (elim (is_stabilization p.state) as (λ (b : Bool). IsFit home (if b then idle_step p else elim (due_at home p p.clock) as (λ _. Stepped PlainNode) [ None ↦ idle_step p | Some last ↦ processing_upto home last p ]).after) [
      | true ↦ fit
      | false ↦ (elim (due_at home p p.clock) as (λ (o : Option ℕ). due_at home p p.clock ≡ o →
          IsFit home (elim o as (λ _. Stepped PlainNode) [ None ↦ idle_step p | Some last ↦ processing_upto home last p ]).after) [
            | None ↦ λ e. fit
            | Some last ↦ λ e. fit-upto home last p pos e fit
          ]) refl
    ])
