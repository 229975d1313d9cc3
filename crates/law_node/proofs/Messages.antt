-- What messages make of the parts of the plain node.
use Rattle.std.proofs.Common.{◌≡◌, ℕ, zero, suc, Bool, true, false, ◌==◌, List, [], ◌∷◌, map, refl, ap, ◌∙◌, Some}
use Rattle.std.specs.Prelude.{if◌then◌else◌}
use Rattle.dpc_lists.specs.Lists.{nth, changed}
use Rattle.dpc_model.specs.Inlets.{InletState, AfterBatch, after_tally, with_next_session}
use Rattle.dpc_model.specs.Ports.{Port, no_port, on_beat, on_truncated, without_ended_marks, must_reopen, port_after_choice}
use Rattle.dpc_model.specs.Parts.{Upstream}
use Rattle.dpc_model.specs.declared.batches.Taken.{Taken}
use Rattle.dpc_model.specs.declared.batches.Taken.TheVariants as taken
use Rattle.dpc_model.specs.declared.messages.Beat.{Beat}
use Rattle.dpc_model.specs.declared.messages.Sess.{Sess}
use Rattle.sunion.specs.Laws.{with_inlet}
use Rattle.sunion.specs.Unions.{after_taking_at}
use Rattle.upstream.specs.Upstreams.{with_choice}
use Rattle.node_links.specs.Linking.{with_upstream}
use Rattle.node_model.specs.Nodes.{Home, PlainNode}
use Rattle.node_model.specs.NodeSteps.{with_port, with_marks_ended, after_taking, on_upstream_beat}
use Rattle.node_model.specs.NodeParts.{inputs_of, upstream_of, neighbours_of}
use Rattle.node_model.proofs.Viewed.{inlets, same-inlets, same-inlet, changed-inlets}

-- ---- lists

-- what is put at a place may be told of what stands there
pub changed-there : {X : Type 0} (none : X) (f : X → X) (i : ℕ) (xs : List X) → changed i (λ _. f (nth none xs i)) xs ≡ changed i f xs
changed-there none f i [] = refl
changed-there none f zero (x ∷ xs) = refl
changed-there none f (suc i) (x ∷ xs) = ap (λ ys. x ∷ ys) (changed-there none f i xs)

-- what is known of a port's senders stays where its inlet changes
pub same-seen : (g : Port → Port) → ((p : Port) → upstream_of (g p) ≡ upstream_of p) → (i : ℕ) (ports : List Port) → map upstream_of (changed i g ports) ≡ map upstream_of ports
same-seen g same i [] = refl
same-seen g same zero (p ∷ ports) = rw (same p) refl
same-seen g same (suc i) (p ∷ ports) = ap (λ (us : List Upstream). upstream_of p ∷ us) (same-seen g same i ports)

-- ---- marks

pub marks-inputs : (n : PlainNode) → inputs_of (with_marks_ended n) ≡ inputs_of n
marks-inputs n = ap (λ (is : List InletState). record (inputs_of n) { inlets = is }) (same-inlets without_ended_marks (λ p. refl) n.ports)

-- ---- batches

pub taking-inputs : (home : Home) (p : ℕ) (t : AfterBatch) (n : PlainNode) → inputs_of (after_taking home p t n) ≡ after_taking_at home.plan.width n.clock p t (inputs_of n)
taking-inputs home p t n =
    let same : inlets (changed p (λ (q : Port). record q { inlet = t.after }) n.ports) ≡ changed p (λ _. t.after) (inlets n.ports) =
    changed-inlets (λ _. t.after) (λ (q : Port). record q { inlet = t.after }) (λ q. refl) p n.ports in
    (elim t.answer as (λ (a : Taken). inputs_of (after_taking home p (record t { answer = a }) n) ≡ after_taking_at home.plan.width n.clock p (record t { answer = a }) (inputs_of n)) [
      | taken.Used items ↦ ap (λ (is : List InletState). record (inputs_of (after_taking home p (record t { answer = taken.Used items }) n)) { inlets = is }) same
      | taken.Old ↦ ap (λ (is : List InletState). record (inputs_of n) { inlets = is }) same
      | taken.Broken ↦ ap (λ (is : List InletState). record (inputs_of n) { inlets = is }) same
    ])

pub taking-neighbours : (home : Home) (p : ℕ) (t : AfterBatch) (n : PlainNode) → neighbours_of (after_taking home p t n) ≡ neighbours_of n
taking-neighbours home p t n =
    let same : map upstream_of (changed p (λ (q : Port). record q { inlet = t.after }) n.ports) ≡ map upstream_of n.ports =
    same-seen (λ (q : Port). record q { inlet = t.after }) (λ q. refl) p n.ports in
    (elim t.answer as (λ (a : Taken). neighbours_of (after_taking home p (record t { answer = a }) n) ≡ neighbours_of n) [
      | taken.Used items ↦ ap (λ (us : List Upstream). record (neighbours_of n) { upstreams = us }) same
      | taken.Old ↦ ap (λ (us : List Upstream). record (neighbours_of n) { upstreams = us }) same
      | taken.Broken ↦ ap (λ (us : List Upstream). record (neighbours_of n) { upstreams = us }) same
    ])

-- ---- beats

beat-inlets : (r : ℕ) (b : Beat) (i : ℕ) (ports : List Port) →
    inlets (changed i (on_beat r b) ports) ≡ (if r == (nth no_port ports i).chosen then changed i (λ (x : InletState). after_tally x b.tally) (inlets ports) else inlets ports)
beat-inlets r b i [] =
    let none : List InletState = [] in (elim (r == no_port.chosen) as (λ (c : Bool). none ≡ (if c then none else none)) [ true ↦ refl | false ↦ refl ])
beat-inlets r b zero (p ∷ ports) =
    (elim (r == p.chosen) as (λ (c : Bool). (if c then after_tally p.inlet b.tally else p.inlet) ∷ inlets ports ≡ (if c then after_tally p.inlet b.tally ∷ inlets ports else p.inlet ∷ inlets ports)) [
      | true ↦ refl
      | false ↦ refl
    ])
beat-inlets r b (suc i) (p ∷ ports) =
    let rest = beat-inlets r b i ports in
    (elim (r == (nth no_port ports i).chosen) as (λ (c : Bool). inlets (changed i (on_beat r b) ports) ≡ (if c then changed i (λ (x : InletState). after_tally x b.tally) (inlets ports) else inlets ports) →
    p.inlet ∷ inlets (changed i (on_beat r b) ports) ≡ (if c then p.inlet ∷ changed i (λ (x : InletState). after_tally x b.tally) (inlets ports) else p.inlet ∷ inlets ports)) [
      | true ↦ λ h. ap (λ (is : List InletState). p.inlet ∷ is) h
      | false ↦ λ h. ap (λ (is : List InletState). p.inlet ∷ is) h
    ]) rest

-- the inlet that reads the replica hears the tally
pub beat-inputs : (b : Beat) (p r : ℕ) (n : PlainNode) →
    inputs_of (on_upstream_beat b (Some (p, r)) n) ≡ (if r == (nth no_port n.ports p).chosen then with_inlet p (λ (i : InletState). after_tally i b.tally) (inputs_of n) else inputs_of n)
beat-inputs b p r n =
    let same = beat-inlets r b p n.ports in
    (elim (r == (nth no_port n.ports p).chosen) as (λ (c : Bool). inlets (changed p (on_beat r b) n.ports) ≡ (if c then changed p (λ (x : InletState). after_tally x b.tally) (inlets n.ports) else inlets n.ports) →
    inputs_of (on_upstream_beat b (Some (p, r)) n) ≡ (if c then with_inlet p (λ (i : InletState). after_tally i b.tally) (inputs_of n) else inputs_of n)) [
      | true ↦ λ h. ap (λ (is : List InletState). record (inputs_of n) { inlets = is }) h
      | false ↦ λ h. ap (λ (is : List InletState). record (inputs_of n) { inlets = is }) h
    ]) same

-- ---- truncations

-- marks of a port leave the inputs as they are
pub truncated-inputs : (s : Sess) (p r base : ℕ) (n : PlainNode) → inputs_of (with_port p (λ _. on_truncated r s base (nth no_port n.ports p)) n) ≡ inputs_of n
truncated-inputs s p r base n =
    ap (λ (ports : List Port). record (inputs_of n) { inlets = inlets ports }) (changed-there no_port (on_truncated r s base) p n.ports)
    ∙ ap (λ (is : List InletState). record (inputs_of n) { inlets = is }) (same-inlet (on_truncated r s base) (λ q. refl) p n.ports)

-- ---- choosing

choice-inlets : (i : ℕ) (ports : List Port) → inlets (changed i port_after_choice ports) ≡ (if must_reopen (nth no_port ports i) then changed i with_next_session (inlets ports) else inlets ports)
choice-inlets i [] =
    let none : List InletState = [] in (elim (must_reopen no_port) as (λ (c : Bool). none ≡ (if c then none else none)) [ true ↦ refl | false ↦ refl ])
choice-inlets zero (p ∷ ports) =
    (elim (must_reopen p) as (λ (c : Bool). (if c then with_next_session p.inlet else p.inlet) ∷ inlets ports ≡ (if c then with_next_session p.inlet ∷ inlets ports else p.inlet ∷ inlets ports)) [
      | true ↦ refl
      | false ↦ refl
    ])
choice-inlets (suc i) (p ∷ ports) =
    (elim (must_reopen (nth no_port ports i)) as (λ (c : Bool). inlets (changed i port_after_choice ports) ≡ (if c then changed i with_next_session (inlets ports) else inlets ports) →
    p.inlet ∷ inlets (changed i port_after_choice ports) ≡ (if c then p.inlet ∷ changed i with_next_session (inlets ports) else p.inlet ∷ inlets ports)) [
      | true ↦ λ h. ap (λ (is : List InletState). p.inlet ∷ is) h
      | false ↦ λ h. ap (λ (is : List InletState). p.inlet ∷ is) h
    ]) (choice-inlets i ports)

-- the inlet asks for its next session where it must
pub choice-inputs : (p : ℕ) (n : PlainNode) →
    inputs_of (with_port p port_after_choice n) ≡ (if must_reopen (nth no_port n.ports p) then with_inlet p with_next_session (inputs_of n) else inputs_of n)
choice-inputs p n =
    (elim (must_reopen (nth no_port n.ports p)) as (λ (c : Bool). inlets (changed p port_after_choice n.ports) ≡ (if c then changed p with_next_session (inlets n.ports) else inlets n.ports) →
    inputs_of (with_port p port_after_choice n) ≡ (if c then with_inlet p with_next_session (inputs_of n) else inputs_of n)) [
      | true ↦ λ h. ap (λ (is : List InletState). record (inputs_of n) { inlets = is }) h
      | false ↦ λ h. ap (λ (is : List InletState). record (inputs_of n) { inlets = is }) h
    ]) (choice-inlets p n.ports)

choice-seen : (i : ℕ) (ports : List Port) →
    changed i (with_choice (nth no_port ports i).inlet.broken (nth no_port ports i).inlet.answered) (map upstream_of ports) ≡ map upstream_of (changed i port_after_choice ports)
choice-seen i [] = refl
choice-seen zero (p ∷ ports) = refl
choice-seen (suc i) (p ∷ ports) = ap (λ (us : List Upstream). upstream_of p ∷ us) (choice-seen i ports)

pub choice-neighbours : (p : ℕ) (n : PlainNode) →
    with_upstream p (with_choice (nth no_port n.ports p).inlet.broken (nth no_port n.ports p).inlet.answered) (neighbours_of n) ≡ neighbours_of (with_port p port_after_choice n)
choice-neighbours p n = ap (λ (us : List Upstream). record (neighbours_of n) { upstreams = us }) (choice-seen p n.ports)
