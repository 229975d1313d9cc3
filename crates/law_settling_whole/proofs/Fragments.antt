-- Whoever reads a fragment has its stream, one fragment after another: a fragment reads sources and earlier fragments.
use Rattle.std.proofs.Common.{◌≡◌, ℕ, zero, suc, ◌+◌, ◌*◌, ◌<◌, ◌≤◌, true, false, nat_lt, List, [], ◌∷◌, ◌++◌, length, refl, sym, ap, subst, append_assoc, ◌∙◌, arith, Some, slice_get, ◌⊎◌, inl, inr}
use Rattle.std.specs.Prelude.{⊤, IsTrue}
use Rattle.std.proofs.lemmas.Option.{same_Some}
use Rattle.dpc_lists.specs.Lists.{nth}
use Rattle.dpc_model.specs.Fragments.{ReadsBelow, ReadBefore}
use Rattle.dpc_model.specs.Reading.{is_sure}
use Rattle.dpc_model.specs.Actors.{role_of, inputs_of}
use Rattle.dpc_model.specs.Ports.{Port}
use Rattle.dpc_model.specs.declared.messages.Event.{Event}
use Rattle.dpc_model.specs.declared.plans.FragSpec.{FragSpec}
use Rattle.dpc_model.specs.declared.plans.Plan.{Plan}
use Rattle.dpc_model.specs.declared.plans.StreamRef.{StreamRef}
use Rattle.dpc_model.specs.declared.plans.StreamRef.TheVariants.{Source, Frag}
use Rattle.dpc_model.specs.declared.scripts.Script.{Script}
use Rattle.node_model.specs.Nodes.{no_fragment, streams_of}
use Rattle.world_model.specs.Worlds.{World, home_of, run}
use Rattle.world_model.specs.Schedules.{is_live, settling_phases}
use Rattle.world_model.specs.Steady.{IsSteady, OpensWell}
use Rattle.dpc_lists.proofs.Truths.{lt-of, not-lt}
use Rattle.law_granting.specs.Taken.{port_of}
use Rattle.law_schedules.specs.Journals.{phases_in}
use Rattle.law_readers.specs.Newest.{IsPortOf}
use Rattle.law_readers.specs.Settling.{CanSettle}
use Rattle.law_settling.specs.Read.{reading_phases}
use Rattle.law_settling.specs.Entered.{AreWhole, finishing_phases}
use Rattle.law_settling.proofs.Firsts.{inputs-whole, longer-begins}
use Rattle.law_settling.proofs.Sources.{sources-read}
use Rattle.law_settling.proofs.Onward.{phases-add, cut-phases}
use Rattle.law_settling.proofs.ReplicasFinish.{replicas-finish}
use Rattle.law_settling_readers.specs.Streams.{AreFinished, PortHasStream, serving_phases, ReadersHaveStreams}

-- ---- phases

-- the phase from which on all that reads fragments before number f has its streams, where each fragment takes so many phases
abbrev pub starts : ℕ → ℕ → ℕ → ℕ
starts first more zero = first
starts first more (suc f) = starts first more f + more

pub last-or-before : (g b : ℕ) → g < suc b → (g ≡ b) ⊎ (g < b)
last-or-before g b low =
    (elim (nat_lt g b) as (λ t. nat_lt g b ≡ t → (g ≡ b) ⊎ (g < b)) [
      | true ↦ λ e. inr (lt-of g b e)
      | false ↦ λ e. let far = not-lt g b e in inl (omega (arith, far, low))
    ]) refl

starts-grow : (first more g b : ℕ) → g < b → starts first more g + more ≤ starts first more b
starts-grow first more g zero low = absurd (omega (arith, low))
starts-grow first more g (suc b) low =
    elim (last-or-before g b low) [
      | inl same ↦ let equal : starts first more g ≡ starts first more b = ap (starts first more) same in omega (arith, equal)
      | inr before ↦ let less = starts-grow first more g b before in omega (arith, less)
    ]

starts-late : (first more f : ℕ) → first ≤ starts first more f
starts-late first more zero = omega arith
starts-late first more (suc f) = let low = starts-late first more f in omega (arith, low)

-- a fragment takes no more than R + 1 times so many phases, R being the most replicas
enough : (m most : ℕ) → m ≤ 4 → m ≤ most → finishing_phases m m + serving_phases m ≤ settling_phases * (most + 1)
enough zero most low few = omega (arith, few)
enough (suc zero) most low few = omega (arith, few)
enough (suc (suc zero)) most low few = omega (arith, few)
enough (suc (suc (suc zero))) most low few = omega (arith, few)
enough (suc (suc (suc (suc zero)))) most low few = omega (arith, few)
enough (suc (suc (suc (suc (suc m))))) most low few = absurd (omega (arith, low))

-- ---- what a fragment reads

-- the stream is a source's, or an earlier fragment's
abbrev pub IsBelow : ℕ → StreamRef → Type 0
IsBelow b (Source k) = ⊤
IsBelow b (Frag g) = g < b

pub below-at : (b : ℕ) (ss : List StreamRef) (i : ℕ) (s : StreamRef) → ReadsBelow b ss → slice_get ss i ≡ Some s → IsBelow b s
below-at b [] i s h e = cc
below-at b (Source k ∷ ss) zero s h e = subst (IsBelow b) (same_Some (Source k) s e) tt
below-at b (Source k ∷ ss) (suc i) s h e = below-at b ss i s h e
below-at b (Frag g ∷ ss) zero s h e = subst (IsBelow b) (same_Some (Frag g) s e) h.0
below-at b (Frag g ∷ ss) (suc i) s h e = below-at b ss i s h.1 e

pub reads-below : (n f : ℕ) (frags : List FragSpec) → ReadBefore n frags → ReadsBelow (n + f) (nth no_fragment frags f).inputs
reads-below n f [] h = tt
reads-below n zero (x ∷ frags) h = let same : n + 0 ≡ n = omega arith in rw same h.0
reads-below n (suc f) (x ∷ frags) h = let same : n + suc f ≡ n + 1 + f = omega arith in rw same (reads-below (n + 1) f frags h.1)

-- ---- parts of a run

-- three parts, the first two with so many phases, the third with at least so many
record IsCut (j k l : ℕ) (es : List Event) : Type 0 where
  pub before : List Event
  pub mid : List Event
  pub more : List Event
  pub parts : es ≡ before ++ mid ++ more
  pub begins : phases_in before ≡ j
  pub takes : phases_in mid ≡ k
  pub left : l ≤ phases_in more

cut-parts : (j k l : ℕ) (es : List Event) → j + (k + l) ≤ phases_in es → IsCut j k l es
cut-parts j k l es far =
    let c = cut-phases j es (omega (arith, far)) in
    let begins = c.3 in
    let sum_1 = phases-add c.0 c.1 in
    let same_1 = ap phases_in c.2 in
    let d = cut-phases k c.1 (omega (arith, far, begins, sum_1, same_1)) in
    let takes = d.3 in
    let sum_2 = phases-add d.0 d.1 in
    let same_2 = ap phases_in d.2 in
    record {
      before = c.0;
      mid = d.0;
      more = d.1;
      parts = c.2 ∙ ap (λ (fs : List Event). c.0 ++ fs) d.2 ∙ sym (append_assoc c.0 d.0 d.1);
      begins = c.3;
      takes = d.3;
      left = omega (arith, far, begins, takes, sum_1, same_1, sum_2, same_2);
    }

-- ---- one fragment after another

-- a port of a reader holds its stream up to the end of the run, and nothing that may be corrected
pub record HasAll (plan : Plan) (w : World) (x p : ℕ) : Type 0 where
  pub port : Port
  pub there : port_of w x p ≡ Some port
  pub bound : port.inlet.held.bound ≡ plan.end
  pub sure : IsTrue (is_sure port.inlet.held)

pub has-here : (plan : Plan) (w : World) (x p : ℕ) (q : Port) → HasAll plan w x p → port_of w x p ≡ Some q → (q.inlet.held.bound ≡ plan.end) × IsTrue (is_sure q.inlet.held)
has-here plan w x p q h there =
    let same : h.port ≡ q = same_Some h.port q (sym h.there ∙ there) in
    (subst (λ (z : Port). z.inlet.held.bound ≡ plan.end) same h.bound, subst (λ (z : Port). IsTrue (is_sure z.inlet.held)) same h.sure)

-- each fragment has at most four replicas, and at most so many
abbrev pub AreFew : Plan → ℕ → Type 0
AreFew plan most = (f : ℕ) → ((nth no_fragment plan.frags f).replicas ≤ 4) × ((nth no_fragment plan.frags f).replicas ≤ most)

module _ (script : Script) (events : List Event) (most : ℕ) (can : CanSettle script) (lives : is_live script events ≡ true) (well : OpensWell script events) (steady : IsSteady script events)
    (serves : ReadersHaveStreams script events) (few : AreFew script.plan most) where
  abbrev pub start : ℕ → ℕ
  start f = starts (length script.phases + settling_phases + reading_phases + 1) (settling_phases * (most + 1)) f

  -- from its phase on each port that reads a fragment before number b has its stream
  abbrev pub AreServed : ℕ → Type 0
  AreServed b =
      (g : ℕ) → g < b → (done rest : List Event) → events ≡ done ++ rest → start g + settling_phases * (most + 1) ≤ phases_in done →
      (x p : ℕ) → IsPortOf script.plan x p (Frag g) → PortHasStream script.plan (run script.plan done) x p (Frag g)

  -- so has then every port that reads sources and such fragments
  pub port-has : (b : ℕ) → AreServed b → (done rest : List Event) → events ≡ done ++ rest → start b ≤ phases_in done →
      (x p : ℕ) (s : StreamRef) → slice_get (inputs_of script.plan (role_of script.plan x)) p ≡ Some s → IsBelow b s → HasAll script.plan (run script.plan done) x p
  port-has b served done rest is late x p (Source k) reads below =
      let first = starts-late (length script.phases + settling_phases + reading_phases + 1) (settling_phases * (most + 1)) b in
      let read = sources-read script events can lives well steady done rest is (omega (arith, late, first)) x p k reads in
      record { port = read.port; there = read.there; bound = read.has.bound; sure = read.has.sure }
  port-has b served done rest is late x p (Frag g) reads below =
      let grows = starts-grow (length script.phases + settling_phases + reading_phases + 1) (settling_phases * (most + 1)) g b below in
      let read = served g below done rest is (omega (arith, late, grows)) x p (record { there = reads; only = λ q there. can.once x q p (Frag g) there reads }) in
      record { port = read.port; there = read.there; bound = read.has.bound; sure = read.has.sure }

  -- so the replicas of the next fragment have whole inputs
  are-whole : (f : ℕ) → AreServed f → (done rest : List Event) → events ≡ done ++ rest → start f ≤ phases_in done → AreWhole script.plan (run script.plan done) f
  are-whole f served done rest is late a r n at =
      inputs-whole script.plan done f a r n can.plan at (λ i s x there reads port.
      let same : 0 + f ≡ f = omega arith in
      let streams = streams_of (home_of script.plan (f, r)) in
      let below = below-at f streams i s (subst (λ (b : ℕ). ReadsBelow b streams) same (reads-below 0 f script.plan.frags can.plan.checked.sound.inputs)) there in
      (has-here script.plan (run script.plan done) a i x (port-has f served done rest is late a i s reads below) port).0)

  -- and they have finished so many phases later, for good
  are-finished : (f : ℕ) → AreServed f → (before mid rest : List Event) → events ≡ before ++ mid ++ rest → phases_in before ≡ start f →
      (let m = (nth no_fragment script.plan.frags f).replicas in phases_in mid ≡ finishing_phases m m) → (done more : List Event) → events ≡ done ++ more → length (before ++ mid) ≤ length done → AreFinished script.plan (run script.plan done) f
  are-finished f served before mid rest is begins takes done more at long =
      let extra = longer-begins (before ++ mid) done rest more (sym is ∙ at) long in
      let parts : done ≡ before ++ (mid ++ extra.0) = extra.1 ∙ append_assoc before mid extra.0 in
      let split : events ≡ before ++ ((mid ++ extra.0) ++ more) = at ∙ ap (λ (es : List Event). es ++ more) parts ∙ append_assoc before (mid ++ extra.0) more in
      let sum_1 = phases-add before (mid ++ extra.0) in
      let sum_2 = phases-add mid extra.0 in
      let first = starts-late (length script.phases + settling_phases + reading_phases + 1) (settling_phases * (most + 1)) f in
      subst (λ (es : List Event). AreFinished script.plan (run script.plan es) f) (sym parts)
      (replicas-finish script events can lives well steady before (mid ++ extra.0) more f split (omega (arith, begins, first)) (omega (arith, takes, sum_1, sum_2)) whole-late)
    where
      whole-late : (d m : List Event) → events ≡ d ++ m → length before ≤ length d → AreWhole script.plan (run script.plan d) f
      whole-late d m here far =
          let extra = longer-begins before d (mid ++ rest) m (sym (append_assoc before mid rest) ∙ sym is ∙ here) far in
          let sum = phases-add before extra.0 in
          let same = ap phases_in extra.1 in
          are-whole f served d m here (omega (arith, begins, sum, same))

  -- so who reads it has its stream
  served-behind : (f : ℕ) → AreServed f → (before mid more done rest : List Event) → events ≡ done ++ rest → done ≡ before ++ mid ++ more → phases_in before ≡ start f →
      (let m = (nth no_fragment script.plan.frags f).replicas in (phases_in mid ≡ finishing_phases m m) × (serving_phases m ≤ phases_in more)) →
      (x p : ℕ) → IsPortOf script.plan x p (Frag f) → PortHasStream script.plan (run script.plan done) x p (Frag f)
  served-behind f served before mid more done rest is parts begins takes x p port =
      let split : events ≡ before ++ mid ++ (more ++ rest) = is ∙ ap (λ (es : List Event). es ++ rest) parts ∙ append_assoc (before ++ mid) more rest in
      let first = starts-late (length script.phases + settling_phases + reading_phases + 1) (settling_phases * (most + 1)) f in
      let sum_1 = phases-add before mid in
      let sum_2 = phases-add (before ++ mid) more in
      let served_in = takes.1 in
      subst (λ (es : List Event). PortHasStream script.plan (run script.plan es) x p (Frag f)) (sym parts)
      (serves can lives well steady (before ++ mid) more rest f split (omega (arith, begins, first, sum_1)) (are-finished f served before mid (more ++ rest) split begins takes.0) (omega (arith, served_in, sum_2)) x p port)

  next-served : (f : ℕ) → AreServed f → (done rest : List Event) → events ≡ done ++ rest → start f + settling_phases * (most + 1) ≤ phases_in done →
      (x p : ℕ) → IsPortOf script.plan x p (Frag f) → PortHasStream script.plan (run script.plan done) x p (Frag f)
  next-served f served done rest is late =
      let m = (nth no_fragment script.plan.frags f).replicas in
      let short = enough m most (few f).0 (few f).1 in
      let c = cut-parts (start f) (finishing_phases m m) (serving_phases m) done (omega (arith, late, short)) in
      served-behind f served c.before c.mid c.more done rest is c.parts c.begins (c.takes, c.left)

  pub are-served : (b : ℕ) → AreServed b
  are-served zero g low done rest is late x p port = absurd (omega (arith, low))
  are-served (suc b) g low done rest is late x p port =
      elim (last-or-before g b low) [
        | inl same ↦ next-served g (subst AreServed (sym same) (are-served b)) done rest is late x p port
        | inr before ↦ are-served b g before done rest is late x p port
      ]
