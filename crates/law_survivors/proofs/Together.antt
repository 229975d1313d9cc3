-- Where at most one replica of each fragment is crashed, each recovers in one stretch of at most three phases, past the seventh quiet phase of
-- the one-thread journal: recoveries end in time, and begin once.
use Rattle.std.proofs.Common.{◌≡◌, ℕ, ◌+◌, ◌<◌, ◌≤◌, true, false, List, [], ◌∷◌, ◌++◌, length, refl, sym, ap, subst, ◌∙◌, arith, Some, ◌⊎◌, inl, inr}
use Rattle.std.proofs.lemmas.List.{append-nil, append_assoc}
use Rattle.dpc_lists.proofs.Somes.{some-same}
use Rattle.dpc_lists.proofs.Truths.{true-not-false}
use Rattle.dpc_model.specs.Actors.{role_of}
use Rattle.dpc_model.specs.declared.actors.Role.TheVariants.{Node as IsNode}
use Rattle.dpc_model.specs.declared.messages.Event.{Event}
use Rattle.dpc_model.specs.declared.plans.Plan.{Plan}
use Rattle.dpc_model.specs.declared.scripts.Script.{Script}
use Rattle.dpc_model.proofs.Numbers.{le-or}
use Rattle.node_model.specs.Nodes.{PlainNode}
use Rattle.world_model.specs.Worlds.{World, slot_of, run}
use Rattle.world_model.specs.Schedules.{Progress, next_progress, progress, is_live_so_far, lockstep_journal}
use Rattle.world_model.specs.Steady.{OpensWell}
use Rattle.world_model.proofs.Running.{run-push}
use Rattle.law_readers.specs.Settling.{CanSettle}
use Rattle.law_schedules.proofs.Journals.{live-far}
use Rattle.law_schedules.proofs.Lockstep.{lock-live}
use Rattle.law_settling.proofs.Along.{every-behind, progress-push, live-may}
use Rattle.law_settling.proofs.Splitting.{stays}
use Rattle.law_survivors.specs.Spared.{keeps_all_but_one, RecoversThrough, Begins, RecoversTogether}
use Rattle.law_survivors.proofs.Choosing.{spared-of}
use Rattle.law_survivors.proofs.InTime.{ends-in-time}
use Rattle.law_survivors.proofs.Recovering.{node-at, later-on}
use Rattle.law_survivors.proofs.Twice.{begins-once, fragment-low, one-kept}

-- ---- lists

between : (done : List Event) (d : Event) (last first second : List Event) → (done ++ d ∷ []) ++ (last ++ (first ++ second)) ≡ ((done ++ d ∷ last) ++ first) ++ second
between done d last first second = simp append_assoc

pub none-opened : (script : Script) (k : ℕ) → (progress script []).phase ≤ k
unfolding progress
none-opened script k = omega arith

module _ (script : Script) (can : CanSettle script) (well : OpensWell script (lockstep_journal script)) (keeps : keeps_all_but_one script ≡ true) (a g r : ℕ) (role_a : role_of script.plan a ≡ IsNode g r) where
  abbrev plan : Plan
  plan = script.plan

  abbrev live : is_live_so_far script (lockstep_journal script) ≡ true
  live = live-far script (lockstep_journal script) (lock-live script)

  abbrev Late : List Event → Type 0
  Late done = length script.phases + 4 ≤ (progress script done).phase

  pub late-through : (before piece rest : List Event) → lockstep_journal script ≡ before ++ (piece ++ rest) → length script.phases + 4 ≤ (progress script before).phase → length script.phases + 4 ≤ (progress script (before ++ piece)).phase
  late-through before piece rest is late = every-behind (lockstep_journal script) before Late late (λ done behind d at h. later-on script (lockstep_journal script) can live well a g r role_a done behind d at h) piece rest is

  pub same-up : (es fs : List Event) (n : PlainNode) → es ≡ fs → (slot_of (run script.plan fs) a).node ≡ Some n → (slot_of (run script.plan es) a).node ≡ Some n
  same-up es fs n same up = ap (λ (xs : List Event). (slot_of (run script.plan xs) a).node) same ∙ up

  -- ---- it recovers through a piece, or not at some point

  record Stops (before piece : List Event) : Type 0 where
    first : List Event
    last : List Event
    is : piece ≡ first ++ last
    node : PlainNode
    up : (slot_of (run script.plan (before ++ first)) a).node ≡ Some node
    whole : node.recovering ≡ false

  here-stops : (before piece : List Event) (n : PlainNode) → (slot_of (run script.plan before) a).node ≡ Some n → n.recovering ≡ false → Stops before piece
  here-stops before piece n up whole = record { first = []; last = piece; is = refl; node = n; up = same-up (before ++ []) before n (append-nil before) up; whole = whole }

  later-stops : (before piece : List Event) (d : Event) → Stops (before ++ d ∷ []) piece → Stops before (d ∷ piece)
  later-stops before piece d h =
      record { first = d ∷ h.first; last = h.last; is = ap (λ (es : List Event). d ∷ es) h.is; node = h.node; up = same-up (before ++ d ∷ h.first) ((before ++ d ∷ []) ++ h.first) h.node (sym (append_assoc before (d ∷ []) h.first)) h.up; whole = h.whole }

  goes-through : (before piece : List Event) (n : PlainNode) → (slot_of (run script.plan before) a).node ≡ Some n → n.recovering ≡ true → (some rest : List Event) (m : PlainNode) → some ≡ [] → (slot_of (run script.plan (before ++ some)) a).node ≡ Some m → m.recovering ≡ true
  goes-through before piece n up recovers some rest m none at =
      let here : (slot_of (run plan before) a).node ≡ Some m = same-up before (before ++ some) m (sym (ap (λ (es : List Event). before ++ es) none ∙ append-nil before)) at in
      ap (λ (y : PlainNode). y.recovering) (some-same m n (sym here ∙ up)) ∙ recovers

  through-none : (before : List Event) (n : PlainNode) → (slot_of (run script.plan before) a).node ≡ Some n → n.recovering ≡ true → RecoversThrough script a before []
  through-none before n up recovers [] rest m is at = goes-through before [] n up recovers [] rest m refl at
  through-none before n up recovers (e ∷ some) rest m is at = cc

  through-more : (before piece : List Event) (d : Event) (n : PlainNode) → (slot_of (run script.plan before) a).node ≡ Some n → n.recovering ≡ true → RecoversThrough script a (before ++ d ∷ []) piece → RecoversThrough script a before (d ∷ piece)
  through-more before piece d n up recovers h [] rest m is at = goes-through before piece n up recovers [] rest m refl at
  through-more before piece d n up recovers h (e ∷ some) rest m is at =
      let one : d ≡ e = head d e piece (some ++ rest) is in
      h some rest m (tail d e piece (some ++ rest) is) (same-up ((before ++ d ∷ []) ++ some) (before ++ e ∷ some) m (append_assoc before (d ∷ []) some ∙ ap (λ (c : Event). before ++ c ∷ some) one) at)
    where
      head : (d e : Event) (xs ys : List Event) → d ∷ xs ≡ e ∷ ys → d ≡ e
      head d e xs ys same = cc

      tail : (d e : Event) (xs ys : List Event) → d ∷ xs ≡ e ∷ ys → xs ≡ ys
      tail d e xs ys same = cc

  runs-or : (before piece rest : List Event) → lockstep_journal script ≡ before ++ (piece ++ rest) → length script.phases + 4 ≤ (progress script before).phase → RecoversThrough script a before piece ⊎ Stops before piece
  runs-or before [] rest is late =
      let node = node-at script (lockstep_journal script) can live well a g r role_a before rest is late in
      (elim node.0.recovering as (λ c. node.0.recovering ≡ c → RecoversThrough script a before [] ⊎ Stops before []) [
        | true ↦ λ e. inl (through-none before node.0 node.1 e)
        | false ↦ λ e. inr (here-stops before [] node.0 node.1 e)
      ]) refl
  runs-or before (d ∷ piece) rest is late =
      let node = node-at script (lockstep_journal script) can live well a g r role_a before (d ∷ (piece ++ rest)) is late in
      (elim node.0.recovering as (λ c. node.0.recovering ≡ c → RecoversThrough script a before (d ∷ piece) ⊎ Stops before (d ∷ piece)) [
        | false ↦ λ e. inr (here-stops before (d ∷ piece) node.0 node.1 e)
        | true ↦ λ e. elim (runs-or (before ++ d ∷ []) piece rest (is ∙ sym (append_assoc before (d ∷ []) (piece ++ rest))) (later-on script (lockstep_journal script) can live well a g r role_a before (piece ++ rest) d is late)) [
          | inl through ↦ inl (through-more before piece d node.0 node.1 e through)
          | inr stops ↦ inr (later-stops before piece d stops)
        ]
      ]) refl

  -- ---- it begins to recover in a piece

  pub record Rises (before piece : List Event) : Type 0 where
    pub first : List Event
    pub event : Event
    pub last : List Event
    pub is : piece ≡ first ++ event ∷ last
    pub begins : Begins script a (before ++ first) event

  pub same-begins : (es fs : List Event) (d : Event) → es ≡ fs → Begins script a fs d → Begins script a es d
  same-begins es fs d same h = subst (λ (xs : List Event). Begins script a xs d) (sym same) h

  pub rises : (before piece rest : List Event) (n m : PlainNode) → lockstep_journal script ≡ before ++ (piece ++ rest) → length script.phases + 4 ≤ (progress script before).phase → (slot_of (run script.plan before) a).node ≡ Some n → n.recovering ≡ false → (slot_of (run script.plan (before ++ piece)) a).node ≡ Some m → m.recovering ≡ true → Rises before piece
  rises before [] rest n m is late up whole at recovers =
      absurd (true-not-false (sym recovers ∙ ap (λ (y : PlainNode). y.recovering) (some-same m n (sym (same-up before (before ++ []) m (sym (append-nil before)) at) ∙ up)) ∙ whole))
  rises before (d ∷ piece) rest n m is late up whole at recovers =
      let is_next : lockstep_journal script ≡ (before ++ d ∷ []) ++ (piece ++ rest) = is ∙ sym (append_assoc before (d ∷ []) (piece ++ rest)) in
      let late_next = later-on script (lockstep_journal script) can live well a g r role_a before (piece ++ rest) d is late in
      let node = node-at script (lockstep_journal script) can live well a g r role_a (before ++ d ∷ []) (piece ++ rest) is_next late_next in
      (elim node.0.recovering as (λ c. node.0.recovering ≡ c → Rises before (d ∷ piece)) [
        | true ↦ λ e. record {
          first = [];
          event = d;
          last = piece;
          is = refl;
          begins = same-begins (before ++ []) before d (append-nil before) (record { before = n; up = up; whole = whole; after = node.0; now = ap (λ (v : World). (slot_of v a).node) (sym (run-push plan before d)) ∙ node.1; recovers = e });
        }
        | false ↦ λ e. later (rises (before ++ d ∷ []) piece rest node.0 m is_next late_next node.1 e (same-up ((before ++ d ∷ []) ++ piece) (before ++ d ∷ piece) m (append_assoc before (d ∷ []) piece) at) recovers)
      ]) refl
    where
      later : Rises (before ++ d ∷ []) piece → Rises before (d ∷ piece)
      later h = record { first = d ∷ h.first; event = h.event; last = h.last; is = ap (λ (es : List Event). d ∷ es) h.is; begins = same-begins (before ++ d ∷ h.first) ((before ++ d ∷ []) ++ h.first) h.event (sym (append_assoc before (d ∷ []) h.first)) h.begins }

  -- past a recovery of more than three phases it began anew
  pub again : (before piece rest : List Event) (m : PlainNode) → lockstep_journal script ≡ before ++ (piece ++ rest) → length script.phases + 4 ≤ (progress script before).phase → (progress script before).phase + 3 < (progress script (before ++ piece)).phase → (slot_of (run script.plan (before ++ piece)) a).node ≡ Some m → m.recovering ≡ true → Rises before piece
  again before piece rest m is late long at recovers = by-runs (runs-or before piece rest is late)
    where
      far : length script.phases + 4 ≤ (progress script before).phase → length script.phases < (progress script before).phase
      far late = omega (arith, late)

      by-runs : RecoversThrough script a before piece ⊎ Stops before piece → Rises before piece
      by-runs (inl through) =
          let x = spared-of script (one-kept script keeps) g (fragment-low plan a g r role_a) in
          let low = ends-in-time script can well x.0 g x.1 a r before piece rest x.2 x.3 role_a is (far late) through in
          absurd (omega (arith, low, long))
      by-runs (inr h) =
          let parts : piece ++ rest ≡ h.first ++ (h.last ++ rest) = ap (λ (es : List Event). es ++ rest) h.is ∙ append_assoc h.first h.last rest in
          let is_first : lockstep_journal script ≡ before ++ (h.first ++ (h.last ++ rest)) = is ∙ ap (λ (es : List Event). before ++ es) parts in
          let k = rises (before ++ h.first) h.last rest h.node m (is_first ∙ sym (append_assoc before h.first (h.last ++ rest))) (late-through before h.first (h.last ++ rest) is_first late) h.up h.whole (same-up ((before ++ h.first) ++ h.last) (before ++ piece) m (append_assoc before h.first h.last ∙ ap (λ (es : List Event). before ++ es) (sym h.is)) at) recovers in
          record { first = h.first ++ k.first; event = k.event; last = k.last; is = h.is ∙ ap (λ (es : List Event). h.first ++ es) k.is ∙ sym (append_assoc h.first k.first (k.event ∷ k.last)); begins = same-begins (before ++ (h.first ++ k.first)) ((before ++ h.first) ++ k.first) k.event (sym (append_assoc before h.first k.first)) k.begins }

  -- ---- a point of a phase

  pub record AtPhase (p : ℕ) (before piece : List Event) : Type 0 where
    pub first : List Event
    pub last : List Event
    pub is : piece ≡ first ++ last
    pub at : (progress script (before ++ first)).phase ≡ p

  at-first : (p : ℕ) (before piece : List Event) → (progress script before).phase ≤ p → p ≤ (progress script before).phase → AtPhase p before piece
  at-first p before piece low here = let same = ap (λ (es : List Event). (progress script es).phase) (append-nil before) in record { first = []; last = piece; is = refl; at = omega (arith, low, here, same) }

  at-later : (p : ℕ) (before piece : List Event) (d : Event) → AtPhase p (before ++ d ∷ []) piece → AtPhase p before (d ∷ piece)
  at-later p before piece d h = record { first = d ∷ h.first; last = h.last; is = ap (λ (es : List Event). d ∷ es) h.is; at = ap (λ (es : List Event). (progress script es).phase) (sym (append_assoc before (d ∷ []) h.first)) ∙ h.at }

  -- one event opens one phase at most
  next-low : (p : ℕ) (before rest : List Event) (d : Event) → lockstep_journal script ≡ before ++ d ∷ rest → (progress script before).phase < p → (progress script (before ++ d ∷ [])).phase ≤ p
  next-low p before rest d is less =
      let follows = live-may script (lockstep_journal script) before rest d live is in
      subst (λ (y : Progress). y.phase ≤ p) (sym (progress-push script before d)) (elim (stays script (progress script before) d follows) [
        | inl same ↦ omega (arith, same, less)
        | inr o ↦ subst (λ (c : Event). (next_progress script (progress script before) c).phase ≤ p) (sym o.0) (omega (arith, less))
      ])

  pub at-phase : (p : ℕ) (before piece rest : List Event) → lockstep_journal script ≡ before ++ (piece ++ rest) → (progress script before).phase ≤ p → p ≤ (progress script (before ++ piece)).phase → AtPhase p before piece
  at-phase p before [] rest is low high =
      let same = ap (λ (es : List Event). (progress script es).phase) (append-nil before) in
      record { first = []; last = []; is = refl; at = omega (arith, low, high, same) }
  at-phase p before (d ∷ piece) rest is low high =
      elim (le-or p (progress script before).phase) [
        | inl here ↦ at-first p before (d ∷ piece) low here
        | inr less ↦ at-later p before piece d (at-phase p (before ++ d ∷ []) piece rest (is ∙ sym (append_assoc before (d ∷ []) (piece ++ rest))) (next-low p before (piece ++ rest) d is less) (subst (λ (es : List Event). p ≤ (progress script es).phase) (sym (append_assoc before (d ∷ []) piece)) high))
      ]

  -- ---- the law

  pub together : (done piece rest : List Event) (n m : PlainNode) → lockstep_journal script ≡ done ++ (piece ++ rest) → length script.phases + 8 ≤ (progress script done).phase → (slot_of (run script.plan done) a).node ≡ Some n → n.recovering ≡ true → (slot_of (run script.plan (done ++ piece)) a).node ≡ Some m → m.recovering ≡ true →
      (progress script (done ++ piece)).phase ≤ (progress script done).phase + 3
  together done piece rest n m is far up recovers at still = by-length (le-or (progress script (done ++ piece)).phase ((progress script done).phase + 3))
    where
      by-length : ((progress script (done ++ piece)).phase ≤ (progress script done).phase + 3) ⊎ ((progress script done).phase + 3 < (progress script (done ++ piece)).phase) → (progress script (done ++ piece)).phase ≤ (progress script done).phase + 3
      by-length (inl few) = few
      by-length (inr long) = absurd (twice (at-phase (length script.phases + 4) [] done (piece ++ rest) is (none-opened script (length script.phases + 4)) (enough far)))
        where
          enough : length script.phases + 8 ≤ (progress script done).phase → length script.phases + 4 ≤ (progress script done).phase
          enough far = omega (arith, far)

          twice : AtPhase (length script.phases + 4) [] done → ⊥
          twice h =
              let is_first : lockstep_journal script ≡ h.first ++ (h.last ++ (piece ++ rest)) = is ∙ ap (λ (es : List Event). es ++ (piece ++ rest)) h.is ∙ append_assoc h.first h.last (piece ++ rest) in
              let one = again h.first h.last (piece ++ rest) n is_first (exact (progress script h.first).phase h.at) (long-first (progress script h.first).phase h.at) (same-up (h.first ++ h.last) done n (sym h.is) up) recovers in
              let two = again done piece rest m is (enough far) long at still in
              let before = h.first ++ one.first in
              let whole : done ≡ before ++ one.event ∷ one.last = h.is ∙ ap (λ (es : List Event). h.first ++ es) one.is ∙ sym (append_assoc h.first one.first (one.event ∷ one.last)) in
              let middle : (before ++ one.event ∷ []) ++ (one.last ++ ([] ++ two.first)) ≡ done ++ two.first = between before one.event one.last [] two.first ∙ ap (λ (es : List Event). es ++ two.first) (append-nil (before ++ one.event ∷ one.last) ∙ sym whole) in
              let parts : piece ++ rest ≡ two.first ++ (two.event ∷ (two.last ++ rest)) = ap (λ (es : List Event). es ++ rest) two.is ∙ append_assoc two.first (two.event ∷ two.last) rest in
              let all : lockstep_journal script ≡ before ++ one.event ∷ ((one.last ++ two.first) ++ two.event ∷ (two.last ++ rest)) =
              is ∙ ap (λ (es : List Event). done ++ es) parts ∙ ap (λ (es : List Event). es ++ (two.first ++ (two.event ∷ (two.last ++ rest)))) whole ∙ append_assoc before (one.event ∷ one.last) (two.first ++ (two.event ∷ (two.last ++ rest)))
              ∙ ap (λ (es : List Event). before ++ one.event ∷ es) (sym (append_assoc one.last two.first (two.event ∷ (two.last ++ rest)))) in
              let late = late-through h.first one.first (one.event ∷ (one.last ++ (piece ++ rest))) (is_first ∙ ap (λ (es : List Event). h.first ++ es) (ap (λ (es : List Event). es ++ (piece ++ rest)) one.is ∙ append_assoc one.first (one.event ∷ one.last) (piece ++ rest))) (exact (progress script h.first).phase h.at) in
              begins-once script can well keeps a g r role_a before (one.last ++ two.first) (two.last ++ rest) one.event two.event all late one.begins (same-begins ((before ++ one.event ∷ []) ++ (one.last ++ two.first)) (done ++ two.first) two.event middle two.begins)
            where
              exact : (p : ℕ) → p ≡ length script.phases + 4 → length script.phases + 4 ≤ p
              exact p at = omega (arith, at)

              long-first : (p : ℕ) → p ≡ length script.phases + 4 → p + 3 < (progress script (h.first ++ h.last)).phase
              long-first p at = let same = ap (λ (es : List Event). (progress script es).phase) h.is in omega (arith, at, same, far)

pub recovers-together : (script : Script) → RecoversTogether script
recovers-together script can well keeps a g r done piece rest n m role_a is far up recovers at still = together script can well keeps a g r role_a done piece rest n m is far up recovers at still
