-- The batches taken are the first ones sent.
use Rattle.std.proofs.Common.{◌≡◌, ℕ, zero, suc, ◌+◌, ◌<◌, Bool, true, false, cond, ◌==◌, List, [], ◌∷◌, map, length, refl, sym, ap, subst, ◌∙◌, arith, Option, Some, None, slice_get, unwrap_or, inl, inr}
use Rattle.std.specs.List.{filter, enumerate_from}
use Rattle.dpc_lists.specs.Lists.{nth, range_with_len, list_any, IsPrefixOf}
use Rattle.dpc_model.specs.Inlets.{same_sess, sess_of}
use Rattle.dpc_model.specs.Actors.{role_of, roles_of, inputs_of, readers_of, same_stream}
use Rattle.dpc_model.specs.declared.actors.Role.{Role}
use Rattle.dpc_model.specs.declared.actors.Role.TheVariants.{Node as IsNode, Nobody}
use Rattle.dpc_model.specs.Sessions.{no_session, opening_session}
use Rattle.dpc_model.specs.declared.sessions.Sub.{Sub}
use Rattle.dpc_model.specs.declared.messages.Event.{Event}
use Rattle.dpc_model.specs.declared.messages.Sess.{Sess}
use Rattle.dpc_model.specs.declared.plans.Plan.{Plan}
use Rattle.dpc_model.specs.declared.plans.StreamRef.{StreamRef}
use Rattle.dpc_model.specs.declared.plans.StreamRef.TheVariants.{Frag}
use Rattle.dpc_lists.proofs.Elements.{range-at}
use Rattle.dpc_model.proofs.Subs.{nth-const}
use Rattle.dpc_model.proofs.Roles.{numbers_where}
use Rattle.dpc_lists.proofs.Somes.{some-same, some-pair}
use Rattle.node_model.specs.Nodes.{Home, PlainNode, own_readers, first_session, new_node}
use Rattle.world_model.specs.Worlds.{World, Envelope, Slot, home_of, happens, run_from, run, new_world}
use Rattle.world_model.specs.Safe.{EachStep}
use Rattle.world_model.specs.SessionLaw.{Channel}
use Rattle.world_model.proofs.Running.{new_world-none}
use Rattle.law_safety.specs.Plans.{IsCheckedPlan}
use Rattle.law_safety.proofs.Happening.{IsFine, happens-next}
use Rattle.law_safety.proofs.Law.{new_world-fine, new_world-plan}
use Rattle.law_granting.specs.Taken.{index_of, batches_in, IsBatchAt, subscribes, role_inc, IsAnsweredIn}
use Rattle.law_granting.proofs.Asked.{IsAskingWorld, event-asking}
use Rattle.law_granting.proofs.Running.{new_world-asking, new-slot}
use Rattle.law_safety.proofs.Growing.{event-grows}
use Rattle.law_granting.proofs.Sending.{indexes}
use Rattle.law_granting.proofs.Sent.{SubHolds, SentOrder, IsNodeLine, event-order}
use Rattle.law_safety.proofs.Distinct.{readers-distinct}

-- ---- lists

-- a batch stands at the place of its index among the indices
batch-found : (l : Channel) (k : ℕ) (es : List Envelope) (d v : ℕ) (e : Envelope) → slice_get es d ≡ Some e → index_of l e ≡ Some v → (j : ℕ) × (slice_get (batches_in l k es) j ≡ Some (k + d)) × (slice_get (indexes l es) j ≡ Some v)
batch-found l k [] d v e there index = cc
batch-found l k (x ∷ es) zero v e there index =
    let same : x ≡ e = cc in
    let none : k + 0 ≡ k = omega arith in
    let here : index_of l x ≡ Some v = ap (λ (z : Envelope). index_of l z) same ∙ index in
    subst (λ (o : Option ℕ). (j : ℕ) × (slice_get (elim o as (λ _. List ℕ) [ None ↦ batches_in l (k + 1) es | Some i ↦ k ∷ batches_in l (k + 1) es ]) j ≡ Some (k + 0)) × (slice_get (elim o as (λ _. List ℕ) [ None ↦ indexes l es | Some i ↦ i ∷ indexes l es ]) j ≡ Some v)) (sym here)
    (0, ap {B = Option ℕ} Some (sym none), refl)
batch-found l k (x ∷ es) (suc d) v e there index =
    let rest = batch-found l (k + 1) es d v e there index in
    let next : k + 1 + d ≡ k + suc d = omega arith in
    elim (index_of l x) as (λ o. (j : ℕ) × (slice_get (elim o as (λ _. List ℕ) [ None ↦ batches_in l (k + 1) es | Some i ↦ k ∷ batches_in l (k + 1) es ]) j ≡ Some (k + suc d)) × (slice_get (elim o as (λ _. List ℕ) [ None ↦ indexes l es | Some i ↦ i ∷ indexes l es ]) j ≡ Some v)) [
      | None ↦ (rest.0, rest.1 ∙ ap {B = Option ℕ} Some next, rest.2)
      | Some i ↦ (suc rest.0, rest.1 ∙ ap {B = Option ℕ} Some next, rest.2)
    ]

-- a list that agrees with another as far as it goes is a beginning of it
agreeing : (ks ns : List ℕ) → ((j k : ℕ) → slice_get ks j ≡ Some k → slice_get ns j ≡ Some k) → IsPrefixOf ks ns
agreeing [] ns h = (ns, refl)
agreeing (k ∷ ks) [] h = let clash : ◌≡◌ {A = Option ℕ} None (Some k) = h 0 k refl in cc
agreeing (k ∷ ks) (n ∷ ns) h =
    let same : n ≡ k = some-same n k (h 0 k refl) in
    let rest = agreeing ks ns (λ j m e. h (suc j) m e) in
    (rest.0, ap (λ (z : ℕ). z ∷ ns) same ∙ ap (λ (zs : List ℕ). k ∷ zs) rest.1)

-- what is taken in order of what is sent in order is its beginning
pub taken-first : (l : Channel) (es : List Envelope) (many : ℕ) (ks : List ℕ) → indexes l es ≡ range_with_len 0 many → ((j k : ℕ) → slice_get ks j ≡ Some k → IsBatchAt l es k j) → IsPrefixOf ks (batches_in l 0 es)
taken-first l es many ks order h =
    agreeing ks (batches_in l 0 es) (λ j k e.
    let b = h j k e in
    let found = batch-found l 0 es k j b.envelope b.there b.is_batch in
    let place = range-at 0 many found.0 j (ap (λ (zs : List ℕ). slice_get zs found.0) (sym order) ∙ found.2) in
    let same : found.0 ≡ j = omega (arith, place) in
    let number : 0 + k ≡ k = omega arith in
    subst (λ (z : ℕ). slice_get (batches_in l 0 es) z ≡ Some k) same (found.1 ∙ ap {B = Option ℕ} Some number))

-- ---- actors that pass a test

number-found : (test : Role → Bool) (k : ℕ) (roles : List Role) (i : ℕ) → test Nobody ≡ false → test (nth Nobody roles i) ≡ true → (j : ℕ) × (slice_get (numbers_where test k roles) j ≡ Some (k + i))
number-found test k [] i none e = let clash : true ≡ false = sym e ∙ none in cc
number-found test k (role ∷ roles) zero none e =
    let here : k + 0 ≡ k = omega arith in
    subst (λ (b : Bool). (j : ℕ) × (slice_get (map (λ (x : ℕ × Role). x.0) (cond b ((k, role) ∷ filter (λ (x : ℕ × Role). test x.1) (enumerate_from (k + 1) roles)) (filter (λ (x : ℕ × Role). test x.1) (enumerate_from (k + 1) roles)))) j ≡ Some (k + 0))) (sym e)
    (0, ap {B = Option ℕ} Some (sym here))
number-found test k (role ∷ roles) (suc i) none e =
    let rest = number-found test (k + 1) roles i none e in
    let next : k + 1 + i ≡ k + suc i = omega arith in
    elim (test role) as (λ b. (j : ℕ) × (slice_get (map (λ (x : ℕ × Role). x.0) (cond b ((k, role) ∷ filter (λ (x : ℕ × Role). test x.1) (enumerate_from (k + 1) roles)) (filter (λ (x : ℕ × Role). test x.1) (enumerate_from (k + 1) roles)))) j ≡ Some (k + suc i))) [
      | true ↦ (suc rest.0, rest.1 ∙ ap {B = Option ℕ} Some next)
      | false ↦ (rest.0, rest.1 ∙ ap {B = Option ℕ} Some next)
    ]

get-low : (xs : List ℕ) (i v : ℕ) → slice_get xs i ≡ Some v → i < length xs
get-low [] i v e = cc
get-low (x ∷ xs) zero v e = omega arith
get-low (x ∷ xs) (suc i) v e = let less = get-low xs i v e in omega (arith, less)

-- who reads a stream stands among its readers
pub record IsReader (plan : Plan) (u : StreamRef) (x : ℕ) : Type 0 where
  pub place : ℕ
  pub low : place < length (readers_of plan u)
  pub it : nth 0 (readers_of plan u) place ≡ x

pub reader-found : (plan : Plan) (u : StreamRef) (x : ℕ) → list_any (same_stream u) (inputs_of plan (role_of plan x)) ≡ true → IsReader plan u x
reader-found plan u x e =
    let found = number-found (λ role. list_any (same_stream u) (inputs_of plan role)) 0 (roles_of plan) x refl e in
    let far : 0 + x ≡ x = omega arith in
    record {
      place = found.0;
      low = get-low (readers_of plan u) found.0 (0 + x) found.1;
      it = ap (λ (o : Option ℕ). unwrap_or o 0) found.1 ∙ far;
    }

-- ---- a node's session over a run

pub sent-run : (w : World) (most : ℕ) (events : List Event) (a x f r k i : ℕ) (s : Sess) → IsFine w most → IsAskingWorld w → IsNodeLine w.plan a x f r k → SentOrder w a x k i s →
    EachStep (λ w e. subscribes (record { sender = a; reader = x; sess = s }) w e ≡ true → role_inc w a (role_of w.plan a) ≡ i) w events → SentOrder (run_from w events) a x k i s
sent-run w most [] a x f r k i s fine asking line h told = h
sent-run w most (e ∷ events) a x f r k i s fine asking line h told =
    sent-run (happens w e) (most + 1) events a x f r k i s (happens-next w most e fine).fine (event-asking w most e fine asking)
    (subst (λ (p : Plan). IsNodeLine p a x f r k) (sym (event-grows w e).plan) line)
    (event-order w most a x f r k i s fine asking line h e told.0) told.1

pub none-holds : (s : Sess) (i inc : ℕ) → SubHolds s i 0 inc no_session
none-holds s i inc = (λ c. record { open_one = λ v m g u. cc; newer = λ g. refl }, λ c. record { other = λ v m g. cc })

pub first-holds : (s : Sess) (i : ℕ) → (same_sess (sess_of 1 1) s ≡ true → i ≡ 1) → SubHolds s i 0 1 opening_session
first-holds s i opening = (
  λ c. record { open_one = λ v m g u. let p = some-pair (sess_of 1 1) v 0 m g in sym p.1; newer = λ g. refl },
  λ c. record { other = λ v m g. let p = some-pair (sess_of 1 1) v 0 m g in ap (λ (z : Sess). same_sess z s) (sym p.0) ∙ not-first c },
)
  where
    not-first : (1 ≡ i → ⊥) → same_sess (sess_of 1 1) s ≡ false
    not-first c = (elim (same_sess (sess_of 1 1) s) as (λ b. same_sess (sess_of 1 1) s ≡ b → b ≡ false) [ false ↦ λ e. refl | true ↦ λ e. absurd (c (sym (opening e))) ]) refl

new-sub : (home : Home) (k i : ℕ) (s : Sess) → (same_sess (sess_of 1 1) s ≡ true → i ≡ 1) → SubHolds s i 0 (new_node home).grants.inc (nth no_session (new_node home).subs k)
unfolding new_node
new-sub home k i s opening =
    elim (nth-const (first_session home) (own_readers home) k) [
      | inl first ↦ subst (λ (z : Sub). SubHolds s i 0 1 z) (sym first) (elim (home.replica == 0) as (λ b. SubHolds s i 0 1 (cond b opening_session no_session)) [ true ↦ first-holds s i opening | false ↦ none-holds s i 1 ])
      | inr none ↦ subst (λ (z : Sub). SubHolds s i 0 1 z) (sym none) (none-holds s i 1)
    ]

pub new-order : (plan : Plan) (a x f r k i : ℕ) (s : Sess) → role_of plan a ≡ IsNode f r → (same_sess (sess_of 1 1) s ≡ true → i ≡ 1) → SentOrder (new_world plan) a x k i s
new-order plan a x f r k i s role opening =
    record {
      many = 0;
      order = ap (λ (es : List Envelope). indexes (record { sender = a; reader = x; sess = s }) es) (new_world-none plan);
      early = λ e. refl;
      there = λ n up.
          let slot = new-slot plan a f r role in
          let it = some-same (new_node (home_of plan (f, r))) n (sym (ap (λ (z : Slot). z.node) slot) ∙ up) in
          subst (λ (z : PlainNode). SubHolds s i 0 z.grants.inc (nth no_session z.subs k)) it (new-sub (home_of plan (f, r)) k i s opening);
    }

-- a node's session that was answered in one incarnation
pub node-sent : (plan : Plan) (events : List Event) (a x f r i : ℕ) (s : Sess) → IsCheckedPlan plan → role_of plan a ≡ IsNode f r → IsReader plan (Frag f) x → IsAnsweredIn plan events (record { sender = a; reader = x; sess = s }) i →
    (many : ℕ) × (indexes (record { sender = a; reader = x; sess = s }) (run plan events).envelopes ≡ range_with_len 0 many)
unfolding run
node-sent plan events a x f r i s checked role reader answered =
    let start = new_world plan in
    let line : IsNodeLine plan a x f r reader.place = record { role = role; reader = reader.it; distinct = readers-distinct plan (Frag f); low = reader.low } in
    let h = sent-run start 1 events a x f r reader.place i s (new_world-fine plan checked) (new_world-asking plan) (subst (λ (p : Plan). IsNodeLine p a x f r reader.place) (sym (new_world-plan plan)) line)
    (new-order plan a x f r reader.place i s role answered.opening) answered.subscribed in
    (h.many, h.order)
