-- A port that reads a source, and the source that it reads.
use Rattle.std.proofs.Common.{◌≡◌, ℕ, zero, suc, ◌+◌, ◌<◌, ◌≤◌, Bool, true, false, cond, ◌==◌, List, [], ◌∷◌, length, refl, sym, ap, subst, ◌∙◌, arith, Option, Some, None, slice_get, unwrap_or}
use Rattle.dpc_lists.specs.Lists.{nth, place_of}
use Rattle.dpc_model.specs.Actors.{role_of, roles_of, inputs_of, same_stream, sends_stream, senders_of, readers_of}
use Rattle.dpc_model.specs.Ports.{sender_from, sender_at}
use Rattle.dpc_model.specs.declared.actors.Role.{Role}
use Rattle.dpc_model.specs.declared.actors.Role.TheVariants.{Source as IsSource, Node as IsNode, Client as IsClient, Nobody}
use Rattle.dpc_model.specs.declared.plans.Plan.{Plan}
use Rattle.dpc_model.specs.declared.plans.StreamRef.{StreamRef}
use Rattle.dpc_model.specs.declared.plans.StreamRef.TheVariants.{Source}
use Rattle.node_model.specs.Nodes.{streams_of}
use Rattle.node_model.specs.Clients.{client_stream}
use Rattle.world_model.specs.Worlds.{home_of, node_place}
use Rattle.law_safety.specs.Plans.{IsCheckedPlan, has_senders}
use Rattle.dpc_lists.proofs.Truths.{eq-of, eq-test, lt-of}
use Rattle.dpc_model.proofs.Roles.{numbers_where, numbers_if, only-first}
use Rattle.dpc_lists.proofs.Somes.{some-same}
use Rattle.law_safety.proofs.Numbering.{actors-pass, all-at, all-nth, any-at, home-inputs, node-at, source-at as source-number}
use Rattle.law_safety.proofs.Pointwise.{sender-of}
use Rattle.law_safety.proofs.Worlding.{place-of, client-below}
use Rattle.law_granting.proofs.Prefix.{reader-found}
use Rattle.law_readers.specs.Newest.{IsPortOf}
use Rattle.law_readers.proofs.Known.{sends-source}

-- ---- a source is the only sender of its stream

none-pass : (test : Role → Bool) (k : ℕ) (roles : List Role) → ((i : ℕ) (role : Role) → slice_get roles i ≡ Some role → test role ≡ true → ⊥) → length (numbers_where test k roles) ≡ 0
none-pass test k [] h = refl
none-pass test k (role ∷ roles) h =
    (elim (test role) as (λ b. test role ≡ b → length (numbers_if test k role roles b) ≡ 0) [
      | true ↦ λ e. absurd (h 0 role refl e)
      | false ↦ λ e. none-pass test (k + 1) roles (λ i r there pass. h (suc i) r there pass)
    ]) refl

one-passes : (test : Role → Bool) (k a : ℕ) (roles : List Role) → ((i : ℕ) (role : Role) → slice_get roles i ≡ Some role → test role ≡ true → k + i ≡ a) → length (numbers_where test k roles) ≤ 1
one-passes test k a [] h = omega arith
one-passes test k a (role ∷ roles) h =
    (elim (test role) as (λ b. test role ≡ b → length (numbers_if test k role roles b) ≤ 1) [
      | true ↦ λ e.
          let here = h 0 role refl e in
          let none = none-pass test (k + 1) roles (λ i r there pass. let far = h (suc i) r there pass in omega (arith, here, far)) in
          omega (arith, none)
      | false ↦ λ e. one-passes test (k + 1) a roles (λ i r there pass. let far = h (suc i) r there pass in omega (arith, far))
    ]) refl

-- an actor that sends a source's stream is the source
pub sender-source : (plan : Plan) (s a : ℕ) → sends_stream (Source s) (role_of plan a) ≡ true → (a ≡ s) × (role_of plan a ≡ IsSource s)
sender-source plan s a h = by-role (role_of plan a) refl h
  where
    by-role : (role : Role) → role_of plan a ≡ role → sends_stream (Source s) role ≡ true → (a ≡ s) × (role_of plan a ≡ IsSource s)
    by-role (IsSource u) e k =
        let same : s ≡ u = eq-of s u k in
        let number = source-number plan a u e in
        (sym number ∙ sym same, e ∙ ap IsSource (sym same))
    by-role (IsNode f r) e k = cc
    by-role (IsClient c) e k = cc
    by-role Nobody e k = cc

few-senders : (plan : Plan) (s : ℕ) → length (senders_of plan (Source s)) ≤ 1
few-senders plan s =
    one-passes (sends_stream (Source s)) 0 s (roles_of plan) (λ i role there pass.
    let is : role_of plan i ≡ role = ap (λ (o : Option Role). unwrap_or o Nobody) there in
    let same = (sender-source plan s i (subst (λ (r : Role). sends_stream (Source s) r ≡ true) (sym is) pass)).0 in
    omega (arith, same))

-- ---- a reader of a source

pub record IsReading (plan : Plan) (x p s k : ℕ) : Type 0 where
  pub port : IsPortOf plan x p (Source s)
  pub source : role_of plan s ≡ IsSource s
  pub one : length (senders_of plan (Source s)) ≡ 1
  pub first : nth 0 (senders_of plan (Source s)) 0 ≡ s
  -- the place of the reader at the source
  pub placed : place_of (λ b. x == b) (readers_of plan (Source s)) ≡ Some k
  pub low : k < length (readers_of plan (Source s))
  pub back : nth 0 (readers_of plan (Source s)) k ≡ x
  -- what comes of the source is of this port
  pub sender : sender_at plan (inputs_of plan (role_of plan x)) s ≡ Some (p, 0)

-- the place of an actor in a list that has it
pub place-found : (a : ℕ) (xs : List ℕ) (k : ℕ) → k < length xs → nth 0 xs k ≡ a → (j : ℕ) × (place_of (λ b. a == b) xs ≡ Some j)
place-found a [] k low e = absurd (omega (arith, low))
place-found a (x ∷ xs) zero low e = let same = eq-test a x (sym e) in (0, ap (λ (b : Bool). cond {A = Option ℕ} b (Some 0) (elim (place_of (λ b. a == b) xs) as (λ _. Option ℕ) [ None ↦ None | Some i ↦ Some (suc i) ])) same)
place-found a (x ∷ xs) (suc k) low e =
    let rest = place-found a xs k (omega (arith, low)) e in
    elim (a == x) as (λ b. (j : ℕ) × (cond {A = Option ℕ} b (Some 0) (elim (place_of (λ b. a == b) xs) as (λ _. Option ℕ) [ None ↦ None | Some i ↦ Some (suc i) ]) ≡ Some j)) [
      | true ↦ (0, refl)
      | false ↦ (suc rest.0, ap (λ (o : Option ℕ). elim o as (λ _. Option ℕ) [ None ↦ None | Some i ↦ Some (suc i) ]) rest.1)
    ]

-- and what stands there
pub place-low : (a : ℕ) (xs : List ℕ) (r : ℕ) → place_of (λ b. a == b) xs ≡ Some r → (r < length xs) × (nth 0 xs r ≡ a)
place-low a [] r e = cc
place-low a (y ∷ ys) r e =
    (elim (a == y) as (λ b. (a == y) ≡ b → cond b (Some 0) (elim (place_of (λ b. a == b) ys) [ None ↦ None | Some i ↦ Some (suc i) ]) ≡ Some r → (r < length (y ∷ ys)) × (nth 0 (y ∷ ys) r ≡ a)) [
      | true ↦ λ t f. let first : 0 ≡ r = cc in (omega (arith, first), ap (λ (z : ℕ). nth 0 (y ∷ ys) z) (sym first) ∙ sym (eq-of a y t))
      | false ↦ λ t f. (elim (place_of (λ b. a == b) ys) as (λ o. place_of (λ b. a == b) ys ≡ o → elim o as (λ _. Option ℕ) [ None ↦ None | Some i ↦ Some (suc i) ] ≡ Some r → (r < length (y ∷ ys)) × (nth 0 (y ∷ ys) r ≡ a)) [
        | None ↦ λ g h. cc
        | Some i ↦ λ g h. let next : suc i ≡ r = cc in let rest = place-low a ys i g in let low = rest.0 in (omega (arith, next, low), ap (λ (z : ℕ). nth 0 (y ∷ ys) z) (sym next) ∙ rest.1)
      ]) refl f
    ]) refl e

some-sender : (plan : Plan) (k a p r : ℕ) (u : StreamRef) (ss : List StreamRef) → slice_get ss p ≡ Some u → place_of (λ b. a == b) (senders_of plan u) ≡ Some r → (pr : ℕ × ℕ) × (sender_from k plan ss a ≡ Some pr)
some-sender plan k a p r u [] there place = cc
some-sender plan k a zero r u (s ∷ ss) there place =
    let same : s ≡ u = some-same s u there in
    ((k, r), ap (λ (o : Option ℕ). elim o as (λ _. Option (ℕ × ℕ)) [ None ↦ sender_from (k + 1) plan ss a | Some q ↦ Some (k, q) ]) (subst (λ (z : StreamRef). place_of (λ b. a == b) (senders_of plan z) ≡ Some r) (sym same) place))
some-sender plan k a (suc p) r u (s ∷ ss) there place =
    (elim (place_of (λ b. a == b) (senders_of plan s)) as (λ o. (pr : ℕ × ℕ) × (elim o as (λ _. Option (ℕ × ℕ)) [ None ↦ sender_from (k + 1) plan ss a | Some q ↦ Some (k, q) ] ≡ Some pr)) [
      | None ↦ some-sender plan (k + 1) a p r u ss there place
      | Some q ↦ ((k, q), refl)
    ])

-- the streams that an actor reads have a sender
has-sender : (plan : Plan) (x p s : ℕ) → IsCheckedPlan plan → slice_get (inputs_of plan (role_of plan x)) p ≡ Some (Source s) → has_senders plan (Source s) ≡ true
has-sender plan x p s checked there = by-role (role_of plan x) refl there
  where
    by-role : (role : Role) → role_of plan x ≡ role → slice_get (inputs_of plan role) p ≡ Some (Source s) → has_senders plan (Source s) ≡ true
    by-role (IsSource u) is e = cc
    by-role Nobody is e = cc
    by-role (IsNode f r) is e =
        let place = place-of plan (node_place plan x) f r checked (node-at plan x f r is) in
        let at : slice_get (streams_of (home_of plan (f, r))) p ≡ Some (Source s) = ap (λ (ss : List StreamRef). slice_get ss p) (sym (home-inputs (home_of plan (f, r)) r)) ∙ e in
        all-at (has_senders plan) (streams_of (home_of plan (f, r))) p (Source s) place.sent at
    by-role (IsClient c) is e =
        let first = only-first plan.clients c p (Source s) e in
        let stream : client_stream plan c ≡ Source s = ap (λ (o : Option StreamRef). unwrap_or o (Source 0)) (subst (λ (z : ℕ). slice_get (inputs_of plan (IsClient c)) z ≡ Some (Source s)) first e) in
        subst (λ (z : StreamRef). has_senders plan z ≡ true) stream (checked.clients c (client-below plan x c is))

pub reading-of : (plan : Plan) (x p s : ℕ) → IsCheckedPlan plan → IsPortOf plan x p (Source s) → (k : ℕ) × IsReading plan x p s k
reading-of plan x p s checked port =
    let senders = senders_of plan (Source s) in
    let some = lt-of 0 (length senders) (has-sender plan x p s checked port.there) in
    let few = few-senders plan s in
    let it = sender-source plan s (nth 0 senders 0) (all-nth (λ (b : ℕ). sends_stream (Source s) (role_of plan b)) 0 senders 0 some (actors-pass (sends_stream (Source s)) plan)) in
    let place = place-found s senders 0 some it.0 in
    let some_pair = some-sender plan 0 s p place.0 (Source s) (inputs_of plan (role_of plan x)) port.there place.1 in
    let found = sender-of plan (inputs_of plan (role_of plan x)) s some_pair.0.0 some_pair.0.1 some_pair.1 in
    let it_reads = reader-found plan (Source s) x (any-at (same_stream (Source s)) (inputs_of plan (role_of plan x)) p (Source s) port.there (eq-test s s refl)) in
    let reader = place-found x (readers_of plan (Source s)) it_reads.place it_reads.low it_reads.it in
    let known = place-low x (readers_of plan (Source s)) reader.0 reader.1 in (
      reader.0,
      record {
        port = port;
        source = ap (λ (z : ℕ). role_of plan z) (sym it.0) ∙ it.1;
        one = omega (arith, some, few);
        first = it.0;
        placed = reader.1;
        low = known.0;
        back = known.1;
        sender = some_pair.1 ∙ ap {B = Option (ℕ × ℕ)} Some (at-place some_pair.0 found.stream found.at found.place it few);
      },
    )
  where
    at-place : (pr : ℕ × ℕ) (u : StreamRef) → slice_get (inputs_of plan (role_of plan x)) pr.0 ≡ Some u → place_of (λ b. s == b) (senders_of plan u) ≡ Some pr.1 →
        (nth 0 (senders_of plan (Source s)) 0 ≡ s) × (role_of plan (nth 0 (senders_of plan (Source s)) 0) ≡ IsSource s) → length (senders_of plan (Source s)) ≤ 1 → pr ≡ (p, 0)
    at-place pr u there place it few =
        let k = place-low s (senders_of plan u) pr.1 place in
        let sends : sends_stream u (role_of plan s) ≡ true = subst (λ (z : ℕ). sends_stream u (role_of plan z) ≡ true) k.1 (all-nth (λ (b : ℕ). sends_stream u (role_of plan b)) 0 (senders_of plan u) pr.1 k.0 (actors-pass (sends_stream u) plan)) in
        let role : role_of plan s ≡ IsSource s = ap (λ (z : ℕ). role_of plan z) (sym it.0) ∙ it.1 in
        let same : u ≡ Source s = sends-source u s (subst (λ (z : Role). sends_stream u z ≡ true) role sends) in
        let port_same : pr.0 ≡ p = port.only pr.0 (there ∙ ap (λ (z : StreamRef). Some z) same) in
        let low : pr.1 < length (senders_of plan (Source s)) = subst (λ (z : StreamRef). pr.1 < length (senders_of plan z)) same k.0 in
        let zero_place : pr.1 ≡ 0 = omega (arith, low, few) in
        rw (port_same, zero_place) refl
