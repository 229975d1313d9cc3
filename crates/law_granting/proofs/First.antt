-- The batches that a port took are the first ones that its sender sent.
use Rattle.std.proofs.Common.{◌≡◌, ℕ, zero, suc, ◌+◌, ◌<◌, Bool, true, false, cond, ◌&&◌, ◌||◌, ◌==◌, List, [], ◌∷◌, ◌++◌, map, length, refl, sym, ap, subst, ◌∙◌, arith, Option, Some, None, slice_get, ◌⊎◌, inl, inr}
use Rattle.std.proofs.lemmas.List.{length-map}
use Rattle.std.proofs.lemmas.List.FromFn.{length-range_with_len}
use Rattle.std.proofs.lemmas.Bool.{or_left, or_right}
use Rattle.dpc_lists.specs.Lists.{nth, range_with_len, list_any, IsPrefixOf}
use Rattle.dpc_model.specs.Inlets.{same_sess, sess_of}
use Rattle.dpc_model.specs.Actors.{role_of, nodes_of, inputs_of, reads_from, sends_stream, same_stream}
use Rattle.dpc_model.specs.declared.actors.Role.{Role}
use Rattle.dpc_model.specs.declared.actors.Role.TheVariants.{Source as IsSource, Node as IsNode, Client as IsClient, Nobody}
use Rattle.dpc_model.specs.Sessions.{no_session, opening_session}
use Rattle.dpc_model.specs.declared.sessions.Sub.{Sub}
use Rattle.dpc_model.specs.declared.messages.Event.{Event}
use Rattle.dpc_model.specs.declared.messages.Message.TheVariants as message
use Rattle.dpc_model.specs.declared.messages.Sess.{Sess}
use Rattle.dpc_model.specs.declared.plans.Plan.{Plan}
use Rattle.dpc_model.specs.declared.plans.StreamRef.{StreamRef}
use Rattle.dpc_model.specs.declared.plans.StreamRef.TheVariants.{Source, Frag}
use Rattle.node_model.specs.Mails.{Packet, Plain, SnapFor}
use Rattle.node_model.specs.Sources.{SourceState, source_readers, new_source}
use Rattle.world_model.specs.Worlds.{Envelope, source_at, no_source, run_from, run, new_world}
use Rattle.world_model.specs.Orderly.{is_fitting, packet_way, carries_fitting}
use Rattle.world_model.specs.SessionLaw.{Channel}
use Rattle.law_safety.specs.Plans.{IsCheckedPlan}
use Rattle.dpc_lists.proofs.Truths.{both, eq-of, eq-test}
use Rattle.dpc_model.proofs.Roles.{sources-first}
use Rattle.world_model.proofs.Running.{new_world-none}
use Rattle.law_safety.proofs.Numbering.{all-at, role-split, source-at as source-number, no-node-source}
use Rattle.law_safety.proofs.Law.{new_world-fine, new_world-plan, run-fine}
use Rattle.law_safety.proofs.Growing.{run_from-plan}
use Rattle.law_granting.specs.Taken.{index_in, index_of, batches_in, taken_in, line_of, IsBatchAt, IsAnsweredIn, PrefixTaken}
use Rattle.law_granting.proofs.Taking.{run-taken}
use Rattle.law_granting.proofs.Sending.{indexes}
use Rattle.law_granting.proofs.Sent.{SubHolds}
use Rattle.law_granting.proofs.Prefix.{taken-first, IsReader, reader-found, none-holds, first-holds, node-sent}
use Rattle.law_granting.proofs.Sourced.{SourceOrder, IsSourceLine, source-run}

-- ---- the opening of a source

pub source-below : (plan : Plan) (a u : ℕ) → role_of plan a ≡ IsSource u → u < length plan.sources
source-below plan a u e =
    let less = sources-first (map (λ (n : ℕ × ℕ). IsNode n.0 n.1) (nodes_of plan) ++ map IsClient (range_with_len 0 (length plan.clients))) (no-node-source (nodes_of plan) (range_with_len 0 (length plan.clients))) 0 (length plan.sources) a u (sym (role-split plan a) ∙ e) in
    let number = source-number plan a u e in omega (arith, less, number)

pub sources-at : (plan : Plan) (k n j : ℕ) → j < n → nth no_source (map (new_source plan) (range_with_len k n)) j ≡ new_source plan (k + j)
sources-at plan k zero j h = absurd (omega (arith, h))
sources-at plan k (suc n) zero h = let none : k + 0 ≡ k = omega arith in ap (λ (z : ℕ). new_source plan z) (sym none)
sources-at plan k (suc n) (suc j) h = let next : k + 1 + j ≡ k + suc j = omega arith in sources-at plan (k + 1) n j (omega (arith, h)) ∙ ap (λ (z : ℕ). new_source plan z) next

pub nth-opening : {X : Type 0} (ys : List X) (k : ℕ) → (nth no_session (map (λ (_ : X). opening_session) ys) k ≡ opening_session) ⊎ (nth no_session (map (λ (_ : X). opening_session) ys) k ≡ no_session)
nth-opening [] k = inr refl
nth-opening (y ∷ ys) zero = inl refl
nth-opening (y ∷ ys) (suc k) = nth-opening ys k

new-source-sub : (plan : Plan) (u k i : ℕ) (s : Sess) → (same_sess (sess_of 1 1) s ≡ true → i ≡ 1) → SubHolds s i 0 1 (nth no_session (new_source plan u).subs k)
unfolding new_source
new-source-sub plan u k i s opening =
    elim (nth-opening (source_readers plan u) k) [
      | inl first ↦ subst (λ (z : Sub). SubHolds s i 0 1 z) (sym first) (first-holds s i opening)
      | inr none ↦ subst (λ (z : Sub). SubHolds s i 0 1 z) (sym none) (none-holds s i 1)
    ]

pub new-source-few : (plan : Plan) (u : ℕ) → length (new_source plan u).subs ≡ length (source_readers plan u)
unfolding new_source
new-source-few plan u = length-map (source_readers plan u) (λ _. opening_session)

pub new-sources : (plan : Plan) → (new_world plan).sources ≡ map (new_source plan) (range_with_len 0 (length plan.sources))
unfolding new_world
new-sources plan = refl

pub new-source-order : (plan : Plan) (a x u k i : ℕ) (s : Sess) → role_of plan a ≡ IsSource u → (same_sess (sess_of 1 1) s ≡ true → i ≡ 1) → SourceOrder (new_world plan) a x u k i s (length (source_readers plan u))
new-source-order plan a x u k i s role opening =
    let below = source-below plan a u role in
    let zero_on : 0 + u ≡ u = omega arith in
    let here : source_at (new_world plan) u ≡ new_source plan u = ap (λ (xs : List SourceState). nth no_source xs u) (new-sources plan) ∙ sources-at plan 0 (length plan.sources) u below ∙ ap (λ (z : ℕ). new_source plan z) zero_on in
    let many : length (new_world plan).sources ≡ length plan.sources = ap length (new-sources plan) ∙ length-map (range_with_len 0 (length plan.sources)) (new_source plan) ∙ length-range_with_len 0 (length plan.sources) in
    record {
      many = 0;
      order = ap (λ (es : List Envelope). indexes (record { sender = a; reader = x; sess = s }) es) (new_world-none plan);
      within = omega (arith, below, many);
      few = ap (λ (z : SourceState). length z.subs) here ∙ new-source-few plan u;
      there = subst (λ (z : SourceState). SubHolds s i 0 1 (nth no_session z.subs k)) (sym here) (new-source-sub plan u k i s opening);
    }

source-sent : (plan : Plan) (events : List Event) (a x u i : ℕ) (s : Sess) → role_of plan a ≡ IsSource u → IsReader plan (Source u) x → IsAnsweredIn plan events (record { sender = a; reader = x; sess = s }) i →
    (many : ℕ) × (indexes (record { sender = a; reader = x; sess = s }) (run plan events).envelopes ≡ range_with_len 0 many)
unfolding run
source-sent plan events a x u i s role reader answered =
    let start = new_world plan in
    let line : IsSourceLine plan a x u reader.place (length (source_readers plan u)) = record { role = role; reader = reader.it; low = reader.low; few = refl } in
    let h = source-run start events a x u reader.place i s (length (source_readers plan u)) (subst (λ (p : Plan). IsSourceLine p a x u reader.place (length (source_readers plan u))) (sym (new_world-plan plan)) line)
    (new-source-order plan a x u reader.place i s role answered.opening) answered.subscribed in
    (h.many, h.order)

-- ---- who sent what was taken

-- only a batch has an index
batch-way : (plan : Plan) (from to : Role) (s : Sess) (p : Packet) (v : ℕ) → index_in s p ≡ Some v → packet_way plan from to p ≡ true → reads_from plan to from ≡ true
batch-way plan from to s (Plain (message.Batch u index items)) v e way = way
batch-way plan from to s (Plain (message.Subscribe asked)) v e way = cc
batch-way plan from to s (Plain (message.Truncated u base)) v e way = cc
batch-way plan from to s (Plain (message.Beat b)) v e way = cc
batch-way plan from to s (Plain (message.Ack i n)) v e way = cc
batch-way plan from to s (Plain (message.Ask i n)) v e way = cc
batch-way plan from to s (Plain (message.Grant i n)) v e way = cc
batch-way plan from to s (Plain (message.SnapAsk i n)) v e way = cc
batch-way plan from to s (SnapFor i try snap) v e way = cc

index-parts : (l : Channel) (e : Envelope) (v : ℕ) → index_of l e ≡ Some v → (e.sender ≡ l.sender) × (e.to ≡ l.reader) × (index_in l.sess e.packet ≡ Some v)
index-parts l e v h =
    (elim (e.sender == l.sender && e.to == l.reader) as (λ b. (e.sender == l.sender && e.to == l.reader) ≡ b → cond {A = Option ℕ} b (index_in l.sess e.packet) None ≡ Some v → (e.sender ≡ l.sender) × (e.to ≡ l.reader) × (index_in l.sess e.packet ≡ Some v)) [
      | true ↦ λ c d. let p = both (e.sender == l.sender) (e.to == l.reader) c in (eq-of e.sender l.sender p.0, eq-of e.to l.reader p.1, d)
      | false ↦ λ c d. cc
    ]) refl h

any-weaker : {X : Type 0} (p q : X → Bool) (xs : List X) → ((x : X) → p x ≡ true → q x ≡ true) → list_any p xs ≡ true → list_any q xs ≡ true
any-weaker p q [] h e = cc
any-weaker p q (x ∷ xs) h e =
    (elim (p x) as (λ b. p x ≡ b → (b || list_any p xs) ≡ true → (q x || list_any q xs) ≡ true) [
      | true ↦ λ c d. or_left (q x) (list_any q xs) (h x c)
      | false ↦ λ c d. or_right (q x) (list_any q xs) (any-weaker p q xs h d)
    ]) refl e

stream-turned : (s u : StreamRef) → same_stream s u ≡ true → same_stream u s ≡ true
stream-turned (Source a) (Source b) e = eq-test b a (sym (eq-of a b e))
stream-turned (Source a) (Frag b) e = cc
stream-turned (Frag a) (Source b) e = cc
stream-turned (Frag a) (Frag b) e = eq-test b a (sym (eq-of a b e))

none-any : {X : Type 0} (xs : List X) → list_any (λ (_ : X). false) xs ≡ false
none-any [] = refl
none-any (x ∷ xs) = none-any xs

-- the sender of a batch sent the session in order
sent-in-order : (plan : Plan) (events : List Event) (a x i : ℕ) (s : Sess) → IsCheckedPlan plan → reads_from plan (role_of plan x) (role_of plan a) ≡ true → IsAnsweredIn plan events (record { sender = a; reader = x; sess = s }) i →
    (many : ℕ) × (indexes (record { sender = a; reader = x; sess = s }) (run plan events).envelopes ≡ range_with_len 0 many)
sent-in-order plan events a x i s checked reads answered = by-role (role_of plan a) refl
  where
    by-role : (role : Role) → role_of plan a ≡ role → (many : ℕ) × (indexes (record { sender = a; reader = x; sess = s }) (run plan events).envelopes ≡ range_with_len 0 many)
    by-role (IsNode f r) is =
        let way : reads_from plan (role_of plan x) (IsNode f r) ≡ true = rw is at reads in
        node-sent plan events a x f r i s checked is (reader-found plan (Frag f) x (any-weaker (λ (z : StreamRef). sends_stream z (IsNode f r)) (same_stream (Frag f)) (inputs_of plan (role_of plan x)) (λ z e. stream-turned z (Frag f) e) way)) answered
    by-role (IsSource u) is =
        let way : reads_from plan (role_of plan x) (IsSource u) ≡ true = rw is at reads in
        source-sent plan events a x u i s is (reader-found plan (Source u) x (any-weaker (λ (z : StreamRef). sends_stream z (IsSource u)) (same_stream (Source u)) (inputs_of plan (role_of plan x)) (λ z e. stream-turned z (Source u) e) way)) answered
    by-role (IsClient c) is =
        let way : reads_from plan (role_of plan x) (IsClient c) ≡ true = rw is at reads in
        let clash : true ≡ false = sym way ∙ none-any (inputs_of plan (role_of plan x)) in cc
    by-role Nobody is =
        let way : reads_from plan (role_of plan x) Nobody ≡ true = rw is at reads in
        let clash : true ≡ false = sym way ∙ none-any (inputs_of plan (role_of plan x)) in cc

-- ---- the law

sender-reads : (plan : Plan) (events : List Event) (l : Channel) (k v : ℕ) → IsCheckedPlan plan → IsBatchAt l (run plan events).envelopes k v → reads_from plan (role_of plan l.reader) (role_of plan l.sender) ≡ true
unfolding run
sender-reads plan events l k v checked b =
    let w = run_from (new_world plan) events in
    let fine = (run-fine (new_world plan) 1 events (new_world-fine plan checked)).fine in
    let e = b.envelope in
    let fits = all-at (is_fitting w.plan) w.envelopes k e fine.fits b.there in
    let way = (both (packet_way w.plan (role_of w.plan e.sender) (role_of w.plan e.to) e.packet) (carries_fitting w.plan (role_of w.plan e.sender) e.packet) fits).0 in
    let parts = index-parts l e v b.is_batch in
    let reads = batch-way w.plan (role_of w.plan e.sender) (role_of w.plan e.to) l.sess e.packet v parts.2 way in
    let same = run_from-plan (new_world plan) events ∙ new_world-plan plan in
    subst (λ (z : ℕ). reads_from plan (role_of plan z) (role_of plan l.sender) ≡ true) parts.1
    (subst (λ (z : ℕ). reads_from plan (role_of plan e.to) (role_of plan z) ≡ true) parts.0 (subst (λ (p : Plan). reads_from p (role_of p e.to) (role_of p e.sender) ≡ true) same reads))

pub prefix-taken : (plan : Plan) (events : List Event) → IsCheckedPlan plan → PrefixTaken plan events
prefix-taken plan events checked x p i u q input there answered = by-list (taken_in plan events x p) (run-taken plan events checked x p u q input there)
  where
    by-list : (ks : List ℕ) → ((j k : ℕ) → slice_get ks j ≡ Some k → IsBatchAt (line_of plan x u q) (run plan events).envelopes k j) → IsPrefixOf ks (batches_in (line_of plan x u q) 0 (run plan events).envelopes)
    by-list [] h = (batches_in (line_of plan x u q) 0 (run plan events).envelopes, refl)
    by-list (k ∷ ks) h =
        let l = line_of plan x u q in
        let sent = sent-in-order plan events l.sender x i q.inlet.sess checked (sender-reads plan events l k 0 checked (h 0 k refl)) answered in
        taken-first l (run plan events).envelopes sent.0 (k ∷ ks) sent.1 h
