-- A tick at a client and at the plain one.
use Rattle.std.proofs.Common.{◌≡◌, ℕ, Bool, true, false, List, [], ◌∷◌, ◌++◌, length, Some, None, refl, sym, ap, subst, ◌∙◌}
use Rattle.std.specs.Prelude.{if◌then◌else◌}
use Rattle.std.proofs.lemmas.List.{map-append}
use Rattle.dpc_lists.specs.Lists.{nth}
use Rattle.dpc_model.specs.Inlets.{InletState, with_next_session}
use Rattle.dpc_model.specs.PartStands.{InletValue}
use Rattle.dpc_model.specs.Parts.{Upstream}
use Rattle.dpc_model.specs.Ports.{Port, choice_at, must_reopen, port_after_tick, without_ended_marks, subscriptions}
use Rattle.dpc_model.specs.declared.messages.Out.{Out}
use Rattle.dpc_model.specs.declared.plans.Plan.{Plan}
use Rattle.dpc_model.specs.declared.tuples.Tuple.{Tuple}
use Rattle.inlet.specs.Forgotten.{Keeps}
use Rattle.upstream.specs.Upstreams.{UpstreamValue, with_marks_ended, with_tick, with_choice, port_by, asked_actor}
use Rattle.node_model.specs.Clients.{ClientState, client_stream, client_tick_step}
use Rattle.node_model.specs.Mails.{Mail, mails, mail}
use Rattle.node_model.specs.NodeParts.{upstream_of}
use Rattle.client_fold.specs.Folding.{ClientValue, StandsForClient, Follows, Sends, IsAsked, acks_of}

-- ---- a session that is opened anew

-- no actor is asked, and so no session is opened
pub unasked : (broken answered : Bool) (v : UpstreamValue) → None ≡ asked_actor broken answered v → must_reopen (port_by broken answered v.known) ≡ false
unasked broken answered v e =
    (elim (must_reopen (port_by broken answered v.known)) as (λ b. None ≡ (if b then Some (nth 0 v.senders (choice_at (port_by broken answered v.known))) else None) → b ≡ false) [
      | true ↦ λ h. absurd (cc)
      | false ↦ λ h. refl
    ]) e

-- an actor is asked, and so a session is opened
pub asks : (broken answered : Bool) (v : UpstreamValue) (to : ℕ) → Some to ≡ asked_actor broken answered v → must_reopen (port_by broken answered v.known) ≡ true
asks broken answered v to e =
    (elim (must_reopen (port_by broken answered v.known)) as (λ b. Some to ≡ (if b then Some (nth 0 v.senders (choice_at (port_by broken answered v.known))) else None) → b ≡ true) [
      | true ↦ λ h. refl
      | false ↦ λ h. absurd (cc)
    ]) e

abbrev pub reopened : Bool → InletValue → InletValue
reopened b v = if b then record v { state = with_next_session v.state } else v

keeps-reopened : (b : Bool) (gone : List Tuple) (v : InletValue) (x : InletState) → Keeps gone v x → Keeps gone (reopened b v) (if b then with_next_session x else x)
keeps-reopened true gone v x k = record { count = k.count; kept = k.kept; rest = ap with_next_session k.rest }
keeps-reopened false gone v x k = k

-- ---- the tick

-- what is known of the senders before the choice
abbrev pub ticked : ClientValue → Upstream
ticked v = with_tick (with_marks_ended v.inlet.count v.upstream.known)

abbrev pub port_of : ClientState → Port
port_of x = port_after_tick (without_ended_marks x.port)

ticked-is : (plan : Plan) (c : ℕ) (v : ClientValue) (x : ClientState) → StandsForClient plan c v x → ticked v ≡ upstream_of (port_of x)
ticked-is plan c v x h =
    ap (λ (n : ℕ). with_tick (with_marks_ended n v.upstream.known)) h.inlet.1.count ∙ ap (λ (u : Upstream). with_tick (with_marks_ended (length x.port.inlet.held.stable) u)) h.known

-- what an inlet that is kept tells of its session
pub broken-is : (gone : List Tuple) (v : InletValue) (x : InletState) → Keeps gone v x → v.state.broken ≡ x.broken
broken-is gone v x k = ap (λ (i : InletState). i.broken) k.rest

pub answered-is : (gone : List Tuple) (v : InletValue) (x : InletState) → Keeps gone v x → v.state.answered ≡ x.answered
answered-is gone v x k = ap (λ (i : InletState). i.answered) k.rest

follows-tick : (now : ℕ) (old : ClientValue) (u : UpstreamValue) (inlet : InletValue) →
    u ≡ record old.upstream { known = with_choice old.inlet.state.broken old.inlet.state.answered (ticked old) } →
    inlet ≡ reopened (must_reopen (port_by old.inlet.state.broken old.inlet.state.answered (ticked old))) old.inlet →
    Follows (λ plan c x. (client_tick_step plan c now x).after) old (record old { upstream = u; inlet = inlet; clock = now })
unfolding client_tick_step
follows-tick now old u inlet chosen kept plan c x h =
    let gone = h.inlet.0 in
    let k = h.inlet.1 in
    let same = ticked-is plan c old x h in
    let broken = broken-is gone old.inlet x.port.inlet k in
    let answered = answered-is gone old.inlet x.port.inlet k in
    let must : must_reopen (port_by old.inlet.state.broken old.inlet.state.answered (ticked old)) ≡ must_reopen (port_of x) =
    ap (λ (b : Bool). must_reopen (port_by b old.inlet.state.answered (ticked old))) broken ∙ ap (λ (a : Bool). must_reopen (port_by x.port.inlet.broken a (ticked old))) answered
    ∙ ap (λ (v : Upstream). must_reopen (port_by x.port.inlet.broken x.port.inlet.answered v)) same in
    let known =
    ap (λ (v : UpstreamValue). v.known) chosen ∙ ap (λ (b : Bool). with_choice b old.inlet.state.answered (ticked old)) broken
    ∙ ap (λ (a : Bool). with_choice x.port.inlet.broken a (ticked old)) answered ∙ ap (λ (v : Upstream). with_choice x.port.inlet.broken x.port.inlet.answered v) same in
    let session = kept ∙ ap (λ (b : Bool). reopened b old.inlet) must in
    record {
      senders = ap (λ (v : UpstreamValue). v.senders) chosen ∙ h.senders;
      known = known;
      inlet = (
        gone,
        subst (λ (i : InletValue). Keeps gone i (if must_reopen (port_of x) then with_next_session x.port.inlet else x.port.inlet)) (sym session)
            (keeps-reopened (must_reopen (port_of x)) gone old.inlet x.port.inlet k),
      );
      end = h.end;
      taken = h.taken;
      clock = refl;
    }

-- the choice, and a session that is opened anew where it must be
pub ticks : (now : ℕ) (old : ClientValue) (broken answered b : Bool) (t u : UpstreamValue) (inlet : InletValue) →
    broken ≡ old.inlet.state.broken → answered ≡ old.inlet.state.answered → t ≡ record old.upstream { known = ticked old } →
    u ≡ record t { known = with_choice broken answered t.known } → must_reopen (port_by broken answered t.known) ≡ b → inlet ≡ reopened b old.inlet →
    Follows (λ plan c x. (client_tick_step plan c now x).after) old (record old { upstream = u; inlet = inlet; clock = now })
ticks now old broken answered b t u inlet of_broken of_answered of_tick of_choice must is =
    let chosen : Bool → Bool → UpstreamValue → UpstreamValue = λ p q v. record v { known = with_choice p q v.known } in
    let opens : Bool → Bool → UpstreamValue → Bool = λ p q v. must_reopen (port_by p q v.known) in
    let later : UpstreamValue = record old.upstream { known = ticked old } in
    follows-tick now old u inlet
    (of_choice ∙ ap (λ (v : UpstreamValue). chosen broken answered v) of_tick ∙ ap (λ (p : Bool). chosen p answered later) of_broken
    ∙ ap (λ (q : Bool). chosen old.inlet.state.broken q later) of_answered)
    (is ∙ ap (λ (o : Bool). reopened o old.inlet)
    (sym must ∙ ap (λ (v : UpstreamValue). opens broken answered v) of_tick ∙ ap (λ (p : Bool). opens p answered later) of_broken
    ∙ ap (λ (q : Bool). opens old.inlet.state.broken q later) of_answered))

-- the subscription stands before the acknowledgements
pub sends : (now : ℕ) (old : ClientValue) (outs asked acks : List Out) → outs ≡ asked ++ acks → acks ≡ acks_of old.inlet.count old.upstream.senders → IsAsked old asked → Sends now old outs
unfolding client_tick_step
sends now old outs asked acks both told is plan c x h =
    let first = ap mails (is plan c x h) in
    let rest = ap mails (told ∙ ap (λ (n : ℕ). acks_of n old.upstream.senders) h.inlet.1.count ∙ ap (acks_of (length x.port.inlet.held.stable)) h.senders) in
    ap mails both ∙ map-append (λ (o : Out). mail o.to o.message) asked acks ∙ ap (λ (ms : List Mail). ms ++ mails acks) first ∙ ap (λ (ms : List Mail). mails (subscriptions plan (port_of x ∷ []) (client_stream plan c ∷ [])) ++ ms) rest
