-- What the events of a source make of the plain world.
use Rattle.std.proofs.Common.{◌≡◌, ℕ, Bool, true, false, cond, ◌&&◌, refl, sym, ap, subst, ◌∙◌, List, Option, Some, slice_index_or}
use Rattle.dpc_model.specs.Actors.{role_of}
use Rattle.dpc_model.specs.declared.actors.Role.{Role}
use Rattle.dpc_model.specs.declared.actors.Role.TheVariants.{Source as IsSource, Node as IsNode, Client as IsClient, Nobody}
use Rattle.dpc_model.specs.declared.messages.Event.TheVariants.{Emit, Release, Deliver, Tick}
use Rattle.dpc_model.specs.declared.messages.Message.{Message}
use Rattle.dpc_model.specs.declared.messages.Out.{Out}
use Rattle.dpc_model.specs.declared.plans.Plan.{Plan}
use Rattle.node_model.specs.Mails.{Packet, Plain, Stepped, mails}
use Rattle.node_model.specs.Sources.{SourceState, source_emits, source_releases, source_message, source_packet_step, source_tick_step}
use Rattle.node_core.specs.declared.packets.Packet.TheVariants as packet
use Rattle.source_core.specs.Emitting.{SourceValue}
use Rattle.source_core.proofs.Staying.{stays-one}
use Rattle.world_model.specs.Worlds.{World, Envelope, source_at, source_stepped, is_release_time, is_clock, emits, releases, link_up, role_up, taken_by, comes as plain_comes, ticks, happens}
use Rattle.world_parts.specs.Parts.{WorldPartsValue, StandsForSent, StandsForWorld}
use Rattle.world_parts.specs.Events.{IsSomeWorld, IsComing}
use Rattle.world_parts.proofs.Posting.{envelope-at}
use Rattle.world_parts.proofs.Sources.{IsSourceAt, IsStep, source-here, source-is, source-of}

-- ---- nothing happens

-- no source has it, or its time is none of the run
abbrev pub IsVoid : Plan → ℕ → ℕ → Type 0
IsVoid plan a t = (s : ℕ) → role_of plan a ≡ IsSource s → is_release_time plan t ≡ false

void-in : (plan : Plan) (a t : ℕ) (x : World) → IsVoid plan a t → x.plan ≡ plan → IsVoid x.plan a t
void-in plan a t x none same = subst (λ (p : Plan). IsVoid p a t) (sym same) none

pub emit-void : (plan : Plan) (a t : ℕ) (x : World) → IsVoid plan a t → x.plan ≡ plan → happens x (Emit a t) ≡ x
emit-void plan a t x none same = by-role (role_of x.plan a) (void-in plan a t x none same)
  where
    by-role : (role : Role) → ((s : ℕ) → role ≡ IsSource s → is_release_time x.plan t ≡ false) → emits x a t role ≡ x
    by-role (IsSource s) h = ap (λ (b : Bool). cond b (source_stepped a (source_emits x.plan s t (source_at x s)) x) x) (h s refl)
    by-role (IsNode f r) h = refl
    by-role (IsClient c) h = refl
    by-role Nobody h = refl

pub release-void : (plan : Plan) (a t : ℕ) (x : World) → IsVoid plan a t → x.plan ≡ plan → happens x (Release a t) ≡ x
release-void plan a t x none same = by-role (role_of x.plan a) (void-in plan a t x none same)
  where
    by-role : (role : Role) → ((s : ℕ) → role ≡ IsSource s → is_release_time x.plan t ≡ false) → releases x a t role ≡ x
    by-role (IsSource s) h = ap (λ (b : Bool). cond b (source_stepped a (source_releases x.plan s t (source_at x s)) x) x) (h s refl)
    by-role (IsNode f r) h = refl
    by-role (IsClient c) h = refl
    by-role Nobody h = refl

-- the step of a plan and a number is that of the world's plan and the source's place
step-in : (step : Plan → ℕ → SourceState → Stepped SourceState) (plan : Plan) (a s n : ℕ) (x : World) → x.plan ≡ plan → n ≡ s → source_stepped a (step x.plan s (source_at x s)) x ≡ source_stepped a (step plan n (source_at x s)) x
step-in step plan a s n x same number =
    ap (λ (p : Plan). source_stepped a (step p s (source_at x s)) x) same ∙ ap (λ (i : ℕ). source_stepped a (step plan i (source_at x s)) x) (sym number)

role-in : (plan : Plan) (a : ℕ) (role : Role) (x : World) → role_of plan a ≡ role → x.plan ≡ plan → role_of x.plan a ≡ role
role-in plan a role x e same = ap (λ (p : Plan). role_of p a) same ∙ e

-- ---- it emits and releases

time-in : (plan : Plan) (t : ℕ) (x : World) → is_release_time plan t ≡ true → x.plan ≡ plan → is_release_time x.plan t ≡ true
time-in plan t x e same = ap (λ (p : Plan). is_release_time p t) same ∙ e

emit-plain : (plan : Plan) (a s t n : ℕ) (x : World) → role_of plan a ≡ IsSource s → is_release_time plan t ≡ true → x.plan ≡ plan → n ≡ s → happens x (Emit a t) ≡ source_stepped a (source_emits plan n t (source_at x s)) x
emit-plain plan a s t n x role time same number =
    ap (λ (r : Role). emits x a t r) (role-in plan a (IsSource s) x role same)
    ∙ ap (λ (b : Bool). cond b (source_stepped a (source_emits x.plan s t (source_at x s)) x) x) (time-in plan t x time same)
    ∙ step-in (λ p i y. source_emits p i t y) plan a s n x same number

release-plain : (plan : Plan) (a s t n : ℕ) (x : World) → role_of plan a ≡ IsSource s → is_release_time plan t ≡ true → x.plan ≡ plan → n ≡ s → happens x (Release a t) ≡ source_stepped a (source_releases plan n t (source_at x s)) x
release-plain plan a s t n x role time same number =
    ap (λ (r : Role). releases x a t r) (role-in plan a (IsSource s) x role same)
    ∙ ap (λ (b : Bool). cond b (source_stepped a (source_releases x.plan s t (source_at x s)) x) x) (time-in plan t x time same)
    ∙ step-in (λ p i y. source_releases p i t y) plan a s n x same number

pub emit-step :
    (plan : Plan) (old seen : WorldPartsValue) (a s t : ℕ) (v : SourceValue) (outs : List Out) → IsSomeWorld plan old → role_of plan a ≡ IsSource s → is_release_time plan t ≡ true → seen ≡ old → v ≡ slice_index_or seen.sources s v →
    mails outs ≡ (source_emits plan v.number t v.state).sends → IsStep plan old a s (Emit a t) (λ y. source_emits plan v.number t y) v outs
emit-step plan old seen a s t v outs some role time same is sends =
    let here = source-here plan old seen a s v some role same is in
    record {
      role = role;
      here = here;
      stays = (stays-one plan v (source-of plan old s v some here)).emits t;
      sends = sends;
      plain = λ x h number. emit-plain plan a s t v.number x role time h.plan_is number;
    }

pub release-step :
    (plan : Plan) (old seen : WorldPartsValue) (a s t : ℕ) (v : SourceValue) (outs : List Out) → IsSomeWorld plan old → role_of plan a ≡ IsSource s → is_release_time plan t ≡ true → seen ≡ old → v ≡ slice_index_or seen.sources s v →
    mails outs ≡ (source_releases plan v.number t v.state).sends → IsStep plan old a s (Release a t) (λ y. source_releases plan v.number t y) v outs
release-step plan old seen a s t v outs some role time same is sends =
    let here = source-here plan old seen a s v some role same is in
    record {
      role = role;
      here = here;
      stays = (stays-one plan v (source-of plan old s v some here)).releases t;
      sends = sends;
      plain = λ x h number. release-plain plan a s t v.number x role time h.plan_is number;
    }

-- ---- it ticks

tick-plain : (plan : Plan) (a s now n : ℕ) (x : World) (b : Bool) → role_of plan a ≡ IsSource s → is_clock (source_at x s).clock now ≡ b → x.plan ≡ plan →
    happens x (Tick a now) ≡ cond b (source_stepped a (source_tick_step x.plan s now (source_at x s)) x) x
tick-plain plan a s now n x b role clock same =
    ap (λ (r : Role). ticks x a now r) (role-in plan a (IsSource s) x role same) ∙ ap (λ (c : Bool). cond c (source_stepped a (source_tick_step x.plan s now (source_at x s)) x) x) clock

clock-in : (plan : Plan) (old : WorldPartsValue) (s now : ℕ) (v : SourceValue) (x : World) (b : Bool) → IsSourceAt old s v → StandsForWorld plan old x → is_clock v.state.clock now ≡ b → is_clock (source_at x s).clock now ≡ b
clock-in plan old s now v x b here h clock = ap (λ (y : SourceState). is_clock y.clock now) (sym (source-is plan old s v x here h).state) ∙ clock

-- the clock would fall, or is none
pub tick-void :
    (plan : Plan) (old : WorldPartsValue) (a s now : ℕ) (v : SourceValue) (x : World) → role_of plan a ≡ IsSource s → IsSourceAt old s v → is_clock v.state.clock now ≡ false → StandsForWorld plan old x → happens x (Tick a now) ≡ x
tick-void plan old a s now v x role here clock h = tick-plain plan a s now s x false role (clock-in plan old s now v x false here h clock) h.plan_is

pub tick-step :
    (plan : Plan) (old seen : WorldPartsValue) (a s now : ℕ) (u v : SourceValue) (outs : List Out) → IsSomeWorld plan old → role_of plan a ≡ IsSource s → seen ≡ old → u ≡ slice_index_or seen.sources s u → is_clock u.state.clock now ≡ true →
    v ≡ slice_index_or seen.sources s v → mails outs ≡ (source_tick_step plan v.number now v.state).sends → IsStep plan old a s (Tick a now) (λ y. source_tick_step plan v.number now y) v outs
tick-step plan old seen a s now u v outs some role same was clock is sends =
    let before = source-here plan old seen a s u some role same was in
    let here = source-here plan old seen a s v some role same is in
    record {
      role = role;
      here = here;
      stays = (stays-one plan v (source-of plan old s v some here)).ticks now;
      sends = sends;
      plain = λ x h number. tick-plain plan a s now s x true role (clock-in plan old s now u x true before h clock) h.plan_is ∙ step-in (λ p i y. source_tick_step p i now y) plan a s v.number x h.plan_is number;
    }

-- ---- an envelope comes to it

-- to a source goes no snapshot
pub no-snapshot : (plan : Plan) (old : WorldPartsValue) (k s : ℕ) → IsSomeWorld plan old → (comes : IsComing plan old k (IsSource s)) → (m : Message) × (comes.envelope.packet ≡ packet.Plain m)
no-snapshot plan old k s some comes =
    let at = envelope-at plan old some.0 k comes.envelope some.2.stands comes.is in
    let sent : StandsForSent plan (IsSource s) comes.envelope.packet at.envelope.packet = rw (ap (λ (b : ℕ). role_of plan b) (sym at.stands.to) ∙ comes.to) at at.stands.packet in
    (sent.0, sent.1)

packet-step : (plan : Plan) (s a : ℕ) (m : Message) (y : SourceState) → source_packet_step plan s a (Plain m) y ≡ source_message plan s a m y
unfolding source_packet_step
packet-step plan s a m y = refl

comes-plain : (plan : Plan) (s : ℕ) (e : Envelope) (x : World) → x.plan ≡ plan → role_of plan e.to ≡ IsSource s → link_up x e.sender e.to ≡ true →
    plain_comes x (Some e) ≡ source_stepped e.to (source_packet_step x.plan s e.sender e.packet (source_at x s)) x
comes-plain plan s e x same role up =
    let is = role-in plan e.to (IsSource s) x role same in
    ap (λ (r : Role). cond (link_up x e.sender e.to && role_up x e.to r) (taken_by x e r) x) is ∙ ap (λ (b : Bool). cond (b && true) (source_stepped e.to (source_packet_step x.plan s e.sender e.packet (source_at x s)) x) x) up

plain-same : (m n : Message) → packet.Plain m ≡ packet.Plain n → m ≡ n
plain-same m n e = cc

deliver-plain :
    (plan : Plan) (old : WorldPartsValue) (k s n : ℕ) (m : Message) (x : World) → (comes : IsComing plan old k (IsSource s)) → comes.envelope.packet ≡ packet.Plain m → StandsForWorld plan old x → n ≡ s →
    happens x (Deliver k) ≡ source_stepped comes.envelope.to (source_message plan n comes.envelope.sender m (source_at x s)) x
deliver-plain plan old k s n m x comes is h number =
    let at = envelope-at plan old x k comes.envelope h comes.is in
    let e = at.envelope in
    let role : role_of plan e.to ≡ IsSource s = ap (λ (b : ℕ). role_of plan b) (sym at.stands.to) ∙ comes.to in
    let sent : StandsForSent plan (IsSource s) comes.envelope.packet e.packet = rw role at at.stands.packet in
    let plain : e.packet ≡ Plain m = sent.2 ∙ ap (λ (i : Message). Plain i) (plain-same sent.0 m (sym sent.1 ∙ is)) in
    let up : link_up x e.sender e.to ≡ true = ap (λ (b : ℕ). link_up x b e.to) (sym at.stands.sender) ∙ ap (λ (b : ℕ). link_up x comes.envelope.sender b) (sym at.stands.to) ∙ comes.linked x h in
    ap (λ (o : Option Envelope). plain_comes x o) at.is
    ∙ comes-plain plan s e x h.plan_is role up
    ∙ step-in (λ p i y. source_packet_step p i e.sender e.packet y) plan e.to s n x h.plan_is number
    ∙ ap (λ (p : Packet). source_stepped e.to (source_packet_step plan n e.sender p (source_at x s)) x) plain
    ∙ ap (λ (t : Stepped SourceState). source_stepped e.to t x) (packet-step plan n e.sender m (source_at x s))
    ∙ ap (λ (b : ℕ). source_stepped b (source_message plan n e.sender m (source_at x s)) x) (sym at.stands.to)
    ∙ ap (λ (b : ℕ). source_stepped comes.envelope.to (source_message plan n b m (source_at x s)) x) (sym at.stands.sender)

pub deliver-step :
    (plan : Plan) (old seen : WorldPartsValue) (k s sender a : ℕ) (m : Message) (v : SourceValue) (outs : List Out) → IsSomeWorld plan old → (comes : IsComing plan old k (IsSource s)) → comes.envelope.sender ≡ sender → comes.envelope.to ≡ a →
    comes.envelope.packet ≡ packet.Plain m → seen ≡ old → v ≡ slice_index_or seen.sources s v → mails outs ≡ (source_message plan v.number sender m v.state).sends →
    IsStep plan old a s (Deliver k) (λ y. source_message plan v.number sender m y) v outs
deliver-step plan old seen k s sender a m v outs some comes from to packet same is sends =
    let role : role_of plan a ≡ IsSource s = ap (λ (b : ℕ). role_of plan b) (sym to) ∙ comes.to in
    let here = source-here plan old seen a s v some role same is in
    record {
      role = role;
      here = here;
      stays = (stays-one plan v (source-of plan old s v some here)).takes sender m;
      sends = sends;
      plain = λ x h number.
          deliver-plain plan old k s v.number m x comes packet h number ∙ ap (λ (b : ℕ). source_stepped b (source_message plan v.number comes.envelope.sender m (source_at x s)) x) to
          ∙ ap (λ (b : ℕ). source_stepped a (source_message plan v.number b m (source_at x s)) x) from;
    }
