-- A client ticks, where its clock does not fall.
use Rattle.std.proofs.Common.{◌≡◌, ℕ, ◌+◌, Bool, true, false, cond, List, map, sym, ap, subst, ◌∙◌, arith, Some, Option, slice_get, slice_set, unwrap_or}
use Rattle.dpc_lists.specs.Lists.{changed}
use Rattle.dpc_model.specs.Actors.{role_of}
use Rattle.dpc_model.specs.declared.actors.Role.{Role}
use Rattle.dpc_model.specs.declared.actors.Role.TheVariants.{Client as IsClient}
use Rattle.dpc_model.specs.declared.messages.Event.TheVariants.{Tick}
use Rattle.dpc_model.specs.declared.messages.Out.{Out}
use Rattle.dpc_model.specs.declared.plans.Plan.{Plan}
use Rattle.node_model.specs.Clients.{ClientState, new_client, client_tick_step}
use Rattle.node_core.specs.declared.packets.Packet.TheVariants as packet
use Rattle.node_core.specs.declared.packets.Mail as code_mail
use Rattle.client_fold.specs.Folding.{ClientValue, StandsForClient, Follows, Sends}
use Rattle.world_model.specs.Worlds.{World, happens, ticks, is_clock, client_at, client_stepped}
use Rattle.world_parts.specs.Parts.{WorldPartsValue, StandsForWorld}
use Rattle.world_parts.specs.Counting.{IsWithinLimits, with_posted}
use Rattle.world_parts.specs.Events.{Leads, Happened}
use Rattle.world_parts.proofs.Posting.{posted-stands}
use Rattle.world_parts.proofs.PartFrames.{with-clients, void, told-sent}
use Rattle.world_parts.proofs.ClientPlaces.{client-stands, clients-set}

pub ticks-to : (x : World) (a now : ℕ) (role : Role) → role_of x.plan a ≡ role → happens x (Tick a now) ≡ ticks x a now role
ticks-to x a now role is = ap (λ (r : Role). ticks x a now r) is

-- the plain client there, and what the tick makes of the world
record Ticks (plan : Plan) (x : World) (a c now : ℕ) (old : ClientValue) : Type 0 where
  plain : ClientState
  at : slice_get x.clients c ≡ Some plain
  stands : StandsForClient plan c old plain
  becomes : happens x (Tick a now) ≡ cond (is_clock old.clock now) (client_stepped a c (client_tick_step plan c now plain) x) x

tick-of : (plan : Plan) (v : WorldPartsValue) (x : World) (a c now : ℕ) (old : ClientValue) → StandsForWorld plan v x → role_of plan a ≡ IsClient c → slice_get v.clients c ≡ Some old → Ticks plan x a c now old
tick-of plan v x a c now old h role at =
    let zero_on : 0 + c ≡ c = omega arith in
    let found = client-stands plan 0 c v.clients x.clients old h.clients at in
    let plain = found.0 in
    let stands : StandsForClient plan c old plain = subst (λ (i : ℕ). StandsForClient plan i old plain) zero_on found.2 in
    let here : role_of x.plan a ≡ IsClient c = subst (λ (p : Plan). role_of p a ≡ IsClient c) (sym h.plan_is) role in
    let is : client_at x c ≡ plain = ap (λ (o : Option ClientState). unwrap_or o (new_client x.plan c)) found.1 in
    let step = λ (p : Plan) (y : ClientState) (n : ℕ). cond (is_clock n now) (client_stepped a c (client_tick_step p c now y) x) x in
    record {
      plain = plain;
      at = found.1;
      stands = stands;
      becomes = ticks-to x a now (IsClient c) here ∙ ap (λ (y : ClientState). step x.plan y y.clock) is ∙ ap (λ (n : ℕ). step x.plan plain n) (sym stands.clock) ∙ ap (λ (p : Plan). step p plain old.clock) h.plan_is;
    }

-- a client that ticked, and posts what it sends
pub client_ticked :
    (plan : Plan) (v mid : WorldPartsValue) (a c now : ℕ) (old next : ClientValue) (told : List code_mail.Mail) (outs : List Out) → role_of plan a ≡ IsClient c → slice_get v.clients c ≡ Some old →
    is_clock old.clock now ≡ true → Follows (λ plan c x. (client_tick_step plan c now x).after) old next → Sends now old outs → record v { clients = slice_set v.clients c next } ≡ mid →
    told ≡ map (λ (o : Out). record { to = o.to; packet = packet.Plain o.message }) outs → Leads plan v (with_posted a told mid) (Tick a now)
client_ticked plan v mid a c now old next told outs role at clock follows sends same is x most h =
    let zero_on : 0 + c ≡ c = omega arith in
    let t = tick-of plan v x a c now old h.stands role at in
    let s = client_tick_step plan c now t.plain in
    let becomes : happens x (Tick a now) ≡ client_stepped a c s x = t.becomes ∙ ap (λ (b : Bool). cond b (client_stepped a c s x) x) clock in
    let stands : StandsForWorld plan (record v { clients = slice_set v.clients c next }) (record x { clients = changed c (λ _. s.after) x.clients }) =
    with-clients plan v x (slice_set v.clients c next) (changed c (λ _. s.after) x.clients) h.stands
    (clients-set plan 0 c old next (λ _. s.after) v.clients x.clients h.stands.clients at
    (λ y e k. subst (λ (i : ℕ). StandsForClient plan i next s.after) (sym zero_on) (follows plan c t.plain t.stands))) in
    subst (λ (w : World). StandsForWorld plan (with_posted a told mid) w) (sym becomes)
    (posted-stands plan mid (record x { clients = changed c (λ _. s.after) x.clients }) a told s.sends
    (subst (λ (m : WorldPartsValue). StandsForWorld plan m (record x { clients = changed c (λ _. s.after) x.clients })) same stands) (told-sent plan told outs s.sends is (sends plan c t.plain t.stands)))

-- one whose clock would fall
pub client_waits :
    (plan : Plan) (v : WorldPartsValue) (a c now : ℕ) (old : ClientValue) → IsWithinLimits v → role_of plan a ≡ IsClient c → slice_get v.clients c ≡ Some old → is_clock old.clock now ≡ false → Happened plan v v (Tick a now)
client_waits plan v a c now old within role at clock =
    void plan v (Tick a now) within
    (λ x h. let t = tick-of plan v x a c now old h role at in t.becomes ∙ ap (λ (b : Bool). cond b (client_stepped a c (client_tick_step plan c now t.plain) x) x) clock)
