-- What the step of one source makes of what stands for a world.
use Rattle.std.proofs.Common.{◌≡◌, ℕ, zero, suc, ◌+◌, ◌<◌, ◌≤◌, List, [], ◌∷◌, ◌++◌, map, length, refl, sym, ap, subst, ◌∙◌, arith, slice_index_or, slice_set, inl, inr, Result, Ok, Err, OnOk}
use Rattle.dpc_lists.specs.Lists.{nth, changed, range_with_len}
use Rattle.dpc_model.specs.Actors.{role_of, nodes_of}
use Rattle.dpc_model.specs.declared.actors.Role.TheVariants.{Source as IsSource, Node as IsNode, Client as IsClient}
use Rattle.dpc_model.specs.declared.messages.Event.{Event}
use Rattle.dpc_model.specs.declared.messages.Out.{Out}
use Rattle.dpc_model.specs.declared.plans.Plan.{Plan}
use Rattle.dpc_model.proofs.Roles.{sources-first}
use Rattle.node_model.specs.Mails.{Mail, Stepped, mails}
use Rattle.node_model.specs.Sources.{SourceState}
use Rattle.node_core.specs.declared.packets.Mail as code_mail
use Rattle.source_core.specs.Emitting.{SourceValue, IsSourceOf, after_step}
use Rattle.world_model.specs.Worlds.{World, no_source, source_at, source_stepped, happens}
use Rattle.law_safety.proofs.Numbering.{source-at, role-split, no-node-source}
use Rattle.world_parts.specs.declared.faults.EventFault.{EventFault}
use Rattle.world_parts.specs.Parts.{WorldPartsValue, StandsForSource, StandForSources, StandsForWorld}
use Rattle.world_parts.specs.Counting.{with_posted, IsPastLimits, IsWithinLimits, IsTooLong}
use Rattle.world_parts.specs.Events.{IsSomeWorld, Leads, Happened, WouldPass}
use Rattle.world_parts.proofs.Posting.{as_mail, AreSent, plain-sent, posted-stands, happened, would-pass}

-- ---- the source at a place

-- it has a number below theirs
pub source-below : (plan : Plan) (a s : ℕ) → role_of plan a ≡ IsSource s → s < length plan.sources
source-below plan a s e =
    let cs = range_with_len 0 (length plan.clients) in
    let less = sources-first (map (λ (n : ℕ × ℕ). IsNode n.0 n.1) (nodes_of plan) ++ map IsClient cs) (no-node-source (nodes_of plan) cs) 0 (length plan.sources) a s (sym (role-split plan a) ∙ e) in
    let number = source-at plan a s e in omega (arith, less, number)

-- there are as many as the plan has
many : (plan : Plan) (k : ℕ) (vs : List SourceValue) (xs : List SourceState) → StandForSources plan k vs xs → length plan.sources ≤ k + length vs
many plan k [] [] h = omega (arith, h)
many plan k [] (x ∷ xs) h = absurd h
many plan k (v ∷ vs) [] h = absurd h
many plan k (v ∷ vs) (x ∷ xs) h = let rest = many plan (k + 1) vs xs h.1 in omega (arith, rest)

-- it stands for the plain one there
at : (plan : Plan) (k i : ℕ) (vs : List SourceValue) (xs : List SourceState) (v : SourceValue) → StandForSources plan k vs xs → i < length vs → v ≡ slice_index_or vs i v → StandsForSource plan (k + i) v (nth no_source xs i)
at plan k i [] xs v h low e = absurd (omega (arith, low))
at plan k i (u ∷ vs) [] v h low e = absurd h
at plan k zero (u ∷ vs) (x ∷ xs) v h low e = let none : k + 0 ≡ k = omega arith in rw (none, e) h.0
at plan k (suc i) (u ∷ vs) (x ∷ xs) v h low e =
    let next : k + suc i ≡ k + 1 + i = omega arith in rw next (at plan (k + 1) i vs xs v h.1 (omega (arith, low)) e)

-- one is changed
set : (plan : Plan) (k i : ℕ) (vs : List SourceValue) (xs : List SourceState) (v : SourceValue) (x : SourceState) → StandForSources plan k vs xs → StandsForSource plan (k + i) v x →
    StandForSources plan k (slice_set vs i v) (changed i (λ _. x) xs)
set plan k i [] [] v x h new = h
set plan k i [] (y ∷ xs) v x h new = absurd h
set plan k i (u ∷ vs) [] v x h new = absurd h
set plan k zero (u ∷ vs) (y ∷ xs) v x h new = let none : k + 0 ≡ k = omega arith in (rw none at new, h.1)
set plan k (suc i) (u ∷ vs) (y ∷ xs) v x h new =
    let next : k + suc i ≡ k + 1 + i = omega arith in (h.0, set plan (k + 1) i vs xs v x h.1 (rw next at new))

-- ---- in what stands for a world

-- the source at a place
pub record IsSourceAt (old : WorldPartsValue) (s : ℕ) (v : SourceValue) : Type 0 where
  pub low : s < length old.sources
  pub is : v ≡ slice_index_or old.sources s v

pub source-low : (plan : Plan) (old : WorldPartsValue) (a s : ℕ) → IsSomeWorld plan old → role_of plan a ≡ IsSource s → s < length old.sources
source-low plan old a s some role =
    let below = source-below plan a s role in
    let all = many plan 0 old.sources some.0.sources some.2.stands.sources in omega (arith, below, all)

-- the source that an actor is
pub source-here : (plan : Plan) (old seen : WorldPartsValue) (a s : ℕ) (v : SourceValue) → IsSomeWorld plan old → role_of plan a ≡ IsSource s → seen ≡ old → v ≡ slice_index_or seen.sources s v → IsSourceAt old s v
source-here plan old seen a s v some role same is =
    record { low = source-low plan old a s some role; is = is ∙ ap (λ (p : WorldPartsValue). slice_index_or p.sources s v) same }

pub source-is : (plan : Plan) (old : WorldPartsValue) (s : ℕ) (v : SourceValue) (x : World) → IsSourceAt old s v → StandsForWorld plan old x → StandsForSource plan s v (source_at x s)
source-is plan old s v x here h = let zero_on : 0 + s ≡ s = omega arith in rw zero_on at (at plan 0 s old.sources x.sources v h.sources here.low here.is)

pub source-of : (plan : Plan) (old : WorldPartsValue) (s : ℕ) (v : SourceValue) → IsSomeWorld plan old → IsSourceAt old s v → IsSourceOf plan v
source-of plan old s v some here = (source-is plan old s v some.0 here some.2.stands).of

-- ---- its step

-- what the step of one source leaves, with what it sends
abbrev pub stepped : ℕ → ℕ → SourceValue → List code_mail.Mail → WorldPartsValue → WorldPartsValue
stepped a s v told old = with_posted a told (record old { sources = slice_set old.sources s v })

-- this source does this step, and sends these
pub record IsStep (plan : Plan) (old : WorldPartsValue) (a s : ℕ) (e : Event) (step : SourceState → Stepped SourceState) (v : SourceValue) (outs : List Out) : Type 0 where
  pub role : role_of plan a ≡ IsSource s
  pub here : IsSourceAt old s v
  pub stays : IsSourceOf plan (after_step v (step v.state))
  pub sends : mails outs ≡ (step v.state).sends
  pub plain : (x : World) → StandsForWorld plan old x → v.number ≡ s → happens x e ≡ source_stepped a (step (source_at x s)) x

step-stands : (plan : Plan) (old : WorldPartsValue) (a s : ℕ) (v : SourceValue) (t : Stepped SourceState) (outs : List Out) (x : World) → role_of plan a ≡ IsSource s → v.number ≡ s → IsSourceOf plan (after_step v t) → mails outs ≡ t.sends →
    StandsForWorld plan old x → StandsForWorld plan (stepped a s (after_step v t) (map as_mail outs) old) (source_stepped a t x)
step-stands plan old a s v t outs x role number stays sends h =
    let zero_on : 0 + s ≡ s = omega arith in
    let same : s ≡ a = source-at plan a s role in
    let new : StandsForSource plan (0 + s) (after_step v t) t.after = rw zero_on (record { number = number; of = stays; state = refl }) in
    let after : StandsForWorld plan (record old { sources = slice_set old.sources s (after_step v t) }) (record x { sources = changed a (λ _. t.after) x.sources }) =
    record {
      plan_is = h.plan_is;
      sources = subst (λ (i : ℕ). StandForSources plan 0 (slice_set old.sources s (after_step v t)) (changed i (λ _. t.after) x.sources)) same (set plan 0 s old.sources x.sources (after_step v t) t.after h.sources new);
      nodes = h.nodes;
      clients = h.clients;
      cuts = h.cuts;
      envelopes = h.envelopes;
      items = h.items;
    } in
    let told : AreSent plan (map as_mail outs) t.sends = subst (λ (ms : List Mail). AreSent plan (map as_mail outs) ms) sends (plain-sent plan outs) in
    posted-stands plan _ _ a (map as_mail outs) t.sends after told

step-leads : (plan : Plan) (old : WorldPartsValue) (a s : ℕ) (e : Event) (step : SourceState → Stepped SourceState) (v : SourceValue) (outs : List Out) → IsStep plan old a s e step v outs →
    Leads plan old (stepped a s (after_step v (step v.state)) (map as_mail outs) old) e
step-leads plan old a s e step v outs did x most w =
    let h = w.stands in
    let is = source-is plan old s v x did.here h in
    let after = step-stands plan old a s v (step v.state) outs x did.role is.number did.stays did.sends h in
    subst (λ (y : World). StandsForWorld plan (stepped a s (after_step v (step v.state)) (map as_mail outs) old) y)
    (ap (λ (y : SourceState). source_stepped a (step y) x) is.state ∙ sym (did.plain x h is.number)) after

within-limits : (v : WorldPartsValue) → (IsPastLimits v → ⊥) → IsWithinLimits v
within-limits v none = record { envelopes = le-unless _ _ (λ far. none (inl far)); items = le-unless _ _ (λ far. none (inr far)) }
  where
    le-unless : (n m : ℕ) → (n < m → ⊥) → m ≤ n
    le-unless n m no_more = omega arith

-- within the limits it happened
step-happened :
    (plan : Plan) (old seen new : WorldPartsValue) (a s : ℕ) (e : Event) (step : SourceState → Stepped SourceState) (v after : SourceValue) (outs : List Out) (told : List code_mail.Mail) → seen ≡ old → IsStep plan old a s e step v outs →
    after ≡ after_step v (step v.state) → told ≡ map as_mail outs → new ≡ stepped a s after told seen → (IsPastLimits (stepped a s after told seen) → ⊥) → Happened plan old new e
step-happened plan old seen new a s e step v after outs told same did is says made within =
    let leads : Leads plan old new e = rw (made, same, is, says) (step-leads plan old a s e step v outs did) in
    happened plan old new e (within-limits new (subst (λ (p : WorldPartsValue). IsPastLimits p → ⊥) (sym made) within)) leads

pub step-ok :
    (plan : Plan) (old seen new : WorldPartsValue) (a s : ℕ) (e : Event) (step : SourceState → Stepped SourceState) (v after : SourceValue) (outs : List Out) (told : List code_mail.Mail) (r : Result (Unit {0}) EventFault) →
    seen ≡ old → IsStep plan old a s e step v outs → after ≡ after_step v (step v.state) → told ≡ map as_mail outs → OnOk r (new ≡ stepped a s after told seen) → OnOk r (IsPastLimits (stepped a s after told seen) → ⊥) →
    OnOk r (Happened plan old new e)
step-ok plan old seen new a s e step v after outs told (Ok u) same did is says made within = step-happened plan old seen new a s e step v after outs told same did is says made within
step-ok plan old seen new a s e step v after outs told (Err f) same did is says made within = tt

-- past them it would not have
pub step-would :
    (plan : Plan) (old seen : WorldPartsValue) (a s : ℕ) (e : Event) (step : SourceState → Stepped SourceState) (v after : SourceValue) (outs : List Out) (told : List code_mail.Mail) (envelopes items : ℕ) → seen ≡ old → IsStep plan old a s e step v outs →
    after ≡ after_step v (step v.state) → told ≡ map as_mail outs → IsTooLong envelopes items (stepped a s after told seen) → WouldPass plan old e envelopes items
step-would plan old seen a s e step v after outs told envelopes items same did is says long =
    let leads : Leads plan old (stepped a s after told seen) e = rw (same, is, says) (step-leads plan old a s e step v outs did) in
    would-pass plan old (stepped a s after told seen) e envelopes items long leads
