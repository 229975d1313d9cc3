-- Work that a run hands out, and work that comes back, from what its parts say.
use Rattle.std.proofs.Common.{◌≡◌, ℕ, ◌+◌, ◌≤◌, Bool, true, false, not, ◌||◌, nat_lt, ◌==◌, List, length, refl, sym, ap, subst, ◌∙◌, Option, Some, None, Result, Ok, Err}
use Rattle.std.specs.Prelude.{IfSome}
use Rattle.std.proofs.Math.Nat.{min-le_right}
use Rattle.dpc_model.specs.Actors.{role_of}
use Rattle.dpc_model.specs.Limits.{most_milled}
use Rattle.dpc_model.specs.declared.messages.Event.{Event}
use Rattle.dpc_model.specs.declared.plans.Plan.{Plan}
use Rattle.dpc_lists.proofs.Truths.{or-true}
use Rattle.fragment_mill.specs.Mills.{MillState}
use Rattle.mill_work.specs.Milling.{OrderValue}
use Rattle.node_model.specs.Nodes.{Home, PlainNode, ready}
use Rattle.node_model.specs.Fitting.{IsFit}
use Rattle.node_core.specs.declared.faults.Point.{Point}
use Rattle.node_core.specs.Milling.{IsBeside, is_stale}
use Rattle.node_core.specs.Standing.{NodeValue, StandsForNode}
use Rattle.world_model.specs.Worlds.{home_of, slot_of, node_at, ready_at}
use Rattle.law_fit.specs.Fits.{CanRun}
use Rattle.world_parts.specs.Parts.{WorldPartsValue, StandsForWorld}
use Rattle.world_parts.specs.Handing.{up_node, IsHandedOut, IsTimely, down_point, IsElsewhere, IsStaleAt as IsStaleInParts}
use Rattle.world_parts.specs.declared.faults.CommitFault.{CommitFault as PartFault}
use Rattle.world_parts.specs.declared.faults.CommitFault.TheVariants as part_fault
use Rattle.world_parts.proofs.UpNodes.{up-in, one-in}
use Rattle.world_core.specs.Handing.{Fits, IsWorkOf, IsStaleAt, fault_of_parts, is_loss}
use Rattle.world_core.specs.Runs.{RunOf, world_of}
use Rattle.world_core.specs.declared.faults.CommitFault.{CommitFault}
use Rattle.world_core.specs.declared.faults.CommitFault.TheVariants as commit_fault
use Rattle.world_core.proofs.Running.{run-stands}

-- ---- what is handed out

pub work-of : (w : RunOf) (v : WorldPartsValue) (actor : ℕ) (o : OrderValue MillState) → CanRun w.plan → StandsForWorld w.plan v (world_of w) → IsHandedOut w.plan v actor o → IsWorkOf w actor o
work-of w v actor o can stands h =
    let most = 1 + length w.events in
    let of = run-stands w.plan v w.events can stands in
    let at = up-in w.plan v (world_of w) most actor h.from can of h.up in
    let count = h.count (world_of w) most of in
    let home = home_of w.plan (at.frag, at.replica) in
    let few : length o.buckets ≤ ready home at.plain = subst (λ (k : ℕ). length o.buckets ≤ k) at.ready (subst (λ (k : ℕ). k ≤ ready_at (world_of w) actor) (sym count) (min-le_right most_milled (ready_at (world_of w) actor))) in
    record {
      node = h.node;
      count = count;
      can = h.of.can;
      fits = record {
        frag = at.frag;
        replica = at.replica;
        plain = at.plain;
        role = ap (λ (a : ℕ). role_of w.plan a) h.node ∙ at.role;
        up = ap (λ (a : ℕ). node_at (world_of w) a) h.node ∙ at.up;
        work = h.of.work home at.plain (record { stands = at.stands; fit = at.fit; ready = few });
      };
    }

-- so it is of a run that contracts see
pub work-told : (w old : RunOf) (v : WorldPartsValue) (actor : ℕ) (told : Option (OrderValue MillState)) → w ≡ old → CanRun w.plan → StandsForWorld w.plan v (world_of w) → IfSome told (IsHandedOut w.plan v actor) → IfSome told (IsWorkOf old actor)
work-told w old v actor None same can stands h = tt
work-told w old v actor (Some o) same can stands h = subst (λ (r : RunOf). IsWorkOf r actor o) same (work-of w v actor o can stands h)

-- ---- what comes back

pub still-fits : (w : RunOf) (v : WorldPartsValue) (o : OrderValue MillState) → CanRun w.plan → StandsForWorld w.plan v (world_of w) → IsTimely w.plan v o → Fits w o
still-fits w v o can stands h =
    let at = up-in w.plan v (world_of w) (1 + length w.events) o.node h.0 can (run-stands w.plan v w.events can stands) h.1 in
    record { frag = at.frag; replica = at.replica; plain = at.plain; role = at.role; up = at.up; work = h.2 (home_of w.plan (at.frag, at.replica)) at.plain at.stands at.fit }

-- ---- what is stale

-- a node that is down is somewhere else
down-is-stale : (last_inc : ℕ) (needed : Point) → is_stale (down_point last_inc) needed ≡ true
down-is-stale last_inc needed = or-true (not (last_inc == needed.inc) || not (0 == needed.cursor) || nat_lt 0 needed.ready)

elsewhere-stale : (last_inc : ℕ) (n : Option NodeValue) (o : OrderValue MillState) (had needed : Point) → IsElsewhere last_inc n o had needed → is_stale had needed ≡ true
elsewhere-stale last_inc None o had needed h = subst (λ (p : Point). is_stale p needed ≡ true) (sym h) (down-is-stale last_inc needed)
elsewhere-stale last_inc (Some n) o had needed h = h.stale

-- where the plain node is down it is down
down-elsewhere : (last_inc : ℕ) (n : Option NodeValue) (o : OrderValue MillState) (had needed : Point) → ((m : NodeValue) → n ≡ Some m → ⊥) → IsElsewhere last_inc n o had needed → had ≡ down_point last_inc
down-elsewhere last_inc None o had needed none h = h
down-elsewhere last_inc (Some n) o had needed none h = absurd (none n refl)

up-elsewhere : (home : Home) (last_inc : ℕ) (n : NodeValue) (at : Option NodeValue) (p : PlainNode) (o : OrderValue MillState) (had needed : Point) → at ≡ Some n → StandsForNode home n p → IsFit home p →
    IsElsewhere last_inc at o had needed → IsBeside home p o had
up-elsewhere home last_inc n None p o had needed is stands fit h = cc
up-elsewhere home last_inc n (Some m) p o had needed is stands fit h =
    let same : m ≡ n = cc in h.beside home p (subst (λ (k : NodeValue). StandsForNode home k p) (sym same) stands) fit

no-node : (o : Option PlainNode) (p : PlainNode) → o ≡ None → o ≡ Some p → ⊥
no-node o p e f = cc

pub still-stale : (w : RunOf) (v : WorldPartsValue) (o : OrderValue MillState) (had needed : Point) → CanRun w.plan → StandsForWorld w.plan v (world_of w) → IsStaleInParts w.plan v o had needed → IsStaleAt w o had needed
still-stale w v o had needed can stands h =
    let x = world_of w in
    let most = 1 + length w.events in
    let of = run-stands w.plan v w.events can stands in
    let last_inc = (slot_of x o.node).last_inc in
    let there = h.beside x stands in
    record {
      asked = h.asked;
      stale = elsewhere-stale last_inc (up_node w.plan v o.node) o had needed there;
      down = λ none.
          down-elsewhere last_inc (up_node w.plan v o.node) o had needed (λ n e. let at = up-in w.plan v x most o.node n can of e in no-node (node_at x o.node) at.plain none at.up) there;
      up = λ f r p role up.
          let one = one-in w.plan v x most o.node f r p can of role up in
          up-elsewhere (home_of w.plan (f, r)) last_inc one.node (up_node w.plan v o.node) p o had needed one.is one.stands one.fit there;
    }

-- ---- faults

abbrev fault-in : {X : Type 0} → Result X CommitFault → CommitFault → CommitFault
fault-in (Err why) other = why
fault-in (Ok x) other = other

same-fault : (a b : CommitFault) → ◌≡◌ {A = Result (Unit {0}) CommitFault} (Err a) (Err b) → a ≡ b
same-fault a b e = ap (λ (r : Result (Unit {0}) CommitFault). fault-in r a) e

-- a fault that tells numbers, or points, is one of the parts that tells them
pub long-told : (why : PartFault) (fault : CommitFault) (envelopes items : ℕ) → fault ≡ fault_of_parts why → ◌≡◌ {A = Result (Unit {0}) CommitFault} (Err fault) (Err (commit_fault.TooLong envelopes items)) →
    why ≡ part_fault.TooLong envelopes items
long-told why fault envelopes items is told = by-fault why (sym is ∙ same-fault fault (commit_fault.TooLong envelopes items) told)
  where
    by-fault : (why : PartFault) → fault_of_parts why ≡ commit_fault.TooLong envelopes items → why ≡ part_fault.TooLong envelopes items
    by-fault part_fault.NoMemory k = cc
    by-fault (part_fault.TooLong a b) k = cc
    by-fault (part_fault.Stale a b) k = cc

pub none-told : (why : PartFault) (fault : CommitFault) → fault ≡ fault_of_parts why → ◌≡◌ {A = Result (Unit {0}) CommitFault} (Err fault) (Err commit_fault.NoMemory) → why ≡ part_fault.NoMemory
none-told why fault is told = by-fault why (sym is ∙ same-fault fault commit_fault.NoMemory told)
  where
    by-fault : (why : PartFault) → fault_of_parts why ≡ commit_fault.NoMemory → why ≡ part_fault.NoMemory
    by-fault part_fault.NoMemory k = cc
    by-fault (part_fault.TooLong a b) k = cc
    by-fault (part_fault.Stale a b) k = cc

pub stale-told : (why : PartFault) (fault : CommitFault) (had needed : Point) → fault ≡ fault_of_parts why → ◌≡◌ {A = Result (Unit {0}) CommitFault} (Err fault) (Err (commit_fault.Stale had needed)) → why ≡ part_fault.Stale had needed
stale-told why fault had needed is told = by-fault why (sym is ∙ same-fault fault (commit_fault.Stale had needed) told)
  where
    by-fault : (why : PartFault) → fault_of_parts why ≡ commit_fault.Stale had needed → why ≡ part_fault.Stale had needed
    by-fault part_fault.NoMemory k = cc
    by-fault (part_fault.TooLong a b) k = cc
    by-fault (part_fault.Stale a b) k = cc

-- then the run is not spent
pub stale-kept : (fault : CommitFault) (had needed : Point) → ◌≡◌ {A = Result (Unit {0}) CommitFault} (Err fault) (Err (commit_fault.Stale had needed)) → is_loss fault ≡ false
stale-kept fault had needed told = ap is_loss (same-fault fault (commit_fault.Stale had needed) told)

pub same-run : (plan : Plan) (es fs : List Event) (a b : Bool) (old : RunOf) → es ≡ fs → a ≡ b → record { plan = plan; events = fs; spent = b } ≡ old → ◌≡◌ {A = RunOf} (record { plan = plan; events = es; spent = a }) old
same-run plan es fs a b old same kept is = ap (λ (xs : List Event). record { plan = plan; events = xs; spent = a }) same ∙ ap (λ (s : Bool). record { plan = plan; events = fs; spent = s }) kept ∙ is
