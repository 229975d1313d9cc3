-- Work that was done apart: whether the node still stands where it was taken, and what it is to be put back.
use Rattle.std.proofs.Common.{◌≡◌, ◌↔◌, ℕ, ◌<◌, ◌≤◌, Bool, true, false, not, ◌||◌, ◌==◌, nat_lt, List, length, refl, sym, ap, subst, ◌∙◌, arith, IsTrue, Result, Ok, Err}
use Rattle.dpc_model.specs.Parts.{Neighbours}
use Rattle.dpc_model.specs.declared.tuples.Tuple.{Tuple}
use Rattle.law_buckets.specs.Series.{buckets_from, AreReady}
use Rattle.fragment_mill.specs.Mills.{MillState}
use Rattle.mill_work.specs.Milling.{OrderValue}
use Rattle.pipeline.specs.Committing.{ready_in, CanMillReady, IsAt, IsDone, CanPut}
use Rattle.node_model.specs.Nodes.{Home, spec_of, buckets_of, PlainNode, ready}
use Rattle.node_model.specs.NodeParts.{inputs_of, outputs_of}
use Rattle.node_model.specs.NodeSteps.{mill_step}
use Rattle.node_model.specs.Fitting.{IsFit}
use Rattle.law_node.proofs.Buckets.{buckets-are}
use Rattle.law_node.proofs.Fits.{are-ready, some-ready}
use Rattle.dpc_lists.proofs.Truths.{eq-of, not-false, neither}
use Rattle.node_core.specs.declared.faults.Point.{Point}
use Rattle.node_core.specs.declared.faults.CommitFault.{CommitFault}
use Rattle.node_core.specs.declared.faults.CommitFault.TheVariants.{Spent, Stale}
use Rattle.node_core.specs.declared.packets.Mail as code_mail
use Rattle.node_core.specs.Lending.{IsPutBack, WasStaleInNumbers}
use Rattle.node_core.specs.Milling.{CanMill, CanPutAt, MillSteps, Fits, IsKnownAt, IsWorkAt, IsBeside, needed_by, is_stale, WasStale}
use Rattle.node_core.specs.Stepping.{IsTakenAs}
use Rattle.node_core.specs.Standing.{NodeValue, StandsForNode}
use Rattle.node_core.proofs.Milled.{can-mill-path}
use Rattle.node_core.proofs.Orders.{engine-at}
use Rattle.node_core.proofs.Readying.{most-ready}

-- all ready buckets can be processed
pub can-ready : (home : Home) (v : NodeValue) (p : PlainNode) → StandsForNode home v p → IsFit home p → CanMillReady (spec_of home).ops v.path (inputs_of p) (outputs_of p)
can-ready home v p h fit =
    let same = h.setting.width in
    let pos = subst (λ (w : ℕ). 0 < w) same h.path.some in
    record {
      stands = h.path;
      ready = λ count some few.
          let ready = some-ready (inputs_of p) home.plan.width count some (subst (λ (w : ℕ). count ≤ ready_in w (inputs_of p)) same few) in
          subst (λ (w : ℕ). AreReady w (inputs_of p) count) (sym same) (are-ready home.plan.width (buckets_of home.plan) home.plan.end count (inputs_of p) pos fit.end fit.inputs ready.0 ready.1);
    }

-- ---- whether it fits

pub fits-at : (home : Home) (v : NodeValue) (p : PlainNode) (o : OrderValue MillState) → StandsForNode home v p → length o.buckets ≤ ready home p → IsAt (spec_of home).ops v.path (inputs_of p) o → Fits home p o
fits-at home v p o h few at =
    record {
      engine = (engine-at home v p o.before h).0 at.engine;
      ready = few;
      buckets = at.buckets ∙ ap (λ (w : ℕ). buckets_from w (inputs_of p) p.cursor (length o.buckets)) h.setting.width ∙ sym (buckets-are home p p.cursor (length o.buckets));
    }

pub at-fits : (home : Home) (v : NodeValue) (p : PlainNode) (o : OrderValue MillState) → StandsForNode home v p → Fits home p o → IsAt (spec_of home).ops v.path (inputs_of p) o
at-fits home v p o h fits =
    let few = fits.ready in
    let most = most-ready home v p h in
    record {
      engine = (engine-at home v p o.before h).1 fits.engine;
      few = omega (arith, few, most);
      buckets = fits.buckets ∙ buckets-are home p p.cursor (length o.buckets) ∙ ap (λ (w : ℕ). buckets_from w (inputs_of p) p.cursor (length o.buckets)) (sym h.setting.width);
    }

-- ---- whether it is stale

pub record StandsThere (had needed : Point) : Type 0 where
  pub inc : had.inc ≡ needed.inc
  pub cursor : had.cursor ≡ needed.cursor
  pub fits : had.fits ≡ true

pub not-stale : (had needed : Point) → is_stale had needed ≡ false → StandsThere had needed
not-stale had needed e =
    let a = neither (not (had.inc == needed.inc) || not (had.cursor == needed.cursor) || nat_lt had.ready needed.ready) (not had.fits) e in
    let b = neither (not (had.inc == needed.inc) || not (had.cursor == needed.cursor)) (nat_lt had.ready needed.ready) a.0 in
    let c = neither (not (had.inc == needed.inc)) (not (had.cursor == needed.cursor)) b.0 in
    record {
      inc = eq-of had.inc needed.inc (not-false (had.inc == needed.inc) c.0);
      cursor = eq-of had.cursor needed.cursor (not-false (had.cursor == needed.cursor) c.1);
      fits = not-false had.fits a.1;
    }

-- ---- what is put back

-- a node that could be compared is not spent
pub not-spent : {X : Type 0} (x : X) (spent : Bool) → (spent ≡ true → ◌≡◌ {A = Result X CommitFault} (Ok x) (Err Spent)) → spent ≡ false
not-spent x true h = let no_way = h refl in cc
not-spent x false h = refl

pub can-put : (home : Home) (v : NodeValue) (p : PlainNode) (o : OrderValue MillState) (after : MillState) (outputs : List Tuple) → 1 ≤ length o.buckets → IsDone o after outputs →
    Fits home p o → CanMill (length o.buckets) home v p → CanPut (spec_of home).ops v.path (inputs_of p) (outputs_of p) (length o.buckets) after outputs
can-put home v p o after outputs some done fits can =
    record {
      can = can-mill-path home v p (length o.buckets) some can;
      order = o;
      engine = (engine-at home v p o.before can.stands).1 fits.engine;
      buckets = fits.buckets ∙ buckets-are home p p.cursor (length o.buckets) ∙ ap (λ (w : ℕ). buckets_from w (inputs_of p) p.cursor (length o.buckets)) (sym can.stands.setting.width);
      milled = done;
    }

-- work that fits there can be put back there
pub put-there : (home : Home) (v : NodeValue) (p : PlainNode) (o : OrderValue MillState) (after : MillState) (outputs : List Tuple) (count : ℕ) → count ≡ length o.buckets → IsDone o after outputs →
    StandsForNode home v p → IsFit home p → Fits home p o → CanPutAt count v after outputs home p
put-there home v p o after outputs count many done h fit fits =
    let can : CanMill (length o.buckets) home v p = record { stands = h; fit = fit; ready = fits.ready } in
    subst (λ (k : ℕ). CanPutAt k v after outputs home p) (sym many) (record { can = can; path = can-put home v p o after outputs done.order.some done fits can })

-- what was put back at each node where so many buckets can be processed
pub put-steps : (v new : NodeValue) (o : OrderValue MillState) (after : MillState) (outputs : List Tuple) (count : ℕ) (told : List code_mail.Mail) → count ≡ length o.buckets → IsDone o after outputs →
    ((home : Home) (p : PlainNode) → StandsForNode home v p → IsFit home p → IsWorkAt home p o) → ((home : Home) (p : PlainNode) → CanPutAt count v after outputs home p → IsTakenAs new told home (mill_step home count p)) →
    MillSteps (length o.buckets) v new told
put-steps v new o after outputs count told many done work taken =
    let each : (home : Home) (p : PlainNode) → CanMill (length o.buckets) home v p → IsTakenAs new told home (mill_step home (length o.buckets) p) =
    λ home p can.
    subst (λ (k : ℕ). IsTakenAs new told home (mill_step home k p)) many
    (taken home p (put-there home v p o after outputs count many done can.stands can.fit (work home p can.stands can.fit).fits)) in
    record { after = λ home p can. (each home p can).after; sends = λ home p can. (each home p can).sends }

-- and at each where numbers tell whether it fits
pub put-back : (v new : NodeValue) (o : OrderValue MillState) (after : MillState) (outputs : List Tuple) (count : ℕ) (told : List code_mail.Mail) → count ≡ length o.buckets → IsDone o after outputs →
    ((home : Home) (p : PlainNode) → StandsForNode home v p → IsFit home p → IsKnownAt home p o → IsWorkAt home p o) →
    ((home : Home) (p : PlainNode) → CanPutAt count v after outputs home p → IsTakenAs new told home (mill_step home count p)) → IsPutBack o v new told
put-back v new o after outputs count told many done work taken =
    record {
      work = work;
      step = λ home p h fit known.
          subst (λ (k : ℕ). IsTakenAs new told home (mill_step home k p)) many
          (taken home p (put-there home v p o after outputs count many done h fit (work home p h fit known).fits));
    }

-- what a point beside an order that is not stale says
pub stands-there : (home : Home) (p : PlainNode) (o : OrderValue MillState) (had needed : Point) → needed ≡ needed_by o → is_stale had needed ≡ false → IsBeside home p o had → IsWorkAt home p o
stands-there home p o had needed same e beside =
    let there = not-stale had (needed_by o) (subst (λ (n : Point). is_stale had n ≡ false) same e) in
    record { inc = sym there.inc ∙ beside.inc; cursor = sym there.cursor ∙ beside.cursor; fits = beside.fits.0 (subst (λ (b : Bool). IsTrue b) (sym there.fits) refl) }

-- where it is stale nothing changed
pub was-stale : (v : NodeValue) (o : OrderValue MillState) (had needed : Point) → needed ≡ needed_by o → is_stale had needed ≡ true →
    ((home : Home) (p : PlainNode) → StandsForNode home v p → IsFit home p → IsBeside home p o had) → WasStale o v v had needed
was-stale v o had needed same e beside = record { stays = refl; asked = same; stale = e; beside = beside }

-- where it stands beside work, by numbers alone
pub beside-in-numbers : (home : Home) (v : NodeValue) (p : PlainNode) (o : OrderValue MillState) (had : Point) → StandsForNode home v p → IsKnownAt home p o → had.up ≡ true → had.inc ≡ v.links.known.grants.inc →
    had.cursor ≡ v.path.union.union.cursor → had.ready ≡ ready home p → IsTrue had.fits ↔ ((o.cursor ≡ had.cursor) × (length o.buckets ≤ had.ready)) → IsBeside home p o had
beside-in-numbers home v p o had h known up inc cursor many fits =
    let at : had.cursor ≡ p.cursor = cursor ∙ h.path.ports.cursor in
    record {
      up = up;
      inc = inc ∙ ap (λ (x : Neighbours). x.grants.inc) h.links;
      cursor = at;
      ready = many;
      fits = (
        λ e. let there = fits.0 e in known.1 (there.0 ∙ at, subst (λ (k : ℕ). length o.buckets ≤ k) many there.1),
        λ e. let there = known.0 e in fits.1 (there.0 ∙ sym at, subst (λ (k : ℕ). length o.buckets ≤ k) (sym many) there.1),
      );
    }

-- .. by numbers alone
pub was-stale-in-numbers : (v : NodeValue) (o : OrderValue MillState) (had needed : Point) → needed ≡ needed_by o → is_stale had needed ≡ true →
    ((home : Home) (p : PlainNode) → StandsForNode home v p → IsKnownAt home p o → IsBeside home p o had) → WasStaleInNumbers o v v had needed
was-stale-in-numbers v o had needed same e beside = record { stays = refl; asked = same; stale = e; beside = λ home p h fit known. beside home p h known }

-- ---- faults

abbrev fault-in : {X : Type 0} → Result X CommitFault → CommitFault → CommitFault
fault-in (Err fault) other = fault
fault-in (Ok x) other = other

pub same-fault : {X : Type 0} (a b : CommitFault) → ◌≡◌ {A = Result X CommitFault} (Err a) (Err b) → a ≡ b
same-fault {X} a b e = ap (λ (r : Result X CommitFault). fault-in r a) e

same-points : (a b c d : Point) → Stale a b ≡ Stale c d → (a ≡ c) × (b ≡ d)
same-points a b c d e = (cc, cc)

pub same-stale : {X : Type 0} (a b c d : Point) → ◌≡◌ {A = Result X CommitFault} (Err (Stale a b)) (Err (Stale c d)) → (a ≡ c) × (b ≡ d)
same-stale {X} a b c d e = same-points a b c d (same-fault {X = X} (Stale a b) (Stale c d) e)

-- a stale answer that is handed on
pub handed-stale : {X Y : Type 0} (fault : CommitFault) (a b had needed c d : Point) → fault ≡ Stale a b → had ≡ a → needed ≡ b → ◌≡◌ {A = Result X CommitFault} (Err (Stale had needed)) (Err (Stale c d)) → ◌≡◌ {A = Result Y CommitFault} (Err fault) (Err (Stale c d))
handed-stale {X} {Y} fault a b had needed c d is same also e =
    ap (λ (y : CommitFault). Err y) (is ∙ ap (λ (p : Point). Stale p b) (sym same) ∙ ap (λ (q : Point). Stale had q) (sym also) ∙ same-fault {X = X} (Stale had needed) (Stale c d) e)
