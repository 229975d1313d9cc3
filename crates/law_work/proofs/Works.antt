-- Work for a safe node is true, and true work fits it exactly where the numbers do.
use Rattle.std.proofs.Common.{◌≡◌, ◌↔◌, ℕ, ◌≤◌, false, List, length, sym, ap, subst, ◌∙◌}
use Rattle.dpc_model.specs.Actors.{role_of}
use Rattle.dpc_model.specs.declared.actors.Role.TheVariants.{Node as IsNode}
use Rattle.dpc_model.specs.declared.tuples.Tagged.{Tagged}
use Rattle.fragment_mill.specs.Mills.{MillState, MillAfter}
use Rattle.mill_work.specs.Milling.{OrderValue}
use Rattle.node_model.specs.Nodes.{Home, PlainNode}
use Rattle.node_core.specs.Milling.{IsEngineAt, Fits, FitsInNumbers, IsWorkAt}
use Rattle.law_work.specs.TrueWork.{true_buckets, IsTrueEngine, IsTrueWork, IsSoundNode}
use Rattle.law_work.proofs.Inputs.{processed-true, ready-complete, next-true}

-- ---- the engine

-- the engine at the cursor of a node that serves is the true one there, and the other way round
pub engine-true : (home : Home) (p : PlainNode) (m : MillState) → IsSoundNode home p → p.recovering ≡ false → IsEngineAt home p m ↔ IsTrueEngine home.plan home.frag p.cursor m
engine-true home p m sound up =
    let same = processed-true home p sound up in (
      λ e. record { of = e.of; took = subst (λ (xs : List Tagged). MillAfter m xs p.cursor) same e.took },
      λ e. record { of = e.of; took = subst (λ (xs : List Tagged). MillAfter m xs p.cursor) (sym same) e.took },
    )

-- ---- work is true

pub work-true : (home : Home) (p : PlainNode) (o : OrderValue MillState) → IsSoundNode home p → role_of home.plan o.node ≡ IsNode home.frag home.replica → 1 ≤ length o.buckets →
    IsWorkAt home p o → IsTrueWork home.plan o
work-true home p o sound role some work =
    let open_at = ready-complete home p (length o.buckets) some work.fits.ready in
    record {
      frag = home.frag;
      replica = home.replica;
      role = role;
      engine = subst (λ (k : ℕ). IsTrueEngine home.plan home.frag k o.before) (sym work.cursor) ((engine-true home p o.before sound open_at.0).0 work.fits.engine);
      buckets = work.fits.buckets ∙ next-true home p (length o.buckets) sound open_at.1 ∙ ap (λ (k : ℕ). true_buckets home.plan home.frag k (length o.buckets)) (sym work.cursor);
    }

-- ---- whether it fits

same-frag : (f r g q : ℕ) → IsNode f r ≡ IsNode g q → f ≡ g
same-frag f r g q e = cc

-- true work of this fragment
pub true-of : (home : Home) (o : OrderValue MillState) → role_of home.plan o.node ≡ IsNode home.frag home.replica → IsTrueWork home.plan o →
    IsTrueEngine home.plan home.frag o.cursor o.before × (o.buckets ≡ true_buckets home.plan home.frag o.cursor (length o.buckets))
true-of home o role t =
    let same = same-frag t.frag t.replica home.frag home.replica (sym t.role ∙ role) in
    (subst (λ (f : ℕ). IsTrueEngine home.plan f o.cursor o.before) same t.engine, subst (λ (f : ℕ). o.buckets ≡ true_buckets home.plan f o.cursor (length o.buckets)) same t.buckets)

-- what fits stands at the cursor, whatever node it is
pub fits-numbers : (home : Home) (p : PlainNode) (o : OrderValue MillState) → IsTrueWork home.plan o → Fits home p o → FitsInNumbers home p o
fits-numbers home p o t fits = (sym t.engine.took.next ∙ fits.engine.took.next, fits.ready)

pub numbers-fit : (home : Home) (p : PlainNode) (o : OrderValue MillState) → IsSoundNode home p → role_of home.plan o.node ≡ IsNode home.frag home.replica → 1 ≤ length o.buckets →
    IsTrueWork home.plan o → FitsInNumbers home p o → Fits home p o
numbers-fit home p o sound role some t at =
    let open_at = ready-complete home p (length o.buckets) some at.1 in
    let own = true-of home o role t in
    record {
      engine = (engine-true home p o.before sound open_at.0).1 (subst (λ (k : ℕ). IsTrueEngine home.plan home.frag k o.before) at.0 own.0);
      ready = at.1;
      buckets = own.1 ∙ ap (λ (k : ℕ). true_buckets home.plan home.frag k (length o.buckets)) at.0 ∙ sym (next-true home p (length o.buckets) sound open_at.1);
    }

pub fits-by-numbers : (home : Home) (p : PlainNode) (o : OrderValue MillState) → IsSoundNode home p → role_of home.plan o.node ≡ IsNode home.frag home.replica → 1 ≤ length o.buckets →
    IsTrueWork home.plan o → Fits home p o ↔ FitsInNumbers home p o
fits-by-numbers home p o sound role some t = (fits-numbers home p o t, numbers-fit home p o sound role some t)

-- so it is work for the node where the incarnation is right too
pub work-by-numbers : (home : Home) (p : PlainNode) (o : OrderValue MillState) → IsSoundNode home p → role_of home.plan o.node ≡ IsNode home.frag home.replica → 1 ≤ length o.buckets →
    IsTrueWork home.plan o → IsWorkAt home p o ↔ ((o.inc ≡ p.grants.inc) × FitsInNumbers home p o)
work-by-numbers home p o sound role some t = (
  λ work. (work.inc, (work.cursor, work.fits.ready)),
  λ at. record { inc = at.0; cursor = at.1.0; fits = numbers-fit home p o sound role some t at.1 },
)
