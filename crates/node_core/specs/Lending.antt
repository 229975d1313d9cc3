-- Work on a node's own engine, which is lent for it: what it is to be put back, where numbers alone tell whether it fits.
use Rattle.std.specs.Prelude.{◌≡◌, true, List, length}
use Rattle.fragment_mill.specs.Mills.{MillState}
use Rattle.mill_work.specs.Milling.{OrderValue}
use Rattle.node_model.specs.Nodes.{Home, PlainNode}
use Rattle.node_model.specs.NodeSteps.{mill_step}
use Rattle.node_model.specs.Fitting.{IsFit}
use Rattle.node_core.specs.declared.faults.Point.{Point}
use Rattle.node_core.specs.declared.packets.Mail as code_mail
use Rattle.node_core.specs.Milling.{IsKnownAt, IsWorkAt, IsBeside, needed_by, is_stale}
use Rattle.node_core.specs.Standing.{NodeValue, StandsForNode}
use Rattle.node_core.specs.Stepping.{IsTakenAs}

-- work was put back where it was not stale, by exactly the step of processing its buckets, at each plain node where numbers tell whether it fits
pub record IsPutBack (o : OrderValue MillState) (old new : NodeValue) (sends : List code_mail.Mail) : Type 0 where
  pub work : (home : Home) (p : PlainNode) → StandsForNode home old p → IsFit home p → IsKnownAt home p o → IsWorkAt home p o
  pub step : (home : Home) (p : PlainNode) → StandsForNode home old p → IsFit home p → IsKnownAt home p o → IsTakenAs new sends home (mill_step home (length o.buckets) p)

-- it is stale, and nothing changed; the point tells where such a plain node stands
pub record WasStaleInNumbers (o : OrderValue MillState) (old new : NodeValue) (had needed : Point) : Type 0 where
  pub stays : new ≡ old
  pub asked : needed ≡ needed_by o
  pub stale : is_stale had needed ≡ true
  pub beside : (home : Home) (p : PlainNode) → StandsForNode home old p → IsFit home p → IsKnownAt home p o → IsBeside home p o had
