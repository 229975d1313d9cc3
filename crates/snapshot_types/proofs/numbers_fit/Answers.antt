use Rattle.std.proofs.Common.{◌≡◌, ◌<◌, ◌^◌, ◌+◌, true, List, length, All, subst}
use Rattle.dpc_lists.specs.Lists.{list_all}
use Rattle.dpc_model.specs.declared.tuples.Tuple.{Tuple}
use Rattle.node_model.specs.Stands.{SnapValue}
use Rattle.fragment_mill.specs.Mills.{MillState}
use Rattle.fragment_mill.specs.Milling.{IsReady}
use Rattle.fragment_mill.specs.States.{parts_of}
use Rattle.law_saves.specs.Typed.{has_values, HasNumbers}
use Rattle.snapshot_types.proofs.numbers_fit.Goals as goal

pub returns : goal.returns
returns c = record {
  ready = subst IsReady c.mill.ensures c.mill_fits.ensures.ready;
  cursor = subst (λ (v : SnapValue MillState). v.cursor < 2 ^ 64) c.snapshot.view_is c.number_fits.ensures;
  counts = subst (λ (v : SnapValue MillState). All (λ n. n < 2 ^ 64) v.counts) c.snapshot.view_is (subst (All (λ n. n < 2 ^ 64)) c.as_slice.ensures c.counts_fit.ensures);
  numbers = subst (λ (v : SnapValue MillState). v.base + length v.kept < 2 ^ 64) c.snapshot.view_is c.snapshot.invariant;
  kept = subst (λ (ts : List Tuple). list_all has_values ts ≡ true) c.kept.ensures c.tuples_fit.ensures;
  operators = subst (λ (m : MillState). All HasNumbers (parts_of m).operators) c.mill.ensures c.mill_fits.ensures.operators;
}
