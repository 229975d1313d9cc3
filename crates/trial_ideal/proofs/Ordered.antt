-- Streams in order of time.
use Rattle.std.proofs.Common.{ℕ, List, [], ◌∷◌, map, take, All}
use Rattle.std.proofs.lemmas.List.Elements.{recursion_from_All, All-from_recursion}
use Rattle.std.specs.List.{AllByRecursion}
use Rattle.dpc_model.specs.Streams.{InOrder, AllInOrder}
use Rattle.dpc_model.specs.Fragments.{stream_upto, fragments_upto, LogsInOrder}
use Rattle.dpc_model.specs.declared.tuples.Tuple.{Tuple}
use Rattle.dpc_model.specs.declared.plans.FragSpec.{FragSpec}
use Rattle.dpc_model.specs.declared.plans.Plan.{Plan}
use Rattle.dpc_model.specs.declared.plans.StreamRef.{StreamRef}
use Rattle.dpc_model.proofs.Order.{fragments-InOrder, stream-InOrder}

in_order-from : (tss : List (List Tuple)) → AllByRecursion InOrder tss → AllInOrder tss
in_order-from [] h = tt
in_order-from (ts ∷ tss) h = (h.0, in_order-from tss h.1)

pub AllInOrder-from : (tss : List (List Tuple)) → All InOrder tss → AllInOrder tss
AllInOrder-from tss h = in_order-from tss (recursion_from_All InOrder tss h)

streams-ordered : (plan : Plan) (b : ℕ) (values : List (List Tuple)) (streams : List StreamRef) → LogsInOrder plan → AllInOrder values →
    AllByRecursion InOrder (map (stream_upto plan b values) streams)
streams-ordered plan b values [] l h = tt
streams-ordered plan b values (s ∷ streams) l h = (stream-InOrder plan b values s l h, streams-ordered plan b values streams l h)

pub ports-ordered : (plan : Plan) (b i : ℕ) (frags : List FragSpec) (streams : List StreamRef) → LogsInOrder plan →
    All InOrder (map (stream_upto plan b (fragments_upto plan b [] (take i frags))) streams)
ports-ordered plan b i frags streams l =
    let values = fragments_upto plan b [] (take i frags) in
    All-from_recursion InOrder (map (stream_upto plan b values) streams)
    (streams-ordered plan b values streams l (fragments-InOrder plan b [] (take i frags) tt))
