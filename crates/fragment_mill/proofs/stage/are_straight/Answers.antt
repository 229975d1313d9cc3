use Rattle.std.proofs.Common.{◌≡◌, ◌+◌, ◌∷◌, [], List, sym, ◌∙◌, ap, arith, ◌++◌, map, take, get_or}
use Rattle.std.proofs.lemmas.List.{take_more}
use Rattle.std.proofs.lemmas.List.FromFn.{map-range_with_len_more}
use Rattle.dpc_lists.specs.Lists.{range_with_len}
use Rattle.dpc_model.specs.declared.operators.Wire.{Wire}
use Rattle.dpc_model.specs.declared.operators.Wire.TheVariants.{Port}
use Rattle.fragment_mill.proofs.stage.are_straight.Goals as goal

pub loop-port-preserved : goal.loop-port-preserved
loop-port-preserved c =
    let port = c.loop-port.port in
    let reads = c.args.reads.now in
    let one : get_or reads port (Port 0) ≡ Port port = c.in-Port.is ∙ ap Port c.if-number-port.false in
    let start : 0 + port ≡ port = omega arith in
    take_more reads port (Port 0) c.loop-port-test.true
    ∙ ap (λ (ws : List Wire). ws ++ get_or reads port (Port 0) ∷ []) c.loop-port.invariant
    ∙ ap (λ (w : Wire). map Port (range_with_len 0 port) ++ w ∷ []) one
    ∙ sym (map-range_with_len_more Port 0 port port start)
