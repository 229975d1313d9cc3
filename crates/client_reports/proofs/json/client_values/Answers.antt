use Rattle.std.proofs.Common.{◌∙◌, map, ap, arith}
use Rattle.std.proofs.lemmas.List.{map_push}
use Rattle.serde_json.specs.View.{view}
use Rattle.client_reports.specs.Telling.{data_by}
use Rattle.client_reports.proofs.Reports.{mapped-grows, named-whole}
use Rattle.client_reports.proofs.Values.{name-is-text}
use Rattle.client_reports.proofs.json.client_values.Goals as goal

pub client_value-requires : goal.client_value-requires
client_value-requires c =
    let most = c.min-i-end.ensures in
    let low = c.loop-i-test.true in
    rw c.as_slice.ensures (name-is-text c.args.specs.now c.loop-i.i c.index-specs-i.result (omega (arith, most, low)) c.requires)

pub loop-i-preserved : goal.loop-i-preserved
loop-i-preserved c =
    rw (c.in_ok-push.ensures.items, map_push view c.loop-i.list.items c.in_ok-client_value.field-0, c.in_ok-client_value.ensures, c.loop-i.invariant)
    (mapped-grows c.args.specs.now c.args.clients.now c.loop-i.i c.index-specs-i.result c.index-clients-i.result c.as_slice.result.now
    (omega (arith, c.min-i-end.ensures, c.loop-i-test.true)) c.index-specs-i.is c.index-clients-i.is c.as_slice.ensures data_by)

pub returns : goal.returns
returns c = c.loop-i.invariant ∙ ap (map data_by) (named-whole c.args.specs.now c.args.clients.now c.loop-i.i (omega (arith, c.min-i-end.ensures, c.loop-i-test.false)))
