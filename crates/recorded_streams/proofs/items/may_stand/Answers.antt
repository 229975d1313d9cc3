use Rattle.std.proofs.Common.{sym, ◌∙◌}
use Rattle.stream_codec.specs.Kinds.{holds}
use Rattle.stream_codec.specs.declared.kinds.Field.TheVariants.{Number, Clock}
use Rattle.recorded_streams.specs.Streams.{tuple_fits}
use Rattle.recorded_streams.proofs.Ranges.{and_then, and_else, stable_stands, tentative_stands, passed_stands, boundary_stands, undo_stands, done_stands}
use Rattle.recorded_streams.proofs.items.may_stand.Goals as goal

pub returns-then-holds : goal.returns-then-holds
returns-then-holds c =
    c.tuple_fits.ensures ∙ and_then (holds Number c.in-Stable.k) (tuple_fits c.in-Stable.tuple) (sym c.holds.ensures ∙ c.if-holds.true)
    ∙ stable_stands c.args.passing c.args.item.now c.in-Stable.k c.in-Stable.tuple c.in-Stable.is c.requires

pub returns-in-Tentative : goal.returns-in-Tentative
returns-in-Tentative c = c.tuple_fits-in-Tentative.ensures ∙ tentative_stands c.args.passing c.args.item.now c.in-Tentative.tuple c.in-Tentative.is c.requires

pub returns-then-passing : goal.returns-then-passing
returns-then-passing c =
    c.holds-then-passing.ensures ∙ and_then c.args.passing (holds Clock c.in-Passed.upto) c.if-passing.true
    ∙ passed_stands c.args.passing c.args.item.now c.in-Passed.upto c.in-Passed.is

pub returns-then-holds-2 : goal.returns-then-holds-2
returns-then-holds-2 c =
    c.holds-then-holds-2.ensures ∙ and_then (holds Clock c.in-Boundary.bound) (holds Number c.in-Boundary.count) (sym c.holds-in-Boundary.ensures ∙ c.if-holds-2.true)
    ∙ boundary_stands c.args.passing c.args.item.now c.in-Boundary.bound c.in-Boundary.count c.in-Boundary.is

pub returns-else-holds-2 : goal.returns-else-holds-2
returns-else-holds-2 c =
    c.holds-in-Boundary.ensures ∙ and_else (holds Clock c.in-Boundary.bound) (holds Number c.in-Boundary.count) (sym c.holds-in-Boundary.ensures ∙ c.if-holds-2.false)
    ∙ boundary_stands c.args.passing c.args.item.now c.in-Boundary.bound c.in-Boundary.count c.in-Boundary.is

pub returns-in-Undo : goal.returns-in-Undo
returns-in-Undo c = c.holds-in-Undo.ensures ∙ undo_stands c.args.passing c.args.item.now c.in-Undo.count c.in-Undo.is

pub returns-in-RecDone : goal.returns-in-RecDone
returns-in-RecDone c = done_stands c.args.passing c.args.item.now c.in-RecDone.is
