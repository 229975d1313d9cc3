-- What may cross threads although its type leads back to itself: from outside this crate no search finds that.
use denote.Param.Send.{IsSend, IsSync, sendable}
use Rattle.std.proofs.Crossing.{crosses}
use Rattle.dpc_model.specs.contracts.expressions.Expr as Expr
use Rattle.dpc_model.specs.contracts.operators.OpSpec as OpSpec
use Rattle.dpc_model.specs.contracts.plans.Plan as Plan
use Rattle.dpc_model.proofs.expressions.Expr.TheLaws.TheKnot.{send-Expr, sync-Expr}

pub expression-sends : IsSend Expr.the_row
expression-sends = search (send-Expr, sendable, crosses) depth 60 fits 20000

pub expression-syncs : IsSync Expr.the_row
expression-syncs = search (sync-Expr, sendable, crosses) depth 60 fits 20000

pub operator-sends : IsSend OpSpec.the_row
operator-sends = search (expression-sends, sendable, crosses) depth 60 fits 20000

pub plan-sends : IsSend Plan.the_row
plan-sends = search (operator-sends, sendable, crosses) depth 60 fits 20000
