use Rattle.std.proofs.Common.{◌≡◌, take}
use Rattle.dpc_model.proofs.Roles.{numbers_where}
use Rattle.actor_lists.specs.Questions.{holds}
use Rattle.actor_lists.proofs.lists.actors_where.Given as goal

abbrev pub invariant-loop-actor : goal.invariant-loop-actor
invariant-loop-actor l = l.actors.items ≡ numbers_where (holds l.plan l.question) 0 (take l.actor l.role-items)
