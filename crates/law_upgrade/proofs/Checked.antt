-- What a checked plan has, whatever its version.
use Rattle.dpc_model.specs.Fragments.{IsSound}
use Rattle.dpc_model.specs.declared.plans.Plan.{Plan}
use Rattle.law_safety.specs.Plans.{IsChecked, IsCheckedPlan}
use Rattle.law_upgrade.specs.Upgrading.{upgraded_plan}

stays-sound : (plan : Plan) → IsSound plan → IsSound (upgraded_plan plan)
stays-sound plan s = record { logs = s.logs; ops = s.ops; inputs = s.inputs }

was-sound : (plan : Plan) → IsSound (upgraded_plan plan) → IsSound plan
was-sound plan s = record { logs = s.logs; ops = s.ops; inputs = s.inputs }

stays-right : (plan : Plan) → IsChecked plan → IsChecked (upgraded_plan plan)
stays-right plan c = record { sound = stays-sound plan c.sound; width = c.width; whole = c.whole; logs = c.logs; even = c.even }

was-right : (plan : Plan) → IsChecked (upgraded_plan plan) → IsChecked plan
was-right plan c = record { sound = was-sound plan c.sound; width = c.width; whole = c.whole; logs = c.logs; even = c.even }

pub stays-checked : (plan : Plan) → IsCheckedPlan plan → IsCheckedPlan (upgraded_plan plan)
stays-checked plan c = record { checked = stays-right plan c.checked; reads = c.reads; sent = c.sent; clients = c.clients }

pub was-checked : (plan : Plan) → IsCheckedPlan (upgraded_plan plan) → IsCheckedPlan plan
was-checked plan c = record { checked = was-right plan c.checked; reads = c.reads; sent = c.sent; clients = c.clients }
