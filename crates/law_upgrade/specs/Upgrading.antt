-- What differs where a script is upgraded: the plan's version, and so the plan that a node's place, a world, and a run so far name.
use Rattle.dpc_model.specs.declared.plans.Plan.{Plan}
use Rattle.node_model.specs.Nodes.{Home}
use Rattle.world_model.specs.Worlds.{World}
use Rattle.world_model.specs.Schedules.{Progress, Told}

-- the plan of version 3 that says the same, as an upgraded script has it
abbrev pub upgraded_plan : Plan → Plan
upgraded_plan plan = record plan { version = 3 }

abbrev pub upgraded_home : Home → Home
upgraded_home home = record home { plan = upgraded_plan home.plan }

-- the same actors, links and envelopes
abbrev pub upgraded_world : World → World
upgraded_world w = record w { plan = upgraded_plan w.plan }

abbrev pub upgraded_progress : Progress → Progress
upgraded_progress x = record x { world = upgraded_world x.world }

abbrev pub upgraded_told : Told → Told
upgraded_told x = record x { world = upgraded_world x.world }
