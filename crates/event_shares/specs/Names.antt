-- A script that says nothing, for names that no call picks.
use Rattle.std.specs.Prelude.{false, []}
use Rattle.dpc_model.specs.declared.scripts.Script.{Script}

abbrev pub no_script : Script
no_script =
    record {
      plan = record { version = 0; passing = false; width = 0; delay = 0; end = 0; sources = []; frags = []; clients = [] };
      phases = [];
      settle = false;
    }
