-- Runs in which no node is crashed.
use Rattle.std.specs.Prelude.{Bool, not, true, false, flat_map}
use Rattle.dpc_lists.specs.Lists.{list_all}
use Rattle.dpc_model.specs.declared.messages.Event.{Event}
use Rattle.dpc_model.specs.declared.scripts.Directive.{Directive}
use Rattle.dpc_model.specs.declared.scripts.Directive.TheVariants as directive
use Rattle.dpc_model.specs.declared.scripts.Phase.{Phase as PhaseSpec}
use Rattle.dpc_model.specs.declared.scripts.Script.{Script}
use Rattle.world_model.specs.Events.{is_crash}

abbrev pub crashes_none : Event → Bool
crashes_none e = not (is_crash e)

abbrev pub is_no_crash : Directive → Bool
is_no_crash (directive.Emit s t) = true
is_no_crash (directive.Release s t) = true
is_no_crash (directive.Cut a b) = true
is_no_crash (directive.Heal a b) = true
is_no_crash (directive.Lose a b) = true
is_no_crash (directive.Repeat a b) = true
is_no_crash (directive.Crash a) = false
is_no_crash (directive.Restart a) = true

-- the script loses, repeats and cuts, but crashes nobody
abbrev pub has_no_crash : Script → Bool
has_no_crash script = list_all is_no_crash (flat_map (λ (p : PhaseSpec). p.directives) script.phases)
