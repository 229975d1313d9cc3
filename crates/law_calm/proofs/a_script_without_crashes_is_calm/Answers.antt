use Rattle.law_calm.proofs.Scripts.{script-calm}
use Rattle.law_calm.proofs.a_script_without_crashes_is_calm.Goals as goal

pub returns : goal.returns
returns c = script-calm
