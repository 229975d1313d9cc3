-- In a live journal a session is answered in one incarnation, so what is taken of it is a prefix.
use Rattle.std.proofs.Common.{◌≡◌, true, List, [], sym, append-nil}
use Rattle.dpc_lists.specs.Lists.{nth}
use Rattle.dpc_model.specs.Actors.{senders_of}
use Rattle.dpc_model.specs.declared.messages.Event.{Event}
use Rattle.dpc_model.specs.declared.scripts.Script.{Script}
use Rattle.script_rules.specs.Checking.{IsChecked}
use Rattle.world_model.specs.Schedules.{is_live_so_far}
use Rattle.law_granting.proofs.First.{prefix-taken}
use Rattle.law_readers.specs.Newest.{IsPortOf}
use Rattle.law_readers.proofs.Steps.{reads-sender}
use Rattle.law_settling_readers.proofs.Answered.{answered-once}
use Rattle.law_settling_scripts.proofs.Can.{can_settle}
use Rattle.law_journals.specs.Prefixes.{PrefixesAreTaken}

pub prefixes-taken : (script : Script) (events : List Event) → IsChecked script → is_live_so_far script events ≡ true → PrefixesAreTaken script.plan events
prefixes-taken script events checked live x p s q reads there =
    let can = can_settle script checked in
    let port : IsPortOf script.plan x p s = record { there = reads; only = λ r also. can.once x r p s also reads } in
    let sends = reads-sender script.plan events x p s q can.plan port there in
    let answered = answered-once script events can.plan live x p (nth 0 (senders_of script.plan s) q.chosen) s q.inlet.sess port sends events [] (sym (append-nil events)) in
    prefix-taken script.plan events can.plan x p answered.0 s q reads there answered.1
