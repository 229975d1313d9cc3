use Rattle.std.proofs.Common.{◌≡◌, ◌≤◌, ◌+◌, true, None, map, take}
use Rattle.saved_slots.specs.Series.{last_kept, first_too_long, GivesWay}
use Rattle.saved_slots.specs.Resting.{history_in, room_in, number_in, kept_in, faults_in, must_reopen, IsResting}
use Rattle.saved_slots.proofs.series.save_each.Given as goal

abbrev pub invariant-loop-payload : goal.invariant-loop-payload
invariant-loop-payload g l =
    let old = l.fn.slots in
    let saved = map g.P.Payload.bytes (take l.payload-index l.payloads) in
    record {
      same : room_in l.slots ≡ room_in old;
      number : number_in l.slots ≡ number_in old + l.payload-index;
      fits : first_too_long (room_in old) saved ≡ None;
      faults : faults_in old ≤ faults_in l.slots;
      reopens : must_reopen l.slots ≡ true → must_reopen old ≡ true;
      rests : IsResting old → IsResting l.slots;
      way : IsResting old → GivesWay (room_in old) (kept_in old) saved (history_in old) (history_in l.slots);
      kept : IsResting old → kept_in l.slots ≡ last_kept (kept_in old) saved;
    }
