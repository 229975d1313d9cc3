use Rattle.std.proofs.Common.{◌≡◌, take}
use Rattle.client_frames.specs.Framed.{all_frames_by}
use Rattle.client_frames.proofs.report_frames.Given as goal

abbrev pub invariant-loop-number : goal.invariant-loop-number
invariant-loop-number l = l.bytes.items ≡ all_frames_by 0 (take l.number l.clients)
