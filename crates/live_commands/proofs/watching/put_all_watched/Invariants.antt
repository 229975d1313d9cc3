use Rattle.std.proofs.Common.{◌≡◌, ◌++◌, drop}
use Rattle.live_commands.specs.Watching.{watched_text}
use Rattle.live_commands.proofs.watching.put_all_watched.Given as goal

abbrev pub invariant-loop-one : goal.invariant-loop-one
invariant-loop-one l = l.text.items ++ watched_text l.plan (drop l.one-index l.watched) ≡ l.fn.text.items ++ watched_text l.plan l.watched
