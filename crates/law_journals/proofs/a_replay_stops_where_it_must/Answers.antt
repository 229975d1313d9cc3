use Rattle.law_journals.proofs.Replayed.{whole-where, unfinished-where, refused-where, passes-where, goes-on, stays-within}
use Rattle.law_journals.proofs.a_replay_stops_where_it_must.Goals as goal

pub returns : goal.returns
returns c = record { whole = whole-where; unfinished = unfinished-where; refused = refused-where; passes = passes-where; on = goes-on; within = stays-within }
