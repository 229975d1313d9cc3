use Rattle.std.proofs.Common.{◌≡◌, drop}
use Rattle.script_rules.specs.Drafts.{place_of_name}
use Rattle.journal_text.specs.Actors.{node_names}
use Rattle.journal_text.proofs.Found.{shifted_by}
use Rattle.journal_text.proofs.actors.node_named.Given as goal

-- none so far, and the place among those that are left
abbrev pub invariant-loop-frag : goal.invariant-loop-frag
invariant-loop-frag l =
    place_of_name l.word (node_names l.frags) ≡ shifted_by l.before (place_of_name l.word (node_names (drop l.frag-index l.frags)))
