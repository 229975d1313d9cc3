use Rattle.std.proofs.Common.{rules, ◌≡◌, ◌∙◌, [], map, replicate, Bool, true, List, ap, sym}
use Rattle.std.specs.Prelude.{if◌then◌else◌}
use Rattle.dpc_model.specs.PartStands.{OutputValue}
use Rattle.dpc_model.specs.Sessions.{no_session, opening_session}
use Rattle.dpc_model.specs.declared.sessions.Sub.{Sub}
use Rattle.soutput.specs.Giving.{new_output}
use Rattle.pipeline.proofs.Begun.{map-replicate}
use Rattle.pipeline.proofs.beginning.first_output.Goals as goal

pub returns : goal.returns
returns c =
    let n = c.args.readers in
    let yes : c.args.serves ≡ true = search rules in
    c.open_first.ensures
    ∙ ap (λ (v : OutputValue). record v { subs = map (λ (_ : Sub). opening_session) v.subs }) c.in_ok-output.ensures
    ∙ ap (λ (ss : List Sub). record (new_output n 0 [] 0) { subs = ss }) (map-replicate (λ (_ : Sub). opening_session) no_session n)
    ∙ ap (λ (b : Bool). record (new_output n 0 [] 0) { subs = replicate n (if b then opening_session else no_session) }) (sym yes)
