use Rattle.std.proofs.Common.{◌≡◌, ◌≤◌, ◌∙◌, ap, sym, subst, length, ℕ, Bool, max, arith, List}
use Rattle.std.specs.Prelude.{not}
use Rattle.dpc_model.specs.Fragments.{log_of}
use Rattle.dpc_model.specs.Streams.{count_below, is_below}
use Rattle.dpc_model.specs.Sessions.{given_items, batches_of}
use Rattle.dpc_model.specs.declared.tuples.Tuple.{Tuple}
use Rattle.dpc_model.specs.declared.sessions.Sub.{Sub}
use Rattle.dpc_model.proofs.Prefixes.{length-filter_le}
use Rattle.dpc_model.specs.declared.messages.Message.{Message}
use Rattle.node_model.specs.Mails.{mails, to_readers}
use Rattle.node_model.specs.Sources.{emitted_upto, source_gives}
use Rattle.source_core.specs.Emitting.{SourceValue, IsSourceOf, given_upto, is_nothing, with_emitted, after_step}
use Rattle.source_core.specs.contracts.source.SourceNode.{the_view}
use Rattle.source_core.proofs.Sends.{gives-is, emitted-is}
use Rattle.source_core.proofs.source.SourceNode.give.Goals as goal

pub batches_upto-requires-clause-within : goal.batches_upto-requires-clause-within
batches_upto-requires-clause-within c =
    let log = c.log_of-log.result.now in
    let below : count_below log c.args.time ≤ length log = length-filter_le (λ (t : Tuple). is_below c.args.time t) log in
    let emitted : c.self.inside.emitted ≤ length (log_of c.args.plan.now c.self.inside.number) =
    subst (λ (v : SourceValue). v.state.emitted ≤ length (log_of c.args.plan.now v.number)) (sym c.self.view_is) c.requires.source.emitted in
    let whole : length log ≡ length (log_of c.args.plan.now c.self.inside.number) = ap length c.log_of-log.ensures in
    let upto = c.max-upto.ensures in
    let count = c.count_below.ensures.count in omega (arith, below, emitted, whole, upto, count)

pub returns-clause-sends : goal.returns-clause-sends
returns-clause-sends c =
    let plan = c.args.plan.now in
    let w = the_view c.self.inside in
    let time = c.args.time in
    let bound = c.args.boundary in
    let upto = c.max-upto.result in
    let log = c.log_of-log.result.now in
    let h : IsSourceOf plan w = subst (λ (v : SourceValue). IsSourceOf plan v) (sym c.self.view_is) c.requires.source in
    let e : upto ≡ emitted_upto plan w.number time w.state =
    c.max-upto.ensures ∙ ap (λ n. max c.self.inside.emitted n) (c.count_below.ensures.count ∙ ap (λ (ts : List Tuple). count_below ts time) c.log_of-log.ensures) in
    let given = given_items c.self.inside.emitted (given_upto log c.self.inside.emitted upto bound) in
    let told : mails c.in_ok-outs.outs.items ≡ (source_gives plan w.number time bound w.state).sends =
    (c.in_ok-outs.ensures {u = tt}) ∙ ap (λ (rs : List ℕ). to_readers rs c.in_ok-sends.sends.items) c.as_slice-2.ensures.value
    ∙ ap (λ (ms : List (ℕ × Message)). to_readers w.readers ms) ((c.in_ok-sends.ensures {u = tt}) ∙ ap (λ (ss : List Sub). batches_of given ss) c.as_slice.ensures.value)
    ∙ gives-is plan w time upto bound log h c.log_of-log.ensures e in
    subst (λ (v : SourceValue). mails c.in_ok-outs.outs.items ≡ (source_gives plan v.number time bound v.state).sends) c.self.view_is told

pub returns-clause-after : goal.returns-clause-after
returns-clause-after c =
    let plan = c.args.plan.now in
    let w = the_view c.self.inside in
    let time = c.args.time in
    let bound = c.args.boundary in
    let upto = c.max-upto.result in
    let log = c.log_of-log.result.now in
    let h : IsSourceOf plan w = subst (λ (v : SourceValue). IsSourceOf plan v) (sym c.self.view_is) c.requires.source in
    let count : c.count_below.result ≡ count_below (log_of plan w.number) time = c.count_below.ensures.count ∙ ap (λ (ts : List Tuple). count_below ts time) c.log_of-log.ensures in
    let e : upto ≡ emitted_upto plan w.number time w.state = c.max-upto.ensures ∙ ap (λ n. max c.self.inside.emitted n) count in
    let below : count_below (log_of plan w.number) time ≤ length (log_of plan w.number) = length-filter_le (λ (t : Tuple). is_below time t) (log_of plan w.number) in
    let emitted = h.emitted in
    let most = c.max-upto.ensures in
    let low : upto ≤ length (log_of plan w.number) = omega (arith, most, count, below, emitted) in
    let given : Bool = not (is_nothing c.self.inside.emitted upto bound) in
    c.advance.ensures ∙ ap (λ (b : Bool). with_emitted upto b c.args.self.now) c.gives_items.ensures
    ∙ subst (λ (v : SourceValue). with_emitted upto given v ≡ after_step v (source_gives plan v.number time bound v.state)) c.self.view_is (emitted-is plan w time upto bound h e low)
