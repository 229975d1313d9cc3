use Rattle.std.proofs.Common.{rules, ◌≡◌, ◌∙◌, ◌++◌, ◌∷◌, [], List, ap, sym, slice_index_or}
use Rattle.dpc_model.specs.Inlets.{restarted_inlet}
use Rattle.dpc_model.specs.PartStands.{InletValue}
use Rattle.dpc_model.specs.Reading.{stable_reader}
use Rattle.dpc_model.specs.declared.messages.Sess.{Sess}
use Rattle.sunion.proofs.Counting.{anew-more}
use Rattle.sunion.proofs.ports.ports_begun_anew.Goals as goal

pub loop-port-preserved : goal.loop-port-preserved
loop-port-preserved c =
    let i = c.loop-port.port in
    let counts = c.args.counts.now in
    let ports = c.args.ports.now in
    let port = c.index-ports-port.result in
    let e = c.start_at.result in
    let sess : c.sess.result ≡ (slice_index_or ports i port).state.sess = c.sess.ensures ∙ ap (λ (v : InletValue). v.state.sess) c.index-ports-port.is in
    let is : e ≡ record { count = slice_index_or counts i 0; state = restarted_inlet (stable_reader [] c.args.time) (slice_index_or ports i port).state.sess } =
    c.start_at.ensures ∙ ap (λ (s : Sess). record { count = slice_index_or counts i 0; state = restarted_inlet (stable_reader [] c.args.time) s }) sess in
    let pushed : c.push.new.self.items ≡ c.loop-port.others.items ++ e ∷ [] = search rules in
    pushed ∙ ap (λ (vs : List InletValue). vs ++ e ∷ []) c.loop-port.invariant ∙ sym (anew-more c.args.time i counts ports port e 0 c.loop-port-test.true c.requires is)
