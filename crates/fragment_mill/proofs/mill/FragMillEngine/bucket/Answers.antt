use Rattle.std.proofs.Common.{◌<◌, ◌≤◌, length, ap, subst, sym, ◌∙◌, arith}
use Rattle.dpc_model.proofs.Serial.{adjacent-serial}
use Rattle.fragment_mill.specs.Mills.{MillState}
use Rattle.fragment_mill.specs.Milling.{IsReady}
use Rattle.fragment_mill.proofs.mill.FragMillEngine.bucket.Goals as goal
use Rattle.fragment_mill.proofs.Running.{Running-accepts, Running-next, Running-renewed, Running-more, Running-answer, Stood-after, Stood-done, IsReady-spent}

pub bucket-requires-clause-next : goal.bucket-requires-clause-next
bucket-requires-clause-next c =
    let mill = subst (λ (n : MillState). IsReady n) c.self.view_is c.self.invariant in
    let idle = ap (λ (n : MillState). n.spent) (sym c.self.view_is) ∙ c.if-self.false in
    let inside : c.loop-i.i < length c.args.self.now.stages = omega (arith, c.loop-i.invariant.end) in
    Running-next _ _ c.args.k c.loop-i.i c.index_mut.result.now _ _ mill idle c.requires.next c.requires.accepts c.loop-i.invariant.running inside c.index_mut.ensures.value

pub bucket-requires-clause-serial : goal.bucket-requires-clause-serial
bucket-requires-clause-serial c = adjacent-serial c.args.inputs.now c.requires.accepts.bucket.ordered

pub bucket-requires-clause-accepts : goal.bucket-requires-clause-accepts
bucket-requires-clause-accepts c =
    let mill = subst (λ (n : MillState). IsReady n) c.self.view_is c.self.invariant in
    let idle = ap (λ (n : MillState). n.spent) (sym c.self.view_is) ∙ c.if-self.false in
    let inside : c.loop-i.i < length c.args.self.now.stages = omega (arith, c.loop-i.invariant.end) in
    Running-accepts _ _ c.args.k c.loop-i.i c.index_mut.result.now _ _ mill idle c.requires.next c.requires.accepts c.loop-i.invariant.running inside c.index_mut.ensures.value

pub invariant_of-self : goal.invariant_of-self
invariant_of-self c =
    let mill = subst (λ (n : MillState). IsReady n) c.self.view_is c.self.invariant in
    let idle = ap (λ (n : MillState). n.spent) (sym c.self.view_is) ∙ c.if-self.false in
    let h = c.loop-i.invariant in
    let inside : c.loop-i.i < length c.args.self.now.stages = omega (arith, c.loop-i.invariant.end) in
    let renewed =
    Running-renewed _ _ c.args.k c.loop-i.i c.index_mut.result.now _ _ mill idle c.requires.next c.requires.accepts h.running inside c.index_mut.ensures.value
    c.bucket.new.self c.bucket.ensures.spec c.bucket.ensures.fits
    in
    IsReady-spent c.args.self.now.width _ h.width h.spent renewed.fits

pub returns-in_default-clause-operators : goal.returns-in_default-clause-operators
returns-in_default-clause-operators c =
    let mill = subst (λ (n : MillState). IsReady n) c.self.view_is c.self.invariant in
    let idle = ap (λ (n : MillState). n.spent) (sym c.self.view_is) ∙ c.if-self.false in
    let inside : c.loop-i.i < length c.args.self.now.stages = omega (arith, c.loop-i.invariant.end) in
    let renewed =
    Running-renewed _ _ c.args.k c.loop-i.i c.index_mut.result.now _ _ mill idle c.requires.next c.requires.accepts c.loop-i.invariant.running inside c.index_mut.ensures.value
    c.bucket.new.self c.bucket.ensures.spec c.bucket.ensures.fits
    in
    renewed.specs

pub loop-i-preserved : goal.loop-i-preserved
loop-i-preserved c =
    let mill = subst (λ (n : MillState). IsReady n) c.self.view_is c.self.invariant in
    let idle = ap (λ (n : MillState). n.spent) (sym c.self.view_is) ∙ c.if-self.false in
    let h = c.loop-i.invariant in
    let inside : c.loop-i.i < length c.args.self.now.stages = omega (arith, c.loop-i.invariant.end) in
    record {
      width = h.width;
      next = h.next;
      spent = h.spent;
      end = h.end;
      running =
          Running-more _ _ c.args.k c.loop-i.i c.index_mut.result.now _ _ mill idle c.requires.next c.requires.accepts h.running inside c.index_mut.ensures.value
          c.bucket.new.self c.bucket.new.outputs.items c.in-Ok.ensures.added c.in-Ok.ensures.after c.in-Ok.ensures.idle c.in-Ok.ensures.next c.bucket.ensures.spec c.bucket.ensures.fits c.in-Ok.ensures.lies;
    }

pub invariant_of-self-2 : goal.invariant_of-self-2
invariant_of-self-2 c =
    let mill = subst (λ (n : MillState). IsReady n) c.self.view_is c.self.invariant in
    let idle = ap (λ (n : MillState). n.spent) (sym c.self.view_is) ∙ c.if-self.false in
    let h = c.loop-i.invariant in
    let done : length c.args.self.now.stages ≤ c.loop-i.i = omega (arith, c.loop-i.invariant.end) in
    Stood-done _ _ c.args.k c.loop-i.i _ mill c.requires.accepts h.running.stood done _ h.width

pub returns-clause-answer : goal.returns-clause-answer
returns-clause-answer c = λ before after.
    let mill = subst (λ (n : MillState). IsReady n) c.self.view_is c.self.invariant in
    let done : length c.args.self.now.stages ≤ c.loop-i.i = omega (arith, c.loop-i.invariant.end) in
    c.last_output.ensures ∙ Running-answer _ _ c.args.k c.loop-i.i _ _ mill c.requires.accepts c.loop-i.invariant.running done before after

pub returns-clause-after : goal.returns-clause-after
returns-clause-after c =
    let mill = subst (λ (n : MillState). IsReady n) c.self.view_is c.self.invariant in
    let done : length c.args.self.now.stages ≤ c.loop-i.i = omega (arith, c.loop-i.invariant.end) in
    Stood-after _ _ c.args.k c.loop-i.i _ mill c.requires.accepts c.loop-i.invariant.running.stood done _ c.loop-i.invariant.width
