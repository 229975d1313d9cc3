use Rattle.std.proofs.Common.{◌≡◌, ◌<◌, ◌≤◌, ◌-◌, ◌/◌, ◌∙◌, refl, sym, subst, ap, length, List, Option, ℕ, arith, slice_set}
use Rattle.std.proofs.lemmas.List.Elements.{All-weaker}
use Rattle.std.specs.List.{All}
use Rattle.dpc_lists.proofs.Elements.{set-changed, nth-is}
use Rattle.dpc_lists.specs.Lists.{nth}
use Rattle.dpc_model.specs.Reading.{tuples_in}
use Rattle.dpc_model.specs.PartStands.{InletValue}
use Rattle.dpc_model.specs.declared.tuples.Item.{Item}
use Rattle.dpc_model.specs.declared.tuples.Tuple.{Tuple}
use Rattle.dpc_model.specs.declared.batches.Taken.{Taken}
use Rattle.inlet.specs.Forgotten.{IsTaken, times_of}
use Rattle.inlet.specs.declared.inlet.Absorbed.TheVariants as absorbed
use Rattle.sunion.specs.Clocks.{stamps_from, stamped}
use Rattle.sunion.specs.Values.{SUnionValue}
use Rattle.sunion.specs.Unions.{no_value, IsAccepted}
use Rattle.sunion.specs.declared.sunion.Verdict.TheVariants as verdict
use Rattle.sunion.specs.contracts.sunion.SUnion.{the_view}
use Rattle.sunion.proofs.Accepting.{accepted}
use Rattle.sunion.proofs.sunion.SUnion.accept.Goals as goal

pub returns-in-Used-clause-ok : goal.returns-in-Used-clause-ok
returns-in-Used-clause-ok c =
    let u = c.self.inside in
    let v = the_view u in
    let a = c.args in
    let inlet = c.absorb.new.self in
    let places = c.make_places.new.clocks.items in
    let low = subst (λ (w : SUnionValue). a.port < length w.union.inlets) (sym c.self.view_is) c.requires.inside in
    let here = nth-is no_value c.index_mut.result.now a.port v.union.inlets low c.index_mut.ensures.value in
    let ok = c.in_ok-times.ensures.ok in
    let told : (told : Taken) × (absorbed.Used c.in-Used.times ≡ times_of told) × IsTaken a.sess a.index a.items.now (nth no_value v.union.inlets a.port) inlet told =
    (ok.0, sym c.in-Used.is ∙ ok.1, subst (λ (i : InletValue). IsTaken a.sess a.index a.items.now i inlet ok.0) (sym here) ok.2) in
    let reaches : c.farthest-place.result < length places = c.in_ok-make_places.ensures.ok in
    let far = All-weaker (λ (t : Tuple). t.stime / v.width - v.union.cursor ≤ c.farthest-place.result) (λ (t : Tuple). t.stime / v.width - v.union.cursor < length places)
    (λ t h. omega (arith, h, reaches)) (tuples_in a.items.now) (subst (λ (is : List Item). All (λ (t : Tuple). t.stime / v.width - v.union.cursor ≤ c.farthest-place.result) (tuples_in is)) c.as_slice.ensures c.farthest-place.ensures) in
    let all = accepted v a.port a.sess a.index a.items.now a.now inlet places (absorbed.Used c.in-Used.times) low told far (c.make_places.ensures.same u.cursor) in
    let set = set-changed v.union.inlets a.port (λ _. inlet) c.index_mut.result.now inlet low c.index_mut.ensures.value refl in
    let whole =
    subst (λ (is : List InletValue). IsAccepted a.port a.sess a.index a.items.now a.now v (record v { union = record v.union { inlets = is; stamps = stamps_from u.cursor (stamped v.width u.cursor a.now places c.in-Used.times) } }) verdict.Used) (sym set) all in
    let clocks : c.stamp.new.clocks.items ≡ stamped v.width u.cursor a.now places c.in-Used.times =
    c.stamp.ensures ∙ ap (λ (times : List ℕ). stamped v.width u.cursor a.now places times) c.as_slice-in-Used.ensures in
    subst (λ (w : SUnionValue). IsAccepted a.port a.sess a.index a.items.now a.now w (record v { union = record v.union { inlets = slice_set v.union.inlets a.port inlet; stamps = stamps_from u.cursor c.stamp.new.clocks.items } }) verdict.Used) c.self.view_is
    (subst (λ (cs : List (Option ℕ)). IsAccepted a.port a.sess a.index a.items.now a.now v (record v { union = record v.union { inlets = slice_set v.union.inlets a.port inlet; stamps = stamps_from u.cursor cs } }) verdict.Used) (sym clocks) whole)

pub returns-in-Old-clause-ok : goal.returns-in-Old-clause-ok
returns-in-Old-clause-ok c =
    let u = c.self.inside in
    let v = the_view u in
    let a = c.args in
    let inlet = c.absorb.new.self in
    let places = c.make_places.new.clocks.items in
    let low = subst (λ (w : SUnionValue). a.port < length w.union.inlets) (sym c.self.view_is) c.requires.inside in
    let here = nth-is no_value c.index_mut.result.now a.port v.union.inlets low c.index_mut.ensures.value in
    let ok = c.in_ok-times.ensures.ok in
    let told : (told : Taken) × (absorbed.Old ≡ times_of told) × IsTaken a.sess a.index a.items.now (nth no_value v.union.inlets a.port) inlet told =
    (ok.0, sym c.in-Old.is ∙ ok.1, subst (λ (i : InletValue). IsTaken a.sess a.index a.items.now i inlet ok.0) (sym here) ok.2) in
    let reaches : c.farthest-place.result < length places = c.in_ok-make_places.ensures.ok in
    let far = All-weaker (λ (t : Tuple). t.stime / v.width - v.union.cursor ≤ c.farthest-place.result) (λ (t : Tuple). t.stime / v.width - v.union.cursor < length places)
    (λ t h. omega (arith, h, reaches)) (tuples_in a.items.now) (subst (λ (is : List Item). All (λ (t : Tuple). t.stime / v.width - v.union.cursor ≤ c.farthest-place.result) (tuples_in is)) c.as_slice.ensures c.farthest-place.ensures) in
    let all = accepted v a.port a.sess a.index a.items.now a.now inlet places (absorbed.Old) low told far (c.make_places.ensures.same u.cursor) in
    let set = set-changed v.union.inlets a.port (λ _. inlet) c.index_mut.result.now inlet low c.index_mut.ensures.value refl in
    let whole =
    subst (λ (is : List InletValue). IsAccepted a.port a.sess a.index a.items.now a.now v (record v { union = record v.union { inlets = is; stamps = stamps_from u.cursor places } }) verdict.Old) (sym set) all in
    subst (λ (w : SUnionValue). IsAccepted a.port a.sess a.index a.items.now a.now w (record v { union = record v.union { inlets = slice_set v.union.inlets a.port inlet; stamps = stamps_from u.cursor places } }) verdict.Old) c.self.view_is whole

pub returns-in-Broken-clause-ok : goal.returns-in-Broken-clause-ok
returns-in-Broken-clause-ok c =
    let u = c.self.inside in
    let v = the_view u in
    let a = c.args in
    let inlet = c.absorb.new.self in
    let places = c.make_places.new.clocks.items in
    let low = subst (λ (w : SUnionValue). a.port < length w.union.inlets) (sym c.self.view_is) c.requires.inside in
    let here = nth-is no_value c.index_mut.result.now a.port v.union.inlets low c.index_mut.ensures.value in
    let ok = c.in_ok-times.ensures.ok in
    let told : (told : Taken) × (absorbed.Broken ≡ times_of told) × IsTaken a.sess a.index a.items.now (nth no_value v.union.inlets a.port) inlet told =
    (ok.0, sym c.in-Broken.is ∙ ok.1, subst (λ (i : InletValue). IsTaken a.sess a.index a.items.now i inlet ok.0) (sym here) ok.2) in
    let reaches : c.farthest-place.result < length places = c.in_ok-make_places.ensures.ok in
    let far = All-weaker (λ (t : Tuple). t.stime / v.width - v.union.cursor ≤ c.farthest-place.result) (λ (t : Tuple). t.stime / v.width - v.union.cursor < length places)
    (λ t h. omega (arith, h, reaches)) (tuples_in a.items.now) (subst (λ (is : List Item). All (λ (t : Tuple). t.stime / v.width - v.union.cursor ≤ c.farthest-place.result) (tuples_in is)) c.as_slice.ensures c.farthest-place.ensures) in
    let all = accepted v a.port a.sess a.index a.items.now a.now inlet places (absorbed.Broken) low told far (c.make_places.ensures.same u.cursor) in
    let set = set-changed v.union.inlets a.port (λ _. inlet) c.index_mut.result.now inlet low c.index_mut.ensures.value refl in
    let whole =
    subst (λ (is : List InletValue). IsAccepted a.port a.sess a.index a.items.now a.now v (record v { union = record v.union { inlets = is; stamps = stamps_from u.cursor places } }) verdict.Broken) (sym set) all in
    subst (λ (w : SUnionValue). IsAccepted a.port a.sess a.index a.items.now a.now w (record v { union = record v.union { inlets = slice_set v.union.inlets a.port inlet; stamps = stamps_from u.cursor places } }) verdict.Broken) c.self.view_is whole
