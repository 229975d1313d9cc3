use Rattle.std.proofs.Common.{◌≡◌, ◌<◌, Some, refl, sym, subst, arith, length, slice_get}
use Rattle.std.proofs.lemmas.Option.{slice_get_read}
use Rattle.dpc_model.specs.declared.plans.SourceSpec.{SourceSpec}
use Rattle.script_rules.specs.Drafts.{source_named}
use Rattle.script_draft.proofs.Names.{named-within}
use Rattle.script_draft.proofs.draft.Draft.source_at.Goals as goal

pub index-requires : goal.index-requires
index-requires c =
    let named = subst (λ d. source_named d c.args.name.now ≡ Some c.in_ok-number.number) (sym c.self.view_is) (sym c.in_ok-number.ensures) in
    let low = named-within (λ (s : SourceSpec). s.name) c.args.name.now c.self.inside.sources.items c.in_ok-number.number named in omega (arith, low, c.self.inside.sources.ok)

pub returns : goal.returns
returns c =
    let named : source_named c.args.self.now c.args.name.now ≡ Some c.in_ok-number.number = sym c.in_ok-number.ensures in
    let named_inside = subst (λ d. source_named d c.args.name.now ≡ Some c.in_ok-number.number) (sym c.self.view_is) named in
    let low = named-within (λ (s : SourceSpec). s.name) c.args.name.now c.self.inside.sources.items c.in_ok-number.number named_inside in
    let here : slice_get c.self.inside.sources.items c.in_ok-number.number ≡ Some c.index.result.now = slice_get_read c.self.inside.sources.items _ c.in_ok-number.number c.index.result.now refl low c.index.ensures in
    let there = subst (λ d. slice_get d.sources c.in_ok-number.number ≡ Some c.index.result.now) c.self.view_is here in
    let low_there = subst (λ d. c.in_ok-number.number < length d.sources) c.self.view_is low in
    record { named = named; there = low_there; is = rw (named, there) refl }
