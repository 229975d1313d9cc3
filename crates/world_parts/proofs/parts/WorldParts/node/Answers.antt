use Rattle.std.proofs.Common.{◌∙◌, refl, ap, sym}
use Rattle.world_parts.specs.Parts.{WorldPartsValue, SlotValue}
use Rattle.world_parts.proofs.PartFrames.{past_all, read_seen}
use Rattle.world_parts.proofs.SlotPlaces.{node_stands, node_found}
use Rattle.world_parts.proofs.parts.WorldParts.node.Goals as goal

pub returns-in_err-slot : goal.returns-in_err-slot
returns-in_err-slot c x h =
    let same = c.deref.ensures.value ∙ ap (λ (s : WorldPartsValue). s.nodes) c.self.view_is in
    let none = past_all c.deref.result.now c.args.self.now.nodes c.node_place.result same c.in_err-slot.ensures.lookup.3 in
    absurd (node_found c.args.roster.now c.args.self.now x c.args.actor c.in-Node.field-0 c.in-Node.field-1 h (sym c.role_of.ensures ∙ c.in-Node.is) (rw c.node_place.ensures at none))

pub returns : goal.returns
returns c x h =
    let same = c.deref.ensures.value ∙ ap (λ (s : WorldPartsValue). s.nodes) c.self.view_is in
    let at = read_seen c.deref.result.now c.args.self.now.nodes c.node_place.result c.in_ok-slot.slot.now c.in_ok-slot.slot.now same c.in_ok-slot.ensures.lookup.3.0 c.in_ok-slot.ensures.lookup.1 refl in
    node_stands c.args.roster.now c.args.self.now x c.args.actor c.in-Node.field-0 c.in-Node.field-1 c.in_ok-slot.slot.now _ h (sym c.role_of.ensures ∙ c.in-Node.is)
    (rw c.node_place.ensures at at) (ap (λ (s : SlotValue). s.node) (sym c.slot.view_is) ∙ sym c.as_ref.ensures.value)
