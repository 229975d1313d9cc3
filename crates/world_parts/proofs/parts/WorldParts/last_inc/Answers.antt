use Rattle.std.proofs.Common.{◌∙◌, refl, ap}
use Rattle.world_parts.specs.Parts.{WorldPartsValue, SlotValue}
use Rattle.world_parts.proofs.PartFrames.{past_all, read_seen}
use Rattle.world_parts.proofs.SlotPlaces.{last_inc_told, last_inc_none}
use Rattle.world_parts.proofs.parts.WorldParts.last_inc.Goals as goal

pub returns-in-Some : goal.returns-in-Some
returns-in-Some c x h =
    let same = c.deref.ensures.value ∙ ap (λ (s : WorldPartsValue). s.nodes) c.self.view_is in
    let at = read_seen c.deref.result.now c.args.self.now.nodes c.node_place.result c.in-Some.slot.now c.in-Some.slot.now same c.in-Some.ensures.lookup.3.0 c.in-Some.ensures.lookup.1 refl in
    ap (λ (s : SlotValue). s.last_inc) c.slot.view_is ∙ last_inc_told c.args.roster.now c.args.self.now x c.args.actor c.in-Some.slot.now h (rw c.node_place.ensures at at)

pub returns-in-None : goal.returns-in-None
returns-in-None c x h =
    let same = c.deref.ensures.value ∙ ap (λ (s : WorldPartsValue). s.nodes) c.self.view_is in
    let none = past_all c.deref.result.now c.args.self.now.nodes c.node_place.result same c.in-None.ensures.lookup.3 in
    last_inc_none c.args.roster.now c.args.self.now x c.args.actor h (rw c.node_place.ensures at none)
