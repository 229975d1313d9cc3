use Rattle.std.proofs.Common.{◌≡◌, ◌∙◌, refl, sym, Bor, Option, Some, None, is_some}
use Rattle.std.specs.Option.{option_copied}
use Rattle.world_parts.proofs.SlotPlaces.{up_told}
use Rattle.world_parts.proofs.parts.WorldParts.is_up.Goals as goal

copied : {T : Type 0} (r : Option (Bor T)) → is_some r ≡ is_some (option_copied r)
copied None = refl
copied (Some x) = refl

pub returns-in-Node : goal.returns-in-Node
returns-in-Node c x h =
    c.is_some.ensures ∙ copied c.node.result
    ∙ up_told c.args.roster.now c.args.self.now x c.args.actor c.in-Node.field-0 c.in-Node.field-1 (option_copied c.node.result) h (sym c.role_of.ensures ∙ c.in-Node.is) (c.node.ensures x h)
