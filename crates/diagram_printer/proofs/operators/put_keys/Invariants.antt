use Rattle.std.proofs.Common.{◌≡◌, ◌++◌, take, flat_map, decimal, ℕ, ◌∷◌, []}
use Rattle.line_writer.specs.Spaces.{behind_spaces}
use Rattle.diagram_printer.proofs.operators.put_keys.Given as goal

abbrev pub invariant-loop-left : goal.invariant-loop-left
invariant-loop-left l = l.text.items ≡ l.fn.text.items ++ behind_spaces (flat_map (λ (key : ℕ × ℕ). decimal key.0 ∷ decimal key.1 ∷ []) (take l.left-index l.keys))
