-- No command has more than three words.
use Rattle.std.proofs.Common.{◌≡◌, ◌≤◌, ℕ, List, [], ◌∷◌, map, length, None, refl, arith}
use Rattle.std.specs.Prelude.{string_bytes}
use Rattle.borealis_top.specs.Commands.{command_of}
use Rattle.borealis_top.proofs.command.command_in.Goals as goal

no-command : {X : Type 0} (f : X → List ℕ) (xs : List X) → 4 ≤ length xs → None ≡ command_of (map f xs)
no-command f [] many = absurd (omega (arith, many))
no-command f (a ∷ []) many = absurd (omega (arith, many))
no-command f (a ∷ b ∷ []) many = absurd (omega (arith, many))
no-command f (a ∷ b ∷ c ∷ []) many = absurd (omega (arith, many))
no-command f (a ∷ b ∷ c ∷ d ∷ xs) many = refl

pub returns-in_default-2 : goal.returns-in_default-2
returns-in_default-2 c = no-command string_bytes c.args.words.now (omega (arith, c.in_default.len_at_least))
