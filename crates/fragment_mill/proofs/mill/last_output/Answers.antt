use Rattle.std.proofs.Common.{◌≡◌, List, [], ◌∷◌, ◌++◌, Option, Some, None, unwrap_or, refl}
use Rattle.dpc_lists.specs.Lists.{last_or}
use Rattle.fragment_mill.proofs.mill.last_output.Goals as goal

last-push : {X : Type 0} (d : Option X) (xs : List X) (x : X) → last_or d (xs ++ x ∷ []) ≡ Some x
last-push d [] x = refl
last-push d (y ∷ xs) x = last-push (Some y) xs x

last-is : {X : Type 0} (none x : X) (xs ys : List X) → xs ≡ ys ++ x ∷ [] → x ≡ unwrap_or (last_or None xs) none
last-is none x xs ys e = rw (e, last-push None ys x) refl

pub returns-in-Some : goal.returns-in-Some
returns-in-Some c = last-is [] c.in-Some.output _ _ c.in-Some.ensures.items
