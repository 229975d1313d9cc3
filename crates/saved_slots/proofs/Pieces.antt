-- One piece more.
use Rattle.std.proofs.Common.{◌≡◌, ℕ, zero, suc, ◌+◌, ◌<◌, ◌≤◌, List, [], ◌∷◌, ◌++◌, length, take, get_or, refl, sym, ◌∙◌, ap, arith, length-append, append_assoc, append-nil}
use Rattle.std.proofs.lemmas.List.{take_more}
use Rattle.std.specs.List.{concat}

concat-append : (xs ys : List (List ℕ)) → concat (xs ++ ys) ≡ concat xs ++ concat ys
concat-append [] ys = refl
concat-append (x ∷ xs) ys = ap (λ (rest : List ℕ). x ++ rest) (concat-append xs ys) ∙ sym (append_assoc x (concat xs) (concat ys))

pub concat_more : (pieces : List (List ℕ)) (n : ℕ) (piece : List ℕ) → n < length pieces → piece ≡ get_or pieces n piece → concat (take (n + 1) pieces) ≡ concat (take n pieces) ++ piece
concat_more pieces n piece low is =
    ap concat (take_more pieces n piece low) ∙ concat-append (take n pieces) (get_or pieces n piece ∷ []) ∙ ap (λ (p : List ℕ). concat (take n pieces) ++ p) (append-nil (get_or pieces n piece) ∙ sym is)

pub concat_some : (pieces : List (List ℕ)) (n : ℕ) → length (concat (take n pieces)) ≤ length (concat pieces)
concat_some [] zero = omega arith
concat_some [] (suc n) = omega arith
concat_some (piece ∷ pieces) zero = omega arith
concat_some (piece ∷ pieces) (suc n) = omega (arith, length-append piece (concat (take n pieces)), length-append piece (concat pieces), concat_some pieces n)

pub concat_all : (pieces : List (List ℕ)) (n : ℕ) → length pieces ≤ n → concat (take n pieces) ≡ concat pieces
concat_all [] zero all = refl
concat_all [] (suc n) all = refl
concat_all (piece ∷ pieces) zero all = absurd (omega arith)
concat_all (piece ∷ pieces) (suc n) all = ap (λ (rest : List ℕ). piece ++ rest) (concat_all pieces n (omega arith))
