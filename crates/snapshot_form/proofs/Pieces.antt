-- The pieces of a snapshot, one behind another, are its bytes.
use Rattle.std.proofs.Common.{◌≡◌, ℕ, zero, suc, List, [], ◌∷◌, ◌++◌, length, take, drop, map, flat_map, refl, sym, ap, ◌∙◌, append_assoc, append-nil}
use Rattle.std.specs.List.{concat}
use Rattle.std.proofs.lemmas.List.{take-append-drop}
use Rattle.std.proofs.lemmas.List.Concat.{flat_map-append}
use Rattle.std.proofs.lemmas.List.Folds.{concat-append}
use Rattle.byteorder.specs.Endian.{big_bytes}
use Rattle.node_model.specs.Stands.{SnapValue}
use Rattle.fragment_mill.specs.Mills.{MillState}
use Rattle.fragment_mill.specs.States.{parts_of}
use Rattle.stream_codec.specs.Frames.{tuple_bytes}
use Rattle.snapshot_form.specs.Bytes.{tuples_bytes, part_bytes, parts_bytes, head_bytes, snapshot_bytes}
use Rattle.snapshot_form.specs.Pieces.{split_in, piece_size, parts_before_last, kept_parts, pieces_of}

-- a list's bytes are those of its parts
split-joined : {T : Type 0} (f : T → List ℕ) (k n : ℕ) (xs : List T) → concat (map (flat_map f) (split_in k n xs)) ≡ flat_map f xs
split-joined f k zero xs = append-nil (flat_map f xs)
split-joined f k (suc n) xs =
    ap (λ (rest : List ℕ). flat_map f (take k xs) ++ rest) (split-joined f k n (drop k xs))
    ∙ sym (flat_map-append f (take k xs) (drop k xs))
    ∙ ap (flat_map f) (take-append-drop k xs)

map-joined : {T : Type 0} (f : T → List ℕ) (xs : List T) → concat (map f xs) ≡ flat_map f xs
map-joined f [] = refl
map-joined f (x ∷ xs) = ap (λ (rest : List ℕ). f x ++ rest) (map-joined f xs)

-- a first piece in two parts, and the pieces of two lists behind it
joined : (h c t q : List ℕ) (ks ps : List (List ℕ)) → concat ks ≡ t → concat ps ≡ q → concat ((h ++ c) ∷ (ks ++ ps)) ≡ (h ++ (c ++ t)) ++ q
joined h c t q ks ps a b =
    ap (λ (rest : List ℕ). (h ++ c) ++ rest) (concat-append ks ps)
    ∙ ap (λ (rest : List ℕ). (h ++ c) ++ (rest ++ concat ps)) a
    ∙ ap (λ (rest : List ℕ). (h ++ c) ++ (t ++ rest)) b
    ∙ sym (append_assoc (h ++ c) t q)
    ∙ ap (λ (front : List ℕ). front ++ q) (append_assoc h c t)

pub pieces-joined : (s : SnapValue MillState) → concat (pieces_of s) ≡ snapshot_bytes s
unfolding pieces_of snapshot_bytes
pieces-joined s =
    joined (head_bytes s) (big_bytes 4 (length s.kept)) (tuples_bytes s.kept) (parts_bytes (parts_of s.mill).operators)
    (map tuples_bytes (kept_parts s.kept)) (map part_bytes (parts_of s.mill).operators)
    (split-joined tuple_bytes piece_size (parts_before_last (length s.kept)) s.kept) (map-joined part_bytes (parts_of s.mill).operators)
