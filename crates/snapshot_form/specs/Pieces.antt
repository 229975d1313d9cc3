-- The pieces in which a snapshot is saved.
use Rattle.std.specs.Prelude.{ℕ, zero, suc, ◌-◌, ◌/◌, List, [], ◌∷◌, ◌++◌, length, take, drop, map}
use Rattle.byteorder.specs.Endian.{big_bytes}
use Rattle.dpc_model.specs.declared.tuples.Tuple.{Tuple}
use Rattle.node_model.specs.Stands.{SnapValue}
use Rattle.fragment_mill.specs.Mills.{MillState}
use Rattle.fragment_mill.specs.States.{parts_of}
use Rattle.snapshot_form.specs.Bytes.{tuples_bytes, part_bytes, head_bytes}

-- a list in n parts of k elements each, and one of those that are left
abbrev pub split_in : {T : Type 0} → ℕ → ℕ → List T → List (List T)
split_in k zero xs = xs ∷ []
split_in k (suc n) xs = take k xs ∷ split_in k n (drop k xs)

-- how many kept tuples stand in a piece
abbrev pub piece_size : ℕ
piece_size = 512

-- how many parts of so many tuples stand in front of the last one, which has at least one tuple where there is any
abbrev pub parts_before_last : ℕ → ℕ
parts_before_last n = (n - 1) / piece_size

-- the kept tuples, part by part
abbrev pub kept_parts : List Tuple → List (List Tuple)
kept_parts ts = split_in piece_size (parts_before_last (length ts)) ts

-- the head with the count of the kept tuples, the kept tuples, and what each operator keeps
unfoldable pub pieces_of : SnapValue MillState → List (List ℕ)
pieces_of s = (head_bytes s ++ big_bytes 4 (length s.kept)) ∷ map tuples_bytes (kept_parts s.kept) ++ map part_bytes (parts_of s.mill).operators
