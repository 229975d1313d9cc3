-- How many bytes parts of a snapshot have.
use Rattle.std.proofs.Common.{◌≡◌, ◌<◌, ◌≤◌, ◌^◌, min, ℕ, ◌+◌, ◌-◌, ◌*◌, ℤ, List, [], ◌∷◌, ◌++◌, length, take, Some, slice_get, refl, ap, ◌∙◌, length-append, append-nil, arith}
use Rattle.std.specs.Prelude.{flat_map}
use Rattle.std.specs.Int.{w64, cast_unsigned}
use Rattle.std.proofs.lemmas.List.{length-map}
use Rattle.std.proofs.lemmas.List.Concat.{flat_map-append}
use Rattle.byteorder.specs.Endian.{big_bytes}
use Rattle.node_model.specs.Stands.{SnapValue}
use Rattle.ops_window.specs.Windows.{Cell as Kept}
use Rattle.ops_window.specs.Saving.{saved_of, all_saved}
use Rattle.ops_window.specs.declared.saved.Cell.{Cell}
use Rattle.fragment_mill.specs.Mills.{MillState}
use Rattle.fragment_mill.specs.States.{parts_of}
use Rattle.fragment_mill.specs.declared.states.OperatorParts.{OperatorParts}
use Rattle.fragment_mill.specs.declared.states.OperatorParts.TheVariants.{Aggregate}
use Rattle.fragment_mill.proofs.Shown.{part-more}
use Rattle.snapshot_form.specs.Bytes.{tuples_bytes, list_bytes, total_bytes, cell_bytes, part_bytes, parts_bytes, head_bytes, snapshot_bytes}

length-totals : (zs : List ℤ) → length (flat_map total_bytes zs) ≡ 16 * length zs
length-totals [] = refl
length-totals (z ∷ zs) =
    let rest = length-totals zs in
    let all = length-append (total_bytes z) (flat_map total_bytes zs) in
    omega (arith, rest, all)

length-cell : (c : Cell) → length (cell_bytes c) ≡ 16 + 16 * length c.totals
length-cell c =
    let front : List ℕ = big_bytes 8 c.begin ++ big_bytes 8 (cast_unsigned w64 c.group) in
    let totals = length-totals c.totals in
    let all = length-append front (flat_map total_bytes c.totals) in
    omega (arith, totals, all)

-- the bytes of cells, by the first
pub cells-step : (k : Kept) (ks ls : List Kept) → ls ≡ k ∷ ks
    → length (flat_map cell_bytes (all_saved ls)) ≡ 16 + 16 * length k.1 + length (flat_map cell_bytes (all_saved ks))
cells-step k ks ls e =
    let here = length-cell (saved_of k) in
    let all = length-append (cell_bytes (saved_of k)) (flat_map cell_bytes (all_saved ks)) in
    ap (λ (xs : List Kept). length (flat_map cell_bytes (all_saved xs))) e ∙ (omega (arith, here, all))

-- the bytes of what the operators keep, by one more
pub parts-more : (ps : List OperatorParts) (i : ℕ) (p : OperatorParts) → slice_get ps i ≡ Some p
    → length (parts_bytes (take (i + 1) ps)) ≡ length (parts_bytes (take i ps)) + length (part_bytes p)
parts-more ps i p at =
    ap (λ (qs : List OperatorParts). length (parts_bytes qs)) (part-more ps i p at)
    ∙ ap (λ (bs : List ℕ). length bs) (flat_map-append part_bytes (take i ps) (p ∷ []))
    ∙ length-append (parts_bytes (take i ps)) (parts_bytes (p ∷ []))
    ∙ ap (λ (bs : List ℕ). length (parts_bytes (take i ps)) + length bs) (append-nil (part_bytes p))

length-numbers : (ns : List ℕ) → length (flat_map (big_bytes 8) ns) ≡ 8 * length ns
length-numbers [] = refl
length-numbers (n ∷ ns) =
    let rest = length-numbers ns in
    let all = length-append (big_bytes 8 n) (flat_map (big_bytes 8) ns) in
    omega (arith, rest, all)

pub length-snapshot : (s : SnapValue MillState)
    → length (snapshot_bytes s) ≡ 24 + 8 * length s.counts + length (tuples_bytes s.kept) + length (parts_bytes (parts_of s.mill).operators)
unfolding snapshot_bytes
length-snapshot s =
    let parts = parts_bytes (parts_of s.mill).operators in
    let counts = flat_map (big_bytes 8) s.counts in
    let numbers = length-numbers s.counts in
    let a = length-append (big_bytes 8 s.cursor ++ big_bytes 4 (length s.counts)) counts in
    let b = length-append ((big_bytes 8 s.cursor ++ big_bytes 4 (length s.counts)) ++ counts) (big_bytes 8 s.base) in
    let c = length-append (big_bytes 4 (length s.kept)) (tuples_bytes s.kept) in
    let d = length-append (head_bytes s) (list_bytes s.kept) in
    let e = length-append (head_bytes s ++ list_bytes s.kept) parts in
    omega (arith, numbers, a, b, c, d, e)

cells-count : (cells : List Cell) → length cells ≤ length (flat_map cell_bytes cells)
cells-count [] = omega arith
cells-count (cell ∷ cells) =
    let here = length-cell cell in
    let rest = cells-count cells in
    let all = length-append (cell_bytes cell) (flat_map cell_bytes cells) in
    omega (arith, here, rest, all)

-- `Cells::len` is exact where the bytes are few
pub cells-exact : (cells : List Kept) (n : ℕ) → length (part_bytes (Aggregate (all_saved cells))) < 2 ^ 63 → n ≡ min (length cells) (2 ^ 64 - 1) → n ≡ length (all_saved cells)
cells-exact cells n short e =
    let same = length-map cells saved_of in
    let count = cells-count (all_saved cells) in
    let all = length-append (big_bytes 4 (length (all_saved cells))) (flat_map cell_bytes (all_saved cells)) in
    omega (arith, same, count, all)
