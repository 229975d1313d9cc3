-- The cells of an aggregate are read back, and no other bytes are read as them.
use Rattle.std.proofs.Common.{◌≡◌, ℕ, ℤ, ◌^◌, ◌<◌, ◌≤◌, List, ◌++◌, length, get_or, Option, Some, refl, ap, sym, ◌∙◌, append_assoc, length-append, arith, All}
use Rattle.std.specs.Prelude.{flat_map, FitsSigned}
use Rattle.std.specs.Int.{w64, w128, cast_unsigned, cast_signed}
use Rattle.std.proofs.lemmas.Int.{to_z-of_z, of_z-to_z}
use Rattle.std.proofs.Math.Facts.{Fits-of_z}
use Rattle.byteorder.specs.Endian.{big_bytes}
use Rattle.ops_window.specs.declared.saved.Cell.{Cell}
use Rattle.snapshot_form.specs.Bytes.{total_bytes, cell_bytes}
use Rattle.snapshot_form.specs.Reading.{followed_by, number_at, many_at, counted_at, total_at, cell_at}
use Rattle.snapshot_form.specs.Savable.{IsCell}
use Rattle.snapshot_form.proofs.Steps.{HaveOwnBytes, front-more, front-is, front-told, in-turn}
use Rattle.snapshot_form.proofs.Numbers.{number-back, number-in-turn}
use Rattle.snapshot_form.proofs.Many.{IsReadBack, many-back, counted-back, many-own, counted-own, no-more-than-bytes}

-- their count in four bytes, and their bytes
abbrev pub cells_bytes : List Cell → List ℕ
cells_bytes cells = big_bytes 4 (length cells) ++ flat_map cell_bytes cells

total-back : (z : ℤ) → FitsSigned w128 z → IsReadBack total_at total_bytes z
total-back z fits rest =
    let number = number-back 16 (cast_unsigned w128 z) rest (omega (arith, Fits-of_z {w = w128} {z = z} fits)) in
    rw number (ap (λ (y : ℤ). Some (y, rest)) (to_z-of_z w128 z fits))

-- a cell with as many totals as are asked for
cell-back : (n : ℕ) (c : Cell) → IsCell c → length c.totals ≡ n → IsReadBack (cell_at n) cell_bytes c
cell-back n c is many rest =
    let begin = big_bytes 8 c.begin in
    let group = big_bytes 8 (cast_unsigned w64 c.group) in
    let totals = flat_map total_bytes c.totals in
    let apart : cell_bytes c ++ rest ≡ begin ++ (group ++ (totals ++ rest)) =
    append_assoc begin (group ++ totals) rest ∙ ap (λ (bs : List ℕ). begin ++ bs) (append_assoc group totals rest) in
    let first = number-back 8 c.begin (group ++ (totals ++ rest)) is.begin in
    let second = number-back 8 (cast_unsigned w64 c.group) (totals ++ rest) (omega (arith, Fits-of_z {w = w64} {z = c.group} is.group)) in
    let third : many_at total_at n (totals ++ rest) ≡ Some (c.totals, rest) =
    ap (λ (m : ℕ). many_at total_at m (totals ++ rest)) (sym many)
    ∙ many-back total_at total_bytes c.totals rest (λ i d low. total-back (get_or c.totals i d) (is.totals i d low)) in
    ap (cell_at n) apart ∙ (rw (first, second, third, to_z-of_z w64 c.group is.group) refl)

some-byte : (c : Cell) → 1 ≤ length (cell_bytes c)
some-byte c = omega arith

pub cells-back : (n : ℕ) (cells : List Cell) (rest : List ℕ) → length (cells_bytes cells) < 2 ^ 32 → All IsCell cells
    → All (λ (c : Cell). length c.totals ≡ n) cells → counted_at (cell_at n) (big_bytes 4 (length cells) ++ (flat_map cell_bytes cells ++ rest)) ≡ Some (cells, rest)
cells-back n cells rest short each many =
    let few : length cells < 2 ^ 32 =
    omega (arith, no-more-than-bytes (cell_at n) cell_bytes some-byte cells, length-append (big_bytes 4 (length cells)) (flat_map cell_bytes cells)) in
    counted-back (cell_at n) cell_bytes cells rest few (λ i d low. cell-back n (get_or cells i d) (each i d low) (many i d low))

-- ---- no other bytes

abbrev total_of : ℕ → List ℕ → Option (ℤ × List ℕ)
total_of n rest = Some (cast_signed w128 n, rest)

total-own : HaveOwnBytes total_at total_bytes
total-own z bs rest low h =
    number-in-turn 16 total_of z bs rest low h (λ n more number told.
    front-told total_bytes (cast_signed w128 n) z bs more rest told
    (front-is (big_bytes 16 n) (total_bytes (cast_signed w128 n)) bs more more (ap (big_bytes 16) (sym (of_z-to_z w128 n number.fits))) refl number.front))

-- what is made of the parts of a cell
module _ (n begin : ℕ) where
  abbrev cell_of : ℕ → List ℤ → Cell
  cell_of group zs = record { begin = begin; group = cast_signed w64 group; totals = zs }

  abbrev totals_from : ℕ → List ℕ → Option (Cell × List ℕ)
  totals_from group b = followed_by (many_at total_at n b) (λ (zs : List ℤ) (end : List ℕ). Some (cell_of group zs, end))

  abbrev group_from : List ℕ → Option (Cell × List ℕ)
  group_from a = followed_by (number_at 8 a) totals_from

  cell-again : (group : ℕ) (zs : List ℤ) → group < 256 ^ 8
      → big_bytes 8 begin ++ (big_bytes 8 group ++ flat_map total_bytes zs) ≡ cell_bytes (cell_of group zs)
  cell-again group zs fits = ap (λ (g : ℕ). big_bytes 8 begin ++ (big_bytes 8 g ++ flat_map total_bytes zs)) (sym (of_z-to_z w64 group fits))

cell-own : (n : ℕ) → HaveOwnBytes (cell_at n) cell_bytes
cell-own n c bs rest low h =
    number-in-turn 8 (group_from n) c bs rest low h (λ begin a first behind-begin.
    number-in-turn 8 (totals_from n begin) c a rest first.front.low behind-begin (λ group b second behind-group.
    in-turn (many_at total_at n) (λ (zs : List ℤ) (end : List ℕ). Some (cell_of n begin group zs, end)) c b rest behind-group (λ zs end are told.
    let third = many-own total_at total_bytes total-own n zs b end second.front.low are in
    let behind = big_bytes 8 group ++ flat_map total_bytes zs in
    front-told cell_bytes (cell_of n begin group zs) c bs end rest told
    (front-is (big_bytes 8 begin ++ behind) (cell_bytes (cell_of n begin group zs)) bs end end (cell-again n begin group zs second.fits) refl
    (front-more (big_bytes 8 begin) behind bs a end first.front (front-more (big_bytes 8 group) (flat_map total_bytes zs) a b end second.front third.front))))))

pub cells-own : (n : ℕ) → HaveOwnBytes (counted_at (cell_at n)) cells_bytes
cells-own n = counted-own (cell_at n) cell_bytes (cell-own n)
