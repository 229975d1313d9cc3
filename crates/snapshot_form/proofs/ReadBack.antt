-- A snapshot is read back.
use Rattle.std.proofs.Common.{◌≡◌, ℕ, ◌+◌, ◌*◌, ◌^◌, ◌<◌, ◌==◌, nat_lt, ◌&&◌, Bool, true, if◌then◌else◌, List, [], ◌++◌, length, get_or, Some, None, refl, ap, sym, ◌∙◌, append_assoc, append-nil, length-append, eq-eqb, arith, All}
use Rattle.std.specs.Prelude.{flat_map, is_none}
use Rattle.std.proofs.lemmas.Bool.{and_from, lt-ltb}
use Rattle.byteorder.specs.Endian.{big_bytes}
use Rattle.byteorder.specs.Numbers.{length-bytes_high_first}
use Rattle.dpc_model.specs.declared.plans.Plan.{Plan}
use Rattle.node_model.specs.Stands.{SnapValue}
use Rattle.fragment_mill.specs.Mills.{MillState}
use Rattle.fragment_mill.specs.States.{parts_of, ops_at, state_fault, mill_of}
use Rattle.fragment_mill.specs.declared.states.MillParts.{MillParts}
use Rattle.snapshot_form.specs.Bytes.{list_bytes, parts_bytes, snapshot_bytes}
use Rattle.snapshot_form.specs.Reading.{number_at, counted_at, PlainSnapshot, plain_at, parts_in, port_count_at, is_of, made_of, whole_snapshot, snapshot_in}
use Rattle.snapshot_form.specs.Savable.{IsSavable}
use Rattle.snapshot_form.proofs.Numbers.{number-back}
use Rattle.snapshot_form.proofs.Many.{counted-back, no-more-than-bytes}
use Rattle.snapshot_form.proofs.Tuples.{list-back}
use Rattle.snapshot_form.proofs.Operators.{operators-back}

-- a snapshot whose engine is plain data
abbrev plain_of : SnapValue MillState → PlainSnapshot
plain_of s = record { cursor = s.cursor; counts = s.counts; base = s.base; kept = s.kept; operators = (parts_of s.mill).operators }

-- ---- read back

counts-back : (counts rest : List ℕ) → length counts < 2 ^ 32 → All (λ n. n < 2 ^ 64) counts
    → counted_at (number_at 8) (big_bytes 4 (length counts) ++ (flat_map (big_bytes 8) counts ++ rest)) ≡ Some (counts, rest)
counts-back counts rest few below = counted-back (number_at 8) (big_bytes 8) counts rest few (λ i d low more. number-back 8 (get_or counts i d) more (below i d low))

-- the fields in one row
in-row : (a b c d e f : List ℕ) → ((a ++ b ++ c ++ d) ++ e ++ f) ≡ a ++ (b ++ (c ++ (d ++ (e ++ (f ++ [])))))
in-row a b c d e f = simp (append_assoc, append-nil)

-- parts of the whole are no longer than it
count-short : (a b c d e f : List ℕ) (n : ℕ) → length ((a ++ b ++ c ++ d) ++ e ++ f) < n → (length c < n) × (length e < n) × (length f < n)
count-short a b c d e f n short =
    let row : length ((a ++ b ++ c ++ d) ++ e ++ f) ≡ length a + (length b + (length c + (length d + (length e + length f)))) = simp length-append (omega arith) in
    (omega arith, omega arith, omega arith)

plain-back : (plan : Plan) (frag : ℕ) (s : SnapValue MillState) → IsSavable plan frag s → plain_at (ops_at plan frag) (snapshot_bytes s) ≡ Some (plain_of s, [])
unfolding snapshot_bytes
plain-back plan frag s can =
    let cursor = big_bytes 8 s.cursor in
    let count = big_bytes 4 (length s.counts) in
    let counts = flat_map (big_bytes 8) s.counts in
    let base = big_bytes 8 s.base in
    let kept = list_bytes s.kept in
    let operators = parts_bytes (parts_of s.mill).operators in
    let short = count-short cursor count counts base kept operators (2 ^ 32) can.short in
    let numbers = can.numbers in
    let few : length s.counts < 2 ^ 32 = omega (arith, short.0, no-more-than-bytes (number_at 8) (big_bytes 8) (λ n. omega (arith, length-bytes_high_first 8 n)) s.counts) in
    let one = number-back 8 s.cursor (count ++ (counts ++ (base ++ (kept ++ (operators ++ []))))) can.cursor in
    let two = counts-back s.counts (base ++ (kept ++ (operators ++ []))) few can.counts in
    let three = number-back 8 s.base (kept ++ (operators ++ [])) (omega arith) in
    let four = list-back s.kept (operators ++ []) short.1 can.kept in
    let five = operators-back (s.mill.next * plan.width) 0 (ops_at plan frag) (parts_of s.mill).operators [] can.back.sound can.operators short.2 in
    ap (plain_at (ops_at plan frag)) (in-row cursor count counts base kept operators) ∙ (rw (one, two, three, four, five) refl)

same-parts : (s : SnapValue MillState) → s.mill.next ≡ s.cursor → parts_in (plain_of s) ≡ parts_of s.mill
same-parts s next =
    let parts = λ (n : ℕ). (let p : MillParts = record { next = n; operators = (parts_of s.mill).operators } in p) in
    ap parts (sym next)

made-again : (plan : Plan) (frag : ℕ) (s : SnapValue MillState) → IsSavable plan frag s → made_of plan frag (plain_of s) ≡ s
made-again plan frag s can =
    ap (λ (m : MillState). record s { mill = m }) (ap (mill_of plan.width (ops_at plan frag)) (same-parts s can.next) ∙ can.back.same)

is-of : (plan : Plan) (frag : ℕ) (s : SnapValue MillState) → IsSavable plan frag s → is_of plan frag (plain_of s) ≡ true
is-of plan frag s can =
    let ports = length s.counts == port_count_at plan frag in
    let numbers = nat_lt (s.base + length s.kept) (2 ^ 64) in
    and_from (ports && numbers) (is_none (state_fault plan frag (parts_in (plain_of s))))
    (and_from ports numbers (eq-eqb (length s.counts) (port_count_at plan frag) can.ports) (lt-ltb (s.base + length s.kept) (2 ^ 64) can.numbers))
    (ap is_none (ap (state_fault plan frag) (same-parts s can.next) ∙ can.back.sound))

pub snapshot-back : (plan : Plan) (frag : ℕ) (s : SnapValue MillState) → IsSavable plan frag s → snapshot_in plan frag (snapshot_bytes s) ≡ Some s
unfolding snapshot_in
snapshot-back plan frag s can =
    ap (whole_snapshot plan frag) (plain-back plan frag s can)
    ∙ ap (λ (b : Bool). if b then Some (made_of plan frag (plain_of s)) else None) (is-of plan frag s can)
    ∙ ap Some (made-again plan frag s can)
