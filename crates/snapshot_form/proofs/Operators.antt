-- What operators keep is read back, and no other bytes are read as it.
use Rattle.std.proofs.Common.{◌≡◌, ℕ, ℤ, ◌+◌, ◌%◌, ◌^◌, ◌<◌, ◌==◌, nat_lt, ◌&&◌, Bool, true, false, cond, if◌then◌else◌, List, [], ◌∷◌, ◌++◌, length, Option, Some, None, refl, ap, subst, ◌∙◌, append_assoc, length-append, eqb-true, arith, All}
use Rattle.std.specs.Prelude.{flat_map}
use Rattle.std.proofs.lemmas.Bool.{and_parts}
use Rattle.std.proofs.lemmas.List.Elements.{All-nil, All-cons, All-head, All-tail}
use Rattle.byteorder.specs.Endian.{big_bytes}
use Rattle.dpc_model.specs.declared.tuples.Tuple.{Tuple}
use Rattle.dpc_model.specs.declared.operators.Agg.{Agg}
use Rattle.dpc_model.specs.declared.operators.OpKind.{OpKind}
use Rattle.dpc_model.specs.declared.operators.OpKind.TheVariants as kind
use Rattle.dpc_model.specs.declared.operators.OpSpec.{OpSpec}
use Rattle.ops_window.specs.Saving.{can_be_group, can_wait, stands_behind, can_wait_from}
use Rattle.ops_window.specs.declared.saved.Cell.{Cell}
use Rattle.fragment_mill.specs.States.{suits_kind, fault_from}
use Rattle.fragment_mill.specs.declared.states.OperatorParts.{OperatorParts}
use Rattle.fragment_mill.specs.declared.states.OperatorParts.TheVariants.{Plain, Join, Aggregate}
use Rattle.snapshot_form.specs.Bytes.{list_bytes, cell_bytes, part_bytes, parts_bytes}
use Rattle.snapshot_form.specs.Reading.{followed_by, counted_at, tuples_at, cell_at, total_count, form_at, operator_at, operators_at}
use Rattle.snapshot_form.specs.Savable.{CanBeKept}
use Rattle.snapshot_form.proofs.Steps.{IsFront, HaveOwnBytes, front-none, front-more, front-told, in-turn, bytes-in-turn}
use Rattle.snapshot_form.proofs.Numbers.{number-back, number-in-turn}
use Rattle.snapshot_form.proofs.Many.{IsReadBack}
use Rattle.snapshot_form.proofs.Tuples.{list-back, list-own}
use Rattle.snapshot_form.proofs.Cells.{cells_bytes, cells-back, cells-own}

-- ---- a cell has a total for each aggregate

many-from : (size step : ℕ) (group : Option ℕ) (aggs : List Agg) (b : ℕ) (last : Option (ℕ × ℤ)) (cells : List Cell)
    → can_wait_from size step group aggs b last cells ≡ true → All (λ (c : Cell). length c.totals ≡ length aggs) cells
many-from size step group aggs b last [] h = All-nil (λ (c : Cell). length c.totals ≡ length aggs)
many-from size step group aggs b last (c ∷ cells) h =
    let p = and_parts (stands_behind last (c.begin, c.group) && can_wait size step group aggs b c) (can_wait_from size step group aggs b (Some (c.begin, c.group)) cells) h in
    let q = and_parts (stands_behind last (c.begin, c.group)) (can_wait size step group aggs b c) p.0 in
    let r = and_parts ((c.begin % step == 0) && (nat_lt c.begin b && nat_lt b (c.begin + size))) (can_be_group group c.group && (length c.totals == length aggs)) q.1 in
    let s = and_parts (can_be_group group c.group) (length c.totals == length aggs) r.1 in
    All-cons (λ (d : Cell). length d.totals ≡ length aggs) c cells
    (eqb-true (length c.totals) (length aggs) s.1) (many-from size step group aggs b (Some (c.begin, c.group)) cells p.1)

totals-are : (b : ℕ) (k : OpKind) (cells : List Cell) → suits_kind b k (Aggregate cells) ≡ true → All (λ (c : Cell). length c.totals ≡ total_count k) cells
totals-are b (kind.Filter e) cells h = absurd cc
totals-are b (kind.Map es) cells h = absurd cc
totals-are b kind.Union cells h = absurd cc
totals-are b (kind.Join within keys) cells h = absurd cc
totals-are b (kind.Aggregate size step group aggs) cells h = many-from size step group aggs b None cells h

-- ---- what an operator of a kind can have kept

part-back : (b : ℕ) (k : OpKind) (p : OperatorParts) → suits_kind b k p ≡ true → CanBeKept p → length (part_bytes p) < 2 ^ 32 → IsReadBack (operator_at k) part_bytes p
part-back b k Plain suits kept short rest = rw (number-back 1 0 rest (omega arith)) refl
part-back b k (Join left right) suits kept short rest =
    let size = length-append (list_bytes left) (list_bytes right) in
    let behind = list_bytes left ++ (list_bytes right ++ rest) in
    let first = list-back left (list_bytes right ++ rest) (omega (arith, size)) kept.0 in
    let second = list-back right rest (omega (arith, size)) kept.1 in
    ap (λ (bs : List ℕ). operator_at k (1 ∷ bs)) (append_assoc (list_bytes left) (list_bytes right) rest)
    ∙ (rw (number-back 1 1 behind (omega arith), first, second) refl)
part-back b k (Aggregate cells) suits kept short rest =
    let count = big_bytes 4 (length cells) in
    let body = flat_map cell_bytes cells in
    let each = cells-back (total_count k) cells rest (omega arith) kept (totals-are b k cells suits) in
    ap (λ (bs : List ℕ). operator_at k (2 ∷ bs)) (append_assoc count body rest)
    ∙ (rw (number-back 1 2 (count ++ (body ++ rest)) (omega arith), each) refl)

pub if-none : (c : Bool) (o : Option ℕ) (i : ℕ) → cond c o (Some i) ≡ None → (c ≡ true) × (o ≡ None)
if-none true o i e = (refl, e)
if-none false o i e = absurd cc

-- what operators can have kept
pub operators-back : (b i : ℕ) (ops : List OpSpec) (ps : List OperatorParts) (rest : List ℕ) → fault_from b i ops ps ≡ None → All CanBeKept ps
    → length (parts_bytes ps) < 2 ^ 32 → operators_at ops (parts_bytes ps ++ rest) ≡ Some (ps, rest)
operators-back b i [] [] rest sound kept short = refl
operators-back b i [] (p ∷ ps) rest sound kept short = absurd cc
operators-back b i (op ∷ ops) [] rest sound kept short = absurd cc
operators-back b i (op ∷ ops) (p ∷ ps) rest sound kept short =
    let both = if-none (suits_kind b op.kind p) (fault_from b (i + 1) ops ps) i sound in
    let size = length-append (part_bytes p) (parts_bytes ps) in
    let first = part-back b op.kind p both.0 (All-head CanBeKept p ps kept) (omega (arith, size)) (parts_bytes ps ++ rest) in
    let later = operators-back b (i + 1) ops ps rest both.1 (All-tail CanBeKept p ps kept) (omega (arith, size)) in
    ap (operators_at (op ∷ ops)) (append_assoc (part_bytes p) (parts_bytes ps) rest) ∙ (rw (first, later) refl)

-- ---- no other bytes

-- what is read behind a byte that is not 0, and behind one that is not 1 either
abbrev right_from : List Tuple → List ℕ → Option (OperatorParts × List ℕ)
right_from left more = followed_by (tuples_at more) (λ (right : List Tuple) (rest : List ℕ). Some (Join left right, rest))

abbrev join_at : List ℕ → Option (OperatorParts × List ℕ)
join_at bs = followed_by (tuples_at bs) right_from

abbrev aggregate_at : ℕ → List ℕ → Option (OperatorParts × List ℕ)
aggregate_at n bs = followed_by (counted_at (cell_at n) bs) (λ (cells : List Cell) (rest : List ℕ). Some (Aggregate cells, rest))

abbrev no_join_at : ℕ → ℕ → List ℕ → Option (OperatorParts × List ℕ)
no_join_at n byte bs = if byte == 2 then aggregate_at n bs else None

abbrev not_plain_at : ℕ → ℕ → List ℕ → Option (OperatorParts × List ℕ)
not_plain_at n byte bs = if byte == 1 then join_at bs else no_join_at n byte bs

module _ (p : OperatorParts) (whole bs rest : List ℕ) where
  plain-own : IsFront (0 ∷ []) whole bs → ◌≡◌ {A = Option (OperatorParts × List ℕ)} (Some (Plain, bs)) (Some (p, rest)) → IsFront (part_bytes p) whole rest
  plain-own front h = front-told part_bytes Plain p whole bs rest h front

  join-own : IsFront (1 ∷ []) whole bs → join_at bs ≡ Some (p, rest) → IsFront (part_bytes p) whole rest
  join-own front h =
      bytes-in-turn tuples_at list_bytes right_from list-own p bs rest front.low h (λ left more first behind.
      bytes-in-turn tuples_at list_bytes (λ (right : List Tuple) (end : List ℕ). Some (Join left right, end)) list-own p more rest first.low behind (λ right end second told.
      front-told part_bytes (Join left right) p whole end rest told
      (front-more (1 ∷ []) (list_bytes left ++ list_bytes right) whole bs end front (front-more (list_bytes left) (list_bytes right) bs more end first second))))

  aggregate-own : (n : ℕ) → IsFront (2 ∷ []) whole bs → aggregate_at n bs ≡ Some (p, rest) → IsFront (part_bytes p) whole rest
  aggregate-own n front h =
      bytes-in-turn (counted_at (cell_at n)) cells_bytes (λ (cells : List Cell) (end : List ℕ). Some (Aggregate cells, end)) (cells-own n) p bs rest front.low h (λ cells end first told.
      front-told part_bytes (Aggregate cells) p whole end rest told (front-more (2 ∷ []) (cells_bytes cells) whole bs end front first))

  abbrev IsByte : ℕ → Type 0
  IsByte byte = IsFront (big_bytes 1 byte) whole bs

  abbrev IsTold : Option (OperatorParts × List ℕ) → Type 0
  IsTold o = o ≡ Some (p, rest)

  no-join-own : (n byte : ℕ) → IsByte byte → IsTold (no_join_at n byte bs) → IsFront (part_bytes p) whole rest
  no-join-own n byte front h =
      (elim (byte == 2) as (λ (b : Bool). (byte == 2) ≡ b → IsTold (if b then aggregate_at n bs else None) → IsFront (part_bytes p) whole rest) [
        | true ↦ λ e told. aggregate-own n (subst IsByte (eqb-true byte 2 e) front) told
        | false ↦ λ e told. absurd cc
      ]) refl h

  not-plain-own : (n byte : ℕ) → IsByte byte → IsTold (not_plain_at n byte bs) → IsFront (part_bytes p) whole rest
  not-plain-own n byte front h =
      (elim (byte == 1) as (λ (b : Bool). (byte == 1) ≡ b → IsTold (if b then join_at bs else no_join_at n byte bs) → IsFront (part_bytes p) whole rest) [
        | true ↦ λ e told. join-own (subst IsByte (eqb-true byte 1 e) front) told
        | false ↦ λ e told. no-join-own n byte front told
      ]) refl h

  form-own : (n byte : ℕ) → IsByte byte → IsTold (form_at n byte bs) → IsFront (part_bytes p) whole rest
  form-own n byte front h =
      (elim (byte == 0) as (λ (b : Bool). (byte == 0) ≡ b → IsTold (if b then Some (Plain, bs) else not_plain_at n byte bs) → IsFront (part_bytes p) whole rest) [
        | true ↦ λ e told. plain-own (subst IsByte (eqb-true byte 0 e) front) told
        | false ↦ λ e told. not-plain-own n byte front told
      ]) refl h

part-own : (k : OpKind) → HaveOwnBytes (operator_at k) part_bytes
part-own k p bs rest low h =
    number-in-turn 1 (form_at (total_count k)) p bs rest low h (λ byte more first behind. form-own p bs more rest (total_count k) byte first.front behind)

abbrev operators_from : List OpSpec → OperatorParts → List ℕ → Option (List OperatorParts × List ℕ)
operators_from ops p more = followed_by (operators_at ops more) (λ (ps : List OperatorParts) (rest : List ℕ). Some (p ∷ ps, rest))

pub operators-own : (ops : List OpSpec) → HaveOwnBytes (operators_at ops) parts_bytes
operators-own [] ps bs rest low h = front-told parts_bytes [] ps bs bs rest h (front-none bs low)
operators-own (op ∷ ops) ps bs rest low h =
    bytes-in-turn (operator_at op.kind) part_bytes (operators_from ops) (part-own op.kind) ps bs rest low h (λ p more first behind.
    in-turn (operators_at ops) (λ (qs : List OperatorParts) (end : List ℕ). Some (p ∷ qs, end)) ps more rest behind (λ qs end are told.
    front-told parts_bytes (p ∷ qs) ps bs end rest told
    (front-more (part_bytes p) (parts_bytes qs) bs more end first (operators-own ops qs more end first.low are))))
