-- Bytes that are read as a snapshot are its bytes.
use Rattle.std.proofs.Common.{◌≡◌, ℕ, ◌+◌, ◌*◌, ◌^◌, ◌<◌, ◌==◌, nat_lt, ◌&&◌, Bool, true, false, if◌then◌else◌, List, [], ◌∷◌, ◌++◌, map, length, Option, Some, None, refl, ap, sym, ◌∙◌, append_assoc, append-nil, All}
use Rattle.std.specs.Prelude.{flat_map, is_none}
use Rattle.std.proofs.lemmas.Bool.{and_parts}
use Rattle.byteorder.specs.Endian.{big_bytes}
use Rattle.dpc_model.specs.declared.tuples.Tuple.{Tuple}
use Rattle.dpc_model.specs.declared.operators.OpKind.{OpKind}
use Rattle.dpc_model.specs.declared.operators.OpKind.TheVariants as kind
use Rattle.dpc_model.specs.declared.operators.OpSpec.{OpSpec}
use Rattle.dpc_model.specs.declared.plans.Plan.{Plan}
use Rattle.node_model.specs.Stands.{SnapValue}
use Rattle.ops_window.proofs.Resumes.{saved-kept}
use Rattle.ops_window.specs.declared.saved.Cell.{Cell}
use Rattle.fragment_mill.specs.Mills.{MillState, new_operator, new_stage}
use Rattle.fragment_mill.specs.States.{part_of, suits_kind, fault_from, ops_at, state_fault, resumed, resumed_stages}
use Rattle.fragment_mill.specs.declared.mill.Stage.{Stage}
use Rattle.fragment_mill.specs.declared.states.OperatorParts.{OperatorParts}
use Rattle.fragment_mill.specs.declared.states.OperatorParts.TheVariants.{Plain, Join, Aggregate}
use Rattle.snapshot_form.specs.Bytes.{list_bytes, parts_bytes, head_bytes, snapshot_bytes}
use Rattle.snapshot_form.specs.Reading.{followed_by, number_at, counted_at, tuples_at, operators_at, PlainSnapshot, plain_at, parts_in, port_count_at, is_of, made_of, whole_snapshot, snapshot_in}
use Rattle.snapshot_form.proofs.Steps.{IsFront, HaveOwnBytes, front-more, front-is, front-told, bytes-in-turn}
use Rattle.snapshot_form.proofs.Numbers.{number-own}
use Rattle.snapshot_form.proofs.Many.{counted-own}
use Rattle.snapshot_form.proofs.Tuples.{list-own}
use Rattle.snapshot_form.proofs.Operators.{if-none, operators-own}

-- ---- the parts of a mill that was made of parts

part-again : (b next w n : ℕ) (k : OpKind) (p : OperatorParts) → suits_kind b k p ≡ true → part_of (resumed next (new_operator w n k) p) ≡ p
part-again b next w n (kind.Filter e) Plain h = refl
part-again b next w n (kind.Filter e) (Join left right) h = absurd cc
part-again b next w n (kind.Filter e) (Aggregate cells) h = absurd cc
part-again b next w n (kind.Map es) Plain h = refl
part-again b next w n (kind.Map es) (Join left right) h = absurd cc
part-again b next w n (kind.Map es) (Aggregate cells) h = absurd cc
part-again b next w n kind.Union Plain h = refl
part-again b next w n kind.Union (Join left right) h = absurd cc
part-again b next w n kind.Union (Aggregate cells) h = absurd cc
part-again b next w n (kind.Join within keys) Plain h = absurd cc
part-again b next w n (kind.Join within keys) (Join left right) h = refl
part-again b next w n (kind.Join within keys) (Aggregate cells) h = absurd cc
part-again b next w n (kind.Aggregate size step group aggs) Plain h = absurd cc
part-again b next w n (kind.Aggregate size step group aggs) (Join left right) h = absurd cc
part-again b next w n (kind.Aggregate size step group aggs) (Aggregate cells) h = ap (λ (cs : List Cell). Aggregate cs) (saved-kept cells)

parts-again : (b next w i : ℕ) (ops : List OpSpec) (ps : List OperatorParts) → fault_from b i ops ps ≡ None
    → map (λ (s : Stage). part_of s.operator) (resumed_stages next (map (new_stage w) ops) ps) ≡ ps
parts-again b next w i [] [] sound = refl
parts-again b next w i [] (p ∷ ps) sound = absurd cc
parts-again b next w i (op ∷ ops) [] sound = refl
parts-again b next w i (op ∷ ops) (p ∷ ps) sound =
    let both = if-none (suits_kind b op.kind p) (fault_from b (i + 1) ops ps) i sound in
    rw (part-again b next w (length op.reads) op.kind p both.0, parts-again b next w (i + 1) ops ps both.1) refl

-- ---- the bytes of what was read

abbrev plain_bytes : PlainSnapshot → List ℕ
plain_bytes p =
    (big_bytes 8 p.cursor ++ big_bytes 4 (length p.counts) ++ flat_map (big_bytes 8) p.counts ++ big_bytes 8 p.base) ++ list_bytes p.kept ++ parts_bytes p.operators

-- the fields in one row
in-row : (a b c d e f : List ℕ) → a ++ ((b ++ c) ++ (d ++ (e ++ f))) ≡ (a ++ b ++ c ++ d) ++ e ++ f
in-row a b c d e f = simp append_assoc

number-bytes : HaveOwnBytes (number_at 8) (big_bytes 8)
number-bytes n bs rest low h = let read = number-own 8 n bs rest low h in read.front

abbrev counts_bytes : List ℕ → List ℕ
counts_bytes ns = big_bytes 4 (length ns) ++ flat_map (big_bytes 8) ns

counts-own : HaveOwnBytes (counted_at (number_at 8)) counts_bytes
counts-own = counted-own (number_at 8) (big_bytes 8) number-bytes

abbrev snapshot_of : ℕ → List ℕ → ℕ → List Tuple → List OperatorParts → PlainSnapshot
snapshot_of cursor counts base kept operators = record { cursor = cursor; counts = counts; base = base; kept = kept; operators = operators }

-- one field behind another
fields-own : (cursor : ℕ) (counts : List ℕ) (base : ℕ) (kept : List Tuple) (operators : List OperatorParts) (p : PlainSnapshot) (bs a b c d end rest : List ℕ)
    → IsFront (big_bytes 8 cursor) bs a → IsFront (counts_bytes counts) a b → IsFront (big_bytes 8 base) b c → IsFront (list_bytes kept) c d → IsFront (parts_bytes operators) d end
    → ◌≡◌ {A = Option (PlainSnapshot × List ℕ)} (Some (snapshot_of cursor counts base kept operators, end)) (Some (p, rest)) → IsFront (plain_bytes p) bs rest
fields-own cursor counts base kept operators p bs a b c d end rest first second third fourth fifth told =
    let made = snapshot_of cursor counts base kept operators in
    let kept-row = list_bytes kept ++ parts_bytes operators in
    let base-row = big_bytes 8 base ++ kept-row in
    let counts-row = counts_bytes counts ++ base-row in
    front-told plain_bytes made p bs end rest told
    (front-is (big_bytes 8 cursor ++ counts-row) (plain_bytes made) bs end end
    (in-row (big_bytes 8 cursor) (big_bytes 4 (length counts)) (flat_map (big_bytes 8) counts) (big_bytes 8 base) (list_bytes kept) (parts_bytes operators)) refl
    (front-more (big_bytes 8 cursor) counts-row bs a end first
    (front-more (counts_bytes counts) base-row a b end second
    (front-more (big_bytes 8 base) kept-row b c end third
    (front-more (list_bytes kept) (parts_bytes operators) c d end fourth fifth)))))

-- what is read behind the fields before
module _ (ops : List OpSpec) (cursor : ℕ) where
  module _ (counts : List ℕ) where
    module _ (base : ℕ) where
      abbrev operators_from : List Tuple → List ℕ → Option (PlainSnapshot × List ℕ)
      operators_from kept d = followed_by (operators_at ops d) (λ (operators : List OperatorParts) (end : List ℕ). Some (snapshot_of cursor counts base kept operators, end))

    abbrev kept_from : ℕ → List ℕ → Option (PlainSnapshot × List ℕ)
    kept_from base c = followed_by (tuples_at c) (operators_from base)

  abbrev base_from : List ℕ → List ℕ → Option (PlainSnapshot × List ℕ)
  base_from counts b = followed_by (number_at 8 b) (kept_from counts)

abbrev counts_from : List OpSpec → ℕ → List ℕ → Option (PlainSnapshot × List ℕ)
counts_from ops cursor a = followed_by (counted_at (number_at 8) a) (base_from ops cursor)

plain-own : (ops : List OpSpec) → HaveOwnBytes (plain_at ops) plain_bytes
plain-own ops p bs rest low h =
    bytes-in-turn (number_at 8) (big_bytes 8) (counts_from ops) number-bytes p bs rest low h (λ cursor a first behind-cursor.
    bytes-in-turn (counted_at (number_at 8)) counts_bytes (base_from ops cursor) counts-own p a rest first.low behind-cursor (λ counts b second behind-counts.
    bytes-in-turn (number_at 8) (big_bytes 8) (kept_from ops cursor counts) number-bytes p b rest second.low behind-counts (λ base c third behind-base.
    bytes-in-turn tuples_at list_bytes (operators_from ops cursor counts base) list-own p c rest third.low behind-base (λ kept d fourth behind-kept.
    bytes-in-turn (operators_at ops) parts_bytes (λ (operators : List OperatorParts) (end : List ℕ). Some (snapshot_of cursor counts base kept operators, end))
    (operators-own ops) p d rest fourth.low behind-kept (λ operators end fifth told.
    fields-own cursor counts base kept operators p bs a b c d end rest first second third fourth fifth told)))))

-- ---- the whole

none-is : (o : Option ℕ) → is_none o ≡ true → o ≡ None
none-is None h = refl
none-is (Some n) h = absurd cc

same-made : (x y : SnapValue MillState) → Some x ≡ Some y → x ≡ y
same-made x y h = cc

module _ (plan : Plan) (frag : ℕ) (bytes : List ℕ) (s : SnapValue MillState) (low : All (λ b. b < 256) bytes) where
  of-fragment : (p : PlainSnapshot) → plain_at (ops_at plan frag) bytes ≡ Some (p, []) → is_of plan frag p ≡ true → made_of plan frag p ≡ s → bytes ≡ snapshot_bytes s
  unfolding snapshot_bytes
  of-fragment p read is made =
      let tests = and_parts (length p.counts == port_count_at plan frag && nat_lt (p.base + length p.kept) (2 ^ 64)) (is_none (state_fault plan frag (parts_in p))) is in
      let sound = none-is (state_fault plan frag (parts_in p)) tests.1 in
      let again = parts-again (p.cursor * plan.width) p.cursor plan.width 0 (ops_at plan frag) p.operators sound in
      let front = plain-own (ops_at plan frag) p bytes [] low read in
      front.are ∙ append-nil (plain_bytes p)
      ∙ ap (λ (ps : List OperatorParts). head_bytes (made_of plan frag p) ++ list_bytes p.kept ++ parts_bytes ps) (sym again)
      ∙ ap snapshot_bytes made

  of-plain : (o : Option (PlainSnapshot × List ℕ)) → plain_at (ops_at plan frag) bytes ≡ o → whole_snapshot plan frag o ≡ Some s → bytes ≡ snapshot_bytes s
  of-plain None read h = absurd cc
  of-plain (Some (p, b ∷ bs)) read h = absurd cc
  of-plain (Some (p, [])) read h =
      (elim (is_of plan frag p) as (λ (b : Bool). is_of plan frag p ≡ b → (if b then Some (made_of plan frag p) else None) ≡ Some s → bytes ≡ snapshot_bytes s) [
        | true ↦ λ e told. of-fragment p read e (same-made (made_of plan frag p) s told)
        | false ↦ λ e told. absurd cc
      ]) refl h

  pub snapshot-own : snapshot_in plan frag bytes ≡ Some s → bytes ≡ snapshot_bytes s
  unfolding snapshot_in
  snapshot-own h = of-plain (plain_at (ops_at plan frag) bytes) refl h
