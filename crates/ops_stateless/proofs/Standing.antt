-- Operators that keep no tuple: their kind and the bucket that they reached determine them.
use Rattle.std.proofs.Common.{◌≡◌, ℕ, false, Some, List, [], ◌∷◌, map, length, refl, sym, ◌∙◌, ap}
use Rattle.std.proofs.lemmas.List.FromFn.{length-map-range_with_len}
use Rattle.dpc_lists.specs.Lists.{range_with_len}
use Rattle.dpc_model.specs.Engines.{lone_operator}
use Rattle.dpc_model.specs.declared.operators.OpKind.TheVariants as kind
use Rattle.dpc_model.specs.declared.operators.OpSpec.{OpSpec}
use Rattle.dpc_model.specs.declared.operators.Wire.{Wire}
use Rattle.dpc_model.specs.declared.operators.Wire.TheVariants.{Port}
use Rattle.dpc_model.specs.declared.tuples.Tagged.{Tagged}
use Rattle.ops_stateless.specs.FilterOp.{FilterState, filter_before}
use Rattle.ops_stateless.specs.MapOps.{MapState, map_before}
use Rattle.ops_stateless.specs.Unions.{UnionState, union_before, UnionAfter}

pub filter-is : (f : FilterState) (k : ℕ) → f.next ≡ k → f.spent ≡ false → f ≡ filter_before f.expr k
filter-is f k next idle = rw (← next, ← idle) refl

pub map-is : (m : MapState) (k : ℕ) → m.next ≡ k → m.spent ≡ false → m ≡ map_before m.exprs k
map-is m k next idle = rw (← next, ← idle) refl

pub union-is : (u : UnionState) (xs : List Tagged) (k : ℕ) → UnionAfter u xs k → u.spent ≡ false → u ≡ union_before u.ports u.width k
union-is u xs k after idle = rw (← after.next, ← idle) refl

-- as an operator a union shows its ports
union-ports : (n m : ℕ) → lone_operator kind.Union n ≡ lone_operator kind.Union m → n ≡ m
union-ports n m e =
    let many : (n : ℕ) → length (map {A = ℕ} {B = Wire} Port (range_with_len 0 n)) ≡ n = length-map-range_with_len {X = Wire} Port 0 in
    let reads : map {A = ℕ} {B = Wire} Port (range_with_len 0 n) ∷ [] ≡ map {A = ℕ} {B = Wire} Port (range_with_len 0 m) ∷ [] =
    ap (λ (ops : List OpSpec). map (λ (op : OpSpec). op.reads) ops) e in
    let one : map {A = ℕ} {B = Wire} Port (range_with_len 0 n) ≡ map {A = ℕ} {B = Wire} Port (range_with_len 0 m) = cc in
    sym (many n) ∙ ap (λ (ws : List Wire). length ws) one ∙ many m

-- two unions of one width over as many ports that took the same inputs are the same
pub same-unions : (u v : UnionState) (xs : List Tagged) (k : ℕ) → Some u.width ≡ Some v.width → lone_operator kind.Union u.ports ≡ lone_operator kind.Union v.ports →
    (u.spent ≡ false) × (v.spent ≡ false) → UnionAfter u xs k × UnionAfter v xs k → u ≡ v
same-unions u v xs k wide made idle after =
    let width : u.width ≡ v.width = cc in
    union-is u xs k after.0 idle.0
    ∙ ap (λ (n : ℕ). union_before n u.width k) (union-ports u.ports v.ports made)
    ∙ ap (λ (n : ℕ). union_before v.ports n k) width
    ∙ sym (union-is v xs k after.1 idle.1)
