-- The value of an expression on a tuple. Each operator's exact result becomes the nearest value of i64.
use Rattle.std.specs.Prelude.{ℕ, nat_lt, ℤ, pos, ◌+ℤ◌, ◌-ℤ◌, ◌*ℤ◌, neg_ℤ, int_lt, int_le, Bool, true, not, ◌&&◌, ◌||◌, if◌then◌else◌}
use Rattle.std.specs.Int.{saturate_signed, w64, int_min, int_max}
use Rattle.std.specs.Ordering.{int_eq}
use Rattle.dpc_lists.specs.Lists.{nth}
use Rattle.dpc_model.specs.declared.tuples.Tuple.{Tuple}
use Rattle.dpc_model.specs.declared.expressions.BinOp.{BinOp}
use Rattle.dpc_model.specs.declared.expressions.BinOp.TheVariants.{Add, Sub, Mul, Min, Max, Lt, Le, Gt, Ge, Eq, Ne, And, Or}
use Rattle.dpc_model.specs.Formula.{Formula, Col, Num, Time, Neg, Not, Bin, If}

-- the nearest value of i64
abbrev pub clamp : ℤ → ℤ
clamp z = saturate_signed w64 z

-- 1 for true, and 0 for false
abbrev pub truth : Bool → ℤ
truth b = if b then pos 1 else pos 0

-- a value other than 0 counts as true
abbrev pub is_true : ℤ → Bool
is_true z = not (int_eq z (pos 0))

-- the value of a column
abbrev pub column : Tuple → ℕ → ℤ
column t i = nth (pos 0) t.vals i

-- two values under an operator
abbrev pub combine : BinOp → ℤ → ℤ → ℤ
combine Add x y = clamp (x +ℤ y)
combine Sub x y = clamp (x -ℤ y)
combine Mul x y = clamp (x *ℤ y)
combine Min x y = int_min x y
combine Max x y = int_max x y
combine Lt x y = truth (int_lt x y)
combine Le x y = truth (int_le x y)
combine Gt x y = truth (int_lt y x)
combine Ge x y = truth (int_le y x)
combine Eq x y = truth (int_eq x y)
combine Ne x y = truth (not (int_eq x y))
combine And x y = truth (is_true x && is_true y)
combine Or x y = truth (is_true x || is_true y)

-- the value of an expression on a tuple
abbrev pub value_of : Formula → Tuple → ℤ
value_of (Col i) t = column t i
value_of (Num z) t = z
value_of Time t = clamp (pos t.stime)
value_of (Neg e) t = clamp (neg_ℤ (value_of e t))
value_of (Not e) t = truth (not (is_true (value_of e t)))
value_of (Bin op d e) t = combine op (value_of d t) (value_of e t)
value_of (If c d e) t = if is_true (value_of c t) then value_of d t else value_of e t

-- every column of an expression is among the first n
abbrev pub reads_below : ℕ → Formula → Bool
reads_below n (Col i) = nat_lt i n
reads_below n (Num z) = true
reads_below n Time = true
reads_below n (Neg e) = reads_below n e
reads_below n (Not e) = reads_below n e
reads_below n (Bin op d e) = reads_below n d && reads_below n e
reads_below n (If c d e) = reads_below n c && (reads_below n d && reads_below n e)
