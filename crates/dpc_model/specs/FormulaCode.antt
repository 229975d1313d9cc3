-- How the logic stores an expression.
use Rattle.std.specs.Prelude.{◌≡◌, ◌≢◌, ℕ}
use Rattle.std.specs.Coded.{Coded, coded_ℕ, coded_ℤ}
use base.Stored.{Gv, gnil, gnum, gcons}
use mathlib.Core.Path.{refl, ap}
use native.Mathlib.Omega.{arith}
use Rattle.dpc_model.specs.contracts.expressions.BinOp as binary
use Rattle.dpc_model.specs.Formula.{Formula, Col, Num, Time, Neg, Not, Bin, If}

abbrev head : Gv → Gv
head gnil = gnil
head (gnum n) = gnil
head (gcons a b) = a

abbrev tail : Gv → Gv
tail gnil = gnil
tail (gnum n) = gnil
tail (gcons a b) = b

apart : (m n : ℕ) {a b : Gv} → gcons (gnum m) a ≡ gcons (gnum n) b → m ≢ n → ⊥
apart m n p other = other (cc)

abbrev pub formula_code : Formula → Gv
formula_code (Col a0) = gcons (gnum 0) (coded_ℕ.code a0)
formula_code (Num a0) = gcons (gnum 1) (coded_ℤ.code a0)
formula_code Time = gcons (gnum 2) gnil
formula_code (Neg a0) = gcons (gnum 3) (formula_code a0)
formula_code (Not a0) = gcons (gnum 4) (formula_code a0)
formula_code (Bin a0 a1 a2) = gcons (gnum 5) (gcons (binary.the_row.coded.code a0) (gcons (formula_code a1) (formula_code a2)))
formula_code (If a0 a1 a2) = gcons (gnum 6) (gcons (formula_code a0) (gcons (formula_code a1) (formula_code a2)))

pub formula_inj : (x y : Formula) → formula_code x ≡ formula_code y → x ≡ y
formula_inj (Col a0) (Col b0) p = λ i. Col (coded_ℕ.inj a0 b0 (ap (λ g. tail g) p) i)
formula_inj (Col a0) (Num b0) p = absurd (apart 0 1 p (omega arith))
formula_inj (Col a0) Time p = absurd (apart 0 2 p (omega arith))
formula_inj (Col a0) (Neg b0) p = absurd (apart 0 3 p (omega arith))
formula_inj (Col a0) (Not b0) p = absurd (apart 0 4 p (omega arith))
formula_inj (Col a0) (Bin b0 b1 b2) p = absurd (apart 0 5 p (omega arith))
formula_inj (Col a0) (If b0 b1 b2) p = absurd (apart 0 6 p (omega arith))
formula_inj (Num a0) (Col b0) p = absurd (apart 1 0 p (omega arith))
formula_inj (Num a0) (Num b0) p = λ i. Num (coded_ℤ.inj a0 b0 (ap (λ g. tail g) p) i)
formula_inj (Num a0) Time p = absurd (apart 1 2 p (omega arith))
formula_inj (Num a0) (Neg b0) p = absurd (apart 1 3 p (omega arith))
formula_inj (Num a0) (Not b0) p = absurd (apart 1 4 p (omega arith))
formula_inj (Num a0) (Bin b0 b1 b2) p = absurd (apart 1 5 p (omega arith))
formula_inj (Num a0) (If b0 b1 b2) p = absurd (apart 1 6 p (omega arith))
formula_inj Time (Col b0) p = absurd (apart 2 0 p (omega arith))
formula_inj Time (Num b0) p = absurd (apart 2 1 p (omega arith))
formula_inj Time Time p = refl
formula_inj Time (Neg b0) p = absurd (apart 2 3 p (omega arith))
formula_inj Time (Not b0) p = absurd (apart 2 4 p (omega arith))
formula_inj Time (Bin b0 b1 b2) p = absurd (apart 2 5 p (omega arith))
formula_inj Time (If b0 b1 b2) p = absurd (apart 2 6 p (omega arith))
formula_inj (Neg a0) (Col b0) p = absurd (apart 3 0 p (omega arith))
formula_inj (Neg a0) (Num b0) p = absurd (apart 3 1 p (omega arith))
formula_inj (Neg a0) Time p = absurd (apart 3 2 p (omega arith))
formula_inj (Neg a0) (Neg b0) p = λ i. Neg (formula_inj a0 b0 (ap (λ g. tail g) p) i)
formula_inj (Neg a0) (Not b0) p = absurd (apart 3 4 p (omega arith))
formula_inj (Neg a0) (Bin b0 b1 b2) p = absurd (apart 3 5 p (omega arith))
formula_inj (Neg a0) (If b0 b1 b2) p = absurd (apart 3 6 p (omega arith))
formula_inj (Not a0) (Col b0) p = absurd (apart 4 0 p (omega arith))
formula_inj (Not a0) (Num b0) p = absurd (apart 4 1 p (omega arith))
formula_inj (Not a0) Time p = absurd (apart 4 2 p (omega arith))
formula_inj (Not a0) (Neg b0) p = absurd (apart 4 3 p (omega arith))
formula_inj (Not a0) (Not b0) p = λ i. Not (formula_inj a0 b0 (ap (λ g. tail g) p) i)
formula_inj (Not a0) (Bin b0 b1 b2) p = absurd (apart 4 5 p (omega arith))
formula_inj (Not a0) (If b0 b1 b2) p = absurd (apart 4 6 p (omega arith))
formula_inj (Bin a0 a1 a2) (Col b0) p = absurd (apart 5 0 p (omega arith))
formula_inj (Bin a0 a1 a2) (Num b0) p = absurd (apart 5 1 p (omega arith))
formula_inj (Bin a0 a1 a2) Time p = absurd (apart 5 2 p (omega arith))
formula_inj (Bin a0 a1 a2) (Neg b0) p = absurd (apart 5 3 p (omega arith))
formula_inj (Bin a0 a1 a2) (Not b0) p = absurd (apart 5 4 p (omega arith))
formula_inj (Bin a0 a1 a2) (Bin b0 b1 b2) p = λ i. Bin (binary.the_row.coded.inj a0 b0 (ap (λ g. head (tail g)) p) i) (formula_inj a1 b1 (ap (λ g. head (tail (tail g))) p) i) (formula_inj a2 b2 (ap (λ g. tail (tail (tail g))) p) i)
formula_inj (Bin a0 a1 a2) (If b0 b1 b2) p = absurd (apart 5 6 p (omega arith))
formula_inj (If a0 a1 a2) (Col b0) p = absurd (apart 6 0 p (omega arith))
formula_inj (If a0 a1 a2) (Num b0) p = absurd (apart 6 1 p (omega arith))
formula_inj (If a0 a1 a2) Time p = absurd (apart 6 2 p (omega arith))
formula_inj (If a0 a1 a2) (Neg b0) p = absurd (apart 6 3 p (omega arith))
formula_inj (If a0 a1 a2) (Not b0) p = absurd (apart 6 4 p (omega arith))
formula_inj (If a0 a1 a2) (Bin b0 b1 b2) p = absurd (apart 6 5 p (omega arith))
formula_inj (If a0 a1 a2) (If b0 b1 b2) p = λ i. If (formula_inj a0 b0 (ap (λ g. head (tail g)) p) i) (formula_inj a1 b1 (ap (λ g. head (tail (tail g))) p) i) (formula_inj a2 b2 (ap (λ g. tail (tail (tail g))) p) i)

abbrev pub coded_formula : Coded Formula
coded_formula = record { code = formula_code; inj = formula_inj }
