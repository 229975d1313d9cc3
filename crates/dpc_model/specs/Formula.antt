-- An expression over a tuple's columns and its time, as contracts see it.
use Rattle.std.specs.Prelude.{ℕ, ◌+◌, ℤ}
use Rattle.dpc_model.specs.declared.expressions.BinOp.{BinOp}

pub data Formula : Type 0 where
  Col : (place : ℕ) → Formula
  Num : (number : ℤ) → Formula
  Time : Formula
  Neg : (of : Formula) → Formula
  Not : (of : Formula) → Formula
  Bin : (op : BinOp) → (left right : Formula) → Formula
  If : (test yes no : Formula) → Formula

-- how many words an expression has
abbrev pub words : Formula → ℕ
words (Col c) = 1
words (Num z) = 1
words Time = 1
words (Neg e) = words e + 1
words (Not e) = words e + 1
words (Bin op d e) = words d + words e + 1
words (If c d e) = words c + words d + words e + 1
