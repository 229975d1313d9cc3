-- The words of expressions and of aggregates.
use Rattle.std.specs.Prelude.{ℕ, Bool, true, false, if◌then◌else◌, List, [], ◌∷◌, ◌++◌, Option, Some, None, unwrap_or, option_map, option_to_list, codes}
use Rattle.dpc_lists.specs.Lists.{nth}
use Rattle.dpc_model.specs.Words.{Word}
use Rattle.dpc_model.specs.Formula as formula
use Rattle.dpc_model.specs.Formula.{Formula}
use Rattle.dpc_model.specs.declared.expressions.BinOp.{BinOp}
use Rattle.dpc_model.specs.declared.expressions.BinOp.TheVariants.{Add, Sub, Mul, Min, Max, Lt, Le, Gt, Ge, Eq, Ne, And, Or}
use Rattle.dpc_model.specs.declared.operators.Agg.{Agg}
use Rattle.dpc_model.specs.declared.operators.Agg.TheVariants as agg
use Rattle.script_rules.specs.Spelling.{column_of, looks_like_value, value}
use Rattle.script_rules.specs.Keywords.{looked_up}

-- ---- expressions, operator first

-- what a word of an expression is: an expression by itself, or an operator on those behind it
pub data Symbol : Type 0 where
  Whole : (e : Formula) → Symbol
  One : (make : Formula → Formula) → Symbol
  Two : (op : BinOp) → Symbol
  Three : Symbol
  Foreign : Symbol

abbrev pub symbols : List (Word × Symbol)
symbols =
    (codes "time", Whole formula.Time) ∷ (codes "neg", One formula.Neg) ∷ (codes "not", One formula.Not) ∷ (codes "add", Two Add) ∷ (codes "sub", Two Sub)
    ∷ (codes "mul", Two Mul) ∷ (codes "min", Two Min) ∷ (codes "max", Two Max) ∷ (codes "lt", Two Lt) ∷ (codes "le", Two Le) ∷ (codes "gt", Two Gt)
    ∷ (codes "ge", Two Ge) ∷ (codes "eq", Two Eq) ∷ (codes "ne", Two Ne) ∷ (codes "and", Two And) ∷ (codes "or", Two Or) ∷ (codes "if", Three) ∷ []

abbrev pub column_or_symbol : Option ℕ → Word → Symbol
column_or_symbol (Some c) w = Whole (formula.Col c)
column_or_symbol None w = unwrap_or (looked_up symbols w) Foreign

abbrev pub symbol_of : Word → Symbol
symbol_of w = if looks_like_value w then Whole (formula.Num (value w)) else column_or_symbol (column_of w) w

abbrev pub operands : Symbol → ℕ
operands (Whole e) = 0
operands (One make) = 1
operands (Two op) = 2
operands Three = 3
operands Foreign = 0

abbrev pub is_foreign_symbol : Symbol → Bool
is_foreign_symbol Foreign = true
is_foreign_symbol _ = false

-- an operator takes its operands from the expressions behind it
abbrev pub applied : Symbol → List Formula → List Formula
applied (Whole e) es = e ∷ es
applied (One make) (e ∷ es) = make e ∷ es
applied (Two op) (d ∷ e ∷ es) = formula.Bin op d e ∷ es
applied Three (c ∷ d ∷ e ∷ es) = formula.If c d e ∷ es
applied _ _ = []

-- the expressions that words are, one behind another
abbrev pub formulas : List Word → List Formula
formulas [] = []
formulas (w ∷ ws) = applied (symbol_of w) (formulas ws)

-- the expression that words are
abbrev pub formula_of : List Word → Formula
formula_of words = nth formula.Time (formulas words) 0

-- ---- aggregates

-- what a word makes of the column behind it
abbrev pub aggregates : List (Word × (ℕ → Agg))
aggregates = (codes "count", λ c. agg.Count) ∷ (codes "sum", agg.Sum) ∷ (codes "min", agg.Min) ∷ (codes "max", agg.Max) ∷ []

-- each word but a column begins an aggregate, of the column that is named behind it
abbrev pub aggs_of : List Word → List Agg
aggs_of [] = []
aggs_of (w ∷ ws) =
    option_to_list (option_map (λ (make : ℕ → Agg). make (unwrap_or (column_of (nth [] ws 0)) 0)) (looked_up aggregates w)) ++ aggs_of ws
