-- What a line says, by its first word and the words behind it. Names are not looked up yet.
use Rattle.std.specs.Prelude.{ℕ, ℤ, Bool, true, false, List, [], ◌∷◌, map, drop}
use Rattle.dpc_lists.specs.Lists.{nth}
use Rattle.dpc_model.specs.Words.{Word}
use Rattle.dpc_model.specs.declared.operators.OpKind.{OpKind}
use Rattle.dpc_model.specs.declared.operators.OpKind.TheVariants as kind
use Rattle.dpc_model.specs.declared.scripts.Directive.{Directive}
use Rattle.dpc_model.specs.declared.scripts.Directive.TheVariants as directive
use Rattle.script_rules.specs.Spelling.{number, value, column_of}
use Rattle.script_rules.specs.Symbols.{formula_of, formulas, aggs_of}
use Rattle.script_rules.specs.declared.keywords.Keyword.{Keyword}
use Rattle.script_rules.specs.declared.keywords.Keyword.TheVariants.{Header, Source, Log, Fragment, Patience, Filter, Map, Union, Join, Aggregate, Client, Begin, Emit, Release, Cut, Heal, Lose, Repeat, Crash, Restart, Tick, Settle}

pub data Statement : Type 0 where
  HeaderLine : (place number : ℕ) → Statement
  SourceLine : (name : Word) → (columns : ℕ) → Statement
  LogLine : (source : Word) → (time : ℕ) → (vals : List ℤ) → Statement
  FragmentLine : (name : Word) → (replicas : ℕ) → (streams : List Word) → Statement
  PatienceLine : (delay : ℕ) → Statement
  OperatorLine : (name : Word) → (inputs : List Word) → (kind : OpKind) → Statement
  ClientLine : (name stream : Word) → Statement
  BeginLine : Statement
  SendLine : (make : ℕ → ℕ → Directive) → (source : Word) → (time : ℕ) → Statement
  LinkLine : (make : ℕ → ℕ → Directive) → (a b : Word) → Statement
  NodeLine : (crash : Bool) → (node : Word) → Statement
  TickLine : (now : ℕ) → Statement
  SettleLine : Statement

-- the word at a place, and the number that it is
abbrev pub word : List Word → ℕ → Word
word words i = nth [] words i

abbrev pub number_at : List Word → ℕ → ℕ
number_at words i = number (word words i)

-- numbers in pairs
abbrev pub pairs : List ℕ → List (ℕ × ℕ)
pairs (l ∷ r ∷ ns) = (l, r) ∷ pairs ns
pairs _ = []

-- what the words behind the first one say
abbrev pub statement_of : Keyword → List Word → Statement
statement_of (Header place) words = HeaderLine place (number_at words 0)
statement_of Source words = SourceLine (word words 0) (number_at words 1)
statement_of Log words = LogLine (word words 0) (number_at words 1) (map value (drop 2 words))
statement_of Fragment words = FragmentLine (word words 0) (number_at words 1) (drop 2 words)
statement_of Patience words = PatienceLine (number_at words 0)
statement_of Filter words = OperatorLine (word words 0) (word words 1 ∷ []) (kind.Filter (formula_of (drop 2 words)))
statement_of Map words = OperatorLine (word words 0) (word words 1 ∷ []) (kind.Map (formulas (drop 3 words)))
statement_of Union words = OperatorLine (word words 0) (drop 1 words) kind.Union
statement_of Join words =
    OperatorLine (word words 0) (word words 1 ∷ word words 2 ∷ []) (kind.Join (number_at words 3) (pairs (map number (drop 4 words))))
statement_of Aggregate words =
    OperatorLine (word words 0) (word words 1 ∷ [])
    (kind.Aggregate (number_at words 2) (number_at words 3) (column_of (word words 4)) (aggs_of (drop 5 words)))
statement_of Client words = ClientLine (word words 0) (word words 1)
statement_of Begin words = BeginLine
statement_of Emit words = SendLine directive.Emit (word words 0) (number_at words 1)
statement_of Release words = SendLine directive.Release (word words 0) (number_at words 1)
statement_of Cut words = LinkLine directive.Cut (word words 0) (word words 1)
statement_of Heal words = LinkLine directive.Heal (word words 0) (word words 1)
statement_of Lose words = LinkLine directive.Lose (word words 0) (word words 1)
statement_of Repeat words = LinkLine directive.Repeat (word words 0) (word words 1)
statement_of Crash words = NodeLine true (word words 0)
statement_of Restart words = NodeLine false (word words 0)
statement_of Tick words = TickLine (number_at words 0)
statement_of Settle words = SettleLine
