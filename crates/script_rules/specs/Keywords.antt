-- The first words of lines.
use Rattle.std.specs.Prelude.{ℕ, ◌==◌, if◌then◌else◌, List, [], ◌∷◌, ◌++◌, Option, find, option_map, codes, bytes_eq}
use Rattle.dpc_model.specs.Words.{Word}
use Rattle.script_rules.specs.declared.keywords.Keyword.{Keyword}
use Rattle.script_rules.specs.declared.keywords.Keyword.TheVariants.{Header, Source, Log, Fragment, Patience, Filter, Map, Union, Join, Aggregate, Client, Begin, Emit, Release, Cut, Heal, Lose, Repeat, Crash, Restart, Tick, Settle}

-- what stands beside a word in a table
abbrev pub looked_up : {A : Type 0} → List (Word × A) → Word → Option A
looked_up table w = option_map (λ row. row.1) (find (λ row. bytes_eq row.0 w) table)

abbrev pub keywords : List (Word × Keyword)
keywords =
    (codes "borealis", Header 0) ∷ (codes "width", Header 1) ∷ (codes "delay", Header 2) ∷ (codes "end", Header 3) ∷ (codes "source", Source) ∷ (codes "log", Log)
    ∷ (codes "fragment", Fragment) ∷ (codes "filter", Filter) ∷ (codes "map", Map) ∷ (codes "union", Union) ∷ (codes "join", Join)
    ∷ (codes "aggregate", Aggregate) ∷ (codes "client", Client) ∷ (codes "begin", Begin) ∷ (codes "emit", Emit) ∷ (codes "release", Release)
    ∷ (codes "cut", Cut) ∷ (codes "heal", Heal) ∷ (codes "lose", Lose) ∷ (codes "repeat", Repeat) ∷ (codes "crash", Crash) ∷ (codes "restart", Restart)
    ∷ (codes "tick", Tick) ∷ (codes "settle", Settle) ∷ []

-- those of version 3 alone
abbrev pub late_keywords : List (Word × Keyword)
late_keywords = (codes "passing", Header 4) ∷ (codes "patience", Patience) ∷ []

abbrev pub keyword_of : ℕ → Word → Option Keyword
keyword_of version w = looked_up (if version == 3 then keywords ++ late_keywords else keywords) w
