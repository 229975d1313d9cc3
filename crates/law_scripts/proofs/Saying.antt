-- The words of a statement's line.
use Rattle.std.proofs.Common.{◌≡◌, ℕ, Bool, true, false, List, [], ◌∷◌, ◌++◌, map, Some, refl}
use Rattle.std.specs.Prelude.{◌==◌, nat_lt, codes, if◌then◌else◌}
use Rattle.std.specs.Fmt.{decimal, signed_decimal}
use Rattle.dpc_lists.specs.Lists.{nth}
use Rattle.dpc_model.specs.Words.{Word}
use Rattle.dpc_model.specs.ScriptText.{kind_word, kind_words}
use Rattle.dpc_model.specs.declared.scripts.Directive.{Directive}
use Rattle.dpc_model.specs.declared.scripts.Directive.TheVariants.{Emit, Release, Cut, Heal, Lose, Repeat, Crash, Restart}
use Rattle.script_rules.specs.declared.keywords.Keyword.{Keyword}
use Rattle.script_rules.specs.declared.keywords.Keyword.TheVariants as key
use Rattle.script_rules.specs.Keywords.{looked_up, keywords, late_keywords, keyword_of}
use Rattle.script_rules.specs.Statements.{Statement, HeaderLine, SourceLine, LogLine, FragmentLine, PatienceLine, OperatorLine, ClientLine, BeginLine, SendLine, LinkLine, NodeLine, TickLine, SettleLine}
use Rattle.law_scripts.proofs.Written.{EachRow, looked}

abbrev pub header_word : ℕ → Word
header_word place = nth [] (codes "borealis" ∷ codes "width" ∷ codes "delay" ∷ codes "end" ∷ codes "passing" ∷ []) place

abbrev pub directive_word : Directive → Word
directive_word (Emit s t) = codes "emit"
directive_word (Release s t) = codes "release"
directive_word (Cut a b) = codes "cut"
directive_word (Heal a b) = codes "heal"
directive_word (Lose a b) = codes "lose"
directive_word (Repeat a b) = codes "repeat"
directive_word (Crash a) = codes "crash"
directive_word (Restart a) = codes "restart"

-- the words of the line that says a statement
abbrev pub words_said : Statement → List Word
words_said (HeaderLine place number) = header_word place ∷ decimal number ∷ []
words_said (SourceLine name columns) = codes "source" ∷ name ∷ decimal columns ∷ []
words_said (LogLine source time vals) = codes "log" ∷ source ∷ decimal time ∷ map signed_decimal vals
words_said (FragmentLine name replicas streams) = codes "fragment" ∷ name ∷ decimal replicas ∷ streams
words_said (PatienceLine delay) = codes "patience" ∷ decimal delay ∷ []
words_said (OperatorLine name inputs kind) = kind_word kind ∷ name ∷ (inputs ++ kind_words kind)
words_said (ClientLine name stream) = codes "client" ∷ name ∷ stream ∷ []
words_said BeginLine = codes "begin" ∷ []
words_said (SendLine make source time) = directive_word (make 0 0) ∷ source ∷ decimal time ∷ []
words_said (LinkLine make a b) = directive_word (make 0 0) ∷ a ∷ b ∷ []
words_said (NodeLine crash node) = (if crash then codes "crash" else codes "restart") ∷ node ∷ []
words_said (TickLine now) = codes "tick" ∷ decimal now ∷ []
words_said SettleLine = codes "settle" ∷ []

-- ---- first words

abbrev pub keyword_word : Keyword → Word
keyword_word (key.Header place) = header_word place
keyword_word key.Source = codes "source"
keyword_word key.Log = codes "log"
keyword_word key.Fragment = codes "fragment"
keyword_word key.Patience = codes "patience"
keyword_word key.Filter = codes "filter"
keyword_word key.Map = codes "map"
keyword_word key.Union = codes "union"
keyword_word key.Join = codes "join"
keyword_word key.Aggregate = codes "aggregate"
keyword_word key.Client = codes "client"
keyword_word key.Begin = codes "begin"
keyword_word key.Emit = codes "emit"
keyword_word key.Release = codes "release"
keyword_word key.Cut = codes "cut"
keyword_word key.Heal = codes "heal"
keyword_word key.Lose = codes "lose"
keyword_word key.Repeat = codes "repeat"
keyword_word key.Crash = codes "crash"
keyword_word key.Restart = codes "restart"
keyword_word key.Tick = codes "tick"
keyword_word key.Settle = codes "settle"

-- the header has at most five lines
abbrev pub is_keyword : Keyword → Bool
is_keyword (key.Header place) = nat_lt place 5
is_keyword _ = true

abbrev pub IsFirstWord : Word → Keyword → Type 0
IsFirstWord w k = (w ≡ keyword_word k) × (is_keyword k ≡ true)

each_keyword : EachRow IsFirstWord keywords
each_keyword =
    ((refl, refl), ((refl, refl), ((refl, refl), ((refl, refl), ((refl, refl), ((refl, refl), ((refl, refl), ((refl, refl), ((refl, refl), ((refl, refl), ((refl, refl), ((refl, refl), ((refl, refl), ((refl, refl), ((refl, refl), ((refl, refl), ((refl, refl), ((refl, refl), ((refl, refl), ((refl, refl), ((refl, refl), ((refl, refl), ((refl, refl), ((refl, refl), tt))))))))))))))))))))))))

each_late_keyword : EachRow IsFirstWord (keywords ++ late_keywords)
each_late_keyword =
    ((refl, refl), ((refl, refl), ((refl, refl), ((refl, refl), ((refl, refl), ((refl, refl), ((refl, refl), ((refl, refl), ((refl, refl), ((refl, refl), ((refl, refl), ((refl, refl), ((refl, refl), ((refl, refl), ((refl, refl), ((refl, refl), ((refl, refl), ((refl, refl), ((refl, refl), ((refl, refl), ((refl, refl), ((refl, refl), ((refl, refl), ((refl, refl), ((refl, refl), ((refl, refl), tt))))))))))))))))))))))))))

pub first_word : (version : ℕ) (w : Word) (k : Keyword) → keyword_of version w ≡ Some k → IsFirstWord w k
first_word version w k =
    elim (version == 3) as (λ t. looked_up (if t then keywords ++ late_keywords else keywords) w ≡ Some k → IsFirstWord w k) [
      | true ↦ λ e. looked IsFirstWord (keywords ++ late_keywords) w k each_late_keyword e
      | false ↦ λ e. looked IsFirstWord keywords w k each_keyword e
    ]
