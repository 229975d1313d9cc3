-- The lines of a journal's entries, and the entries that lines are.
use Rattle.std.specs.Prelude.{ℕ, ◌^◌, nat_lt, ◌&&◌, Bool, true, false, List, [], ◌∷◌, Option, Some, None, if◌then◌else◌, option_map, codes, decimal, bytes_eq}
use Rattle.dpc_model.specs.Words.{Word}
use Rattle.dpc_model.specs.Actors.{role_of}
use Rattle.dpc_model.specs.ScriptText.{actor_name}
use Rattle.dpc_model.specs.declared.messages.Event.{Event}
use Rattle.dpc_model.specs.declared.messages.Event.TheVariants.{Phase, Emit, Release, Cut, Heal, Crash, Restart, Deliver, Tick, Mill}
use Rattle.dpc_model.specs.declared.plans.Plan.{Plan}
use Rattle.script_rules.specs.Lines.{pieces}
use Rattle.script_words.specs.Numbers.{u64_of}
use Rattle.journal_text.specs.Actors.{actor_of, is_of}
use Rattle.journal_text.specs.declared.sorts.Sort.TheVariants.{Source, Node, Any}

-- ---- an entry's words

abbrev pub entry_words : Plan → Event → List Word
entry_words plan (Phase p) = codes "phase" ∷ decimal p ∷ []
entry_words plan (Emit s t) = codes "emit" ∷ actor_name plan s ∷ decimal t ∷ []
entry_words plan (Release s t) = codes "release" ∷ actor_name plan s ∷ decimal t ∷ []
entry_words plan (Cut a b) = codes "cut" ∷ actor_name plan a ∷ actor_name plan b ∷ []
entry_words plan (Heal a b) = codes "heal" ∷ actor_name plan a ∷ actor_name plan b ∷ []
entry_words plan (Crash n) = codes "crash" ∷ actor_name plan n ∷ []
entry_words plan (Restart n inc) = codes "restart" ∷ actor_name plan n ∷ decimal inc ∷ []
entry_words plan (Deliver k) = codes "deliver" ∷ decimal k ∷ []
entry_words plan (Tick a now) = codes "tick" ∷ actor_name plan a ∷ decimal now ∷ []
entry_words plan (Mill n r) = codes "mill" ∷ actor_name plan n ∷ decimal r ∷ []

-- ---- the entry that a line is

abbrev pub both : {A B : Type 0} → Option A → Option B → Option (A × B)
both (Some x) (Some y) = Some (x, y)
both _ _ = None

-- a word, and one behind it
abbrev pub entry_of_two : Plan → Word → Word → Option Event
entry_of_two plan w a =
    if bytes_eq w (codes "deliver") then option_map Deliver (u64_of a)
    else if bytes_eq w (codes "phase") then option_map Phase (u64_of a)
    else if bytes_eq w (codes "crash") then option_map Crash (actor_of plan Node a)
    else None

-- a word, and two behind it
abbrev pub entry_of_three : Plan → Word → Word → Word → Option Event
entry_of_three plan w a b =
    if bytes_eq w (codes "tick") then option_map (λ (x : ℕ × ℕ). Tick x.0 x.1) (both (actor_of plan Any a) (u64_of b))
    else if bytes_eq w (codes "mill") then option_map (λ (x : ℕ × ℕ). Mill x.0 x.1) (both (actor_of plan Node a) (u64_of b))
    else if bytes_eq w (codes "emit") then option_map (λ (x : ℕ × ℕ). Emit x.0 x.1) (both (actor_of plan Source a) (u64_of b))
    else if bytes_eq w (codes "release") then option_map (λ (x : ℕ × ℕ). Release x.0 x.1) (both (actor_of plan Source a) (u64_of b))
    else if bytes_eq w (codes "cut") then option_map (λ (x : ℕ × ℕ). Cut x.0 x.1) (both (actor_of plan Any a) (actor_of plan Any b))
    else if bytes_eq w (codes "heal") then option_map (λ (x : ℕ × ℕ). Heal x.0 x.1) (both (actor_of plan Any a) (actor_of plan Any b))
    else if bytes_eq w (codes "restart") then option_map (λ (x : ℕ × ℕ). Restart x.0 x.1) (both (actor_of plan Node a) (u64_of b))
    else None

abbrev pub entry_of_words : Plan → List Word → Option Event
entry_of_words plan (w ∷ a ∷ []) = entry_of_two plan w a
entry_of_words plan (w ∷ a ∷ b ∷ []) = entry_of_three plan w a b
entry_of_words plan _ = None

-- the entry that a line is; its words are separated by one space
abbrev pub entry_of : Plan → List ℕ → Option Event
entry_of plan line = entry_of_words plan (pieces 32 line)

-- neither two words nor three
abbrev pub is_of_other_length : List Word → Bool
is_of_other_length (w ∷ a ∷ []) = false
is_of_other_length (w ∷ a ∷ b ∷ []) = false
is_of_other_length _ = true

-- ---- an entry that names actors of its form's sorts

abbrev pub is_named : Plan → Event → Bool
is_named plan (Phase p) = true
is_named plan (Emit s t) = is_of Source (role_of plan s)
is_named plan (Release s t) = is_of Source (role_of plan s)
is_named plan (Cut a b) = is_of Any (role_of plan a) && is_of Any (role_of plan b)
is_named plan (Heal a b) = is_of Any (role_of plan a) && is_of Any (role_of plan b)
is_named plan (Crash n) = is_of Node (role_of plan n)
is_named plan (Restart n inc) = is_of Node (role_of plan n)
is_named plan (Deliver k) = true
is_named plan (Tick a now) = is_of Any (role_of plan a)
is_named plan (Mill n r) = is_of Node (role_of plan n)

-- its numbers are those of u64
abbrev pub has_small_numbers : Event → Bool
has_small_numbers (Phase p) = nat_lt p (2 ^ 64)
has_small_numbers (Emit s t) = nat_lt t (2 ^ 64)
has_small_numbers (Release s t) = nat_lt t (2 ^ 64)
has_small_numbers (Cut a b) = true
has_small_numbers (Heal a b) = true
has_small_numbers (Crash n) = true
has_small_numbers (Restart n inc) = nat_lt inc (2 ^ 64)
has_small_numbers (Deliver k) = nat_lt k (2 ^ 64)
has_small_numbers (Tick a now) = nat_lt now (2 ^ 64)
has_small_numbers (Mill n r) = nat_lt r (2 ^ 64)
