-- The client and the items that a recorded stream is.
use Rattle.std.specs.Prelude.{⊤, ◌≡◌, ℕ, ◌^◌, ℤ, Bool, true, ◌&&◌, nat_lt, nat_le, if◌then◌else◌, List, [], ◌∷◌, ◌++◌, map, length, take, drop, Option, Some, None, Result, Ok, Err, option_map, codes, bytes_eq, Vec}
use Rattle.std.specs.declared.alloc.Global.{Global}
use Rattle.dpc_lists.specs.Lists.{is_nil}
use Rattle.dpc_model.specs.Operators.{tuple_of}
use Rattle.dpc_model.specs.Words.{Word}
use Rattle.dpc_model.specs.declared.plans.ClientSpec.{ClientSpec}
use Rattle.dpc_model.specs.declared.plans.Plan.{Plan}
use Rattle.dpc_model.specs.declared.tuples.Item.{Item}
use Rattle.dpc_model.specs.declared.tuples.Item.TheVariants.{Stable, Tentative, Passed, Boundary, Undo, RecDone}
use Rattle.dpc_model.specs.declared.tuples.Tuple.{Tuple}
use Rattle.script_rules.specs.Drafts.{place_of_name}
use Rattle.script_rules.specs.Lines.{lines_of, pieces}
use Rattle.script_words.specs.Numbers.{u64_of, i64_of}
use Rattle.script_words.specs.Options.{◌>>=◌, given}
use Rattle.input_parts.specs.Openings.{first_line, behind_line}
use Rattle.frame_lists.specs.Lists.{item_in, parts_of}
use Rattle.stream_codec.specs.Frames.{is_in_range}
use Rattle.stream_codec.specs.declared.frames.Frame.TheVariants as frame
use Rattle.recorded_streams.specs.declared.faults.StreamFault.{StreamFault}
use Rattle.recorded_streams.specs.declared.faults.StreamFault.TheVariants.{NoMemory, NoItem}

-- ---- the item that words are

abbrev pub values_in : List Word → Option (List ℤ)
values_in [] = Some []
values_in (w ∷ ws) = i64_of w >>= (λ z. option_map (λ zs. z ∷ zs) (values_in ws))

-- a time and values
abbrev pub tuple_in : List Word → Option Tuple
tuple_in [] = None
tuple_in (w ∷ ws) = u64_of w >>= (λ time. option_map (tuple_of time) (values_in ws))

abbrev pub number_in : List Word → Option ℕ
number_in (w ∷ []) = u64_of w
number_in _ = None

abbrev pub stable_in : List Word → Option Item
stable_in [] = None
stable_in (w ∷ ws) = u64_of w >>= (λ k. option_map (Stable k) (tuple_in ws))

abbrev pub boundary_in : List Word → Option Item
boundary_in (b ∷ m ∷ []) = u64_of b >>= (λ bound. option_map (Boundary bound) (u64_of m))
boundary_in _ = None

abbrev pub item_of_words : Word → List Word → Option Item
item_of_words w ws =
    if bytes_eq w (codes "stable") then stable_in ws
    else if bytes_eq w (codes "tentative") then option_map Tentative (tuple_in ws)
    else if bytes_eq w (codes "boundary") then boundary_in ws
    else if bytes_eq w (codes "undo") then option_map Undo (number_in ws)
    else if bytes_eq w (codes "passed") then option_map Passed (number_in ws)
    else if bytes_eq w (codes "rec_done") then given (is_nil ws) RecDone
    else None

-- what tells how far tentative output goes is an item where the plan has passing
abbrev pub is_of_plan : Bool → Item → Bool
is_of_plan passing (Passed b) = passing
is_of_plan passing _ = true

-- a tuple's time is in range, and it has 1 to 8 values
abbrev pub tuple_fits : Tuple → Bool
tuple_fits t = nat_lt t.stime (2 ^ 62) && (nat_le 1 (length t.vals) && nat_le (length t.vals) 8)

-- its numbers are in the ranges of frames, and a tuple has 1 to 8 values
abbrev pub may_stand : Bool → Item → Bool
may_stand passing i = is_of_plan passing i && is_in_range (frame.Item i)

abbrev pub item_in_words : Bool → List Word → Option Item
item_in_words passing [] = None
item_in_words passing (w ∷ ws) = item_of_words w ws >>= (λ i. given (may_stand passing i) i)

-- the item that a line is; its words are separated by one space
abbrev pub item_of : Bool → List ℕ → Option Item
item_of passing line = item_in_words passing (pieces 32 line)

-- ---- the first line

abbrev pub client_named : Plan → Word → Option ℕ
client_named plan name = place_of_name name (map (λ (c : ClientSpec). c.name) plan.clients)

-- a key, a space and a client's name
abbrev pub client_behind : Word → Plan → List ℕ → Option ℕ
client_behind key plan line =
    if bytes_eq (take (length key) line) key then client_named plan (drop (length key) line) else None

-- ---- in lines

-- behind the last line
abbrev pub concluded : List Item → List (List ℕ) → Result (List Item) ℕ
concluded items lines = if is_nil lines then Ok items else Err (length items)

-- the items that lines are up to the last one, behind those before; or how many stand in front of the first line that may not stand
-- where it stands, or of the end
abbrev pub items_of_lines : Bool → List Item → List (List ℕ) → Result (List Item) ℕ
items_of_lines passing items [] = Err (length items)
items_of_lines passing items (line ∷ lines) =
    if bytes_eq line (codes "stream end") then concluded items lines
    else (elim (item_of passing line) [
      | None ↦ Err (length items)
      | Some i ↦ items_of_lines passing (items ++ i ∷ []) lines
    ])

abbrev pub of_client : Option ℕ → Result (List Item) ℕ → Result (ℕ × List Item) ℕ
of_client None items = Err 0
of_client (Some c) (Ok items) = Ok (c, items)
of_client (Some c) (Err n) = Err n

abbrev pub stream_of_lines : Plan → List (List ℕ) → Result (ℕ × List Item) ℕ
stream_of_lines plan [] = Err 0
stream_of_lines plan (line ∷ lines) = of_client (client_behind (codes "stream ") plan line) (items_of_lines plan.passing [] lines)

-- the client and the items that a text is
unfoldable pub stream_of : Plan → List ℕ → Result (ℕ × List Item) ℕ
stream_of plan text = stream_of_lines plan (lines_of text)

-- ---- in frames

-- the client and the items that a line and the frames behind it are
unfoldable pub framed_stream_of : Plan → List ℕ → Result (ℕ × List Item) ℕ
framed_stream_of plan bytes =
    of_client (client_behind (codes "frames ") plan (first_line bytes)) (parts_of (item_in plan.passing) (behind_line bytes))

-- ---- what code answers

abbrev pub IsStream : Result (ℕ × List Item) ℕ → Result (ℕ × Vec Item Global) StreamFault → Type 0
IsStream told (Ok x) = told ≡ Ok (x.0, x.1.items)
IsStream told (Err NoMemory) = ⊤
IsStream told (Err (NoItem n)) = told ≡ Err n

abbrev pub IsItems : Result (List Item) ℕ → Result (Vec Item Global) StreamFault → Type 0
IsItems told (Ok items) = told ≡ Ok items.items
IsItems told (Err NoMemory) = ⊤
IsItems told (Err (NoItem n)) = told ≡ Err n
