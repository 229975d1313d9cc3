-- What contracts see of a source.
use Rattle.std.specs.Prelude.{◌≡◌, ℕ, ◌+◌, ◌^◌, ◌<◌, ◌≤◌, Bool, true, false, ◌&&◌, nat_lt, nat_le, is_none, if◌then◌else◌, List, [], ◌++◌, map, length, drop, take, Option, None}
use Rattle.dpc_lists.specs.Lists.{list_all}
use Rattle.dpc_model.specs.Streams.{InOrder}
use Rattle.dpc_model.specs.Fragments.{log_of}
use Rattle.dpc_model.specs.Sessions.{Given, with_batch, item_if, stable_items, boundary_item}
use Rattle.dpc_model.specs.declared.sessions.Sub.{Sub}
use Rattle.dpc_model.specs.declared.tuples.Tuple.{Tuple}
use Rattle.dpc_model.specs.declared.tuples.Item.{Item}
use Rattle.dpc_model.specs.declared.tuples.Item.TheVariants.{Undo, RecDone}
use Rattle.dpc_model.specs.declared.messages.Subscribe.{Subscribe}
use Rattle.dpc_model.specs.declared.plans.Plan.{Plan}
use Rattle.node_model.specs.Mails.{Stepped}
use Rattle.node_model.specs.Sources.{SourceState, source_readers, new_source}

-- a source by its number, its readers as actors, and its state
pub record SourceValue : Type 0 where
  pub number : ℕ
  pub readers : List ℕ
  pub state : SourceState

-- the source of that number at the opening
abbrev pub opening_source : Plan → ℕ → SourceValue
opening_source plan s = record { number = s; readers = source_readers plan s; state = new_source plan s }

-- a source of this plan, which emitted no more than it logs
pub record IsSourceOf (plan : Plan) (v : SourceValue) : Type 0 where
  pub number : v.number < length plan.sources
  pub readers : v.readers ≡ source_readers plan v.number
  pub in_order : InOrder (log_of plan v.number)
  pub emitted : v.state.emitted ≤ length (log_of plan v.number)

-- each session can count one batch more
abbrev pub HasRoom : SourceValue → Type 0
HasRoom v = list_all (λ (s : Sub). nat_lt (s.batches + 1) (2 ^ 64)) v.state.subs ≡ true

-- the source after a step
abbrev pub after_step : SourceValue → Stepped SourceState → SourceValue
after_step v step = record v { state = step.after }

-- the logged tuples from a number on and below another, and perhaps a boundary
abbrev pub given_upto : List Tuple → ℕ → ℕ → Option (ℕ × ℕ) → Given
given_upto log first upto bound = record { stable = drop first (take upto log); bound = bound; tentative = []; passed = None; done = false }

-- there is none, and no boundary
abbrev pub is_nothing : ℕ → ℕ → Option (ℕ × ℕ) → Bool
is_nothing first upto bound = nat_le upto first && is_none bound

-- so much is emitted, and each open session counts one batch more, where one was given
abbrev pub with_emitted : ℕ → Bool → SourceValue → SourceValue
with_emitted upto is_given v = record v { state = record v.state { emitted = upto; subs = if is_given then map with_batch v.state.subs else v.state.subs } }

-- the items of a first batch: these tuples, as those from the number on that is asked for, and perhaps a boundary
abbrev pub opening_items : Subscribe → List Tuple → Option (ℕ × ℕ) → List Item
opening_items asked tuples bound =
    item_if asked.tentative (Undo asked.n) ++ stable_items asked.n tuples ++ boundary_item bound ++ item_if (asked.tentative && true) RecDone
