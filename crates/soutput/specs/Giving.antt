-- What an output gives its readers, on what contracts see of it.
use Rattle.std.specs.Prelude.{◌≡◌, ℕ, ◌+◌, ◌-◌, ◌^◌, ◌<◌, Bool, true, false, not, ◌&&◌, is_none, nat_lt, List, [], ◌∷◌, ◌++◌, length, drop, Option, Some, None, unwrap_or, option_map, map, replicate}
use Rattle.dpc_lists.specs.Lists.{nth, changed, list_all, is_nil}
use Rattle.dpc_model.specs.Parts.{Stream, shown_of}
use Rattle.dpc_model.specs.PartStands.{OutputValue}
use Rattle.dpc_model.specs.Sessions.{no_session, with_session_shut, base_after, Given, given_items, with_batches, Answered, answer_to}
use Rattle.dpc_model.specs.declared.sessions.Sub.{Sub}
use Rattle.dpc_model.specs.declared.tuples.Tuple.{Tuple}
use Rattle.dpc_model.specs.declared.tuples.Item.{Item}
use Rattle.dpc_model.specs.declared.messages.Subscribe.{Subscribe}
use Rattle.dpc_model.specs.declared.messages.Message.{Message}
use Rattle.dpc_model.specs.declared.messages.Message.TheVariants as message
use Rattle.dpc_model.specs.declared.messages.Sess.{Sess}
use Rattle.soutput.specs.declared.fresh.Fresh.{Fresh}

-- an output to so many readers, none of which has a session or acknowledged anything
abbrev pub new_output : ℕ → ℕ → List Tuple → ℕ → OutputValue
new_output readers base kept bound =
    record {
      count = base + length kept;
      kept = kept;
      base = base;
      bound = bound;
      tentative = [];
      passed = None;
      subs = replicate readers no_session;
      acks = replicate readers (0, 0);
    }

-- an output that begins anew: no session is open any more, and nothing is acknowledged
abbrev pub restarted_output : ℕ → List Tuple → ℕ → OutputValue → OutputValue
restarted_output base kept bound v =
    record {
      count = base + length kept;
      kept = kept;
      base = base;
      bound = bound;
      tentative = [];
      passed = None;
      subs = map with_session_shut v.subs;
      acks = map (λ _. (0, 0)) v.acks;
    }

-- the base follows the acknowledgements, and no tuple before it is kept
abbrev pub with_base_after : OutputValue → OutputValue
with_base_after v = let base = base_after v.base v.acks v.count in record v { base = base; kept = drop (base - v.base) v.kept }

-- ---- giving

-- what is new of the output, behind so many stable tuples
abbrev pub given_behind : ℕ → Fresh → Given
given_behind count new =
    record {
      stable = new.stable;
      bound = option_map (λ b. (b, count + length new.stable)) new.bound;
      tentative = new.tentative;
      passed = new.passed;
      done = new.done;
    }

abbrev pub only_stable : List Tuple → ℕ → Fresh
only_stable ts b = record { stable = ts; bound = Some b; tentative = []; passed = None; done = false }

abbrev pub only_tentative : List Tuple → Fresh
only_tentative ts = record { stable = []; bound = None; tentative = ts; passed = None; done = false }

-- its items
abbrev pub fresh_items : OutputValue → Fresh → List Item
fresh_items v new = given_items v.count (given_behind v.count new)

-- nothing is new
abbrev pub is_nothing : Fresh → Bool
is_nothing new = is_nil new.stable && is_none new.bound && is_nil new.tentative && is_none new.passed && not new.done

-- the batch of these items to the k-th reader, where its session is open
abbrev pub batch_to : ℕ → List Item → Option (Sess × ℕ) → List (ℕ × Message)
batch_to k items None = []
batch_to k items (Some l) = (k, message.Batch l.0 l.1 items) ∷ []

-- these items go in one batch to each open session
abbrev pub with_batch_of : List Item → OutputValue → OutputValue
with_batch_of items v = record v { subs = with_batches items v.subs }

-- the output with what is new
abbrev pub with_fresh : Fresh → OutputValue → OutputValue
with_fresh new v =
    record v {
      count = v.count + length new.stable;
      kept = v.kept ++ new.stable;
      bound = unwrap_or new.bound v.bound;
      tentative = v.tentative ++ new.tentative;
      passed = elim new.passed [ None ↦ v.passed | Some b ↦ Some b ];
    }

abbrev pub after_giving : Fresh → OutputValue → OutputValue
after_giving new v = with_base_after (with_batch_of (fresh_items v new) (with_fresh new v))

-- the tentative output is taken back
abbrev pub without_tentative : OutputValue → OutputValue
without_tentative v = record v { tentative = []; passed = None }

-- by one more batch and so many more tuples no number passes the range
pub record HasRoom (v : OutputValue) (tuples : ℕ) : Type 0 where
  pub count : v.count + tuples < 2 ^ 64
  pub batches : list_all (λ (s : Sub). nat_lt (s.batches + 1) (2 ^ 64)) v.subs ≡ true

-- ---- answering

-- the stream with the tuples before the base in their place
abbrev pub stream_behind : List Tuple → OutputValue → Stream
stream_behind gone v = record { stable = gone ++ v.kept; bound = v.bound; tentative = v.tentative; passed = v.passed }

-- the answer to a reader's subscription
abbrev pub answer_behind : List Tuple → OutputValue → Bool → ℕ → Subscribe → Answered
answer_behind gone v stable_now reader asked = answer_to (shown_of (stream_behind gone v) v.base stable_now) (nth no_session v.subs reader) asked

-- a subscription leaves its session and is answered as the definition says, whatever the tuples before the base were
pub record IsAnswered (stable_now : Bool) (reader : ℕ) (asked : Subscribe) (old new : OutputValue) (told : Option Message) : Type 0 where
  pub after : (gone : List Tuple) → length gone ≡ old.base → new ≡ record old { subs = changed reader (λ _. (answer_behind gone old stable_now reader asked).after) old.subs }
  pub answer : (gone : List Tuple) → length gone ≡ old.base → told ≡ (answer_behind gone old stable_now reader asked).answer
