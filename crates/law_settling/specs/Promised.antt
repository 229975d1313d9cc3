-- Promises to asks that are over.
use Rattle.std.specs.Prelude.{◌≡◌, ℕ, ◌+◌, ◌<◌, ◌≤◌, false, IsTrue, List, ◌++◌, length, Some}
use Rattle.dpc_model.specs.Actors.{role_of}
use Rattle.dpc_model.specs.Granting.{Key, key_le}
use Rattle.dpc_model.specs.declared.actors.Role.TheVariants.{Node as IsNode}
use Rattle.dpc_model.specs.declared.messages.Event.{Event}
use Rattle.dpc_model.specs.declared.plans.Plan.{Plan}
use Rattle.dpc_model.specs.declared.scripts.Script.{Script}
use Rattle.node_model.specs.Nodes.{PlainNode}
use Rattle.world_model.specs.Worlds.{World, slot_of, run}
use Rattle.world_model.specs.Schedules.{is_live}
use Rattle.world_model.specs.Steady.{OpensWell}
use Rattle.law_granting.specs.Asking.{IsOver}
use Rattle.law_schedules.specs.Journals.{phases_in}
use Rattle.law_readers.specs.Settling.{CanSettle}

-- no replica of the fragment has a promise to this one's ask, or to an earlier one
abbrev pub NonePromised : Plan → World → ℕ → ℕ → Key → Type 0
NonePromised plan w f q key =
    (b r : ℕ) (n : PlainNode) (p : ℕ × Key) → role_of plan b ≡ IsNode f r → (slot_of w b).node ≡ Some n → n.grants.promise ≡ Some p → p.0 ≡ q → key_le p.1 key ≡ false

-- an ask that is over in a quiet phase of a live run: once the next two phases have passed whole, no promise is to it any more
abbrev pub OverPromisesEnd : Script → List Event → Type 0
OverPromisesEnd script events =
    CanSettle script → IsTrue (is_live script events) → OpensWell script events →
    (before mid rest : List Event) → events ≡ before ++ (mid ++ rest) → length script.phases < phases_in before → phases_in before + 3 ≤ phases_in (before ++ mid) →
    (a f q : ℕ) (key : Key) → role_of script.plan a ≡ IsNode f q → IsOver (slot_of (run script.plan before) a) key → NonePromised script.plan (run script.plan (before ++ mid)) f q key
