-- Every envelope sent is true: what some of the events keep of it.
use Rattle.std.proofs.Common.{◌≡◌, ℕ, ◌+◌, Bool, true, false, List, [], ◌∷◌, ◌++◌, Some, None, Option, refl, arith, slice_get, add-zero, suc}
use Rattle.dpc_model.specs.Streams.{cut}
use Rattle.dpc_model.specs.Fragments.{ideal, ideal_upto, log_of}
use Rattle.dpc_model.specs.Actors.{role_of}
use Rattle.dpc_model.specs.declared.tuples.Tuple.{Tuple}
use Rattle.dpc_model.specs.declared.tuples.Item.{Item}
use Rattle.dpc_model.specs.declared.tuples.Item.TheVariants.{RecDone}
use Rattle.dpc_model.specs.declared.messages.Sess.{Sess}
use Rattle.dpc_model.specs.declared.messages.Message.TheVariants as message
use Rattle.dpc_model.specs.declared.plans.Plan.{Plan}
use Rattle.dpc_model.specs.declared.plans.StreamRef.{StreamRef}
use Rattle.dpc_model.specs.declared.plans.StreamRef.TheVariants.{Source}
use Rattle.dpc_model.specs.Sessions.{Given, given_items, stable_items, boundary_item, tentative_items, passed_item, item_if}
use Rattle.node_model.specs.Mails.{Plain}
use Rattle.world_model.specs.Worlds.{Envelope}
use Rattle.world_model.specs.Safe.{AreTrueItems, IsTruePacket, AreTrue}

-- ---- events that send nothing

-- ---- an emit

-- tuples that are those of the stream from number k on make true items
pub stable_items-true : (plan : Plan) (s : StreamRef) (k : ℕ) (ts : List Tuple) →
    ((i : ℕ) (t : Tuple) → slice_get ts i ≡ Some t → slice_get (ideal plan s) (k + i) ≡ Some t) → AreTrueItems plan s (stable_items k ts)
stable_items-true plan s k [] h = tt
stable_items-true plan s k (t ∷ ts) h =
    (rw add-zero at (h 0 t refl), stable_items-true plan s (k + 1) ts (λ i u e. let same : k + 1 + i ≡ k + suc i = omega arith in rw same (h (suc i) u e)))

-- items in a row
pub AreTrueItems-append : (plan : Plan) (s : StreamRef) (xs ys : List Item) → AreTrueItems plan s xs → AreTrueItems plan s ys → AreTrueItems plan s (xs ++ ys)
AreTrueItems-append plan s [] ys h k = k
AreTrueItems-append plan s (x ∷ xs) ys h k = (h.0, AreTrueItems-append plan s xs ys h.1 k)

-- tentative items, how far they go, and RecDone are always true
pub tentative_items-true : (plan : Plan) (s : StreamRef) (ts : List Tuple) → AreTrueItems plan s (tentative_items ts)
tentative_items-true plan s [] = tt
tentative_items-true plan s (t ∷ ts) = (tt, tentative_items-true plan s ts)

pub passed_item-true : (plan : Plan) (s : StreamRef) (b : Option ℕ) → AreTrueItems plan s (passed_item b)
passed_item-true plan s None = tt
passed_item-true plan s (Some b) = (tt, tt)

pub done_item-true : (plan : Plan) (s : StreamRef) (b : Bool) → AreTrueItems plan s (item_if b RecDone)
done_item-true plan s true = (tt, tt)
done_item-true plan s false = tt

-- what an event gives is true where its stable items and its boundary are
pub given_items-true : (plan : Plan) (s : StreamRef) (count : ℕ) (g : Given) → AreTrueItems plan s (stable_items count g.stable) → AreTrueItems plan s (boundary_item g.bound) →
    AreTrueItems plan s (given_items count g)
given_items-true plan s count g h k =
    let joined = AreTrueItems-append plan s in
    joined _ _ (joined _ _ (joined _ _ (joined (stable_items count g.stable) (boundary_item g.bound) h k) (tentative_items-true plan s g.tentative))
    (passed_item-true plan s g.passed)) (done_item-true plan s g.done)

pub AreTrue-append : (plan : Plan) (es fs : List Envelope) → AreTrue plan es → AreTrue plan fs → AreTrue plan (es ++ fs)
AreTrue-append plan [] fs h k = k
AreTrue-append plan (e ∷ es) fs h k = (h.0, AreTrue-append plan es fs h.1 k)

-- an actor sends a stream: its batches are true where their items are
abbrev pub Sends : Plan → ℕ → StreamRef → Type 0
Sends plan a s = (u : Sess) (index : ℕ) (items : List Item) → AreTrueItems plan s items → IsTruePacket plan (role_of plan a) (Plain (message.Batch u index items))

-- a log's tuples are the failure-free stream, where all of them lie below end
abbrev pub LogsWithin : Plan → Type 0
LogsWithin plan = (s : ℕ) → cut (log_of plan s) plan.end ≡ log_of plan s

pub ideal-source : (plan : Plan) (s : ℕ) → LogsWithin plan → ideal plan (Source s) ≡ log_of plan s
unfolding ideal ideal_upto
ideal-source plan s within = within s
