-- What is to hold of each mail of an actor: it is true, goes the right way and fits, and carries RecDone only where the actor is done.
use Rattle.std.proofs.Common.{◌≡◌, ℕ, ◌+◌, ◌≤◌, Bool, true, false, cond, nat_lt, nat_le, List, [], ◌∷◌, ◌++◌, map, length, refl, ◌∙◌, arith, Option, Some, None, ◌&&◌}
use Rattle.std.specs.Prelude.{IsTrue}
use Rattle.dpc_lists.specs.Lists.{nth, list_all, insert_by}
use Rattle.dpc_model.specs.Actors.{role_of, reads_from, are_peers, readers_of}
use Rattle.dpc_model.specs.declared.actors.Role.TheVariants.{Source as IsSource, Node as IsNode}
use Rattle.dpc_model.specs.Sessions.{tally_of, batches_from, batches_of, Given, given_items, stable_items, boundary_item, tentative_items, passed_item, item_if}
use Rattle.dpc_model.specs.declared.sessions.Sub.{Sub}
use Rattle.dpc_model.specs.declared.tuples.Tuple.{Tuple}
use Rattle.dpc_model.specs.declared.tuples.Item.{Item}
use Rattle.dpc_model.specs.declared.tuples.Item.TheVariants.{Stable, Tentative, Passed, Boundary, Undo, RecDone}
use Rattle.dpc_model.specs.declared.messages.Sess.{Sess}
use Rattle.dpc_model.specs.declared.messages.Message.{Message}
use Rattle.dpc_model.specs.declared.messages.Message.TheVariants as message
use Rattle.dpc_model.specs.declared.plans.Plan.{Plan}
use Rattle.dpc_model.specs.declared.plans.StreamRef.{StreamRef}
use Rattle.dpc_model.specs.declared.plans.StreamRef.TheVariants.{Source, Frag}
use Rattle.node_model.specs.Mails.{Snap, Plain, SnapFor, Mail, mail, in_actor_order, to_readers}
use Rattle.node_model.specs.Nodes.{Home}
use Rattle.world_model.specs.Worlds.{from}
use Rattle.world_model.specs.Safe.{AreTrueItems, IsTrueMessage, IsTrueSnap, IsTrueEnvelope, AreTrue, has_done, packet_done}
use Rattle.world_model.specs.Orderly.{message_way, fits_stream, item_fits, items_carried, is_fitting}
use Rattle.law_safety.specs.Plans.{IsPlace}
use Rattle.dpc_lists.proofs.Truths.{both, both-of, le-test, all-append}
use Rattle.law_safety.proofs.Numbering.{source-sends-it, node-sends-it, readers-read, all-nth}

pub record IsMail (plan : Plan) (a : ℕ) (done : Type 0) (m : Mail) : Type 0 where
  pub truth : IsTrueEnvelope plan (from a m)
  pub fits : is_fitting plan (from a m) ≡ true
  pub surely : IsTrue (packet_done m.packet) → done

abbrev pub AreMails : Plan → ℕ → Type 0 → List Mail → Type 0
AreMails plan a done [] = Unit {0}
AreMails plan a done (m ∷ ms) = IsMail plan a done m × AreMails plan a done ms

module _ (plan : Plan) (a : ℕ) (done : Type 0) where
  pub mails-append : (ms ns : List Mail) → AreMails plan a done ms → AreMails plan a done ns → AreMails plan a done (ms ++ ns)
  mails-append [] ns h k = k
  mails-append (m ∷ ms) ns h k = (h.0, mails-append ms ns h.1 k)

  mails-insert : (m : Mail) (ms : List Mail) → IsMail plan a done m → AreMails plan a done ms → AreMails plan a done (insert_by (λ (x : Mail). x.to) m ms)
  mails-insert m [] h k = (h, tt)
  mails-insert m (n ∷ ms) h k =
      elim (nat_lt n.to m.to) as (λ b. AreMails plan a done (cond b (n ∷ insert_by (λ (x : Mail). x.to) m ms) (m ∷ n ∷ ms))) [
        | true ↦ (k.0, mails-insert m ms h k.1)
        | false ↦ (h, k)
      ]

  pub mails-sorted : (ms : List Mail) → AreMails plan a done ms → AreMails plan a done (in_actor_order ms)
  mails-sorted [] h = tt
  mails-sorted (m ∷ ms) h = mails-insert m (in_actor_order ms) h.0 (mails-sorted ms h.1)

  pub mails-true : (ms : List Mail) → AreMails plan a done ms → AreTrue plan (map (from a) ms)
  mails-true [] h = tt
  mails-true (m ∷ ms) h = (h.0.truth, mails-true ms h.1)

  pub mails-fit : (ms : List Mail) → AreMails plan a done ms → list_all (is_fitting plan) (map (from a) ms) ≡ true
  mails-fit [] h = refl
  mails-fit (m ∷ ms) h = both-of (is_fitting plan (from a m)) (list_all (is_fitting plan) (map (from a) ms)) h.0.fits (mails-fit ms h.1)

-- the same mails where more is done
pub mails-weaker : (plan : Plan) (a : ℕ) (done more : Type 0) → (done → more) → (ms : List Mail) → AreMails plan a done ms → AreMails plan a more ms
mails-weaker plan a done more f [] h = tt
mails-weaker plan a done more f (m ∷ ms) h = (record { truth = h.0.truth; fits = h.0.fits; surely = λ e. f (h.0.surely e) }, mails-weaker plan a done more f ms h.1)

-- ---- a node

-- the actor of a node of a checked plan
pub record IsActor (home : Home) (a : ℕ) : Type 0 where
  pub place : IsPlace home
  pub role : role_of home.plan a ≡ IsNode home.frag home.replica

pub node-mail : (home : Home) (a to : ℕ) (m : Message) (done : Type 0) → IsActor home a → IsTrueMessage home.plan (Frag home.frag) m →
    message_way home.plan (IsNode home.frag home.replica) (role_of home.plan to) m ≡ true → list_all (item_fits home.plan (Frag home.frag)) (items_carried (Plain m)) ≡ true →
    (IsTrue (packet_done (Plain m)) → done) → IsMail home.plan a done (mail to m)
node-mail home a to m done actor truth way fits surely =
    record {
      truth = rw actor.role truth;
      fits = rw actor.role (both-of (message_way home.plan (IsNode home.frag home.replica) (role_of home.plan to) m) (list_all (item_fits home.plan (Frag home.frag)) (items_carried (Plain m))) way fits);
      surely = surely;
    }

pub node-snap : (home : Home) (a to i try : ℕ) (s : Snap) (done : Type 0) → IsActor home a → IsTrueSnap home.plan home.frag s → are_peers (IsNode home.frag home.replica) (role_of home.plan to) ≡ true →
    IsMail home.plan a done (record { to = to; packet = SnapFor i try s })
node-snap home a to i try s done actor truth way =
    record {
      truth = rw actor.role truth;
      fits = rw actor.role (both-of (are_peers (IsNode home.frag home.replica) (role_of home.plan to)) true way refl);
      surely = λ e. cc;
    }

-- ---- senders of a stream

-- an actor that sends a stream: its batches are mails where their items are true and fit, to whoever reads from it
pub record IsSender (plan : Plan) (a : ℕ) (s : StreamRef) : Type 1 where
  pub batch : (to : ℕ) (u : Sess) (index : ℕ) (items : List Item) (done : Type 0) → reads_from plan (role_of plan to) (role_of plan a) ≡ true → AreTrueItems plan s items →
      list_all (item_fits plan s) items ≡ true → (IsTrue (has_done items) → done) → IsMail plan a done (mail to (message.Batch u index items))
  pub truncated : (to : ℕ) (u : Sess) (base : ℕ) (done : Type 0) → reads_from plan (role_of plan to) (role_of plan a) ≡ true → IsMail plan a done (mail to (message.Truncated u base))
  pub readers : list_all (λ b. reads_from plan (role_of plan b) (role_of plan a)) (readers_of plan s) ≡ true

pub node-sender : (home : Home) (a : ℕ) → IsActor home a → IsSender home.plan a (Frag home.frag)
node-sender home a actor =
    record {
      batch = λ to u index items done way truth fits surely. node-mail home a to (message.Batch u index items) done actor truth (rw actor.role at way) fits surely;
      truncated = λ to u base done way. node-mail home a to (message.Truncated u base) done actor tt (rw actor.role at way) refl (λ e. cc);
      readers = rw actor.role (readers-read home.plan (Frag home.frag) (IsNode home.frag home.replica) (node-sends-it home.frag home.replica));
    }

pub source-sender : (plan : Plan) (a s : ℕ) → role_of plan a ≡ IsSource s → IsSender plan a (Source s)
source-sender plan a s role =
    record {
      batch = λ to u index items done way truth fits surely. record {
        truth = rw role truth;
        fits = rw role (both-of (reads_from plan (role_of plan to) (IsSource s)) (list_all (item_fits plan (Source s)) items) (rw role at way) fits);
        surely = surely;
      };
      truncated = λ to u base done way. record {
        truth = rw role tt;
        fits = rw role (both-of (reads_from plan (role_of plan to) (IsSource s)) true (rw role at way) refl);
        surely = λ e. cc;
      };
      readers = rw role (readers-read plan (Source s) (IsSource s) (source-sends-it s));
    }

-- the batches of one event
pub batches_from-mails : (plan : Plan) (a : ℕ) (s : StreamRef) (done : Type 0) (items : List Item) → IsSender plan a s → AreTrueItems plan s items → list_all (item_fits plan s) items ≡ true →
    (IsTrue (has_done items) → done) → (k : ℕ) (subs : List Sub) → k + length subs ≤ length (readers_of plan s) → AreMails plan a done (to_readers (readers_of plan s) (batches_from k items subs))
batches_from-mails plan a s done items sender truth fits surely k [] few = tt
batches_from-mails plan a s done items sender truth fits surely k (sub ∷ subs) few =
    let rest = batches_from-mails plan a s done items sender truth fits surely (k + 1) subs (omega (arith, few)) in
    elim (tally_of sub) as (λ o. AreMails plan a done (to_readers (readers_of plan s) (elim o [
      | None ↦ batches_from (k + 1) items subs
      | Some l ↦ (k, message.Batch l.0 l.1 items) ∷ batches_from (k + 1) items subs
    ]))) [
      | None ↦ rest
      | Some l ↦ (
        sender.batch (nth 0 (readers_of plan s) k) l.0 l.1 items done
            (all-nth (λ b. reads_from plan (role_of plan b) (role_of plan a)) 0 (readers_of plan s) k (omega (arith, few)) sender.readers) truth fits surely,
        rest,
      )
    ]

pub batches-mails : (plan : Plan) (a : ℕ) (s : StreamRef) (done : Type 0) (items : List Item) (subs : List Sub) → IsSender plan a s → AreTrueItems plan s items → list_all (item_fits plan s) items ≡ true →
    (IsTrue (has_done items) → done) → length subs ≤ length (readers_of plan s) → AreMails plan a done (to_readers (readers_of plan s) (batches_of items subs))
batches-mails plan a s done [] subs sender truth fits surely few = tt
batches-mails plan a s done (i ∷ items) subs sender truth fits surely few = batches_from-mails plan a s done (i ∷ items) sender truth fits surely 0 subs (omega (arith, few))

-- ---- items that fit

pub stable-fit : (plan : Plan) (s : StreamRef) (k : ℕ) (ts : List Tuple) → list_all (fits_stream plan s) ts ≡ true → list_all (item_fits plan s) (stable_items k ts) ≡ true
stable-fit plan s k [] h = refl
stable-fit plan s k (t ∷ ts) h =
    let p = both (fits_stream plan s t) (list_all (fits_stream plan s) ts) h in both-of (fits_stream plan s t) (list_all (item_fits plan s) (stable_items (k + 1) ts)) p.0 (stable-fit plan s (k + 1) ts p.1)

pub tentative-fit : (plan : Plan) (s : StreamRef) (ts : List Tuple) → list_all (fits_stream plan s) ts ≡ true → list_all (item_fits plan s) (tentative_items ts) ≡ true
tentative-fit plan s [] h = refl
tentative-fit plan s (t ∷ ts) h =
    let p = both (fits_stream plan s t) (list_all (fits_stream plan s) ts) h in both-of (fits_stream plan s t) (list_all (item_fits plan s) (tentative_items ts)) p.0 (tentative-fit plan s ts p.1)

-- the times that a boundary and a passed mark tell are at most end, and a passed mark is told only where the plan is passing
abbrev pub IsBoundWithin : Plan → Option (ℕ × ℕ) → Type 0
IsBoundWithin plan None = Unit {0}
IsBoundWithin plan (Some b) = b.0 ≤ plan.end

abbrev pub IsPassedWithin : Plan → Option ℕ → Type 0
IsPassedWithin plan None = Unit {0}
IsPassedWithin plan (Some b) = (plan.passing ≡ true) × (b ≤ plan.end)

pub boundary-fit : (plan : Plan) (s : StreamRef) (o : Option (ℕ × ℕ)) → IsBoundWithin plan o → list_all (item_fits plan s) (boundary_item o) ≡ true
boundary-fit plan s None h = refl
boundary-fit plan s (Some b) h = both-of (nat_le b.0 plan.end) true (le-test b.0 plan.end h) refl

pub passed-fit : (plan : Plan) (s : StreamRef) (o : Option ℕ) → IsPassedWithin plan o → list_all (item_fits plan s) (passed_item o) ≡ true
passed-fit plan s None h = refl
passed-fit plan s (Some b) h = both-of (plan.passing && nat_le b plan.end) true (both-of plan.passing (nat_le b plan.end) h.0 (le-test b plan.end h.1)) refl

pub done-fit : (plan : Plan) (s : StreamRef) (b : Bool) → list_all (item_fits plan s) (item_if b RecDone) ≡ true
done-fit plan s true = refl
done-fit plan s false = refl

pub given-fit : (plan : Plan) (s : StreamRef) (count : ℕ) (g : Given) → list_all (fits_stream plan s) g.stable ≡ true → IsBoundWithin plan g.bound → list_all (fits_stream plan s) g.tentative ≡ true →
    IsPassedWithin plan g.passed → list_all (item_fits plan s) (given_items count g) ≡ true
given-fit plan s count g stable bound tentative passed =
    let q = item_fits plan s in
    all-append q (stable_items count g.stable ++ boundary_item g.bound ++ tentative_items g.tentative ++ passed_item g.passed) (item_if g.done RecDone)
    (all-append q (stable_items count g.stable ++ boundary_item g.bound ++ tentative_items g.tentative) (passed_item g.passed)
    (all-append q (stable_items count g.stable ++ boundary_item g.bound) (tentative_items g.tentative)
    (all-append q (stable_items count g.stable) (boundary_item g.bound) (stable-fit plan s count g.stable stable) (boundary-fit plan s g.bound bound))
    (tentative-fit plan s g.tentative tentative)) (passed-fit plan s g.passed passed)) (done-fit plan s g.done)

-- ---- items without RecDone

pub done-append : (xs ys : List Item) → has_done xs ≡ false → has_done (xs ++ ys) ≡ has_done ys
done-append [] ys h = refl
done-append (Stable k t ∷ xs) ys h = done-append xs ys h
done-append (Tentative t ∷ xs) ys h = done-append xs ys h
done-append (Passed b ∷ xs) ys h = done-append xs ys h
done-append (Boundary b m ∷ xs) ys h = done-append xs ys h
done-append (Undo n ∷ xs) ys h = done-append xs ys h
done-append (RecDone ∷ xs) ys h = cc

pub stable-done : (k : ℕ) (ts : List Tuple) → has_done (stable_items k ts) ≡ false
stable-done k [] = refl
stable-done k (t ∷ ts) = stable-done (k + 1) ts

pub tentative-done : (ts : List Tuple) → has_done (tentative_items ts) ≡ false
tentative-done [] = refl
tentative-done (t ∷ ts) = tentative-done ts

pub boundary-done : (o : Option (ℕ × ℕ)) → has_done (boundary_item o) ≡ false
boundary-done None = refl
boundary-done (Some b) = refl

pub passed-done : (o : Option ℕ) → has_done (passed_item o) ≡ false
passed-done None = refl
passed-done (Some b) = refl

-- RecDone stands only at the end of what is given
pub given-done : (count : ℕ) (g : Given) → has_done (given_items count g) ≡ has_done (item_if g.done RecDone)
given-done count g =
    let a = done-append (stable_items count g.stable) (boundary_item g.bound) (stable-done count g.stable) ∙ boundary-done g.bound in
    let b = done-append (stable_items count g.stable ++ boundary_item g.bound) (tentative_items g.tentative) a ∙ tentative-done g.tentative in
    let c = done-append (stable_items count g.stable ++ boundary_item g.bound ++ tentative_items g.tentative) (passed_item g.passed) b ∙ passed-done g.passed in
    done-append (stable_items count g.stable ++ boundary_item g.bound ++ tentative_items g.tentative ++ passed_item g.passed) (item_if g.done RecDone) c
