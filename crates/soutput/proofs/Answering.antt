-- A subscription: the session that it leaves and its answer, case by case.
use Rattle.std.proofs.Common.{◌≡◌, ℕ, ◌≤◌, ◌<◌, Bool, true, false, List, length, refl, sym, ap, Some, None}
use Rattle.std.proofs.lemmas.Bool.{lt-ltb, le-ltb}
use Rattle.dpc_lists.specs.Lists.{nth, changed}
use Rattle.dpc_model.specs.Parts.{shown_of}
use Rattle.dpc_model.specs.PartStands.{OutputValue}
use Rattle.dpc_model.specs.Sessions.{no_session, is_newer_than_kept, first_batch}
use Rattle.dpc_model.specs.declared.tuples.Tuple.{Tuple}
use Rattle.dpc_model.specs.declared.tuples.Item.{Item}
use Rattle.dpc_model.specs.declared.messages.Subscribe.{Subscribe}
use Rattle.dpc_model.specs.declared.messages.Message.TheVariants as message
use Rattle.dpc_model.specs.declared.sessions.Sub.{Sub}
use Rattle.dpc_lists.proofs.Elements.{changed-to-same}
use Rattle.soutput.specs.Giving.{stream_behind, IsAnswered}

-- what is asked by a session that is not newer
pub old-answered : (stable_now : Bool) (reader : ℕ) (asked : Subscribe) (v : OutputValue) → is_newer_than_kept asked.sess (nth no_session v.subs reader).kept ≡ false →
    IsAnswered stable_now reader asked v v None
old-answered stable_now reader asked v old = record {
  after = λ gone base. rw old (sym (ap (λ (subs : List Sub). record v { subs = subs }) (changed-to-same no_session reader v.subs)));
  answer = λ gone base. rw old refl;
}

-- .. for tuples that are gone
pub truncated-answered : (stable_now : Bool) (reader : ℕ) (asked : Subscribe) (v : OutputValue) → is_newer_than_kept asked.sess (nth no_session v.subs reader).kept ≡ true → asked.n < v.base →
    IsAnswered stable_now reader asked v (record v { subs = changed reader (λ _. record { kept = Some asked.sess; is_open = false; batches = 0 }) v.subs }) (Some (message.Truncated asked.sess v.base))
truncated-answered stable_now reader asked v new low =
    let below = lt-ltb asked.n v.base low in
    record { after = λ gone base. rw (new, below) refl; answer = λ gone base. rw (new, below) refl }

-- .. and for tuples that are there
pub batch-answered : (stable_now : Bool) (reader : ℕ) (asked : Subscribe) (v : OutputValue) (items : List Item) → is_newer_than_kept asked.sess (nth no_session v.subs reader).kept ≡ true → v.base ≤ asked.n →
    ((gone : List Tuple) → length gone ≡ v.base → items ≡ first_batch (shown_of (stream_behind gone v) v.base stable_now) asked) →
    IsAnswered stable_now reader asked v (record v { subs = changed reader (λ _. record { kept = Some asked.sess; is_open = true; batches = 1 }) v.subs }) (Some (message.Batch asked.sess 0 items))
batch-answered stable_now reader asked v items new high told =
    let past = le-ltb asked.n v.base high in
    record { after = λ gone base. rw (new, past) refl; answer = λ gone base. rw (new, past) (ap (λ (is : List Item). Some (message.Batch asked.sess 0 is)) (told gone base)) }
