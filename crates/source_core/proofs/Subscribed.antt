-- A subscription at a source: the session that it leaves, and its answer.
use Rattle.std.proofs.Common.{◌≡◌, ℕ, Bool, ◌<◌, length, slice_index_or, ◌∙◌, ◌==◌, true, false, List, [], ◌∷◌, refl, sym, ap, arith, Option, Some, None, nat_lt}
use Rattle.std.proofs.lemmas.Bool.{le-ltb}
use Rattle.dpc_lists.specs.Lists.{nth, changed, place_of}
use Rattle.dpc_model.specs.Sessions.{no_session, is_newer_than_kept, first_batch, Shown, Answered, answer_to}
use Rattle.dpc_model.specs.declared.tuples.Item.{Item}
use Rattle.dpc_model.specs.declared.messages.Subscribe.{Subscribe}
use Rattle.dpc_model.specs.declared.messages.Message.TheVariants as message
use Rattle.dpc_model.specs.declared.plans.Plan.{Plan}
use Rattle.dpc_model.specs.declared.sessions.Sub.{Sub}
use Rattle.dpc_lists.proofs.Elements.{changed-to-same, nth-is}
use Rattle.node_model.specs.Mails.{Mail, mail}
use Rattle.node_model.specs.Sources.{source_readers, source_shown, source_subscribed, source_message}
use Rattle.source_core.specs.Emitting.{SourceValue, IsSourceOf, after_step}

-- whether a reader's session is newer is whether it is newer than the one at its place
pub newer-at : (newer : Bool) (asked : Subscribe) (v : SourceValue) (subs : List Sub) (reader : ℕ) (session : Sub) → subs ≡ v.state.subs → reader < length subs → session ≡ slice_index_or subs reader session →
    newer ≡ is_newer_than_kept asked.sess session.kept → is_newer_than_kept asked.sess (nth no_session v.state.subs reader).kept ≡ newer
newer-at newer asked v subs reader session same low at told =
    ap (λ (ss : List Sub). is_newer_than_kept asked.sess (nth no_session ss reader).kept) (sym same)
    ∙ ap (λ (s : Sub). is_newer_than_kept asked.sess s.kept) (nth-is no_session session reader subs low at) ∙ sym told

-- by a session that is not newer nothing changes, and nothing is sent
pub old-stays : (plan : Plan) (v : SourceValue) (k : ℕ) (asked : Subscribe) → is_newer_than_kept asked.sess (nth no_session v.state.subs k).kept ≡ false →
    v ≡ after_step v (source_subscribed plan v.number asked (Some k) v.state)
old-stays plan v k asked old =
    rw old (sym (ap (λ (subs : List Sub). record v { state = record v.state { subs = subs } }) (changed-to-same no_session k v.state.subs)))

abbrev sends_with : List ℕ → ℕ → Answered → List Mail
sends_with readers k a = elim a.answer [ None ↦ [] | Some m ↦ mail (nth 0 readers k) m ∷ [] ]

old-answer : (x : Shown) (sub : Sub) (asked : Subscribe) → is_newer_than_kept asked.sess sub.kept ≡ false → answer_to x sub asked ≡ record { after = sub; answer = None }
old-answer x sub asked old = rw old refl

new-answer : (x : Shown) (sub : Sub) (asked : Subscribe) → is_newer_than_kept asked.sess sub.kept ≡ true → nat_lt asked.n x.base ≡ false →
    answer_to x sub asked ≡ record { after = record { kept = Some asked.sess; is_open = true; batches = 1 }; answer = Some (message.Batch asked.sess 0 (first_batch x asked)) }
new-answer x sub asked new high = rw (new, high) refl

pub old-silent : (plan : Plan) (v : SourceValue) (k : ℕ) (asked : Subscribe) → is_newer_than_kept asked.sess (nth no_session v.state.subs k).kept ≡ false →
    [] ≡ (source_subscribed plan v.number asked (Some k) v.state).sends
old-silent plan v k asked old = sym (ap (sends_with (source_readers plan v.number) k) (old-answer (source_shown plan v.number v.state) (nth no_session v.state.subs k) asked old))

-- a newer one opens, and gets the first batch
pub new-opens : (plan : Plan) (v : SourceValue) (k : ℕ) (asked : Subscribe) → is_newer_than_kept asked.sess (nth no_session v.state.subs k).kept ≡ true →
    record v { state = record v.state { subs = changed k (λ _. record { kept = Some asked.sess; is_open = true; batches = 1 }) v.state.subs } } ≡ after_step v (source_subscribed plan v.number asked (Some k) v.state)
new-opens plan v k asked new = let high = le-ltb asked.n 0 (omega arith) in rw (new, high) refl

pub new-told : (plan : Plan) (v : SourceValue) (k to : ℕ) (asked : Subscribe) (items : List Item) → IsSourceOf plan v → is_newer_than_kept asked.sess (nth no_session v.state.subs k).kept ≡ true →
    to ≡ nth 0 v.readers k → items ≡ first_batch (source_shown plan v.number v.state) asked →
    mail to (message.Batch asked.sess 0 items) ∷ [] ≡ (source_subscribed plan v.number asked (Some k) v.state).sends
new-told plan v k to asked items h new e told =
    let high = le-ltb asked.n 0 (omega arith) in
    let reader : to ≡ nth 0 (source_readers plan v.number) k = e ∙ ap (λ (rs : List ℕ). nth 0 rs k) h.readers in
    ap (λ a. mail a (message.Batch asked.sess 0 items) ∷ []) reader
    ∙ ap (λ (is : List Item). mail (nth 0 (source_readers plan v.number) k) (message.Batch asked.sess 0 is) ∷ []) told
    ∙ sym (ap (sends_with (source_readers plan v.number) k) (new-answer (source_shown plan v.number v.state) (nth no_session v.state.subs k) asked new high))

-- what a message does, by the place of its sender
pub at-place : (plan : Plan) (v : SourceValue) (a : ℕ) (asked : Subscribe) (o : Option ℕ) → IsSourceOf plan v → place_of (λ b. a == b) v.readers ≡ o →
    source_message plan v.number a (message.Subscribe asked) v.state ≡ source_subscribed plan v.number asked o v.state
at-place plan v a asked o h e =
    ap (λ (p : Option ℕ). source_subscribed plan v.number asked p v.state) (ap (λ (rs : List ℕ). place_of (λ b. a == b) rs) (sym h.readers) ∙ e)
