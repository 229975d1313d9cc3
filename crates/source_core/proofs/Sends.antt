-- What a source gives its sessions, and to whom it goes.
use Rattle.std.proofs.Common.{◌≡◌, ℕ, zero, suc, ◌+◌, ◌≤◌, ◌<◌, Bool, true, false, ◌&&◌, nat_le, List, [], ◌∷◌, ◌++◌, map, take, drop, length, refl, sym, ap, ◌∙◌, arith, Option, Some, None, append-nil, slice_index_or}
use Rattle.std.specs.Prelude.{not, is_none, if◌then◌else◌}
use Rattle.std.proofs.lemmas.Grind.{common_steps}
use Rattle.std.proofs.lemmas.List.{map-append, append_assoc}
use Rattle.std.specs.List.{zip}
use Rattle.dpc_lists.specs.Lists.{nth, is_nil}
use Rattle.dpc_model.specs.Sessions.{stable_items, boundary_item, given_items, with_batch, with_batches, batches_of, tally_of}
use Rattle.dpc_model.specs.Fragments.{log_of}
use Rattle.dpc_model.specs.declared.plans.Plan.{Plan}
use Rattle.dpc_model.specs.declared.tuples.Tuple.{Tuple}
use Rattle.dpc_model.specs.declared.tuples.Item.{Item}
use Rattle.dpc_model.specs.declared.sessions.Sub.{Sub}
use Rattle.dpc_model.specs.declared.messages.Message.{Message}
use Rattle.dpc_model.specs.declared.messages.Out.{Out}
use Rattle.node_model.specs.Mails.{Mail, mail, mails, to_readers}
use Rattle.node_model.specs.Sources.{source_readers, emitted_upto, source_gives, source_beat}
use Rattle.soutput.proofs.Nothing.{nil-append, nil-stable}
use Rattle.source_core.specs.Emitting.{SourceValue, IsSourceOf, given_upto, is_nothing, with_emitted, after_step}

abbrev as_mail : Out → Mail
as_mail o = mail o.to o.message

-- stable items and perhaps a boundary
pub given-is : (first upto : ℕ) (bound : Option (ℕ × ℕ)) (log : List Tuple) →
    given_items first (given_upto log first upto bound) ≡ stable_items first (drop first (take upto log)) ++ boundary_item bound
given-is first upto bound log = simp append-nil

nil-part : (first upto : ℕ) (log : List Tuple) → upto ≤ length log → is_nil (drop first (take upto log)) ≡ nat_le upto first
nil-part zero zero log h = refl
nil-part (suc first) zero log h = let yes : nat_le 0 (suc first) ≡ true = grind (arith, common_steps) in sym yes
nil-part first (suc upto) [] h = absurd (omega (arith, h))
nil-part zero (suc upto) (x ∷ log) h = let past : nat_le (suc upto) 0 ≡ false = grind (arith, common_steps) in sym past
nil-part (suc first) (suc upto) (x ∷ log) h =
    let rest = nil-part first upto log (omega (arith, h)) in
    let same : nat_le (suc upto) (suc first) ≡ nat_le upto first = grind (arith, common_steps) in rest ∙ sym same

nil-bound : (bound : Option (ℕ × ℕ)) → is_nil (boundary_item bound) ≡ is_none bound
nil-bound None = refl
nil-bound (Some b) = refl

-- whether there is an item
pub given-nil : (first upto : ℕ) (bound : Option (ℕ × ℕ)) (log : List Tuple) → upto ≤ length log →
    is_nil (given_items first (given_upto log first upto bound)) ≡ is_nothing first upto bound
given-nil first upto bound log low =
    let ts : List Tuple = drop first (take upto log) in
    ap (λ (items : List Item). is_nil items) (given-is first upto bound log) ∙ nil-append (stable_items first ts) (boundary_item bound)
    ∙ ap (λ b. b && is_nil (boundary_item bound)) (nil-stable first ts ∙ nil-part first upto log low) ∙ ap (λ b. nat_le upto first && b) (nil-bound bound)

counted : (b : Bool) (subs : List Sub) → (if not b then map with_batch subs else subs) ≡ (if b then subs else map with_batch subs)
counted true subs = refl
counted false subs = refl

-- what is emitted is given, and counted
pub emitted-is : (plan : Plan) (v : SourceValue) (t upto : ℕ) (bound : Option (ℕ × ℕ)) → IsSourceOf plan v → upto ≡ emitted_upto plan v.number t v.state → upto ≤ length (log_of plan v.number) →
    with_emitted upto (not (is_nothing v.state.emitted upto bound)) v ≡ after_step v (source_gives plan v.number t bound v.state)
emitted-is plan v t upto bound h e low =
    let first = v.state.emitted in
    let log = log_of plan v.number in
    let subs = v.state.subs in
    ap (λ (ss : List Sub). record v { state = record v.state { emitted = upto; subs = ss } })
    (counted (is_nothing first upto bound) subs
    ∙ sym (ap (λ (b : Bool). if b then subs else map with_batch subs) (given-nil first upto bound log low)))
    ∙ ap (λ (n : ℕ). record v { state = record v.state { emitted = n; subs = with_batches (given_items first (given_upto log first n bound)) subs } }) e

-- .. to the readers
pub gives-is : (plan : Plan) (v : SourceValue) (t upto : ℕ) (bound : Option (ℕ × ℕ)) (log : List Tuple) → IsSourceOf plan v → log ≡ log_of plan v.number → upto ≡ emitted_upto plan v.number t v.state →
    to_readers v.readers (batches_of (given_items v.state.emitted (given_upto log v.state.emitted upto bound)) v.state.subs) ≡ (source_gives plan v.number t bound v.state).sends
gives-is plan v t upto bound log h k e =
    let first = v.state.emitted in
    let subs = v.state.subs in
    ap (λ (rs : List ℕ). to_readers rs (batches_of (given_items first (given_upto log first upto bound)) subs)) h.readers
    ∙ ap (λ (ts : List Tuple). to_readers (source_readers plan v.number) (batches_of (given_items first (given_upto ts first upto bound)) subs)) k
    ∙ ap (λ (n : ℕ). to_readers (source_readers plan v.number) (batches_of (given_items first (given_upto (log_of plan v.number) first n bound)) subs)) e

-- ---- to whom it goes

abbrev to_reader : List ℕ → ℕ × Message → Mail
to_reader readers m = mail (nth 0 readers m.0) m.1

-- one message more
pub addressed-more : (readers : List ℕ) (outs : List Out) (o : Out) (m : ℕ × Message) (rest : List (ℕ × Message)) → o.to ≡ nth 0 readers m.0 → o.message ≡ m.1 →
    mails (outs ++ o ∷ []) ++ to_readers readers rest ≡ mails outs ++ to_readers readers (m ∷ rest)
addressed-more readers outs o m rest e k =
    rw (map-append as_mail outs (o ∷ []), append_assoc (mails outs) (as_mail o ∷ []) (to_readers readers rest))
    (ap (λ (x : Mail). mails outs ++ (x ∷ to_readers readers rest)) (ap (λ a. mail a o.message) e ∙ ap (λ (n : Message). mail (nth 0 readers m.0) n) k))

-- ---- beats

abbrev pub beats_to : List ℕ → List Sub → List Mail
beats_to readers subs = map (λ (y : ℕ × Sub). mail y.0 (source_beat (tally_of y.1))) (zip readers subs)

beats-more : (i : ℕ) (readers : List ℕ) (subs : List Sub) (a : ℕ) (s : Sub) → i < length readers → i < length subs →
    beats_to (take (i + 1) readers) (take (i + 1) subs) ≡ beats_to (take i readers) (take i subs) ++ mail (slice_index_or readers i a) (source_beat (tally_of (slice_index_or subs i s))) ∷ []
beats-more i [] subs a s low high = absurd (omega (arith, low))
beats-more i (x ∷ readers) [] a s low high = absurd (omega (arith, high))
beats-more zero (x ∷ readers) (y ∷ subs) a s low high = refl
beats-more (suc i) (x ∷ readers) (y ∷ subs) a s low high =
    let next : suc i + 1 ≡ suc (i + 1) = omega arith in
    rw next (ap (λ (ms : List Mail). mail x (source_beat (tally_of y)) ∷ ms) (beats-more i readers subs a s (omega (arith, low)) (omega (arith, high))))

pub told-more : (i : ℕ) (readers : List ℕ) (subs : List Sub) (old new : List Out) (o : Out) (a : ℕ) (s : Sub) → i < length readers → length subs ≡ length readers →
    mails old ≡ beats_to (take i readers) (take i subs) → new ≡ old ++ o ∷ [] → o.to ≡ slice_index_or readers i a → o.message ≡ source_beat (tally_of (slice_index_or subs i s)) →
    mails new ≡ beats_to (take (i + 1) readers) (take (i + 1) subs)
told-more i readers subs old new o a s low same before pushed e k =
    ap mails pushed ∙ map-append as_mail old (o ∷ []) ∙ ap (λ (ms : List Mail). ms ++ as_mail o ∷ []) before
    ∙ ap (λ (x : Mail). beats_to (take i readers) (take i subs) ++ x ∷ []) (ap (λ b. mail b o.message) e ∙ ap (λ (n : Message). mail (slice_index_or readers i a) n) k)
    ∙ sym (beats-more i readers subs a s low (omega (arith, low, same)))
