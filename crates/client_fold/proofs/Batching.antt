-- A batch at a client and at the plain one.
use Rattle.std.proofs.Common.{◌≡◌, ℕ, ◌==◌, true, false, List, [], ◌∷◌, ◌++◌, length, refl, sym, ap, subst, ◌∙◌, append_assoc, append-nil}
use Rattle.dpc_model.specs.Inlets.{InletState, AfterBatch, take_batch}
use Rattle.dpc_model.specs.PartStands.{InletValue, with_stable}
use Rattle.dpc_model.specs.Parts.{Upstream}
use Rattle.dpc_model.specs.declared.batches.Taken.{Taken}
use Rattle.dpc_model.specs.declared.batches.Taken.TheVariants.{Used, Old, Broken}
use Rattle.dpc_model.specs.declared.messages.Message.TheVariants as message
use Rattle.dpc_model.specs.declared.messages.Sess.{Sess}
use Rattle.dpc_model.specs.declared.tuples.Item.{Item}
use Rattle.dpc_model.specs.declared.tuples.Tuple.{Tuple}
use Rattle.inlet.specs.Forgotten.{Keeps, IsTaken, from_first}
use Rattle.inlet.proofs.Standing.{splits}
use Rattle.upstream.specs.Upstreams.{UpstreamValue, with_marks_ended}
use Rattle.node_model.specs.Clients.{ClientState, with_taken, client_message, client_marks_ended}
use Rattle.node_model.specs.NodeParts.{upstream_of}
use Rattle.client_fold.specs.Folding.{ClientValue, StandsForClient, Follows, IsFolded, items_of, all_taken}

-- ---- the inlet, and what was taken

pub all_taken-push : (batches : List (List Item)) (items : List Item) → all_taken (batches ++ items ∷ []) ≡ all_taken batches ++ items
all_taken-push [] items = append-nil items
all_taken-push (first ∷ batches) items = ap (λ (is : List Item). first ++ is) (all_taken-push batches items) ∙ sym (append_assoc first (all_taken batches) items)

-- letting tuples go forgets more of the same stream
drops : (b : ℕ) (gone : List Tuple) (v : InletValue) (x : InletState) → Keeps gone v x →
    (more : List Tuple) × Keeps more (record v { state = with_stable (from_first b v.state.held.stable) v.state }) x
drops b gone v x k =
    let s = splits b v.state.held.stable in (
      gone ++ s.first,
      record {
        count = k.count;
        kept = k.kept ∙ ap (λ (ts : List Tuple). gone ++ ts) s.all ∙ sym (append_assoc gone s.first (from_first b v.state.held.stable));
        rest = k.rest;
      },
    )

-- what is seen of a client with these batches
abbrev pub valued : UpstreamValue → ℕ → ℕ → InletValue → List (List Item) → ClientValue
valued upstream end clock inlet batches = record { end = end; upstream = upstream; inlet = inlet; taken = all_taken batches; clock = clock }

folded-none : (sess : Sess) (index : ℕ) (items : List Item) (old : ClientValue) (inlet : InletValue) (answer : Taken) → IsTaken sess index items old.inlet inlet answer → items_of answer ≡ [] →
    IsFolded sess index items old (record old { inlet = inlet })
folded-none sess index items old inlet answer t none = record {
  rest = refl;
  kept = λ gone x k. (gone, t.after gone x k);
  told = λ gone x k. sym (append-nil old.taken) ∙ ap (λ (is : List Item). old.taken ++ is) (sym none ∙ ap items_of (t.told gone x k));
}

pub unused : (t : Taken) → ((items : List Item) → t ≡ Used items → ⊥) → items_of t ≡ []
unused (Used items) f = absurd (f items refl)
unused Old f = refl
unused Broken f = refl

-- a batch of which nothing was taken
pub folds-none : (upstream : UpstreamValue) (end clock : ℕ) (sess : Sess) (index : ℕ) (items : List Item) (inlet left : InletValue) (batches same : List (List Item)) (old : ClientValue) (answer : Taken) →
    valued upstream end clock inlet batches ≡ old → same ≡ batches → IsTaken sess index items inlet left answer → items_of answer ≡ [] →
    IsFolded sess index items old (valued upstream end clock left same)
folds-none upstream end clock sess index items inlet left batches same old answer is e t none =
    subst (λ (bs : List (List Item)). IsFolded sess index items old (valued upstream end clock left bs)) (sym e)
    (subst (λ (o : ClientValue). IsFolded sess index items o (valued upstream end clock left batches)) is
    (folded-none sess index items (valued upstream end clock inlet batches) left answer t none))

folded-some : (sess : Sess) (index : ℕ) (items used taken : List Item) (old : ClientValue) (inlet left : InletValue) (b : ℕ) → IsTaken sess index items old.inlet inlet (Used used) →
    taken ≡ old.taken ++ used → left ≡ record inlet { state = with_stable (from_first b inlet.state.held.stable) inlet.state } →
    IsFolded sess index items old (record old { inlet = left; taken = taken })
folded-some sess index items used taken old inlet left b t e drop = record {
  rest = refl;
  kept = λ gone x k.
      subst (λ (v : InletValue). (more : List Tuple) × Keeps more v (take_batch x sess index items).after) (sym drop) (drops b gone inlet (take_batch x sess index items).after (t.after gone x k));
  told = λ gone x k. e ∙ ap (λ (is : List Item). old.taken ++ is) (ap items_of (t.told gone x k));
}

-- a batch of which some was taken, and then tuples are let go
pub folds-some : (upstream : UpstreamValue) (end clock : ℕ) (sess : Sess) (index : ℕ) (items used : List Item) (inlet mid left : InletValue) (b : ℕ) (batches more : List (List Item)) (old : ClientValue) →
    valued upstream end clock inlet batches ≡ old → more ≡ batches ++ used ∷ [] → IsTaken sess index items inlet mid (Used used) →
    left ≡ record mid { state = with_stable (from_first b mid.state.held.stable) mid.state } → IsFolded sess index items old (valued upstream end clock left more)
folds-some upstream end clock sess index items used inlet mid left b batches more old is e t drop =
    subst (λ (o : ClientValue). IsFolded sess index items o (valued upstream end clock left more)) is
    (folded-some sess index items used (all_taken more) (valued upstream end clock inlet batches) mid left b t (ap all_taken e ∙ all_taken-push batches used) drop)

-- ---- the client

abbrev with_items : List Item → ClientState → ClientState
with_items taken x = record x { taken = taken }

with_taken-is : (t : Taken) (x : ClientState) → with_taken t x ≡ record x { taken = x.taken ++ items_of t }
with_taken-is (Used items) x = refl
with_taken-is Old x = ap (λ (taken : List Item). with_items taken x) (sym (append-nil x.taken))
with_taken-is Broken x = ap (λ (taken : List Item). with_items taken x) (sym (append-nil x.taken))

-- a batch of a replica that is not read
pub follows-unread : (r : ℕ) (sess : Sess) (index : ℕ) (items : List Item) (old new : ClientValue) → (old.upstream.known.chosen == r) ≡ false →
    Follows (λ plan c x. client_marks_ended x) old new → Follows (λ plan c x. client_message r (message.Batch sess index items) (client_marks_ended x)) old new
follows-unread r sess index items old new e follows plan c x h =
    let other : (x.port.chosen == r) ≡ false = ap (λ (u : Upstream). u.chosen == r) (sym h.known) ∙ e in
    rw other (follows plan c x h)

-- marks end that so many tuples reach
abbrev pub marked : ℕ → ClientValue → ClientValue
marked n v = record v { upstream = record v.upstream { known = with_marks_ended n v.upstream.known } }

-- a batch of the replica that is read
pub follows-read : (r : ℕ) (sess : Sess) (index : ℕ) (items : List Item) (old mid new : ClientValue) → (old.upstream.known.chosen == r) ≡ true → IsFolded sess index items old mid →
    new ≡ marked old.inlet.count mid → Follows (λ plan c x. client_message r (message.Batch sess index items) (client_marks_ended x)) old new
follows-read r sess index items old mid new e f is plan c x h =
    let same : (x.port.chosen == r) ≡ true = ap (λ (u : Upstream). u.chosen == r) (sym h.known) ∙ e in
    let t : AfterBatch = take_batch x.port.inlet sess index items in
    let y : ClientState = record (client_marks_ended x) { port = record (client_marks_ended x).port { inlet = t.after } } in
    let gone = h.inlet.0 in
    let ended : with_marks_ended old.inlet.count old.upstream.known ≡ upstream_of y.port =
    ap (λ (n : ℕ). with_marks_ended n old.upstream.known) h.inlet.1.count ∙ ap (λ (u : Upstream). with_marks_ended (length x.port.inlet.held.stable) u) h.known in
    let stands : StandsForClient plan c (marked old.inlet.count (record old { inlet = mid.inlet; taken = mid.taken })) (record y { taken = y.taken ++ items_of t.answer }) = record {
      senders = h.senders;
      known = ended;
      inlet = f.kept gone x.port.inlet h.inlet.1;
      end = h.end;
      taken = f.told gone x.port.inlet h.inlet.1 ∙ ap (λ (is : List Item). is ++ items_of t.answer) h.taken;
      clock = h.clock;
    } in
    rw same
    (subst (λ (z : ClientState). StandsForClient plan c new z) (sym (with_taken-is t.answer y))
    (subst (λ (v : ClientValue). StandsForClient plan c v (record y { taken = y.taken ++ items_of t.answer })) (sym (is ∙ ap (marked old.inlet.count) f.rest)) stands))
