use Rattle.std.proofs.Common.{◌≡◌, ℕ, ◌-◌, ◌<◌, ◌==◌, Bool, max, List, length, take, get_or, Some, refl, sym, ◌∙◌, ap, arith, rules, deque_len}
use Rattle.std.proofs.lemmas.List.{get_or_default}
use Rattle.std.proofs.lemmas.Option.{slice_get_read}
use Rattle.std.specs.List.{slice_get}
use Rattle.dpc_model.specs.declared.tuples.Tuple.{Tuple}
use Rattle.ops_join.specs.declared.ends.End.{End}
use Rattle.ops_join.specs.Sides.{other_end, code_of, slot_at, slot_of, is_partner, last_from, IsIndexOf}
use Rattle.ops_join.proofs.Codes.{share-slot, slot-below}
use Rattle.ops_join.proofs.Walks.{walk-first, walk-inside, Walks, walk-next, gathered-first, gathered-one, gathered-none}
use Rattle.ops_join.proofs.side.Side.partners.Goals.{then-are_partners+in_ok-push, else-are_partners}
use Rattle.ops_join.proofs.side.Side.partners.Goals as goal

-- the test of the slot in which the partners of a tuple are
abbrev near : End → List (ℕ × ℕ) → ℕ → Tuple → Tuple → Bool
near end keys slots of t = slot_of end keys slots t == slot_at slots (code_of (other_end end) keys of)

walked : (end : End) (w : ℕ) (keys : List (ℕ × ℕ)) (n link next k : ℕ) (ts : List Tuple) (heads before : List ℕ) (of t : Tuple) → IsIndexOf end keys n ts heads before → n < link → k ≡ link - n - 1 → k < length ts →
    slice_get ts k ≡ Some t → next ≡ get_or before k next → max n link ≡ last_from (near end keys (length heads) of) n n (take (link - n) ts) →
    Walks (near end keys (length heads) of) (is_partner end w keys of) n ts link next k t
walked end w keys n link next k ts heads before of t i some here low at_k read h =
    let low_link : k < length before = rw i.chains.many low in
    let back = i.chains.back k t at_k in
    walk-next (slot_of end keys (length heads)) (is_partner end w keys of) n (slot_at (length heads) (code_of (other_end end) keys of)) link next k ts t (share-slot end w keys (length heads) of) some here low at_k h
    (ap (max n) (read ∙ get_or_default before k next 0 low_link) ∙ back)

pub loop-link-init : goal.loop-link-init
loop-link-init c =
    let self = c.args.self.now in
    let heads = self.chains.heads.items in
    let slots = length heads in
    let keys = c.args.keys.now in
    let of = c.args.of.now in
    let end = c.args.end in
    let code = code_of (other_end end) keys of in
    let link : c.last-link.result ≡ get_or heads (slot_at slots code) 0 =
    c.last-link.ensures ∙ ap (λ h. get_or heads (slot_at slots h) 0) (c.code_of.ensures ∙ ap (λ e. code_of e keys of) c.other.ensures)
    in
    let begun = ap (max self.first) link ∙ c.requires.indexed.chains.last (slot_at slots code) (slot-below slots code) in
    let walk = walk-first (near end keys slots of) (is_partner end c.args.within keys of) (share-slot end c.args.within keys slots of) self.first c.last-link.result self.tuples.items begun in
    record {
      last = walk.0;
      places = gathered-first c.args.places.now.items _ _ c.requires.empty walk.1;
    }

pub index-tuple-requires : goal.index-tuple-requires
index-tuple-requires c =
    let self = c.args.self.now in
    let low = walk-inside (near c.args.end c.args.keys.now (length self.chains.heads.items) c.args.of.now) self.first c.loop-link.link self.tuples.items c.loop-link-test.true c.loop-link.invariant.last in
    let many : length self.tuples.items ≡ deque_len self.tuples = search rules in
    omega (arith, low, many)

pub index-link-requires : goal.index-link-requires
index-link-requires c =
    let self = c.args.self.now in
    let low = walk-inside (near c.args.end c.args.keys.now (length self.chains.heads.items) c.args.of.now) self.first c.loop-link.link self.tuples.items c.loop-link-test.true c.loop-link.invariant.last in
    let many : length self.chains.before.items ≡ deque_len self.chains.before = search rules in
    let both = c.requires.indexed.chains.many in
    omega (arith, low, many, both)

pub loop-link-preserved : goal.loop-link-preserved
loop-link-preserved c =
    let self = c.args.self.now in
    let link = c.loop-link.link in
    let low = walk-inside (near c.args.end c.args.keys.now (length self.chains.heads.items) c.args.of.now) self.first link self.tuples.items c.loop-link-test.true c.loop-link.invariant.last in
    let walk =
    walked c.args.end c.args.within c.args.keys.now self.first link c.index-link.result.now (link - self.first - 1) self.tuples.items self.chains.heads.items self.chains.before.items c.args.of.now c.index-tuple.result.now c.requires.indexed c.loop-link-test.true refl low
    (slice_get_read self.tuples.items (length self.tuples.items) (link - self.first - 1) c.index-tuple.result.now refl low c.index-tuple.ensures) c.index-link.ensures c.loop-link.invariant.last
    in
    record {
      last = walk.last;
      places = elim c.if-are_partners.branch [
        | then-are_partners+in_ok-push w ↦
            gathered-one _ c.loop-link.places.items c.if-are_partners.places.items _ _ _ (link - self.first - 1) (sym c.are_partners.ensures ∙ w.if-are_partners.true) (search rules) walk.places c.loop-link.invariant.places
        | else-are_partners w ↦
            rw w.places-is (gathered-none _ c.loop-link.places.items _ _ _ (link - self.first - 1) (sym c.are_partners.ensures ∙ w.if-are_partners.false) walk.places c.loop-link.invariant.places)
      ];
    }

pub loop-link-smaller : goal.loop-link-smaller
loop-link-smaller c =
    let self = c.args.self.now in
    let link = c.loop-link.link in
    let low = walk-inside (near c.args.end c.args.keys.now (length self.chains.heads.items) c.args.of.now) self.first link self.tuples.items c.loop-link-test.true c.loop-link.invariant.last in
    let walk =
    walked c.args.end c.args.within c.args.keys.now self.first link c.index-link.result.now (link - self.first - 1) self.tuples.items self.chains.heads.items self.chains.before.items c.args.of.now c.index-tuple.result.now c.requires.indexed c.loop-link-test.true refl low
    (slice_get_read self.tuples.items (length self.tuples.items) (link - self.first - 1) c.index-tuple.result.now refl low c.index-tuple.ensures) c.index-link.ensures c.loop-link.invariant.last
    in
    walk.less
