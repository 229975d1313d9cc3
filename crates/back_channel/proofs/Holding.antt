-- What is held of one reader beside another one, as it goes on.
use Rattle.std.proofs.Common.{◌≡◌, ◌≢◌, ℕ, ◌+◌, ◌≤◌, ◌<◌, max, nat_lt, nat_le, ◌==◌, ◌&&◌, true, false, cond, List, [], ◌∷◌, ◌++◌, length, take, get_or, Option, Some, Vec, Global, refl, sym, ap, subst, ◌∙◌, arith}
use Rattle.std.specs.List.{All}
use Rattle.std.proofs.lemmas.Bool.{ltb-true, ltb-false, eqb-true, and_parts}
use Rattle.std.proofs.lemmas.List.{take_more, length_push}
use Rattle.std.proofs.lemmas.List.Elements.{All-take}
use Rattle.dpc_lists.specs.Lists.{push}
use Rattle.dpc_model.specs.Reading.{Reader, NoReading, Skipped, Taken, reading, is_sure}
use Rattle.dpc_model.specs.declared.tuples.Item.{Item}
use Rattle.dpc_model.specs.declared.tuples.Item.TheVariants.{Stable, Boundary}
use Rattle.dpc_model.specs.declared.tuples.Tuple.{Tuple}
use Rattle.back_channel.specs.Merging.{not_below, Leaves, OneBegins, longer}
use Rattle.back_channel.specs.Sides.{left_by, Covers, IsSide, Stands, tuples_in, WasHeld, ReadsOne, ReadsAll, Drops}
use Rattle.back_channel.specs.declared.known.Known.{Known}
use Rattle.back_channel.specs.declared.side.Side.{Side}
use Rattle.back_channel.proofs.Beginnings.{Begins, begins-self, begins-append, begins-length, begins-whole, begins-both, begins-through, one-begins, first-begins, second-begins}
use Rattle.back_channel.proofs.Foldings.{before-last, one-onward}
use Rattle.back_channel.proofs.Onward.{not_below-all}
use Rattle.back_channel.proofs.Times.{late-all, late-again, late-rise}

-- ---- tuples below the bound go

pub drops-cleaned : (b : ℕ) (s s' : Side) → s.floor < b → s'.count ≡ s.count → s'.tentative.items ≡ not_below b s.tentative.items → s'.floor ≡ b → s'.before ≡ s.before → Drops b s s'
drops-cleaned b s s' rises count tuples floor before = record {
  stands = λ x h. record {
    many = count ∙ h.many;
    kept = ap (not_below b) tuples ∙ late-again b b s.tentative.items (omega arith) ∙ h.kept;
    late = subst (λ (n : ℕ). All (λ (t : Tuple). n ≤ t.stime) s'.tentative.items) (sym floor)
        (subst (λ (ts : List Tuple). All (λ (t : Tuple). b ≤ t.stime) ts) (sym tuples) (not_below-all b s.tentative.items));
    low = omega (arith, floor);
  };
  same = λ low. absurd (omega (arith, low, rises));
  before = before;
}

pub drops-last : (b : ℕ) (s s' : Side) → s'.count ≡ s.count → not_below b s'.tentative.items ≡ not_below b s.tentative.items → s'.tentative.items ≡ take (length s'.tentative.items) s.tentative.items
    → s'.floor ≡ s.floor → s'.before ≡ s.before → s.floor < b → Drops b s s'
drops-last b s s' count kept begins floor before rises = record {
  stands = λ x h. record {
    many = count ∙ h.many;
    kept = kept ∙ h.kept;
    late = subst (λ (n : ℕ). All (λ (t : Tuple). n ≤ t.stime) s'.tentative.items) (sym floor)
        (subst (λ (ts : List Tuple). All (λ (t : Tuple). s.floor ≤ t.stime) ts) (sym begins)
        (All-take (λ (t : Tuple). s.floor ≤ t.stime) (length s'.tentative.items) s.tentative.items h.late));
    low = let low = h.low in omega (arith, floor, low);
  };
  same = λ low. absurd (omega (arith, low, rises));
  before = before;
}

-- where none is below the bound, all are kept
pub all-kept : (b : ℕ) (s : Side) (x : Reader) → IsSide b s x → b ≤ s.floor → s.tentative.items ≡ not_below b x.tentative
all-kept b s x h high =
    let floor : s.floor ≡ b = let low = h.low in omega (arith, low, high) in
    sym (late-all b s.tentative.items (subst (λ (n : ℕ). All (λ (t : Tuple). n ≤ t.stime) s.tentative.items) floor h.late)) ∙ h.kept

pub side-rise : (b c : ℕ) (s : Side) (x : Reader) → b ≤ c → IsSide b s x → IsSide c s x
side-rise b c s x low h = record {
  many = h.many;
  kept = late-rise b c s.tentative.items x.tentative low h.kept;
  late = h.late;
  low = let l = h.low in omega (arith, l, low);
}

-- nothing happened to the tentative tuples
pub held-same : (s s' : Side) (ts : List Tuple) → s'.tentative.items ≡ s.tentative.items → s'.before ≡ s.before → WasHeld ts s → WasHeld ts s'
held-same s s' ts tuples before h =
    h ∙ ap (λ (us : List Tuple). take (length ts) us)
    (sym (ap (λ (o : Option (Vec Tuple Global)). tuples_in o s'.tentative.items) before ∙ ap (λ (us : List Tuple). tuples_in s.before us) tuples))

-- ---- boundaries

boundary-left : (x next : Reader) (b m : ℕ) → left_by x (reading x (Boundary b m)) ≡ Some next → next ≡ record x { bound = max x.bound b }
boundary-left x next b m =
    elim (nat_le m (length x.stable) && is_sure x) as (λ c. left_by x (cond c (cond (nat_lt x.bound b) (Taken (record x { bound = b })) Skipped) NoReading) ≡ Some next → next ≡ record x { bound = max x.bound b }) [
      | true ↦ (elim (nat_lt x.bound b) as (λ c. nat_lt x.bound b ≡ c → left_by x (cond c (Taken (record x { bound = b })) Skipped) ≡ Some next → next ≡ record x { bound = max x.bound b }) [
        | true ↦ λ less e.
            let l = ltb-true x.bound b less in
            let same : next ≡ record x { bound = b } = cc in
            let greater : b ≡ max x.bound b = omega (arith, l) in
            same ∙ ap (λ n. record x { bound = n }) greater
        | false ↦ λ less e.
            let l = ltb-false x.bound b less in
            let same : next ≡ x = cc in
            let greater : x.bound ≡ max x.bound b = omega (arith, l) in
            same ∙ ap (λ n. record x { bound = n }) greater
      ]) refl
      | false ↦ λ e. absurd (cc)
    ]

pub reads-boundary : (k k' : Known) (s : Side) (b m : ℕ) → k'.stable ≡ k.stable → k'.bound ≡ max k.bound b → ReadsOne (Boundary b m) k s k' s
reads-boundary k k' s b m stable bound = record {
  stands = λ x next y h left o.
      subst (λ (r : Reader). Stands k' s r y) (sym (boundary-left x next b m left)) record {
        covers = record {
          first = subst (λ (ts : List Tuple). x.stable ≡ take (length x.stable) ts) (sym stable) h.covers.first;
          second = subst (λ (ts : List Tuple). y.stable ≡ take (length y.stable) ts) (sym stable) h.covers.second;
          long = ap (λ (ts : List Tuple). length ts) stable ∙ h.covers.long;
          greater = let g = h.covers.greater in omega (arith, bound, g);
        };
        side = let up = side-rise k.bound k'.bound s x (omega (arith, bound)) h.side in record { many = up.many; kept = up.kept; late = up.late; low = up.low };
      };
  held = λ ts h. h;
  rises = omega (arith, bound);
  same_floor = refl;
}

-- ---- stable tuples

stable-other : (x next : Reader) (n : ℕ) (t : Tuple) → n ≢ length x.stable → left_by x (reading x (Stable n t)) ≡ Some next → next ≡ x
stable-other x next n t other =
    elim (nat_lt n (length x.stable)) as (λ c. left_by x (cond c Skipped (cond (n == length x.stable && is_sure x) (Taken (record x { stable = push x.stable t })) NoReading)) ≡ Some next → next ≡ x) [
      | true ↦ λ e. cc
      | false ↦ (elim (n == length x.stable && is_sure x) as (λ c. n == length x.stable && is_sure x ≡ c → left_by x (cond c (Taken (record x { stable = push x.stable t })) NoReading) ≡ Some next → next ≡ x) [
        | true ↦ λ is e. absurd (other (eqb-true n (length x.stable) (and_parts (n == length x.stable) (is_sure x) is).0))
        | false ↦ λ is e. absurd (cc)
      ]) refl
    ]

stable-next : (x next : Reader) (n : ℕ) (t : Tuple) → n ≡ length x.stable → left_by x (reading x (Stable n t)) ≡ Some next → next ≡ record x { stable = push x.stable t }
stable-next x next n t same =
    (elim (nat_lt n (length x.stable)) as (λ c. nat_lt n (length x.stable) ≡ c → left_by x (cond c Skipped (cond (n == length x.stable && is_sure x) (Taken (record x { stable = push x.stable t })) NoReading)) ≡ Some next → next ≡ record x { stable = push x.stable t }) [
      | true ↦ λ less e. let l = ltb-true n (length x.stable) less in absurd (omega (arith, l, same))
      | false ↦ λ less. elim (n == length x.stable && is_sure x) as (λ c. left_by x (cond c (Taken (record x { stable = push x.stable t })) NoReading) ≡ Some next → next ≡ record x { stable = push x.stable t }) [
        | true ↦ λ e. cc
        | false ↦ λ e. absurd (cc)
      ]
    ]) refl

-- it is not the next one
pub reads-other : (k : Known) (s : Side) (n : ℕ) (t : Tuple) → ((n ≡ s.count) → length k.stable < n) → ReadsOne (Stable n t) k s k s
reads-other k s n t other = record {
  stands = λ x next y h left o.
      subst (λ (r : Reader). Stands k s r y) (sym (stable-other x next n t (λ is.
      let many = h.side.many in
      let far = other (omega (arith, is, many)) in
      let long = h.covers.long in absurd (omega (arith, far, long, is))) left)) h;
  held = λ ts h. h;
  rises = omega arith;
  same_floor = refl;
}

-- one more is counted
counted : (b : ℕ) (s s' : Side) (x : Reader) (t : Tuple) → s'.count ≡ s.count + 1 → s'.tentative.items ≡ s.tentative.items → s'.floor ≡ s.floor → IsSide b s x → IsSide b s' (record x { stable = push x.stable t })
counted b s s' x t count tuples floor h = record {
  many = let m = h.many in let l = length_push x.stable t in omega (arith, count, m, l);
  kept = ap (not_below b) tuples ∙ h.kept;
  late = subst (λ (n : ℕ). All (λ (u : Tuple). n ≤ u.stime) s'.tentative.items) (sym floor) (subst (λ (us : List Tuple). All (λ (u : Tuple). s.floor ≤ u.stime) us) (sym tuples) h.late);
  low = let l = h.low in omega (arith, l, floor);
}

-- the other reader doesn't have it
longer-covers : (k k' : Known) (x y : Reader) (t : Tuple) → Covers k x y → length x.stable ≡ length k.stable → k'.stable ≡ push k.stable t → k'.bound ≡ k.bound → Covers k' (record x { stable = push x.stable t }) y
longer-covers k k' x y t h whole stable bound =
    let all = begins-whole x.stable k.stable (record { is = h.first }) (omega (arith, whole)) in
    let next = begins-through y.stable k.stable (push k.stable t) (record { is = h.second }) (begins-append k.stable (t ∷ [])) in
    let front = subst (λ (ts : List Tuple). Begins (push x.stable t) (push ts t)) all (begins-self (push x.stable t)) in
    let few = begins-length y.stable k.stable (record { is = h.second }) in
    let l = length_push x.stable t in
    let m = length_push k.stable t in
    record {
      first = subst (λ (ts : List Tuple). push x.stable t ≡ take (length (push x.stable t)) ts) (sym stable) front.is;
      second = subst (λ (ts : List Tuple). y.stable ≡ take (length y.stable) ts) (sym stable) next.is;
      long = ap (λ (ts : List Tuple). length ts) stable ∙ omega (arith, l, m, few, whole);
      greater = bound ∙ h.greater;
    }

-- the other reader has it
shared-covers : (k : Known) (x y : Reader) (t : Tuple) → Covers k x y → length x.stable < length k.stable → OneBegins (push x.stable t) y.stable → Covers k (record x { stable = push x.stable t }) y
shared-covers k x y t h less o =
    let long = h.long in
    let l = length_push x.stable t in
    let whole = begins-whole y.stable k.stable (record { is = h.second }) (omega (arith, long, less)) in
    let first = first-begins (push x.stable t) y.stable o in
    let front = by_longer whole (omega (arith, long, less, l)) in
    record { first = front.is; second = h.second; long = omega (arith, long, less, l); greater = h.greater }
  where
    by_longer : y.stable ≡ k.stable → length (push x.stable t) ≤ length y.stable → Begins (push x.stable t) k.stable
    by_longer whole few =
        subst (λ (ts : List Tuple). Begins (push x.stable t) ts) whole
        (begins-both (push x.stable t) y.stable (longer (push x.stable t) y.stable) (first-begins (push x.stable t) y.stable o) (second-begins (push x.stable t) y.stable o) few)

pub reads-new : (k k' : Known) (s s' : Side) (n : ℕ) (t : Tuple) → n ≡ s.count → n ≡ length k.stable → k'.stable ≡ push k.stable t → k'.bound ≡ k.bound
    → s'.count ≡ n + 1 → s'.tentative.items ≡ s.tentative.items → s'.floor ≡ s.floor → s'.before ≡ s.before → ReadsOne (Stable n t) k s k' s'
reads-new k k' s s' n t is end stable bound count tuples floor before = record {
  stands = λ x next y h left o.
      let many = h.side.many in
      let side = counted k.bound s s' x t (omega (arith, count, is)) tuples floor h.side in
      subst (λ (r : Reader). Stands k' s' r y) (sym (stable-next x next n t (omega (arith, is, many)) left)) record {
        covers = longer-covers k k' x y t h.covers (omega (arith, is, many, end)) stable bound;
        side = subst (λ (b : ℕ). IsSide b s' (record x { stable = push x.stable t })) (sym bound) side;
      };
  held = λ ts h. held-same s s' ts tuples before h;
  rises = omega (arith, bound);
  same_floor = floor;
}

pub reads-shared : (k : Known) (s s' : Side) (n : ℕ) (t : Tuple) → n ≡ s.count → n < length k.stable
    → s'.count ≡ n + 1 → s'.tentative.items ≡ s.tentative.items → s'.floor ≡ s.floor → s'.before ≡ s.before → ReadsOne (Stable n t) k s k s'
reads-shared k s s' n t is less count tuples floor before = record {
  stands = λ x next y h left o.
      let many = h.side.many in
      let same = stable-next x next n t (omega (arith, is, many)) left in
      subst (λ (r : Reader). Stands k s' r y) (sym same) record {
        covers = shared-covers k x y t h.covers (omega (arith, is, many, less)) (subst (λ (r : Reader). OneBegins r.stable y.stable) same o);
        side = counted k.bound s s' x t (omega (arith, count, is)) tuples floor h.side;
      };
  held = λ ts h. held-same s s' ts tuples before h;
  rises = omega arith;
  same_floor = floor;
}

-- ---- several items

pub one-before : (xs xs' ys : List Tuple) → Begins xs xs' → OneBegins xs' ys → OneBegins xs ys
one-before xs xs' ys h o = one-begins xs ys (longer xs' ys) (begins-through xs xs' (longer xs' ys) h (first-begins xs' ys o)) (second-begins xs' ys o)

pub reads-more : (items : List Item) (n : ℕ) (i : Item) (k k1 k2 : Known) (s s1 s2 : Side) → n < length items → i ≡ get_or items n i
    → ReadsAll (take n items) k s k1 s1 → ReadsOne i k1 s1 k2 s2 → ReadsAll (take (n + 1) items) k s k2 s2
reads-more items n i k k1 k2 s s1 s2 within is h one = record {
  stands = λ x next y stands left o.
      let more = take_more items n i within ∙ ap (λ j. take n items ++ j ∷ []) (sym is) in
      let b = before-last x next (take n items) i (subst (λ (is : List Item). Leaves x is next) more left) in
      let on = one-onward b.mid next i b.last in
      one.stands b.mid next y (h.stands x b.mid y stands b.front (one-before b.mid.stable next.stable y.stable on.stable o)) b.last o;
  held = λ ts w. one.held ts (h.held ts w);
  rises = let a = h.rises in let c = one.rises in omega (arith, a, c);
  same_floor = one.same_floor ∙ h.same_floor;
}
