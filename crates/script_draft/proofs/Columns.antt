-- The columns that a draft by code keeps are those of its plan, and stay so.
use Rattle.std.proofs.Common.{◌≡◌, ◌≢◌, ℕ, zero, suc, ◌+◌, ◌-◌, ◌<◌, ◌≤◌, true, false, List, [], ◌∷◌, ◌++◌, map, take, length, Option, Some, None, refl, sym, ap, subst, ◌∙◌, arith, get_or, slice_set, length-append}
use Rattle.std.specs.Prelude.{nat_le, unwrap_or}
use Rattle.std.proofs.lemmas.Bool.{and_parts, leb-true, le-leb, ltb-true}
use Rattle.dpc_lists.specs.Lists.{nth, push, last_or, list_all, is_nil}
use Rattle.dpc_model.specs.Columns.{kind_columns, wire_columns, columns_after, fragment_columns, columns_by, frags_columns, stream_columns}
use Rattle.dpc_model.specs.declared.operators.OpSpec.{OpSpec}
use Rattle.dpc_model.specs.declared.plans.SourceSpec.{SourceSpec}
use Rattle.dpc_model.specs.declared.plans.FragSpec.{FragSpec}
use Rattle.dpc_model.specs.declared.plans.Plan.{Plan}
use Rattle.dpc_model.specs.declared.plans.StreamRef.{StreamRef}
use Rattle.dpc_model.specs.declared.plans.StreamRef.TheVariants.{Source, Frag}
use Rattle.dpc_lists.proofs.Elements.{map-same}
use Rattle.script_rules.specs.Drafts.{Draft, plan_of, last_frag, change_last, with_op, with_delay}
use Rattle.script_rules.proofs.Fitting.{change-last}
use Rattle.script_draft.specs.Columns.{source_columns, columns_in, outputs_behind, last_of, front_of, ports_of, outs_of, is_among_streams, are_few, AreColumns}

-- ---- the last element, and those before it

pub front-push : (fs : List FragSpec) (f : FragSpec) → front_of (fs ++ f ∷ []) ≡ fs
front-push fs f =
    let many : length (fs ++ f ∷ []) - 1 ≡ length fs = let sum = length-append fs (f ∷ []) in omega (arith, sum) in
    ap (λ n. take n (fs ++ f ∷ [])) many ∙ first fs
  where
    first : (fs : List FragSpec) → take (length fs) (fs ++ f ∷ []) ≡ fs
    first [] = refl
    first (g ∷ fs) = ap (λ l. g ∷ l) (first fs)

last-or-push : {X : Type 0} (o : Option X) (xs : List X) (x : X) → last_or o (xs ++ x ∷ []) ≡ Some x
last-or-push o [] x = refl
last-or-push o (y ∷ xs) x = last-or-push (Some y) xs x

pub last-push : (fs : List FragSpec) (f : FragSpec) → last_of (fs ++ f ∷ []) ≡ f
last-push fs f = ap (λ o. unwrap_or o (record { name = []; replicas = 0; delay = None; inputs = []; ops = [] })) (last-or-push None fs f)

-- a list that is not empty is its front and its last
split : (f : FragSpec) (fs : List FragSpec) → (front : List FragSpec) × (last : FragSpec) × (f ∷ fs ≡ front ++ last ∷ [])
split f [] = ([], f, refl)
split f (g ∷ fs) = let rest = split g fs in (f ∷ rest.0, rest.1, ap (λ l. f ∷ l) rest.2)

pub parted : (fs : List FragSpec) → is_nil fs ≡ false → fs ≡ front_of fs ++ last_of fs ∷ []
parted [] h = absurd cc
parted (f ∷ fs) h =
    let s = split f fs in
    let front : front_of (f ∷ fs) ≡ s.0 = ap front_of s.2 ∙ front-push s.0 s.1 in
    let last : last_of (f ∷ fs) ≡ s.1 = ap last_of s.2 ∙ last-push s.0 s.1 in
    s.2 ∙ ap (λ l. l ++ s.1 ∷ []) (sym front) ∙ ap (λ x. front_of (f ∷ fs) ++ x ∷ []) (sym last)

pub nil-none : {X : Type 0} (xs : List X) → length xs ≡ 0 → is_nil xs ≡ true
nil-none [] h = refl
nil-none (x ∷ xs) h = absurd (omega (arith, h))

pub nil-some : {X : Type 0} (xs : List X) → length xs ≢ 0 → is_nil xs ≡ false
nil-some [] h = absurd (h refl)
nil-some (x ∷ xs) h = refl

pub some-long : {X : Type 0} (xs : List X) → is_nil xs ≡ false → 0 < length xs
some-long [] h = absurd cc
some-long (x ∷ xs) h = omega arith

-- ---- those of the plan

by-in : (plan : Plan) (frags : List ℕ) (s : StreamRef) → columns_by plan frags s ≡ columns_in (source_columns plan.sources) frags s
by-in plan frags (Source s) = refl
by-in plan frags (Frag f) = refl

outputs-same : (plan : Plan) (done : List ℕ) (fs : List FragSpec) → frags_columns plan done fs ≡ outputs_behind (source_columns plan.sources) done fs
outputs-same plan done [] = refl
outputs-same plan done (f ∷ fs) =
    outputs-same plan (push done (fragment_columns (map (columns_by plan done) f.inputs) f.ops)) fs
    ∙ ap (λ ports. outputs_behind (source_columns plan.sources) (push done (fragment_columns ports f.ops)) fs)
    (map-same (columns_by plan done) (columns_in (source_columns plan.sources) done) f.inputs (by-in plan done))

outputs-push : (sources done : List ℕ) (fs : List FragSpec) (f : FragSpec) →
    outputs_behind sources done (fs ++ f ∷ []) ≡ push (outputs_behind sources done fs) (fragment_columns (map (columns_in sources (outputs_behind sources done fs)) f.inputs) f.ops)
outputs-push sources done [] f = refl
outputs-push sources done (g ∷ fs) f = outputs-push sources (push done (fragment_columns (map (columns_in sources done) g.inputs) g.ops)) fs f

outputs-many : (sources done : List ℕ) (fs : List FragSpec) → length (outputs_behind sources done fs) ≡ length done + length fs
outputs-many sources done [] = let same : length done ≡ length done + 0 = omega arith in same
outputs-many sources done (f ∷ fs) =
    let more = push done (fragment_columns (map (columns_in sources done) f.inputs) f.ops) in
    let rest = outputs-many sources more fs in
    let one : length more ≡ length done + 1 = length-append done (fragment_columns (map (columns_in sources done) f.inputs) f.ops ∷ []) in
    let all : length more + length fs ≡ length done + suc (length fs) = omega (arith, one) in rest ∙ all

-- the columns of all fragments
pub outputs-whole : (sources : List ℕ) (frags : List FragSpec) (earlier ports outs : List ℕ) → AreColumns sources frags earlier ports outs → is_nil frags ≡ false →
    earlier ++ unwrap_or (last_or None outs) 0 ∷ [] ≡ outputs_behind sources [] frags
outputs-whole sources frags earlier ports outs h some =
    let f = last_of frags in
    sym (ap (outputs_behind sources []) (parted frags some) ∙ outputs-push sources [] (front_of frags) f
    ∙ ap (λ e. push e (fragment_columns (map (columns_in sources e) f.inputs) f.ops)) (sym h.earlier_is)
    ∙ ap (λ p. push earlier (fragment_columns p f.ops)) (sym h.ports_is) ∙ ap (λ o. push earlier (unwrap_or (last_or None o) 0)) (sym h.outs_is))

pub outputs-none : (sources : List ℕ) (frags : List FragSpec) (earlier ports outs : List ℕ) → AreColumns sources frags earlier ports outs → is_nil frags ≡ true → earlier ≡ outputs_behind sources [] frags
outputs-none sources [] earlier ports outs h none = h.earlier_is
outputs-none sources (f ∷ fs) earlier ports outs h none = absurd cc

nth-first : (xs ys : List ℕ) (i : ℕ) → i < length xs → nth 0 (xs ++ ys) i ≡ nth 0 xs i
nth-first [] ys i low = absurd (omega (arith, low))
nth-first (x ∷ xs) ys zero low = refl
nth-first (x ∷ xs) ys (suc i) low = nth-first xs ys i (omega (arith, low))

one-stream : (sources earlier : List ℕ) (n c : ℕ) (s : StreamRef) → n ≤ length earlier → is_among_streams (length sources) n s ≡ true → columns_in sources (earlier ++ c ∷ []) s ≡ columns_in sources earlier s
one-stream sources earlier n c (Source s) many low = refl
one-stream sources earlier n c (Frag f) many low = nth-first earlier (c ∷ []) f (let below = ltb-true f n low in omega (arith, many, below))

each-stream : (sources earlier : List ℕ) (n c : ℕ) (ss : List StreamRef) → n ≤ length earlier → list_all (is_among_streams (length sources) n) ss ≡ true →
    map (columns_in sources (earlier ++ c ∷ [])) ss ≡ map (columns_in sources earlier) ss
each-stream sources earlier n c [] many low = refl
each-stream sources earlier n c (s ∷ ss) many low =
    let p = and_parts (is_among_streams (length sources) n s) (list_all (is_among_streams (length sources) n) ss) low in
    ap (λ x. x ∷ map (columns_in sources (earlier ++ c ∷ [])) ss) (one-stream sources earlier n c s many p.0) ∙ ap (λ l. columns_in sources earlier s ∷ l) (each-stream sources earlier n c ss many p.1)

no-inputs : (fs : List FragSpec) → is_nil fs ≡ true → (last_of fs).inputs ≡ []
no-inputs [] none = refl
no-inputs (f ∷ fs) none = absurd cc

-- the ports' columns are those of the plan
pub ports-same : (d : Draft) (earlier ports outs : List ℕ) → AreColumns (source_columns d.sources) d.frags earlier ports outs → ports_of d ≡ ports
ports-same d earlier ports outs h =
    (elim (is_nil d.frags) as (λ b. is_nil d.frags ≡ b → ports_of d ≡ ports) [
      | true ↦ λ none. none-there none
      | false ↦ λ some. some-there some
    ]) refl
  where
    none-there : is_nil d.frags ≡ true → ports_of d ≡ ports
    none-there none =
        let empty = no-inputs d.frags none in
        ap (map (stream_columns (plan_of d))) empty ∙ ap (map (columns_in (source_columns d.sources) earlier)) (sym empty) ∙ sym h.ports_is

    some-there : is_nil d.frags ≡ false → ports_of d ≡ ports
    some-there some =
        let sources = source_columns d.sources in
        let plan = plan_of d in
        let c = unwrap_or (last_or None outs) 0 in
        let many : length (front_of d.frags) ≤ length earlier =
        let count = outputs-many sources [] (front_of d.frags) in let same = ap (λ (l : List ℕ). length l) h.earlier_is in omega (arith, count, same) in
        map-same (stream_columns plan) (columns_in sources (earlier ++ c ∷ [])) (last_frag d).inputs
        (λ s. by-in plan (frags_columns plan [] d.frags) s ∙ ap (λ l. columns_in sources l s) (outputs-same plan [] d.frags ∙ sym (outputs-whole sources d.frags earlier ports outs h some)))
        ∙ each-stream sources earlier (length (front_of d.frags)) c (last_frag d).inputs many h.inputs ∙ sym h.ports_is

pub outs-same : (d : Draft) (earlier ports outs : List ℕ) → AreColumns (source_columns d.sources) d.frags earlier ports outs → outs_of d ≡ outs
outs-same d earlier ports outs h = ap (λ p. columns_after p [] (last_frag d).ops) (ports-same d earlier ports outs h) ∙ sym h.outs_is

-- ---- few columns

pub few-nth : (xs : List ℕ) (i : ℕ) → are_few xs ≡ true → nth 0 xs i ≤ 8
few-nth [] i h = omega arith
few-nth (x ∷ xs) zero h = let p = and_parts (nat_le x 8) (are_few xs) h in leb-true x 8 p.0
few-nth (x ∷ xs) (suc i) h = let p = and_parts (nat_le x 8) (are_few xs) h in few-nth xs i p.1

few-push : (xs : List ℕ) (n : ℕ) → are_few xs ≡ true → n ≤ 8 → are_few (xs ++ n ∷ []) ≡ true
few-push [] n h low = let here : nat_le n 8 ≡ true = le-leb n 8 low in rw here refl
few-push (x ∷ xs) n h low = let p = and_parts (nat_le x 8) (are_few xs) h in rw (p.0, few-push xs n p.1 low) refl

few-last : (o : Option ℕ) (xs : List ℕ) → unwrap_or o 0 ≤ 8 → are_few xs ≡ true → unwrap_or (last_or o xs) 0 ≤ 8
few-last o [] low h = low
few-last o (x ∷ xs) low h = let p = and_parts (nat_le x 8) (are_few xs) h in few-last (Some x) xs (leb-true x 8 p.0) p.1

few-streams : (sources frags : List ℕ) (ss : List StreamRef) → are_few sources ≡ true → are_few frags ≡ true → are_few (map (columns_in sources frags) ss) ≡ true
few-streams sources frags [] h k = refl
few-streams sources frags (Source s ∷ ss) h k = let here : nat_le (nth 0 sources s) 8 ≡ true = le-leb (nth 0 sources s) 8 (few-nth sources s h) in rw (here, few-streams sources frags ss h k) refl
few-streams sources frags (Frag f ∷ ss) h k = let here : nat_le (nth 0 frags f) 8 ≡ true = le-leb (nth 0 frags f) 8 (few-nth frags f k) in rw (here, few-streams sources frags ss h k) refl

-- ---- further lines keep them

pub columns-source : (sources : List ℕ) (n : ℕ) (frags : List FragSpec) (earlier ports outs : List ℕ) → AreColumns sources frags earlier ports outs → is_nil frags ≡ true → n ≤ 8 →
    AreColumns (sources ++ n ∷ []) frags earlier ports outs
columns-source sources n [] earlier ports outs h none low = record {
  earlier_is = h.earlier_is;
  ports_is = h.ports_is;
  outs_is = h.outs_is;
  inputs = refl;
  few_sources = few-push sources n h.few_sources low;
  few_earlier = h.few_earlier;
  few_ports = h.few_ports;
  few_outs = h.few_outs;
}
columns-source sources n (f ∷ fs) earlier ports outs h none low = absurd cc

pub columns-fragment : (sources : List ℕ) (frags : List FragSpec) (earlier ports outs : List ℕ) (f : FragSpec) (next own : List ℕ) → AreColumns sources frags earlier ports outs → f.ops ≡ [] →
    next ≡ outputs_behind sources [] frags → own ≡ map (columns_in sources next) f.inputs → list_all (is_among_streams (length sources) (length frags)) f.inputs ≡ true → are_few next ≡ true →
    AreColumns sources (frags ++ f ∷ []) next own []
columns-fragment sources frags earlier ports outs f next own h empty next_is own_is inputs few = record {
  earlier_is = next_is ∙ ap (outputs_behind sources []) (sym (front-push frags f));
  ports_is = own_is ∙ ap (λ (x : FragSpec). map (columns_in sources next) x.inputs) (sym (last-push frags f));
  outs_is = ap (λ ops. columns_after own [] ops) (sym empty) ∙ ap (λ (x : FragSpec). columns_after own [] x.ops) (sym (last-push frags f));
  inputs = subst (λ n. list_all (is_among_streams (length sources) n) (last_of (frags ++ f ∷ [])).inputs ≡ true) (ap (λ (l : List FragSpec). length l) (sym (front-push frags f)))
      (subst (λ (x : FragSpec). list_all (is_among_streams (length sources) (length frags)) x.inputs ≡ true) (sym (last-push frags f)) inputs);
  few_sources = h.few_sources;
  few_earlier = few;
  few_ports = rw own_is (few-streams sources next f.inputs h.few_sources few);
  few_outs = refl;
}

-- .. and the columns of all fragments are few
pub few-outputs : (sources : List ℕ) (frags : List FragSpec) (earlier ports outs : List ℕ) → AreColumns sources frags earlier ports outs → are_few (outputs_behind sources [] frags) ≡ true
few-outputs sources frags earlier ports outs h =
    (elim (is_nil frags) as (λ b. is_nil frags ≡ b → are_few (outputs_behind sources [] frags) ≡ true) [
      | true ↦ λ none. subst (λ l. are_few l ≡ true) (outputs-none sources frags earlier ports outs h none) h.few_earlier
      | false ↦ λ some. subst (λ l. are_few l ≡ true) (outputs-whole sources frags earlier ports outs h some)
          (few-push earlier (unwrap_or (last_or None outs) 0) h.few_earlier (few-last None outs (omega arith) h.few_outs))
    ]) refl

-- the last fragment is changed, but for what it reads
changed-columns : (sources : List ℕ) (g : FragSpec → FragSpec) (front : List FragSpec) (f : FragSpec) (earlier ports outs new : List ℕ) → ((x : FragSpec) → (g x).inputs ≡ x.inputs) →
    AreColumns sources (front ++ f ∷ []) earlier ports outs → new ≡ columns_after ports [] (g f).ops → are_few new ≡ true → AreColumns sources (front ++ g f ∷ []) earlier ports new
changed-columns sources g front f earlier ports outs new same h new_is few = record {
  earlier_is = h.earlier_is ∙ ap (outputs_behind sources []) (front-push front f ∙ sym (front-push front (g f)));
  ports_is = h.ports_is ∙ ap (λ ss. map (columns_in sources earlier) ss) inputs;
  outs_is = new_is ∙ ap (λ (x : FragSpec). columns_after ports [] x.ops) (sym (last-push front (g f)));
  inputs = subst (λ n. list_all (is_among_streams (length sources) n) (last_of (front ++ g f ∷ [])).inputs ≡ true) (ap (λ (l : List FragSpec). length l) (front-push front f ∙ sym (front-push front (g f))))
      (subst (λ ss. list_all (is_among_streams (length sources) (length (front_of (front ++ f ∷ [])))) ss ≡ true) inputs h.inputs);
  few_sources = h.few_sources;
  few_earlier = h.few_earlier;
  few_ports = h.few_ports;
  few_outs = few;
}
  where
    inputs : (last_of (front ++ f ∷ [])).inputs ≡ (last_of (front ++ g f ∷ [])).inputs
    inputs = ap (λ (x : FragSpec). x.inputs) (last-push front f) ∙ sym (same f) ∙ ap (λ (x : FragSpec). x.inputs) (sym (last-push front (g f)))

pub columns-patience : (sources : List ℕ) (delay : ℕ) (frags : List FragSpec) (earlier ports outs : List ℕ) → AreColumns sources frags earlier ports outs →
    AreColumns sources (change_last (with_delay delay) frags) earlier ports outs
columns-patience sources delay [] earlier ports outs h = h
columns-patience sources delay (x ∷ xs) earlier ports outs h =
    let s = split x xs in
    let now = subst (λ fs. AreColumns sources fs earlier ports outs) s.2 h in
    let outs_now : outs ≡ columns_after ports [] s.1.ops = now.outs_is ∙ ap (λ (y : FragSpec). columns_after ports [] y.ops) (last-push s.0 s.1) in
    subst (λ fs. AreColumns sources fs earlier ports outs) (sym (ap (change_last (with_delay delay)) s.2 ∙ change-last (with_delay delay) s.0 s.1))
    (changed-columns sources (with_delay delay) s.0 s.1 earlier ports outs outs (λ y. refl) now outs_now h.few_outs)

after-push : (ports outputs : List ℕ) (ops : List OpSpec) (op : OpSpec) →
    columns_after ports outputs (ops ++ op ∷ []) ≡ push (columns_after ports outputs ops) (kind_columns op.kind (map (wire_columns ports (columns_after ports outputs ops)) op.reads))
after-push ports outputs [] op = refl
after-push ports outputs (o ∷ ops) op = after-push ports (push outputs (kind_columns o.kind (map (wire_columns ports outputs) o.reads))) ops op

pub columns-operator : (sources : List ℕ) (op : OpSpec) (frags : List FragSpec) (earlier ports outs : List ℕ) (n : ℕ) → AreColumns sources frags earlier ports outs → is_nil frags ≡ false →
    n ≡ kind_columns op.kind (map (wire_columns ports outs) op.reads) → n ≤ 8 → AreColumns sources (change_last (with_op op) frags) earlier ports (outs ++ n ∷ [])
columns-operator sources op [] earlier ports outs n h some is low = absurd cc
columns-operator sources op (x ∷ xs) earlier ports outs n h some is low =
    let s = split x xs in
    let now = subst (λ fs. AreColumns sources fs earlier ports outs) s.2 h in
    let outs_now : outs ≡ columns_after ports [] s.1.ops = now.outs_is ∙ ap (λ (y : FragSpec). columns_after ports [] y.ops) (last-push s.0 s.1) in
    let new : outs ++ n ∷ [] ≡ columns_after ports [] (with_op op s.1).ops =
    ap (λ m. outs ++ m ∷ []) is ∙ ap (λ o. push o (kind_columns op.kind (map (wire_columns ports o) op.reads))) outs_now ∙ sym (after-push ports [] s.1.ops op) in
    subst (λ fs. AreColumns sources fs earlier ports (outs ++ n ∷ [])) (sym (ap (change_last (with_op op)) s.2 ∙ change-last (with_op op) s.0 s.1))
    (changed-columns sources (with_op op) s.0 s.1 earlier ports outs (outs ++ n ∷ []) (λ y. refl) now new (few-push outs n h.few_outs low))

-- a log does not change them
pub source-columns-set : (sources : List SourceSpec) (i : ℕ) (old new : SourceSpec) → old ≡ get_or sources i old → new.columns ≡ old.columns → source_columns (slice_set sources i new) ≡ source_columns sources
source-columns-set [] i old new is same = refl
source-columns-set (s ∷ sources) zero old new is same = ap (λ n. n ∷ source_columns sources) (same ∙ ap (λ (x : SourceSpec). x.columns) is)
source-columns-set (s ∷ sources) (suc i) old new is same = ap (λ l. s.columns ∷ l) (source-columns-set sources i old new is same)
