-- Lists of tuples one after the other.
use Rattle.std.proofs.Common.{◌≡◌, ℕ, zero, suc, ◌+◌, ◌<◌, ◌≤◌, true, false, cond, nat_le, nat_lt, ◌&&◌, List, [], ◌∷◌, ◌++◌, map, take, drop, length, refl, sym, ap, subst, ◌∙◌, arith, slice_index_or, append_assoc, append-nil, length-append}
use Rattle.std.proofs.lemmas.Grind.{common_steps}
use Rattle.std.proofs.lemmas.Bool.{false≢true, ltb-true, leb-true, ltb-false}
use Rattle.std.proofs.lemmas.List.{map-append, take_more, drop_more, drop_all, take-append-drop}
use Rattle.std.proofs.lemmas.List.Elements.{filter-append}
use Rattle.dpc_model.specs.Fragments.{tag}
use Rattle.dpc_model.specs.Operators.{between}
use Rattle.dpc_model.specs.Streams.{NoneBelow, InOrder, time_of, is_below, cut, count_below}
use Rattle.dpc_model.specs.declared.tuples.Tagged.{Tagged}
use Rattle.dpc_model.specs.declared.tuples.Tuple.{Tuple}
use Rattle.dpc_model.proofs.Cuts.{none-below}
use Rattle.held_tuples.specs.Runs.{joined, AllBelow, begins_from, ends_below}

pub joined-append : (tss uss : List (List Tuple)) → joined (tss ++ uss) ≡ joined tss ++ joined uss
joined-append [] uss = refl
joined-append (ts ∷ tss) uss = ap (λ (us : List Tuple). ts ++ us) (joined-append tss uss) ∙ sym (append_assoc ts (joined tss) (joined uss))

-- one list more
pub joined-push : (tss : List (List Tuple)) (ts : List Tuple) → joined (tss ++ ts ∷ []) ≡ joined tss ++ ts
joined-push tss ts = joined-append tss (ts ∷ []) ∙ ap (λ (us : List Tuple). joined tss ++ us) (append-nil ts)

joined-split : (n : ℕ) (tss : List (List Tuple)) → joined tss ≡ joined (take n tss) ++ joined (drop n tss)
joined-split n tss = ap joined (sym (take-append-drop n tss)) ∙ joined-append (take n tss) (drop n tss)

pub joined-drop : (tss : List (List Tuple)) (i : ℕ) (ts : List Tuple) → i < length tss → ts ≡ slice_index_or tss i ts → joined (drop i tss) ≡ ts ++ joined (drop (i + 1) tss)
joined-drop tss i ts low e = ap joined (drop_more tss i ts low) ∙ ap (λ (us : List Tuple). us ++ joined (drop (i + 1) tss)) (sym e)

-- ---- order

NoneBelow-front : (n : ℕ) (ts us : List Tuple) → NoneBelow time_of n (ts ++ us) → NoneBelow time_of n ts
NoneBelow-front n [] us s = tt
NoneBelow-front n (t ∷ ts) us s = (s.0, NoneBelow-front n ts us s.1)

NoneBelow-behind : (n : ℕ) (ts us : List Tuple) → NoneBelow time_of n (ts ++ us) → NoneBelow time_of n us
NoneBelow-behind n [] us s = s
NoneBelow-behind n (t ∷ ts) us s = NoneBelow-behind n ts us s.1

InOrder-front : (ts us : List Tuple) → InOrder (ts ++ us) → InOrder ts
InOrder-front [] us o = tt
InOrder-front (t ∷ ts) us o = (NoneBelow-front t.stime ts us o.0, InOrder-front ts us o.1)

InOrder-behind : (ts us : List Tuple) → InOrder (ts ++ us) → InOrder us
InOrder-behind [] us o = o
InOrder-behind (t ∷ ts) us o = InOrder-behind ts us o.1

pub order-left : (tss : List (List Tuple)) (i : ℕ) → InOrder (joined tss) → InOrder (joined (drop i tss))
order-left tss i o = InOrder-behind (joined (take i tss)) (joined (drop i tss)) (subst InOrder (joined-split i tss) o)

pub order-at : (tss : List (List Tuple)) (i : ℕ) (ts : List Tuple) → i < length tss → ts ≡ slice_index_or tss i ts → InOrder (joined tss) → InOrder ts
order-at tss i ts low e o = InOrder-front ts (joined (drop (i + 1) tss)) (subst InOrder (joined-drop tss i ts low e) (order-left tss i o))

-- ---- lists before which all lies below a time

all-below : (b : ℕ) (ts : List Tuple) → InOrder ts → ends_below b ts ≡ true → AllBelow b ts
all-below b [] o e = absurd (false≢true e)
all-below b (t ∷ []) o e = (ltb-true t.stime b e, tt)
all-below b (t ∷ u ∷ ts) o e = let rest = all-below b (u ∷ ts) o.1 e in let first = o.0.0 in let next = rest.0 in (omega (arith, first, next), rest)

ends-behind : (b : ℕ) (ts us : List Tuple) → ends_below b us ≡ true → ends_below b (ts ++ us) ≡ true
ends-behind b [] us e = e
ends-behind b (t ∷ []) [] e = absurd (false≢true e)
ends-behind b (t ∷ []) (u ∷ us) e = e
ends-behind b (t ∷ u ∷ ts) us e = ends-behind b (u ∷ ts) us e

-- up to a list that ends below the time
pub below-upto : (b i : ℕ) (tss : List (List Tuple)) (ts : List Tuple) → i < length tss → ts ≡ slice_index_or tss i ts → ends_below b ts ≡ true → InOrder (joined tss) → AllBelow b (joined (take (i + 1) tss))
below-upto b i tss ts low e ends o =
    let these : joined (take (i + 1) tss) ≡ joined (take i tss) ++ ts =
    ap joined (take_more tss i ts low) ∙ joined-push (take i tss) (slice_index_or tss i ts) ∙ ap (λ (us : List Tuple). joined (take i tss) ++ us) (sym e) in
    let all : InOrder (joined (take (i + 1) tss)) = InOrder-front (joined (take (i + 1) tss)) (joined (drop (i + 1) tss)) (subst InOrder (joined-split (i + 1) tss) o) in
    all-below b (joined (take (i + 1) tss)) all (subst (λ (us : List Tuple). ends_below b us ≡ true) (sym these) (ends-behind b (joined (take i tss)) ts ends))

-- the last tuple
pub ends-at : (b : ℕ) (ts : List Tuple) (d : Tuple) (i : ℕ) → i + 1 ≡ length ts → nat_lt (slice_index_or ts i d).stime b ≡ ends_below b ts
ends-at b [] d i last = absurd (omega (arith, last))
ends-at b (t ∷ []) d zero last = refl
ends-at b (t ∷ []) d (suc i) last = absurd (omega (arith, last))
ends-at b (t ∷ u ∷ ts) d zero last = absurd (omega (arith, last))
ends-at b (t ∷ u ∷ ts) d (suc i) last = ends-at b (u ∷ ts) d i (omega (arith, last))

pub begins-at : (b : ℕ) (ts : List Tuple) (t : Tuple) → 0 < length ts → ((d : Tuple) → t ≡ slice_index_or ts 0 d) → nat_le b t.stime ≡ begins_from b ts
begins-at b [] t some e = absurd (omega (arith, some))
begins-at b (u ∷ ts) t some e = ap (λ (v : Tuple). nat_le b v.stime) (e u)

-- ---- those from one time on and below another

between-append : (from upto : ℕ) (ts us : List Tuple) → between from upto (ts ++ us) ≡ between from upto ts ++ between from upto us
between-append from upto ts us = filter-append (λ (t : Tuple). nat_le from t.stime && is_below upto t) ts us

none-early : (from upto : ℕ) (ts : List Tuple) → AllBelow from ts → between from upto ts ≡ []
none-early from upto [] low = refl
none-early from upto (t ∷ ts) low = let first = low.0 in let rest = none-early from upto ts low.1 in grind (arith, common_steps, first, rest)

none-late : (from upto n : ℕ) (ts : List Tuple) → upto ≤ n → NoneBelow time_of n ts → between from upto ts ≡ []
none-late from upto n [] late s = refl
none-late from upto n (t ∷ ts) late s = let first = s.0 in let rest = none-late from upto n ts late s.1 in grind (arith, common_steps, first, rest, late)

-- those before which all lies below the first time have them all
pub between-start : (from upto i : ℕ) (tss : List (List Tuple)) → AllBelow from (joined (take i tss)) → between from upto (joined (drop i tss)) ≡ between from upto (joined tss)
between-start from upto i tss low =
    sym (ap (λ (ts : List Tuple). between from upto ts) (joined-split i tss)
    ∙ between-append from upto (joined (take i tss)) (joined (drop i tss))
    ∙ ap (λ (ts : List Tuple). ts ++ between from upto (joined (drop i tss))) (none-early from upto (joined (take i tss)) low))

-- one list more
pub between-next : (port from upto i : ℕ) (tss : List (List Tuple)) (ts : List Tuple) (done now whole : List Tagged) → i < length tss → ts ≡ slice_index_or tss i ts →
    now ≡ done ++ map (tag port) (between from upto ts) → done ++ map (tag port) (between from upto (joined (drop i tss))) ≡ whole →
    now ++ map (tag port) (between from upto (joined (drop (i + 1) tss))) ≡ whole
between-next port from upto i tss ts done now whole low e more so_far =
    let rest : List Tuple = joined (drop (i + 1) tss) in
    ap (λ (xs : List Tagged). xs ++ map (tag port) (between from upto rest)) more
    ∙ append_assoc done (map (tag port) (between from upto ts)) (map (tag port) (between from upto rest))
    ∙ ap (λ (xs : List Tagged). done ++ xs)
    (sym (map-append (tag port) (between from upto ts) (between from upto rest)) ∙ ap (λ (us : List Tuple). map (tag port) us)
    (sym (between-append from upto ts rest) ∙ ap (λ (us : List Tuple). between from upto us) (sym (joined-drop tss i ts low e))))
    ∙ so_far

late-whole : (from upto : ℕ) (ts us : List Tuple) → InOrder (ts ++ us) → begins_from upto ts ≡ true → between from upto (ts ++ us) ≡ []
late-whole from upto [] us o e = absurd (false≢true e)
late-whole from upto (t ∷ ts) us o e = let low = leb-true upto t.stime e in none-late from upto t.stime (t ∷ (ts ++ us)) low (omega arith, o.0)

-- from a list on that begins past the end there are none
pub between-end : (from upto i : ℕ) (tss : List (List Tuple)) (ts : List Tuple) → i < length tss → ts ≡ slice_index_or tss i ts → InOrder (joined tss) → begins_from upto ts ≡ true →
    between from upto (joined (drop i tss)) ≡ []
between-end from upto i tss ts low e o begins =
    let here = joined-drop tss i ts low e in
    ap (λ (us : List Tuple). between from upto us) here ∙ late-whole from upto ts (joined (drop (i + 1) tss)) (subst InOrder here (order-left tss i o)) begins

-- ---- how many lie below a time

pub count-append : (b : ℕ) (ts us : List Tuple) → count_below (ts ++ us) b ≡ count_below ts b + count_below us b
count-append b ts us = ap (λ (xs : List Tuple). length xs) (filter-append (is_below b) ts us) ∙ length-append (cut ts b) (cut us b)

none-behind : (b : ℕ) (ts us : List Tuple) → InOrder (ts ++ us) → count_below ts b < length ts → count_below us b ≡ 0
none-behind b [] us o = λ some. absurd (omega (arith, some))
none-behind b (t ∷ ts) us o =
    (elim (is_below b t) as (λ c. is_below b t ≡ c → length (cond c (t ∷ cut ts b) (cut ts b)) < length (t ∷ ts) → count_below us b ≡ 0) [
      | true ↦ λ e some. none-behind b ts us o.1 (omega (arith, some))
      | false ↦ λ e some.
          ap (λ (xs : List Tuple). length xs) (none-below time_of b t.stime us (ltb-false t.stime b e) (NoneBelow-behind t.stime ts us o.0))
    ]) refl

-- one list more
pub count-next : (b i count below : ℕ) (tss : List (List Tuple)) (ts : List Tuple) → i < length tss → ts ≡ slice_index_or tss i ts → below ≡ count_below ts b →
    count + count_below (joined (drop i tss)) b ≡ count_below (joined tss) b → (count + below) + count_below (joined (drop (i + 1) tss)) b ≡ count_below (joined tss) b
count-next b i count below tss ts low e here so_far =
    let these = ap (λ (us : List Tuple). count_below us b) (joined-drop tss i ts low e) ∙ count-append b ts (joined (drop (i + 1) tss)) in omega (arith, here, so_far, these)

-- behind a list that isn't wholly below the time none is
pub count-end-at : (b i count below : ℕ) (tss : List (List Tuple)) (ts : List Tuple) → i < length tss → ts ≡ slice_index_or tss i ts → InOrder (joined tss) → below ≡ count_below ts b →
    below < length ts → count + count_below (joined (drop i tss)) b ≡ count_below (joined tss) b → count + below ≡ count_below (joined tss) b
count-end-at b i count below tss ts low e o here some so_far =
    let at = joined-drop tss i ts low e in
    let these = ap (λ (us : List Tuple). count_below us b) at ∙ count-append b ts (joined (drop (i + 1) tss)) in
    let fewer : count_below ts b < length ts = omega (arith, here, some) in
    let none = none-behind b ts (joined (drop (i + 1) tss)) (subst InOrder at (order-left tss i o)) fewer in omega (arith, here, so_far, these, none)

pub length-drop-at : (i : ℕ) (tss : List (List Tuple)) (ts : List Tuple) → i < length tss → ts ≡ slice_index_or tss i ts → length (joined (drop i tss)) ≡ length ts + length (joined (drop (i + 1) tss))
length-drop-at i tss ts low e = ap (λ (us : List Tuple). length us) (joined-drop tss i ts low e) ∙ length-append ts (joined (drop (i + 1) tss))

-- with those of the runs that are left so many lie below the time
pub record IsCounted (b place count : ℕ) (tss : List (List Tuple)) : Type 0 where
  pub within : count + length (joined (drop place tss)) ≤ length (joined tss)
  pub counted : InOrder (joined tss) → count + count_below (joined (drop place tss)) b ≡ count_below (joined tss) b

pub counts-first : (b : ℕ) (tss : List (List Tuple)) → IsCounted b 0 0 tss
counts-first b tss = record { within = omega arith; counted = λ o. omega arith }

pub counts-next : (b place count below : ℕ) (tss : List (List Tuple)) (ts : List Tuple) → place < length tss → ts ≡ slice_index_or tss place ts → below ≤ length ts →
    (InOrder ts → below ≡ count_below ts b) → IsCounted b place count tss → IsCounted b (place + 1) (count + below) tss
counts-next b place count below tss ts low e within here h =
    let so_far = h.within in
    let long = length-drop-at place tss ts low e in
    record {
      within = omega (arith, so_far, long, within);
      counted = λ o. count-next b place count below tss ts low e (here (order-at tss place ts low e o)) (h.counted o);
    }

pub counts-in : (b place count below : ℕ) (tss : List (List Tuple)) (ts : List Tuple) → place < length tss → ts ≡ slice_index_or tss place ts → below ≤ length ts → IsCounted b place count tss →
    count + below ≤ length (joined tss)
counts-in b place count below tss ts low e within h =
    let so_far = h.within in
    let long = length-drop-at place tss ts low e in omega (arith, so_far, long, within)

pub counts-end : (b place count below : ℕ) (tss : List (List Tuple)) (ts : List Tuple) → place < length tss → ts ≡ slice_index_or tss place ts → (InOrder ts → below ≡ count_below ts b) → below < length ts →
    IsCounted b place count tss → InOrder (joined tss) → count + below ≡ count_below (joined tss) b
counts-end b place count below tss ts low e here some h o = count-end-at b place count below tss ts low e o (here (order-at tss place ts low e o)) some (h.counted o)

pub counts-all : (b place count : ℕ) (tss : List (List Tuple)) → length tss ≤ place → IsCounted b place count tss → InOrder (joined tss) → count ≡ count_below (joined tss) b
counts-all b place count tss past h o =
    let none = ap (λ (uss : List (List Tuple)). count_below (joined uss) b) (drop_all place tss past) in
    let counted = h.counted o in omega (arith, none, counted)
