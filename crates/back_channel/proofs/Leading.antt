-- The items from one merge to a later one, read by a reader that held the first.
use Rattle.std.proofs.Common.{◌≡◌, ℕ, ◌+◌, ◌≤◌, nat_lt, nat_le, eqb, ◌==◌, ◌&&◌, true, false, cond, List, [], ◌∷◌, ◌++◌, length, drop, refl, sym, ap, subst, ◌∙◌, arith}
use Rattle.std.specs.List.{All}
use Rattle.std.specs.Cmp.Lexicographic.{pointwise}
use Rattle.std.specs.Cmp.Rules.{signed_items}
use Rattle.std.specs.Cmp.Derive.{both_true}
use Rattle.std.specs.Ordering.{int_eq}
use Rattle.std.proofs.lemmas.Bool.{ltb-false, eqb-true, and_parts, le-leb, le-ltb}
use Rattle.std.proofs.lemmas.Bool.Decides.{Decides-eqb}
use Rattle.std.proofs.lemmas.List.{append_assoc, append-nil, length_push}
use Rattle.std.proofs.lemmas.List.Elements.{All-head, All-tail, All-drop}
use Rattle.dpc_lists.specs.Lists.{push, is_nil}
use Rattle.dpc_model.specs.Reading.{Reader, Taken, reading}
use Rattle.dpc_model.specs.Sessions.{stable_items, tentative_items}
use Rattle.dpc_model.specs.Streams.{cut, is_below}
use Rattle.dpc_model.specs.declared.tuples.Item.TheVariants.{Stable, Tentative, Boundary, Undo, RecDone}
use Rattle.dpc_model.specs.declared.tuples.Tuple.{Tuple}
use Rattle.dpc_model.proofs.Prefixes.{length-filter_le}
use Rattle.back_channel.specs.Merging.{Merged, Leaves, same_tuple, begins_with, only_grows, undone, bound_told, done_told, told_anew, items_between}
use Rattle.back_channel.specs.Told.{IsLater, reader_of}
use Rattle.back_channel.proofs.Beginnings.{Begins, begins-split, begins-whole}
use Rattle.back_channel.proofs.Foldings.{leaves-none, leaves-taken, leaves-append}

-- ---- a tuple beside another

pub same-self : (t : Tuple) → same_tuple t t ≡ true
same-self t = both_true ((Decides-eqb t.stime t.stime).1 refl) ((signed_items t.vals t.vals).1 refl)

pub same-is : (s t : Tuple) → same_tuple s t ≡ true → s ≡ t
same-is s t e =
    let parts = and_parts (eqb s.stime t.stime) (pointwise int_eq s.vals t.vals) e in
    let time = (Decides-eqb s.stime t.stime).0 parts.0 in
    let vals = (signed_items s.vals t.vals).0 parts.1 in
    ap (λ n. with_time n s) time ∙ ap (λ vs. record { stime = t.stime; vals = vs }) vals
  where
    with_time : ℕ → Tuple → Tuple
    with_time n u = record { stime = n; vals = u.vals }

pub begins-is : (ss ts : List Tuple) → begins_with ss ts ≡ true → ts ≡ ss ++ drop (length ss) ts
begins-is [] ts e = refl
begins-is (s ∷ ss) [] e = absurd (cc)
begins-is (s ∷ ss) (t ∷ ts) e =
    let parts = and_parts (same_tuple s t) (begins_with ss ts) e in
    ap (λ u. u ∷ ts) (sym (same-is s t parts.0)) ∙ ap (λ us. s ∷ us) (begins-is ss ts parts.1)

-- ---- the parts

-- a reader of these
abbrev pub holding : List Tuple → ℕ → List Tuple → Reader
holding ts b us = record { stable = ts; bound = b; tentative = us; passed = 0 }

by-undo : (ts : List Tuple) (b : ℕ) (us : List Tuple) → Leaves (holding ts b us) (cond (is_nil us) [] (Undo (length ts) ∷ [])) (holding ts b [])
by-undo ts b [] = leaves-none (holding ts b [])
by-undo ts b (u ∷ us) = (record { after = holding ts b []; taken = Undo (length ts) ∷ [] }, refl, refl)

reads-stable : (ts : List Tuple) (b : ℕ) (u : Tuple) → reading (holding ts b []) (Stable (length ts) u) ≡ Taken (holding (push ts u) b [])
reads-stable ts b u =
    let not_less : nat_lt (length ts) (length ts) ≡ false = le-ltb (length ts) (length ts) (omega arith) in
    let same : eqb (length ts) (length ts) ≡ true = (Decides-eqb (length ts) (length ts)).1 refl in
    rw (not_less, same) refl

by-stable : (ts : List Tuple) (b : ℕ) (us : List Tuple) → Leaves (holding ts b []) (stable_items (length ts) us) (holding (ts ++ us) b [])
by-stable ts b [] = subst (λ (vs : List Tuple). Leaves (holding ts b []) [] (holding vs b [])) (sym (append-nil ts)) (leaves-none (holding ts b []))
by-stable ts b (u ∷ us) =
    let next : length (ts ++ u ∷ []) ≡ length ts + 1 = length_push ts u in
    let rest =
    subst (λ (k : ℕ). Leaves (holding (ts ++ u ∷ []) b []) (stable_items k us) (holding ((ts ++ u ∷ []) ++ us) b [])) next (by-stable (ts ++ u ∷ []) b us) in
    leaves-taken (holding ts b []) (holding (ts ++ u ∷ []) b []) (holding (ts ++ u ∷ us) b []) (Stable (length ts) u) (stable_items (length ts + 1) us) (reads-stable ts b u)
    (subst (λ (vs : List Tuple). Leaves (holding (ts ++ u ∷ []) b []) (stable_items (length ts + 1) us) (holding vs b [])) (append_assoc ts (u ∷ []) us) rest)

by-bound : (ts : List Tuple) (b b' m : ℕ) → b ≤ b' → m ≤ length ts → Leaves (holding ts b []) (cond (nat_lt b b') (Boundary b' m ∷ []) []) (holding ts b' [])
by-bound ts b b' m low few =
    (elim (nat_lt b b') as (λ c. nat_lt b b' ≡ c → Leaves (holding ts b []) (cond c (Boundary b' m ∷ []) []) (holding ts b' [])) [
      | true ↦ λ e.
          let within : nat_le m (length ts) ≡ true = le-leb m (length ts) few in
          let read : reading (holding ts b []) (Boundary b' m) ≡ Taken (holding ts b' []) = rw (within, e) refl in
          leaves-taken (holding ts b []) (holding ts b' []) (holding ts b' []) (Boundary b' m) [] read (leaves-none (holding ts b' []))
      | false ↦ λ e.
          let not_less = ltb-false b b' e in
          let same : b ≡ b' = omega (arith, not_less, low) in
          subst (λ (n : ℕ). Leaves (holding ts b []) [] (holding ts n [])) same (leaves-none (holding ts b []))
    ]) refl

by-tentative : (ts : List Tuple) (b : ℕ) (us vs : List Tuple) → All (λ (t : Tuple). b ≤ t.stime) vs → Leaves (holding ts b us) (tentative_items vs) (holding ts b (us ++ vs))
by-tentative ts b us [] all = subst (λ (ws : List Tuple). Leaves (holding ts b us) [] (holding ts b ws)) (sym (append-nil us)) (leaves-none (holding ts b us))
by-tentative ts b us (v ∷ vs) all =
    let late : nat_le b v.stime ≡ true = le-leb b v.stime (All-head (λ (t : Tuple). b ≤ t.stime) v vs all) in
    let read : reading (holding ts b us) (Tentative v) ≡ Taken (holding ts b (us ++ v ∷ [])) = rw late refl in
    leaves-taken (holding ts b us) (holding ts b (us ++ v ∷ [])) (holding ts b (us ++ v ∷ vs)) (Tentative v) (tentative_items vs) read
    (subst (λ (ws : List Tuple). Leaves (holding ts b (us ++ v ∷ [])) (tentative_items vs) (holding ts b ws)) (append_assoc us (v ∷ []) vs)
    (by-tentative ts b (us ++ v ∷ []) vs (All-tail (λ (t : Tuple). b ≤ t.stime) v vs all)))

by-done : (ts : List Tuple) (b : ℕ) (os us : List Tuple) → Leaves (holding ts b us) (cond (is_nil os) [] (cond (is_nil us) (RecDone ∷ []) [])) (holding ts b us)
by-done ts b [] us = leaves-none (holding ts b us)
by-done ts b (o ∷ os) [] = (record { after = holding ts b []; taken = RecDone ∷ [] }, refl, refl)
by-done ts b (o ∷ os) (u ∷ us) = leaves-none (holding ts b (u ∷ us))

-- ---- the whole

by-growing : (old new : Merged) → IsLater old new → only_grows old new ≡ true → Leaves (reader_of old) (tentative_items (drop (length old.tentative) new.tentative)) (reader_of new)
by-growing old new h e =
    let both = and_parts (length old.stable == length new.stable && old.bound == new.bound) (begins_with old.tentative new.tentative) e in
    let parts = and_parts (length old.stable == length new.stable) (old.bound == new.bound) both.0 in
    let long = eqb-true (length old.stable) (length new.stable) parts.0 in
    let bound = eqb-true old.bound new.bound parts.1 in
    let stays : Begins old.stable new.stable = record { is = h.stays } in
    let stable = begins-whole old.stable new.stable stays (omega (arith, long)) in
    let rest = drop (length old.tentative) new.tentative in
    let late = subst (λ (n : ℕ). All (λ (t : Tuple). n ≤ t.stime) rest) (sym bound) (All-drop (λ (t : Tuple). new.bound ≤ t.stime) (length old.tentative) new.tentative h.tentative) in
    let read = by-tentative old.stable old.bound old.tentative rest late in
    let end : holding old.stable old.bound (old.tentative ++ rest) ≡ reader_of new =
    ap (λ (ts : List Tuple). holding old.stable old.bound ts) (sym (begins-is old.tentative new.tentative both.1))
    ∙ ap (λ (ts : List Tuple). holding ts old.bound new.tentative) stable
    ∙ ap (λ (n : ℕ). holding new.stable n new.tentative) bound in
    subst (λ (r : Reader). Leaves (reader_of old) (tentative_items rest) r) end read

by-telling : (old new : Merged) → IsLater old new → Leaves (reader_of old) (told_anew old new) (reader_of new)
by-telling old new h =
    let stays : Begins old.stable new.stable = record { is = h.stays } in
    let behind = drop (length old.stable) new.stable in
    let front : old.stable ++ behind ≡ new.stable = sym (begins-split old.stable new.stable stays) in
    let stable = subst (λ (ts : List Tuple). Leaves (holding old.stable old.bound []) (stable_items (length old.stable) behind) (holding ts old.bound [])) front (by-stable old.stable old.bound behind) in
    let few = length-filter_le (is_below new.bound) new.stable in
    leaves-append (reader_of old) (reader_of new) (reader_of new)
    (undone old ++ stable_items (length old.stable) behind ++ bound_told old new ++ tentative_items new.tentative) (done_told old new)
    (leaves-append (reader_of old) (holding new.stable new.bound []) (reader_of new) (undone old ++ stable_items (length old.stable) behind ++ bound_told old new) (tentative_items new.tentative)
    (leaves-append (reader_of old) (holding new.stable old.bound []) (holding new.stable new.bound []) (undone old ++ stable_items (length old.stable) behind) (bound_told old new)
    (leaves-append (reader_of old) (holding old.stable old.bound []) (holding new.stable old.bound []) (undone old) (stable_items (length old.stable) behind)
    (by-undo old.stable old.bound old.tentative) stable)
    (by-bound new.stable old.bound new.bound (length (cut new.stable new.bound)) h.bound few))
    (by-tentative new.stable new.bound [] new.tentative h.tentative))
    (by-done new.stable new.bound old.tentative new.tentative)

pub leads : (old new : Merged) → IsLater old new → Leaves (reader_of old) (items_between old new) (reader_of new)
leads old new h =
    (elim (only_grows old new) as (λ c. only_grows old new ≡ c → Leaves (reader_of old) (cond c (tentative_items (drop (length old.tentative) new.tentative)) (told_anew old new)) (reader_of new)) [
      | true ↦ λ e. by-growing old new h e
      | false ↦ λ e. by-telling old new h
    ]) refl
