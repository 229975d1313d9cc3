-- The items that a reader took go on where its stable tuples end, and tell what it then holds.
use Rattle.std.proofs.Common.{◌≡◌, ◌≢◌, ℕ, ◌+◌, ◌<◌, ◌≤◌, le_trans, zero-le, max, Bool, true, false, cond, nat_lt, nat_le, ◌==◌, ◌&&◌, List, [], ◌∷◌, ◌++◌, Some, None, length, refl, sym, subst, ap, ◌∙◌, arith}
use Rattle.std.proofs.lemmas.List.{append-nil, append_assoc, length-append}
use Rattle.dpc_lists.specs.Lists.{push, IsPrefixOf}
use Rattle.dpc_lists.proofs.Truths.{both, le-of, le-test, lt-of, eq-of, eq-test, true-not-false}
use Rattle.dpc_model.specs.Reading.{Reader, empty_reader, Reading, NoReading, Skipped, Taken, reading, is_sure, Folded, fold_items, taken_first}
use Rattle.dpc_model.specs.declared.plans.Plan.{Plan}
use Rattle.dpc_model.specs.declared.plans.StreamRef.{StreamRef}
use Rattle.dpc_model.specs.declared.tuples.Item.{Item}
use Rattle.dpc_model.specs.declared.tuples.Item.TheVariants.{Stable, Tentative, Passed, Boundary, Undo, RecDone}
use Rattle.dpc_model.proofs.Folding.{first_taken}
use Rattle.node_model.specs.Clients.{ClientState, client_stream, reader_of}
use Rattle.world_model.specs.Safe.{IsSafeClient}
use Rattle.live_view.specs.Telling.{GoOn, stable_tuples, greatest_bound, new_tuples, new_bound}
use Rattle.live_view.specs.Tellers.{TellerState, new_teller, told}
use Rattle.live_view.proofs.Tellings.{new_tuples-append, new_bound-append, new_bound-from}

-- ---- what an item that is taken does

-- where a test decides on what is taken, its other branches take nothing
taken-then : (b : Bool) (x : Reading) (s : Reader) → cond b x Skipped ≡ Taken s → (b ≡ true) × (x ≡ Taken s)
taken-then true x s e = (refl, e)
taken-then false x s e = absurd (cc)

taken-read : (b : Bool) (x : Reading) (s : Reader) → cond b x NoReading ≡ Taken s → (b ≡ true) × (x ≡ Taken s)
taken-read true x s e = (refl, e)
taken-read false x s e = absurd (cc)

taken-else : (b : Bool) (x : Reading) (s : Reader) → cond b Skipped x ≡ Taken s → x ≡ Taken s
taken-else true x s e = absurd (cc)
taken-else false x s e = e

the-reader : (r s : Reader) → Taken r ≡ Taken s → r ≡ s
the-reader r s e = cc

-- an item that is taken goes on at the number of stable tuples, appends its tuple and raises the bound to its own
record IsTaken (r : Reader) (i : Item) (s : Reader) : Type 0 where
  goes_on : GoOn (length r.stable) (i ∷ [])
  stable : s.stable ≡ r.stable ++ stable_tuples (i ∷ [])
  bound : s.bound ≡ greatest_bound r.bound (i ∷ [])

-- what changes no stable tuple and no bound is taken so
same-taken : (r : Reader) (i : Item) (s t : Reader) → GoOn (length r.stable) (i ∷ []) → stable_tuples (i ∷ []) ≡ [] → greatest_bound r.bound (i ∷ []) ≡ r.bound → t.stable ≡ r.stable
    → t.bound ≡ r.bound → t ≡ s → IsTaken r i s
same-taken r i s t on none bound ts tb e = record {
  goes_on = on;
  stable = ap (λ (x : Reader). x.stable) (sym e) ∙ ts ∙ sym (ap (λ l. r.stable ++ l) none ∙ append-nil r.stable);
  bound = ap (λ (x : Reader). x.bound) (sym e) ∙ tb ∙ sym bound;
}

item-taken : (r : Reader) (i : Item) (s : Reader) → reading r i ≡ Taken s → IsTaken r i s
item-taken r (Stable k t) s e =
    let n = length r.stable in
    let after = record r { stable = push r.stable t } in
    let read = taken-read (k == n && is_sure r) (Taken after) s (taken-else (nat_lt k n) (cond (k == n && is_sure r) (Taken after) NoReading) s e) in
    let is = the-reader after s read.1 in
    record {
      goes_on = (eq-of k n (both (k == n) (is_sure r) read.0).0, tt);
      stable = ap (λ (x : Reader). x.stable) (sym is);
      bound = ap (λ (x : Reader). x.bound) (sym is);
    }
item-taken r (Boundary b m) s e =
    let n = length r.stable in
    let after = record r { bound = b } in
    let read = taken-read (nat_le m n && is_sure r) (cond (nat_lt r.bound b) (Taken after) Skipped) s e in
    let raised = taken-then (nat_lt r.bound b) (Taken after) s read.1 in
    let is = the-reader after s raised.1 in
    let above : r.bound < b = lt-of r.bound b raised.0 in
    let greatest : b ≡ max r.bound b = omega arith in
    record {
      goes_on = (le-of m n (both (nat_le m n) (is_sure r) read.0).0, tt);
      stable = ap (λ (x : Reader). x.stable) (sym is) ∙ sym (append-nil r.stable);
      bound = ap (λ (x : Reader). x.bound) (sym is) ∙ greatest;
    }
item-taken r (Tentative t) s e =
    let after = record r { tentative = push r.tentative t } in
    same-taken r (Tentative t) s after tt refl refl refl refl (the-reader after s (taken-then (nat_le r.bound t.stime) (Taken after) s e).1)
item-taken r (Passed b) s e =
    let after = record r { passed = b } in
    same-taken r (Passed b) s after tt refl refl refl refl (the-reader after s (taken-then (nat_lt r.bound b && nat_lt r.passed b) (Taken after) s e).1)
item-taken r (Undo n) s e =
    let after = record r { tentative = []; passed = 0 } in
    same-taken r (Undo n) s after tt refl refl refl refl (the-reader after s e)
item-taken r RecDone s e = same-taken r RecDone s r tt refl refl refl refl (the-reader r s (taken-read (is_sure r) (Taken r) s e).1)

-- ---- lists of items in parts

pub stable_tuples-append : (xs ys : List Item) → stable_tuples (xs ++ ys) ≡ stable_tuples xs ++ stable_tuples ys
stable_tuples-append [] ys = refl
stable_tuples-append (Stable k t ∷ xs) ys = ap (λ l. t ∷ l) (stable_tuples-append xs ys)
stable_tuples-append (Boundary b m ∷ xs) ys = stable_tuples-append xs ys
stable_tuples-append (Tentative t ∷ xs) ys = stable_tuples-append xs ys
stable_tuples-append (Passed b ∷ xs) ys = stable_tuples-append xs ys
stable_tuples-append (Undo k ∷ xs) ys = stable_tuples-append xs ys
stable_tuples-append (RecDone ∷ xs) ys = stable_tuples-append xs ys

pub greatest_bound-append : (b : ℕ) (xs ys : List Item) → greatest_bound b (xs ++ ys) ≡ greatest_bound (greatest_bound b xs) ys
greatest_bound-append b [] ys = refl
greatest_bound-append b (Stable k t ∷ xs) ys = greatest_bound-append b xs ys
greatest_bound-append b (Boundary c m ∷ xs) ys = greatest_bound-append (max b c) xs ys
greatest_bound-append b (Tentative t ∷ xs) ys = greatest_bound-append b xs ys
greatest_bound-append b (Passed c ∷ xs) ys = greatest_bound-append b xs ys
greatest_bound-append b (Undo k ∷ xs) ys = greatest_bound-append b xs ys
greatest_bound-append b (RecDone ∷ xs) ys = greatest_bound-append b xs ys

-- items that go on after an item go on with it
goes-on-both : (n : ℕ) (i : Item) (ys : List Item) → GoOn n (i ∷ []) → GoOn (n + length (stable_tuples (i ∷ []))) ys → GoOn n (i ∷ ys)
goes-on-both n (Stable k t) ys g h = (g.0, h)
goes-on-both n (Boundary b m) ys g h = let e : n + 0 ≡ n = omega arith in (g.0, subst (λ m. GoOn m ys) e h)
goes-on-both n (Tentative t) ys g h = let e : n + 0 ≡ n = omega arith in subst (λ m. GoOn m ys) e h
goes-on-both n (Passed b) ys g h = let e : n + 0 ≡ n = omega arith in subst (λ m. GoOn m ys) e h
goes-on-both n (Undo k) ys g h = let e : n + 0 ≡ n = omega arith in subst (λ m. GoOn m ys) e h
goes-on-both n RecDone ys g h = let e : n + 0 ≡ n = omega arith in subst (λ m. GoOn m ys) e h

-- items tell the same in two parts
pub told-append : (t : TellerState) (xs ys : List Item) → told (xs ++ ys) t ≡ told ys (told xs t)
told-append t xs ys =
    let n = length t.tuples in
    let count : n + length (new_tuples n xs) ≡ length (t.tuples ++ new_tuples n xs) = sym (length-append t.tuples (new_tuples n xs)) in
    let tuples : t.tuples ++ new_tuples n (xs ++ ys) ≡ (t.tuples ++ new_tuples n xs) ++ new_tuples (length (t.tuples ++ new_tuples n xs)) ys =
    ap (λ l. t.tuples ++ l) (new_tuples-append n xs ys) ∙ sym (append_assoc t.tuples (new_tuples n xs) (new_tuples (n + length (new_tuples n xs)) ys))
    ∙ ap (λ m. (t.tuples ++ new_tuples n xs) ++ new_tuples m ys) count in
    let bound : new_bound n t.bound (xs ++ ys) ≡ new_bound (length (t.tuples ++ new_tuples n xs)) (new_bound n t.bound xs) ys =
    new_bound-append n t.bound xs ys ∙ ap (λ m. new_bound m (new_bound n t.bound xs) ys) count in
    rw (tuples, bound) refl

-- ---- what is told

-- items that go on are all new
all-new : (n : ℕ) (items : List Item) → GoOn n items → new_tuples n items ≡ stable_tuples items
all-new n [] g = refl
all-new n (Stable k t ∷ items) g = rw (g.0, eq-test n n refl) (ap (λ l. t ∷ l) (all-new (n + 1) items g.1))
all-new n (Boundary b m ∷ items) g = all-new n items g.1
all-new n (Tentative t ∷ items) g = all-new n items g
all-new n (Passed b ∷ items) g = all-new n items g
all-new n (Undo k ∷ items) g = all-new n items g
all-new n (RecDone ∷ items) g = all-new n items g

all-counted : (n b : ℕ) (items : List Item) → GoOn n items → new_bound n b items ≡ greatest_bound b items
all-counted n b [] g = refl
all-counted n b (Stable k t ∷ items) g = rw (g.0, eq-test n n refl) (all-counted (n + 1) b items g.1)
all-counted n b (Boundary c m ∷ items) g = rw (le-test m n g.0) (all-counted n (max b c) items g.1)
all-counted n b (Tentative t ∷ items) g = all-counted n b items g
all-counted n b (Passed c ∷ items) g = all-counted n b items g
all-counted n b (Undo k ∷ items) g = all-counted n b items g
all-counted n b (RecDone ∷ items) g = all-counted n b items g

pub all-told : (t : TellerState) (items : List Item) → GoOn (length t.tuples) items → told items t ≡ record t { tuples = t.tuples ++ stable_tuples items; bound = greatest_bound t.bound items }
all-told t items g = rw (all-new (length t.tuples) items g, all-counted (length t.tuples) t.bound items g) refl

pub told-tuples : (t : TellerState) (items : List Item) → IsPrefixOf t.tuples (told items t).tuples
told-tuples t items = (new_tuples (length t.tuples) items, refl)

pub told-bound : (t : TellerState) (items : List Item) → t.bound ≤ (told items t).bound
told-bound t items = let e = new_bound-from (length t.tuples) t.bound items in rw (← e) (omega arith)

-- where items go on at no more than was told, all of them is told behind them
enough : (j n : ℕ) (items : List Item) → GoOn j items → j ≤ n → j + length (stable_tuples items) ≤ n + length (new_tuples n items)
enough j n [] g h = omega (arith, h)
enough j n (Stable k t ∷ items) g h =
    (elim (k == n) as (λ z. (k == n) ≡ z → j + length (t ∷ stable_tuples items) ≤ n + length (cond z (t ∷ new_tuples (n + 1) items) (new_tuples n items))) [
      | true ↦ λ e.
          let more : j + 1 ≤ n + 1 = omega (arith, h) in
          let rest = enough (j + 1) (n + 1) items g.1 more in omega (arith, rest)
      | false ↦ λ e.
          let apart : k ≢ n = λ q. true-not-false (sym (eq-test k n q) ∙ e) in
          let more : j + 1 ≤ n = omega (arith, h, g.0, apart) in
          let rest = enough (j + 1) n items g.1 more in omega (arith, rest)
    ]) refl
enough j n (Boundary b m ∷ items) g h = enough j n items g.1 h
enough j n (Tentative t ∷ items) g h = enough j n items g h
enough j n (Passed b ∷ items) g h = enough j n items g h
enough j n (Undo k ∷ items) g h = enough j n items g h
enough j n (RecDone ∷ items) g h = enough j n items g h

far-enough : (j n b c : ℕ) (items : List Item) → GoOn j items → j ≤ n → b ≤ c → greatest_bound b items ≤ new_bound n c items
far-enough j n b c [] g h k = k
far-enough j n b c (Stable i t ∷ items) g h k =
    (elim (i == n) as (λ z. (i == n) ≡ z → greatest_bound b items ≤ cond z (new_bound (n + 1) c items) (new_bound n c items)) [
      | true ↦ λ e. let more : j + 1 ≤ n + 1 = omega (arith, h) in far-enough (j + 1) (n + 1) b c items g.1 more k
      | false ↦ λ e.
          let apart : i ≢ n = λ q. true-not-false (sym (eq-test i n q) ∙ e) in
          let more : j + 1 ≤ n = omega (arith, h, g.0, apart) in far-enough (j + 1) n b c items g.1 more k
    ]) refl
far-enough j n b c (Boundary d m ∷ items) g h k =
    let few : m ≤ n = le_trans g.0 h in
    let more : max b d ≤ max c d = omega (arith, k) in
    rw (le-test m n few) (far-enough j n (max b d) (max c d) items g.1 h more)
far-enough j n b c (Tentative t ∷ items) g h k = far-enough j n b c items g h k
far-enough j n b c (Passed d ∷ items) g h k = far-enough j n b c items g h k
far-enough j n b c (Undo i ∷ items) g h k = far-enough j n b c items g h k
far-enough j n b c (RecDone ∷ items) g h k = far-enough j n b c items g h k

-- ---- what a reader took

-- the items that were taken go on, and tell what is then held
pub record AreTaken (r : Reader) (items : List Item) (s : Reader) : Type 0 where
  pub goes_on : GoOn (length r.stable) items
  pub stable : s.stable ≡ r.stable ++ stable_tuples items
  pub bound : s.bound ≡ greatest_bound r.bound items

more-taken : (r : Reader) (i : Item) (s : Reader) (items : List Item) (t : Reader) → IsTaken r i s → AreTaken s items t → AreTaken r (i ∷ items) t
more-taken r i s items t h k =
    let longer : length s.stable ≡ length r.stable + length (stable_tuples (i ∷ [])) = ap length h.stable ∙ length-append r.stable (stable_tuples (i ∷ [])) in
    record {
      goes_on = goes-on-both (length r.stable) i items h.goes_on (subst (λ n. GoOn n items) longer k.goes_on);
      stable = k.stable ∙ ap (λ l. l ++ stable_tuples items) h.stable ∙ append_assoc r.stable (stable_tuples (i ∷ [])) (stable_tuples items)
          ∙ ap (λ l. r.stable ++ l) (sym (stable_tuples-append (i ∷ []) items));
      bound = k.bound ∙ ap (λ b. greatest_bound b items) h.bound ∙ sym (greatest_bound-append r.bound (i ∷ []) items);
    }

pub fold-taken : (r : Reader) (items : List Item) (f : Folded) → fold_items r items ≡ Some f → AreTaken r f.taken f.after
fold-taken r [] f e = let h : f ≡ record { after = r; taken = [] } = cc in rw h (record { goes_on = tt; stable = sym (append-nil r.stable); bound = refl })
fold-taken r (i ∷ items) f e =
    (elim (reading r i) as (λ x. reading r i ≡ x → elim x [ NoReading ↦ None | Skipped ↦ fold_items r items | Taken s ↦ taken_first i (fold_items s items) ] ≡ Some f → AreTaken r f.taken f.after) [
      | NoReading ↦ λ k h. absurd (cc)
      | Skipped ↦ λ k h. fold-taken r items f h
      | Taken s ↦ λ k h.
          let p = first_taken i (fold_items s items) f h in
          let g = p.0 in
          rw p.2 (more-taken r i s g.taken g.after (item-taken r i s k) (fold-taken s items g p.1))
    ]) refl e

-- ---- what a safe client took

client-taken : (plan : Plan) (s : StreamRef) (x : ClientState) → IsSafeClient plan s x → AreTaken empty_reader x.taken (reader_of x)
client-taken plan s x h = fold-taken empty_reader x.taken (record { after = reader_of x; taken = x.taken }) h.folded

pub client-held : (plan : Plan) (s : StreamRef) (c : ℕ) (x : ClientState) → IsSafeClient plan s x
    → told x.taken (new_teller c) ≡ record { client = c; tuples = (reader_of x).stable; bound = (reader_of x).bound; spent = false }
client-held plan s c x h = let k = client-taken plan s x h in all-told (new_teller c) x.taken k.goes_on ∙ rw (k.stable, k.bound) refl

pub client-counted : (plan : Plan) (s : StreamRef) (x : ClientState) (t : TellerState) → IsSafeClient plan s x → length (reader_of x).stable ≤ length (told x.taken t).tuples
client-counted plan s x t h =
    let k = client-taken plan s x h in
    let n = length t.tuples in
    let all : length (reader_of x).stable ≡ length (stable_tuples x.taken) = ap length k.stable in
    let count : length (told x.taken t).tuples ≡ n + length (new_tuples n x.taken) = length-append t.tuples (new_tuples n x.taken) in
    omega (arith, all, count, enough 0 n x.taken k.goes_on zero-le)

pub client-bounded : (plan : Plan) (s : StreamRef) (x : ClientState) (t : TellerState) → IsSafeClient plan s x → (reader_of x).bound ≤ (told x.taken t).bound
client-bounded plan s x t h =
    let k = client-taken plan s x h in
    subst (λ b. b ≤ (told x.taken t).bound) (sym k.bound) (far-enough 0 (length t.tuples) 0 t.bound x.taken k.goes_on zero-le zero-le)
