-- What items tell keeps what is shown true, and adds to it.
use Rattle.std.proofs.Common.{◌≡◌, Bool, ℕ, suc, ◌+◌, ◌≤◌, ◌<◌, drop, slice_index_or, ◌++◌, ◌==◌, cond, max, List, [], ◌∷◌, Some, length, fold, slice_get, nat_le, true, false, refl, sym, subst, ap, ◌∙◌, arith}
use Rattle.std.proofs.Math.Seq.{drop-cons}
use Rattle.std.proofs.lemmas.Grind.{common_steps}
use Rattle.std.proofs.lemmas.List.{append-nil, append_assoc, length-append}
use Rattle.dpc_lists.specs.Lists.{IsPrefixOf}
use Rattle.dpc_lists.proofs.Truths.{le-of, eq-of}
use Rattle.dpc_model.specs.Fragments.{ideal, ideal_upto}
use Rattle.dpc_model.specs.declared.plans.Plan.{Plan}
use Rattle.dpc_model.specs.declared.plans.StreamRef.{StreamRef}
use Rattle.dpc_model.specs.declared.tuples.Tuple.{Tuple}
use Rattle.dpc_model.specs.declared.tuples.Item.{Item}
use Rattle.dpc_model.specs.declared.tuples.Item.TheVariants.{Stable, Tentative, Passed, Boundary, Undo, RecDone}
use Rattle.node_model.specs.Clients.{client_stream}
use Rattle.world_model.specs.Safe.{AreTrueItems}
use Rattle.live_view.specs.Telling.{new_tuples, new_bound, in_batches}
use Rattle.live_view.specs.Tellers.{TellerState, teller_of, told}
use Rattle.live_view.specs.Showing.{IsTrueShown, with_news, sight_of, Precedes}
use Rattle.live_view.specs.declared.shown.Shown.{Shown}
use Rattle.live_view.specs.declared.shown.News.{News}
use Rattle.live_view.proofs.Keeping.{precedes-refl, precedes-trans}

-- news only add
pub with_news-precedes : (x : Shown) (n : News) → Precedes (sight_of x) (sight_of (with_news x n))
with_news-precedes x n = (refl, (n.tuples, refl), omega arith)

pub fold-precedes : (x : Shown) (news : List News) → Precedes (sight_of x) (sight_of (fold with_news x news))
fold-precedes x [] = precedes-refl x
fold-precedes x (n ∷ news) =
    precedes-trans (sight_of x) (sight_of (with_news x n)) (sight_of (fold with_news (with_news x n) news)) (with_news-precedes x n) (fold-precedes (with_news x n) news)

-- where y stands behind a list, it begins what stands there
at_end : {X : Type 0} (xs rest : List X) (y : X) → slice_get (xs ++ rest) (length xs) ≡ Some y → (zs : List X) × (rest ≡ y ∷ zs)
at_end [] [] y e = absurd (cc)
at_end [] (z ∷ zs) y e = (zs, cc)
at_end (x ∷ xs) rest y e = at_end xs rest y e

-- a beginning goes on by the element behind it
pub prefix-next : {X : Type 0} (xs ys : List X) (y : X) → IsPrefixOf xs ys → slice_get ys (length xs) ≡ Some y → IsPrefixOf (xs ++ y ∷ []) ys
prefix-next xs ys y p e =
    let r = at_end xs p.0 y (subst (λ l. slice_get l (length xs) ≡ Some y) p.1 e) in (r.0, p.1 ∙ ap (λ l. xs ++ l) r.1 ∙ sym (append_assoc xs (y ∷ []) r.0))

max_case : (P : ℕ → Type 0) (b c : ℕ) → P b → P c → P (max b c)
max_case P b c hb hc =
    (elim (nat_le b c) as (λ t. nat_le b c ≡ t → P (max b c)) [
      | true ↦ λ e. let m : c ≡ max b c = grind (arith, common_steps) in subst P m hc
      | false ↦ λ e. let m : b ≡ max b c = grind (arith, common_steps) in subst P m hb
    ]) refl

-- the tuples are a beginning of the stream, and all of it up to the bound
abbrev pub IsUpto : Plan → StreamRef → List Tuple → ℕ → Type 0
IsUpto plan s xs b = IsPrefixOf xs (ideal plan s) × (length (ideal_upto plan s b) ≤ length xs)

-- true items leave it so: what goes on is told
pub goes-on : (plan : Plan) (s : StreamRef) (xs : List Tuple) (b : ℕ) (items : List Item) → IsUpto plan s xs b → AreTrueItems plan s items
    → IsUpto plan s (xs ++ new_tuples (length xs) items) (new_bound (length xs) b items)
goes-on plan s xs b [] h t = subst (λ l. IsUpto plan s l b) (sym (append-nil xs)) h
goes-on plan s xs b (Stable k u ∷ items) h t =
    let n = length xs in
    (elim (k == n) as (λ z. (k == n) ≡ z → IsUpto plan s (xs ++ cond z (u ∷ new_tuples (n + 1) items) (new_tuples n items)) (cond z (new_bound (n + 1) b items) (new_bound n b items))) [
      | true ↦ λ e.
          let next : n + 1 ≡ length (xs ++ u ∷ []) = omega (arith, length-append xs (u ∷ [])) in
          let here : slice_get (ideal plan s) n ≡ Some u = subst (λ m. slice_get (ideal plan s) m ≡ Some u) (eq-of k n e) t.0 in
          let longer : length (ideal_upto plan s b) ≤ length (xs ++ u ∷ []) = omega (arith, h.1, next) in
          let after = goes-on plan s (xs ++ u ∷ []) b items (prefix-next xs (ideal plan s) u h.0 here, longer) t.1 in
          let at = subst (λ m. IsUpto plan s ((xs ++ u ∷ []) ++ new_tuples m items) (new_bound m b items)) (sym next) after in
          subst (λ l. IsUpto plan s l (new_bound (n + 1) b items)) (append_assoc xs (u ∷ []) (new_tuples (n + 1) items)) at
      | false ↦ λ e. goes-on plan s xs b items h t.1
    ]) refl
goes-on plan s xs b (Boundary c m ∷ items) h t =
    let n = length xs in
    (elim (nat_le m n) as (λ z. nat_le m n ≡ z → IsUpto plan s (xs ++ new_tuples n items) (cond z (new_bound n (max b c) items) (new_bound n b items))) [
      | true ↦ λ e.
          let few : m ≤ n = le-of m n e in
          let there : length (ideal_upto plan s c) ≤ n = rw (← t.0.1) few in
          goes-on plan s xs (max b c) items (h.0, max_case (λ j. length (ideal_upto plan s j) ≤ n) b c h.1 there) t.1
      | false ↦ λ e. goes-on plan s xs b items h t.1
    ]) refl
goes-on plan s xs b (Tentative u ∷ items) h t = goes-on plan s xs b items h t.1
goes-on plan s xs b (Passed c ∷ items) h t = goes-on plan s xs b items h t.1
goes-on plan s xs b (Undo n ∷ items) h t = goes-on plan s xs b items h t.1
goes-on plan s xs b (RecDone ∷ items) h t = goes-on plan s xs b items h t.1

-- a bound that is there already is the least
pub new_bound-max : (n b c : ℕ) (items : List Item) → new_bound n (max b c) items ≡ max b (new_bound n c items)
new_bound-max n b c [] = refl
new_bound-max n b c (Stable k u ∷ items) =
    (elim (k == n) as (λ z. cond z (new_bound (n + 1) (max b c) items) (new_bound n (max b c) items) ≡ max b (cond z (new_bound (n + 1) c items) (new_bound n c items))) [
      | true ↦ new_bound-max (n + 1) b c items
      | false ↦ new_bound-max n b c items
    ])
new_bound-max n b c (Boundary d m ∷ items) =
    (elim (nat_le m n) as (λ z. cond z (new_bound n (max (max b c) d) items) (new_bound n (max b c) items) ≡ max b (cond z (new_bound n (max c d) items) (new_bound n c items))) [
      | true ↦ let same : max (max b c) d ≡ max b (max c d) = omega arith in rw same (new_bound-max n b (max c d) items)
      | false ↦ new_bound-max n b c items
    ])
new_bound-max n b c (Tentative u ∷ items) = new_bound-max n b c items
new_bound-max n b c (Passed d ∷ items) = new_bound-max n b c items
new_bound-max n b c (Undo k ∷ items) = new_bound-max n b c items
new_bound-max n b c (RecDone ∷ items) = new_bound-max n b c items

pub new_bound-from : (n b : ℕ) (items : List Item) → max b (new_bound n 0 items) ≡ new_bound n b items
new_bound-from n b items = let none : max b 0 ≡ b = omega arith in sym (new_bound-max n b 0 items) ∙ ap (λ c. new_bound n c items) none

-- the items that are told leave what is shown true
pub told-true : (plan : Plan) (x : Shown) (n : News) (items : List Item) → n.tuples ≡ new_tuples (length x.tuples) items → n.bound ≡ new_bound (length x.tuples) 0 items
    → AreTrueItems plan (client_stream plan x.client) items → IsTrueShown plan x → IsTrueShown plan (with_news x n)
told-true plan x n items e f t h =
    let s = client_stream plan x.client in
    rw (e, f, new_bound-from (length x.tuples) x.bound items) (goes-on plan s x.tuples x.bound items h t)

-- the one piece of news is pending behind none
one-pending : (x y : Shown) (old pending : List News) (n : News) → y ≡ x → old ≡ [] → pending ≡ old ++ n ∷ [] → fold with_news y pending ≡ with_news x n
one-pending x y old pending n e none more =
    let only : pending ≡ n ∷ [] = more ∙ ap (λ l. l ++ n ∷ []) none in
    ap (λ l. fold with_news y l) only ∙ ap (λ (z : Shown). with_news z n) e

-- what is pending leaves what is shown true
pub pending-true : (plan : Plan) (x y : Shown) (spent : Bool) (t : TellerState) (old pending : List News) (n : News) (items : List Item) → t ≡ teller_of x spent → y ≡ x → old ≡ []
    → pending ≡ old ++ n ∷ [] → n.tuples ≡ new_tuples (length x.tuples) items → n.bound ≡ new_bound (length x.tuples) 0 items → AreTrueItems plan (client_stream plan t.client) items
    → IsTrueShown plan y → IsTrueShown plan (fold with_news y pending)
pending-true plan x y spent t old pending n items is e none more tuples bound are h =
    let are' : AreTrueItems plan (client_stream plan x.client) items = subst (λ (s : TellerState). AreTrueItems plan (client_stream plan s.client) items) is are in
    subst (λ z. IsTrueShown plan z) (sym (one-pending x y old pending n e none more)) (told-true plan x n items tuples bound are' (subst (λ z. IsTrueShown plan z) e h))

-- and is what the items tell
pub pending-told : (x y z : Shown) (t : TellerState) (old pending : List News) (n : News) (items : List Item) → t ≡ teller_of x false → y ≡ x → old ≡ []
    → pending ≡ old ++ n ∷ [] → n.tuples ≡ new_tuples (length x.tuples) items → n.bound ≡ new_bound (length x.tuples) 0 items → z ≡ fold with_news y pending → teller_of z false ≡ told items t
pending-told x y z t old pending n items is e none more tuples bound shown =
    let after : z ≡ with_news x n = shown ∙ one-pending x y old pending n e none more in
    let same : teller_of (with_news x n) false ≡ told items (teller_of x false) = rw (tuples, bound, new_bound-from (length x.tuples) x.bound items) refl in
    ap (λ u. teller_of u false) after ∙ same ∙ ap (told items) (sym is)

-- ---- items in parts

pub new_tuples-append : (n : ℕ) (xs ys : List Item) → new_tuples n (xs ++ ys) ≡ new_tuples n xs ++ new_tuples (n + length (new_tuples n xs)) ys
new_tuples-append n [] ys = let e : n ≡ n + 0 = omega arith in ap (λ m. new_tuples m ys) e
new_tuples-append n (Stable k t ∷ xs) ys =
    (elim (k == n) as (λ z. cond z (t ∷ new_tuples (n + 1) (xs ++ ys)) (new_tuples n (xs ++ ys))
    ≡ cond z (t ∷ new_tuples (n + 1) xs) (new_tuples n xs) ++ new_tuples (n + length (cond z (t ∷ new_tuples (n + 1) xs) (new_tuples n xs))) ys) [
      | true ↦
          let e : n + 1 + length (new_tuples (n + 1) xs) ≡ n + length (t ∷ new_tuples (n + 1) xs) = omega arith in
          ap (λ l. t ∷ l) (new_tuples-append (n + 1) xs ys) ∙ ap (λ m. t ∷ new_tuples (n + 1) xs ++ new_tuples m ys) e
      | false ↦ new_tuples-append n xs ys
    ])
new_tuples-append n (Boundary b m ∷ xs) ys = new_tuples-append n xs ys
new_tuples-append n (Tentative t ∷ xs) ys = new_tuples-append n xs ys
new_tuples-append n (Passed b ∷ xs) ys = new_tuples-append n xs ys
new_tuples-append n (Undo k ∷ xs) ys = new_tuples-append n xs ys
new_tuples-append n (RecDone ∷ xs) ys = new_tuples-append n xs ys

pub new_bound-append : (n b : ℕ) (xs ys : List Item) → new_bound n b (xs ++ ys) ≡ new_bound (n + length (new_tuples n xs)) (new_bound n b xs) ys
new_bound-append n b [] ys = let e : n ≡ n + 0 = omega arith in ap (λ m. new_bound m b ys) e
new_bound-append n b (Stable k t ∷ xs) ys =
    (elim (k == n) as (λ z. cond z (new_bound (n + 1) b (xs ++ ys)) (new_bound n b (xs ++ ys))
    ≡ new_bound (n + length (cond z (t ∷ new_tuples (n + 1) xs) (new_tuples n xs))) (cond z (new_bound (n + 1) b xs) (new_bound n b xs)) ys) [
      | true ↦
          let e : n + 1 + length (new_tuples (n + 1) xs) ≡ n + length (t ∷ new_tuples (n + 1) xs) = omega arith in
          new_bound-append (n + 1) b xs ys ∙ ap (λ m. new_bound m (new_bound (n + 1) b xs) ys) e
      | false ↦ new_bound-append n b xs ys
    ])
new_bound-append n b (Boundary c m ∷ xs) ys =
    (elim (nat_le m n) as (λ z. cond z (new_bound n (max b c) (xs ++ ys)) (new_bound n b (xs ++ ys))
    ≡ new_bound (n + length (new_tuples n xs)) (cond z (new_bound n (max b c) xs) (new_bound n b xs)) ys) [
      | true ↦ new_bound-append n (max b c) xs ys
      | false ↦ new_bound-append n b xs ys
    ])
new_bound-append n b (Tentative t ∷ xs) ys = new_bound-append n b xs ys
new_bound-append n b (Passed c ∷ xs) ys = new_bound-append n b xs ys
new_bound-append n b (Undo k ∷ xs) ys = new_bound-append n b xs ys
new_bound-append n b (RecDone ∷ xs) ys = new_bound-append n b xs ys

-- what was gathered of a first part, and then of the rest, is what is gathered of both
pub gathered-tuples : (n : ℕ) (all before : List Tuple) (count : ℕ) (after : List Tuple) (xs ys : List Item) → count ≡ n + length (new_tuples n xs) → after ≡ before ++ new_tuples n xs
    → before ++ new_tuples n (xs ++ ys) ≡ all → after ++ new_tuples count ys ≡ all
gathered-tuples n all before count after xs ys c e h =
    rw (e, c) (append_assoc before (new_tuples n xs) (new_tuples (n + length (new_tuples n xs)) ys) ∙ ap (λ l. before ++ l) (sym (new_tuples-append n xs ys)) ∙ h)

pub gathered-bound : (n all b count after : ℕ) (xs ys : List Item) → count ≡ n + length (new_tuples n xs) → after ≡ new_bound n b xs
    → new_bound n b (xs ++ ys) ≡ all → new_bound count after ys ≡ all
gathered-bound n all b count after xs ys c e h = rw (e, c) (sym (new_bound-append n b xs ys) ∙ h)

-- the batch that comes next, and those behind it
next-batch : (i : ℕ) (batches : List (List Item)) (items : List Item) → i < length batches → items ≡ slice_index_or batches i items
    → in_batches (drop i batches) ≡ items ++ in_batches (drop (i + 1) batches)
next-batch i batches items l e =
    let next : suc i ≡ i + 1 = omega arith in
    let at : drop i batches ≡ items ∷ drop (i + 1) batches = drop-cons batches i items l ∙ rw (← e, next) refl in
    ap in_batches at

-- one batch more was gathered, and the rest is behind it
pub gathered-batch : (n b : ℕ) (before : List Tuple) (all : List Tuple) (bound count after : ℕ) (tuples : List Tuple) (i : ℕ) (batches : List (List Item)) (items read : List Item) → i < length batches
    → items ≡ slice_index_or batches i items → read ≡ items → tuples ≡ before ++ new_tuples n read → count ≡ n + length (new_tuples n read) → after ≡ new_bound n b read
    → (before ++ new_tuples n (in_batches (drop i batches)) ≡ all) × (new_bound n b (in_batches (drop i batches)) ≡ bound)
    → (tuples ++ new_tuples count (in_batches (drop (i + 1) batches)) ≡ all) × (new_bound count after (in_batches (drop (i + 1) batches)) ≡ bound)
gathered-batch n b before all bound count after tuples i batches items read l e same ts ns bs h =
    let rest = in_batches (drop (i + 1) batches) in
    let next : in_batches (drop i batches) ≡ read ++ rest = next-batch i batches items l e ∙ ap (λ xs. xs ++ rest) (sym same) in (
      gathered-tuples n all before count tuples read rest ns ts (ap (λ xs. before ++ new_tuples n xs) (sym next) ∙ h.0),
      gathered-bound n bound b count after read rest ns bs (ap (λ xs. new_bound n b xs) (sym next) ∙ h.1),
    )
