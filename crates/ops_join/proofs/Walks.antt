-- Chains: a walk along one, a tuple that came, and one that went.
use Rattle.std.proofs.Common.{◌≡◌, ℕ, zero, suc, ◌+◌, ◌-◌, ◌<◌, ◌≤◌, max, nat_le, Bool, true, false, cond, ◌==◌, ◌≢◌, ◌⊎◌, inl, inr, List, [], ◌∷◌, ◌++◌, Some, length, drop, take, get_or, set, replicate, reverse, append_assoc, refl, sym, ◌∙◌, ap, arith}
use Rattle.std.proofs.lemmas.Grind.{common_steps}
use Rattle.std.proofs.lemmas.List.{append-nil, reverse-append, take-take, length-take, length-take-le, take-append-le, length-append, length-replicate, get_or_append_left, get_or-set_same, get_or-set_other, get_or-replicate}
use Rattle.std.proofs.Math.ListN.{get_or-eq_default}
use Rattle.std.specs.List.{slice_get}
use Rattle.ops_join.specs.Sides.{places_from, last_from, AreChains}

take_nil : {X : Type 0} (k : ℕ) → take {A = X} k [] ≡ []
take_nil zero = refl
take_nil (suc k) = refl

take_whole : {X : Type 0} (xs : List X) → take (length xs) xs ≡ xs
take_whole [] = refl
take_whole (x ∷ xs) = ap (λ ys. x ∷ ys) (take_whole xs)

-- one more element at the end
pub one-more : {X : Type 0} (xs : List X) (k : ℕ) (x : X) → slice_get xs k ≡ Some x → take (k + 1) xs ≡ take k xs ++ x ∷ []
one-more [] k x h = absurd (cc)
one-more (y ∷ xs) zero x h = let e : y ≡ x = cc in rw e refl
one-more (y ∷ xs) (suc k) x h = let e : suc k + 1 ≡ suc (k + 1) = omega arith in rw e (ap (λ ys. y ∷ ys) (one-more xs k x h))

-- an element of a list to which one was added
at-push : {X : Type 0} (xs : List X) (y x : X) (i : ℕ) → slice_get (xs ++ y ∷ []) i ≡ Some x → ((i < length xs) × (slice_get xs i ≡ Some x)) ⊎ ((i ≡ length xs) × (x ≡ y))
at-push [] y x zero h = let e : y ≡ x = cc in inr (refl, sym e)
at-push [] y x (suc i) h = absurd (cc)
at-push (z ∷ xs) y x zero h = inl (omega arith, h)
at-push (z ∷ xs) y x (suc i) h = elim (at-push xs y x i h) [
  | inl f ↦ inl (omega (arith, f.0), f.1)
  | inr f ↦ inr (ap suc f.0, f.1)
]

get_or-seam : (ms : List ℕ) (m i : ℕ) → i ≡ length ms → get_or (ms ++ m ∷ []) i 0 ≡ m
get_or-seam [] m i e = rw e refl
get_or-seam (k ∷ ms) m i e = rw e (get_or-seam ms m (length ms) refl)

choice-low : (b : Bool) (n d : ℕ) → d ≤ n → cond b (n + 1) d ≤ n + 1
choice-low true n d h = omega arith
choice-low false n d h = omega (arith, h)

module _ {X : Type 0} where
  -- a number that is no lesser than those that went
  clamped : (test : X → Bool) (m n d : ℕ) (xs : List X) → m ≤ n + 1 → max m (last_from test n d xs) ≡ last_from test n (max m d) xs
  clamped test m n d [] h = refl
  clamped test m n d (x ∷ xs) h =
      elim (test x) as (λ b. max m (last_from test (n + 1) (cond b (n + 1) d) xs) ≡ last_from test (n + 1) (cond b (n + 1) (max m d)) xs) [
        | true ↦ let up : max m (n + 1) ≡ n + 1 = omega (arith, h) in rw up at (clamped test m (n + 1) (n + 1) xs (omega (arith, h)))
        | false ↦ clamped test m (n + 1) d xs (omega (arith, h))
      ]

  last_from-push : (test : X → Bool) (n d : ℕ) (xs : List X) (x : X) → last_from test n d (xs ++ x ∷ []) ≡ cond (test x) (n + length xs + 1) (last_from test n d xs)
  last_from-push test n d [] x = let e : n + 0 + 1 ≡ n + 1 = omega arith in rw e refl
  last_from-push test n d (y ∷ xs) x =
      let e : n + 1 + length xs + 1 ≡ n + suc (length xs) + 1 = omega arith in
      rw e at (last_from-push test (n + 1) (cond (test y) (n + 1) d) xs x)

  -- its bounds
  last_from-low : (test : X → Bool) (n d : ℕ) (xs : List X) → d ≤ n → d ≤ last_from test n d xs
  last_from-low test n d [] h = omega arith
  last_from-low test n d (x ∷ xs) h =
      elim (test x) as (λ b. d ≤ last_from test (n + 1) (cond b (n + 1) d) xs) [
        | true ↦ let more = last_from-low test (n + 1) (n + 1) xs (omega arith) in omega (arith, h, more)
        | false ↦ last_from-low test (n + 1) d xs (omega (arith, h))
      ]

  last_from-high : (test : X → Bool) (n d : ℕ) (xs : List X) → d ≤ n → last_from test n d xs ≤ n + length xs
  last_from-high test n d [] h = omega (arith, h)
  last_from-high test n d (x ∷ xs) h =
      elim (test x) as (λ b. last_from test (n + 1) (cond b (n + 1) d) xs ≤ n + suc (length xs)) [
        | true ↦ let more = last_from-high test (n + 1) (n + 1) xs (omega arith) in omega (arith, more)
        | false ↦ let more = last_from-high test (n + 1) d xs (omega (arith, h)) in omega (arith, more)
      ]

  -- a number that is not past the first one
  last_from-none : (test : X → Bool) (n d : ℕ) (xs : List X) → last_from test n d xs ≤ n → last_from test n d xs ≡ d
  last_from-none test n d [] = λ h. refl
  last_from-none test n d (x ∷ xs) =
      elim (test x) as (λ b. last_from test (n + 1) (cond b (n + 1) d) xs ≤ n → last_from test (n + 1) (cond b (n + 1) d) xs ≡ d) [
        | true ↦ λ h. let more = last_from-low test (n + 1) (n + 1) xs (omega arith) in absurd (omega (arith, h, more))
        | false ↦ λ h. last_from-none test (n + 1) d xs (omega (arith, h))
      ]

  places-none : (test p : X → Bool) → ((x : X) → p x ≡ true → test x ≡ true) → (n d m : ℕ) (xs : List X) → last_from test n d xs ≤ n → places_from p m xs ≡ []
  places-none test p sub n d m [] = λ h. refl
  places-none test p sub n d m (x ∷ xs) =
      (elim (test x) as (λ b. test x ≡ b → last_from test (n + 1) (cond b (n + 1) d) xs ≤ n → places_from p m (x ∷ xs) ≡ []) [
        | true ↦ λ e h. let more = last_from-low test (n + 1) (n + 1) xs (omega arith) in absurd (omega (arith, h, more))
        | false ↦ λ e h.
            (elim (p x) as (λ c. p x ≡ c → cond c (m ∷ places_from p (m + 1) xs) (places_from p (m + 1) xs) ≡ []) [
              | true ↦ λ f. let g = sub x f in absurd (cc)
              | false ↦ λ f. places-none test p sub (n + 1) d (m + 1) xs (omega (arith, h))
            ]) refl
      ]) refl

  -- what stands behind the last element that passes can be left out
  cut-last : (test : X → Bool) (n d e : ℕ) (xs : List X) → d ≤ n → last_from test n d xs ≡ e → last_from test n d (take (e - n) xs) ≡ e
  cut-last test n d e [] h is = rw (take_nil {X = X} (e - n)) is
  cut-last test n d e (x ∷ xs) h is =
      (elim (nat_le e n) as (λ b. nat_le e n ≡ b → last_from test n d (take (e - n) (x ∷ xs)) ≡ e) [
        | true ↦ λ f.
            let low : e ≤ n = grind (arith, common_steps) in
            let none : e - n ≡ 0 = omega (arith, low) in
            let whole : last_from test n d (x ∷ xs) ≡ e = is in
            rw none (sym (last_from-none test n d (x ∷ xs) (rw whole low)) ∙ whole)
        | false ↦ λ f.
            let high : n < e = grind (arith, common_steps) in
            let some : e - n ≡ suc (e - (n + 1)) = omega (arith, high) in
            rw some (cut-last test (n + 1) (cond (test x) (n + 1) d) e xs (choice-low (test x) n d h) is)
      ]) refl

  cut-places : (test p : X → Bool) → ((x : X) → p x ≡ true → test x ≡ true) → (n d m e : ℕ) (xs : List X) → d ≤ n → last_from test n d xs ≡ e →
      places_from p m (take (e - n) xs) ≡ places_from p m xs
  cut-places test p sub n d m e [] h is = rw (take_nil {X = X} (e - n)) refl
  cut-places test p sub n d m e (x ∷ xs) h is =
      (elim (nat_le e n) as (λ b. nat_le e n ≡ b → places_from p m (take (e - n) (x ∷ xs)) ≡ places_from p m (x ∷ xs)) [
        | true ↦ λ f.
            let low : e ≤ n = grind (arith, common_steps) in
            let none : e - n ≡ 0 = omega (arith, low) in
            let whole : last_from test n d (x ∷ xs) ≡ e = is in
            rw none (sym (places-none test p sub n d m (x ∷ xs) (rw whole low)))
        | false ↦ λ f.
            let high : n < e = grind (arith, common_steps) in
            let some : e - n ≡ suc (e - (n + 1)) = omega (arith, high) in
            let rest = cut-places test p sub (n + 1) (cond (test x) (n + 1) d) (m + 1) e xs (choice-low (test x) n d h) is in
            rw (some, rest) refl
      ]) refl

  places-push : (p : X → Bool) (m : ℕ) (xs : List X) (x : X) → places_from p m (xs ++ x ∷ []) ≡ places_from p m xs ++ cond (p x) ((m + length xs) ∷ []) []
  places-push p m [] x = let e : m + 0 ≡ m = omega arith in rw e refl
  places-push p m (y ∷ xs) x =
      let e : m + 1 + length xs ≡ m + suc (length xs) = omega arith in
      let rest = places-push p (m + 1) xs x in
      elim (p y) as (λ b. cond b (m ∷ places_from p (m + 1) (xs ++ x ∷ [])) (places_from p (m + 1) (xs ++ x ∷ [])) ≡ cond b (m ∷ places_from p (m + 1) xs) (places_from p (m + 1) xs) ++ cond (p x) ((m + suc (length xs)) ∷ []) []) [
        | true ↦ ap (λ ps. m ∷ ps) (rw e at rest)
        | false ↦ rw e at rest
      ]

  -- ---- a walk

  -- the link with which a walk begins
  pub walk-first : (test p : X → Bool) → ((x : X) → p x ≡ true → test x ≡ true) → (n link : ℕ) (xs : List X) → max n link ≡ last_from test n n xs →
      (max n link ≡ last_from test n n (take (link - n) xs)) × (places_from p 0 (take (link - n) xs) ≡ places_from p 0 xs)
  walk-first test p sub n link xs h =
      let same : max n link - n ≡ link - n = omega arith in (
        sym (rw same at (cut-last test n n (max n link) xs (omega arith) (sym h))),
        rw same at (cut-places test p sub n n 0 (max n link) xs (omega arith) (sym h)),
      )

  -- it leads to a tuple
  pub walk-inside : (test : X → Bool) (n link : ℕ) (xs : List X) → n < link → max n link ≡ last_from test n n (take (link - n) xs) → link - n - 1 < length xs
  walk-inside test n link xs some h =
      let high = last_from-high test n n (take (link - n) xs) (omega arith) in
      let many = length-take (link - n) xs in
      omega (arith, some, h, high, many)

-- what a walk knows of the next link
pub record Walks {X : Type 0} (test p : X → Bool) (n : ℕ) (xs : List X) (link next k : ℕ) (x : X) : Type 0 where
  pub last : max n next ≡ last_from test n n (take (next - n) xs)
  pub places : places_from p 0 (take (link - n) xs) ≡ places_from p 0 (take (next - n) xs) ++ cond (p x) (k ∷ []) []
  pub less : next - n < link - n

module _ {X : Type 0} (slot : X → ℕ) where
  -- the last element of a slot is in it
  same_slot : (n k s : ℕ) (xs : List X) (x : X) → k ≡ length xs → n + k + 1 ≡ last_from (λ y. slot y == s) n n (xs ++ x ∷ []) → slot x ≡ s
  same_slot n k s xs x e h =
      let last = last_from-push (λ y. slot y == s) n n xs x in
      let high = last_from-high (λ y. slot y == s) n n xs (omega arith) in
      (elim (slot x == s) as (λ b. (slot x == s) ≡ b → slot x ≡ s) [
        | true ↦ λ f. grind (arith, common_steps)
        | false ↦ λ f.
            let none : last_from (λ y. slot y == s) n n (xs ++ x ∷ []) ≡ last_from (λ y. slot y == s) n n xs = rw f at last in
            absurd (omega (arith, none, high, e, h))
      ]) refl

  pub walk-next : (p : X → Bool) (n s link next k : ℕ) (xs : List X) (x : X) → ((y : X) → p y ≡ true → (slot y == s) ≡ true) → n < link → k ≡ link - n - 1 → k < length xs → slice_get xs k ≡ Some x →
      max n link ≡ last_from (λ y. slot y == s) n n (take (link - n) xs) → max n next ≡ last_from (λ y. slot y == slot x) n n (take k xs) →
      Walks (λ y. slot y == s) p n xs link next k x
  walk-next p n s link next k xs x sub some here low at_k h back =
      let many : length (take k xs) ≡ k = length-take-le k xs (omega (arith, low)) in
      let number : link - n ≡ k + 1 = omega (arith, some, here) in
      let upto : take (link - n) xs ≡ take k xs ++ x ∷ [] = ap (λ i. take i xs) number ∙ one-more xs k x at_k in
      let whole : n + k + 1 ≡ max n link = omega (arith, some, here) in
      let slots : slot x ≡ s = same_slot n k s (take k xs) x (sym many) (whole ∙ h ∙ ap (λ ys. last_from (λ y. slot y == s) n n ys) upto) in
      let backs : max n next ≡ last_from (λ y. slot y == s) n n (take k xs) = rw slots at back in
      let high = last_from-high (λ y. slot y == s) n n (take k xs) (omega arith) in
      let fewer : next - n ≤ k = omega (arith, backs, high, many) in
      let walk = walk-first (λ y. slot y == s) p sub n next (take k xs) backs in
      let cut : take (next - n) (take k xs) ≡ take (next - n) xs = take-take (next - n) k xs fewer in
      let at : 0 + length (take k xs) ≡ k = omega (arith, many) in
      record {
        last = rw cut at walk.0;
        places =
            ap (λ ys. places_from p 0 ys) upto ∙ places-push p 0 (take k xs) x
            ∙ rw (at, ← cut) (ap (λ ps. ps ++ cond (p x) (k ∷ []) []) (sym walk.1));
        less = omega (arith, fewer, number);
      }

  -- ---- tuples that come and go

  module _ (top : ℕ) where
    pub AreChains-none : (n : ℕ) (heads : List ℕ) → ((s : ℕ) → get_or heads s 0 ≡ 0) → AreChains slot top n [] heads []
    AreChains-none n heads zeros = record {
      many = refl;
      last = λ s low. let none : max n 0 ≡ n = omega arith in rw (zeros s, none) refl;
      back = λ i x h. absurd (cc);
    }

    last-pushed : (n m s : ℕ) (xs : List X) (x : X) (heads : List ℕ) → slot x < length heads → m ≡ n + length xs + 1 → max n (get_or heads s 0) ≡ last_from (λ y. slot y == s) n n xs →
        max n (get_or (set heads (slot x) m) s 0) ≡ last_from (λ y. slot y == s) n n (xs ++ x ∷ [])
    last-pushed n m s xs x heads inside number h =
        rw (last_from-push (λ y. slot y == s) n n xs x)
        ((elim (slot x == s) as (λ b. (slot x == s) ≡ b → max n (get_or (set heads (slot x) m) s 0) ≡ cond b (n + length xs + 1) (last_from (λ y. slot y == s) n n xs)) [
          | true ↦ λ f.
              let same : s ≡ slot x = grind (arith, common_steps) in
              let up : max n m ≡ n + length xs + 1 = omega (arith, number) in
              rw (same, get_or-set_same heads (slot x) m 0 inside) up
          | false ↦ λ f.
              let apart : s ≢ slot x = grind (arith, common_steps) in
              rw (get_or-set_other heads (slot x) s m 0 apart) h
        ]) refl)

    pub AreChains-push : (n m : ℕ) (xs : List X) (x : X) (heads before : List ℕ) → slot x < length heads → slot x ≤ top → m ≡ n + length xs + 1 → AreChains slot top n xs heads before →
        AreChains slot top n (xs ++ x ∷ []) (set heads (slot x) m) (before ++ get_or heads (slot x) 0 ∷ [])
    AreChains-push n m xs x heads before inside below number i = record {
      many = length-append before (get_or heads (slot x) 0 ∷ []) ∙ rw i.many (sym (length-append xs (x ∷ [])));
      last = λ s low. last-pushed n m s xs x heads inside number (i.last s low);
      back = λ j y h. elim (at-push xs x y j h) [
        | inl f ↦
            let low : j < length before = rw i.many f.0 in
            rw (get_or_append_left before (get_or heads (slot x) 0 ∷ []) 0 j low, take-append-le j xs (x ∷ []) (omega (arith, f.0))) (i.back j y f.1)
        | inr f ↦
            rw (f.1, f.0, take-append-le (length xs) xs (x ∷ []) (omega arith), take_whole xs, get_or-seam before (get_or heads (slot x) 0) (length xs) (sym i.many))
            (i.last (slot x) below)
      ];
    }

    -- a link, once the first element went
    moved : (n s link : ℕ) (x : X) (xs : List X) → max n link ≡ last_from (λ y. slot y == s) n n (x ∷ xs) → max (n + 1) link ≡ last_from (λ y. slot y == s) (n + 1) (n + 1) xs
    moved n s link x xs h =
        let twice : max (n + 1) link ≡ max (n + 1) (max n link) = omega arith in
        let first : max (n + 1) (cond (slot x == s) (n + 1) n) ≡ n + 1 = elim (slot x == s) as (λ b. max (n + 1) (cond b (n + 1) n) ≡ n + 1) [
          | true ↦ omega arith
          | false ↦ omega arith
        ] in
        let up = clamped (λ y. slot y == s) (n + 1) (n + 1) (cond (slot x == s) (n + 1) n) xs (omega arith) in
        twice ∙ ap (λ k. max (n + 1) k) h ∙ rw first at up

    pub AreChains-drop : (n : ℕ) (xs : List X) (heads before : List ℕ) → 0 < length xs → AreChains slot top n xs heads before → AreChains slot top (n + 1) (drop 1 xs) heads (drop 1 before)
    AreChains-drop n [] heads before some i = absurd (omega (arith, some))
    AreChains-drop n (x ∷ xs) heads [] some i = let none : 0 ≡ suc (length xs) = i.many in absurd (omega (arith, none))
    AreChains-drop n (x ∷ xs) heads (b ∷ before) some i = record {
      many = let more : suc (length before) ≡ suc (length xs) = i.many in omega (arith, more);
      last = λ s low. moved n s (get_or heads s 0) x xs (i.last s low);
      back = λ j y h. moved n (slot y) (get_or before j 0) x (take j xs) (i.back (suc j) y h);
    }

-- slots without a link
pub no-links : (n s : ℕ) → get_or {A = ℕ} (replicate n 0) s 0 ≡ 0
no-links n s =
    (elim (nat_le n s) as (λ b. nat_le n s ≡ b → get_or {A = ℕ} (replicate n 0) s 0 ≡ 0) [
      | true ↦ λ f. let past : length {A = ℕ} (replicate n 0) ≤ s = rw (length-replicate {A = ℕ} n 0) (grind (arith, common_steps)) in get_or-eq_default (replicate n 0) 0 past
      | false ↦ λ f. get_or-replicate n s 0 0 (grind (arith, common_steps))
    ]) refl

-- ---- what a walk gathers, the last first

pub gathered-first : (found ps qs : List ℕ) → found ≡ [] → ps ≡ qs → found ++ reverse ps ≡ reverse qs
gathered-first found ps qs none same = rw (none, same) refl

pub gathered-one : (b : Bool) (found more ps qs all : List ℕ) (k : ℕ) → b ≡ true → more ≡ found ++ k ∷ [] → ps ≡ qs ++ cond b (k ∷ []) [] → found ++ reverse ps ≡ all → more ++ reverse qs ≡ all
gathered-one b found more ps qs all k met pushed last h =
    let ends : ps ≡ qs ++ k ∷ [] = rw met at last in
    let turned : reverse ps ≡ k ∷ reverse qs = rw ends (reverse-append qs (k ∷ [])) in
    let next : (found ++ k ∷ []) ++ reverse qs ≡ found ++ reverse ps = rw turned (append_assoc found (k ∷ []) (reverse qs)) in
    rw pushed next ∙ h

pub gathered-none : (b : Bool) (found ps qs all : List ℕ) (k : ℕ) → b ≡ false → ps ≡ qs ++ cond b (k ∷ []) [] → found ++ reverse ps ≡ all → found ++ reverse qs ≡ all
gathered-none b found ps qs all k missed last h =
    let ends : ps ≡ qs ++ [] = rw missed at last in
    let same : ps ≡ qs = ends ∙ append-nil qs in
    ap (λ ns. found ++ reverse ns) (sym same) ∙ h
