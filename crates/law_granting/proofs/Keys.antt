-- Keys of asks, and what one step does to a replica's asks and promises.
use Rattle.std.proofs.Common.{◌≡◌, ℕ, zero, suc, ◌+◌, ◌<◌, ◌≤◌, Bool, true, false, cond, not, ◌&&◌, ◌==◌, List, [], ◌∷◌, refl, sym, ap, subst, ◌∙◌, arith, Option, Some, None, ◌⊎◌, inl, inr}
use Rattle.std.proofs.lemmas.Grind.{common_steps}
use Rattle.dpc_lists.specs.Lists.{nth, changed}
use Rattle.dpc_model.specs.Granting.{Key, key_le, greater_key, Grants, with_promise, promise_to, after_peer_beat, later_key, promise_after, after_absence, promise_kept, with_ask, with_ask_over, promised_other}
use Rattle.dpc_lists.proofs.Truths.{both, eq-of}
use Rattle.dpc_lists.proofs.Somes.{some-same}

-- ---- keys

pub key-refl : (a : Key) → key_le a a ≡ true
key-refl a = grind (arith, common_steps)

pub key-trans : (a b c : Key) → key_le a b ≡ true → key_le b c ≡ true → key_le a c ≡ true
key-trans a b c h k = grind (arith, common_steps)

-- the greater of two keys is one of them, and at least the first
pub greater-one : (a b : Key) → (greater_key a b ≡ a) ⊎ (greater_key a b ≡ b)
greater-one a b = elim (key_le a b) as (λ c. (cond c b a ≡ a) ⊎ (cond c b a ≡ b)) [ true ↦ inr refl | false ↦ inl refl ]

pub greater-first : (a b : Key) → key_le a (greater_key a b) ≡ true
greater-first a b = (elim (key_le a b) as (λ c. key_le a b ≡ c → key_le a (cond c b a) ≡ true) [ true ↦ λ e. e | false ↦ λ e. key-refl a ]) refl

pub greater-second : (a b : Key) → key_le b (greater_key a b) ≡ true
greater-second a b = (elim (key_le a b) as (λ c. key_le a b ≡ c → key_le b (cond c b a) ≡ true) [ true ↦ λ e. key-refl b | false ↦ λ e. key-total a b e ]) refl
  where
    key-total : (x y : Key) → key_le x y ≡ false → key_le y x ≡ true
    key-total x y e = grind (arith, common_steps)

-- ---- one step

-- what a step may do to asks and promises, where Hears tells which asks it learns to be over, Asks which asks it may
-- promise to, and Ends which promises it may end
pub record IsAskStep (Hears Asks Ends : ℕ → Key → Type 0) (g h : Grants) : Type 0 where
  pub me : h.me ≡ g.me
  pub inc : h.inc ≡ g.inc
  pub over : g.over ≤ h.over
  pub runs : g.running ≡ true → (h.running ≡ true) ⊎ (g.over < h.over)
  pub heard : (q : ℕ) (key : Key) → nth None h.heard q ≡ Some key → (nth None g.heard q ≡ Some key) ⊎ Hears q key
  pub promise : (q : ℕ) (key : Key) → h.promise ≡ Some (q, key) → (g.promise ≡ Some (q, key)) ⊎ Asks q key
  pub holds : (q : ℕ) (key : Key) → g.promise ≡ Some (q, key) → (Ends q key → ⊥) → (more : Key) × (h.promise ≡ Some (q, more)) × (key_le key more ≡ true)

module _ (Hears Asks Ends : ℕ → Key → Type 0) where
  pub step-same : (g h : Grants) → h ≡ g → IsAskStep Hears Asks Ends g h
  step-same g h e =
      subst (λ (x : Grants). IsAskStep Hears Asks Ends g x) (sym e)
      (record {
        me = refl;
        inc = refl;
        over = omega arith;
        runs = λ r. inl r;
        heard = λ q key e. inl e;
        promise = λ q key p. inl p;
        holds = λ q key p ends. (key, p, key-refl key);
      })

  pub step-asking : (g h : Grants) → IsAskStep Hears Asks Ends g h → IsAskStep Hears Asks Ends g (with_ask h)
  step-asking g h s =
      record { me = s.me; inc = s.inc; over = s.over; runs = λ r. inl refl; heard = s.heard; promise = s.promise; holds = s.holds }

  pub step-finished : (g h : Grants) → IsAskStep Hears Asks Ends g h → IsAskStep Hears Asks Ends g (with_ask_over h)
  step-finished g h s =
      (elim h.running as (λ b. h.running ≡ b → IsAskStep Hears Asks Ends g (record h { running = false; over = cond b (h.over + 1) h.over })) [
        | true ↦ λ e.
            let more = s.over in
            record { me = s.me; inc = s.inc; over = omega (arith, more); runs = λ r. inr (omega (arith, more)); heard = s.heard; promise = s.promise; holds = s.holds }
        | false ↦ λ e. record {
          me = s.me;
          inc = s.inc;
          over = s.over;
          runs = λ r. elim (s.runs r) [ inl still ↦ let clash : true ≡ false = sym still ∙ e in cc | inr past ↦ inr past ];
          heard = s.heard;
          promise = s.promise;
          holds = s.holds;
        }
      ]) refl

-- ---- what a replica learns, and promises

pub nth-changed : {X : Type 0} (d : X) (i : ℕ) (f : X → X) (xs : List X) (j : ℕ) → (nth d (changed i f xs) j ≡ nth d xs j) ⊎ ((j ≡ i) × (nth d (changed i f xs) j ≡ f (nth d xs j)))
nth-changed d i f [] j = inl refl
nth-changed d zero f (x ∷ xs) zero = inr (refl, refl)
nth-changed d zero f (x ∷ xs) (suc j) = inl refl
nth-changed d (suc i) f (x ∷ xs) zero = inl refl
nth-changed d (suc i) f (x ∷ xs) (suc j) =
    elim (nth-changed d i f xs j) [
      | inl same ↦ inl same
      | inr here ↦ inr (ap suc here.0, here.1)
    ]

module _ (Hears Asks Ends : ℕ → Key → Type 0) where
  -- what a beat told
  pub step-told : (g : Grants) (r : ℕ) (k : Key) → Hears r k → ((key : Key) → key_le key k ≡ true → Ends r key) → IsAskStep Hears Asks Ends g (after_peer_beat g r k)
  step-told g r k hears ends =
      record {
        me = refl;
        inc = refl;
        over = omega arith;
        runs = λ e. inl e;
        heard = λ q key e. heard q key (nth-changed None r (later_key k) g.heard q) e;
        promise = λ q key e. inl (kept q key g.promise refl e);
        holds = λ q key e not_over. (key, still q key e not_over, key-refl key);
      }
    where
      heard : (q : ℕ) (key : Key) → (nth None (after_peer_beat g r k).heard q ≡ nth None g.heard q) ⊎ ((q ≡ r) × (nth None (after_peer_beat g r k).heard q ≡ later_key k (nth None g.heard q))) →
          nth None (after_peer_beat g r k).heard q ≡ Some key → (nth None g.heard q ≡ Some key) ⊎ Hears q key
      heard q key (inl same) e = inl (sym same ∙ e)
      heard q key (inr here) e = by-old (nth None g.heard q) refl (sym here.1 ∙ e)
        where
          now : k ≡ key → Hears q key
          now same = subst (λ (x : Key). Hears q x) same (subst (λ (x : ℕ). Hears x k) (sym here.0) hears)

          by-old : (o : Option Key) → nth None g.heard q ≡ o → later_key k o ≡ Some key → (nth None g.heard q ≡ Some key) ⊎ Hears q key
          by-old None f d = inr (now (some-same k key d))
          by-old (Some x) f d =
              let name : greater_key x k ≡ key = some-same (greater_key x k) key d in
              elim (greater-one x k) [
                | inl old ↦ inl (f ∙ ap {B = Option Key} Some (sym old ∙ name))
                | inr new ↦ inr (now (sym new ∙ name))
              ]

      kept : (q : ℕ) (key : Key) (o : Option (ℕ × Key)) → g.promise ≡ o → promise_after o r k ≡ Some (q, key) → g.promise ≡ Some (q, key)
      kept q key None e f = cc
      kept q key (Some p) e f =
          (elim (p.0 == r && key_le p.1 k) as (λ b. cond {A = Option (ℕ × Key)} b None (Some p) ≡ Some (q, key) → g.promise ≡ Some (q, key)) [
            | true ↦ λ h. cc
            | false ↦ λ h. e ∙ h
          ]) f

      still : (q : ℕ) (key : Key) → g.promise ≡ Some (q, key) → (Ends q key → ⊥) → promise_after g.promise r k ≡ Some (q, key)
      still q key e not_over =
          rw e ((elim (q == r && key_le key k) as (λ b. (q == r && key_le key k) ≡ b → cond {A = Option (ℕ × Key)} b None (Some (q, key)) ≡ Some (q, key)) [
            | true ↦ λ h. let p = both (q == r) (key_le key k) h in absurd (not_over (subst (λ (x : ℕ). Ends x key) (sym (eq-of q r p.0)) (ends key p.1)))
            | false ↦ λ h. refl
          ]) refl)

  -- a promise
  pub step-granted : (g : Grants) (r : ℕ) (k : Key) → Asks r k → promised_other g r ≡ false → IsAskStep Hears Asks Ends g (with_promise g r k)
  step-granted g r k asks same =
      record {
        me = refl;
        inc = refl;
        over = omega arith;
        runs = λ e. inl e;
        heard = λ q key e. inl e;
        promise = λ q key e. from-promise q key g.promise refl (some-same (promise_to g r k) (q, key) e);
        holds = λ q key e ends. (greater_key key k, held q key e, greater-first key k);
      }
    where
      same-place : (p : ℕ × Key) → g.promise ≡ Some p → p.0 ≡ r
      same-place p e =
          let h : not (p.0 == r) ≡ false = rw e at same in
          (elim (p.0 == r) as (λ b. (p.0 == r) ≡ b → not b ≡ false → p.0 ≡ r) [
            | true ↦ λ c d. eq-of p.0 r c
            | false ↦ λ c d. cc
          ]) refl h

      from-promise : (q : ℕ) (key : Key) (o : Option (ℕ × Key)) → g.promise ≡ o → promise_to g r k ≡ (q, key) → (g.promise ≡ Some (q, key)) ⊎ Asks q key
      from-promise q key None e f =
          let whole : ◌≡◌ {A = ℕ × Key} (r, k) (q, key) = rw e at f in
          inr (subst (λ (x : ℕ × Key). Asks x.0 x.1) whole asks)
      from-promise q key (Some p) e f =
          let whole : ◌≡◌ {A = ℕ × Key} (r, greater_key p.1 k) (q, key) = rw e at f in
          let place : r ≡ q = ap (λ (x : ℕ × Key). x.0) whole in
          let name : greater_key p.1 k ≡ key = ap (λ (x : ℕ × Key). x.1) whole in
          let first : p.0 ≡ r = same-place p e in
          elim (greater-one p.1 k) [
            | inl old ↦ inl (e ∙ ap {B = Option (ℕ × Key)} Some (pair-same p.0 q p.1 key (first ∙ place) (sym old ∙ name)))
            | inr new ↦ inr (subst (λ (x : ℕ). Asks x key) place (subst (λ (x : Key). Asks r x) (sym new ∙ name) asks))
          ]
        where
          pair-same : (x y : ℕ) (u v : Key) → x ≡ y → u ≡ v → ◌≡◌ {A = ℕ × Key} (x, u) (y, v)
          pair-same x y u v c d = rw (c, d) refl

      held : (q : ℕ) (key : Key) → g.promise ≡ Some (q, key) → (with_promise g r k).promise ≡ Some (q, greater_key key k)
      held q key e =
          let place : q ≡ r = same-place (q, key) e in
          let now : promise_to g r k ≡ (r, greater_key key k) = rw e refl in
          ap {B = Option (ℕ × Key)} Some (now ∙ ap (λ (x : ℕ). (x, greater_key key k)) (sym place))

  -- a promise to an absent replica ends
  pub step-silent : (g : Grants) (silent : List Bool) → ((q : ℕ) (key : Key) → nth false silent q ≡ true → Ends q key) → IsAskStep Hears Asks Ends g (after_absence g silent)
  step-silent g silent ends =
      record {
        me = refl;
        inc = refl;
        over = omega arith;
        runs = λ e. inl e;
        heard = λ q key e. inl e;
        promise = λ q key e. inl (kept q key g.promise refl e);
        holds = λ q key e not_over. (key, still q key e not_over, key-refl key);
      }
    where
      kept : (q : ℕ) (key : Key) (o : Option (ℕ × Key)) → g.promise ≡ o → promise_kept o silent ≡ Some (q, key) → g.promise ≡ Some (q, key)
      kept q key None e f = cc
      kept q key (Some p) e f =
          (elim (nth false silent p.0) as (λ b. cond {A = Option (ℕ × Key)} b None (Some p) ≡ Some (q, key) → g.promise ≡ Some (q, key)) [
            | true ↦ λ h. cc
            | false ↦ λ h. e ∙ h
          ]) f

      still : (q : ℕ) (key : Key) → g.promise ≡ Some (q, key) → (Ends q key → ⊥) → promise_kept g.promise silent ≡ Some (q, key)
      still q key e not_over =
          rw e ((elim (nth false silent q) as (λ b. nth false silent q ≡ b → cond {A = Option (ℕ × Key)} b None (Some (q, key)) ≡ Some (q, key)) [
            | true ↦ λ h. absurd (not_over (ends q key h))
            | false ↦ λ h. refl
          ]) refl)
