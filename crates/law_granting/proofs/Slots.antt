-- The slots of nodes after an event, and what a slot tells of its asks.
use Rattle.std.proofs.Common.{◌≡◌, ℕ, zero, suc, ◌+◌, ◌<◌, ◌≤◌, true, false, cond, nat_lt, List, [], ◌∷◌, ◌++◌, map, refl, sym, subst, ◌∙◌, arith, Option, Some, None, slice_get, ◌⊎◌, inl, inr}
use Rattle.std.specs.Prelude.{IfSome}
use Rattle.dpc_lists.specs.Lists.{changed}
use Rattle.dpc_model.specs.Granting.{Key}
use Rattle.dpc_model.specs.Actors.{role_of}
use Rattle.dpc_model.specs.declared.actors.Role.TheVariants.{Node as IsNode}
use Rattle.node_model.specs.Mails.{Mail}
use Rattle.node_model.specs.Nodes.{Home, PlainNode, restarted_node}
use Rattle.world_model.specs.Worlds.{World, Envelope, Slot, node_place, slot_of, from, restart_slot}
use Rattle.dpc_lists.proofs.Truths.{lt-of}
use Rattle.dpc_model.proofs.Numbers.{le-or}
use Rattle.law_safety.proofs.Numbering.{same-actor}
use Rattle.dpc_lists.proofs.Each.{Each}
use Rattle.law_granting.specs.Asking.{IsOver, WasAsked}
use Rattle.law_granting.proofs.Keys.{nth-changed, IsAskStep}

-- ---- places

-- the slot of another actor than the one that was changed
pub slot-there : (w : World) (a b f r p q : ℕ) (g : Slot → Slot) → role_of w.plan a ≡ IsNode f r → role_of w.plan b ≡ IsNode p q → (b ≡ a → ⊥) → slot_of (record w { nodes = changed (node_place w.plan a) g w.nodes }) b ≡ slot_of w b
slot-there w a b f r p q g role there other =
    elim (nth-changed (record { last_inc = 0; node = None }) (node_place w.plan a) g w.nodes (node_place w.plan b)) [
      | inl same ↦ same
      | inr here ↦ absurd (other (same-actor w.plan b a p q f r there role here.0))
    ]

-- ---- what a slot tells stays so

pub record Advances (x y : Slot) : Type 0 where
  pub last : x.last_inc ≤ y.last_inc
  pub over : (key : Key) → IsOver x key → IsOver y key
  pub asked : (key : Key) → WasAsked x key → WasAsked y key

pub advances-same : (x y : Slot) → y ≡ x → Advances x y
advances-same x y e = subst (λ (z : Slot). Advances x z) (sym e) (record { last = omega arith; over = λ key h. h; asked = λ key h. h })

pub advances-down : (x : Slot) → Advances x (record x { node = None })
advances-down x = record { last = omega arith; over = λ key h. record { came = h.came; over = tt }; asked = λ key h. record { came = h.came; asked = tt } }

pub advances-restart : (home : Home) (i : ℕ) (x : Slot) → Advances x (restart_slot home i x)
unfolding restarted_node
advances-restart home i x = by-node x.node refl
  where
    by-node : (o : Option PlainNode) → x.node ≡ o → Advances x (elim o [ Some n ↦ x | None ↦ cond (nat_lt x.last_inc i) (record { last_inc = i; node = Some (restarted_node home i) }) x ])
    by-node (Some n) e = advances-same x x refl
    by-node None e = (elim (nat_lt x.last_inc i) as (λ b. nat_lt x.last_inc i ≡ b → Advances x (cond b (record { last_inc = i; node = Some (restarted_node home i) }) x)) [
      | true ↦ λ f.
          let less = lt-of x.last_inc i f in
          record {
            last = omega (arith, less);
            over = λ key h. let low = h.came in record { came = omega (arith, low, less); over = λ same. absurd (omega (arith, low, less, same)) };
            asked = λ key h. let low = h.came in record { came = omega (arith, low, less); asked = λ same. absurd (omega (arith, low, less, same)) };
          }
      | false ↦ λ f. advances-same x x refl
    ]) refl

pub advances-step : (H A E : ℕ → Key → Type 0) (x : Slot) (n m : PlainNode) → x.node ≡ Some n → IsAskStep H A E n.grants m.grants → Advances x (record x { node = Some m })
advances-step H A E x n m up s =
    record {
      last = omega arith;
      over = λ key h. record {
        came = h.came;
        over = λ same.
            let old : key.0 ≡ n.grants.inc → key.1 ≤ n.grants.over = subst (λ (o : Option PlainNode). IfSome o (λ (z : PlainNode). key.0 ≡ z.grants.inc → key.1 ≤ z.grants.over)) up h.over in
            let low = old (same ∙ s.inc) in
            let more = s.over in omega (arith, low, more);
      };
      asked = λ key h. record {
        came = h.came;
        asked = λ same.
            let old : key.0 ≡ n.grants.inc → (key.1 ≤ n.grants.over) ⊎ ((key.1 ≡ n.grants.over + 1) × (n.grants.running ≡ true)) =
            subst (λ (o : Option PlainNode). IfSome o (λ (z : PlainNode). key.0 ≡ z.grants.inc → (key.1 ≤ z.grants.over) ⊎ ((key.1 ≡ z.grants.over + 1) × (z.grants.running ≡ true)))) up h.asked in
            now key (old (same ∙ s.inc));
      };
    }
  where
    now : (key : Key) → (key.1 ≤ n.grants.over) ⊎ ((key.1 ≡ n.grants.over + 1) × (n.grants.running ≡ true)) → (key.1 ≤ m.grants.over) ⊎ ((key.1 ≡ m.grants.over + 1) × (m.grants.running ≡ true))
    now key (inl low) = let more = s.over in inl (omega (arith, low, more))
    now key (inr asks) =
        elim (s.runs asks.1) [
          | inl still ↦ next (le-or m.grants.over n.grants.over) still
          | inr past ↦ let one = asks.0 in inl (omega (arith, one, past))
        ]
      where
        next : (m.grants.over ≤ n.grants.over) ⊎ (n.grants.over < m.grants.over) → m.grants.running ≡ true → (key.1 ≤ m.grants.over) ⊎ ((key.1 ≡ m.grants.over + 1) × (m.grants.running ≡ true))
        next (inl low) still = let one = asks.0 in let more = s.over in inr (omega (arith, one, low, more), still)
        next (inr past) still = let one = asks.0 in inl (omega (arith, one, past))

-- ---- envelopes

-- an envelope is an old one, or one of the mails just sent
pub got-sent : (P : Mail → Type 0) (a : ℕ) (es : List Envelope) (ms : List Mail) (k : ℕ) (e : Envelope) → Each P ms → slice_get (es ++ map (from a) ms) k ≡ Some e →
    (slice_get es k ≡ Some e) ⊎ ((m : Mail) × (e ≡ from a m) × P m)
got-sent P a [] ms k e h there = inr (among ms k h there)
  where
    among : (ms : List Mail) (k : ℕ) → Each P ms → slice_get (map (from a) ms) k ≡ Some e → (m : Mail) × (e ≡ from a m) × P m
    among [] k h f = cc
    among (m ∷ ms) zero h f = (m, cc, h.0)
    among (m ∷ ms) (suc k) h f = among ms k h.1 f
got-sent P a (x ∷ es) ms zero e h there = inl there
got-sent P a (x ∷ es) ms (suc k) e h there = got-sent P a es ms k e h there
