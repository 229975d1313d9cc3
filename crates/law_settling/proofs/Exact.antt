-- Elements of lists, and what a packet makes of the inlet that reads its sender.
use Rattle.std.proofs.Common.{◌≡◌, ◌≢◌, ℕ, zero, suc, true, false, cond, ◌==◌, nat_lt, List, [], ◌∷◌, ◌++◌, refl, sym, ap, ◌∙◌, slice_get, ◌⊎◌, inl, inr}
use Rattle.dpc_lists.specs.Lists.{changed, insert_by}
use Rattle.dpc_model.specs.Inlets.{InletState, take_batch, after_tally}
use Rattle.dpc_model.specs.Ports.{Port}
use Rattle.dpc_model.specs.declared.messages.Message.TheVariants as message
use Rattle.node_model.specs.Mails.{Mail, Packet, Plain, SnapFor, in_actor_order}
use Rattle.dpc_lists.proofs.Truths.{eq-of, eq-test}

-- ---- lists

pub get-there : {X : Type 0} (i j : ℕ) (f : X → X) (xs : List X) → (j ≡ i → ⊥) → slice_get (changed i f xs) j ≡ slice_get xs j
get-there i j f [] other = refl
get-there zero zero f (y ∷ ys) other = absurd (other refl)
get-there zero (suc j) f (y ∷ ys) other = refl
get-there (suc i) zero f (y ∷ ys) other = refl
get-there (suc i) (suc j) f (y ∷ ys) other = get-there i j f ys (λ e. other (ap suc e))

-- an element of a list
abbrev pub IsIn : {X : Type 0} → X → List X → Type 0
IsIn y [] = ⊥
IsIn y (x ∷ xs) = (x ≡ y) ⊎ IsIn y xs

pub in-left : {X : Type 0} (y : X) (xs ys : List X) → IsIn y xs → IsIn y (xs ++ ys)
in-left y [] ys h = absurd h
in-left y (x ∷ xs) ys (inl e) = inl e
in-left y (x ∷ xs) ys (inr h) = inr (in-left y xs ys h)

pub in-right : {X : Type 0} (y : X) (xs ys : List X) → IsIn y ys → IsIn y (xs ++ ys)
in-right y [] ys h = h
in-right y (x ∷ xs) ys h = inr (in-right y xs ys h)

in-insert : (y m : Mail) (ms : List Mail) → (m ≡ y) ⊎ IsIn y ms → IsIn y (insert_by (λ (z : Mail). z.to) m ms)
in-insert y m [] h = h
in-insert y m (n ∷ ns) h =
    elim (nat_lt n.to m.to) as (λ b. IsIn y (cond b (n ∷ insert_by (λ (z : Mail). z.to) m ns) (m ∷ n ∷ ns))) [
      | false ↦ h
      | true ↦ elim h [
        | inl mine ↦ inr (in-insert y m ns (inl mine))
        | inr (inl here) ↦ inl here
        | inr (inr rest) ↦ inr (in-insert y m ns (inr rest))
      ]
    ]

pub in-sorted : (y : Mail) (ms : List Mail) → IsIn y ms → IsIn y (in_actor_order ms)
in-sorted y [] h = absurd h
in-sorted y (m ∷ ms) (inl e) = in-insert y m (in_actor_order ms) (inl e)
in-sorted y (m ∷ ms) (inr h) = in-insert y m (in_actor_order ms) (inr (in-sorted y ms h))

-- ---- what a packet of its sender makes of an inlet

abbrev pub inlet_after : Packet → InletState → InletState
inlet_after (Plain (message.Batch u index items)) x = (take_batch x u index items).after
inlet_after (Plain (message.Beat b)) x = after_tally x b.tally
inlet_after (Plain (message.Subscribe asked)) x = x
inlet_after (Plain (message.Truncated u base)) x = x
inlet_after (Plain (message.Ack i n)) x = x
inlet_after (Plain (message.Ask i n)) x = x
inlet_after (Plain (message.Grant i n)) x = x
inlet_after (Plain (message.SnapAsk i n)) x = x
inlet_after (SnapFor i try s) x = x

-- a port with this inlet, and otherwise as before but for what is known of replicas
pub record PortWith (q r : Port) (inlet : InletState) : Type 0 where
  pub inlet_is : r.inlet ≡ inlet
  pub chosen : r.chosen ≡ q.chosen
  pub ticks : r.ticks ≡ q.ticks

pub same-or : (a b : ℕ) → (a ≡ b) ⊎ (a ≢ b)
same-or a b = (elim (a == b) as (λ c. (a == b) ≡ c → (a ≡ b) ⊎ (a ≢ b)) [
  | true ↦ λ e. inl (eq-of a b e)
  | false ↦ λ e. inr (λ same. let no : true ≡ false = sym (eq-test a b same) ∙ e in cc)
]) refl
