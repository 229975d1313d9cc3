-- Inputs in serial order that are read port by port, each by the wire of its number, are read as they stand.
use Rattle.std.proofs.Common.{◌≡◌, ℕ, zero, suc, ◌+◌, ◌<◌, ◌≤◌, Bool, true, false, cond, ◌==◌, List, [], ◌∷◌, map, filter, length, refl, sym, ◌∙◌, ap, subst, arith, All}
use Rattle.std.proofs.lemmas.Grind.{common_steps}
use Rattle.std.specs.List.{AllByRecursion}
use Rattle.std.proofs.lemmas.List.Elements.{recursion_from_All}
use Rattle.dpc_lists.specs.Lists.{nth, range_with_len}
use Rattle.dpc_model.specs.Streams.{IsOrdered, AllInOrder}
use Rattle.dpc_model.specs.Engines.{precedes, is_serial, ports_of}
use Rattle.dpc_model.specs.Fragments.{serial, at_port, tag, read_wire}
use Rattle.dpc_model.specs.declared.tuples.Tuple.{Tuple}
use Rattle.dpc_model.specs.declared.tuples.Tagged.{Tagged}
use Rattle.dpc_model.specs.declared.operators.Wire.{Wire}
use Rattle.dpc_model.specs.declared.operators.Wire.TheVariants.{Port}
use Rattle.fragment_mill.specs.Reads.{AreAmong, AreStraight}
use Rattle.dpc_model.proofs.Order.{tagged_time, at_port-InOrder}
use Rattle.dpc_model.proofs.Serial.{at_port-serial, serial-is, serial-all, serial-rest, serial-ordered}

-- ---- what stands at a port

at-own : (x : Tagged) (xs : List Tagged) → at_port x.port (x ∷ xs) ≡ x.tuple ∷ at_port x.port xs
at-own x xs = let own : (x.port == x.port) ≡ true = grind (arith, common_steps) in rw own refl

at-one : (p : ℕ) (x : Tagged) (xs : List Tagged) → (x.port == p) ≡ true → at_port p (x ∷ xs) ≡ x.tuple ∷ at_port p xs
at-one p x xs e = rw e refl

at-other : (p : ℕ) (x : Tagged) (xs : List Tagged) → (x.port == p) ≡ false → at_port p (x ∷ xs) ≡ at_port p xs
at-other p x xs e = rw e refl

-- what is true of all is true of the first one at a port
first-at : (P : Tagged → Type 0) (p : ℕ) (t : Tuple) (ts : List Tuple) (ys : List Tagged) → AllByRecursion P ys → at_port p ys ≡ t ∷ ts → P (tag p t)
first-at P p t ts [] h e = absurd (cc)
first-at P p t ts (y ∷ ys) h e =
    (elim (y.port == p) as (λ c. (y.port == p) ≡ c → P (tag p t)) [
      | true ↦ λ same.
          let port : y.port ≡ p = grind (arith, common_steps) in
          let whole : y.tuple ∷ at_port p ys ≡ t ∷ ts = sym (at-one p y ys same) ∙ e in
          let tuple : y.tuple ≡ t = cc in
          subst (λ (u : Tuple). P (tag p u)) tuple (subst (λ (q : ℕ). P (tag q y.tuple)) port h.0)
      | false ↦ λ other. first-at P p t ts ys h.1 (sym (at-other p y ys other) ∙ e)
    ]) refl

-- ---- lists in serial order with the same tuples at each port are the same

before-both : (x y : Tagged) → precedes x (tag y.port y.tuple) ≡ true → precedes y (tag x.port x.tuple) ≡ true → x.port ≡ y.port
before-both x y h k = grind (arith, common_steps)

abbrev AtPorts : List Tagged → List Tagged → Type 0
AtPorts xs ys = (p : ℕ) → at_port p xs ≡ at_port p ys

same-first : (x y : Tagged) (xs ys : List Tagged) → is_serial (x ∷ xs) ≡ true → is_serial (y ∷ ys) ≡ true → AtPorts (x ∷ xs) (y ∷ ys) → x.port ≡ y.port
same-first x y xs ys s r h =
    (elim (y.port == x.port) as (λ c. (y.port == x.port) ≡ c → x.port ≡ y.port) [
      | true ↦ λ same. grind (arith, common_steps)
      | false ↦ λ other.
          let turned : (x.port == y.port) ≡ false = grind (arith, common_steps) in
          let mine : at_port x.port ys ≡ x.tuple ∷ at_port x.port xs = sym (at-other x.port y ys other) ∙ sym (h x.port) ∙ at-own x xs in
          let yours : at_port y.port xs ≡ y.tuple ∷ at_port y.port ys = sym (at-other y.port x xs turned) ∙ h y.port ∙ at-own y ys in
          before-both x y (first-at (λ z. precedes x z ≡ true) y.port y.tuple (at_port y.port ys) xs (serial-all x xs s) yours)
          (first-at (λ z. precedes y z ≡ true) x.port x.tuple (at_port x.port xs) ys (serial-all y ys r) mine)
    ]) refl

same-rest : (x : Tagged) (xs ys : List Tagged) → AtPorts (x ∷ xs) (x ∷ ys) → AtPorts xs ys
same-rest x xs ys h p =
    (elim (x.port == p) as (λ c. (x.port == p) ≡ c → at_port p xs ≡ at_port p ys) [
      | true ↦ λ same. let whole : x.tuple ∷ at_port p xs ≡ x.tuple ∷ at_port p ys = sym (at-one p x xs same) ∙ h p ∙ at-one p x ys same in cc
      | false ↦ λ other. sym (at-other p x xs other) ∙ h p ∙ at-other p x ys other
    ]) refl

pub same-serial : (xs ys : List Tagged) → is_serial xs ≡ true → is_serial ys ≡ true → AtPorts xs ys → xs ≡ ys
same-serial [] [] s r h = refl
same-serial [] (y ∷ ys) s r h = let none : [] ≡ y.tuple ∷ at_port y.port ys = h y.port ∙ at-own y ys in absurd (cc)
same-serial (x ∷ xs) [] s r h = let none : x.tuple ∷ at_port x.port xs ≡ [] = sym (at-own x xs) ∙ h x.port in absurd (cc)
same-serial (x ∷ xs) (y ∷ ys) s r h =
    let port : x.port ≡ y.port = same-first x y xs ys s r h in
    let one : (y.port == x.port) ≡ true = grind (arith, common_steps) in
    let heads : x.tuple ∷ at_port x.port xs ≡ y.tuple ∷ at_port x.port ys = sym (at-own x xs) ∙ h x.port ∙ at-one x.port y ys one in
    let tuple : x.tuple ≡ y.tuple = cc in
    let same : x ≡ y = ap (λ (p : ℕ). tag p x.tuple) port ∙ ap (λ (t : Tuple). tag y.port t) tuple in
    let rest : AtPorts xs ys = same-rest x xs ys (λ p. h p ∙ ap (λ (z : Tagged). at_port p (z ∷ ys)) (sym same)) in
    ap (λ (z : Tagged). z ∷ xs) same ∙ ap (λ (zs : List Tagged). y ∷ zs) (same-serial xs ys (serial-rest x xs s).1 (serial-rest y ys r).1 rest)

-- ---- inputs of the first n ports

none-past : (n p : ℕ) (xs : List Tagged) → AllByRecursion (λ (x : Tagged). x.port < n) xs → n ≤ p → at_port p xs ≡ []
none-past n p [] h low = refl
none-past n p (x ∷ xs) h low =
    let low0 : x.port < n = h.0 in
    let other : (x.port == p) ≡ false = grind (arith, common_steps) in at-other p x xs other ∙ none-past n p xs h.1 low

ports-from : (f : ℕ → List Tuple) (a n p : ℕ) → (n ≤ p → f (a + p) ≡ []) → nth [] (map f (range_with_len a n)) p ≡ f (a + p)
ports-from f a zero p h = sym (h (omega arith))
ports-from f a (suc n) zero h = let same : a + 0 ≡ a = omega arith in ap f (sym same)
ports-from f a (suc n) (suc p) h =
    let next : (a + 1) + p ≡ a + suc p = omega arith in
    ports-from f (a + 1) n p (λ low. ap f next ∙ h (omega (arith, low))) ∙ ap f next

in-order-from : (a n : ℕ) (xs : List Tagged) → IsOrdered tagged_time xs → AllInOrder (map (λ p. at_port p xs) (range_with_len a n))
in-order-from a zero xs o = tt
in-order-from a (suc n) xs o = (at_port-InOrder a xs o, in-order-from (a + 1) n xs o)

pub serial-ports : (n : ℕ) (xs : List Tagged) → is_serial xs ≡ true → AreAmong n xs → serial (ports_of n xs) ≡ xs
serial-ports n xs s low =
    let ordered = in-order-from 0 n xs (serial-ordered xs s) in
    same-serial (serial (ports_of n xs)) xs (serial-is (ports_of n xs)) s
    (λ p.
    let zero-plus : 0 + p ≡ p = omega arith in
    at_port-serial (ports_of n xs) p ordered
    ∙ ports-from (λ q. at_port q xs) 0 n p (λ past. ap (λ (q : ℕ). at_port q xs) zero-plus ∙ none-past n p xs (recursion_from_All (λ (x : Tagged). x.port < n) xs low) past)
    ∙ ap (λ (q : ℕ). at_port q xs) zero-plus)

-- ---- wires that read each port by its number

reads-are : (a n : ℕ) (xs : List Tagged) (outs : List (List Tuple)) → map (read_wire xs outs) (map Port (range_with_len a n)) ≡ map (λ p. at_port p xs) (range_with_len a n)
reads-are a zero xs outs = refl
reads-are a (suc n) xs outs = ap (λ (rest : List (List Tuple)). at_port a xs ∷ rest) (reads-are (a + 1) n xs outs)

pub straight-read : (ws : List Wire) (xs : List Tagged) (outs : List (List Tuple)) → AreStraight ws → is_serial xs ≡ true → AreAmong (length ws) xs →
    serial (map (read_wire xs outs) ws) ≡ xs
straight-read ws xs outs straight s low =
    ap (λ (vs : List Wire). serial (map (read_wire xs outs) vs)) straight
    ∙ ap (λ (yss : List (List Tuple)). serial yss) (reads-are 0 (length ws) xs outs)
    ∙ serial-ports (length ws) xs s low

pub as-they-stand : (xs : List Tagged) (outs : List (List Tuple)) (reads ws : List Wire) → ws ≡ reads → AreStraight ws → is_serial xs ≡ true → AreAmong (length ws) xs →
    serial (map (read_wire xs outs) reads) ≡ xs
as-they-stand xs outs reads ws e straight s low = ap (λ (vs : List Wire). serial (map (read_wire xs outs) vs)) (sym e) ∙ straight-read ws xs outs straight s low
