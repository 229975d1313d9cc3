-- Where names differ, what has a name is found by it.
use Rattle.std.proofs.Common.{◌≡◌, ℕ, zero, suc, ◌<◌, ◌≤◌, true, false, List, [], ◌∷◌, ◌++◌, map, length, Option, Some, refl, ap, ◌∙◌, arith}
use Rattle.std.specs.Prelude.{◌||◌, nat_lt, is_none, unwrap_or, option_map, bytes_eq}
use Rattle.std.proofs.lemmas.Bool.{or_parts, ltb-true, ltb-false}
use Rattle.std.proofs.lemmas.List.Folds.{list_any-append}
use Rattle.dpc_lists.specs.Lists.{nth, list_any}
use Rattle.dpc_model.specs.Words.{Word}
use Rattle.dpc_model.specs.declared.operators.Wire.{Wire}
use Rattle.dpc_model.specs.declared.operators.Wire.TheVariants.{Port, Op}
use Rattle.dpc_model.specs.declared.plans.StreamRef.{StreamRef}
use Rattle.dpc_model.specs.declared.plans.StreamRef.TheVariants.{Source, Frag}
use Rattle.dpc_lists.proofs.Truths.{or-true}
use Rattle.dpc_lists.proofs.Elements.{nth-past}
use Rattle.script_rules.specs.Drafts.{place_of_name, or_else}
use Rattle.script_rules.specs.Reasons.{is_among, has_twice}
use Rattle.script_rules.proofs.Apart.{word_is_itself, other_word, among_neither, twice-first, twice-last}
use Rattle.script_rules.proofs.Lasts.{nth-first}
use Rattle.script_rules.proofs.Streams.{no_place, other_part, nth-behind, stream_at, is_within, name_at, AreOthers}

-- ---- a word at its place

not_there : (w : Word) (ws : List Word) (i : ℕ) → is_among w ws ≡ false → i < length ws → bytes_eq w (nth [] ws i) ≡ false
not_there w [] i h low = absurd (omega (arith, low))
not_there w (x ∷ ws) zero h low = (or_parts (bytes_eq w x) (is_among w ws) h).0
not_there w (x ∷ ws) (suc i) h low = not_there w ws i (or_parts (bytes_eq w x) (is_among w ws) h).1 (omega (arith, low))

pub place-nth : (ws : List Word) (i : ℕ) → has_twice ws ≡ false → i < length ws → place_of_name (nth [] ws i) ws ≡ Some i
place-nth [] i apart low = absurd (omega (arith, low))
place-nth (w ∷ ws) zero apart low = rw (word_is_itself w) refl
place-nth (w ∷ ws) (suc i) apart low =
    let p = or_parts (is_among w ws) (has_twice ws) apart in
    let less : i < length ws = omega (arith, low) in
    rw (other_word w (nth [] ws i) (not_there w ws i p.0 less), place-nth ws i p.1 less) refl

pub nth-among : (ws : List Word) (i : ℕ) → i < length ws → is_among (nth [] ws i) ws ≡ true
nth-among [] i low = absurd (omega (arith, low))
nth-among (w ∷ ws) zero low = ap (λ t. t || is_among w ws) (word_is_itself w)
nth-among (w ∷ ws) (suc i) low = ap (λ t. bytes_eq (nth [] ws i) w || t) (nth-among ws i (omega (arith, low))) ∙ or-true (bytes_eq (nth [] ws i) w)

-- ---- streams

pub stream_back : (sources frags : List Word) (s : StreamRef) → has_twice (sources ++ frags) ≡ false → is_within (length sources) (length frags) s ≡ true → stream_at sources frags (name_at sources frags s) ≡ Some s
stream_back sources frags (Source s) apart within = rw (place-nth sources s (twice-first sources frags apart) (ltb-true s (length sources) within)) refl
stream_back sources frags (Frag f) apart within =
    let low = ltb-true f (length frags) within in
    let other : is_among (nth [] frags f) sources ≡ false = other_part (nth [] frags f) sources frags apart (nth-among frags f low) in
    rw (no_place (nth [] frags f) sources other, place-nth frags f (twice-last sources frags apart) low) refl

pub stream_among : (sources frags : List Word) (n m : ℕ) (s : StreamRef) → length sources ≡ n → m ≤ length frags → is_within n m s ≡ true → (is_among (name_at sources frags s) sources || is_among (name_at sources frags s) frags) ≡ true
stream_among sources frags n m (Source s) many few within =
    let low : s < n = ltb-true s n within in
    ap (λ t. t || is_among (nth [] sources s) frags) (nth-among sources s (omega (arith, low, many)))
stream_among sources frags n m (Frag f) many few within =
    let low : f < m = ltb-true f m within in
    ap (λ t. is_among (nth [] frags f) sources || t) (nth-among frags f (omega (arith, low, few))) ∙ or-true (is_among (nth [] frags f) sources)

-- ---- wires, by the names of ports and of operators

abbrev pub wire_at : List Word → List Word → Word → Option Wire
wire_at ports ops w = or_else (option_map Port (place_of_name w ports)) (option_map Op (place_of_name w ops))

abbrev pub wire_name : List Word → List Word → Wire → Word
wire_name ports ops (Port p) = nth [] ports p
wire_name ports ops (Op i) = nth [] ops i

lost_wire : (ports ops : List Word) (w : Word) → is_among w ports ≡ false → is_among w ops ≡ false → is_none (wire_at ports ops w) ≡ true
lost_wire ports ops w h k = rw (no_place w ports h, no_place w ops k) refl

-- names of which each one is of a port or of an operator alone
pub record AreWireNames (names before rest : List Word) : Type 0 where
  pub ports : has_twice names ≡ false
  pub ops : has_twice (before ++ rest) ≡ false
  pub no_port : is_among [] names ≡ false
  pub no_op : is_among [] (before ++ rest) ≡ false
  pub other : (w : Word) → is_among w (before ++ rest) ≡ true → is_among w names ≡ false

pub wire_back : (names ops rest : List Word) (wire : Wire) → AreWireNames names ops rest → is_none (wire_at names ops (wire_name names (ops ++ rest) wire)) ≡ false → wire_at names ops (wire_name names (ops ++ rest) wire) ≡ Some wire
wire_back names ops rest (Port p) n known =
    (elim (nat_lt p (length names)) as (λ t. nat_lt p (length names) ≡ t → wire_at names ops (nth [] names p) ≡ Some (Port p)) [
      | true ↦ λ e. rw (place-nth names p n.ports (ltb-true p (length names) e)) refl
      | false ↦ λ e.
          let none : nth [] names p ≡ [] = nth-past [] names p (ltb-false p (length names) e) in
          let lost : is_none (wire_at names ops (nth [] names p)) ≡ true = ap (λ w. is_none (wire_at names ops w)) none ∙ lost_wire names ops [] n.no_port (among_neither [] ops rest n.no_op).0 in
          absurd cc
    ]) refl
wire_back names ops rest (Op i) n known =
    (elim (nat_lt i (length ops)) as (λ t. nat_lt i (length ops) ≡ t → wire_at names ops (nth [] (ops ++ rest) i) ≡ Some (Op i)) [
      | true ↦ λ e.
          let low = ltb-true i (length ops) e in
          let first : nth [] (ops ++ rest) i ≡ nth [] ops i = nth-first [] ops rest i low in
          let among : is_among (nth [] ops i) (ops ++ rest) ≡ true = among-first (nth [] ops i) ops (nth-among ops i low) in
          ap (wire_at names ops) first ∙ rw (no_place (nth [] ops i) names (n.other (nth [] ops i) among), place-nth ops i (twice-first ops rest n.ops) low) refl
      | false ↦ λ e.
          let far = ltb-false i (length ops) e in
          let others = nth-behind (AreOthers names ops) ops rest i far (n.no_port, (among_neither [] ops rest n.no_op).0) (λ w k. (n.other w (among-last w ops k), other_part w ops rest n.ops k)) in
          let lost : is_none (wire_at names ops (nth [] (ops ++ rest) i)) ≡ true = lost_wire names ops (nth [] (ops ++ rest) i) others.0 others.1 in
          absurd cc
    ]) refl
  where
    among-first : (w : Word) (a : List Word) → is_among w a ≡ true → is_among w (a ++ rest) ≡ true
    among-first w a h = list_any-append (bytes_eq w) a rest ∙ ap (λ t. t || is_among w rest) h

    among-last : (w : Word) (a : List Word) → is_among w rest ≡ true → is_among w (a ++ rest) ≡ true
    among-last w a h = list_any-append (bytes_eq w) a rest ∙ ap (λ t. is_among w a || t) h ∙ or-true (is_among w a)

pub wires_back : (names ops rest : List Word) (wires : List Wire) → AreWireNames names ops rest → list_any (λ w. is_none (wire_at names ops w)) (map (wire_name names (ops ++ rest)) wires) ≡ false →
    map (λ w. unwrap_or (wire_at names ops w) (Port 0)) (map (wire_name names (ops ++ rest)) wires) ≡ wires
wires_back names ops rest [] n known = refl
wires_back names ops rest (wire ∷ wires) n known =
    let p = or_parts (is_none (wire_at names ops (wire_name names (ops ++ rest) wire))) (list_any (λ w. is_none (wire_at names ops w)) (map (wire_name names (ops ++ rest)) wires)) known in
    rw (wire_back names ops rest wire n p.0, wires_back names ops rest wires n p.1) refl
