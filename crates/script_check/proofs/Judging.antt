-- What is judged one behind another.
use Rattle.std.proofs.Common.{◌≡◌, ℕ, zero, suc, ◌+◌, ◌-◌, ◌^◌, ◌<◌, List, [], ◌∷◌, ◌++◌, map, take, drop, length, Option, Some, None, refl, sym, ap, ◌∙◌, arith, get_or}
use Rattle.std.specs.Prelude.{Result, Ok, Err, option_map, flat_map}
use Rattle.std.proofs.lemmas.List.{length-append, take_more}
use Rattle.std.proofs.lemmas.Grind.{flat_map-append}
use Rattle.script_rules.specs.declared.reasons.Reason.{Reason}
use Rattle.script_rules.specs.declared.reasons.PlanFault.{PlanFault}
use Rattle.script_rules.specs.Statements.{Statement}
use Rattle.script_rules.specs.Drafts.{Draft, and_then}
use Rattle.script_rules.specs.Reasons.{first_of_tests, tests_said}
use Rattle.script_rules.specs.Checking.{check_from}
use Rattle.script_rules.proofs.Passing.{all_said}
use Rattle.script_check.specs.Judging.{told, told_fault, Judges}

abbrev found_at : ℕ → Option Reason → Option PlanFault → Option PlanFault
found_at n o rest = elim o as (λ o. Option PlanFault) [ None ↦ rest | Some r ↦ Some (record { line = n; reason = r }) ]

pub check-append : (n : ℕ) (d : Draft) (a b : List Statement) → check_from n d a ≡ None → check_from n d (a ++ b) ≡ check_from (n + length a) (all_said d a) b
check-append n d [] b h = let same : n ≡ n + 0 = omega arith in ap (λ k. check_from k d b) same
check-append n d (s ∷ a) b h =
    (elim (first_of_tests (tests_said d s)) as (λ o. found_at n o (check_from (n + 1) (and_then d s) a) ≡ None → found_at n o (check_from (n + 1) (and_then d s) (a ++ b)) ≡ check_from (n + suc (length a)) (all_said (and_then d s) a) b) [
      | None ↦ λ h.
          let same : (n + 1) + length a ≡ n + suc (length a) = omega arith in
          check-append (n + 1) (and_then d s) a b h ∙ ap (λ k. check_from k (all_said (and_then d s) a) b) same
      | Some r ↦ λ h. absurd cc
    ]) h

fault-append : (f : PlanFault) (n : ℕ) (d : Draft) (a b : List Statement) → option_map told_fault (check_from n d a) ≡ Some f → option_map told_fault (check_from n d (a ++ b)) ≡ Some f
fault-append f n d [] b h = absurd cc
fault-append f n d (s ∷ a) b h =
    (elim (first_of_tests (tests_said d s)) as (λ o. option_map told_fault (found_at n o (check_from (n + 1) (and_then d s) a)) ≡ Some f → option_map told_fault (found_at n o (check_from (n + 1) (and_then d s) (a ++ b))) ≡ Some f) [
      | None ↦ λ h. fault-append f (n + 1) (and_then d s) a b h
      | Some r ↦ λ h. h
    ]) h

-- ---- parts

pub judges_none : (line n : ℕ) (d : Draft) → line ≡ told n → Judges (Ok line) n d []
judges_none line n d h = let same : n ≡ n + 0 = omega arith in (h ∙ ap told same, refl)

pub judges_then : (r : Result ℕ PlanFault) (line n : ℕ) (d : Draft) (a b : List Statement) → Judges (Ok line) n d a → Judges r (n + length a) (all_said d a) b → Judges r n d (a ++ b)
judges_then (Ok next) line n d a b h k =
    let long : (n + length a) + length b ≡ n + length (a ++ b) = let sum = length-append a b in omega (arith, sum) in
    (k.0 ∙ ap told long, check-append n d a b h.1 ∙ k.1)
judges_then (Err f) line n d a b h k = ap (option_map told_fault) (check-append n d a b h.1) ∙ k

pub judges_stop : (f : PlanFault) (n : ℕ) (d : Draft) (a b : List Statement) → Judges (Err f) n d a → Judges (Err f) n d (a ++ b)
judges_stop f n d a b h = fault-append f n d a b h

-- ---- one statement

pub told_next : (line next n : ℕ) → line ≡ told n → next ≡ told (line + 1) → next ≡ told (n + 1)
told_next line next n h k = omega (arith, h, k)

pub judges_one : (line next n : ℕ) (d : Draft) (s : Statement) → line ≡ told n → next ≡ told (line + 1) → first_of_tests (tests_said d s) ≡ None → Judges (Ok next) n d (s ∷ [])
judges_one line next n d s h k none = (told_next line next n h k, ap (λ o. found_at n o None) none)

pub judges_fault : (line : ℕ) (r : Reason) (n : ℕ) (d : Draft) (s : Statement) (rest : List Statement) → line ≡ told n → first_of_tests (tests_said d s) ≡ Some r → Judges (Err (record { line = line; reason = r })) n d (s ∷ rest)
judges_fault line r n d s rest h some =
    ap (λ o. option_map told_fault (found_at n o (check_from (n + 1) (and_then d s) rest))) some ∙ ap (λ l. Some (record { line = l; reason = r })) (sym h)

-- ---- lists of parts

pub flat-more : {X : Type 0} (g : X → List Statement) (i : ℕ) (x : X) (xs : List X) → i < length xs → x ≡ get_or xs i x → flat_map g (take (i + 1) xs) ≡ flat_map g (take i xs) ++ g x
flat-more g i x xs low is =
    ap (flat_map g) (take_more xs i x low) ∙ ap (λ y. flat_map g (take i xs ++ y ∷ [])) (sym is) ∙ flat_map-append g (take i xs) (x ∷ [])
    ∙ ap (λ l. flat_map g (take i xs) ++ l) (append-none (g x))
  where
    append-none : (l : List Statement) → l ++ [] ≡ l
    append-none [] = refl
    append-none (s ∷ l) = ap (λ m. s ∷ m) (append-none l)

parted : {X : Type 0} (i : ℕ) (x : X) (xs : List X) → i < length xs → x ≡ get_or xs i x → xs ≡ take i xs ++ (x ∷ drop (i + 1) xs)
parted i x [] low is = absurd (omega (arith, low))
parted zero x (y ∷ xs) low is = ap (λ z. z ∷ xs) (sym is)
parted (suc i) x (y ∷ xs) low is =
    let next : suc i + 1 ≡ suc (i + 1) = omega arith in
    rw next (ap (λ l. y ∷ l) (parted i x xs (omega (arith, low)) is))

pub flat-parted : {X : Type 0} (g : X → List Statement) (i : ℕ) (x : X) (xs : List X) → i < length xs → x ≡ get_or xs i x → flat_map g xs ≡ flat_map g (take i xs) ++ (g x ++ flat_map g (drop (i + 1) xs))
flat-parted g i x xs low is = ap (flat_map g) (parted i x xs low is) ∙ flat_map-append g (take i xs) (x ∷ drop (i + 1) xs)

pub map-more : {X : Type 0} (g : X → Statement) (i : ℕ) (x : X) (xs : List X) → i < length xs → x ≡ get_or xs i x → map g (take (i + 1) xs) ≡ map g (take i xs) ++ g x ∷ []
map-more g i x [] low is = absurd (omega (arith, low))
map-more g zero x (y ∷ xs) low is = ap (λ z. g z ∷ []) (sym is)
map-more g (suc i) x (y ∷ xs) low is =
    let next : suc i + 1 ≡ suc (i + 1) = omega arith in
    rw next (ap (λ l. g y ∷ l) (map-more g i x xs (omega (arith, low)) is))

pub map-parted : {X : Type 0} (g : X → Statement) (i : ℕ) (x : X) (xs : List X) → i < length xs → x ≡ get_or xs i x → map g xs ≡ map g (take i xs) ++ (g x ∷ map g (drop (i + 1) xs))
map-parted g i x [] low is = absurd (omega (arith, low))
map-parted g zero x (y ∷ xs) low is = ap (λ z. g z ∷ map g xs) (sym is)
map-parted g (suc i) x (y ∷ xs) low is =
    let next : suc i + 1 ≡ suc (i + 1) = omega arith in
    rw next (ap (λ l. g y ∷ l) (map-parted g i x xs (omega (arith, low)) is))

-- a line that is told below the greatest number is that line
pub told_exactly : (o : Option PlanFault) (fault : PlanFault) → option_map told_fault o ≡ Some fault → fault.line < 2 ^ 64 - 1 → o ≡ Some fault
told_exactly None fault h low = absurd cc
told_exactly (Some f) fault h low =
    let same : told_fault f ≡ fault = cc in
    let line : told f.line ≡ fault.line = ap (λ (x : PlanFault). x.line) same in
    let exact : f.line ≡ fault.line = omega (arith, line, low) in
    let reason : f.reason ≡ fault.reason = ap (λ (x : PlanFault). x.reason) same in
    ap (λ l. Some (record { line = l; reason = f.reason })) exact ∙ ap (λ r. Some (record { line = fault.line; reason = r })) reason
