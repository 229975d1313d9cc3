-- Which slot is given, where one of them is shut or newly opened.
use Rattle.std.proofs.Common.{◌≡◌, ℕ, ◌<◌, Bool, true, false, ltb, Some, inl, inr, refl, sym, ap, arith}
use Rattle.std.proofs.lemmas.Bool.{cases_Bool}
use Rattle.std.proofs.lemmas.Bool.Decides.{nat_tests}
use Rattle.saved_slots.specs.Slots.{chosen, next_of}

pub shut_first : (a b : Bool) (m n p q : ℕ) → next_of (chosen a b m n) ≡ false → chosen false b p q ≡ chosen a b m n
shut_first true true m n p q next = elim (cases_Bool (ltb m n)) [
  | inl later ↦ ap (λ (s : Bool). Some s) (sym later)
  | inr not_so ↦ absurd (cc (ap (λ (s : Bool). next_of (Some s)) not_so, next))
]
shut_first true false m n p q next = absurd (cc next)
shut_first false true m n p q next = refl
shut_first false false m n p q next = refl

pub shut_second : (a b : Bool) (m n p q : ℕ) → next_of (chosen a b m n) ≡ true → chosen a false p q ≡ chosen a b m n
shut_second true true m n p q next = elim (cases_Bool (ltb m n)) [
  | inl later ↦ absurd (cc (ap (λ (s : Bool). next_of (Some s)) later, next))
  | inr not_so ↦ ap (λ (s : Bool). Some s) (sym not_so)
]
shut_second true false m n p q next = refl
shut_second false true m n p q next = absurd (cc next)
shut_second false false m n p q next = absurd (cc next)

pub open_first : (a b : Bool) (m n p q : ℕ) → next_of (chosen a b m n) ≡ false → (chosen a b m n ≡ Some true → q < p) → chosen true b p q ≡ Some false
open_first true true m n p q next less = elim (cases_Bool (ltb m n)) [
  | inl later ↦ let low = less (ap (λ (s : Bool). Some s) later) in let test : ltb p q ≡ false = grind (arith, nat_tests) in ap (λ (s : Bool). Some s) test
  | inr not_so ↦ absurd (cc (ap (λ (s : Bool). next_of (Some s)) not_so, next))
]
open_first true false m n p q next less = refl
open_first false true m n p q next less = let low = less refl in let test : ltb p q ≡ false = grind (arith, nat_tests) in ap (λ (s : Bool). Some s) test
open_first false false m n p q next less = refl

pub open_second : (a b : Bool) (m n p q : ℕ) → next_of (chosen a b m n) ≡ true → (chosen a b m n ≡ Some false → p < q) → chosen a true p q ≡ Some true
open_second true true m n p q next less = elim (cases_Bool (ltb m n)) [
  | inl later ↦ absurd (cc (ap (λ (s : Bool). next_of (Some s)) later, next))
  | inr not_so ↦ let low = less (ap (λ (s : Bool). Some s) not_so) in let test : ltb p q ≡ true = grind (arith, nat_tests) in ap (λ (s : Bool). Some s) test
]
open_second true false m n p q next less = let low = less refl in let test : ltb p q ≡ true = grind (arith, nat_tests) in ap (λ (s : Bool). Some s) test
open_second false true m n p q next less = refl
open_second false false m n p q next less = absurd (cc next)
