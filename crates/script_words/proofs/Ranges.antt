-- What code's numbers and symbols say of words.
use Rattle.std.proofs.Common.{◌≡◌, ℕ, ◌^◌, ◌<◌, ◌≤◌, Bool, true, false, ◌&&◌, Some, None, refl, sym, ap, ◌∙◌, arith}
use Rattle.std.specs.Prelude.{ℤ, nat_lt, nat_le}
use Rattle.std.proofs.lemmas.Bool.{and_parts, and_right, ltb-true, ltb-false, lt-leb}
use Rattle.dpc_model.specs.Words.{Word}
use Rattle.script_rules.specs.Spelling.{is_numeral, number, is_value, value, is_i64}
use Rattle.script_rules.specs.Symbols.{symbol_of, operands, is_foreign_symbol}
use Rattle.script_rules.specs.Places.{is_between}
use Rattle.script_words.specs.Options.{given}
use Rattle.script_words.specs.Numbers.{u64_of, i64_of}
use Rattle.script_words.specs.Symbols.{meant, StandsFor}
use Rattle.script_words.specs.declared.symbols.Symbol.{Symbol}
use Rattle.script_words.specs.declared.symbols.Symbol.TheVariants.{Column, Number, Time, Neg, Not, Two, Three, Foreign}

given_some : {A : Type 0} (t : Bool) (x y : A) → given t x ≡ Some y → (t ≡ true) × (x ≡ y)
given_some true x y e = (refl, cc)
given_some false x y e = absurd cc

pub given_none : {A : Type 0} (t : Bool) (x : A) → given t x ≡ None → t ≡ false
given_none true x e = absurd cc
given_none false x e = refl

-- ---- numbers

pub u64_is : (w : Word) (n : ℕ) → u64_of w ≡ Some n → (is_numeral w ≡ true) × (number w ≡ n) × (n < 2 ^ 64)
u64_is w n e =
    let g = given_some (is_numeral w && nat_lt (number w) (2 ^ 64)) (number w) n e in
    let p = and_parts (is_numeral w) (nat_lt (number w) (2 ^ 64)) g.0 in
    let low : number w < 2 ^ 64 = ltb-true (number w) (2 ^ 64) p.1 in
    (p.0, g.1, omega (arith, g.1))

-- a numeral that is none of u64 is larger
pub u64_past : (w : Word) → is_numeral w ≡ true → u64_of w ≡ None → 2 ^ 64 ≤ number w
u64_past w h e =
    let none : (is_numeral w && nat_lt (number w) (2 ^ 64)) ≡ false = given_none (is_numeral w && nat_lt (number w) (2 ^ 64)) (number w) e in
    ltb-false (number w) (2 ^ 64) (ap (λ t. t && nat_lt (number w) (2 ^ 64)) (sym h) ∙ none)

-- .. and out of every range
pub past_every_range : (w : Word) (low high : ℕ) → is_numeral w ≡ true → u64_of w ≡ None → high < 2 ^ 64 → is_between low high (number w) ≡ false
past_every_range w low high h e lt = let far : 2 ^ 64 ≤ number w = u64_past w h e in and_right (nat_le low (number w)) (nat_le (number w) high) (lt-leb (number w) high (omega arith))

pub i64_is : (w : Word) (z : ℤ) → i64_of w ≡ Some z → (is_value w ≡ true) × (is_i64 (value w) ≡ true) × (value w ≡ z)
i64_is w z e =
    let g = given_some (is_value w && is_i64 (value w)) (value w) z e in
    let p = and_parts (is_value w) (is_i64 (value w)) g.0 in
    (p.0, p.1, g.1)

-- ---- symbols

pub operands_are : (s : Symbol) (w : Word) → StandsFor s w → operands (meant s) ≡ operands (symbol_of w)
operands_are (Number z) w h = rw h.0 refl
operands_are (Column c) w h = ap operands (sym h.1)
operands_are Time w h = ap operands (sym h.1)
operands_are Neg w h = ap operands (sym h.1)
operands_are Not w h = ap operands (sym h.1)
operands_are (Two op) w h = ap operands (sym h.1)
operands_are Three w h = ap operands (sym h.1)
operands_are Foreign w h = ap operands (sym h.1)

pub foreign_is : (s : Symbol) (w : Word) → StandsFor s w → is_foreign_symbol (meant s) ≡ is_foreign_symbol (symbol_of w)
foreign_is (Number z) w h = rw h.0 refl
foreign_is (Column c) w h = ap is_foreign_symbol (sym h.1)
foreign_is Time w h = ap is_foreign_symbol (sym h.1)
foreign_is Neg w h = ap is_foreign_symbol (sym h.1)
foreign_is Not w h = ap is_foreign_symbol (sym h.1)
foreign_is (Two op) w h = ap is_foreign_symbol (sym h.1)
foreign_is Three w h = ap is_foreign_symbol (sym h.1)
foreign_is Foreign w h = ap is_foreign_symbol (sym h.1)
