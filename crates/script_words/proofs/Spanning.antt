-- Expressions, measured word by word.
use Rattle.std.proofs.Common.{◌≡◌, ℕ, zero, suc, ◌+◌, ◌-◌, ◌≤◌, false, max, List, [], ◌∷◌, length, take, drop, refl, sym, ap, subst, ◌∙◌, arith}
use Rattle.std.proofs.Math.Dec.{eqb-suc-zero}
use Rattle.dpc_model.specs.Words.{Word}
use Rattle.dpc_model.specs.Formula as formula
use Rattle.dpc_model.specs.Formula.{Formula}
use Rattle.std.proofs.lemmas.List.{take_all, drop-drop, length-drop}
use Rattle.script_rules.specs.Symbols as spec
use Rattle.script_rules.specs.Symbols.{symbol_of, operands, is_foreign_symbol, applied, formulas}
use Rattle.script_words.specs.Symbols.{meant, StandsFor}
use Rattle.script_words.specs.Readable.{AreReadable, longest, columns_in}
use Rattle.script_words.specs.Spans.{with_word, own_columns}
use Rattle.script_words.specs.declared.symbols.Symbol.{Symbol}
use Rattle.script_words.specs.declared.symbols.Symbol.TheVariants.{Column, Number, Time, Neg, Not, Two, Three, Foreign}
use Rattle.script_words.specs.declared.expressions.Span.{Span}
use Rattle.script_words.proofs.ReadExpressions.{symbol_meant}

-- ---- an operator and its operands

abbrev sum_words : List Formula → ℕ
sum_words [] = 0
sum_words (e ∷ es) = formula.words e + sum_words es

-- the expression that a word makes of those behind it
record IsOne (made : List Formula) (k : ℕ) (es : List Formula) : Type 0 where
  head : Formula
  is : made ≡ head ∷ drop k es
  counts : formula.words head ≡ sum_words (take k es) + 1

makes_one : (s : Symbol) (es : List Formula) → is_foreign_symbol (meant s) ≡ false → operands (meant s) ≤ length es → IsOne (applied (meant s) es) (operands (meant s)) es
makes_one (Column c) es known le = record { head = _; is = refl; counts = refl }
makes_one (Number z) es known le = record { head = _; is = refl; counts = refl }
makes_one Time es known le = record { head = _; is = refl; counts = refl }
makes_one Neg [] known le = absurd (omega arith)
makes_one Neg (e ∷ es) known le = record { head = formula.Neg e; is = refl; counts = omega arith }
makes_one Not [] known le = absurd (omega arith)
makes_one Not (e ∷ es) known le = record { head = formula.Not e; is = refl; counts = omega arith }
makes_one (Two op) [] known le = absurd (omega arith)
makes_one (Two op) (d ∷ []) known le = absurd (omega arith)
makes_one (Two op) (d ∷ e ∷ es) known le = record { head = formula.Bin op d e; is = refl; counts = omega arith }
makes_one Three [] known le = absurd (omega arith)
makes_one Three (c ∷ []) known le = absurd (omega arith)
makes_one Three (c ∷ d ∷ []) known le = absurd (omega arith)
makes_one Three (c ∷ d ∷ e ∷ es) known le = record { head = formula.If c d e; is = refl; counts = omega arith }
makes_one Foreign es known le = absurd cc

-- ---- the longest expression

-- the longest of what was seen and of what is to come
abbrev in_all : ℕ → ℕ → ℕ → List Formula → ℕ
in_all wanted count most es = max most (max (count + sum_words (take wanted es)) (longest (drop wanted es)))

sum_words-split : (k n : ℕ) (es : List Formula) → sum_words (take k es) + sum_words (take n (drop k es)) ≡ sum_words (take (k + n) es)
sum_words-split zero n es = let same : 0 + n ≡ n = omega arith in rw same (omega arith)
sum_words-split (suc k) n [] =
    let none : take {A = Formula} n [] ≡ [] = take_all n [] (omega arith) in
    let none_at : take {A = Formula} (suc k + n) [] ≡ [] = take_all (suc k + n) [] (omega arith) in
    rw (none, none_at) refl
sum_words-split (suc k) n (e ∷ es) = let same : suc k + n ≡ suc (k + n) = omega arith in rw same (omega (arith, sum_words-split k n es))

-- a word of the expression under way
within : (wanted count most : ℕ) (made : List Formula) (k : ℕ) (es : List Formula) → IsOne made k es → in_all (suc wanted) count most made ≡ in_all (wanted + k) (count + 1) most es
within wanted count most made k es one =
    let order : k + wanted ≡ wanted + k = omega arith in
    let split : sum_words (take k es) + sum_words (take wanted (drop k es)) ≡ sum_words (take (wanted + k) es) = sum_words-split k wanted es ∙ ap (λ n. sum_words (take n es)) order in
    let sums : count + (formula.words one.head + sum_words (take wanted (drop k es))) ≡ (count + 1) + sum_words (take (wanted + k) es) = omega (arith, one.counts, split) in
    let rests : drop wanted (drop k es) ≡ drop (wanted + k) es = drop-drop wanted k es ∙ ap (λ n. drop n es) order in
    ap (in_all (suc wanted) count most) one.is
    ∙ ap (λ n. max most (max n (longest (drop wanted (drop k es))))) sums
    ∙ ap (λ l. max most (max ((count + 1) + sum_words (take (wanted + k) es)) (longest l))) rests

-- the first word of an expression
anew : (count most : ℕ) (made : List Formula) (k : ℕ) (es : List Formula) → IsOne made k es → in_all 0 count most made ≡ in_all k 1 (max most count) es
anew count most made k es one = ap (in_all 0 count most) one.is ∙ omega (arith, one.counts)

-- ---- what was seen so far

-- what was seen, and what is to come, are all
pub record IsSpanned (all left : List Word) (s : Span) : Type 0 where
  pub readable : AreReadable left
  pub wants : s.wanted ≤ length (formulas left)
  pub most : in_all s.wanted s.count s.longest (formulas left) ≡ longest (formulas all)
  pub counts : s.count + length left ≤ length all

-- what is known of a word that is read
pub record IsRead (left behind : List Word) (k : ℕ) : Type 0 where
  pub readable : AreReadable behind
  pub enough : k ≤ length (formulas behind)
  one : IsOne (formulas left) k (formulas behind)
  pub length_is : length left ≡ suc (length behind)

pub is_read : (left behind : List Word) (w : Word) (s : Symbol) → left ≡ w ∷ behind → StandsFor s w → AreReadable left → IsRead left behind (operands (meant s))
is_read left behind w s at stands readable =
    let r : AreReadable (w ∷ behind) = subst AreReadable at readable in
    let same : symbol_of w ≡ meant s = symbol_meant s w stands r.2 in
    let known : is_foreign_symbol (meant s) ≡ false = ap is_foreign_symbol (sym same) ∙ r.0 in
    let enough : operands (meant s) ≤ length (formulas behind) = subst (λ t. operands t ≤ length (formulas behind)) same r.1 in
    record {
      readable = r.3;
      enough = enough;
      one = subst (λ made. IsOne made (operands (meant s)) (formulas behind)) (ap (λ t. applied t (formulas behind)) (sym same) ∙ ap formulas (sym at)) (makes_one s (formulas behind) known enough);
      length_is = ap length at;
    }

with_word-suc : (most count wanted k : ℕ) → with_word (record { longest = most; count = count; wanted = suc wanted }) k ≡ record { longest = most; count = count + 1; wanted = wanted + k }
with_word-suc most count wanted k = let one_less : suc wanted - 1 ≡ wanted = omega arith in rw (eqb-suc-zero wanted, one_less) refl

spans_on : (all left behind : List Word) (most count wanted k : ℕ) → IsRead left behind k → IsSpanned all left (record { longest = most; count = count; wanted = wanted }) → IsSpanned all behind (with_word (record { longest = most; count = count; wanted = wanted }) k)
spans_on all left behind most count zero k r h =
    record {
      readable = r.readable;
      wants = r.enough;
      most = sym (anew count most (formulas left) k (formulas behind) r.one) ∙ h.most;
      counts = omega (arith, h.counts, r.length_is);
    }
spans_on all left behind most count (suc wanted) k r h =
    let more : length (formulas left) ≡ suc (length (drop k (formulas behind))) = ap length r.one.is in
    subst (IsSpanned all behind) (sym (with_word-suc most count wanted k)) (record {
      readable = r.readable;
      wants = omega (arith, h.wants, more, r.enough, length-drop k (formulas behind));
      most = sym (within wanted count most (formulas left) k (formulas behind) r.one) ∙ h.most;
      counts = omega (arith, h.counts, r.length_is);
    })

-- one more word
pub spans_more : (all left behind : List Word) (s : Span) (k : ℕ) → IsRead left behind k → IsSpanned all left s → IsSpanned all behind (with_word s k)
spans_more all left behind s k r h = spans_on all left behind s.longest s.count s.wanted k r h

-- ---- bounds

pub few_operands : (s : Symbol) → operands (meant s) ≤ 3
few_operands (Column c) = omega arith
few_operands (Number z) = omega arith
few_operands Time = omega arith
few_operands Neg = omega arith
few_operands Not = omega arith
few_operands (Two op) = omega arith
few_operands Three = omega arith
few_operands Foreign = omega arith

pub fewer_formulas : (ws : List Word) → length (formulas ws) ≤ length ws
fewer_formulas [] = omega arith
fewer_formulas (w ∷ ws) = omega (arith, fewer_applied (symbol_of w) (formulas ws), fewer_formulas ws)
  where
    fewer_applied : (s : spec.Symbol) (es : List Formula) → length (applied s es) ≤ suc (length es)
    fewer_applied (spec.Whole e) es = omega arith
    fewer_applied (spec.One make) [] = omega arith
    fewer_applied (spec.One make) (e ∷ es) = omega arith
    fewer_applied (spec.Two op) [] = omega arith
    fewer_applied (spec.Two op) (d ∷ []) = omega arith
    fewer_applied (spec.Two op) (d ∷ e ∷ es) = omega arith
    fewer_applied spec.Three [] = omega arith
    fewer_applied spec.Three (c ∷ []) = omega arith
    fewer_applied spec.Three (c ∷ d ∷ []) = omega arith
    fewer_applied spec.Three (c ∷ d ∷ e ∷ es) = omega arith
    fewer_applied spec.Foreign es = omega arith

-- ---- columns

-- a word's own column, and those of the expressions behind it
columns_applied : (s : Symbol) (es : List Formula) → is_foreign_symbol (meant s) ≡ false → operands (meant s) ≤ length es → columns_in (applied (meant s) es) ≡ max (own_columns s) (columns_in es)
columns_applied (Column c) es known le = refl
columns_applied (Number z) es known le = refl
columns_applied Time es known le = refl
columns_applied Neg [] known le = absurd (omega arith)
columns_applied Neg (e ∷ es) known le = omega arith
columns_applied Not [] known le = absurd (omega arith)
columns_applied Not (e ∷ es) known le = omega arith
columns_applied (Two op) [] known le = absurd (omega arith)
columns_applied (Two op) (d ∷ []) known le = absurd (omega arith)
columns_applied (Two op) (d ∷ e ∷ es) known le = omega arith
columns_applied Three [] known le = absurd (omega arith)
columns_applied Three (c ∷ []) known le = absurd (omega arith)
columns_applied Three (c ∷ d ∷ []) known le = absurd (omega arith)
columns_applied Three (c ∷ d ∷ e ∷ es) known le = omega arith
columns_applied Foreign es known le = absurd cc

-- one more word
pub columns_more : (left behind : List Word) (w : Word) (s : Symbol) (columns whole : ℕ) → left ≡ w ∷ behind → StandsFor s w → AreReadable left × (max columns (columns_in (formulas left)) ≡ whole) → AreReadable behind × (max (max columns (own_columns s)) (columns_in (formulas behind)) ≡ whole)
columns_more left behind w s columns whole at stands (readable, so_far) =
    let r : AreReadable (w ∷ behind) = subst AreReadable at readable in
    let same : symbol_of w ≡ meant s = symbol_meant s w stands r.2 in
    let known : is_foreign_symbol (meant s) ≡ false = ap is_foreign_symbol (sym same) ∙ r.0 in
    let enough : operands (meant s) ≤ length (formulas behind) = subst (λ t. operands t ≤ length (formulas behind)) same r.1 in
    let one : columns_in (formulas left) ≡ max (own_columns s) (columns_in (formulas behind)) = ap (λ ws. columns_in (formulas ws)) at ∙ ap (λ t. columns_in (applied t (formulas behind))) same ∙ columns_applied s (formulas behind) known enough in
    (r.3, omega (arith, one, so_far))
