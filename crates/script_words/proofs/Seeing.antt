-- A word of an expression, seen at its place.
use Rattle.std.proofs.Common.{◌≡◌, Bool, true, false, not, ◌&&◌, ◌||◌, [], Some, None, refl, sym, ap, ◌∙◌}
use Rattle.std.specs.Prelude.{replicate}
use Rattle.dpc_model.specs.Words.{Word}
use Rattle.script_rules.specs.Spelling.{is_value, value, is_i64, looks_like_value}
use Rattle.script_rules.specs.Symbols as spec
use Rattle.script_rules.specs.Symbols.{symbol_of, operands, is_foreign_symbol}
use Rattle.script_rules.specs.Places.{must}
use Rattle.script_rules.specs.declared.places.Sort.TheVariants as sort
use Rattle.script_words.specs.Symbols.{meant, lacks_value, StandsFor}
use Rattle.script_words.specs.Scans.{IsSeen}
use Rattle.script_words.specs.declared.seen.Repeated.TheVariants.{Expression}
use Rattle.script_words.specs.declared.symbols.Symbol.{Symbol}
use Rattle.script_words.specs.declared.symbols.Symbol.TheVariants.{Column, Number, Time, Neg, Not, Two, Three, Foreign}
use Rattle.script_words.proofs.Ranges.{given_none, i64_is}

not_both : (a b : Bool) → (a && b) ≡ false → true ≡ (not a || not b)
not_both true true e = absurd cc
not_both true false e = refl
not_both false b e = refl

-- a word that does not look like a value
plain_seen : (w : Word) (s : spec.Symbol) (b : Bool) → looks_like_value w ≡ false → symbol_of w ≡ s → b ≡ false → IsSeen sort.Expression w [] (record { foreign = is_foreign_symbol s; no_number = b; bad = false; count = operands s; repeated = Expression })
plain_seen w s b looks is none = record {
  foreign = ap is_foreign_symbol (sym is);
  no_number = none ∙ ap (λ t. t && not (is_value w)) (sym looks);
  bad = ap (λ t. (t && not (is_value w)) || (t && not (is_i64 (value w)))) (sym looks);
  opens = ap (λ t. replicate (operands t) (must sort.Expression)) (sym is);
}

pub symbol_seen : (s : Symbol) (w : Word) (b : Bool) → StandsFor s w → b ≡ (lacks_value s && not (is_value w)) → IsSeen sort.Expression w [] (record { foreign = is_foreign_symbol (meant s); no_number = b; bad = lacks_value s; count = operands (meant s); repeated = Expression })
symbol_seen (Number None) w b h is =
    let none : (is_value w && is_i64 (value w)) ≡ false = given_none (is_value w && is_i64 (value w)) (value w) (sym h.1) in
    record {
      foreign = rw h.0 refl;
      no_number = is ∙ ap (λ t. t && not (is_value w)) (sym h.0);
      bad = not_both (is_value w) (is_i64 (value w)) none ∙ ap (λ t. (t && not (is_value w)) || (t && not (is_i64 (value w)))) (sym h.0);
      opens = rw h.0 refl;
    }
symbol_seen (Number (Some z)) w b h is =
    let v = i64_is w z (sym h.1) in
    record {
      foreign = rw h.0 refl;
      no_number = is ∙ rw (h.0, v.0) refl;
      bad = rw (h.0, v.0, v.1) refl;
      opens = rw h.0 refl;
    }
symbol_seen (Column c) w b h is = plain_seen w (meant (Column c)) b h.0 h.1 is
symbol_seen Time w b h is = plain_seen w (meant Time) b h.0 h.1 is
symbol_seen Neg w b h is = plain_seen w (meant Neg) b h.0 h.1 is
symbol_seen Not w b h is = plain_seen w (meant Not) b h.0 h.1 is
symbol_seen (Two op) w b h is = plain_seen w (meant (Two op)) b h.0 h.1 is
symbol_seen Three w b h is = plain_seen w (meant Three) b h.0 h.1 is
symbol_seen Foreign w b h is = plain_seen w (meant Foreign) b h.0 h.1 is
