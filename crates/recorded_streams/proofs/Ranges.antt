-- Which items are in the ranges of frames.
use Rattle.std.proofs.Common.{◌≡◌, ℕ, Bool, true, false, List, [], ◌∷◌, length, Option, Some, None, refl, sym, ap, ◌∙◌}
use Rattle.std.specs.Prelude.{ℤ, ◌&&◌, nat_le, if◌then◌else◌, codes, bytes_eq, option_map}
use Rattle.dpc_lists.specs.Lists.{list_all, is_nil}
use Rattle.dpc_model.specs.Operators.{tuple_of}
use Rattle.dpc_model.specs.Words.{Word}
use Rattle.dpc_model.specs.declared.tuples.Item.{Item}
use Rattle.dpc_model.specs.declared.tuples.Item.TheVariants.{Stable, Tentative, Passed, Boundary, Undo, RecDone}
use Rattle.dpc_model.specs.declared.tuples.Tuple.{Tuple}
use Rattle.script_words.specs.Numbers.{u64_of, i64_of}
use Rattle.script_words.specs.Options.{◌>>=◌, given}
use Rattle.script_words.proofs.Ranges.{i64_is}
use Rattle.stream_codec.specs.Frames.{is_i64, item_values, is_in_range}
use Rattle.stream_codec.specs.Kinds.{holds}
use Rattle.stream_codec.specs.declared.kinds.Field.TheVariants.{Number, Time, Clock}
use Rattle.recorded_streams.specs.Streams.{values_in, tuple_in, number_in, stable_in, boundary_in, item_of_words, tuple_fits, may_stand}

-- ---- the tests of an item

pub and_then : (a b : Bool) → a ≡ true → b ≡ (a && b)
and_then true b h = refl
and_then false b h = absurd cc

pub and_else : (a b : Bool) → a ≡ false → a ≡ (a && b)
and_else false b h = refl
and_else true b h = absurd cc

two_fields : (a b c d : Bool) → (a && (b && (c && d))) ≡ ((a && (b && true)) && ((c && d) && true))
two_fields true true true true = refl
two_fields true true true false = refl
two_fields true true false d = refl
two_fields true false c d = refl
two_fields false b c d = refl

one_test : (p b : Bool) → (p && b) ≡ (p && ((b && true) && true))
one_test true true = refl
one_test true false = refl
one_test false b = refl

two_tests : (a b : Bool) → (a && b) ≡ (true && ((a && (b && true)) && true))
two_tests true true = refl
two_tests true false = refl
two_tests false b = refl

module _ (passing : Bool) (i : Item) where
  pub stable_stands : (k : ℕ) (t : Tuple) → i ≡ Stable k t → list_all is_i64 (item_values i) ≡ true → (holds Number k && tuple_fits t) ≡ may_stand passing i
  unfolding is_in_range
  stable_stands k t is h =
      let good : list_all is_i64 t.vals ≡ true = ap (λ i. list_all is_i64 (item_values i)) (sym is) ∙ h in
      two_fields (holds Number k) (holds Time t.stime) (nat_le 1 (length t.vals)) (nat_le (length t.vals) 8)
      ∙ ap (λ v. (holds Number k && (holds Time t.stime && true)) && ((nat_le 1 (length t.vals) && nat_le (length t.vals) 8) && v)) (sym good)
      ∙ ap (may_stand passing) (sym is)

  pub tentative_stands : (t : Tuple) → i ≡ Tentative t → list_all is_i64 (item_values i) ≡ true → tuple_fits t ≡ may_stand passing i
  unfolding is_in_range
  tentative_stands t is h =
      let good : list_all is_i64 t.vals ≡ true = ap (λ i. list_all is_i64 (item_values i)) (sym is) ∙ h in
      two_fields true (holds Time t.stime) (nat_le 1 (length t.vals)) (nat_le (length t.vals) 8)
      ∙ ap (λ v. (holds Time t.stime && true) && ((nat_le 1 (length t.vals) && nat_le (length t.vals) 8) && v)) (sym good)
      ∙ ap (may_stand passing) (sym is)

  pub passed_stands : (b : ℕ) → i ≡ Passed b → (passing && holds Clock b) ≡ may_stand passing i
  unfolding is_in_range
  passed_stands b is = one_test passing (holds Clock b) ∙ ap (may_stand passing) (sym is)

  pub boundary_stands : (b m : ℕ) → i ≡ Boundary b m → (holds Clock b && holds Number m) ≡ may_stand passing i
  unfolding is_in_range
  boundary_stands b m is = two_tests (holds Clock b) (holds Number m) ∙ ap (may_stand passing) (sym is)

  pub undo_stands : (n : ℕ) → i ≡ Undo n → holds Number n ≡ may_stand passing i
  unfolding is_in_range
  undo_stands n is = one_test true (holds Number n) ∙ ap (may_stand passing) (sym is)

  pub done_stands : i ≡ RecDone → true ≡ may_stand passing i
  unfolding is_in_range
  done_stands is = ap (may_stand passing) (sym is)

-- ---- values that are read are of i64

pub values_are : (ws : List Word) (zs : List ℤ) → values_in ws ≡ Some zs → list_all is_i64 zs ≡ true
values_are [] zs h = let e : [] ≡ zs = cc in ap (list_all is_i64) (sym e)
values_are (w ∷ ws) zs h = first (i64_of w) refl h (values_are ws)
  where
    more : (z : ℤ) (o : Option (List ℤ)) → is_i64 z ≡ true → values_in ws ≡ o → option_map (λ zs. z ∷ zs) o ≡ Some zs → ((ys : List ℤ) → values_in ws ≡ Some ys → list_all is_i64 ys ≡ true) → list_all is_i64 zs ≡ true
    more z None low e h rest = absurd cc
    more z (Some ys) low e h rest =
        let same : z ∷ ys ≡ zs = cc in
        ap (list_all is_i64) (sym same) ∙ ap (λ t. t && list_all is_i64 ys) low ∙ rest ys e

    first : (o : Option ℤ) → i64_of w ≡ o → (o >>= (λ z. option_map (λ zs. z ∷ zs) (values_in ws))) ≡ Some zs → ((ys : List ℤ) → values_in ws ≡ Some ys → list_all is_i64 ys ≡ true) → list_all is_i64 zs ≡ true
    first None e h rest = absurd cc
    first (Some z) e h rest =
        let read = i64_is w z e in
        more z (values_in ws) (ap is_i64 (sym read.2) ∙ read.1) refl h rest

-- an item whose values are of i64, where there is one
abbrev AreGood : Option Item → Type 0
AreGood o = (i : Item) → o ≡ Some i → list_all is_i64 (item_values i) ≡ true

abbrev AreGoodIn : Option Tuple → Type 0
AreGoodIn o = (t : Tuple) → o ≡ Some t → list_all is_i64 t.vals ≡ true

none_good : AreGood None
none_good i h = absurd cc

tuple_good : (ws : List Word) → AreGoodIn (tuple_in ws)
tuple_good [] t h = absurd cc
tuple_good (w ∷ ws) t h = first (u64_of w) h
  where
    more : (time : ℕ) (o : Option (List ℤ)) → values_in ws ≡ o → option_map (tuple_of time) o ≡ Some t → list_all is_i64 t.vals ≡ true
    more time None e h = absurd cc
    more time (Some zs) e h = let same : tuple_of time zs ≡ t = cc in ap (λ (t : Tuple). list_all is_i64 t.vals) (sym same) ∙ values_are ws zs e

    first : (o : Option ℕ) → (o >>= (λ time. option_map (tuple_of time) (values_in ws))) ≡ Some t → list_all is_i64 t.vals ≡ true
    first None h = absurd cc
    first (Some time) h = more time (values_in ws) refl h

of_tuple : (item : Tuple → Item) → ((t : Tuple) → item_values (item t) ≡ t.vals) → (o : Option Tuple) → AreGoodIn o → AreGood (option_map item o)
of_tuple item values None good i h = absurd cc
of_tuple item values (Some t) good i h =
    let same : item t ≡ i = cc in
    ap (λ i. list_all is_i64 (item_values i)) (sym same) ∙ ap (list_all is_i64) (values t) ∙ good t refl

stable_good : (ws : List Word) → AreGood (stable_in ws)
stable_good [] = none_good
stable_good (w ∷ ws) = first (u64_of w)
  where
    first : (o : Option ℕ) → AreGood (o >>= (λ k. option_map (Stable k) (tuple_in ws)))
    first None = none_good
    first (Some k) = of_tuple (Stable k) (λ t. refl) (tuple_in ws) (tuple_good ws)

of_number : (item : ℕ → Item) → ((n : ℕ) → item_values (item n) ≡ []) → (o : Option ℕ) → AreGood (option_map item o)
of_number item values None i h = absurd cc
of_number item values (Some n) i h =
    let same : item n ≡ i = cc in
    ap (λ i. list_all is_i64 (item_values i)) (sym same) ∙ ap (list_all is_i64) (values n)

boundary_good : (ws : List Word) → AreGood (boundary_in ws)
boundary_good [] = none_good
boundary_good (b ∷ []) = none_good
boundary_good (b ∷ m ∷ []) = first (u64_of b)
  where
    first : (o : Option ℕ) → AreGood (o >>= (λ bound. option_map (Boundary bound) (u64_of m)))
    first None = none_good
    first (Some bound) = of_number (Boundary bound) (λ n. refl) (u64_of m)
boundary_good (b ∷ m ∷ w ∷ ws) = none_good

done_good : (t : Bool) → AreGood (given t RecDone)
done_good true i h = let same : RecDone ≡ i = cc in ap (λ i. list_all is_i64 (item_values i)) (sym same)
done_good false i h = absurd cc

either : (t : Bool) (a b : Option Item) → AreGood a → AreGood b → AreGood (if t then a else b)
either true a b one other = one
either false a b one other = other

pub item_good : (w : Word) (ws : List Word) → AreGood (item_of_words w ws)
item_good w ws =
    either (bytes_eq w (codes "stable")) _ _ (stable_good ws)
    (either (bytes_eq w (codes "tentative")) _ _ (of_tuple Tentative (λ t. refl) (tuple_in ws) (tuple_good ws))
    (either (bytes_eq w (codes "boundary")) _ _ (boundary_good ws)
    (either (bytes_eq w (codes "undo")) _ _ (of_number Undo (λ n. refl) (number_in ws))
    (either (bytes_eq w (codes "passed")) _ _ (of_number Passed (λ n. refl) (number_in ws))
    (either (bytes_eq w (codes "rec_done")) _ _ (done_good (is_nil ws)) none_good)))))
