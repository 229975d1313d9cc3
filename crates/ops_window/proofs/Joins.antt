-- The totals over the tuples that either of two tests picks are those of each, joined.
use Rattle.std.proofs.Common.{◌≡◌, ℕ, ◌≤◌, ◌&&◌, ◌||◌, Bool, true, false, cond, List, [], ◌∷◌, map, refl, sym, ◌∙◌, ap, arith, ℤ, pos, int_eq, Option, Some, None, nat_lt, nat_le}
use Rattle.std.proofs.lemmas.Grind.{common_steps}
use Rattle.std.proofs.lemmas.Int.{ints, clamps}
use Rattle.std.specs.List.{filter}
use Rattle.dpc_model.specs.Operators.{between}
use Rattle.dpc_model.specs.declared.tuples.Tuple.{Tuple}
use Rattle.dpc_model.specs.declared.operators.Agg.{Agg}
use Rattle.dpc_model.specs.declared.operators.Agg.TheVariants.{Count, Sum, Min, Max}
use Rattle.ops_window.specs.Windows.{exact_total, group_of, in_group}
use Rattle.ops_window.specs.Feeding.{first_total, joined_total, joined_totals}
use Rattle.ops_window.proofs.WindowCells.{totals_over}

-- ---- one aggregate

-- a total over some tuples, if there are any
abbrev total_over : Agg → List Tuple → Option ℤ
total_over a [] = None
total_over a (u ∷ us) = Some (exact_total (u ∷ us) a)

abbrev both : Agg → Option ℤ → Option ℤ → Option ℤ
both a None y = y
both a (Some x) None = Some x
both a (Some x) (Some y) = Some (joined_total a x y)

total_flip : (a : Agg) (x y : ℤ) → joined_total a x y ≡ joined_total a y x
total_flip Count x y = omega (arith, ints)
total_flip (Sum c) x y = omega (arith, ints)
total_flip (Min c) x y = omega (arith, ints, clamps)
total_flip (Max c) x y = omega (arith, ints, clamps)

total_group : (a : Agg) (x y z : ℤ) → joined_total a (joined_total a x y) z ≡ joined_total a x (joined_total a y z)
total_group Count x y z = omega (arith, ints)
total_group (Sum c) x y z = omega (arith, ints)
total_group (Min c) x y z = omega (arith, ints, clamps)
total_group (Max c) x y z = omega (arith, ints, clamps)

both_flip : (a : Agg) (x y : Option ℤ) → both a x y ≡ both a y x
both_flip a None None = refl
both_flip a None (Some y) = refl
both_flip a (Some x) None = refl
both_flip a (Some x) (Some y) = ap Some (total_flip a x y)

both_group : (a : Agg) (x y z : Option ℤ) → both a (both a x y) z ≡ both a x (both a y z)
both_group a None y z = refl
both_group a (Some x) None z = refl
both_group a (Some x) (Some y) None = refl
both_group a (Some x) (Some y) (Some z) = ap Some (total_group a x y z)

one_more : (a : Agg) (u : Tuple) (us : List Tuple) → total_over a (u ∷ us) ≡ both a (Some (first_total u a)) (total_over a us)
one_more Count u [] = refl
one_more Count u (v ∷ us) = ap Some (omega (arith, ints))
one_more (Sum c) u [] = ap Some (omega (arith, ints))
one_more (Sum c) u (v ∷ us) = refl
one_more (Min c) u [] = refl
one_more (Min c) u (v ∷ us) = refl
one_more (Max c) u [] = refl
one_more (Max c) u (v ∷ us) = refl

module _ (a : Agg) (either p q r : Tuple → Bool) (whole : (t : Tuple) → either t ≡ (p t || q t)) (apart : (t : Tuple) → (p t && q t) ≡ false) where
  -- those of the tuples that r picks too
  abbrev over : (Tuple → Bool) → List Tuple → Option ℤ
  over test ts = total_over a (filter r (filter test ts))

  parts : (ts : List Tuple) → over either ts ≡ both a (over p ts) (over q ts)
  parts [] = refl
  parts (t ∷ ts) =
      rw (whole t)
      ((elim (p t) as (λ b. p t ≡ b → total_over a (filter r (cond (b || q t) (t ∷ filter either ts) (filter either ts)))
      ≡ both a (total_over a (filter r (cond b (t ∷ filter p ts) (filter p ts)))) (total_over a (filter r (cond (q t) (t ∷ filter q ts) (filter q ts))))) [
        | true ↦ λ e.
            (elim (q t) as (λ c. q t ≡ c → total_over a (filter r (t ∷ filter either ts))
            ≡ both a (total_over a (filter r (t ∷ filter p ts))) (total_over a (filter r (cond c (t ∷ filter q ts) (filter q ts))))) [
              | true ↦ λ f. let none = apart t in absurd (cc)
              | false ↦ λ f.
                  elim (r t) as (λ c. total_over a (cond c (t ∷ filter r (filter either ts)) (filter r (filter either ts)))
                  ≡ both a (total_over a (cond c (t ∷ filter r (filter p ts)) (filter r (filter p ts)))) (over q ts)) [
                    | true ↦
                        one_more a t (filter r (filter either ts))
                        ∙ ap (λ (o : Option ℤ). both a (Some (first_total t a)) o) (parts ts)
                        ∙ sym (both_group a (Some (first_total t a)) (over p ts) (over q ts))
                        ∙ ap (λ (o : Option ℤ). both a o (over q ts)) (sym (one_more a t (filter r (filter p ts))))
                    | false ↦ parts ts
                  ]
            ]) refl
        | false ↦ λ e.
            elim (q t) as (λ c. total_over a (filter r (cond c (t ∷ filter either ts) (filter either ts)))
            ≡ both a (over p ts) (total_over a (filter r (cond c (t ∷ filter q ts) (filter q ts))))) [
              | true ↦
                  elim (r t) as (λ c. total_over a (cond c (t ∷ filter r (filter either ts)) (filter r (filter either ts)))
                  ≡ both a (over p ts) (total_over a (cond c (t ∷ filter r (filter q ts)) (filter r (filter q ts))))) [
                    | true ↦
                        one_more a t (filter r (filter either ts))
                        ∙ ap (λ (o : Option ℤ). both a (Some (first_total t a)) o) (parts ts ∙ both_flip a (over p ts) (over q ts))
                        ∙ sym (both_group a (Some (first_total t a)) (over q ts) (over p ts))
                        ∙ both_flip a (both a (Some (first_total t a)) (over q ts)) (over p ts)
                        ∙ ap (λ (o : Option ℤ). both a (over p ts) o) (sym (one_more a t (filter r (filter q ts))))
                    | false ↦ parts ts
                  ]
              | false ↦ parts ts
            ]
      ]) refl)

-- ---- all aggregates

abbrev pub joined_over : List Agg → Option (List ℤ) → Option (List ℤ) → Option (List ℤ)
joined_over aggs None ys = ys
joined_over aggs (Some zs) None = Some zs
joined_over aggs (Some zs) (Some ys) = Some (joined_totals aggs zs ys)

map-same : (f g : Agg → ℤ) (aggs : List Agg) → ((a : Agg) → f a ≡ g a) → map f aggs ≡ map g aggs
map-same f g [] h = refl
map-same f g (a ∷ aggs) h = rw (h a) (ap (λ zs. g a ∷ zs) (map-same f g aggs h))

map-joined : (h f g : Agg → ℤ) (aggs : List Agg) → ((a : Agg) → h a ≡ joined_total a (f a) (g a)) → map h aggs ≡ joined_totals aggs (map f aggs) (map g aggs)
map-joined h f g [] e = refl
map-joined h f g (a ∷ aggs) e = rw (e a) (ap (λ zs. joined_total a (f a) (g a) ∷ zs) (map-joined h f g aggs e))

value_of : Option ℤ → ℤ
value_of None = pos 0
value_of (Some z) = z

each_joined : (aggs : List Agg) (us vs ws : List Tuple) → ((a : Agg) → total_over a ws ≡ both a (total_over a us) (total_over a vs)) →
    totals_over aggs ws ≡ joined_over aggs (totals_over aggs us) (totals_over aggs vs)
unfolding value_of
each_joined aggs [] [] [] h = refl
each_joined aggs [] [] (w ∷ ws) h = let e = h Count in absurd (cc)
each_joined aggs [] (v ∷ vs) [] h = let e = h Count in absurd (cc)
each_joined aggs [] (v ∷ vs) (w ∷ ws) h = ap Some (map-same (exact_total (w ∷ ws)) (exact_total (v ∷ vs)) aggs (λ a. ap value_of (h a)))
each_joined aggs (u ∷ us) [] [] h = let e = h Count in absurd (cc)
each_joined aggs (u ∷ us) [] (w ∷ ws) h = ap Some (map-same (exact_total (w ∷ ws)) (exact_total (u ∷ us)) aggs (λ a. ap value_of (h a)))
each_joined aggs (u ∷ us) (v ∷ vs) [] h = let e = h Count in absurd (cc)
each_joined aggs (u ∷ us) (v ∷ vs) (w ∷ ws) h =
    ap Some (map-joined (exact_total (w ∷ ws)) (exact_total (u ∷ us)) (exact_total (v ∷ vs)) aggs (λ a. ap value_of (h a)))

-- ---- times

in-either : (from mid to s : ℕ) → from ≤ mid → mid ≤ to → (nat_le from s && nat_lt s to) ≡ ((nat_le from s && nat_lt s mid) || (nat_le mid s && nat_lt s to))
in-either from mid to s h k = grind (arith, common_steps)

not-both : (from mid to s : ℕ) → ((nat_le from s && nat_lt s mid) && (nat_le mid s && nat_lt s to)) ≡ false
not-both from mid to s = grind (arith, common_steps)

-- the totals of a group over some time are those over two parts of it
pub totals-joined : (group : Option ℕ) (aggs : List Agg) (from mid to : ℕ) (q : ℤ) (ts : List Tuple) → from ≤ mid → mid ≤ to →
    totals_over aggs (in_group group q (between from to ts)) ≡ joined_over aggs (totals_over aggs (in_group group q (between from mid ts))) (totals_over aggs (in_group group q (between mid to ts)))
totals-joined group aggs from mid to q ts h k =
    each_joined aggs (in_group group q (between from mid ts)) (in_group group q (between mid to ts)) (in_group group q (between from to ts))
    (λ a. parts a (λ t. nat_le from t.stime && nat_lt t.stime to) (λ t. nat_le from t.stime && nat_lt t.stime mid) (λ t. nat_le mid t.stime && nat_lt t.stime to)
    (λ t. int_eq (group_of group t) q) (λ t. in-either from mid to t.stime h k) (λ t. not-both from mid to t.stime) ts)
