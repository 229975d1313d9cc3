-- What a test of the tuples keeps of what operators read, and the last of several outputs.
use Rattle.std.proofs.Common.{◌≡◌, ℕ, zero, suc, ◌+◌, Bool, ◌==◌, List, [], ◌∷◌, map, refl, ◌∙◌, ap, Option, Some, None, unwrap_or, option_map}
use Rattle.std.proofs.lemmas.List.Elements.{filter-append}
use Rattle.std.specs.List.{filter, last_or}
use Rattle.dpc_lists.specs.Lists.{nth, sort_by, range_with_len}
use Rattle.dpc_model.specs.Engines.{ports_of}
use Rattle.dpc_model.specs.Fragments.{tag, tagged_from, serial, at_port, read_wire}
use Rattle.dpc_model.specs.declared.tuples.Tuple.{Tuple}
use Rattle.dpc_model.specs.declared.tuples.Tagged.{Tagged}
use Rattle.dpc_model.specs.declared.operators.Wire.{Wire}
use Rattle.dpc_model.specs.declared.operators.Wire.TheVariants.{Port, Op}
use Rattle.dpc_model.proofs.Causality.{filter-filter, filter-map, filter-sort}

module _ (test : Tuple → Bool) where
  -- of lists, and of tagged tuples
  abbrev pub kept_each : List (List Tuple) → List (List Tuple)
  kept_each tss = map (λ (ts : List Tuple). filter test ts) tss

  abbrev pub kept : List Tagged → List Tagged
  kept xs = filter (λ (x : Tagged). test x.tuple) xs

  pub at_port-kept : (p : ℕ) (xs : List Tagged) → filter test (at_port p xs) ≡ at_port p (kept xs)
  at_port-kept p xs =
      filter-map test (λ (x : Tagged). test x.tuple) (λ (x : Tagged). x.tuple) (λ x. refl) (filter (λ (x : Tagged). x.port == p) xs)
      ∙ ap (λ (ys : List Tagged). map (λ (x : Tagged). x.tuple) ys) (filter-filter (λ (x : Tagged). test x.tuple) (λ (x : Tagged). x.port == p) xs)

  pub nth-kept : (i : ℕ) (outs : List (List Tuple)) → filter test (nth [] outs i) ≡ nth [] (kept_each outs) i
  nth-kept i [] = refl
  nth-kept zero (ts ∷ outs) = refl
  nth-kept (suc i) (ts ∷ outs) = nth-kept i outs

  read_wire-kept : (xs : List Tagged) (outs : List (List Tuple)) (w : Wire) → filter test (read_wire xs outs w) ≡ read_wire (kept xs) (kept_each outs) w
  read_wire-kept xs outs (Port p) = at_port-kept p xs
  read_wire-kept xs outs (Op i) = nth-kept i outs

  pub reads-kept : (xs : List Tagged) (outs : List (List Tuple)) (ws : List Wire) → kept_each (map (read_wire xs outs) ws) ≡ map (read_wire (kept xs) (kept_each outs)) ws
  reads-kept xs outs [] = refl
  reads-kept xs outs (w ∷ ws) =
      rw (read_wire-kept xs outs w) (ap (λ (yss : List (List Tuple)). read_wire (kept xs) (kept_each outs) w ∷ yss) (reads-kept xs outs ws))

  ports-kept : (xs : List Tagged) (ps : List ℕ) → kept_each (map (λ p. at_port p xs) ps) ≡ map (λ p. at_port p (kept xs)) ps
  ports-kept xs [] = refl
  ports-kept xs (p ∷ ps) = rw (at_port-kept p xs) (ap (λ (yss : List (List Tuple)). at_port p (kept xs) ∷ yss) (ports-kept xs ps))

  pub ports_of-kept : (n : ℕ) (xs : List Tagged) → kept_each (ports_of n xs) ≡ ports_of n (kept xs)
  ports_of-kept n xs = ports-kept xs (range_with_len 0 n)

  tagged_from-kept : (p : ℕ) (ins : List (List Tuple)) → kept (tagged_from p ins) ≡ tagged_from p (kept_each ins)
  tagged_from-kept p [] = refl
  tagged_from-kept p (ts ∷ ins) =
      filter-append (λ (x : Tagged). test x.tuple) (map (tag p) ts) (tagged_from (p + 1) ins)
      ∙ rw (filter-map (λ (x : Tagged). test x.tuple) test (tag p) (λ t. refl) ts, tagged_from-kept (p + 1) ins) refl

  pub serial-kept : (ins : List (List Tuple)) → kept (serial ins) ≡ serial (kept_each ins)
  serial-kept ins =
      filter-sort (λ (x : Tagged). x.tuple.stime) (λ (x : Tagged). test x.tuple) (tagged_from 0 ins) ∙ ap (λ (xs : List Tagged). sort_by (λ (x : Tagged). x.tuple.stime) xs) (tagged_from-kept 0 ins)

-- ---- the last output

module _ (f : List Tuple → List Tuple) (none : f [] ≡ []) where
  last-map : (o : Option (List Tuple)) (outs : List (List Tuple)) → option_map f (last_or o outs) ≡ last_or (option_map f o) (map f outs)
  last-map o [] = refl
  last-map o (ts ∷ outs) = last-map (Some ts) outs

  unwrap-map : (o : Option (List Tuple)) → f (unwrap_or o []) ≡ unwrap_or (option_map f o) []
  unwrap-map None = none
  unwrap-map (Some ts) = refl

  pub last-mapped : (outs : List (List Tuple)) → f (unwrap_or (last_or None outs) []) ≡ unwrap_or (last_or None (map f outs)) []
  last-mapped outs = unwrap-map (last_or None outs) ∙ ap (λ (o : Option (List Tuple)). unwrap_or o []) (last-map None outs)
