-- Rows that are given one behind another.
use Rattle.std.proofs.Common.{◌≡◌, List, [], ◌++◌, append_assoc, Result, Ok, Err, OnErr, refl, sym, ◌∙◌, ap, subst}
use Rattle.std.proofs.lemmas.List.{append-nil}
use Rattle.dpc_model.specs.declared.tuples.Tuple.{Tuple}
use Rattle.ops_join.specs.RowsOut.{Takes, TakesFirst}

module _ {A B : Type 0} where
  pub takes-none : (s : A → B → List Tuple → Type 0) → Takes s s []
  takes-none s a b before h = subst (λ (ts : List Tuple). s a b ts) (sym (append-nil before)) h

  pub takes-then : (s t u : A → B → List Tuple → Type 0) (xs ys : List Tuple) → Takes s t xs → Takes t u ys → Takes s u (xs ++ ys)
  takes-then s t u xs ys p q a b before h = subst (λ (ts : List Tuple). u a b ts) (append_assoc before xs ys) (q a b (before ++ xs) (p a b before h))

  pub takes-as : (s t : A → B → List Tuple → Type 0) (xs ys : List Tuple) → xs ≡ ys → Takes s t xs → Takes s t ys
  takes-as s t xs ys e p = subst (λ (ts : List Tuple). Takes s t ts) e p

  -- and then some first ones of others
  pub first-then : (s t u : A → B → List Tuple → Type 0) (xs ys : List Tuple) → Takes s t xs → TakesFirst t u ys → TakesFirst s u (xs ++ ys)
  first-then s t u xs ys p q a b before h =
      let f = q a b (before ++ xs) (p a b before h) in
      record {
        gone = xs ++ f.gone;
        rest = f.rest;
        split = ap (λ (zs : List Tuple). xs ++ zs) f.split ∙ sym (append_assoc xs f.gone f.rest);
        took = subst (λ (ts : List Tuple). u a b ts) (append_assoc before xs f.gone) f.took;
      }

  pub first-longer : (s t : A → B → List Tuple → Type 0) (xs more : List Tuple) → TakesFirst s t xs → TakesFirst s t (xs ++ more)
  first-longer s t xs more p a b before h =
      let f = p a b before h in
      record { gone = f.gone; rest = f.rest ++ more; split = ap (λ (zs : List Tuple). zs ++ more) f.split ∙ append_assoc f.gone f.rest more; took = f.took }

  pub first-as : (s t : A → B → List Tuple → Type 0) (xs ys : List Tuple) → xs ≡ ys → TakesFirst s t xs → TakesFirst s t ys
  first-as s t xs ys e p = subst (λ (ts : List Tuple). TakesFirst s t ts) e p

  -- no more were wanted
  pub first-of : (s t : A → B → List Tuple → Type 0) (xs more : List Tuple) → Takes s t xs → TakesFirst s t (xs ++ more)
  first-of s t xs more p a b before h = record { gone = xs; rest = more; split = refl; took = p a b before h }

  pub first-none : (s : A → B → List Tuple → Type 0) (xs : List Tuple) → TakesFirst s s xs
  first-none s xs = first-of s s [] xs (takes-none s)

-- of all rows some were given between the two states, and these are left
pub record Gave {A B : Type 0} (old new : A → B → List Tuple → Type 0) (left all : List Tuple) : Type 0 where
  pub done : List Tuple
  pub took : Takes old new done
  pub split : done ++ left ≡ all

module _ {A B : Type 0} where
  pub gave-none : (s : A → B → List Tuple → Type 0) (all : List Tuple) → Gave s s all all
  gave-none s all = record { done = []; took = takes-none s; split = refl }

  pub gave-more : (s t u : A → B → List Tuple → Type 0) (xs left rest all : List Tuple) → left ≡ xs ++ rest → Gave s t left all → Takes t u xs → Gave s u rest all
  gave-more s t u xs left rest all e p q =
      record {
        done = p.done ++ xs;
        took = takes-then s t u p.done xs p.took q;
        split = append_assoc p.done xs rest ∙ ap (λ (ts : List Tuple). p.done ++ ts) (sym e) ∙ p.split;
      }

  pub gave-stop : (s t u : A → B → List Tuple → Type 0) (xs left rest all : List Tuple) → left ≡ xs ++ rest → Gave s t left all → TakesFirst t u xs → TakesFirst s u all
  gave-stop s t u xs left rest all e p q =
      first-as s u (p.done ++ left) all p.split (first-then s t u p.done left p.took (first-as t u (xs ++ rest) left (sym e) (first-longer t u xs rest q)))

  pub gave-all : (s t : A → B → List Tuple → Type 0) (left all : List Tuple) → left ≡ [] → Gave s t left all → Takes s t all
  gave-all s t left all e p = takes-as s t p.done all (sym (append-nil p.done) ∙ ap (λ (ts : List Tuple). p.done ++ ts) (sym e) ∙ p.split) p.took

  pub gave-first : (s t : A → B → List Tuple → Type 0) (left all : List Tuple) → Gave s t left all → TakesFirst s t all
  gave-first s t left all p = first-as s t (p.done ++ left) all p.split (first-of s t p.done left p.took)

-- after an error and otherwise
pub on-err : {X E P : Type 0} (r : Result X E) → P → OnErr r P
on-err (Ok x) h = tt
on-err (Err e) h = h
