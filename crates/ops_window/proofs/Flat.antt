-- What the cells of panes are, where the panes change.
use Rattle.std.proofs.Common.{◌≡◌, ℕ, ◌+◌, length, ◌<◌, ◌≤◌, nat_lt, Bool, true, false, cond, List, [], ◌∷◌, ◌++◌, refl, sym, ◌∙◌, ap, subst, arith, ℤ, Option, Some, None}
use Rattle.std.proofs.lemmas.Grind.{common_steps}
use Rattle.std.proofs.lemmas.List.{append_assoc, length-append, length-map}
use Rattle.std.specs.declared.cmp.Ordering.{Ordering}
use Rattle.std.specs.declared.cmp.Ordering.TheVariants.{Less, Equal, Greater}
use Rattle.std.specs.Ordering.{nat_cmp, int_cmp, match_ordering, is_gt}
use Rattle.std.specs.Option.{unwrap_or}
use Rattle.std.specs.Prelude.{OnOk}
use Rattle.std.specs.declared.result.Result.{Result}
use Rattle.std.specs.declared.result.Result.TheVariants.{Ok, Err}
use Rattle.std.specs.List.{All, AllByRecursion}
use Rattle.std.proofs.lemmas.List.Elements.{recursion_from_All}
use Rattle.std.specs.List.Sorted.{IsStrictlySortedBy}
use Rattle.std.specs.Map.{keys_of, lookup}
use Rattle.std.specs.BTreeMap.{insert_entry, is_at}
use Rattle.ops_window.specs.Windows.{Cell, pane_cells, cells_of_panes}
use Rattle.ops_window.specs.Feeding.{cell_cmp, totals_at, group_totals, first_cells, later_cells, cells_before, cells_behind}
use Rattle.ops_window.proofs.CellOrder.{EachBegin}

-- what follows where a call's result is `Ok`
pub if_ok : {A E P Q : Type 0} (r r' : Result A E) → r' ≡ r → (P → Q) → OnOk r P → OnOk r' Q
if_ok {A} {E} {P} {Q} r r' same f h = subst (λ (x : Result A E). OnOk x Q) (sym same) (by r f h)
  where
    by : (x : Result A E) → (P → Q) → OnOk x P → OnOk x Q
    by (Ok a) g k = g k
    by (Err e) g k = k

-- the groups of a pane, in order
abbrev pub Groups : Type 0
Groups = List (ℤ × List ℤ)

-- the groups of the pane that begins at a time, none where no pane does
abbrev pub groups_at : ℕ → List (ℕ × Groups) → Groups
groups_at begin panes = unwrap_or (lookup (is_at (nat_cmp begin)) panes) []

-- ---- parts

pub flat-append : (ps qs : List (ℕ × Groups)) → cells_of_panes (ps ++ qs) ≡ cells_of_panes ps ++ cells_of_panes qs
flat-append [] qs = refl
flat-append (p ∷ ps) qs = ap (λ (cs : List Cell). pane_cells p.0 p.1 ++ cs) (flat-append ps qs) ∙ sym (append_assoc (pane_cells p.0 p.1) (cells_of_panes ps) (cells_of_panes qs))

-- how many cells a pane and those behind it have
pub flat-length : (begin : ℕ) (gs : Groups) (ps : List (ℕ × Groups)) → length (cells_of_panes ((begin, gs) ∷ ps)) ≡ length gs + length (cells_of_panes ps)
flat-length begin gs ps =
    length-append (pane_cells begin gs) (cells_of_panes ps)
    ∙ ap (λ (n : ℕ). n + length (cells_of_panes ps)) (length-map gs (λ g. ((begin, g.0), g.1)))

pane-each : (P : ℕ → Type 0) (begin : ℕ) (gs : Groups) (rest : List Cell) → P begin → EachBegin P rest → EachBegin P (pane_cells begin gs ++ rest)
pane-each P begin [] rest p h = h
pane-each P begin (g ∷ gs) rest p h = (p, pane-each P begin gs rest p h)

-- what holds of the begin of each pane holds of that of each cell
pub flat-each : (P : ℕ → Type 0) (ps : List (ℕ × Groups)) → AllByRecursion P (keys_of ps) → EachBegin P (cells_of_panes ps)
flat-each P [] h = tt
flat-each P (p ∷ ps) h = pane-each P p.0 p.1 (cells_of_panes ps) h.0 (flat-each P ps h.1)

module _ (test : ℕ → Bool) where
  none-first : (ys : List Cell) → EachBegin (λ n. test n ≡ false) ys → first_cells test ys ≡ []
  none-first [] h = refl
  none-first (y ∷ ys) h = rw h.0 refl

  all-later : (ys : List Cell) → EachBegin (λ n. test n ≡ false) ys → later_cells test ys ≡ ys
  all-later [] h = refl
  all-later (y ∷ ys) h = rw h.0 refl

  -- the first cells are those up to where the test fails
  pub first-are : (xs ys : List Cell) → EachBegin (λ n. test n ≡ true) xs → EachBegin (λ n. test n ≡ false) ys → xs ≡ first_cells test (xs ++ ys)
  first-are [] ys h k = sym (none-first ys k)
  first-are (x ∷ xs) ys h k = rw h.0 (ap (λ (cs : List Cell). x ∷ cs) (first-are xs ys h.1 k))

  pub later-are : (xs ys : List Cell) → EachBegin (λ n. test n ≡ true) xs → EachBegin (λ n. test n ≡ false) ys → ys ≡ later_cells test (xs ++ ys)
  later-are [] ys h k = sym (all-later ys k)
  later-are (x ∷ xs) ys h k = rw h.0 (later-are xs ys h.1 k)

-- ---- one group

module _ (b : ℕ) (g : ℤ) where
  same-begin : nat_cmp b b ≡ Equal
  same-begin = grind (arith, common_steps)

  later : (n : ℕ) → b < n → nat_cmp b n ≡ Less
  later n h = let less : nat_lt b n ≡ true = grind (arith, common_steps) in rw less refl

  -- where all cells begin later, none is found, and a new one stands first
  none-found : (cs : List Cell) → EachBegin (λ n. b < n) cs → totals_at (b, g) cs ≡ None
  none-found [] h = refl
  none-found (c ∷ cs) h = rw (later c.0.0 h.0) (none-found cs h.1)

  stands-first : (v : List ℤ) (cs : List Cell) → EachBegin (λ n. b < n) cs → insert_entry cell_cmp cs (b, g) v ≡ ((b, g), v) ∷ cs
  stands-first v [] h = refl
  stands-first v (c ∷ cs) h = rw (later c.0.0 h.0) refl

  -- in the pane of that begin
  found-here : (gs : Groups) (rest : List Cell) → EachBegin (λ n. b < n) rest → totals_at (b, g) (pane_cells b gs ++ rest) ≡ group_totals g gs
  found-here [] rest h = none-found rest h
  found-here (e ∷ gs) rest h =
      rw same-begin
      (elim (int_cmp g e.0) as (λ r. cond (is_at (λ (z : ℤ). r) e.0) (Some e.1) (totals_at (b, g) (pane_cells b gs ++ rest)) ≡ cond (is_at (λ (z : ℤ). r) e.0) (Some e.1) (group_totals g gs)) [
        | Less ↦ found-here gs rest h
        | Equal ↦ refl
        | Greater ↦ found-here gs rest h
      ])

  insert-here : (v : List ℤ) (gs : Groups) (rest : List Cell) → EachBegin (λ n. b < n) rest →
      insert_entry cell_cmp (pane_cells b gs ++ rest) (b, g) v ≡ pane_cells b (insert_entry int_cmp gs g v) ++ rest
  insert-here v [] rest h = stands-first v rest h
  insert-here v (e ∷ gs) rest h =
      rw same-begin
      (elim (int_cmp g e.0) as (λ r. match_ordering r (((b, g), v) ∷ ((b, e.0), e.1) ∷ (pane_cells b gs ++ rest)) (((b, e.0), v) ∷ (pane_cells b gs ++ rest)) (((b, e.0), e.1) ∷ insert_entry cell_cmp (pane_cells b gs ++ rest) (b, g) v)
      ≡ pane_cells b (match_ordering r ((g, v) ∷ e ∷ gs) ((e.0, v) ∷ gs) (e ∷ insert_entry int_cmp gs g v)) ++ rest) [
        | Less ↦ refl
        | Equal ↦ refl
        | Greater ↦ ap (λ (cs : List Cell). ((b, e.0), e.1) ∷ cs) (insert-here v gs rest h)
      ])

  -- behind a pane of an earlier begin
  found-behind : (n : ℕ) (gs : Groups) (rest : List Cell) → nat_cmp b n ≡ Greater → totals_at (b, g) (pane_cells n gs ++ rest) ≡ totals_at (b, g) rest
  found-behind n [] rest h = refl
  found-behind n (e ∷ gs) rest h = rw h (found-behind n gs rest h)

  insert-behind : (v : List ℤ) (n : ℕ) (gs : Groups) (rest : List Cell) → nat_cmp b n ≡ Greater →
      insert_entry cell_cmp (pane_cells n gs ++ rest) (b, g) v ≡ pane_cells n gs ++ insert_entry cell_cmp rest (b, g) v
  insert-behind v n [] rest h = refl
  insert-behind v n (e ∷ gs) rest h = rw h (ap (λ (cs : List Cell). ((n, e.0), e.1) ∷ cs) (insert-behind v n gs rest h))

  less-is : (n : ℕ) → nat_cmp b n ≡ Less → b < n
  less-is n h = grind (arith, common_steps)

  equal-is : (n : ℕ) → nat_cmp b n ≡ Equal → b ≡ n
  equal-is n h = grind (arith, common_steps)

  all-less : (n : ℕ) (ns : List ℕ) → b ≤ n → AllByRecursion (λ m. nat_cmp n m ≡ Less) ns → AllByRecursion (λ m. b < m) ns
  all-less n [] low h = tt
  all-less n (m ∷ ns) low h = (let less : n < m = grind (arith, common_steps) in omega (arith, low, less), all-less n ns low h.1)

  none-at : (ps : List (ℕ × Groups)) → AllByRecursion (λ m. b < m) (keys_of ps) → groups_at b ps ≡ []
  none-at [] h = refl
  none-at (p ∷ ps) h = rw (later p.0 h.0) (none-at ps h.1)

  -- a group's totals in its pane are those in the cells, and so after a change
  module _ (F : Option (List ℤ) → List ℤ) where
    abbrev changed : List (ℕ × Groups) → Groups → List (ℕ × Groups)
    changed ps gs = insert_entry nat_cmp ps b (insert_entry int_cmp gs g (F (group_totals g gs)))

    abbrev Goes : List (ℕ × Groups) → Type 0
    Goes ps = cells_of_panes (changed ps (groups_at b ps)) ≡ insert_entry cell_cmp (cells_of_panes ps) (b, g) (F (totals_at (b, g) (cells_of_panes ps)))

    in-front : (p : ℕ × Groups) (ps : List (ℕ × Groups)) → nat_cmp b p.0 ≡ Less → AllByRecursion (λ m. b < m) (keys_of (p ∷ ps)) → Goes (p ∷ ps)
    in-front p ps c h =
        let cells = flat-each (λ m. b < m) (p ∷ ps) h in
        let new : cells_of_panes (changed (p ∷ ps) []) ≡ ((b, g), F None) ∷ cells_of_panes (p ∷ ps) = rw c refl in
        ap (λ (gs : Groups). cells_of_panes (changed (p ∷ ps) gs)) (none-at (p ∷ ps) h)
        ∙ new
        ∙ sym (stands-first (F None) (cells_of_panes (p ∷ ps)) cells)
        ∙ ap (λ (o : Option (List ℤ)). insert_entry cell_cmp (cells_of_panes (p ∷ ps)) (b, g) (F o)) (sym (none-found (cells_of_panes (p ∷ ps)) cells))

    at-begin : (n : ℕ) (gs : Groups) (ps : List (ℕ × Groups)) → b ≡ n → AllByRecursion (λ m. b < m) (keys_of ps) → Goes ((n, gs) ∷ ps)
    at-begin n gs ps same h =
        let cells = flat-each (λ m. b < m) ps h in
        let new : cells_of_panes (changed ((b, gs) ∷ ps) (groups_at b ((b, gs) ∷ ps))) ≡ pane_cells b (insert_entry int_cmp gs g (F (group_totals g gs))) ++ cells_of_panes ps = rw same-begin refl in
        rw (← same)
        (new
        ∙ sym (insert-here (F (group_totals g gs)) gs (cells_of_panes ps) cells)
        ∙ ap (λ (o : Option (List ℤ)). insert_entry cell_cmp (cells_of_panes ((b, gs) ∷ ps)) (b, g) (F o)) (sym (found-here gs (cells_of_panes ps) cells)))

    behind : (p : ℕ × Groups) (ps : List (ℕ × Groups)) → nat_cmp b p.0 ≡ Greater → Goes ps → Goes (p ∷ ps)
    behind p ps c h =
        let new : cells_of_panes (changed (p ∷ ps) (groups_at b (p ∷ ps))) ≡ pane_cells p.0 p.1 ++ cells_of_panes (changed ps (groups_at b ps)) = rw c refl in
        new
        ∙ ap (λ (cs : List Cell). pane_cells p.0 p.1 ++ cs) h
        ∙ sym (insert-behind (F (totals_at (b, g) (cells_of_panes ps))) p.0 p.1 (cells_of_panes ps) c)
        ∙ ap (λ (o : Option (List ℤ)). insert_entry cell_cmp (cells_of_panes (p ∷ ps)) (b, g) (F o)) (sym (found-behind p.0 p.1 (cells_of_panes ps) c))

    pub change-flat : (ps : List (ℕ × Groups)) → IsStrictlySortedBy nat_cmp (keys_of ps) → Goes ps
    unfolding IsStrictlySortedBy
    change-flat [] s = refl
    change-flat (p ∷ ps) s = by (nat_cmp b p.0) refl (change-flat ps s.1)
      where
        by : (r : Ordering) → nat_cmp b p.0 ≡ r → Goes ps → Goes (p ∷ ps)
        by Less c h = let less = less-is p.0 c in in-front p ps c (less, all-less p.0 (keys_of ps) (omega (arith, less)) s.0)
        by Equal c h = let same = equal-is p.0 c in at-begin p.0 p.1 ps same (all-less p.0 (keys_of ps) (omega (arith, same)) s.0)
        by Greater c h = behind p ps c h

    -- where a map of panes has the changed groups of one pane, its cells are changed at one key
    pub pane-changed : (ps ps' : List (ℕ × Groups)) (gs gs' : Groups) → IsStrictlySortedBy nat_cmp (keys_of ps) → ps' ≡ insert_entry nat_cmp ps b gs' → gs ≡ groups_at b ps →
        gs' ≡ insert_entry int_cmp gs g (F (group_totals g gs)) → cells_of_panes ps' ≡ insert_entry cell_cmp (cells_of_panes ps) (b, g) (F (totals_at (b, g) (cells_of_panes ps)))
    pane-changed ps ps' gs gs' s e f h = rw (e, h, f) (change-flat ps s)

-- ---- panes taken out

-- what stands below a time, and what stands from it on
module _ (time : ℕ) (ps qs : List (ℕ × Groups)) (below : AllByRecursion (λ n. nat_lt n time ≡ true) (keys_of ps)) (from : AllByRecursion (λ n. nat_lt n time ≡ false) (keys_of qs)) where
  pub flat-before : cells_of_panes ps ≡ cells_before time (cells_of_panes (ps ++ qs))
  flat-before =
      first-are (λ n. nat_lt n time) (cells_of_panes ps) (cells_of_panes qs) (flat-each (λ n. nat_lt n time ≡ true) ps below) (flat-each (λ n. nat_lt n time ≡ false) qs from)
      ∙ ap (λ (cs : List Cell). cells_before time cs) (sym (flat-append ps qs))

  pub flat-behind : cells_of_panes qs ≡ cells_behind time (cells_of_panes (ps ++ qs))
  flat-behind =
      later-are (λ n. nat_lt n time) (cells_of_panes ps) (cells_of_panes qs) (flat-each (λ n. nat_lt n time ≡ true) ps below) (flat-each (λ n. nat_lt n time ≡ false) qs from)
      ∙ ap (λ (cs : List Cell). cells_behind time cs) (sym (flat-append ps qs))

pub below-time : (time : ℕ) (ns : List ℕ) → All (λ n. is_gt (nat_cmp time n) ≡ true) ns → AllByRecursion (λ n. nat_lt n time ≡ true) ns
below-time time ns h = every ns (recursion_from_All (λ n. is_gt (nat_cmp time n) ≡ true) ns h)
  where
    one : (n : ℕ) → is_gt (nat_cmp time n) ≡ true → nat_lt n time ≡ true
    one n e = grind (arith, common_steps)

    every : (ms : List ℕ) → AllByRecursion (λ n. is_gt (nat_cmp time n) ≡ true) ms → AllByRecursion (λ n. nat_lt n time ≡ true) ms
    every [] k = tt
    every (m ∷ ms) k = (one m k.0, every ms k.1)

-- what is not below a time isn't below an earlier one
pub from-time : (time begin : ℕ) (ns : List ℕ) → time ≤ begin → All (λ n. is_gt (nat_cmp begin n) ≡ false) ns → AllByRecursion (λ n. nat_lt n time ≡ false) ns
from-time time begin ns low h = every ns (recursion_from_All (λ n. is_gt (nat_cmp begin n) ≡ false) ns h)
  where
    one : (n : ℕ) → is_gt (nat_cmp begin n) ≡ false → nat_lt n time ≡ false
    one n e = grind (arith, common_steps)

    every : (ms : List ℕ) → AllByRecursion (λ n. is_gt (nat_cmp begin n) ≡ false) ms → AllByRecursion (λ n. nat_lt n time ≡ false) ms
    every [] k = tt
    every (m ∷ ms) k = (one m k.0, every ms k.1)
