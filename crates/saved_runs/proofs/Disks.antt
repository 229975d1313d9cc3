-- Disks that go out and come back.
use Rattle.std.proofs.Common.{◌≡◌, ℕ, ◌+◌, ◌<◌, ◌≤◌, List, [], ◌∷◌, ◌++◌, inl, inr, refl, sym, ap, subst, ◌∙◌, arith, append_assoc, append-nil, All, Result, Err}
use Rattle.std.specs.Prelude.{IsErrAnd, IsErrOf}
use Rattle.std.proofs.lemmas.List.Elements.{All-nil, All-cons, All-head, All-tail, All-append}
use Rattle.std.specs.List.{AllZip}
use Rattle.disk_model.specs.declared.disk.Disk.{Ghosts}
use Rattle.saved_point.specs.Points.{disk_in, faults_in}
use Rattle.phase_saves.specs.Nodes.{IsSame, SomeRose}
use Rattle.phase_saves.specs.declared.node.SavingNode.{SavingNode}
use Rattle.phase_saves.specs.declared.kept.SaveStop.{SaveStop}
use Rattle.phase_saves.specs.declared.kept.SaveStop.TheVariants.{NoMemory as ForMemory, DiskFault as AtDisk}
use Rattle.saved_runs.specs.Faults.{stop_fault}
use Rattle.saved_runs.specs.declared.faults.SavesFault.TheVariants.{DiskFault}
use Rattle.saved_runs.specs.Disks.{IsBack, total_faults, behind, all_disks}

-- ---- lists

-- another element in the place of one
changed-at : {X : Type 0} (R : X → X → Type 0) → ((x y z : X) → R x y → R y z → R x z) → (xs before : List X) (y z : X) (rest : List X)
    → AllZip R xs (before ++ y ∷ rest) → R y z → AllZip R xs (before ++ z ∷ rest)
changed-at R then [] [] y z rest h r = absurd h
changed-at R then (x ∷ xs) [] y z rest h r = (then x y z h.0 r, h.1)
changed-at R then [] (b ∷ before) y z rest h r = absurd h
changed-at R then (x ∷ xs) (b ∷ before) y z rest h r = (h.0, changed-at R then xs before y z rest h.1 r)

zip-same : {X : Type 0} (R : X → X → Type 0) → ((x : X) → R x x) → (xs : List X) → AllZip R xs xs
zip-same R same [] = tt
zip-same R same (x ∷ xs) = (same x, zip-same R same xs)

zip-then : {X : Type 0} (R : X → X → Type 0) → ((x y z : X) → R x y → R y z → R x z) → (xs ys zs : List X) → AllZip R xs ys → AllZip R ys zs → AllZip R xs zs
zip-then R then [] [] [] h i = tt
zip-then R then [] [] (z ∷ zs) h i = absurd i
zip-then R then [] (y ∷ ys) zs h i = absurd h
zip-then R then (x ∷ xs) [] zs h i = absurd h
zip-then R then (x ∷ xs) (y ∷ ys) [] h i = absurd i
zip-then R then (x ∷ xs) (y ∷ ys) (z ∷ zs) h i = (then x y z h.0 i.0, zip-then R then xs ys zs h.1 i.1)

pub all-front : {X : Type 0} (P : X → Type 0) (xs : List X) (y : X) → All P (xs ++ y ∷ []) → All P xs × P y
all-front P [] y h = (All-nil P, All-head P y [] h)
all-front P (x ∷ xs) y h = let rest = all-front P xs y (All-tail P x (xs ++ y ∷ []) h) in (All-cons P x xs (All-head P x (xs ++ y ∷ []) h) rest.0, rest.1)

pub all-pushed : {X : Type 0} (P : X → Type 0) (xs : List X) (y : X) → All P xs → P y → All P (xs ++ y ∷ [])
all-pushed P xs y h p = All-append P xs (y ∷ []) h (All-cons P y [] p (All-nil P))

-- ---- coming back

module _ {D : Type 0} (g : Ghosts D) where
  -- where none is out
  pub none-out : (ds : List D) → all_disks {g = g} ds [] ≡ ds
  none-out ds = append-nil ds

  back-then : (x y z : D) → IsBack g x y → IsBack g y z → IsBack g x z
  back-then x y z a b =
      record { extent = b.extent ∙ a.extent; honest = λ h. b.honest (a.honest h); faults = (let first = a.faults in let second = b.faults in omega (arith, first, second)) }

  back-same : (x : D) → IsBack g x x
  back-same x = record { extent = refl; honest = λ h. h; faults = omega arith }

  pub backs-same : (xs : List D) → AllZip (IsBack g) xs xs
  backs-same xs = zip-same (IsBack g) back-same xs

  pub backs-then : (xs ys zs : List D) → AllZip (IsBack g) xs ys → AllZip (IsBack g) ys zs → AllZip (IsBack g) xs zs
  backs-then xs ys zs h i = zip-then (IsBack g) back-then xs ys zs h i

  -- none is out yet
  pub none-gone : (ds : List D) (ns : List (SavingNode D g)) → ns ≡ [] → AllZip (IsBack g) ds (all_disks ds ns)
  none-gone ds ns is =
      subst (λ (ns : List (SavingNode D g)). AllZip (IsBack g) ds (all_disks ds ns)) (sym is) (subst (λ (ys : List D). AllZip (IsBack g) ds ys) (sym (none-out ds)) (backs-same ds))

  here-too : (ds xs ys : List D) → AllZip (IsBack g) xs ys → AllZip (IsBack g) (ds ++ xs) (ds ++ ys)
  here-too [] xs ys h = h
  here-too (d ∷ ds) xs ys h = (back-same d, here-too ds xs ys h)

  pub total-back : (xs ys : List D) → AllZip (IsBack g) xs ys → total_faults g.faults xs ≤ total_faults g.faults ys
  total-back [] [] h = omega arith
  total-back [] (y ∷ ys) h = absurd h
  total-back (x ∷ xs) [] h = absurd h
  total-back (x ∷ xs) (y ∷ ys) h = let one = h.0.faults in let rest = total-back xs ys h.1 in omega (arith, one, rest)

total-both : {D : Type 0} (faults : D → ℕ) (xs ys : List D) → total_faults faults (xs ++ ys) ≡ total_faults faults xs + total_faults faults ys
total-both faults [] ys = omega arith
total-both faults (x ∷ xs) ys = let rest = total-both faults xs ys in omega (arith, rest)

total-rose : {D : Type 0} (faults : D → ℕ) (ds : List D) (d e : D) (rest : List D) → faults d < faults e → total_faults faults (ds ++ d ∷ rest) < total_faults faults (ds ++ e ∷ rest)
total-rose faults ds d e rest rise = let one = total-both faults ds (d ∷ rest) in let other = total-both faults ds (e ∷ rest) in omega (arith, one, other, rise)

module _ {D : Type 0} {g : Ghosts D} where
  -- ---- out and in again

  behind-pushed : (ns : List (SavingNode D g)) (n : SavingNode D g) (rest : List D) → behind (ns ++ n ∷ []) rest ≡ disk_in n.point ∷ behind ns rest
  behind-pushed [] n rest = refl
  behind-pushed (m ∷ ns) n rest = behind-pushed ns n (disk_in m.point ∷ rest)

  -- the last of those that are here
  last-here : (ds : List D) (d : D) (ns : List (SavingNode D g)) → all_disks (ds ++ d ∷ []) ns ≡ ds ++ d ∷ behind ns []
  last-here ds d ns = append_assoc ds (d ∷ []) (behind ns [])

  -- the first of those that are out
  first-out : (ds : List D) (ns : List (SavingNode D g)) (n : SavingNode D g) → all_disks ds (ns ++ n ∷ []) ≡ ds ++ disk_in n.point ∷ behind ns []
  first-out ds ns n = ap (λ (rest : List D). ds ++ rest) (behind-pushed ns n [])

  pub goes-out : (xs ds : List D) (d : D) (ns : List (SavingNode D g)) (n : SavingNode D g) → AllZip (IsBack g) xs (all_disks (ds ++ d ∷ []) ns) → IsBack g d (disk_in n.point) → AllZip (IsBack g) xs (all_disks ds (ns ++ n ∷ []))
  goes-out xs ds d ns n h b =
      subst (λ (ys : List D). AllZip (IsBack g) xs ys) (sym (first-out ds ns n))
      (changed-at (IsBack g) (back-then g) xs ds d (disk_in n.point) (behind ns []) (subst (λ (ys : List D). AllZip (IsBack g) xs ys) (last-here ds d ns) h) b)

  pub stays-here : (xs ds : List D) (d e : D) (ns : List (SavingNode D g)) → AllZip (IsBack g) xs (all_disks (ds ++ d ∷ []) ns) → IsBack g d e → AllZip (IsBack g) xs (all_disks (ds ++ e ∷ []) ns)
  stays-here xs ds d e ns h b =
      subst (λ (ys : List D). AllZip (IsBack g) xs ys) (sym (last-here ds e ns))
      (changed-at (IsBack g) (back-then g) xs ds d e (behind ns []) (subst (λ (ys : List D). AllZip (IsBack g) xs ys) (last-here ds d ns) h) b)

  pub comes-in : (xs ds : List D) (d : D) (ns : List (SavingNode D g)) (n : SavingNode D g) → AllZip (IsBack g) xs (all_disks ds (ns ++ n ∷ [])) → IsBack g (disk_in n.point) d → AllZip (IsBack g) xs (all_disks (ds ++ d ∷ []) ns)
  comes-in xs ds d ns n h b =
      subst (λ (ys : List D). AllZip (IsBack g) xs ys) (sym (last-here ds d ns))
      (changed-at (IsBack g) (back-then g) xs ds (disk_in n.point) d (behind ns []) (subst (λ (ys : List D). AllZip (IsBack g) xs ys) (first-out ds ns n) h) b)

  -- a disk itself comes in
  pub given-back : (ds : List D) (ns : List (SavingNode D g)) (n : SavingNode D g) → all_disks (ds ++ disk_in n.point ∷ []) ns ≡ all_disks ds (ns ++ n ∷ [])
  given-back ds ns n = last-here ds (disk_in n.point) ns ∙ sym (first-out ds ns n)

  -- ---- what nodes make of their disks

  behind-back : (ns ms : List (SavingNode D g)) (ds es : List D) → AllZip IsSame ns ms → AllZip (IsBack g) ds es → AllZip (IsBack g) (behind ns ds) (behind ms es)
  behind-back [] [] ds es h b = b
  behind-back [] (m ∷ ms) ds es h b = absurd h
  behind-back (n ∷ ns) [] ds es h b = absurd h
  behind-back (n ∷ ns) (m ∷ ms) ds es h b =
      behind-back ns ms (disk_in n.point ∷ ds) (disk_in m.point ∷ es) h.1 (record { extent = h.0.extent; honest = h.0.honest; faults = h.0.faults }, b)

  pub all-back : (ds : List D) (ns ms : List (SavingNode D g)) → AllZip IsSame ns ms → AllZip (IsBack g) (all_disks ds ns) (all_disks ds ms)
  all-back ds ns ms h = here-too g ds (behind ns []) (behind ms []) (behind-back ns ms [] [] h tt)

  -- ---- faults

  -- the last of those that are here failed
  pub fails-here : (xs ds : List D) (d e : D) (ns : List (SavingNode D g)) → AllZip (IsBack g) xs (all_disks (ds ++ d ∷ []) ns) → g.faults d < g.faults e → total_faults g.faults xs < total_faults g.faults (all_disks (ds ++ e ∷ []) ns)
  fails-here xs ds d e ns h rise =
      let before = total-back g xs (all_disks (ds ++ d ∷ []) ns) h in
      let one = ap (total_faults g.faults) (last-here ds d ns) in
      let other = ap (total_faults g.faults) (last-here ds e ns) in
      let more = total-rose g.faults ds d e (behind ns []) rise in omega (arith, before, one, other, more)

  -- the first of those that are out failed
  pub fails-out : (xs ds : List D) (d : D) (ns : List (SavingNode D g)) (n : SavingNode D g) → AllZip (IsBack g) xs (all_disks ds (ns ++ n ∷ [])) → faults_in n.point < g.faults d → total_faults g.faults xs < total_faults g.faults (all_disks (ds ++ d ∷ []) ns)
  fails-out xs ds d ns n h rise =
      let before = total-back g xs (all_disks ds (ns ++ n ∷ [])) h in
      let one = ap (total_faults g.faults) (first-out ds ns n) in
      let other = ap (total_faults g.faults) (last-here ds d ns) in
      let more = total-rose g.faults ds (disk_in n.point) d (behind ns []) rise in omega (arith, before, one, other, more)

  abbrev node_faults : List (SavingNode D g) → ℕ
  node_faults [] = 0
  node_faults (n ∷ ns) = faults_in n.point + node_faults ns

  total-behind : (ns : List (SavingNode D g)) (ds : List D) → total_faults g.faults (behind ns ds) ≡ node_faults ns + total_faults g.faults ds
  total-behind [] ds = omega arith
  total-behind (n ∷ ns) ds = let rest = total-behind ns (disk_in n.point ∷ ds) in omega (arith, rest)

  nodes-same : (ns ms : List (SavingNode D g)) → AllZip IsSame ns ms → node_faults ns ≤ node_faults ms
  nodes-same [] [] h = omega arith
  nodes-same [] (m ∷ ms) h = absurd h
  nodes-same (n ∷ ns) [] h = absurd h
  nodes-same (n ∷ ns) (m ∷ ms) h = let one = h.0.faults in let rest = nodes-same ns ms h.1 in omega (arith, one, rest)

  nodes-rose : (ns ms : List (SavingNode D g)) → AllZip IsSame ns ms → SomeRose ns ms → node_faults ns < node_faults ms
  nodes-rose [] ms h rose = absurd rose
  nodes-rose (n ∷ ns) [] h rose = absurd rose
  nodes-rose (n ∷ ns) (m ∷ ms) h rose =
      elim rose [
        | inl here ↦ (let rise = here in let rest = nodes-same ns ms h.1 in omega (arith, rise, rest))
        | inr there ↦ (let one = h.0.faults in let rest = nodes-rose ns ms h.1 there in omega (arith, one, rest))
      ]

  -- some node's disk failed
  pub rose-total : (ds : List D) (ns ms : List (SavingNode D g)) → AllZip IsSame ns ms → SomeRose ns ms → total_faults g.faults (all_disks ds ns) < total_faults g.faults (all_disks ds ms)
  rose-total ds ns ms h rose =
      let one = total-both g.faults ds (behind ns []) in
      let other = total-both g.faults ds (behind ms []) in
      let first = total-behind ns [] in
      let second = total-behind ms [] in
      let more = nodes-rose ns ms h rose in omega (arith, one, other, first, second, more)

-- ---- errors that are handed on

pub err-is : {T S E : Type 0} (r : Result T E) (x y : E) → IsErrAnd r (λ (z : E). z ≡ x) → IsErrOf r y → ◌≡◌ {A = Result S E} (Err x) (Err y)
err-is {T = T} {S = S} {E = E} r x y h told =
    let at : IsErrAnd {T = T} (Err y) (λ (z : E). z ≡ x) = subst (λ (q : Result T E). IsErrAnd q (λ (z : E). z ≡ x)) told h in ap Err (sym at)

pub err-known : {T E : Type 0} (x y : E) → ◌≡◌ {A = Result T E} (Err x) (Err y) → x ≡ y
err-known x y is = cc

-- a stop at the disk
pub disk-stop : (x : SaveStop) → stop_fault x ≡ DiskFault → x ≡ AtDisk
disk-stop AtDisk is = refl
disk-stop ForMemory is = absurd (cc (is))
