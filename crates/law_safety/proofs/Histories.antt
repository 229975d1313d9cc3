-- What was sent in a session, and what an event adds to it.
use Rattle.std.proofs.Common.{◌≡◌, ℕ, zero, suc, ◌+◌, ◌<◌, ◌≤◌, Bool, true, false, cond, ◌==◌, List, [], ◌∷◌, ◌++◌, map, length, refl, sym, ap, subst, ◌∙◌, arith, Option, Some, None, slice_get}
use Rattle.std.proofs.lemmas.Grind.{common_steps}
use Rattle.std.proofs.lemmas.List.{append-nil}
use Rattle.std.proofs.lemmas.Option.{slice_get_within}
use Rattle.dpc_lists.specs.Lists.{nth}
use Rattle.dpc_model.specs.Inlets.{same_sess, is_newer}
use Rattle.dpc_model.specs.Sessions.{Shown, tally_of, is_newer_than_kept, with_batch, batches_from}
use Rattle.dpc_model.specs.declared.sessions.Sub.{Sub}
use Rattle.dpc_model.specs.declared.tuples.Item.{Item}
use Rattle.dpc_model.specs.declared.messages.Sess.{Sess}
use Rattle.dpc_model.specs.declared.messages.Subscribe.{Subscribe}
use Rattle.dpc_model.specs.declared.messages.Message.TheVariants as message
use Rattle.dpc_model.specs.declared.plans.Plan.{Plan}
use Rattle.dpc_model.specs.declared.plans.StreamRef.{StreamRef}
use Rattle.node_model.specs.Mails.{to_readers}
use Rattle.world_model.specs.Worlds.{from}
use Rattle.world_model.specs.SessionLaw.{Channel, carried, LeavesView}
use Rattle.dpc_lists.proofs.Truths.{eq-of, eq-test}
use Rattle.dpc_model.proofs.Alike.{same_sess-self, newer-trans}

-- a reader's session at a sender that shows x, where h tells what was sent in each session since the sender last went down,
-- and q the subscription that opened it
pub record HoldsSession (plan : Plan) (s : StreamRef) (x : Shown) (h : Sess → List Item) (q : Sess → Subscribe) (sub : Sub) : Type 0 where
  -- whoever asked for the open session has the sender's view after all that was sent in it
  pub open_one : (l : Sess × ℕ) → tally_of sub ≡ Some l → LeavesView plan s (q l.0) x (h l.0)
  -- nothing was sent in a newer one
  pub newer : (u : Sess) → is_newer_than_kept u sub.kept ≡ true → h u ≡ []

-- the readers of a stream are different actors
abbrev pub AreDistinct : List ℕ → Type 0
AreDistinct readers = (i j : ℕ) → i < length readers → j < length readers → nth 0 readers i ≡ nth 0 readers j → i ≡ j

pub reader-apart : (readers : List ℕ) (j k : ℕ) → AreDistinct readers → j < length readers → k < length readers → (j ≡ k → ⊥) → (nth 0 readers j == nth 0 readers k) ≡ false
reader-apart readers j k distinct here there other = by-test (nth 0 readers j == nth 0 readers k) refl
  where
    by-test : (b : Bool) → (nth 0 readers j == nth 0 readers k) ≡ b → b ≡ false
    by-test false e = refl
    by-test true e = absurd (other (distinct j k here there (eq-of (nth 0 readers j) (nth 0 readers k) e)))

-- batches to other readers carry nothing to this one
carried-others : (readers : List ℕ) (a k j : ℕ) (u : Sess) (items : List Item) (subs : List Sub) → AreDistinct readers → k < j → j + length subs ≤ length readers →
    carried (record { sender = a; reader = nth 0 readers k; sess = u }) (map (from a) (to_readers readers (batches_from j items subs))) ≡ []
carried-others readers a k j u items [] distinct less few = refl
carried-others readers a k j u items (sub ∷ subs) distinct less few =
    let l : Channel = record { sender = a; reader = nth 0 readers k; sess = u } in
    let rest = carried-others readers a k (j + 1) u items subs distinct (omega (arith, less)) (omega (arith, few)) in
    elim (tally_of sub) as (λ o. carried l (map (from a) (to_readers readers (elim o [ None ↦ batches_from (j + 1) items subs | Some v ↦ (j, message.Batch v.0 v.1 items) ∷ batches_from (j + 1) items subs ]))) ≡ []) [
      | None ↦ rest
      | Some v ↦
          let other : (nth 0 readers j == nth 0 readers k) ≡ false = reader-apart readers j k distinct (omega (arith, few)) (omega (arith, less, few)) (λ same. absurd (omega (arith, same, less))) in
          let mine : (a == a) ≡ true = eq-test a a refl in
          rw (mine, other) rest
    ]

-- the items of an open session's batch
abbrev pub given_in : Option (Sess × ℕ) → Sess → List Item → List Item
given_in None u items = []
given_in (Some l) u items = cond (same_sess l.0 u) items []

-- to the reader of an open session goes one batch of the items
pub carried-given : (readers : List ℕ) (a j i : ℕ) (u : Sess) (items : List Item) (subs : List Sub) (sub : Sub) → AreDistinct readers → j + length subs ≤ length readers → slice_get subs i ≡ Some sub →
    carried (record { sender = a; reader = nth 0 readers (j + i); sess = u }) (map (from a) (to_readers readers (batches_from j items subs))) ≡ given_in (tally_of sub) u items
carried-given readers a j i u items [] sub distinct few e = cc
carried-given readers a j zero u items (s ∷ subs) sub distinct few e =
    let none : j + 0 ≡ j = omega arith in
    let l : Channel = record { sender = a; reader = nth 0 readers j; sess = u } in
    let same : s ≡ sub = cc in
    let rest = carried-others readers a j (j + 1) u items subs distinct (omega arith) (omega (arith, few)) in
    let mine : (a == a) ≡ true = eq-test a a refl in
    let here : (nth 0 readers j == nth 0 readers j) ≡ true = eq-test (nth 0 readers j) (nth 0 readers j) refl in
    rw (none, ← same) (elim (tally_of s) as (λ o. carried l (map (from a) (to_readers readers (elim o [ None ↦ batches_from (j + 1) items subs | Some v ↦ (j, message.Batch v.0 v.1 items) ∷ batches_from (j + 1) items subs ]))) ≡ given_in o u items) [
      | None ↦ rest
      | Some v ↦ rw (mine, here, rest) (append-nil (cond (same_sess v.0 u) items []))
    ])
carried-given readers a j (suc i) u items (s ∷ subs) sub distinct few e =
    let next : j + suc i ≡ j + 1 + i = omega arith in
    let l : Channel = record { sender = a; reader = nth 0 readers (j + suc i); sess = u } in
    let rest : carried l (map (from a) (to_readers readers (batches_from (j + 1) items subs))) ≡ given_in (tally_of sub) u items =
    rw next (carried-given readers a (j + 1) i u items subs sub distinct (omega (arith, few)) e) in
    let within = slice_get_within subs i sub e in
    let other : (nth 0 readers j == nth 0 readers (j + suc i)) ≡ false = reader-apart readers j (j + suc i) distinct (omega (arith, few)) (omega (arith, within, few)) (λ same. absurd (omega (arith, same))) in
    let mine : (a == a) ≡ true = eq-test a a refl in
    elim (tally_of s) as (λ o. carried l (map (from a) (to_readers readers (elim o [ None ↦ batches_from (j + 1) items subs | Some v ↦ (j, message.Batch v.0 v.1 items) ∷ batches_from (j + 1) items subs ]))) ≡ given_in (tally_of sub) u items) [
      | None ↦ rest
      | Some v ↦ rw (mine, other) rest
    ]

-- ---- one event that gives

pub newer-kept : (u v : Sess) (o : Option Sess) → is_newer u v ≡ true → is_newer_than_kept v o ≡ true → is_newer_than_kept u o ≡ true
newer-kept u v None e f = refl
newer-kept u v (Some w) e f = newer-trans u v w e f

pub newer-other : (u v : Sess) → is_newer u v ≡ true → same_sess v u ≡ false
newer-other u v e = grind (arith, common_steps)

-- an open session stays open, with one batch more
counted-tally : (sub : Sub) (l : Sess × ℕ) → tally_of (with_batch sub) ≡ Some l → (n : ℕ) × (tally_of sub ≡ Some (l.0, n))
counted-tally sub l e = by-parts sub.kept sub.is_open refl refl e
  where
    first-same : (v : Sess) (n : ℕ) → ◌≡◌ {A = Option (Sess × ℕ)} (Some (v, n)) (Some l) → v ≡ l.0
    first-same v n f = let same : ◌≡◌ {A = Sess × ℕ} (v, n) l = cc in ap (λ (x : Sess × ℕ). x.0) same

    by-parts : (kept : Option Sess) (is_open : Bool) → sub.kept ≡ kept → sub.is_open ≡ is_open → tally_of (with_batch sub) ≡ Some l → (n : ℕ) × (tally_of sub ≡ Some (l.0, n))
    by-parts None true f g h = let none : tally_of (with_batch sub) ≡ None = rw (g, f) refl in cc
    by-parts None false f g h = let none : tally_of (with_batch sub) ≡ None = rw (g, f) refl in cc
    by-parts (Some v) false f g h = let none : tally_of (with_batch sub) ≡ None = rw (g, f) refl in cc
    by-parts (Some v) true f g h =
        let now : tally_of (with_batch sub) ≡ Some (v, sub.batches + 1) = rw (g, f) refl in
        let old : tally_of sub ≡ Some (v, sub.batches) = rw (f, g) refl in
        (sub.batches, old ∙ ap (λ (w : Sess). Some (w, sub.batches)) (first-same v (sub.batches + 1) (sym now ∙ h)))

-- what items do to every reader of a session
abbrev pub Carries : Plan → StreamRef → Shown → Shown → List Item → Type 0
Carries plan s x y items = (asked : Subscribe) (before : List Item) → LeavesView plan s asked x before → LeavesView plan s asked y (before ++ items)

-- each reader's session is held again, with the items that the event gave it
pub gave-held : (plan : Plan) (s : StreamRef) (x y : Shown) (items : List Item) (h : Sess → List Item) (q : Sess → Subscribe) (readers : List ℕ) (a k : ℕ) (subs : List Sub) (sub : Sub) → AreDistinct readers → length subs ≤ length readers →
    slice_get subs k ≡ Some sub → Carries plan s x y items → HoldsSession plan s x h q sub →
    HoldsSession plan s y (λ u. h u ++ carried (record { sender = a; reader = nth 0 readers k; sess = u }) (map (from a) (to_readers readers (batches_from 0 items subs)))) q (with_batch sub)
gave-held plan s x y items h q readers a k subs sub distinct few at carries held =
    let zero_on : 0 + k ≡ k = omega arith in
    let given : (u : Sess) → carried (record { sender = a; reader = nth 0 readers k; sess = u }) (map (from a) (to_readers readers (batches_from 0 items subs))) ≡ given_in (tally_of sub) u items =
    λ u. (rw zero_on at (carried-given readers a 0 k u items subs sub distinct (omega (arith, few)) at)) in
    record {
      open_one = λ l e.
          let old = counted-tally sub l e in
          let all : given_in (tally_of sub) l.0 items ≡ items = rw (old.1, same_sess-self l.0) refl in
          rw (given l.0, all) (carries (q l.0) (h l.0) (held.open_one (l.0, old.0) old.1));
      newer = λ u e.
          let kept : is_newer_than_kept u sub.kept ≡ true = kept-same (λ o. is_newer_than_kept u o) e in
          rw (given u, held.newer u kept) (none-newer u kept);
    }
  where
    kept-same : (test : Option Sess → Bool) → test (with_batch sub).kept ≡ true → test sub.kept ≡ true
    kept-same test e = subst (λ (o : Option Sess). test o ≡ true) (kept-is sub.is_open) e
      where
        kept-is : (b : Bool) → (cond b (record sub { batches = sub.batches + 1 }) sub).kept ≡ sub.kept
        kept-is true = refl
        kept-is false = refl

    none-newer : (u : Sess) → is_newer_than_kept u sub.kept ≡ true → given_in (tally_of sub) u items ≡ []
    none-newer u e = by-parts sub.kept sub.is_open refl refl e
      where
        by-parts : (kept : Option Sess) (is_open : Bool) → sub.kept ≡ kept → sub.is_open ≡ is_open → is_newer_than_kept u sub.kept ≡ true → given_in (tally_of sub) u items ≡ []
        by-parts None b f o n = rw f refl
        by-parts (Some v) false f o n = rw (f, o) refl
        by-parts (Some v) true f o n = let newer : is_newer u v ≡ true = rw f at n in rw (f, o, newer-other u v newer) refl
