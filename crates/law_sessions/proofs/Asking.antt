-- What the answer to a subscription leaves of a sender's sessions.
use Rattle.std.proofs.Common.{◌≡◌, ℕ, zero, suc, ◌<◌, ◌≤◌, Bool, true, false, cond, not, ◌==◌, nat_lt, List, [], ◌∷◌, ◌++◌, map, length, refl, sym, ap, subst, ◌∙◌, arith, Option, Some, None, slice_get, unwrap_or}
use Rattle.std.proofs.lemmas.Grind.{common_steps}
use Rattle.std.proofs.lemmas.List.{append-nil}
use Rattle.std.proofs.lemmas.Option.{slice_get_within}
use Rattle.dpc_lists.specs.Lists.{nth, changed}
use Rattle.dpc_model.specs.Sessions.{Shown, Answered, answer_to, first_batch, is_newer_than_kept}
use Rattle.dpc_model.specs.declared.sessions.Sub.{Sub}
use Rattle.dpc_model.specs.declared.tuples.Item.{Item}
use Rattle.dpc_model.specs.declared.messages.Sess.{Sess}
use Rattle.dpc_model.specs.declared.messages.Subscribe.{Subscribe}
use Rattle.dpc_model.specs.declared.messages.Message.{Message}
use Rattle.dpc_model.specs.declared.messages.Message.TheVariants as message
use Rattle.dpc_model.specs.declared.plans.Plan.{Plan}
use Rattle.dpc_model.specs.declared.plans.StreamRef.{StreamRef}
use Rattle.node_model.specs.Mails.{Plain, Mail, mail}
use Rattle.world_model.specs.Worlds.{Envelope, from}
use Rattle.world_model.specs.SessionLaw.{carried, LeavesView}
use Rattle.dpc_lists.proofs.Truths.{eq-of, eq-test}
use Rattle.dpc_lists.proofs.Elements.{length-changed, get-changed, get-there}
use Rattle.dpc_lists.proofs.Somes.{some-same}
use Rattle.dpc_model.proofs.Alike.{same_sess-self}
use Rattle.law_safety.proofs.Views.{IsView, first-law}
use Rattle.law_safety.proofs.Histories.{HoldsSession, AreDistinct, newer-other, newer-kept}
use Rattle.law_sessions.specs.Openings.{asks_for, has_first}
use Rattle.law_sessions.proofs.Keeping.{HeldBy, line_of, mailed, held-same, no-more}

-- what opened a session, behind these mails, where an envelope came before them
abbrev pub opens : ℕ → List ℕ → List Mail → Envelope → (ℕ → Sess → Subscribe) → ℕ → Sess → Subscribe
opens a readers ms e q k u = cond (has_first (line_of a readers k u) (map (from a) ms)) (unwrap_or (asks_for (line_of a readers k u) e) (q k u)) (q k u)

-- the answer's mail
abbrev pub answer_mails : ℕ → Option Message → List Mail
answer_mails to o = elim o [ None ↦ [] | Some m ↦ mail to m ∷ [] ]

pub changed-other : {X : Type 0} (i j : ℕ) (f : X → X) (xs : List X) → (i == j) ≡ false → slice_get (changed i f xs) j ≡ slice_get xs j
changed-other i j f [] e = refl
changed-other zero zero f (x ∷ xs) e = cc
changed-other zero (suc j) f (x ∷ xs) e = refl
changed-other (suc i) zero f (x ∷ xs) e = refl
changed-other (suc i) (suc j) f (x ∷ xs) e = let less : (i == j) ≡ false = grind (arith, common_steps) in changed-other i j f xs less

module _ (plan : Plan) (s : StreamRef) (a : ℕ) (readers : List ℕ) (x : Shown) (asked : Subscribe) (k : ℕ) where
  abbrev pub came : Envelope
  came = record { sender = nth 0 readers k; to = a; packet = Plain (message.Subscribe asked) }

  -- a session of another reader
  other-held : (j : ℕ) (u : Sess) (o : Option Message) → (nth 0 readers k == nth 0 readers j) ≡ false → carried (line_of a readers j u) (map (from a) (answer_mails (nth 0 readers k) o)) ≡ []
  other-held j u None e = refl
  other-held j u (Some m) e = let mine : (a == a) ≡ true = eq-test a a refl in rw (mine, e) refl

  other-opens : (q : ℕ → Sess → Subscribe) (j : ℕ) (u : Sess) (o : Option Message) → (nth 0 readers k == nth 0 readers j) ≡ false → opens a readers (answer_mails (nth 0 readers k) o) came q j u ≡ q j u
  other-opens q j u None e = refl
  other-opens q j u (Some m) e = let mine : (a == a) ≡ true = eq-test a a refl in rw (mine, e) refl

  abbrev Held : (Sess → List Item) → (ℕ → Sess → Subscribe) → Answered → Type 0
  Held h q t = HoldsSession plan s x (λ u. h u ++ mailed a readers (answer_mails (nth 0 readers k) t.answer) k u) (opens a readers (answer_mails (nth 0 readers k) t.answer) came q k) t.after

  -- the session of the reader that asked
  own-held : (h : Sess → List Item) (q : ℕ → Sess → Subscribe) (sub : Sub) → IsView plan s x → HoldsSession plan s x h (q k) sub →
      HoldsSession plan s x (λ u. h u ++ mailed a readers (answer_mails (nth 0 readers k) (answer_to x sub asked).answer) k u) (opens a readers (answer_mails (nth 0 readers k) (answer_to x sub asked).answer) came q k) (answer_to x sub asked).after
  own-held h q sub view held =
      let mine : (a == a) ≡ true = eq-test a a refl in
      let here : (nth 0 readers k == nth 0 readers k) ≡ true = eq-test (nth 0 readers k) (nth 0 readers k) refl in
      (elim (is_newer_than_kept asked.sess sub.kept) as (λ b. is_newer_than_kept asked.sess sub.kept ≡ b → Held h q (cond {A = Answered} (not b) (record { after = sub; answer = None })
      (cond {A = Answered} (nat_lt asked.n x.base)
      (record { after = record { kept = Some asked.sess; is_open = false; batches = 0 }; answer = Some (message.Truncated asked.sess x.base) })
      (record { after = record { kept = Some asked.sess; is_open = true; batches = 1 }; answer = Some (message.Batch asked.sess 0 (first_batch x asked)) })))) [
        | false ↦ λ e. held-same plan s x h (λ u. h u ++ []) (q k) (q k) sub (λ u. append-nil (h u)) (λ u. refl) held
        | true ↦ λ e. elim (nat_lt asked.n x.base) as (λ b. Held h q (cond {A = Answered} b
            (record { after = record { kept = Some asked.sess; is_open = false; batches = 0 }; answer = Some (message.Truncated asked.sess x.base) })
            (record { after = record { kept = Some asked.sess; is_open = true; batches = 1 }; answer = Some (message.Batch asked.sess 0 (first_batch x asked)) }))) [
              | true ↦ record {
                open_one = λ l f. cc;
                newer = λ u f. rw (mine, here) (no-more (h u) ([] ++ []) refl ∙ held.newer u (newer-kept u asked.sess sub.kept f e));
              }
              | false ↦ record {
                open_one = λ l f. by-tally e l f;
                newer = λ u f. rw (mine, here, newer-other u asked.sess f) (no-more (h u) ([] ++ []) refl ∙ held.newer u (newer-kept u asked.sess sub.kept f e));
              }
            ]
      ]) refl
    where
      tally-same : (n : ℕ) (v : Sess) (l : Sess × ℕ) → ◌≡◌ {A = Option (Sess × ℕ)} (Some (v, n)) (Some l) → v ≡ l.0
      tally-same n v l f = let same : ◌≡◌ {A = Sess × ℕ} (v, n) l = cc in ap (λ (y : Sess × ℕ). y.0) same

      first-mail : Message
      first-mail = message.Batch asked.sess 0 (first_batch x asked)

      at-own : is_newer_than_kept asked.sess sub.kept ≡ true → LeavesView plan s (opens a readers (mail (nth 0 readers k) first-mail ∷ []) came q k asked.sess) x (h asked.sess ++ mailed a readers (mail (nth 0 readers k) first-mail ∷ []) k asked.sess)
      at-own e =
          let mine : (a == a) ≡ true = eq-test a a refl in
          let here : (nth 0 readers k == nth 0 readers k) ≡ true = eq-test (nth 0 readers k) (nth 0 readers k) refl in
          rw (mine, here, same_sess-self asked.sess, held.newer asked.sess e) (subst (λ (xs : List Item). LeavesView plan s asked x xs) (sym (append-nil (first_batch x asked))) (first-law plan s asked x view))

      by-tally : is_newer_than_kept asked.sess sub.kept ≡ true → (l : Sess × ℕ) → ◌≡◌ {A = Option (Sess × ℕ)} (Some (asked.sess, 1)) (Some l) →
          LeavesView plan s (opens a readers (mail (nth 0 readers k) first-mail ∷ []) came q k l.0) x (h l.0 ++ mailed a readers (mail (nth 0 readers k) first-mail ∷ []) k l.0)
      by-tally e l f =
          subst (λ (v : Sess). LeavesView plan s (opens a readers (mail (nth 0 readers k) first-mail ∷ []) came q k v) x (h v ++ mailed a readers (mail (nth 0 readers k) first-mail ∷ []) k v)) (tally-same 1 asked.sess l f) (at-own e)

  -- all sessions of the sender
  pub asked-held : (d : Sub) (subs : List Sub) (h : ℕ → Sess → List Item) (q : ℕ → Sess → Subscribe) → AreDistinct readers → length subs ≤ length readers → k < length readers → IsView plan s x → HeldBy plan s x h q subs →
      let t = answer_to x (nth d subs k) asked in
      let ms = answer_mails (nth 0 readers k) t.answer in HeldBy plan s x (λ j u. h j u ++ mailed a readers ms j u) (opens a readers ms came q) (changed k (λ _. t.after) subs)
  asked-held d subs h q distinct few low view held j sub e =
      (elim (k == j) as (λ b. (k == j) ≡ b → HoldsSession plan s x (λ u. h j u ++ mailed a readers (answer_mails (nth 0 readers k) (answer_to x (nth d subs k) asked).answer) j u) (opens a readers (answer_mails (nth 0 readers k) (answer_to x (nth d subs k) asked).answer) came q j) sub) [
        | true ↦ λ f. at-own (eq-of k j f)
        | false ↦ λ f. at-other f
      ]) refl
    where
      t : Answered
      t = answer_to x (nth d subs k) asked

      ms : List Mail
      ms = answer_mails (nth 0 readers k) t.answer

      within : j < length subs
      within = let less = slice_get_within (changed k (λ _. t.after) subs) j sub e in let same = length-changed k (λ _. t.after) subs in omega (arith, less, same)

      at-own : k ≡ j → HoldsSession plan s x (λ u. h j u ++ mailed a readers ms j u) (opens a readers ms came q j) sub
      at-own same =
          let there : slice_get subs k ≡ Some (nth d subs k) = get-there d k subs (rw same within) in
          let now : slice_get (changed k (λ _. t.after) subs) k ≡ Some t.after = get-changed k (λ _. t.after) subs (nth d subs k) there in
          let here : t.after ≡ sub = some-same t.after sub (sym now ∙ ap (λ (i : ℕ). slice_get (changed k (λ _. t.after) subs) i) same ∙ e) in
          subst (λ (y : Sub). HoldsSession plan s x (λ u. h j u ++ mailed a readers ms j u) (opens a readers ms came q j) y) here
          (subst (λ (i : ℕ). HoldsSession plan s x (λ u. h i u ++ mailed a readers ms i u) (opens a readers ms came q i) t.after) same (own-held (h k) q (nth d subs k) view (held k (nth d subs k) there)))

      at-other : (k == j) ≡ false → HoldsSession plan s x (λ u. h j u ++ mailed a readers ms j u) (opens a readers ms came q j) sub
      at-other f =
          let old : slice_get subs j ≡ Some sub = sym (changed-other k j (λ _. t.after) subs f) ∙ e in
          let other = apart (nth 0 readers k == nth 0 readers j) refl in
          held-same plan s x (h j) (λ u. h j u ++ mailed a readers ms j u) (q j) (opens a readers ms came q j) sub (λ u. no-more (h j u) (mailed a readers ms j u) (other-held j u t.answer other)) (λ u. other-opens q j u t.answer other) (held j sub old)
        where
          apart : (b : Bool) → (nth 0 readers k == nth 0 readers j) ≡ b → (nth 0 readers k == nth 0 readers j) ≡ false
          apart false g = g
          apart true g =
              let same = distinct k j low (let w = within in omega (arith, w, few)) (eq-of (nth 0 readers k) (nth 0 readers j) g) in
              let yes = eq-test k j same in
              absurd (let clash : true ≡ false = sym yes ∙ f in cc)
