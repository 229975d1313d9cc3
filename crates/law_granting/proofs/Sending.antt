-- In one incarnation of a sender the batches of a session are numbered 0, 1, and so on: one reader's session, step by step.
use Rattle.std.proofs.Common.{◌≡◌, ℕ, zero, suc, ◌+◌, ◌<◌, ◌≤◌, Bool, true, false, cond, not, ◌&&◌, ◌||◌, ◌==◌, nat_lt, List, [], ◌∷◌, ◌++◌, map, length, refl, sym, ap, subst, ◌∙◌, arith, Option, Some, None, slice_get, length-append, ◌⊎◌, inl, inr}
use Rattle.std.proofs.lemmas.Grind.{common_steps}
use Rattle.std.proofs.lemmas.Option.{slice_get_within}
use Rattle.dpc_lists.specs.Lists.{nth, range_with_len, list_any}
use Rattle.dpc_model.specs.Inlets.{same_sess, is_newer}
use Rattle.dpc_model.specs.Sessions.{no_session, Shown, Answered, answer_to, is_newer_than_kept, tally_of, with_session_shut, with_batch, with_batches, batches_from, batches_of, first_batch}
use Rattle.dpc_model.specs.declared.sessions.Sub.{Sub}
use Rattle.dpc_model.specs.declared.tuples.Item.{Item}
use Rattle.dpc_model.specs.declared.messages.Sess.{Sess}
use Rattle.dpc_model.specs.declared.messages.Subscribe.{Subscribe}
use Rattle.dpc_model.specs.declared.messages.Message.{Message}
use Rattle.dpc_model.specs.declared.messages.Message.TheVariants as message
use Rattle.node_model.specs.Mails.{Mail, mail, Plain, to_readers}
use Rattle.world_model.specs.Worlds.{Envelope, from}
use Rattle.world_model.specs.SessionLaw.{Channel}
use Rattle.dpc_lists.proofs.Truths.{both-of, eq-test, and-false}
use Rattle.dpc_lists.proofs.Somes.{some-pair}
use Rattle.law_safety.proofs.Histories.{AreDistinct, newer-kept, reader-apart}
use Rattle.dpc_lists.proofs.Each.{Each}
use Rattle.law_granting.specs.Taken.{index_in, index_of}

-- ---- indices

-- the indices of the batches of a session among these envelopes
abbrev pub indexes : Channel → List Envelope → List ℕ
indexes l [] = []
indexes l (e ∷ es) = elim (index_of l e) [ None ↦ indexes l es | Some j ↦ j ∷ indexes l es ]

pub indexes-append : (l : Channel) (xs ys : List Envelope) → indexes l (xs ++ ys) ≡ indexes l xs ++ indexes l ys
indexes-append l [] ys = refl
indexes-append l (e ∷ xs) ys =
    elim (index_of l e) as (λ o. elim o [ None ↦ indexes l (xs ++ ys) | Some j ↦ j ∷ indexes l (xs ++ ys) ] ≡ elim o [ None ↦ indexes l xs | Some j ↦ j ∷ indexes l xs ] ++ indexes l ys) [
      | None ↦ indexes-append l xs ys
      | Some j ↦ ap (λ (ns : List ℕ). j ∷ ns) (indexes-append l xs ys)
    ]

pub range-append : (k n m : ℕ) → range_with_len k n ++ range_with_len (k + n) m ≡ range_with_len k (n + m)
range-append k zero m = let none : k + 0 ≡ k = omega arith in let all : 0 + m ≡ m = omega arith in rw (none, all) refl
range-append k (suc n) m =
    let next : k + suc n ≡ k + 1 + n = omega arith in
    let more : suc n + m ≡ suc (n + m) = omega arith in rw (next, more) (ap (λ (ns : List ℕ). k ∷ ns) (range-append (k + 1) n m))

-- ---- one session

-- so many batches were sent in a session: its sub counts them, and none was sent before it was asked for
pub record Counts (s : Sess) (n : ℕ) (sub : Sub) : Type 0 where
  pub open_one : (v : Sess) (m : ℕ) → tally_of sub ≡ Some (v, m) → same_sess v s ≡ true → m ≡ n
  pub newer : is_newer_than_kept s sub.kept ≡ true → n ≡ 0

pub record NotOpen (s : Sess) (sub : Sub) : Type 0 where
  pub other : (v : Sess) (m : ℕ) → tally_of sub ≡ Some (v, m) → same_sess v s ≡ false

abbrev pub is_zero : ℕ → Bool
is_zero v = v == 0

any-before : (xs ys : List ℕ) → list_any is_zero xs ≡ true → list_any is_zero (xs ++ ys) ≡ true
any-before [] ys e = cc
any-before (x ∷ xs) ys e =
    elim (is_zero x) as (λ b. (b || list_any is_zero xs) ≡ true → (b || list_any is_zero (xs ++ ys)) ≡ true) [
      | true ↦ λ d. refl
      | false ↦ λ d. any-before xs ys d
    ] e

any-behind : (xs ys : List ℕ) → list_any is_zero ys ≡ true → list_any is_zero (xs ++ ys) ≡ true
any-behind [] ys e = e
any-behind (x ∷ xs) ys e = elim (is_zero x) as (λ b. (b || list_any is_zero (xs ++ ys)) ≡ true) [ true ↦ refl | false ↦ any-behind xs ys e ]

-- what a step sends in a session; opens tells whether it takes a subscription to it
pub record SendsOn (s : Sess) (opens : Bool) (sub next : Sub) (sent : List ℕ) : Type 0 where
  pub counts : (n : ℕ) → Counts s n sub → (sent ≡ range_with_len n (length sent)) × Counts s (n + length sent) next
  pub quiet : opens ≡ false → NotOpen s sub → (sent ≡ []) × NotOpen s next
  -- a session that was not open got its first batch, or is still not open
  pub fresh : NotOpen s sub → (list_any is_zero sent ≡ true) ⊎ NotOpen s next

no-more : (n : ℕ) → n + 0 ≡ n
no-more n = omega arith

pub sends-none : (s : Sess) (opens : Bool) (sub : Sub) → SendsOn s opens sub sub []
sends-none s opens sub = record { counts = λ n c. (refl, subst (λ (k : ℕ). Counts s k sub) (sym (no-more n)) c); quiet = λ e c. (refl, c); fresh = λ c. inr c }

pub sends-shut : (s : Sess) (opens : Bool) (sub : Sub) → SendsOn s opens sub (with_session_shut sub) []
sends-shut s opens sub =
    record {
      counts = λ n c. (refl, record { open_one = λ v m e. absurd (closed v m e); newer = λ e. no-more n ∙ c.newer e });
      quiet = λ e c. (refl, record { other = λ v m d. absurd (closed v m d) });
      fresh = λ c. inr (record { other = λ v m d. absurd (closed v m d) });
    }
  where
    closed : (v : Sess) (m : ℕ) → tally_of (with_session_shut sub) ≡ Some (v, m) → ⊥
    closed v m e = by-kept sub.kept refl
      where
        by-kept : (o : Option Sess) → sub.kept ≡ o → ⊥
        by-kept None f = let none : tally_of (with_session_shut sub) ≡ None = rw f refl in cc
        by-kept (Some u) f = let none : tally_of (with_session_shut sub) ≡ None = rw f refl in cc

pub sends-then : (s : Sess) (opens : Bool) (a b c : Sub) (xs ys : List ℕ) → SendsOn s opens a b xs → SendsOn s opens b c ys → SendsOn s opens a c (xs ++ ys)
sends-then s opens a b c xs ys h k =
    record {
      counts = λ n e.
          let p = h.counts n e in
          let q = k.counts (n + length xs) p.1 in
          let many = length-append xs ys in
          let all : length (xs ++ ys) ≡ length xs + length ys = many in
          let sum : n + length xs + length ys ≡ n + length (xs ++ ys) = omega (arith, all) in (
            ap (λ (zs : List ℕ). zs ++ ys) p.0 ∙ ap (λ (zs : List ℕ). range_with_len n (length xs) ++ zs) q.0 ∙ range-append n (length xs) (length ys) ∙ ap (λ (z : ℕ). range_with_len n z) (sym all),
            subst (λ (z : ℕ). Counts s z c) sum q.1,
          );
      quiet = λ e d.
          let p = h.quiet e d in
          let q = k.quiet e p.1 in (ap (λ (zs : List ℕ). zs ++ ys) p.0 ∙ q.0, q.1);
      fresh = λ d. elim (h.fresh d) [
        | inl first ↦ inl (any-before xs ys first)
        | inr still ↦ elim (k.fresh still) [ inl first ↦ inl (any-behind xs ys first) | inr none ↦ inr none ]
      ];
    }

-- ---- a batch more

-- the index of an open session's batch
abbrev pub given_index : Option (Sess × ℕ) → Sess → List ℕ
given_index None s = []
given_index (Some l) s = cond (same_sess l.0 s) (l.1 ∷ []) []

pub sends-counted : (s : Sess) (opens : Bool) (sub : Sub) → SendsOn s opens sub (with_batch sub) (given_index (tally_of sub) s)
sends-counted s opens sub = by-parts sub.kept sub.is_open refl refl
  where
    by-parts : (kept : Option Sess) (is_open : Bool) → sub.kept ≡ kept → sub.is_open ≡ is_open → SendsOn s opens sub (with_batch sub) (given_index (tally_of sub) s)
    by-parts kept false f o =
        let closed : tally_of sub ≡ None = none-open kept f in
        let same : with_batch sub ≡ sub = rw o refl in
        subst (λ (z : Option (Sess × ℕ)). SendsOn s opens sub (with_batch sub) (given_index z s)) (sym closed) (subst (λ (z : Sub). SendsOn s opens sub z []) (sym same) (sends-none s opens sub))
      where
        none-open : (k : Option Sess) → sub.kept ≡ k → tally_of sub ≡ None
        none-open None g = rw g refl
        none-open (Some u) g = rw (g, o) refl
    by-parts None true f o =
        let closed : tally_of sub ≡ None = rw f refl in
        subst (λ (z : Option (Sess × ℕ)). SendsOn s opens sub (with_batch sub) (given_index z s)) (sym closed)
        (record {
          counts = λ n c. (refl, record { open_one = λ v m e. absurd (still v m e); newer = λ e. no-more n ∙ c.newer (subst (λ (k : Option Sess). is_newer_than_kept s k ≡ true) kept-same e) });
          quiet = λ e c. (refl, record { other = λ v m d. absurd (still v m d) });
          fresh = λ c. inr (record { other = λ v m d. absurd (still v m d) });
        })
      where
        kept-same : (with_batch sub).kept ≡ sub.kept
        kept-same = rw o refl

        still : (v : Sess) (m : ℕ) → tally_of (with_batch sub) ≡ Some (v, m) → ⊥
        still v m e = let none : tally_of (with_batch sub) ≡ None = rw (o, f) refl in cc
    by-parts (Some u) true f o =
        let open_now : tally_of sub ≡ Some (u, sub.batches) = rw (f, o) refl in
        let open_next : tally_of (with_batch sub) ≡ Some (u, sub.batches + 1) = rw (o, f) refl in
        subst (λ (z : Option (Sess × ℕ)). SendsOn s opens sub (with_batch sub) (given_index z s)) (sym open_now)
        ((elim (same_sess u s) as (λ b. same_sess u s ≡ b → SendsOn s opens sub (with_batch sub) (cond b (sub.batches ∷ []) [])) [
          | true ↦ λ same. record {
            counts = λ n c.
                let it = c.open_one u sub.batches open_now same in (
                  ap (λ (z : ℕ). z ∷ []) it,
                  record {
                    open_one = λ v m e d. let p = some-pair v u m (sub.batches + 1) (sym e ∙ open_next) in p.1 ∙ ap (λ (z : ℕ). z + 1) it;
                    newer = λ e. absurd (not-newer (kept-newer e) same);
                  },
                );
            quiet = λ e c. let clash : true ≡ false = sym same ∙ c.other u sub.batches open_now in cc;
            fresh = λ c. let clash : true ≡ false = sym same ∙ c.other u sub.batches open_now in cc;
          }
          | false ↦ λ other. record {
            counts = λ n c. (
              refl,
              record {
                open_one = λ v m e d. let p = some-pair v u m (sub.batches + 1) (sym e ∙ open_next) in let clash : true ≡ false = sym d ∙ ap (λ (z : Sess). same_sess z s) p.0 ∙ other in cc;
                newer = λ e. no-more n ∙ c.newer (subst (λ (k : Option Sess). is_newer_than_kept s k ≡ true) kept-same e);
              },
            );
            quiet = λ e c. (refl, record { other = λ v m d. let p = some-pair v u m (sub.batches + 1) (sym d ∙ open_next) in ap (λ (z : Sess). same_sess z s) p.0 ∙ other });
            fresh = λ c. inr (record { other = λ v m d. let p = some-pair v u m (sub.batches + 1) (sym d ∙ open_next) in ap (λ (z : Sess). same_sess z s) p.0 ∙ other });
          }
        ]) refl)
      where
        kept-same : (with_batch sub).kept ≡ sub.kept
        kept-same = rw o refl

        kept-newer : is_newer_than_kept s (with_batch sub).kept ≡ true → is_newer s u ≡ true
        kept-newer e = subst (λ (k : Option Sess). is_newer_than_kept s k ≡ true) (kept-same ∙ f) e

        not-newer : is_newer s u ≡ true → same_sess u s ≡ true → ⊥
        not-newer e d = grind (arith, common_steps)

-- ---- the answer to a subscription

abbrev pub answer_index : Sess → Option Message → List ℕ
answer_index s None = []
answer_index s (Some m) = elim (index_in s (Plain m)) [ None ↦ [] | Some j ↦ j ∷ [] ]

same-kept : (a b : Sess) (o : Option Sess) → same_sess a b ≡ true → is_newer_than_kept a o ≡ true → is_newer_than_kept b o ≡ true
same-kept a b None h k = refl
same-kept a b (Some c) h k = same-newer a b c h k
  where
    same-newer : (a b c : Sess) → same_sess a b ≡ true → is_newer a c ≡ true → is_newer b c ≡ true
    same-newer a b c h k = grind (arith, common_steps)

newer-not : (a b : Sess) → is_newer b a ≡ true → same_sess a b ≡ true → ⊥
newer-not a b e d = grind (arith, common_steps)

pub sends-answered : (s : Sess) (opens : Bool) (x : Shown) (sub : Sub) (asked : Subscribe) → (same_sess asked.sess s ≡ true → opens ≡ true) →
    SendsOn s opens sub (answer_to x sub asked).after (answer_index s (answer_to x sub asked).answer)
sends-answered s opens x sub asked told =
    (elim (is_newer_than_kept asked.sess sub.kept) as (λ b. is_newer_than_kept asked.sess sub.kept ≡ b → SendsAnswer (cond {A = Answered} (not b) (record { after = sub; answer = None })
    (cond {A = Answered} (nat_lt asked.n x.base)
    (record { after = record { kept = Some asked.sess; is_open = false; batches = 0 }; answer = Some (message.Truncated asked.sess x.base) })
    (record { after = record { kept = Some asked.sess; is_open = true; batches = 1 }; answer = Some (message.Batch asked.sess 0 (first_batch x asked)) })))) [
      | false ↦ λ old. sends-none s opens sub
      | true ↦ λ new. elim (nat_lt asked.n x.base) as (λ b. SendsAnswer (cond {A = Answered} b
          (record { after = record { kept = Some asked.sess; is_open = false; batches = 0 }; answer = Some (message.Truncated asked.sess x.base) })
          (record { after = record { kept = Some asked.sess; is_open = true; batches = 1 }; answer = Some (message.Batch asked.sess 0 (first_batch x asked)) }))) [
            | true ↦ record {
              counts = λ n c. (refl, record { open_one = λ v m e. cc; newer = λ e. no-more n ∙ c.newer (newer-kept s asked.sess sub.kept e new) });
              quiet = λ e c. (refl, record { other = λ v m d. cc });
              fresh = λ c. inr (record { other = λ v m d. cc });
            }
            | false ↦ opened new
          ]
    ]) refl
  where
    SendsAnswer : Answered → Type 0
    SendsAnswer z = SendsOn s opens sub z.after (answer_index s z.answer)

    opened : is_newer_than_kept asked.sess sub.kept ≡ true → SendsOn s opens sub (record { kept = Some asked.sess; is_open = true; batches = 1 }) (elim (cond {A = Option ℕ} (same_sess asked.sess s) (Some 0) None) [ None ↦ [] | Some j ↦ j ∷ [] ])
    opened new =
        (elim (same_sess asked.sess s) as (λ b. same_sess asked.sess s ≡ b → SendsOn s opens sub (record { kept = Some asked.sess; is_open = true; batches = 1 }) (elim (cond {A = Option ℕ} b (Some 0) None) [ None ↦ [] | Some j ↦ j ∷ [] ])) [
          | true ↦ λ same. record {
            counts = λ n c.
                let none = c.newer (same-kept asked.sess s sub.kept same new) in (
                  ap (λ (z : ℕ). z ∷ []) (sym none),
                  record {
                    open_one = λ v m e d. let p = some-pair v asked.sess m 1 (sym e) in let one = p.1 in omega (arith, one, none);
                    newer = λ e. absurd (newer-not asked.sess s e same);
                  },
                );
            quiet = λ e c. let clash : true ≡ false = sym (told same) ∙ e in cc;
            fresh = λ c. inl refl;
          }
          | false ↦ λ other. record {
            counts = λ n c. (
              refl,
              record {
                open_one = λ v m e d. let p = some-pair v asked.sess m 1 (sym e) in let clash : true ≡ false = sym d ∙ ap (λ (z : Sess). same_sess z s) p.0 ∙ other in cc;
                newer = λ e. no-more n ∙ c.newer (newer-kept s asked.sess sub.kept e new);
              },
            );
            quiet = λ e c. (refl, record { other = λ v m d. let p = some-pair v asked.sess m 1 (sym d) in ap (λ (z : Sess). same_sess z s) p.0 ∙ other });
            fresh = λ c. inr (record { other = λ v m d. let p = some-pair v asked.sess m 1 (sym d) in ap (λ (z : Sess). same_sess z s) p.0 ∙ other });
          }
        ]) refl

-- ---- the indices of what is sent

-- a mail that is no batch
abbrev pub IsNoBatch : Mail → Type 0
IsNoBatch m = (s : Sess) → index_in s m.packet ≡ None

pub none-indexed : (l : Channel) (a : ℕ) (ms : List Mail) → Each IsNoBatch ms → indexes l (map (from a) ms) ≡ []
none-indexed l a [] h = refl
none-indexed l a (m ∷ ms) h =
    let none = h.0 l.sess in
    let rest = none-indexed l a ms h.1 in
    elim (a == l.sender && m.to == l.reader) as (λ b. elim (cond {A = Option ℕ} b (index_in l.sess m.packet) None) [ None ↦ indexes l (map (from a) ms) | Some j ↦ j ∷ indexes l (map (from a) ms) ] ≡ []) [
      | true ↦ rw none rest
      | false ↦ rest
    ]

-- one mail, to another reader or to this one
pub skip-other : (l : Channel) (a : ℕ) (m : Mail) (es : List Envelope) → (a == l.sender && m.to == l.reader) ≡ false → indexes l (from a m ∷ es) ≡ indexes l es
skip-other l a m es e =
    (elim (a == l.sender && m.to == l.reader) as (λ b. b ≡ false → elim (cond {A = Option ℕ} b (index_in l.sess m.packet) None) [ None ↦ indexes l es | Some j ↦ j ∷ indexes l es ] ≡ indexes l es) [
      | true ↦ λ f. cc
      | false ↦ λ f. refl
    ]) e

pub take-mine : (l : Channel) (a : ℕ) (m : Mail) (es : List Envelope) → (a == l.sender && m.to == l.reader) ≡ true → indexes l (from a m ∷ es) ≡ elim (index_in l.sess m.packet) as (λ _. List ℕ) [ None ↦ indexes l es | Some j ↦ j ∷ indexes l es ]
take-mine l a m es e =
    (elim (a == l.sender && m.to == l.reader) as (λ b. b ≡ true → elim (cond {A = Option ℕ} b (index_in l.sess m.packet) None) as (λ _. List ℕ) [ None ↦ indexes l es | Some j ↦ j ∷ indexes l es ] ≡ elim (index_in l.sess m.packet) as (λ _. List ℕ) [ None ↦ indexes l es | Some j ↦ j ∷ indexes l es ]) [
      | true ↦ λ f. refl
      | false ↦ λ f. cc
    ]) e

-- batches to other readers
others-indexed : (readers : List ℕ) (a k j : ℕ) (s : Sess) (items : List Item) (subs : List Sub) → AreDistinct readers → k < j → j + length subs ≤ length readers →
    indexes (record { sender = a; reader = nth 0 readers k; sess = s }) (map (from a) (to_readers readers (batches_from j items subs))) ≡ []
others-indexed readers a k j s items [] distinct less few = refl
others-indexed readers a k j s items (sub ∷ subs) distinct less few =
    let l : Channel = record { sender = a; reader = nth 0 readers k; sess = s } in
    let rest = others-indexed readers a k (j + 1) s items subs distinct (omega (arith, less)) (omega (arith, few)) in
    elim (tally_of sub) as (λ o. indexes l (map (from a) (to_readers readers (elim o [ None ↦ batches_from (j + 1) items subs | Some v ↦ (j, message.Batch v.0 v.1 items) ∷ batches_from (j + 1) items subs ]))) ≡ []) [
      | None ↦ rest
      | Some v ↦
          let other : (nth 0 readers j == nth 0 readers k) ≡ false = reader-apart readers j k distinct (omega (arith, few)) (omega (arith, less, few)) (λ same. absurd (omega (arith, same, less))) in
          skip-other l a (mail (nth 0 readers j) (message.Batch v.0 v.1 items)) (map (from a) (to_readers readers (batches_from (j + 1) items subs))) (and-false (a == a) (nth 0 readers j == nth 0 readers k) other) ∙ rest
    ]

given-indexed : (readers : List ℕ) (a j i : ℕ) (s : Sess) (items : List Item) (subs : List Sub) (sub : Sub) → AreDistinct readers → j + length subs ≤ length readers → slice_get subs i ≡ Some sub →
    indexes (record { sender = a; reader = nth 0 readers (j + i); sess = s }) (map (from a) (to_readers readers (batches_from j items subs))) ≡ given_index (tally_of sub) s
given-indexed readers a j i s items [] sub distinct few e = cc
given-indexed readers a j zero s items (x ∷ subs) sub distinct few e =
    let none : j + 0 ≡ j = omega arith in
    let l : Channel = record { sender = a; reader = nth 0 readers j; sess = s } in
    let same : x ≡ sub = cc in
    let rest = others-indexed readers a j (j + 1) s items subs distinct (omega arith) (omega (arith, few)) in
    let mine : (a == a) ≡ true = eq-test a a refl in
    let here : (nth 0 readers j == nth 0 readers j) ≡ true = eq-test (nth 0 readers j) (nth 0 readers j) refl in
    rw (none, ← same) (elim (tally_of x) as (λ o. indexes l (map (from a) (to_readers readers (elim o [ None ↦ batches_from (j + 1) items subs | Some v ↦ (j, message.Batch v.0 v.1 items) ∷ batches_from (j + 1) items subs ]))) ≡ given_index o s) [
      | None ↦ rest
      | Some v ↦ take-mine l a (mail (nth 0 readers j) (message.Batch v.0 v.1 items)) (map (from a) (to_readers readers (batches_from (j + 1) items subs))) (both-of (a == a) (nth 0 readers j == nth 0 readers j) mine here)
          ∙ (elim (same_sess v.0 s) as (λ b. elim (cond {A = Option ℕ} b (Some v.1) None) as (λ _. List ℕ) [
            | None ↦ indexes l (map (from a) (to_readers readers (batches_from (j + 1) items subs)))
            | Some z ↦ z ∷ indexes l (map (from a) (to_readers readers (batches_from (j + 1) items subs)))
          ] ≡ cond b (v.1 ∷ []) []) [
            | true ↦ ap (λ (zs : List ℕ). v.1 ∷ zs) rest
            | false ↦ rest
          ])
    ])
given-indexed readers a j (suc i) s items (x ∷ subs) sub distinct few e =
    let next : j + suc i ≡ j + 1 + i = omega arith in
    let l : Channel = record { sender = a; reader = nth 0 readers (j + suc i); sess = s } in
    let rest : indexes l (map (from a) (to_readers readers (batches_from (j + 1) items subs))) ≡ given_index (tally_of sub) s =
    rw next (given-indexed readers a (j + 1) i s items subs sub distinct (omega (arith, few)) e) in
    let within = slice_get_within subs i sub e in
    let other : (nth 0 readers j == nth 0 readers (j + suc i)) ≡ false = reader-apart readers j (j + suc i) distinct (omega (arith, few)) (omega (arith, within, few)) (λ same. absurd (omega (arith, same))) in
    let mine : (a == a) ≡ true = eq-test a a refl in
    elim (tally_of x) as (λ o. indexes l (map (from a) (to_readers readers (elim o [ None ↦ batches_from (j + 1) items subs | Some v ↦ (j, message.Batch v.0 v.1 items) ∷ batches_from (j + 1) items subs ]))) ≡ given_index (tally_of sub) s) [
      | None ↦ rest
      | Some v ↦ skip-other l a (mail (nth 0 readers j) (message.Batch v.0 v.1 items)) (map (from a) (to_readers readers (batches_from (j + 1) items subs))) (and-false (a == a) (nth 0 readers j == nth 0 readers (j + suc i)) other) ∙ rest
    ]

-- ---- what is given to all readers

pub nth-map : (f : Sub → Sub) (subs : List Sub) (k : ℕ) → f no_session ≡ no_session → nth no_session (map f subs) k ≡ f (nth no_session subs k)
nth-map f [] k e = sym e
nth-map f (x ∷ subs) zero e = refl
nth-map f (x ∷ subs) (suc k) e = nth-map f subs k e

get-nth : (subs : List Sub) (k : ℕ) → k < length subs → slice_get subs k ≡ Some (nth no_session subs k)
get-nth [] k h = absurd (omega (arith, h))
get-nth (x ∷ subs) zero h = refl
get-nth (x ∷ subs) (suc k) h = get-nth subs k (omega (arith, h))

pub sends-given : (readers : List ℕ) (a k : ℕ) (s : Sess) (opens : Bool) (items : List Item) (subs : List Sub) → AreDistinct readers → length subs ≡ length readers → k < length readers →
    SendsOn s opens (nth no_session subs k) (nth no_session (with_batches items subs) k) (indexes (record { sender = a; reader = nth 0 readers k; sess = s }) (map (from a) (to_readers readers (batches_of items subs))))
sends-given readers a k s opens [] subs distinct same low = sends-none s opens (nth no_session subs k)
sends-given readers a k s opens (i ∷ items) subs distinct same low =
    let zero_on : 0 + k ≡ k = omega arith in
    let sub = nth no_session subs k in
    let there = get-nth subs k (omega (arith, same, low)) in
    let given : indexes (record { sender = a; reader = nth 0 readers k; sess = s }) (map (from a) (to_readers readers (batches_from 0 (i ∷ items) subs))) ≡ given_index (tally_of sub) s =
    rw zero_on at (given-indexed readers a 0 k s (i ∷ items) subs sub distinct (omega (arith, same)) there) in
    subst (λ (z : List ℕ). SendsOn s opens sub (nth no_session (map with_batch subs) k) z) (sym given)
    (subst (λ (z : Sub). SendsOn s opens sub z (given_index (tally_of sub) s)) (sym (nth-map with_batch subs k refl)) (sends-counted s opens sub))
