-- What a verdict says of the tuples that are held, beside a stream in order of time.
use Rattle.std.proofs.Common.{◌≡◌, ◌≢◌, ◌⊎◌, inl, inr, ℕ, suc, ◌+◌, ◌<◌, ◌≤◌, true, false, cond, nat_lt, ◌==◌, List, [], ◌∷◌, ◌++◌, length, take, get_or, Option, Some, None, unwrap_or, refl, sym, ap, subst, ◌∙◌, arith, length-append, append-nil}
use Rattle.std.specs.List.{slice_get}
use Rattle.std.proofs.lemmas.Bool.{ltb-true, ltb-false, eqb-true, and_parts}
use Rattle.std.proofs.lemmas.Option.{slice_get_within, get_or_from_slice_get}
use Rattle.std.proofs.Math.Seq.{take-append_seam}
use Rattle.dpc_model.specs.Reading.{Reader, is_settled, is_sure}
use Rattle.dpc_model.specs.Streams.{cut, InOrder, time_of}
use Rattle.dpc_model.specs.declared.tuples.Tuple.{Tuple}
use Rattle.dpc_model.proofs.Cuts.{count-more, count-end}
use Rattle.dpc_model.proofs.Prefixes.{length-filter_le}
use Rattle.audit_core.specs.Audits.{same_tuple, first_difference, verdict_of, verdict_on}
use Rattle.audit_core.specs.Meanings.{SaysOf}
use Rattle.audit_core.specs.declared.verdict.Verdict.TheVariants.{Whole, Prefix}
use Rattle.audit_core.proofs.Differences.{same-self, same-is}

-- what is told of a place: its number, and what stands there in either list
abbrev Told : Type 0
Told = ℕ × Option Tuple × Option Tuple

none-told : (d : Told) → Some d ≡ None → ⊥
none-told d e = absurd (cc)

-- ---- no difference

-- a list is empty, or its first tuple is not below b
abbrev IsLate : ℕ → List Tuple → Type 0
IsLate b [] = Unit {0}
IsLate b (t ∷ ts) = b ≤ t.stime

record IsBeginning (b : ℕ) (ss ts : List Tuple) : Type 0 where
  pub rest : List Tuple
  pub split : ts ≡ ss ++ rest
  pub late : IsLate b rest

is-beginning : (b k : ℕ) (ss ts : List Tuple) → first_difference b k ss ts ≡ None → IsBeginning b ss ts
is-beginning b k [] [] e = record { rest = []; split = refl; late = tt }
is-beginning b k [] (t ∷ ts) e =
    (elim (nat_lt t.stime b) as (λ c. nat_lt t.stime b ≡ c → cond {A = Option Told} c (Some (k, None, Some t)) None ≡ None → IsBeginning b [] (t ∷ ts)) [
      | true ↦ λ low e. absurd (none-told (k, None, Some t) e)
      | false ↦ λ low e. record { rest = t ∷ ts; split = refl; late = ltb-false t.stime b low }
    ]) refl e
is-beginning b k (s ∷ ss) [] e = absurd (none-told (k, Some s, None) e)
is-beginning b k (s ∷ ss) (t ∷ ts) e =
    (elim (same_tuple s t) as (λ c. same_tuple s t ≡ c → cond {A = Option Told} c (first_difference b (k + 1) ss ts) (Some (k, Some s, Some t)) ≡ None → IsBeginning b (s ∷ ss) (t ∷ ts)) [
      | true ↦ λ same e. behind (same-is s t same) (is-beginning b (k + 1) ss ts e)
      | false ↦ λ same e. absurd (none-told (k, Some s, Some t) e)
    ]) refl e
  where
    behind : s ≡ t → IsBeginning b ss ts → IsBeginning b (s ∷ ss) (t ∷ ts)
    behind same h = record { rest = h.rest; split = ap (λ u. u ∷ ts) (sym same) ∙ ap (λ us. s ∷ us) h.split; late = h.late }

nth-seam : (us : List Tuple) (t : Tuple) (rest : List Tuple) → get_or (us ++ t ∷ rest) (length us) t ≡ t
nth-seam [] t rest = refl
nth-seam (u ∷ us) t rest = nth-seam us t rest

-- no tuple below b is missing
none-missing : (b : ℕ) (ss ts : List Tuple) → InOrder ts → IsBeginning b ss ts → length (cut ts b) ≤ length ss
none-missing b ss ts o h = by_rest h.rest h.split h.late
  where
    by_rest : (rest : List Tuple) → ts ≡ ss ++ rest → IsLate b rest → length (cut ts b) ≤ length ss
    by_rest [] split late =
        let most = length-filter_le (λ (t : Tuple). nat_lt t.stime b) ts in
        let same = ap (λ us. length us) (split ∙ append-nil ss) in omega (arith, most, same)
    by_rest (t ∷ rest) split late =
        let long = ap (λ us. length us) split in
        let more = length-append ss (t ∷ rest) in
        let within : length ss < length ts = omega (arith, long, more) in
        let there : get_or ts (length ss) t ≡ t = ap (λ us. get_or us (length ss) t) split ∙ nth-seam ss t rest in
        count-end time_of ts (length ss) b t o within (subst (λ (u : Tuple). b ≤ u.stime) (sym there) late)

-- ---- the first difference

-- the two stand so at a place, the tuples before which they share
record IsFirst (b k : ℕ) (ss ts : List Tuple) (d : Told) : Type 0 where
  pub place : ℕ
  pub number : d.0 ≡ k + place
  pub had : d.1 ≡ slice_get ss place
  pub ideal : d.2 ≡ slice_get ts place
  pub other : d.1 ≢ d.2
  pub before : take place ss ≡ take place ts
  pub within : (place < length ss) ⊎ ((place ≡ length ss) × (row : Tuple) × (slice_get ts place ≡ Some row) × (row.stime < b))

is-first : (b k : ℕ) (ss ts : List Tuple) (d : Told) → first_difference b k ss ts ≡ Some d → IsFirst b k ss ts d
is-first b k [] [] d e = absurd (none-told d (sym e))
is-first b k [] (t ∷ ts) d e =
    (elim (nat_lt t.stime b) as (λ c. nat_lt t.stime b ≡ c → cond {A = Option Told} c (Some (k, None, Some t)) None ≡ Some d → IsFirst b k [] (t ∷ ts) d) [
      | true ↦ λ low e.
          subst (λ (x : Told). IsFirst b k [] (t ∷ ts) x) (ap (λ o. unwrap_or o d) e) record {
            place = 0;
            number = omega arith;
            had = refl;
            ideal = refl;
            other = λ same. absurd (cc);
            before = refl;
            within = inr (refl, t, refl, ltb-true t.stime b low);
          }
      | false ↦ λ low e. absurd (none-told d (sym e))
    ]) refl e
is-first b k (s ∷ ss) [] d e =
    subst (λ (x : Told). IsFirst b k (s ∷ ss) [] x) (ap (λ o. unwrap_or o d) e) record {
      place = 0;
      number = omega arith;
      had = refl;
      ideal = refl;
      other = λ same. absurd (cc);
      before = refl;
      within = inl (omega arith);
    }
is-first b k (s ∷ ss) (t ∷ ts) d e =
    (elim (same_tuple s t) as (λ c. same_tuple s t ≡ c → cond {A = Option Told} c (first_difference b (k + 1) ss ts) (Some (k, Some s, Some t)) ≡ Some d → IsFirst b k (s ∷ ss) (t ∷ ts) d) [
      | true ↦ λ same e. behind (same-is s t same) (is-first b (k + 1) ss ts d e)
      | false ↦ λ same e.
          subst (λ (x : Told). IsFirst b k (s ∷ ss) (t ∷ ts) x) (ap (λ o. unwrap_or o d) e) record {
            place = 0;
            number = omega arith;
            had = refl;
            ideal = refl;
            other = λ equal. absurd (let one : s ≡ t = cc in let shared = ap (λ u. same_tuple s u) one in let self = same-self s in cc);
            before = refl;
            within = inl (omega arith);
          }
    ]) refl e
  where
    behind : s ≡ t → IsFirst b (k + 1) ss ts d → IsFirst b k (s ∷ ss) (t ∷ ts) d
    behind same h = record {
      place = suc h.place;
      number = let n = h.number in omega (arith, n);
      had = h.had;
      ideal = h.ideal;
      other = h.other;
      before = ap (λ u. u ∷ take h.place ss) same ∙ ap (λ us. t ∷ us) h.before;
      within = elim h.within [ inl low ↦ inl (omega (arith, low)) | inr w ↦ inr (let end = w.0 in omega (arith, end), w.1, w.2, w.3) ];
    }

-- ---- the verdict

module _ (end : ℕ) (ts : List Tuple) (r : Reader) (o : InOrder ts) (all : cut ts end ≡ ts) where
  -- what is settled up to the end is all there is
  nothing-behind : IsBeginning r.bound r.stable ts → is_settled end r ≡ true → r.stable ≡ ts
  nothing-behind h settled =
      let bound = eqb-true r.bound end (and_parts (r.bound == end) (is_sure r) settled).0 in
      let few = none-missing r.bound r.stable ts o h in
      let whole = ap (λ us. length us) (ap (λ b. cut ts b) bound ∙ all) in
      by_rest h.rest h.split (omega (arith, few, whole))
    where
      by_rest : (rest : List Tuple) → ts ≡ r.stable ++ rest → length ts ≤ length r.stable → r.stable ≡ ts
      by_rest [] split few = sym (split ∙ append-nil r.stable)
      by_rest (t ∷ rest) split few =
          let long = ap (λ us. length us) split in
          let more = length-append r.stable (t ∷ rest) in absurd (omega (arith, long, more, few))

  says-none : first_difference r.bound 0 r.stable ts ≡ None → SaysOf end ts r (verdict_of end r None)
  says-none e =
      let h = is-beginning r.bound 0 r.stable ts e in
      (elim (is_settled end r) as (λ c. is_settled end r ≡ c → SaysOf end ts r (cond c Whole (Prefix (length r.stable) r.bound))) [
        | true ↦ λ settled. (nothing-behind h settled, settled)
        | false ↦ λ settled. (
          refl,
          refl,
          sym (ap (λ us. take (length r.stable) us) h.split ∙ take-append_seam r.stable h.rest),
          none-missing r.bound r.stable ts o h,
          settled,
        )
      ]) refl

  says-some : (d : Told) → first_difference r.bound 0 r.stable ts ≡ Some d → SaysOf end ts r (verdict_of end r (Some d))
  says-some d e =
      let h = is-first r.bound 0 r.stable ts d e in
      let place : h.place ≡ d.0 = let n = h.number in omega (arith, n) in (
        h.had ∙ ap (λ n. slice_get r.stable n) place,
        h.ideal ∙ ap (λ n. slice_get ts n) place,
        h.other,
        subst (λ (n : ℕ). take n r.stable ≡ take n ts) place h.before,
        subst (λ (n : ℕ). (n < length r.stable) ⊎ ((n ≡ length r.stable) × (n < length (cut ts r.bound)))) place
            (elim h.within [ inl low ↦ inl low | inr w ↦ inr (w.0, missing h.place w.1 w.2 w.3) ]),
      )
    where
      missing : (n : ℕ) (row : Tuple) → slice_get ts n ≡ Some row → row.stime < r.bound → n < length (cut ts r.bound)
      missing n row there low =
          let value = get_or_from_slice_get ts n row row there in
          let counted = count-more time_of ts n r.bound row o (slice_get_within ts n row there) (subst (λ (u : Tuple). u.stime < r.bound) (sym value) low) in
          omega (arith, counted)

  pub says : SaysOf end ts r (verdict_on end ts r)
  says =
      (elim (first_difference r.bound 0 r.stable ts) as (λ d. first_difference r.bound 0 r.stable ts ≡ d → SaysOf end ts r (verdict_of end r d)) [
        | None ↦ λ e. says-none e
        | Some d ↦ λ e. says-some d e
      ]) refl
