-- Two clients that names tell are clients of one stream.
use Rattle.std.proofs.Common.{◌≡◌, ℕ, zero, suc, ◌<◌, ◌==◌, not, Bool, true, false, cond, List, [], ◌∷◌, length, map, Option, Some, None, slice_get, refl, sym, ap, subst, ◌∙◌, arith}
use Rattle.std.proofs.lemmas.Bool.{and_parts}
use Rattle.dpc_lists.specs.Lists.{nth}
use Rattle.dpc_model.proofs.Alike.{same_stream-eq}
use Rattle.dpc_model.specs.declared.plans.ClientSpec.{ClientSpec}
use Rattle.dpc_model.specs.declared.plans.Plan.{Plan}
use Rattle.dpc_model.specs.declared.plans.StreamRef.TheVariants.{Source}
use Rattle.law_pairs.specs.Pairs.{AreReaders}
use Rattle.pair_commands.specs.Named.{client_named, are_alike, are_readers, pair_named}

-- what a client reads, where it is there
stream-of : (clients : List ClientSpec) (c : ℕ) (s : ClientSpec) → slice_get clients c ≡ Some s →
    (c < length clients) × (nth (Source 0) (nth [] (map (λ (client : ClientSpec). client.input ∷ []) clients) c) 0 ≡ s.input)
stream-of [] c s e = cc
stream-of (d ∷ clients) zero s e = let same : d ≡ s = cc in (omega arith, ap (λ (z : ClientSpec). z.input) same)
stream-of (d ∷ clients) (suc c) s e = let rest = stream-of clients c s e in let low = rest.0 in (omega (arith, low), rest.1)

alike-read : (plan : Plan) (x y : ℕ) (c d : Option ClientSpec) → slice_get plan.clients x ≡ c → slice_get plan.clients y ≡ d → are_alike c d ≡ true → AreReaders plan x y
alike-read plan x y None d e f h = absurd (cc)
alike-read plan x y (Some c) None e f h = absurd (cc)
alike-read plan x y (Some c) (Some d) e f h =
    let one = stream-of plan.clients x c e in
    let other = stream-of plan.clients y d f in
    record { first = one.0; second = other.0; same = one.1 ∙ same_stream-eq c.input d.input h ∙ sym other.1 }

readers-read : (plan : Plan) (x y : ℕ) → are_readers plan x y ≡ true → AreReaders plan x y
readers-read plan x y h =
    alike-read plan x y (slice_get plan.clients x) (slice_get plan.clients y) refl refl (and_parts (not (x == y)) (are_alike (slice_get plan.clients x) (slice_get plan.clients y)) h).1

abbrev found : Bool → ℕ → ℕ → Option (ℕ × ℕ)
found b i j = cond {A = Option (ℕ × ℕ)} b (Some (i, j)) None

-- the names of a pair are those of two clients of one stream
pub named-readers : (plan : Plan) (first second : List ℕ) (x y : ℕ) → pair_named plan first second ≡ Some (x, y) → AreReaders plan x y
named-readers plan first second x y e = by-first (client_named plan first) e
  where
    by-both : (i j : ℕ) (b : Bool) → are_readers plan i j ≡ b → found b i j ≡ Some (x, y) → AreReaders plan x y
    by-both i j true is e =
        let same : ◌≡◌ {A = ℕ × ℕ} (i, j) (x, y) = cc in
        subst (λ (p : ℕ × ℕ). AreReaders plan p.0 p.1) same (readers-read plan i j is)
    by-both i j false is e = absurd (cc)

    by-second : (i : ℕ) (o : Option ℕ) → elim o as (λ _. Option (ℕ × ℕ)) [ None ↦ None | Some j ↦ found (are_readers plan i j) i j ] ≡ Some (x, y) → AreReaders plan x y
    by-second i None e = absurd (cc)
    by-second i (Some j) e = by-both i j (are_readers plan i j) refl e

    by-first : (o : Option ℕ) → elim o as (λ _. Option (ℕ × ℕ)) [ None ↦ None | Some i ↦ elim (client_named plan second) as (λ _. Option (ℕ × ℕ)) [ None ↦ None | Some j ↦ found (are_readers plan i j) i j ] ] ≡ Some (x, y) → AreReaders plan x y
    by-first None e = absurd (cc)
    by-first (Some i) e = by-second i (client_named plan second) e
