-- Things of one sort, one behind another: where each is read back, so are they all, and no other bytes are read as them.
use Rattle.std.proofs.Common.{◌≡◌, ℕ, zero, suc, ◌^◌, ◌<◌, ◌≤◌, List, [], ◌∷◌, ◌++◌, length, Option, Some, refl, ap, sym, ◌∙◌, append_assoc, length-append, arith, All}
use Rattle.std.specs.Prelude.{flat_map}
use Rattle.std.proofs.lemmas.List.Elements.{All-head, All-tail}
use Rattle.byteorder.specs.Endian.{big_bytes}
use Rattle.snapshot_form.specs.Reading.{followed_by, many_at, counted_at}
use Rattle.snapshot_form.proofs.Steps.{told-value, IsFront, HaveOwnBytes, front-none, front-more, front-is, front-told, in-turn, bytes-in-turn}
use Rattle.snapshot_form.proofs.Numbers.{number-back, number-in-turn}

module _ {T : Type 0} (at : List ℕ → Option (T × List ℕ)) (bytes_of : T → List ℕ) where
  -- its bytes, with any behind them, are read as it and the rest
  abbrev pub IsReadBack : T → Type 0
  IsReadBack t = (rest : List ℕ) → at (bytes_of t ++ rest) ≡ Some (t, rest)

  pub many-back : (ts : List T) (rest : List ℕ) → All IsReadBack ts → many_at at (length ts) (flat_map bytes_of ts ++ rest) ≡ Some (ts, rest)
  many-back [] rest each = refl
  many-back (t ∷ ts) rest each =
      let behind = flat_map bytes_of ts ++ rest in
      let first : at (bytes_of t ++ behind) ≡ Some (t, behind) = All-head IsReadBack t ts each behind in
      let later = many-back ts rest (All-tail IsReadBack t ts each) in
      ap (many_at at (suc (length ts))) (append_assoc (bytes_of t) (flat_map bytes_of ts) rest) ∙ (rw (first, later) refl)

  pub counted-back : (ts : List T) (rest : List ℕ) → length ts < 2 ^ 32 → All IsReadBack ts
      → counted_at at (big_bytes 4 (length ts) ++ (flat_map bytes_of ts ++ rest)) ≡ Some (ts, rest)
  counted-back ts rest few each =
      let count = number-back 4 (length ts) (flat_map bytes_of ts ++ rest) few in
      rw count (many-back ts rest each)

  -- ---- no other bytes

  pub record AreMany (n : ℕ) (ts : List T) (bs rest : List ℕ) : Type 0 where
    pub many : length ts ≡ n
    pub front : IsFront (flat_map bytes_of ts) bs rest

  -- what is made of a thing and those behind it
  abbrev with_first : T → List T → List ℕ → Option (List T × List ℕ)
  with_first t ts rest = Some (t ∷ ts, rest)

  abbrev many_behind : ℕ → T → List ℕ → Option (List T × List ℕ)
  many_behind n t more = followed_by (many_at at n more) (with_first t)

  pub many-own : HaveOwnBytes at bytes_of → (n : ℕ) (ts : List T) (bs rest : List ℕ) → All (λ b. b < 256) bs → many_at at n bs ≡ Some (ts, rest) → AreMany n ts bs rest
  many-own own zero ts bs rest low h =
      record { many = ap length (sym (told-value [] ts bs rest h)); front = front-told (flat_map bytes_of) [] ts bs bs rest h (front-none bs low) }
  many-own own (suc n) ts bs rest low h =
      bytes-in-turn at bytes_of (many_behind n) own ts bs rest low h (λ t more first behind.
      in-turn (many_at at n) (with_first t) ts more rest behind (λ us end are told.
      let later = many-own own n us more end first.low are in
      record {
        many = ap length (sym (told-value (t ∷ us) ts end rest told)) ∙ ap suc later.many;
        front = front-told (flat_map bytes_of) (t ∷ us) ts bs end rest told (front-more (bytes_of t) (flat_map bytes_of us) bs more end first later.front);
      }))

  pub counted-own : HaveOwnBytes at bytes_of → HaveOwnBytes (counted_at at) (λ (ts : List T). big_bytes 4 (length ts) ++ flat_map bytes_of ts)
  counted-own own ts bs rest low h =
      number-in-turn 4 (many_at at) ts bs rest low h (λ n more count behind.
      let all = many-own own n ts more rest count.front.low behind in
      front-more (big_bytes 4 (length ts)) (flat_map bytes_of ts) bs more rest
      (front-is (big_bytes 4 n) (big_bytes 4 (length ts)) bs more more (ap (big_bytes 4) (sym all.many)) refl count.front) all.front)

  -- there are no more things than bytes, where each has some
  pub no-more-than-bytes : ((t : T) → 1 ≤ length (bytes_of t)) → (ts : List T) → length ts ≤ length (flat_map bytes_of ts)
  no-more-than-bytes some [] = omega arith
  no-more-than-bytes some (t ∷ ts) = omega (arith, some t, no-more-than-bytes some ts, length-append (bytes_of t) (flat_map bytes_of ts))
