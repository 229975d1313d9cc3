-- One frame more.
use Rattle.std.proofs.Common.{◌≡◌, ℕ, zero, suc, ◌+◌, ◌≤◌, List, [], ◌∷◌, ◌++◌, length, drop, Option, Some, None, refl, ap, sym, ◌∙◌, arith}
use Rattle.std.specs.Prelude.{Result, Ok, Err}
use Rattle.std.proofs.lemmas.List.{length-drop}
use Rattle.stream_codec.specs.Frames.{decoded}
use Rattle.stream_codec.specs.declared.faults.DecodeFault.{DecodeFault}
use Rattle.stream_codec.specs.declared.faults.DecodeFault.TheVariants.{Short}
use Rattle.stream_codec.specs.declared.frames.Frame.{Frame}
use Rattle.stream_codec.proofs.Reprinted.{read-whole}
use Rattle.stream_codec.proofs.Steps.{kind-told, length-told, rest-told, body-told, not-ok}
use Rattle.frame_lists.specs.Lists.{part_of, part_at, parts_from, parts_of, BeginWithFrame}

-- a frame that is read has five bytes or more
pub read-some : (bs : List ℕ) (f : Frame) (n : ℕ) → decoded bs ≡ Ok (f, n) → 5 ≤ n
unfolding decoded
read-some [] f n h = not-ok Short (f, n) h
read-some (b ∷ bs) f n h =
    let kind = kind-told b bs (f, n) h in
    let long = (length-told kind.kind bs (f, n) kind.rest).1 in
    let whole = rest-told kind.kind _ _ (f, n) long in
    let told = body-told kind.kind _ _ (f, n) whole.rest in
    let is : 5 + _ ≡ n = ap (λ (p : Frame × ℕ). p.1) told.same in
    omega (arith, is)

module _ {T : Type 0} (part : Frame → Option T) where
  -- what it holds is that of a frame that was read
  pub record IsRead (bytes : List ℕ) (x : T) (n : ℕ) : Type 0 where
    pub frame : Frame
    pub read : decoded bytes ≡ Ok (frame, n)
    pub holds : part frame ≡ Some x

  some-same : (p q : T × ℕ) → Some p ≡ Some q → p ≡ q
  some-same p q h = cc

  of-frame : (bytes : List ℕ) (r : Result (Frame × ℕ) DecodeFault) (x : T) (n : ℕ) → decoded bytes ≡ r → part_of part r ≡ Some (x, n) → IsRead bytes x n
  of-frame bytes (Err fault) x n e h = absurd cc
  of-frame bytes (Ok (f, m)) x n e h = by-part (part f) refl h
    where
      by-part : (o : Option T) → part f ≡ o → (elim o as (λ _. Option (T × ℕ)) [ None ↦ None | Some t ↦ Some (t, m) ]) ≡ Some (x, n) → IsRead bytes x n
      by-part None is h = absurd cc
      by-part (Some t) is h =
          let both : (t, m) ≡ (x, n) = some-same (t, m) (x, n) h in
          let value : t ≡ x = ap (λ (p : T × ℕ). p.0) both in
          let count : m ≡ n = ap (λ (p : T × ℕ). p.1) both in
          record { frame = f; read = e ∙ ap (λ k. Ok (f, k)) count; holds = is ∙ ap Some value }

  pub is-read : (bytes : List ℕ) (x : T) (n : ℕ) → part_at part bytes ≡ Some (x, n) → IsRead bytes x n
  is-read bytes x n h = of-frame bytes (decoded bytes) x n refl h

  -- its bytes are there, and some
  pub within : (bytes : List ℕ) (x : T) (n : ℕ) → part_at part bytes ≡ Some (x, n) → n ≤ length bytes
  within bytes x n h = let r = is-read bytes x n h in read-whole bytes r.frame n r.read

  pub some-bytes : (bytes : List ℕ) (x : T) (n : ℕ) → part_at part bytes ≡ Some (x, n) → 5 ≤ n
  some-bytes bytes x n h = let r = is-read bytes x n h in read-some bytes r.frame n r.read

  -- a step
  pub one-more : (steps : ℕ) (before : List T) (bytes : List ℕ) (x : T) (n : ℕ) → 1 ≤ length bytes → part_at part bytes ≡ Some (x, n) →
      parts_from part (suc steps) before bytes ≡ parts_from part steps (before ++ x ∷ []) (drop n bytes)
  one-more steps before [] x n some h = absurd (omega (arith, some))
  one-more steps before (b ∷ bytes) x n some h =
      ap (λ (o : Option (T × ℕ)). elim o as (λ _. Result (List T) ℕ) [ None ↦ Err (length before) | Some y ↦ parts_from part steps (before ++ y.0 ∷ []) (drop y.1 (b ∷ bytes)) ]) h

  pub no-more : (steps : ℕ) (before : List T) (bytes : List ℕ) → 1 ≤ length bytes → part_at part bytes ≡ None → parts_from part steps before bytes ≡ Err (length before)
  no-more steps before [] some h = absurd (omega (arith, some))
  no-more zero before (b ∷ bytes) some h = refl
  no-more (suc steps) before (b ∷ bytes) some h =
      ap (λ (o : Option (T × ℕ)). elim o as (λ _. Result (List T) ℕ) [ None ↦ Err (length before) | Some y ↦ parts_from part steps (before ++ y.0 ∷ []) (drop y.1 (b ∷ bytes)) ]) h

  -- ---- a reading under way: what is left is read to the same as the whole, and does not begin with a frame unless the whole does
  pub record IsUnderWay (bytes : List ℕ) (parts : List T) (rest : List ℕ) : Type 0 where
    pub steps : ℕ
    pub enough : length rest ≤ steps
    pub same : parts_from part steps parts rest ≡ parts_of part bytes
    pub begun : BeginWithFrame rest → BeginWithFrame bytes

  pub at-start : (bytes : List ℕ) → IsUnderWay bytes [] bytes
  unfolding parts_of
  at-start bytes = record { steps = length bytes; enough = omega arith; same = refl; begun = λ h. h }

  pub goes-on : (bytes : List ℕ) (parts : List T) (rest left : List ℕ) (x : T) (n : ℕ) → IsUnderWay bytes parts rest → 1 ≤ length rest → part_at part rest ≡ Some (x, n) →
      left ≡ drop n rest → IsUnderWay bytes (parts ++ x ∷ []) left
  goes-on bytes parts rest left x n way some h e = by-steps way.steps way.enough way.same
    where
      by-steps : (steps : ℕ) → length rest ≤ steps → parts_from part steps parts rest ≡ parts_of part bytes → IsUnderWay bytes (parts ++ x ∷ []) left
      by-steps zero enough same = absurd (omega (arith, some, enough))
      by-steps (suc steps) enough same =
          let long = some-bytes rest x n h in
          let first = is-read rest x n h in
          record {
            steps = steps;
            enough = rw e (omega (arith, length-drop n rest, long, enough, some));
            same = ap (parts_from part steps (parts ++ x ∷ [])) e ∙ sym (one-more steps parts rest x n some h) ∙ same;
            begun = λ _. way.begun ((first.frame, n), first.read);
          }

  pub ends : (bytes : List ℕ) (parts : List T) (rest : List ℕ) → IsUnderWay bytes parts rest → rest ≡ [] → parts_of part bytes ≡ Ok parts
  ends bytes parts rest way e = sym way.same ∙ ap (parts_from part way.steps parts) e ∙ at-end way.steps
    where
      at-end : (steps : ℕ) → parts_from part steps parts [] ≡ Ok parts
      at-end zero = refl
      at-end (suc steps) = refl

  pub stops : (bytes : List ℕ) (parts : List T) (rest : List ℕ) → IsUnderWay bytes parts rest → 1 ≤ length rest → part_at part rest ≡ None → parts_of part bytes ≡ Err (length parts)
  stops bytes parts rest way some h = sym way.same ∙ no-more way.steps parts rest some h
