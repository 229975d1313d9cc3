-- One reading behind another, and the bytes that were read.
use Rattle.std.proofs.Common.{◌≡◌, ℕ, ◌<◌, List, [], ◌++◌, Option, Some, None, refl, ap, sym, subst, ◌∙◌, append_assoc, All}
use Rattle.snapshot_form.specs.Reading.{followed_by}

-- ---- what was read

-- a thing that is read, and the rest, are as they are told
module _ {T : Type 0} (x y : T) (more rest : List ℕ) where
  both-told : ◌≡◌ {A = Option (T × List ℕ)} (Some (x, more)) (Some (y, rest)) → ◌≡◌ {A = T × List ℕ} (x, more) (y, rest)
  both-told h = cc

  pub told-value : ◌≡◌ {A = Option (T × List ℕ)} (Some (x, more)) (Some (y, rest)) → x ≡ y
  told-value h = ap (λ (p : T × List ℕ). p.0) (both-told h)

  pub told-rest : ◌≡◌ {A = Option (T × List ℕ)} (Some (x, more)) (Some (y, rest)) → more ≡ rest
  told-rest h = ap (λ (p : T × List ℕ). p.1) (both-told h)

-- ---- its bytes

-- the bytes begin with these, and the rest are bytes
pub record IsFront (front bs rest : List ℕ) : Type 0 where
  pub are : bs ≡ front ++ rest
  pub low : All (λ b. b < 256) rest

-- bytes that are read as a thing begin with its bytes
abbrev pub HaveOwnBytes : {T : Type 0} → (List ℕ → Option (T × List ℕ)) → (T → List ℕ) → Type 0
HaveOwnBytes {T = T} at bytes_of = (t : T) (bs rest : List ℕ) → All (λ b. b < 256) bs → at bs ≡ Some (t, rest) → IsFront (bytes_of t) bs rest

pub front-none : (bs : List ℕ) → All (λ b. b < 256) bs → IsFront [] bs bs
front-none bs low = record { are = refl; low = low }

-- one front behind another
pub front-more : (a b bs more rest : List ℕ) → IsFront a bs more → IsFront b more rest → IsFront (a ++ b) bs rest
front-more a b bs more rest first second = record {
  are = first.are ∙ ap (λ (xs : List ℕ). a ++ xs) second.are ∙ sym (append_assoc a b rest);
  low = second.low;
}

pub front-is : (a b bs more rest : List ℕ) → a ≡ b → more ≡ rest → IsFront a bs more → IsFront b bs rest
front-is a b bs more rest same behind front = record {
  are = front.are ∙ ap (λ (xs : List ℕ). xs ++ more) same ∙ ap (λ (xs : List ℕ). b ++ xs) behind;
  low = subst (All (λ (x : ℕ). x < 256)) behind front.low;
}

-- what was made of the parts that were read is what is told
pub front-told : {T : Type 0} (bytes_of : T → List ℕ) (made t : T) (bs more rest : List ℕ) → ◌≡◌ {A = Option (T × List ℕ)} (Some (made, more)) (Some (t, rest))
    → IsFront (bytes_of made) bs more → IsFront (bytes_of t) bs rest
front-told bytes_of made t bs more rest told front =
    front-is (bytes_of made) (bytes_of t) bs more rest (ap bytes_of (told-value made t more rest told)) (told-rest made t more rest told) front

-- ---- one behind another

module _ {A B G : Type 0} where
  -- whatever follows of a thing that was read first, and of what was read behind it
  pub in-turn : (at : List ℕ → Option (A × List ℕ)) (next : A → List ℕ → Option (B × List ℕ)) (y : B) (bs rest : List ℕ) → followed_by (at bs) next ≡ Some (y, rest)
      → ((x : A) (more : List ℕ) → at bs ≡ Some (x, more) → next x more ≡ Some (y, rest) → G) → G
  in-turn at next y bs rest h goal = by-first (at bs) refl h goal
    where
      by-first : (o : Option (A × List ℕ)) → at bs ≡ o → followed_by o next ≡ Some (y, rest) → ((x : A) (more : List ℕ) → at bs ≡ Some (x, more) → next x more ≡ Some (y, rest) → G) → G
      by-first None is h goal = absurd cc
      by-first (Some (x, more)) is h goal = goal x more is h

  -- the same of its bytes
  pub bytes-in-turn : (at : List ℕ → Option (A × List ℕ)) (bytes_of : A → List ℕ) (next : A → List ℕ → Option (B × List ℕ)) → HaveOwnBytes at bytes_of
      → (y : B) (bs rest : List ℕ) → All (λ b. b < 256) bs → followed_by (at bs) next ≡ Some (y, rest)
      → ((x : A) (more : List ℕ) → IsFront (bytes_of x) bs more → next x more ≡ Some (y, rest) → G) → G
  bytes-in-turn at bytes_of next own y bs rest low h goal = in-turn at next y bs rest h (λ x more is told. goal x more (own x bs more low is) told)
