-- Numbers of so many bytes are read back, and no other bytes are read as them.
use Rattle.std.proofs.Common.{◌≡◌, ℕ, zero, suc, ◌+◌, ◌*◌, ◌/◌, ◌%◌, ◌^◌, ◌<◌, ◌≤◌, nat_lt, Bool, true, false, if◌then◌else◌, Option, Some, None, List, [], ◌∷◌, ◌++◌, All, length, slice_index, take, drop, refl, sym, ap, subst, ◌∙◌, length-append, pow-suc, arith}
use Rattle.std.proofs.lemmas.Bool.{le-ltb, ltb-false}
use Rattle.std.proofs.lemmas.List.{drop_at, take-append-drop}
use Rattle.std.proofs.lemmas.List.Elements.{All-head, All-tail, All-drop}
use Rattle.std.proofs.lemmas.Nat.{div-mul-add, mod-mul-add}
use Rattle.std.proofs.Math.Nat.{div-one}
use Rattle.std.specs.Int.{byte_at}
use Rattle.byteorder.specs.Endian.{big_bytes, big_number}
use Rattle.byteorder.specs.Numbers.{big_from-cons, big_from-lt, big_number-reads_back, length-bytes_high_first}
use Rattle.snapshot_form.specs.Reading.{followed_by, number_at}
use Rattle.snapshot_form.proofs.Steps.{told-value, told-rest, IsFront, in-turn}

pub number-back : (n x : ℕ) (rest : List ℕ) → x < 256 ^ n → number_at n (big_bytes n x ++ rest) ≡ Some (x, rest)
number-back n x rest h =
    let bs = big_bytes n x ++ rest in
    let size : length (big_bytes n x) ≡ n = length-bytes_high_first n x in
    let enough : nat_lt (length bs) n ≡ false = le-ltb (length bs) n (omega (arith, length-append (big_bytes n x) rest, size)) in
    ap (λ (b : Bool). if b then None else Some (big_number n bs, drop n bs)) enough
    ∙ ap (λ (y : ℕ). Some (y, drop n bs)) (big_number-reads_back n x rest h)
    ∙ ap (λ (ys : List ℕ). Some (x, ys)) (drop_at (big_bytes n x) rest n size)

-- ---- the bytes of a number that was read

each-low : (bs : List ℕ) → All (λ b. b < 256) bs → (k : ℕ) → slice_index bs k < 256
each-low [] h k = omega arith
each-low (b ∷ bs) h zero = All-head (λ (x : ℕ). x < 256) b bs h
each-low (b ∷ bs) h (suc k) = each-low bs (All-tail (λ (x : ℕ). x < 256) b bs h) k

byte-is : (k n : ℕ) → byte_at k n ≡ n / 256 ^ k % 256
byte-is zero n = ap (λ (m : ℕ). m % 256) (sym (div-one n))
byte-is (suc k) n = refl

regroup : (high p b low : ℕ) → high * (p * 256) + (b * p + low) ≡ (high * 256 + b) * p + low
regroup high p b low = grind arith

-- the lowest bytes of a number are those of its low part, whatever stands above
low-bytes : (w high : ℕ) (bs : List ℕ) → w ≤ length bs → All (λ b. b < 256) bs → big_bytes w (high * 256 ^ w + big_number w bs) ≡ take w bs
low-bytes zero high bs h all = refl
low-bytes (suc w) high [] h all = absurd (omega arith)
low-bytes (suc w) high (b ∷ bs) h all =
    let below = All-tail (λ (x : ℕ). x < 256) b bs all in
    let low = big_number w bs in
    let whole = high * 256 ^ suc w + big_number (suc w) (b ∷ bs) in
    let fits : low < 256 ^ w = big_from-lt 0 w bs (each-low bs below) in
    let number : big_number (suc w) (b ∷ bs) ≡ b * 256 ^ w + low = ap (λ (x : ℕ). b * 256 ^ w + x) (big_from-cons 0 w b bs) in
    let split : whole ≡ (high * 256 + b) * 256 ^ w + low =
    ap (λ (x : ℕ). high * x + big_number (suc w) (b ∷ bs)) (pow-suc 256 w) ∙ ap (λ (x : ℕ). high * (256 ^ w * 256) + x) number ∙ regroup high (256 ^ w) b low in
    let here : byte_at w whole ≡ b = byte-is w whole ∙ ap (λ (x : ℕ). x / 256 ^ w % 256) split
    ∙ ap (λ (x : ℕ). x % 256) (div-mul-add (high * 256 + b) (256 ^ w) low fits) ∙ mod-mul-add high 256 b (All-head (λ (x : ℕ). x < 256) b bs all) in
    let behind : big_bytes w whole ≡ take w bs = ap (big_bytes w) split ∙ low-bytes w (high * 256 + b) bs (omega arith) below in
    ap (λ (x : ℕ). x ∷ big_bytes w whole) here ∙ ap (λ (xs : List ℕ). b ∷ xs) behind

bytes-again : (w : ℕ) (bs : List ℕ) → w ≤ length bs → All (λ b. b < 256) bs → big_bytes w (big_number w bs) ≡ take w bs
bytes-again w bs h all =
    let same : big_number w bs ≡ 0 * 256 ^ w + big_number w bs = omega arith in
    ap (big_bytes w) same ∙ low-bytes w 0 bs h all

-- bytes that are read as a number begin with its bytes, and it fits them
pub record IsNumber (n x : ℕ) (bs rest : List ℕ) : Type 0 where
  pub front : IsFront (big_bytes n x) bs rest
  pub fits : x < 256 ^ n

pub number-own : (n x : ℕ) (bs rest : List ℕ) → All (λ b. b < 256) bs → number_at n bs ≡ Some (x, rest) → IsNumber n x bs rest
number-own n x bs rest all h =
    (elim (nat_lt (length bs) n) as (λ (b : Bool). nat_lt (length bs) n ≡ b
    → ◌≡◌ {A = Option (ℕ × List ℕ)} (if b then None else Some (big_number n bs, drop n bs)) (Some (x, rest)) → IsNumber n x bs rest) [
      | true ↦ λ e told. absurd cc
      | false ↦ λ e told.
          let value : big_number n bs ≡ x = told-value (big_number n bs) x (drop n bs) rest told in
          let behind : drop n bs ≡ rest = told-rest (big_number n bs) x (drop n bs) rest told in
          let bytes : take n bs ≡ big_bytes n x = sym (bytes-again n bs (ltb-false (length bs) n e) all) ∙ ap (big_bytes n) value in
          record {
            front = record {
              are = sym (take-append-drop n bs) ∙ ap (λ (xs : List ℕ). xs ++ drop n bs) bytes ∙ ap (λ (xs : List ℕ). big_bytes n x ++ xs) behind;
              low = subst (All (λ (b : ℕ). b < 256)) behind (All-drop (λ (b : ℕ). b < 256) n bs all);
            };
            fits = subst (λ (y : ℕ). y < 256 ^ n) value (big_from-lt 0 n bs (each-low bs all));
          }
    ]) refl h

-- whatever follows of a number that was read first, and of what was read behind it
pub number-in-turn : {B G : Type 0} (n : ℕ) (next : ℕ → List ℕ → Option (B × List ℕ)) (y : B) (bs rest : List ℕ) → All (λ b. b < 256) bs
    → followed_by (number_at n bs) next ≡ Some (y, rest) → ((x : ℕ) (more : List ℕ) → IsNumber n x bs more → next x more ≡ Some (y, rest) → G) → G
number-in-turn n next y bs rest low h goal = in-turn (number_at n) next y bs rest h (λ x more is told. goal x more (number-own n x bs more low is) told)
