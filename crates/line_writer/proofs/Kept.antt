-- A text still stands in front after what was put behind it, also where memory ends.
use Rattle.std.proofs.Common.{◌≡◌, ℕ, List, ◌++◌, drop, length, Result, Ok, Err, OnErr, ap, ◌∙◌, append_assoc}
use Rattle.std.specs.Io.{StartsWith}
use Rattle.std.proofs.KnownBytes.{starts_with_rest}
use Rattle.std.proofs.Math.Seq.{take-length, take-append_seam}

-- nothing was put
pub kept_same : (old new : List ℕ) → new ≡ old → StartsWith new old
kept_same old new e = rw e (take-length old)

-- something was put
pub kept_behind : (old w new : List ℕ) → new ≡ old ++ w → StartsWith new old
kept_behind old w new e = rw e (take-append_seam old w)

-- something was put, and what followed kept it
pub kept_then : (old w mid new : List ℕ) → mid ≡ old ++ w → StartsWith new mid → StartsWith new old
kept_then old w mid new e h =
    let rest = drop (length mid) new in
    kept_behind old (w ++ rest) new (starts_with_rest new mid h ∙ ap (λ (t : List ℕ). t ++ rest) e ∙ append_assoc old w rest)

-- so in the error that a last call ends with
pub kept_last : {A E : Type 0} (r : Result A E) (old w mid new : List ℕ) → mid ≡ old ++ w → OnErr r (StartsWith new mid) → OnErr r (StartsWith new old)
kept_last (Ok x) old w mid new e h = tt
kept_last (Err x) old w mid new e h = kept_then old w mid new e h
