-- How many workers, and others beside them, the words may ask for.
use Rattle.std.proofs.Common.{◌≡◌, ℕ, ◌≤◌, nat_le, Bool, true, false, ◌&&◌, List, [], ◌∷◌, Option, None, Some, refl, subst, arith}
use Rattle.std.specs.Prelude.{if◌then◌else◌, bytes_eq, codes, option_map}
use Rattle.std.proofs.lemmas.Grind.{common_steps}
use Rattle.script_rules.specs.Spelling.{is_numeral, number}
use Rattle.input_parts.specs.declared.notation.Notation.{Notation}
use Rattle.input_parts.specs.declared.notation.Notation.TheVariants as notation
use Rattle.live_commands.specs.Endings.{IsFew}
use Rattle.live_commands.specs.declared.beside.Beside.{Beside}
use Rattle.live_commands.specs.declared.beside.Beside.TheVariants.{Nobody, Millers, Readers}
use Rattle.borealis_top.specs.declared.command.LiveCommand.{LiveCommand}
use Rattle.borealis_top.specs.Commands.{threads_of, readers_of, live_by, pool_by, watch_by, live_of}

-- 1 to so many
abbrev IsUpto : ℕ → ℕ → Type 0
IsUpto most n = (1 ≤ n) × (n ≤ most)

in-range : (most : ℕ) (b : Bool) (k n : ℕ) → (b ≡ true → IsUpto most k) → (if b then Some k else None) ≡ Some n → IsUpto most n
in-range most true k n h e = let same : k ≡ n = cc in subst (λ (m : ℕ). IsUpto most m) same (h refl)
in-range most false k n h e = cc

tests-hold : (most : ℕ) (a : Bool) (k : ℕ) → (a && nat_le 1 k && nat_le k most) ≡ true → IsUpto most k
tests-hold most true k e = grind (arith, common_steps)
tests-hold most false k e = cc

threads-range : (w : List ℕ) (n : ℕ) → threads_of w ≡ Some n → IsUpto 16 n
threads-range w n e = in-range 16 (is_numeral w && nat_le 1 (number w) && nat_le (number w) 16) (number w) n (λ h. tests-hold 16 (is_numeral w) (number w) h) e

readers-range : (w : List ℕ) (n : ℕ) → readers_of w ≡ Some n → IsUpto 8 n
readers-range w n e = in-range 8 (is_numeral w && nat_le 1 (number w) && nat_le (number w) 8) (number w) n (λ h. tests-hold 8 (is_numeral w) (number w) h) e

-- no more workers, and others, than there may be
pub record AreFew (live : LiveCommand) : Type 0 where
  pub workers : (1 ≤ live.workers) × (live.workers ≤ 16)
  pub beside : IsFew live.beside

by-range : (told : Notation) (beside : Beside) (o : Option ℕ) (live : LiveCommand) → IsFew beside → ((n : ℕ) → o ≡ Some n → IsUpto 16 n) →
    option_map (λ n. record { workers = n; beside = beside; notation = told }) o ≡ Some live → AreFew live
by-range told beside None live few h e = cc
by-range told beside (Some n) live few h e =
    let same : record { workers = n; beside = beside; notation = told } ≡ live = cc in
    subst AreFew same (record { workers = h n refl; beside = few })

two-range : (told : Notation) (beside : Beside) (w v : List ℕ) (live : LiveCommand) → IsFew beside → live_by told beside w v ≡ Some live → AreFew live
two-range told beside w v live few e = by-word (bytes_eq w (codes "live")) e
  where
    by-word : (b : Bool) → (if b then option_map (λ n. record { workers = n; beside = beside; notation = told }) (threads_of v) else None) ≡ Some live → AreFew live
    by-word true e = by-range told beside (threads_of v) live few (threads-range v) e
    by-word false e = cc

-- so many others of a kind
beside-range : (most : ℕ) (kind : ℕ → Beside) (told : Notation) (w v : List ℕ) (o : Option ℕ) (live : LiveCommand) → ((n : ℕ) → IsUpto most n → IsFew (kind n)) →
    ((n : ℕ) → o ≡ Some n → IsUpto most n) → (elim o [ Some n ↦ live_by told (kind n) w v | None ↦ None ]) ≡ Some live → AreFew live
beside-range most kind told w v None live few h e = cc
beside-range most kind told w v (Some n) live few h e = two-range told (kind n) w v live (few n (h n refl)) e

pool-range : (told : Notation) (w v u t : List ℕ) (live : LiveCommand) → pool_by told w v u t ≡ Some live → AreFew live
pool-range told w v u t live e = by-word (bytes_eq u (codes "pool")) e
  where
    by-word : (b : Bool) → (if b then (elim (threads_of t) [ Some m ↦ live_by told (Millers m) w v | None ↦ None ]) else None) ≡ Some live → AreFew live
    by-word true e = beside-range 16 Millers told w v (threads_of t) live (λ n h. h) (threads-range t) e
    by-word false e = cc

watch-range : (w v u t : List ℕ) (live : LiveCommand) → watch_by w v u t ≡ Some live → AreFew live
watch-range w v u t live e = by-word (bytes_eq u (codes "watch")) e
  where
    by-word : (b : Bool) → (if b then (elim (readers_of t) [ Some r ↦ live_by notation.Lines (Readers r) w v | None ↦ None ]) else pool_by notation.Lines w v u t) ≡ Some live
        → AreFew live
    by-word true e = beside-range 8 Readers notation.Lines w v (readers_of t) live (λ n h. h) (readers-range t) e
    by-word false e = pool-range notation.Lines w v u t live e

pub live-range : (words : List (List ℕ)) (live : LiveCommand) → live_of words ≡ Some live → AreFew live
live-range [] live e = cc
live-range (w ∷ []) live e = cc
live-range (w ∷ v ∷ []) live e = two-range notation.Lines Nobody w v live tt e
live-range (w ∷ v ∷ u ∷ []) live e = by-word (bytes_eq u (codes "frames")) e
  where
    by-word : (b : Bool) → (if b then live_by notation.Frames Nobody w v else None) ≡ Some live → AreFew live
    by-word true e = two-range notation.Frames Nobody w v live tt e
    by-word false e = cc
live-range (w ∷ v ∷ u ∷ t ∷ []) live e = watch-range w v u t live e
live-range (w ∷ v ∷ u ∷ t ∷ s ∷ []) live e = by-word (bytes_eq s (codes "frames")) e
  where
    by-word : (b : Bool) → (if b then pool_by notation.Frames w v u t else None) ≡ Some live → AreFew live
    by-word true e = pool-range notation.Frames w v u t live e
    by-word false e = cc
live-range (w ∷ v ∷ u ∷ t ∷ s ∷ r ∷ words) live e = cc
