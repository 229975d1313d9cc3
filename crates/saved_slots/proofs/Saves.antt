-- The steps of a save, one behind the other.
use Rattle.std.proofs.Common.{◌≡◌, inl, inr, ⊎_elim, ℕ, ◌+◌, ◌^◌, ◌<◌, ◌≤◌, Bool, true, false, eqb, List, [], ◌∷◌, length, Option, sym, ◌∙◌, ap, subst, arith, length-append}
use Rattle.disk_model.specs.Disk.{Image, History, Holds, LeavesOnly}
use Rattle.saved_slots.specs.Slots.{start_of, is_open, given, number_of, next_of, read_of, head_of, written_slot}
use Rattle.saved_slots.specs.Standing.{StandsAlike, HasPoint, IsOldOrNew}
use Rattle.disk_model.specs.Synced.{IsSynced, DiffersWithin}
use Rattle.saved_slots.specs.Saving.{MayBeShut, IsReady}
use Rattle.disk_model.proofs.Moments.{started}
use Rattle.disk_model.proofs.Runs.{only_seen}
use Rattle.saved_slots.proofs.Parts.{IsWritten, is_written, length-head}
use Rattle.saved_slots.proofs.Steps.{stands_itself, first_step, second_step, third_step, third_opened}

pub differs_if_held : (old new : Image) (at : ℕ) (bytes : List ℕ) → Holds old at bytes new → DiffersWithin at (length bytes) old new
differs_if_held old new at bytes holds = record { outside = holds.outside }

pub stands_on : (room : ℕ) (a b c : Image) → StandsAlike room a b → StandsAlike room b c → StandsAlike room a c
stands_on room a b c front back = record { slot = back.slot ∙ front.slot; number = back.number ∙ front.number; reading = back.reading ∙ front.reading }

pub length-slot : (n : ℕ) (payload : List ℕ) → length (written_slot n payload) ≡ 16 + length payload
length-slot n payload = omega (arith, length-append (head_of n (length payload)) payload, length-head n (length payload))

module _ (room : ℕ) (second : Bool) (at n : ℕ) (payload : List ℕ) (h : History) (base : Image) (is : at ≡ start_of room second) (ready : IsReady room second n payload h base) where
  pub old_or_new : (image : Image) → StandsAlike room base image → IsOldOrNew room (read_of room base) payload image
  old_or_new image stands = inl stands.reading

  pub stands_shut : (image : Image) → MayBeShut at base image → StandsAlike room base image
  stands_shut image (inl same) = stands_itself room ready.roomy base image same
  stands_shut image (inr gate) =
      first_step room ready.roomy base image second ready.next (ap base (sym is) ∙ gate.0) (subst (λ (a : ℕ). DiffersWithin a 1 base image) is gate.1)

  module _ (shut_base : Image) (stands : StandsAlike room base shut_base) (shut : is_open shut_base at ≡ false) where
    next_is : next_of (given room shut_base) ≡ second
    next_is = ap next_of stands.slot ∙ ready.next

    pub stands_filled : (image : Image) → DiffersWithin (at + 16) (16 + length payload) shut_base image → StandsAlike room base image
    stands_filled image differs =
        let here = subst (λ (a : ℕ). DiffersWithin (a + 16) (16 + length payload) shut_base image) is differs in
        let closed = subst (λ (a : ℕ). is_open shut_base a ≡ false) is shut in
        stands_on room base shut_base image stands
        (second_step room ready.roomy shut_base image second (16 + length payload) next_is closed (omega (arith, ready.fits)) here)

    module _ (filled : Image) (holds : Holds shut_base (at + 16) (written_slot n payload) filled) where
      pub filled_stands : StandsAlike room base filled
      filled_stands =
          stands_filled filled (subst (λ (count : ℕ). DiffersWithin (at + 16) count shut_base filled) (length-slot n payload) (differs_if_held shut_base filled (at + 16) (written_slot n payload) holds))

      next_still : next_of (given room filled) ≡ second
      next_still = ap next_of filled_stands.slot ∙ ready.next

      counted : n ≡ number_of room filled (given room filled) + 1
      counted = ready.number ∙ ap (λ (k : ℕ). k + 1) (sym filled_stands.number)

      written : IsWritten filled (start_of room second) (number_of room filled (given room filled) + 1) payload
      written =
          let bytes_are = is_written filled at n payload ready.small (omega (arith, ready.fits, ready.short)) (record { each = holds.inside }) in
          subst (λ (a : ℕ). IsWritten filled a (number_of room filled (given room filled) + 1) payload) is
          (subst (λ (k : ℕ). IsWritten filled at k payload) counted bytes_are)

      pub last_leaves : (image : Image) → DiffersWithin at 1 filled image → IsOldOrNew room (read_of room base) payload image
      last_leaves image differs =
          let here = subst (λ (a : ℕ). DiffersWithin a 1 filled image) is differs in
          ⊎_elim (λ alike. inl (alike.reading ∙ filled_stands.reading)) (λ has. inr has.reading)
          (third_step room ready.roomy filled image second payload next_still written ready.fits here)

      pub last_has : (image : Image) → Holds filled at (1 ∷ []) image → HasPoint room image second n payload
      last_has image opened =
          let differs = subst (λ (a : ℕ). DiffersWithin a 1 filled image) is (differs_if_held filled image at (1 ∷ []) opened) in
          let place : at + 0 ≡ start_of room second = omega (arith, is) in
          let gate : image (start_of room second) ≡ 1 = ap image (sym place) ∙ opened.inside 0 (omega arith) in
          let test : is_open image (start_of room second) ≡ true = ap (λ (g : ℕ). eqb g 1) gate in
          subst (λ (k : ℕ). HasPoint room image second k payload) (sym counted)
          (third_opened room ready.roomy filled image second payload next_still written ready.fits differs test)

-- before the first call to the disk
pub nothing_yet : (room : ℕ) (payload : List ℕ) (h : History) (base : Image) → IsSynced h base → LeavesOnly h h (IsOldOrNew room (read_of room base) payload)
nothing_yet room payload h base synced =
    started h (IsOldOrNew room (read_of room base) payload) (λ image may. let same : image ≡ base = λ j i. only_seen h base synced image may i j in inl (ap (read_of room) same))

-- what the next save is to put
pub ready_from : (room : ℕ) (second : Bool) (payload : List ℕ) (h : History) (base : Image) (last : Option Bool) (number next : ℕ) → 64 ≤ room → room < 2 ^ 64 → IsSynced h base → given room base ≡ last
    → number_of room base last ≡ number → second ≡ next_of last → next ≡ number + 1 → length payload + 32 ≤ room → number + 1 < 2 ^ 64 → IsReady room second next payload h base
ready_from room second payload h base last number next roomy short synced slot is_number is_second is_next fits small =
    let counted : number_of room base (given room base) ≡ number = ap (number_of room base) slot ∙ is_number in
    record {
      roomy = roomy;
      synced = synced;
      next = ap next_of slot ∙ sym is_second;
      number = is_next ∙ ap (λ (n : ℕ). n + 1) (sym counted);
      fits = fits;
      small = omega (arith, is_next);
      short = short;
    }
