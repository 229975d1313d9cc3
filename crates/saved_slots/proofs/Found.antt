-- What the headers of both slots tell of an image.
use Rattle.std.proofs.Common.{◌≡◌, ℕ, ◌+◌, ◌-◌, ◌≤◌, ◌<◌, Bool, true, false, cond, eqb, List, [], ◌∷◌, Option, Some, None, inl, refl, sym, ◌∙◌, ap, arith}
use Rattle.std.proofs.lemmas.Bool.{le-leb, lt-leb}
use Rattle.disk_model.specs.Disk.{Image, part, Holds}
use Rattle.saved_slots.specs.Slots.{start_of, number_at, length_at, payload_at, chosen, given, read_slot, read_given, read_of, Holding, Unreadable, slot_number, IsBroken}
use Rattle.saved_slots.specs.Looking.{IsHeaderOf}
use Rattle.saved_slots.specs.declared.reads.Header.{Header}

module _ (room : ℕ) (image : Image) where
  pub given_is : (first second : Header) → IsHeaderOf image 0 first → IsHeaderOf image room second → chosen first.opened second.opened first.number second.number ≡ given room image
  unfolding given
  given_is first second one two = λ i. chosen (one.gate i) (two.gate i) (one.number i) (two.number i)

  pub none_is_given : (first second : Header) (choice : Option Bool) → IsHeaderOf image 0 first → IsHeaderOf image room second → choice ≡ chosen first.opened second.opened first.number second.number
      → choice ≡ None → given room image ≡ None
  none_is_given first second choice one two is none = sym (given_is first second one two) ∙ sym is ∙ none

  pub one_is_given : (first second : Header) (choice : Option Bool) (which : Bool) → IsHeaderOf image 0 first → IsHeaderOf image room second → choice ≡ chosen first.opened second.opened first.number second.number
      → choice ≡ Some which → given room image ≡ Some which
  one_is_given first second choice which one two is some = sym (given_is first second one two) ∙ sym is ∙ some

  pub header_is : (which : Bool) (first second header : Header) → IsHeaderOf image 0 first → IsHeaderOf image room second → header ≡ cond which second first → IsHeaderOf image (start_of room which) header
  header_is true first second header one two is = rw is two
  header_is false first second header one two is = rw is one

  pub holds_payload : (which : Bool) (header : Header) (payload : List ℕ) → 64 ≤ room → given room image ≡ Some which → IsHeaderOf image (start_of room which) header → header.length ≤ room - 32
      → payload ≡ part image (start_of room which + 32) header.length → Holding payload ≡ read_of room image
  unfolding read_slot
  holds_payload which header payload roomy is head fits bytes =
      let at = start_of room which in
      let small : length_at image at + 32 ≤ room = omega (arith, head.count) in
      let read : payload_at image at ≡ payload = ap (part image (at + 32)) (sym head.count) ∙ sym bytes in
      let slot : read_slot room image which ≡ Holding payload =
      ap (λ (b : Bool). cond b (Holding (payload_at image at)) (Unreadable which)) (le-leb _ _ small) ∙ ap (λ (p : List ℕ). Holding p) read in
      sym (ap (read_given room image) is ∙ slot)

  pub is_broken : (which : Bool) (header : Header) → 64 ≤ room → given room image ≡ Some which → IsHeaderOf image (start_of room which) header → room - 32 < header.length
      → IsBroken room image (slot_number which)
  unfolding read_slot
  is_broken which header roomy is head long =
      let at = start_of room which in
      let large : room < length_at image at + 32 = omega (arith, head.count) in
      let slot : read_slot room image which ≡ Unreadable which = ap (λ (b : Bool). cond b (Holding (payload_at image at)) (Unreadable which)) (lt-leb _ _ large) in
      (which, refl, ap (read_given room image) is ∙ slot)

-- both gates are written 0
pub none_given : (room : ℕ) (base first second : Image) → 64 ≤ room → Holds base 0 (0 ∷ []) first → Holds first room (0 ∷ []) second → given room second ≡ None
unfolding given
none_given room base first second roomy one two =
    let front : second 0 ≡ 0 = two.outside 0 (inl (omega arith)) ∙ one.inside 0 (omega arith) in
    let place : room + 0 ≡ room = omega arith in
    let back : second room ≡ 0 = ap second (sym place) ∙ two.inside 0 (omega arith) in
    λ i. chosen (eqb (front i) 1) (eqb (back i) 1) (number_at second 0) (number_at second room)
