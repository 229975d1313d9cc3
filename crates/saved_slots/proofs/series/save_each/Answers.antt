use Rattle.std.proofs.Common.{rules, ◌≡◌, ℕ, ◌+◌, ◌<◌, slice_index_or, ◌++◌, List, [], ◌∷◌, map, take, drop, length, Some, Result, Ok, Err, OnErr, refl, sym, ◌∙◌, ap, subst, arith}
use Rattle.std.proofs.lemmas.List.{take_more, drop_more, take-append-drop, map-append}
use Rattle.disk_model.specs.Disk.{LeavesOnly}
use Rattle.saved_slots.specs.Slots.{read_of, Holding}
use Rattle.saved_slots.specs.Standing.{IsOldOrNew}
use Rattle.saved_slots.specs.Series.{last_kept, first_too_long, GivesWay, IsCutShort}
use Rattle.saved_slots.specs.Resting.{kept_in, IsResting}
use Rattle.saved_slots.specs.declared.fault.SaveFault.TheVariants.{Full}
use Rattle.saved_slots.proofs.Lengths.{fit_push, long_behind, refuses}
use Rattle.saved_slots.proofs.Ways.{none_yet, way_saved, way_cut, last_push}
use Rattle.saved_slots.proofs.series.save_each.Goals as goal

pub loop-payload-init : goal.loop-payload-init
loop-payload-init g c = record { same = refl; number = omega arith; fits = refl; faults = omega arith; reopens = λ h. h; rests = λ rests. rests; way = λ rests. none_yet c.args.slots.now.room _ _ rests.synced; kept = λ rests. refl }

pub loop-payload-preserved : goal.loop-payload-preserved
loop-payload-preserved g c =
    let i = c.loop-payload.payload-index in
    let inv = c.loop-payload.invariant in
    let room = c.args.slots.now.room in
    let kept = kept_in c.args.slots.now in
    let bytes = g.P.Payload.bytes in
    let payloads = c.args.payloads.now in
    let front = take i payloads in
    let item = c.payload-item.result in
    let longer : take (i + 1) payloads ≡ front ++ item ∷ [] = take_more payloads i item c.loop-payload-test.true ∙ ap (λ (p : _). front ++ p ∷ []) (sym c.payload-item.is) in
    let saved : map bytes (take (i + 1) payloads) ≡ map bytes front ++ bytes item ∷ [] = ap (map bytes) longer ∙ map-append bytes front (item ∷ []) in
    let old = g.D.Disk.history c.args.slots.now.disk in
    let mid = g.D.Disk.history c.loop-payload.slots.disk in
    let new = g.D.Disk.history c.save.new.self.disk in
    let seen = g.D.Disk.seen c.loop-payload.slots.disk in
    let then_seen = g.D.Disk.seen c.save.new.self.disk in
    let same = c.save.ensures.room ∙ inv.same in
    let run : IsResting c.args.slots.now → LeavesOnly mid new (IsOldOrNew room (read_of room seen) (bytes item)) =
    λ rests. subst (λ (n : ℕ). LeavesOnly mid new (IsOldOrNew n (read_of n seen) (bytes item))) inv.same (c.save.ensures.any_moment (inv.rests rests)) in
    let before : IsResting c.args.slots.now → read_of room seen ≡ last_kept kept (map bytes front) = λ rests. subst (λ (n : ℕ). read_of n seen ≡ last_kept kept (map bytes front)) inv.same (inv.kept rests) in
    let reads : IsResting c.args.slots.now → read_of room then_seen ≡ Holding (bytes item) = λ rests. subst (λ (n : ℕ). read_of n then_seen ≡ Holding (bytes item)) same (c.in_ok-save.ensures.kept (inv.rests rests)) in
    record {
      same = same;
      number = omega (arith, c.in_ok-save.ensures.number.0, inv.number);
      fits = ap (first_too_long room) saved ∙ fit_push room (map bytes front) (bytes item) inv.fits (omega (arith, c.in_ok-save.ensures.fit, inv.same));
      faults = omega (arith, inv.faults, c.save.ensures.faults);
      reopens = λ h. absurd (cc (h, c.in_ok-save.ensures.number.1));
      rests = λ rests. c.in_ok-save.ensures.rests (inv.rests rests);
      way = λ rests. subst (λ (ps : List (List ℕ)). GivesWay room kept ps old new) (sym saved)
          (way_saved room kept (map bytes front) (bytes item) old mid new seen then_seen (inv.way rests) (before rests) (run rests) (c.in_ok-save.ensures.rests (inv.rests rests)).synced (reads rests));
      kept = λ rests. c.in_ok-save.ensures.kept (inv.rests rests) ∙ sym (last_push kept (map bytes front) (bytes item)) ∙ ap (last_kept kept) (sym saved);
    }

in_parts : {A : Type 0} (bytes : A → List ℕ) (payloads : List A) (i : ℕ) (item : A) → i < length payloads → item ≡ slice_index_or payloads i item
    → map bytes payloads ≡ map bytes (take i payloads) ++ bytes item ∷ map bytes (drop (i + 1) payloads)
in_parts bytes payloads i item test is =
    let front = take i payloads in
    let rest = drop (i + 1) payloads in
    let whole : payloads ≡ front ++ item ∷ rest = sym (take-append-drop i payloads) ∙ ap (λ (r : List _). front ++ r) (drop_more payloads i item test ∙ ap (λ (p : _). p ∷ rest) (sym is)) in
    ap (map bytes) whole ∙ map-append bytes front (item ∷ rest)

on_err : {T E : Type 0} (r : Result T E) (P : Type 0) → P → OnErr r P
on_err (Ok done) P p = tt
on_err (Err fault) P p = p

pub returns-in_err-save-clause-cut_short : goal.returns-in_err-save-clause-cut_short
returns-in_err-save-clause-cut_short g c rests =
    let i = c.loop-payload.payload-index in
    let inv = c.loop-payload.invariant in
    let room = c.args.slots.now.room in
    let kept = kept_in c.args.slots.now in
    let bytes = g.P.Payload.bytes in
    let payloads = c.args.payloads.now in
    let front = take i payloads in
    let item = c.payload-item.result in
    let rest = drop (i + 1) payloads in
    let mapped = in_parts bytes payloads i item c.loop-payload-test.true c.payload-item.is in
    let old = g.D.Disk.history c.args.slots.now.disk in
    let mid = g.D.Disk.history c.loop-payload.slots.disk in
    let new = g.D.Disk.history c.save.new.self.disk in
    let seen = g.D.Disk.seen c.loop-payload.slots.disk in
    let run = subst (λ (n : ℕ). LeavesOnly mid new (IsOldOrNew n (read_of n seen) (bytes item))) inv.same (c.save.ensures.any_moment (inv.rests rests)) in
    let before = subst (λ (n : ℕ). read_of n seen ≡ last_kept kept (map bytes front)) inv.same (inv.kept rests) in
    on_err c.from_residual.result _
    (subst (λ (ps : List (List ℕ)). IsCutShort room kept ps old new) (sym mapped)
    (way_cut room kept (map bytes front) (bytes item) (map bytes rest) old mid new seen (inv.way rests) before run))

pub returns-in_err-save-clause-full : goal.returns-in_err-save-clause-full
returns-in_err-save-clause-full g c need slot_room told =
    let i = c.loop-payload.payload-index in
    let inv = c.loop-payload.invariant in
    let room = c.args.slots.now.room in
    let bytes = g.P.Payload.bytes in
    let payloads = c.args.payloads.now in
    let front = take i payloads in
    let item = c.payload-item.result in
    let rest = drop (i + 1) payloads in
    let mapped = in_parts bytes payloads i item c.loop-payload-test.true c.payload-item.is in
    let saves : c.save.result ≡ Err (Full need slot_room) = search rules in
    let full = c.save.ensures.full need slot_room saves in
    let again = (c.save.ensures.refused (Full (length (bytes item) + 32) c.loop-payload.slots.room) (refuses c.loop-payload.slots.room c.loop-payload.slots.spent (length (bytes item)) full.0 full.1)).0 in
    let needs : need ≡ length (bytes item) + 32 = cc (saves, again) in
    let has : slot_room ≡ c.loop-payload.slots.room = cc (saves, again) in
    (has ∙ inv.same, ap (first_too_long room) mapped ∙ long_behind room (map bytes front) (bytes item) (map bytes rest) inv.fits (omega (arith, full.1, inv.same)) ∙ ap Some (sym needs))
