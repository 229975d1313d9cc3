use Rattle.std.proofs.Common.{◌≡◌, ◌+◌, List, ℕ, length, sym, subst, ap, ◌∙◌, arith}
use Rattle.disk_model.specs.Disk.{Image, Holds}
use Rattle.disk_model.proofs.Parts.{holds_joined}
use Rattle.disk_model.proofs.Runs.{writes_begin, wrote_within, not_synced, synced_within}
use Rattle.saved_slots.specs.Slots.{head_of, written_slot}
use Rattle.saved_slots.proofs.Parts.{length-head}
use Rattle.saved_slots.proofs.writes.fill_slot.Goals as goal

pub returns-in_err-put_head-clause-any_moment : goal.returns-in_err-put_head-clause-any_moment
returns-in_err-put_head-clause-any_moment g c honest synced =
    let bytes = g.P.Payload.bytes c.args.payload.now in
    let at = c.args.at in
    let n = 16 + length bytes in
    let base = g.D.Disk.seen c.args.disk.now in
    let begun = g.D.Disk.history c.args.disk.now in
    (writes_begin at n base begun synced).run

pub returns-in_err-write-clause-any_moment : goal.returns-in_err-write-clause-any_moment
returns-in_err-write-clause-any_moment g c honest synced =
    let bytes = g.P.Payload.bytes c.args.payload.now in
    let at = c.args.at in
    let n = 16 + length bytes in
    let base = g.D.Disk.seen c.args.disk.now in
    let begun = g.D.Disk.history c.args.disk.now in
    let head : length c.deref.result.now ≡ 16 = ap length (c.deref.ensures.value ∙ c.in_ok-put_head.ensures) ∙ length-head c.args.number c.count_bytes.result in
    let mid = g.D.Disk.history c.write.new.self in
    let one = wrote_within at n base begun begun mid (writes_begin at n base begun synced) at (length c.deref.result.now) (omega arith) (omega (arith, head)) (c.write.ensures.crash honest) in
    one.run

pub returns-in_err-write_pieces-clause-any_moment : goal.returns-in_err-write_pieces-clause-any_moment
returns-in_err-write_pieces-clause-any_moment g c honest synced =
    let bytes = g.P.Payload.bytes c.args.payload.now in
    let at = c.args.at in
    let n = 16 + length bytes in
    let base = g.D.Disk.seen c.args.disk.now in
    let begun = g.D.Disk.history c.args.disk.now in
    let head : length c.deref.result.now ≡ 16 = ap length (c.deref.ensures.value ∙ c.in_ok-put_head.ensures) ∙ length-head c.args.number c.count_bytes.result in
    let mid = g.D.Disk.history c.write.new.self in
    let one = wrote_within at n base begun begun mid (writes_begin at n base begun synced) at (length c.deref.result.now) (omega arith) (omega (arith, head)) (c.write.ensures.crash honest) in
    let still = c.write.ensures.honest honest in
    let both = c.write_pieces.ensures.writes still begun base at n (omega arith) (omega arith) one in
    both.run

pub returns-in_err-sync-clause-any_moment : goal.returns-in_err-sync-clause-any_moment
returns-in_err-sync-clause-any_moment g c honest synced =
    let bytes = g.P.Payload.bytes c.args.payload.now in
    let at = c.args.at in
    let n = 16 + length bytes in
    let base = g.D.Disk.seen c.args.disk.now in
    let begun = g.D.Disk.history c.args.disk.now in
    let head : length c.deref.result.now ≡ 16 = ap length (c.deref.ensures.value ∙ c.in_ok-put_head.ensures) ∙ length-head c.args.number c.count_bytes.result in
    let mid = g.D.Disk.history c.write.new.self in
    let one = wrote_within at n base begun begun mid (writes_begin at n base begun synced) at (length c.deref.result.now) (omega arith) (omega (arith, head)) (c.write.ensures.crash honest) in
    let still = c.write.ensures.honest honest in
    let both = c.write_pieces.ensures.writes still begun base at n (omega arith) (omega arith) one in
    let again = c.write_pieces.ensures.honest still in
    let last = g.D.Disk.history c.write_pieces.new.disk in
    not_synced at n base begun last (g.D.Disk.history c.sync.new.self) both (c.in_err-sync.ensures.crash again)

pub returns-clause-any_moment : goal.returns-clause-any_moment
returns-clause-any_moment g c honest synced =
    let bytes = g.P.Payload.bytes c.args.payload.now in
    let at = c.args.at in
    let n = 16 + length bytes in
    let base = g.D.Disk.seen c.args.disk.now in
    let begun = g.D.Disk.history c.args.disk.now in
    let head : length c.deref.result.now ≡ 16 = ap length (c.deref.ensures.value ∙ c.in_ok-put_head.ensures) ∙ length-head c.args.number c.count_bytes.result in
    let mid = g.D.Disk.history c.write.new.self in
    let one = wrote_within at n base begun begun mid (writes_begin at n base begun synced) at (length c.deref.result.now) (omega arith) (omega (arith, head)) (c.write.ensures.crash honest) in
    let still = c.write.ensures.honest honest in
    let both = c.write_pieces.ensures.writes still begun base at n (omega arith) (omega arith) one in
    let again = c.write_pieces.ensures.honest still in
    let last = g.D.Disk.history c.write_pieces.new.disk in
    synced_within at n base begun last (g.D.Disk.history c.sync.new.self) both (g.D.Disk.seen c.write_pieces.new.disk) (g.met.D.Disk.stays c.write_pieces.new.disk again) (c.in_ok-sync.ensures.synced again)

pub returns-clause-written : goal.returns-clause-written
returns-clause-written g c honest =
    let bytes = g.P.Payload.bytes c.args.payload.now in
    let at = c.args.at in
    let base = g.D.Disk.seen c.args.disk.now in
    let mid = g.D.Disk.seen c.write.new.self in
    let last = g.D.Disk.seen c.write_pieces.new.disk in
    let still = c.write.ensures.honest honest in
    let head = head_of c.args.number (length bytes) in
    let is : c.deref.result.now ≡ head = c.deref.ensures.value ∙ c.in_ok-put_head.ensures ∙ ap (head_of c.args.number) c.count_bytes.ensures.many in
    let one = subst (λ (xs : List ℕ). Holds base at xs mid) is (c.in_ok-write.ensures.written honest) in
    let both = holds_joined base mid last at (at + 16) head bytes (omega (arith, length-head c.args.number (length bytes))) one (c.in_ok-write_pieces.ensures.written still) in
    subst (λ (image : Image). Holds base at (written_slot c.args.number bytes) image) (sym (c.in_ok-sync.ensures.seen (c.write_pieces.ensures.honest still))) both
