use Rattle.std.proofs.Common.{◌≡◌, ◌+◌, ℕ, sym, ◌∙◌, ap, subst}
use Rattle.disk_model.specs.Disk.{Image, part}
use Rattle.saved_slots.specs.Slots.{read_given, slot_number, IsBroken}
use Rattle.saved_slots.specs.Looking.{IsHeaderOf}
use Rattle.disk_model.proofs.Looks.{one_look, looks_on, sync_looks}
use Rattle.saved_slots.proofs.Found.{none_is_given, one_is_given, header_is, holds_payload, is_broken}
use Rattle.saved_slots.proofs.look.look.Goals as goal

pub returns-in_err-sync-clause-any_moment : goal.returns-in_err-sync-clause-any_moment
returns-in_err-sync-clause-any_moment g c honest =
    (one_look _ _ (c.in_err-sync.ensures.crash honest)).run

pub returns-in_err-first-clause-any_moment : goal.returns-in_err-first-clause-any_moment
returns-in_err-first-clause-any_moment g c honest =
    let again = c.sync.ensures.honest honest in
    sync_looks _ _ _ _ (g.met.D.Disk.stays c.args.disk.now honest) (c.in_ok-sync.ensures.synced honest) (c.read_header.ensures.looks again)

pub returns-in_err-second-clause-any_moment : goal.returns-in_err-second-clause-any_moment
returns-in_err-second-clause-any_moment g c honest =
    let again = c.sync.ensures.honest honest in
    let twice = c.read_header.ensures.honest again in
    let both = looks_on _ _ _ (c.read_header.ensures.looks again) (c.read_header-2.ensures.looks twice) in
    sync_looks _ _ _ _ (g.met.D.Disk.stays c.args.disk.now honest) (c.in_ok-sync.ensures.synced honest) both

pub returns-in_default-clause-any_moment : goal.returns-in_default-clause-any_moment
returns-in_default-clause-any_moment g c honest =
    let again = c.sync.ensures.honest honest in
    let twice = c.read_header.ensures.honest again in
    let both = looks_on _ _ _ (c.read_header.ensures.looks again) (c.read_header-2.ensures.looks twice) in
    sync_looks _ _ _ _ (g.met.D.Disk.stays c.args.disk.now honest) (c.in_ok-sync.ensures.synced honest) both

pub returns-then-header-room-clause-any_moment : goal.returns-then-header-room-clause-any_moment
returns-then-header-room-clause-any_moment g c honest =
    let again = c.sync.ensures.honest honest in
    let twice = c.read_header.ensures.honest again in
    let both = looks_on _ _ _ (c.read_header.ensures.looks again) (c.read_header-2.ensures.looks twice) in
    sync_looks _ _ _ _ (g.met.D.Disk.stays c.args.disk.now honest) (c.in_ok-sync.ensures.synced honest) both

pub returns-in_err-payload-clause-any_moment : goal.returns-in_err-payload-clause-any_moment
returns-in_err-payload-clause-any_moment g c honest =
    let again = c.sync.ensures.honest honest in
    let twice = c.read_header.ensures.honest again in
    let both = looks_on _ _ _ (c.read_header.ensures.looks again) (c.read_header-2.ensures.looks twice) in
    let third = c.read_header-2.ensures.honest twice in
    let all = looks_on _ _ _ both (c.read_payload.ensures.looks third) in
    sync_looks _ _ _ _ (g.met.D.Disk.stays c.args.disk.now honest) (c.in_ok-sync.ensures.synced honest) all

pub returns-clause-any_moment : goal.returns-clause-any_moment
returns-clause-any_moment g c honest =
    let again = c.sync.ensures.honest honest in
    let twice = c.read_header.ensures.honest again in
    let both = looks_on _ _ _ (c.read_header.ensures.looks again) (c.read_header-2.ensures.looks twice) in
    let third = c.read_header-2.ensures.honest twice in
    let all = looks_on _ _ _ both (c.read_payload.ensures.looks third) in
    sync_looks _ _ _ _ (g.met.D.Disk.stays c.args.disk.now honest) (c.in_ok-sync.ensures.synced honest) all

pub returns-in_default-clause-slot : goal.returns-in_default-clause-slot
returns-in_default-clause-slot g c honest =
    let again = c.sync.ensures.honest honest in
    let twice = c.read_header.ensures.honest again in
    let room = c.args.room in
    let image = g.D.Disk.seen c.args.disk.now in
    let same = c.in_ok-sync.ensures.seen honest in
    let still = c.read_header.ensures.seen again ∙ same in
    let one = subst (λ (s : Image). IsHeaderOf s 0 c.in_ok-first.first) same (c.in_ok-first.ensures.header again) in
    let two = subst (λ (s : Image). IsHeaderOf s room c.in_ok-second.second) still (c.in_ok-second.ensures.header twice) in
    sym (none_is_given room image _ _ c.choose.result one two c.choose.ensures c.in_default.is)

pub returns-in_default-clause-reading : goal.returns-in_default-clause-reading
returns-in_default-clause-reading g c honest =
    let again = c.sync.ensures.honest honest in
    let twice = c.read_header.ensures.honest again in
    let room = c.args.room in
    let image = g.D.Disk.seen c.args.disk.now in
    let same = c.in_ok-sync.ensures.seen honest in
    let still = c.read_header.ensures.seen again ∙ same in
    let one = subst (λ (s : Image). IsHeaderOf s 0 c.in_ok-first.first) same (c.in_ok-first.ensures.header again) in
    let two = subst (λ (s : Image). IsHeaderOf s room c.in_ok-second.second) still (c.in_ok-second.ensures.header twice) in
    sym (ap (read_given room image) (none_is_given room image _ _ c.choose.result one two c.choose.ensures c.in_default.is))

pub returns-clause-slot : goal.returns-clause-slot
returns-clause-slot g c honest =
    let again = c.sync.ensures.honest honest in
    let twice = c.read_header.ensures.honest again in
    let room = c.args.room in
    let image = g.D.Disk.seen c.args.disk.now in
    let same = c.in_ok-sync.ensures.seen honest in
    let still = c.read_header.ensures.seen again ∙ same in
    let one = subst (λ (s : Image). IsHeaderOf s 0 c.in_ok-first.first) same (c.in_ok-first.ensures.header again) in
    let two = subst (λ (s : Image). IsHeaderOf s room c.in_ok-second.second) still (c.in_ok-second.ensures.header twice) in
    sym (one_is_given room image _ _ c.choose.result c.in-Some.which one two c.choose.ensures c.in-Some.is)

pub returns-clause-reading : goal.returns-clause-reading
returns-clause-reading g c honest =
    let again = c.sync.ensures.honest honest in
    let twice = c.read_header.ensures.honest again in
    let room = c.args.room in
    let image = g.D.Disk.seen c.args.disk.now in
    let same = c.in_ok-sync.ensures.seen honest in
    let still = c.read_header.ensures.seen again ∙ same in
    let one = subst (λ (s : Image). IsHeaderOf s 0 c.in_ok-first.first) same (c.in_ok-first.ensures.header again) in
    let two = subst (λ (s : Image). IsHeaderOf s room c.in_ok-second.second) still (c.in_ok-second.ensures.header twice) in
    let which = c.in-Some.which in
    let is = one_is_given room image _ _ c.choose.result which one two c.choose.ensures c.in-Some.is in
    let head = header_is room image which _ _ _ one two c.header_of-header.ensures in
    let third = c.read_header-2.ensures.honest twice in
    let last = c.read_header-2.ensures.seen twice ∙ still in
    let count = c.header_of-header.result.length in
    let there = ap (λ (at : ℕ). part image (at + 32) count) c.start.ensures in
    let bytes = c.in_ok-payload.ensures.payload third ∙ ap (λ (s : Image). part s (c.start.result + 32) count) last ∙ there in
    holds_payload room image which c.header_of-header.result _ c.requires.roomy is head c.if-header-room.false bytes

pub returns-then-header-room-clause-broken : goal.returns-then-header-room-clause-broken
returns-then-header-room-clause-broken g c honest slot told =
    let again = c.sync.ensures.honest honest in
    let twice = c.read_header.ensures.honest again in
    let room = c.args.room in
    let image = g.D.Disk.seen c.args.disk.now in
    let same = c.in_ok-sync.ensures.seen honest in
    let still = c.read_header.ensures.seen again ∙ same in
    let one = subst (λ (s : Image). IsHeaderOf s 0 c.in_ok-first.first) same (c.in_ok-first.ensures.header again) in
    let two = subst (λ (s : Image). IsHeaderOf s room c.in_ok-second.second) still (c.in_ok-second.ensures.header twice) in
    let which = c.in-Some.which in
    let is = one_is_given room image _ _ c.choose.result which one two c.choose.ensures c.in-Some.is in
    let head = header_is room image which _ _ _ one two c.header_of-header.ensures in
    let broken = is_broken room image which c.header_of-header.result c.requires.roomy is head c.if-header-room.true in
    let number : slot ≡ slot_number which = cc (told, c.slot_number.ensures) in
    subst (λ (n : ℕ). IsBroken room image n) (sym number) broken
