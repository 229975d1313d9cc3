-- The place of an actor among the senders, and a list of what is known at first.
use Rattle.std.proofs.Common.{◌≡◌, ℕ, true, refl, Some, Bool}
use Rattle.dpc_lists.specs.Lists.{nth}
use Rattle.dpc_model.specs.Ports.{choice_at, must_reopen}
use Rattle.upstream.specs.Upstreams.{UpstreamValue, port_by, asked_actor}

-- the actor that is asked where a session must be opened
pub asked : (broken answered : Bool) (v : UpstreamValue) (actor : ℕ) → must_reopen (port_by broken answered v.known) ≡ true → actor ≡ nth 0 v.senders (choice_at (port_by broken answered v.known)) →
    Some actor ≡ asked_actor broken answered v
asked broken answered v actor reopens is = rw (reopens, is) refl
