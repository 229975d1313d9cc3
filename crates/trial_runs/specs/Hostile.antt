-- Runs that a crash and a restart cut into, and journals that are not live.
use Rattle.std.specs.Prelude.{◌≡◌, ℕ, Bool, true, false, not, ◌&&◌, List, [], ◌∷◌, ◌++◌, map, length, take, drop, reverse, refl}
use Rattle.std.specs.List.{list_all, list_any}
use Rattle.dpc_lists.specs.Lists.{range_with_len, is_nil}
use Rattle.dpc_model.specs.declared.tuples.Item.{Item}
use Rattle.dpc_model.specs.declared.tuples.Item.TheVariants.{Stable, Tentative, Passed, Boundary, Undo, RecDone}
use Rattle.dpc_model.specs.declared.messages.Event.{Event}
use Rattle.dpc_model.specs.declared.messages.Event.TheVariants.{Phase, Crash, Restart, Deliver}
use Rattle.node_model.specs.Clients.{ClientState, reader_of}
use Rattle.world_model.specs.Worlds.{World, Envelope, run}
use Rattle.world_model.specs.Safe.{packet_done}
use Rattle.world_model.specs.Orderly.{items_carried}
use Rattle.world_model.specs.Schedules.{lockstep_journal, is_live, is_live_so_far, may}
use Rattle.trial_runs.specs.Opened.{all_opened}
use Rattle.trial_runs.specs.BothAsk.{script as both_ask}

-- the one-thread journal with a crash of the first replica behind its first k events
abbrev pub crashed_at : ℕ → List Event
crashed_at k = take k (lockstep_journal both_ask) ++ Crash 2 ∷ drop k (lockstep_journal both_ask)

-- and with a restart right behind the crash
abbrev pub restarted_at : ℕ → List Event
restarted_at k = take k (lockstep_journal both_ask) ++ Crash 2 ∷ Restart 2 2 ∷ drop k (lockstep_journal both_ask)

-- every envelope again, in the other order
abbrev pub all_again : ℕ → List Event
all_again n = map Deliver (reverse (range_with_len 0 n))

-- the journal with its first envelopes again, at two moments
abbrev pub repeated : List Event
repeated = take 90 (lockstep_journal both_ask) ++ all_again 60 ++ Restart 2 7 ∷ drop 90 (lockstep_journal both_ask) ++ all_again 100

-- ---- that these runs are safe is the law of every run; here, that there is something to be safe

abbrev is_tentative : Item → Bool
is_tentative (Tentative t) = true
is_tentative (Stable k t) = false
is_tentative (Passed b) = false
is_tentative (Boundary b m) = false
is_tentative (Undo n) = false
is_tentative RecDone = false

-- tentative tuples were sent, and every client holds stable tuples
abbrev is_eventful : World → Bool
is_eventful w =
    list_any (λ (e : Envelope). list_any is_tentative (items_carried e.packet)) w.envelopes && list_all (λ (x : ClientState). not (is_nil (reader_of x).stable)) w.clients

abbrev has_sent_done : World → Bool
has_sent_done w = list_any (λ (e : Envelope). packet_done e.packet) w.envelopes

pub crashed : list_all (λ k. is_eventful (run both_ask.plan (crashed_at k))) (40 ∷ 70 ∷ 110 ∷ []) ≡ true
unfolding all_opened
crashed = refl

pub restarted : list_all (λ k. let w = run both_ask.plan (restarted_at k) in is_eventful w && has_sent_done w) (40 ∷ 90 ∷ 130 ∷ []) ≡ true
unfolding all_opened
restarted = refl

pub again : (let w = run both_ask.plan repeated in is_eventful w && has_sent_done w) ≡ true
unfolding all_opened
again = refl

-- ---- journals that are not live

pub journal_length : length (lockstep_journal both_ask) ≡ 300
unfolding all_opened
journal_length = refl

pub so_far : is_live_so_far both_ask (take 299 (lockstep_journal both_ask)) ≡ true
unfolding all_opened
so_far = refl

pub not_whole : is_live both_ask (take 299 (lockstep_journal both_ask)) ≡ false
unfolding all_opened
not_whole = refl

pub no_phase : is_live_so_far both_ask (drop 1 (lockstep_journal both_ask)) ≡ false
unfolding all_opened
no_phase = refl

pub nothing_sent : may both_ask (Phase 1 ∷ []) (Deliver 9) ≡ false
unfolding all_opened
nothing_sent = refl
