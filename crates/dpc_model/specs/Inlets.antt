-- The receiving end of one stream: which batches are taken.
use Rattle.std.specs.Prelude.{ℕ, ◌+◌, Bool, true, false, not, ◌&&◌, ◌||◌, ◌==◌, nat_lt, if◌then◌else◌, List, length, Option, Some, None}
use Rattle.dpc_model.specs.Reading.{Reader, empty_reader, is_sure, fold_items, Folded}
use Rattle.dpc_model.specs.declared.tuples.Item.{Item}
use Rattle.dpc_model.specs.declared.batches.Taken.{Taken}
use Rattle.dpc_model.specs.declared.batches.Taken.TheVariants.{Used, Old, Broken}
use Rattle.dpc_model.specs.declared.messages.Sess.{Sess}
use Rattle.dpc_model.specs.declared.messages.Subscribe.{Subscribe}

-- the same session
abbrev pub same_sess : Sess → Sess → Bool
same_sess s u = s.inc == u.inc && s.number == u.number

-- a session is newer than another: by incarnation, then by number
abbrev pub is_newer : Sess → Sess → Bool
is_newer s u = nat_lt u.inc s.inc || (s.inc == u.inc && nat_lt u.number s.number)

abbrev pub sess_of : ℕ → ℕ → Sess
sess_of i n = record { inc = i; number = n }

-- what is held, the session, the index of the next batch, whether the session was answered, and whether a batch is missing
pub record InletState : Type 0 where
  pub held : Reader
  pub sess : Sess
  pub next : ℕ
  pub answered : Bool
  pub broken : Bool

-- at the opening, with the session (incarnation, 1) open and answered
abbrev pub new_inlet : ℕ → InletState
new_inlet i = record { held = empty_reader; sess = sess_of i 1; next = 0; answered = true; broken = false }

-- an inlet of no port
abbrev pub no_inlet : InletState
no_inlet = new_inlet 0

-- what holds these tuples, all up to b, and has no session yet
abbrev pub restarted_inlet : Reader → Sess → InletState
restarted_inlet r s = record { held = r; sess = s; next = 0; answered = false; broken = true }

-- what a batch leaves, and the answer to it
pub record AfterBatch : Type 0 where
  pub after : InletState
  pub answer : Taken

-- a batch of an earlier session or index
abbrev pub is_old : InletState → Sess → ℕ → Bool
is_old inlet s index = not (same_sess s inlet.sess) || nat_lt index inlet.next

abbrev pub after_missing_batch : InletState → AfterBatch
after_missing_batch inlet = record { after = record inlet { broken = true }; answer = Broken }

-- a batch that is next, after its items were read
abbrev pub after_next_batch : InletState → Option Folded → AfterBatch
after_next_batch inlet None = after_missing_batch inlet
after_next_batch inlet (Some f) =
    record { after = record inlet { held = f.after; next = inlet.next + 1; answered = inlet.answered || inlet.next == 0 }; answer = Used f.taken }

-- taking a batch
unfoldable pub take_batch : InletState → Sess → ℕ → List Item → AfterBatch
take_batch inlet s index items =
    if is_old inlet s index then record { after = inlet; answer = Old }
    else (if inlet.broken || nat_lt inlet.next index then after_missing_batch inlet else after_next_batch inlet (fold_items inlet.held items))

-- whether what the sender tells of the session shows that a batch is missing
abbrev pub shows_loss : InletState → Option (Sess × ℕ) → Bool
shows_loss inlet None = inlet.answered
shows_loss inlet (Some l) = inlet.answered && (not (same_sess l.0 inlet.sess) || nat_lt inlet.next l.1)

abbrev pub after_tally : InletState → Option (Sess × ℕ) → InletState
after_tally inlet tally = record inlet { broken = inlet.broken || shows_loss inlet tally }

-- the next session is asked for
abbrev pub with_next_session : InletState → InletState
with_next_session inlet = record inlet { sess = sess_of inlet.sess.inc (inlet.sess.number + 1); next = 0; answered = false; broken = false }

-- what a reader asks for
abbrev pub asked_by : InletState → Subscribe
asked_by inlet = record { sess = inlet.sess; n = length inlet.held.stable; tentative = not (is_sure inlet.held) }
