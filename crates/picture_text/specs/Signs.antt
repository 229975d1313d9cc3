-- One letter for what an actor did in a phase, or is at its end.
use Rattle.std.specs.Prelude.{ℕ, ◌+◌, ◌/◌, ◌%◌, Bool, ◌&&◌, ◌==◌, nat_lt, min, if◌then◌else◌, List, [], ◌∷◌}
use Rattle.picture_model.specs.declared.columns.ReplicaState.{ReplicaState}
use Rattle.picture_model.specs.declared.columns.ReplicaState.TheVariants.{Stable, UpFailure, Stabilization, Recovering, Down}
use Rattle.picture_model.specs.declared.columns.SourcePoint.{SourcePoint}
use Rattle.picture_model.specs.declared.columns.ClientPoint.{ClientPoint}

-- ---- a phase's number, read downwards

-- a digit; a space in front of the first one
abbrev pub digit_sign : ℕ → ℕ → ℕ
digit_sign unit n = if nat_lt 1 unit && nat_lt n unit then 32 else 48 + ((n / unit) % 10)

abbrev pub number_signs : ℕ → List ℕ
number_signs n = digit_sign 1000 n ∷ digit_sign 100 n ∷ digit_sign 10 n ∷ digit_sign 1 n ∷ []

-- ---- sources

-- r: its boundary rose; e: it sent, without a boundary; -: its boundary is the end of the streams; or a dot
abbrev pub source_sign : ℕ → SourcePoint → SourcePoint → ℕ
source_sign end before now =
    if nat_lt before.bound now.bound then 114 else (if nat_lt before.sent now.sent then 101 else (if now.bound == end then 45 else 46))

-- ---- links

-- how many are cut: a dot, a digit, or # for ten and more
abbrev pub link_sign : ℕ → ℕ
link_sign cuts = if cuts == 0 then 46 else (if nat_lt cuts 10 then 48 + cuts else 35)

-- ---- replicas

-- a dot, U, C, R or x
abbrev pub state_sign : ReplicaState → ℕ
state_sign Stable = 46
state_sign UpFailure = 85
state_sign Stabilization = 67
state_sign Recovering = 82
state_sign Down = 120

-- ---- clients

-- *: it took undo and rec_done; u, d: one of them
abbrev pub correction_sign : Bool → Bool → ℕ → ℕ
correction_sign undone done other = if undone && done then 42 else (if undone then 117 else (if done then 100 else other))

-- ~: it holds tentative tuples; =: it is settled; +: it has more that is final; or a dot
abbrev pub holding_sign : ClientPoint → ClientPoint → ℕ
holding_sign before now =
    if nat_lt 0 now.tentative then 126
    else (if now.settled then 61 else (if nat_lt before.stable now.stable then 43 else (if nat_lt before.bound now.bound then 43 else 46)))

abbrev pub client_sign : ClientPoint → ClientPoint → ℕ
client_sign before now = correction_sign (nat_lt before.undos now.undos) (nat_lt before.dones now.dones) (holding_sign before now)

-- the replica that it reads, of which there are at most four
abbrev pub reads_sign : ClientPoint → ℕ
reads_sign now = 48 + min 9 now.reads
