-- The table of kinds: the byte of each, its fields, and what they may hold.
use Rattle.std.specs.Prelude.{ℕ, ◌^◌, ◌==◌, if◌then◌else◌, nat_lt, nat_le, ◌&&◌, Bool, true, false, List, [], ◌∷◌, Option, Some, None}
use Rattle.stream_codec.specs.declared.kinds.Kind.{Kind}
use Rattle.stream_codec.specs.declared.kinds.Kind.TheVariants.{Stable, Tentative, Boundary, Undo, RecDone, Head, Tail, Passed, Phase, Deliver, Tick, Mill, Cut, Heal, Crash, Restart, Emit, Release}
use Rattle.stream_codec.specs.declared.kinds.Field.{Field}
use Rattle.stream_codec.specs.declared.kinds.Field.TheVariants.{Number, Time, Clock, Actor, Client, Buckets}

-- how many bytes a field takes
abbrev pub width : Field → ℕ
width Number = 8
width Time = 8
width Clock = 8
width Actor = 2
width Client = 2
width Buckets = 1

-- whether a field may hold a number
abbrev pub holds : Field → ℕ → Bool
holds Number n = nat_lt n (2 ^ 64)
holds Time n = nat_lt n (2 ^ 62)
holds Clock n = nat_le n (2 ^ 62)
holds Actor n = nat_le n 95
holds Client n = nat_le n 15
holds Buckets n = nat_le 1 n && nat_le n 16

abbrev pub byte_of : Kind → ℕ
byte_of Stable = 1
byte_of Tentative = 2
byte_of Boundary = 3
byte_of Undo = 4
byte_of RecDone = 5
byte_of Head = 6
byte_of Tail = 7
byte_of Passed = 8
byte_of Phase = 16
byte_of Deliver = 17
byte_of Tick = 18
byte_of Mill = 19
byte_of Cut = 20
byte_of Heal = 21
byte_of Crash = 22
byte_of Restart = 23
byte_of Emit = 24
byte_of Release = 25

abbrev pub kinds : List Kind
kinds =
    Stable ∷ Tentative ∷ Boundary ∷ Undo ∷ RecDone ∷ Head ∷ Tail ∷ Passed ∷ Phase ∷ Deliver ∷ Tick ∷ Mill ∷ Cut ∷ Heal ∷ Crash ∷ Restart
    ∷ Emit ∷ Release ∷ []

abbrev pub first_named : ℕ → List Kind → Option Kind
first_named b [] = None
first_named b (k ∷ ks) = if byte_of k == b then Some k else first_named b ks

-- the kind that a byte names
abbrev pub kind_of : ℕ → Option Kind
kind_of b = first_named b kinds

-- the fields of each kind in order
abbrev pub fields : Kind → List Field
fields Stable = Number ∷ Time ∷ []
fields Tentative = Time ∷ []
fields Boundary = Clock ∷ Number ∷ []
fields Undo = Number ∷ []
fields RecDone = []
fields Head = Client ∷ []
fields Tail = Number ∷ Clock ∷ Number ∷ []
fields Passed = Clock ∷ []
fields Phase = Number ∷ []
fields Deliver = Number ∷ []
fields Tick = Actor ∷ Clock ∷ []
fields Mill = Actor ∷ Buckets ∷ []
fields Cut = Actor ∷ Actor ∷ []
fields Heal = Actor ∷ Actor ∷ []
fields Crash = Actor ∷ []
fields Restart = Actor ∷ Number ∷ []
fields Emit = Actor ∷ Clock ∷ []
fields Release = Actor ∷ Clock ∷ []

-- whether a count of columns and a tuple's values stand behind the fields
abbrev pub has_columns : Kind → Bool
has_columns Stable = true
has_columns Tentative = true
has_columns _ = false
