-- The limits of a run and of its input, a constant each.
use Rattle.std.specs.Prelude.{ℕ, Bool, ◌&&◌, nat_le}

-- the most buckets that one event mills
abbrev pub most_milled : ℕ
most_milled = 16

-- so many buckets may be milled at once, where so many are ready
abbrev pub may_be_milled : ℕ → ℕ → Bool
may_be_milled r ready = nat_le 1 r && nat_le r most_milled && nat_le r ready

-- the most envelopes of a run, and the most items in them
abbrev pub most_envelopes : ℕ
most_envelopes = 8000000

abbrev pub most_items : ℕ
most_items = 4000000

-- the most bytes of a script: 64 MiB
abbrev pub most_input : ℕ
most_input = 67108864
