-- What readers of the clients' streams are to see, and who sits where.
use Rattle.std.specs.Prelude.{◌≡◌, ⊤, ℕ, zero, suc, ◌+◌, ◌≤◌, ◌<◌, List, [], ◌∷◌, ◌++◌, length, slice_get, slice_index_or, Some}
use Rattle.std.specs.List.{range_with_len}
use Rattle.dpc_model.specs.Fragments.{ideal, ideal_upto}
use Rattle.dpc_model.specs.declared.plans.Plan.{Plan}
use Rattle.node_model.specs.Clients.{ClientState, client_stream, reader_of}
use Rattle.world_model.specs.Safe.{AreTrueItems}
use Rattle.client_fold.specs.Folding.{ClientValue}
use Rattle.client_views.specs.declared.watched.Watched.{Watched}

-- what each client took is true
abbrev pub AreTrueTo : Plan → List ClientValue → Type 0
AreTrueTo plan clients = (c : ℕ) (v : ClientValue) → slice_get clients c ≡ Some v → AreTrueItems plan (client_stream plan c) v.taken

-- so many stable tuples of the failure-free output of this client's stream, which are all below the bound, and no less than it holds
pub record IsWatched (plan : Plan) (x : ClientState) (w : Watched) : Type 0 where
  pub within : w.count ≤ length (ideal plan (client_stream plan w.client))
  pub whole : length (ideal_upto plan (client_stream plan w.client) w.bound) ≤ w.count
  pub count : length (reader_of x).stable ≤ w.count
  pub bound : (reader_of x).bound ≤ w.bound

-- what one reader saw of the clients from number c on
abbrev pub AreWatchedBy : Plan → ℕ → ℕ → List ClientState → List Watched → Type 0
AreWatchedBy plan reader c [] [] = ⊤
AreWatchedBy plan reader c (x ∷ xs) (w ∷ ws) = (w.reader ≡ reader) × (w.client ≡ c) × IsWatched plan x w × AreWatchedBy plan reader (c + 1) xs ws
AreWatchedBy plan reader c [] (w ∷ ws) = ⊥
AreWatchedBy plan reader c (x ∷ xs) [] = ⊥

-- what so many readers saw from number `reader` on, one after the other
abbrev pub AreWatchedFrom : Plan → List ClientState → ℕ → ℕ → List Watched → Type 0
AreWatchedFrom plan xs reader zero ws = ws ≡ []
AreWatchedFrom plan xs reader (suc n) ws =
    (front : List Watched) × (rest : List Watched) × (ws ≡ front ++ rest) × AreWatchedBy plan reader 0 xs front × AreWatchedFrom plan xs (reader + 1) n rest

-- what so many readers saw of these clients, by reader and then by client
abbrev pub AreWatched : Plan → List ClientState → ℕ → List Watched → Type 0
AreWatched plan xs readers ws = AreWatchedFrom plan xs 0 readers ws

-- ---- who sits where: contracts see a seat as the clients that are watched there

-- the readers' seats, those behind so many workers', watch each of n clients, in order
abbrev pub AreInOrder : ℕ → ℕ → List (List ℕ) → Type 0
AreInOrder workers n seats = (i : ℕ) (d : List ℕ) → workers ≤ i → i < length seats → slice_index_or seats i d ≡ range_with_len 0 n
