-- The report of a run in frames.
use Rattle.std.specs.Prelude.{ℕ, ◌+◌, List, [], ◌∷◌, ◌++◌}
use Rattle.dpc_model.specs.declared.tuples.Item.{Item}
use Rattle.frame_lists.specs.Lists.{item_frames}
use Rattle.report.specs.declared.text.Summary.{Summary}
use Rattle.report.specs.Text.{summary_of}
use Rattle.node_model.specs.Clients.{ClientState, reader_of}
use Rattle.world_model.specs.Worlds.{World}
use Rattle.stream_codec.specs.Frames.{frame_bytes}
use Rattle.stream_codec.specs.declared.frames.Frame.TheVariants.{Head, Tail}
use Rattle.client_fold.specs.Folding.{ClientValue}
use Rattle.client_reports.specs.Telling.{summary_by}

-- the frames of one client: its number, the items that it took, and what its summary tells
abbrev pub client_frames : ℕ → List Item → Summary → List ℕ
client_frames c items s = frame_bytes (Head c) ++ item_frames items ++ frame_bytes (Tail s.stable s.bound s.tentative)

-- those of the clients from a number on
abbrev pub all_client_frames : ℕ → ℕ → List ClientState → List ℕ
all_client_frames end c [] = []
all_client_frames end c (x ∷ xs) = client_frames c x.taken (summary_of end (reader_of x)) ++ all_client_frames end (c + 1) xs

-- the frames of every client in order
unfoldable pub report_frames : World → List ℕ
report_frames w = all_client_frames w.plan.end 0 w.clients

-- ---- what the code's clients tell

abbrev pub frames_by : ℕ → ClientValue → List ℕ
frames_by c v = client_frames c v.taken (summary_by v)

abbrev pub all_frames_by : ℕ → List ClientValue → List ℕ
all_frames_by c [] = []
all_frames_by c (v ∷ vs) = frames_by c v ++ all_frames_by (c + 1) vs
