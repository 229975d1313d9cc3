-- Which replicas truncated what was asked of them.
use Rattle.std.specs.Prelude.{⊤, ◌≡◌, List, [], ◌∷◌, None}
use Rattle.dpc_model.specs.Replicas.{Watch}

-- none of them
abbrev pub AreUnmarked : List Watch → Type 0
AreUnmarked [] = ⊤
AreUnmarked (w ∷ ws) = (w.truncated ≡ None) × AreUnmarked ws
