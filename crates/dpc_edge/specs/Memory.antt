-- What contracts see of a source and of a sink in memory.
use Rattle.std.specs.Prelude.{ℕ, List, [], Some}
use Rattle.dpc_edge.specs.Edges.{Edge}

-- the bytes left, the most that one call gives, the calls that fail, and how many calls and faults there were
pub record Giving : Type 0 where
  pub left : List ℕ
  pub piece : ℕ
  pub fails : List ℕ
  pub calls : ℕ
  pub faults : ℕ

abbrev pub giving_from : List ℕ → ℕ → List ℕ → Giving
giving_from bytes piece fails = record { left = bytes; piece = piece; fails = fails; calls = 0; faults = 0 }

-- such a source tells its bytes
abbrev pub giving_edge : Giving → Edge
giving_edge g = record { bytes = Some g.left; faults = g.faults }

-- the bytes taken, for how many more there is room, the most that one call takes, the calls that fail, and how many calls and faults there were
pub record Taking : Type 0 where
  pub taken : List ℕ
  pub space : ℕ
  pub piece : ℕ
  pub fails : List ℕ
  pub calls : ℕ
  pub faults : ℕ

abbrev pub taking_into : ℕ → ℕ → List ℕ → Taking
taking_into room piece fails = record { taken = []; space = room; piece = piece; fails = fails; calls = 0; faults = 0 }

-- such a sink tells its bytes
abbrev pub taking_edge : Taking → Edge
taking_edge t = record { bytes = Some t.taken; faults = t.faults }
