-- The generated load of a number: two sources with random logs, six fragments of three replicas, three clients, and a failure
-- in every fifth phase.
use Rattle.std.specs.Prelude.{ℕ, zero, suc, ◌+◌, ◌*◌, ◌/◌, ◌%◌, ◌^◌, pos, true, false, ◌&&◌, ◌==◌, nat_lt, if◌then◌else◌, List, [], ◌∷◌, ◌++◌, map, Option, Some, None, option_to_list, codes}
use Rattle.dpc_lists.specs.Lists.{range_with_len}
use Rattle.dpc_model.specs.Words.{Word}
use Rattle.dpc_model.specs.Formula.{Bin, Col, Num}
use Rattle.dpc_model.specs.declared.tuples.Tuple.{Tuple}
use Rattle.dpc_model.specs.declared.expressions.BinOp.TheVariants.{Add}
use Rattle.dpc_model.specs.declared.operators.Agg.TheVariants.{Count}
use Rattle.dpc_model.specs.declared.operators.Wire.{Wire}
use Rattle.dpc_model.specs.declared.operators.Wire.TheVariants.{Port}
use Rattle.dpc_model.specs.declared.operators.OpKind.{OpKind}
use Rattle.dpc_model.specs.declared.operators.OpKind.TheVariants as kind
use Rattle.dpc_model.specs.declared.plans.SourceSpec.{SourceSpec}
use Rattle.dpc_model.specs.declared.plans.FragSpec.{FragSpec}
use Rattle.dpc_model.specs.declared.plans.ClientSpec.{ClientSpec}
use Rattle.dpc_model.specs.declared.plans.Plan.{Plan}
use Rattle.dpc_model.specs.declared.plans.StreamRef.{StreamRef}
use Rattle.dpc_model.specs.declared.plans.StreamRef.TheVariants.{Source, Frag}
use Rattle.dpc_model.specs.declared.scripts.Directive.{Directive}
use Rattle.dpc_model.specs.declared.scripts.Directive.TheVariants.{Release, Cut, Heal, Lose, Crash, Restart}
use Rattle.dpc_model.specs.declared.scripts.Phase.{Phase}
use Rattle.dpc_model.specs.declared.scripts.Script.{Script}

-- ---- the draws

-- a linear congruence modulo 2^64
abbrev pub next_state : ℕ → ℕ
next_state x = (x * 6364136223846793005 + 1442695040888963407) % 2 ^ 64

-- the state that so many draws leave of a seed
unfoldable pub state_after : ℕ → ℕ → ℕ
state_after seed zero = seed
state_after seed (suc i) = next_state (state_after seed i)

-- draw number i, from 1: the upper 31 bits of the state behind it
abbrev pub drawn : ℕ → ℕ → ℕ
drawn seed i = state_after seed i / 2 ^ 33

-- ---- sources

-- entry i of a log, whose draws come behind the first ones: first its time within ten units, and then its value
abbrev pub entry : ℕ → ℕ → ℕ → Tuple
entry seed first i = record { stime = 10 * i + drawn seed (first + 2 * i + 1) % 10; vals = pos (drawn seed (first + 2 * i + 2) % 1000) ∷ [] }

-- the first entries of a log
abbrev pub entries_of : ℕ → ℕ → ℕ → List Tuple
entries_of seed first n = map (entry seed first) (range_with_len 0 n)

unfoldable pub entries : ℕ
entries = 10000

abbrev pub log_of : ℕ → ℕ → List Tuple
log_of seed first = entries_of seed first entries

abbrev pub source_of : ℕ → Word → ℕ → SourceSpec
source_of seed name first = record { name = name; columns = 1; log = log_of seed first }

-- ---- fragments, each of one operator on three replicas

abbrev pub frag_of : Word → List StreamRef → Word → OpKind → List Wire → FragSpec
frag_of name inputs op kind reads =
    record { name = name; replicas = 3; delay = None; inputs = inputs; ops = record { name = op; kind = kind; reads = reads } ∷ [] }

abbrev pub frags : List FragSpec
frags =
    frag_of (codes "f1") (Source 0 ∷ Source 1 ∷ []) (codes "u1") kind.Union (Port 0 ∷ Port 1 ∷ [])
    ∷ frag_of (codes "f2") (Frag 0 ∷ []) (codes "m2") (kind.Map (Bin Add (Col 0) (Num (pos 1)) ∷ [])) (Port 0 ∷ [])
    ∷ frag_of (codes "f3") (Frag 1 ∷ []) (codes "k3") (kind.Filter (Num (pos 1))) (Port 0 ∷ [])
    ∷ frag_of (codes "f4") (Frag 1 ∷ Frag 2 ∷ []) (codes "u4") kind.Union (Port 0 ∷ Port 1 ∷ [])
    ∷ frag_of (codes "f5") (Frag 3 ∷ []) (codes "g5") (kind.Aggregate 200 100 None (Count ∷ [])) (Port 0 ∷ [])
    ∷ frag_of (codes "f6") (Frag 0 ∷ []) (codes "k6") (kind.Filter (Num (pos 1))) (Port 0 ∷ []) ∷ []

abbrev pub client_of : Word → StreamRef → ClientSpec
client_of name input = record { name = name; input = input }

abbrev pub plan_of : ℕ → Plan
plan_of seed =
    record {
      version = 1;
      passing = false;
      width = 100;
      delay = 4;
      end = 100000;
      sources = source_of seed (codes "a") 0 ∷ source_of seed (codes "b") (2 * entries) ∷ [];
      frags = frags;
      clients = client_of (codes "x") (Frag 2) ∷ client_of (codes "y") (Frag 4) ∷ client_of (codes "z") (Frag 5) ∷ [];
    }

-- ---- phases

-- the number of a replica of a fragment as an actor: two sources are in front
abbrev pub node : ℕ → ℕ → ℕ
node frag replica = 2 + 3 * frag + replica

-- failure number j, from 1, by its draw: a link of a or of b to a replica of f1 is cut, a replica of f3 crashes, or a batch on the
-- link from f3 to f4 is lost
abbrev pub failure : ℕ → ℕ → Directive
failure j d =
    if j % 4 == 1 then Cut 0 (node 0 (d % 3))
    else (if j % 4 == 2 then Cut 1 (node 0 (d % 3)) else (if j % 4 == 3 then Crash (node 2 (1 + d % 2)) else Lose (node 2 (d % 3)) (node 3 (d % 3))))

-- how it ends. A loss has no end
abbrev pub ending : ℕ → ℕ → Option Directive
ending j d =
    if j % 4 == 1 then Some (Heal 0 (node 0 (d % 3)))
    else (if j % 4 == 2 then Some (Heal 1 (node 0 (d % 3))) else (if j % 4 == 3 then Some (Restart (node 2 (1 + d % 2))) else None))

-- the draw of failure number j, behind those of both logs
abbrev pub failure_draw : ℕ → ℕ → ℕ
failure_draw seed j = drawn seed (4 * entries + j)

unfoldable pub failures : ℕ
failures = 40

-- the draws of the first failures
abbrev pub failure_draws : ℕ → ℕ → List ℕ
failure_draws seed n = map (failure_draw seed) (range_with_len 1 n)

-- failure number j comes in phase 5j ..
abbrev pub begun : ℕ → ℕ → Option Directive
begun seed p = if p % 5 == 0 then Some (failure (p / 5) (failure_draw seed (p / 5))) else None

-- .. and ends in phase 5j + 2
abbrev pub ended : ℕ → ℕ → Option Directive
ended seed p = if p % 5 == 2 && nat_lt 2 p then ending (p / 5) (failure_draw seed (p / 5)) else None

abbrev pub phase_of : ℕ → ℕ → Phase
phase_of seed p = record { directives = option_to_list (ended seed p) ++ (option_to_list (begun seed p) ++ (Release 0 (500 * p) ∷ Release 1 (500 * p) ∷ [])); now = p }

unfoldable pub phases : ℕ
phases = 200

-- the first phases
abbrev pub phases_of : ℕ → ℕ → List Phase
phases_of seed n = map (phase_of seed) (range_with_len 1 n)

-- the load of a seed
unfoldable pub generated : ℕ → Script
generated seed = record { plan = plan_of seed; phases = phases_of seed phases; settle = true }
