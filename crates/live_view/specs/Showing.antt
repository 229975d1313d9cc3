-- What holds of what is shown, and of what each seat at the view has seen.
use Rattle.std.specs.Prelude.{◌≡◌, ℕ, ◌≤◌, ◌++◌, max, List, [], length, Some, None, IfSome}
use mathlib.Core.Option.{some}
use lib.ListN.{get_elem?}
use Rattle.dpc_lists.specs.Lists.{IsPrefixOf}
use Rattle.dpc_model.specs.Fragments.{ideal, ideal_upto}
use Rattle.dpc_model.specs.declared.plans.Plan.{Plan}
use Rattle.node_model.specs.Clients.{client_stream}
use Rattle.live_view.specs.declared.shown.Shown.{Shown}
use Rattle.live_view.specs.declared.shown.News.{News}
use Rattle.live_view.specs.declared.sight.Sight.{Sight}

-- what is shown is a beginning of the client's failure-free output, and all of it up to the bound
abbrev pub IsTrueShown : Plan → Shown → Type 0
IsTrueShown plan x =
    IsPrefixOf x.tuples (ideal plan (client_stream plan x.client)) × (length (ideal_upto plan (client_stream plan x.client) x.bound) ≤ length x.tuples)

-- what is shown after news
abbrev pub with_news : Shown → News → Shown
with_news x n = record x { bound = max x.bound n.bound; tuples = x.tuples ++ n.tuples }

-- all of what is shown was seen
abbrev pub sight_of : Shown → Sight
sight_of x = record { client = Some x.client; bound = x.bound; tuples = x.tuples }

-- nothing was seen
abbrev pub unseen : Sight
unseen = record { client = None; bound = 0; tuples = [] }

-- w has all that v has, of the same client
abbrev pub Precedes : Sight → Sight → Type 0
Precedes v w = IfSome v.client (λ c. w.client ≡ Some c) × IsPrefixOf v.tuples w.tuples × (v.bound ≤ w.bound)

-- what is shown is true, and has all that any seat has seen
abbrev pub Keeps : Plan → Shown → List Sight → Type 0
Keeps plan x views = IsTrueShown plan x × ((seat : ℕ) (v : Sight) → get_elem? views seat ≡ some v → Precedes v (sight_of x))

-- y is then shown and seen: it is true, and has all that the seat had seen
abbrev pub Sees : Plan → Sight → Shown → Shown → Sight → Type 0
Sees plan v x y w = IsTrueShown plan y × Precedes v (sight_of y) × (w ≡ sight_of y)
