-- The JSON report: for each client what it received, and its summary.
use Rattle.std.specs.Prelude.{◌≡◌, ℕ, ℤ, true, nat_lt, List, [], ◌∷◌, ◌++◌, map, zip, codes}
use Rattle.serde_json.specs.Data.{Data, boolean, number, string, array, object, no_members, member, unsigned}
use Rattle.serde_json.specs.Find.{of_integer}
use Rattle.serde_json.specs.View.{items_of}
use Rattle.serde_json.specs.Written.{compact_text}
use Rattle.dpc_lists.specs.Lists.{list_all}
use Rattle.dpc_model.specs.declared.tuples.Item.{Item}
use Rattle.dpc_model.specs.declared.tuples.Item.TheVariants.{Stable, Tentative, Passed, Boundary, Undo, RecDone}
use Rattle.dpc_model.specs.declared.plans.ClientSpec.{ClientSpec}
use Rattle.dpc_model.specs.declared.plans.Plan.{Plan}
use Rattle.report.specs.declared.text.Summary.{Summary}
use Rattle.report.specs.Text.{summary_of}
use Rattle.node_model.specs.Clients.{ClientState, reader_of}
use Rattle.world_model.specs.Worlds.{World}

abbrev pub count : ℕ → Data
count n = number (unsigned n)

-- a tuple's values, as a list of their own
abbrev pub values_data : List ℤ → Data
values_data vals = array (items_of (map (λ v. number (of_integer v)) vals))

-- a list of the item's word and its numbers
abbrev pub item_data : Item → Data
item_data (Stable k t) = array (items_of (string (codes "stable") ∷ count k ∷ count t.stime ∷ values_data t.vals ∷ []))
item_data (Tentative t) = array (items_of (string (codes "tentative") ∷ count t.stime ∷ values_data t.vals ∷ []))
item_data (Passed b) = array (items_of (string (codes "passed") ∷ count b ∷ []))
item_data (Boundary b m) = array (items_of (string (codes "boundary") ∷ count b ∷ count m ∷ []))
item_data (Undo n) = array (items_of (string (codes "undo") ∷ count n ∷ []))
item_data RecDone = array (items_of (string (codes "rec_done") ∷ []))

-- one client, its keys in order of bytes
abbrev pub client_object : List ℕ → Data → Summary → Data
client_object name items s =
    object (member (codes "bound") (count s.bound) (member (codes "items") items (member (codes "name") (string name)
    (member (codes "settled") (boolean s.settled) (member (codes "stable") (count s.stable) (member (codes "tentative") (count s.tentative) no_members))))))

abbrev pub client_data : List ℕ → List Item → Summary → Data
client_data name items s = client_object name (array (items_of (map item_data items))) s

abbrev pub data_of : Plan → ClientSpec × ClientState → Data
data_of plan c = client_data c.0.name c.1.taken (summary_of plan.end (reader_of c.1))

-- the list of all clients
abbrev pub clients_data : List Data → Data
clients_data clients = object (member (codes "clients") (array (items_of clients)) no_members)

-- the compact text, and a line feed
unfoldable pub report_json : World → List ℕ
report_json w = compact_text (clients_data (map (data_of w.plan) (zip w.plan.clients w.clients))) ++ 10 ∷ []

-- each client's name is plain text: bytes below 128
abbrev pub HasPlainNames : Plan → Type 0
HasPlainNames plan = list_all (λ (c : ClientSpec). list_all (λ b. nat_lt b 128) c.name) plan.clients ≡ true
