-- Actors by their names, as a script names them.
use Rattle.std.specs.Prelude.{ℕ, Bool, true, false, List, [], ◌∷◌, ◌++◌, map, length, take, drop, ◌==◌, nat_lt, if◌then◌else◌, Option, Some, None, decimal, bytes_eq}
use Rattle.dpc_lists.specs.Lists.{range_with_len}
use Rattle.dpc_model.specs.Words.{Word}
use Rattle.dpc_model.specs.Actors.{roles_of, role_of}
use Rattle.dpc_model.specs.ScriptText.{role_name}
use Rattle.dpc_model.specs.declared.actors.Role.{Role}
use Rattle.dpc_model.specs.declared.actors.Role.TheVariants.{Source as IsSource, Node as IsNode, Client as IsClient}
use Rattle.dpc_model.specs.declared.plans.FragSpec.{FragSpec}
use Rattle.dpc_model.specs.declared.plans.Plan.{Plan}
use Rattle.script_rules.specs.Drafts.{place_of_name}
use Rattle.script_words.specs.Options.{◌>>=◌, given}
use Rattle.script_words.specs.Numbers.{u64_of}
use Rattle.journal_text.specs.declared.sorts.Sort.{Sort}
use Rattle.journal_text.specs.declared.sorts.Sort.TheVariants.{Source, Node, Any}

-- whether an actor is of a sort
abbrev pub is_of : Sort → Role → Bool
is_of Source (IsSource s) = true
is_of Node (IsNode f r) = true
is_of Any (IsSource s) = true
is_of Any (IsNode f r) = true
is_of Any (IsClient c) = true
is_of _ _ = false

-- the number of the actor of that name
abbrev pub actor_named : Plan → Word → Option ℕ
actor_named plan w = place_of_name w (map (role_name plan) (roles_of plan))

-- where it is of a sort
abbrev pub actor_of : Plan → Sort → Word → Option ℕ
actor_of plan sort w = actor_named plan w >>= (λ a. given (is_of sort (role_of plan a)) a)

-- what stands behind a dot, and in a word behind a name and a dot
abbrev pub behind_dot : List ℕ → Option Word
behind_dot [] = None
behind_dot (b ∷ bs) = if b == 46 then Some bs else None

abbrev pub behind_name : Word → Word → Option Word
behind_name w name = if bytes_eq (take (length name) w) name then behind_dot (drop (length name) w) else None

-- the replica whose name a word is
abbrev pub replica_named : Word → FragSpec → Option ℕ
replica_named w f = behind_name w f.name >>= u64_of >>= (λ r. given (nat_lt r f.replicas) r)

-- ---- the names of nodes: a fragment's name, a dot and a replica's number

abbrev pub replica_names : FragSpec → List Word
replica_names f = map (λ r. f.name ++ 46 ∷ decimal r) (range_with_len 0 f.replicas)

abbrev pub node_names : List FragSpec → List Word
node_names [] = []
node_names (f ∷ fs) = replica_names f ++ node_names fs
