-- What the opening has and every event of a run keeps holds of every run; the laws of a run may be used at each event.
use Rattle.std.proofs.Common.{List, [], ◌∷◌, ◌++◌, sym, subst}
use Rattle.std.proofs.lemmas.List.{append-nil, append_assoc}
use Rattle.dpc_model.specs.declared.messages.Event.{Event}
use Rattle.dpc_model.specs.declared.plans.Plan.{Plan}
use Rattle.world_model.specs.Worlds.{World, happens, run, new_world}
use Rattle.world_model.proofs.Running.{run-push}

start : (plan : Plan) (P : World → Type 0) → P (new_world plan) → P (run plan [])
unfolding run
start plan P h = h

pub every-run : (plan : Plan) (P : World → Type 0) → P (new_world plan) → ((events : List Event) (e : Event) → P (run plan events) → P (happens (run plan events) e)) → (events : List Event) → P (run plan events)
every-run plan P first step events = behind [] (start plan P first) events
  where
    behind : (before : List Event) → P (run plan before) → (rest : List Event) → P (run plan (before ++ rest))
    behind before h [] = subst (λ (es : List Event). P (run plan es)) (sym (append-nil before)) h
    behind before h (e ∷ rest) =
        subst (λ (es : List Event). P (run plan es)) (append_assoc before (e ∷ []) rest)
        (behind (before ++ e ∷ []) (subst P (sym (run-push plan before e)) (step before e h)) rest)
