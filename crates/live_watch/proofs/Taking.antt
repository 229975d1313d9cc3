-- What the clients of a run took is true, in parts too.
use Rattle.std.proofs.Common.{◌≡◌, ℕ, zero, suc, List, [], ◌∷◌, ◌++◌, ◌+◌, ◌-◌, ◌≤◌, ◌<◌, slice_index_or, length, take, drop, arith, Some, slice_get, Result, Ok, Err, IfOk, refl, sym, ap, ◌∙◌, subst}
use Rattle.std.specs.List.{range_with_len}
use Rattle.std.proofs.lemmas.List.{take_all, length-drop}
use Rattle.dpc_lists.specs.Lists.{nth}
use Rattle.dpc_model.specs.declared.plans.Plan.{Plan}
use Rattle.dpc_model.specs.declared.scripts.Script.{Script}
use Rattle.dpc_model.specs.declared.plans.StreamRef.{StreamRef}
use Rattle.dpc_model.specs.declared.tuples.Item.{Item}
use Rattle.node_model.specs.Clients.{ClientState, client_stream, new_client}
use Rattle.world_model.specs.Worlds.{client_at}
use Rattle.world_model.specs.Safe.{AreTrueItems}
use Rattle.law_safety.specs.Plans.{IsCheckedPlan}
use Rattle.law_journals.proofs.Items.{taken-true}
use Rattle.client_fold.specs.Folding.{ClientValue, StandForClients, all_taken}
use Rattle.world_parts.proofs.ClientPlaces.{client-count, client-stands}
use Rattle.world_core.specs.Runs.{RunOf, world_of}
use Rattle.live_view.specs.Telling.{in_batches}
use Rattle.node_threads.specs.Lives.{IsLiveRun}
use Rattle.client_views.specs.Watching.{AreTrueTo, AreInOrder, AreWatched}
use Rattle.client_views.specs.declared.watched.Watched.{Watched}
use Rattle.live_watch.specs.Watches.{IsWatchedRun}

nth-got : {X : Type 0} (d x : X) (i : ℕ) (xs : List X) → slice_get xs i ≡ Some x → nth d xs i ≡ x
nth-got d x i [] e = cc
nth-got d x zero (y ∷ xs) e = cc
nth-got d x (suc i) (y ∷ xs) e = nth-got d x i xs e

-- what each client took is true
pub true-to : (r : RunOf) (vs : List ClientValue) → IsCheckedPlan r.plan → StandForClients r.plan 0 vs (world_of r).clients → AreTrueTo r.plan vs
true-to r vs checked h c v e =
    let w = world_of r in
    let s = client-stands r.plan 0 c vs w.clients v h e in
    let same : v.taken ≡ (client_at w c).taken = s.2.taken ∙ ap (λ (x : ClientState). x.taken) (sym (nth-got (new_client w.plan c) s.0 c w.clients s.1)) in
    subst (λ items. AreTrueItems r.plan (client_stream r.plan c) items) (sym same) (taken-true r.plan r.events c checked)

true-behind : (plan : Plan) (s : StreamRef) (xs ys : List Item) → AreTrueItems plan s (xs ++ ys) → AreTrueItems plan s ys
true-behind plan s [] ys h = h
true-behind plan s (x ∷ xs) ys h = true-behind plan s xs ys h.1

-- so are the batches behind the first so many
true-from : (plan : Plan) (s : StreamRef) (k : ℕ) (batches : List (List Item)) → AreTrueItems plan s (all_taken batches) → AreTrueItems plan s (all_taken (drop k batches))
true-from plan s zero batches h = h
true-from plan s (suc k) [] h = h
true-from plan s (suc k) (b ∷ bs) h = true-from plan s k bs (true-behind plan s b (all_taken bs) h)

same-items : (batches : List (List Item)) → in_batches batches ≡ all_taken batches
same-items [] = refl
same-items (b ∷ bs) = ap (λ items. b ++ items) (same-items bs)

news-true : (plan : Plan) (c k : ℕ) (vs : List ClientValue) (v : ClientValue) (batches news : List (List Item)) → AreTrueTo plan vs → slice_get vs c ≡ Some v → all_taken batches ≡ v.taken
    → news ≡ drop k batches → AreTrueItems plan (client_stream plan c) (in_batches news)
news-true plan c k vs v batches news are there all is =
    let s = client_stream plan c in
    let whole : AreTrueItems plan s (all_taken batches) = subst (λ items. AreTrueItems plan s items) (sym all) (are c v there) in
    subst (λ items. AreTrueItems plan s items) (sym (ap in_batches is ∙ same-items (drop k batches))) (true-from plan s k batches whole)

rest-taken : {X : Type 0} (k : ℕ) (xs ys : List X) → ys ≡ take (length xs - k) (drop k xs) → ys ≡ drop k xs
rest-taken k xs ys e = e ∙ take_all (length xs - k) (drop k xs) (omega (arith, length-drop k xs))

-- so is what is behind so many batches of a client of a run
pub news-of-run : (plan : Plan) (r : RunOf) (c k : ℕ) (vs : List ClientValue) (v : ClientValue) (batches news : List (List Item)) → IsCheckedPlan plan → r.plan ≡ plan
    → StandForClients r.plan 0 vs (world_of r).clients → slice_get vs c ≡ Some v → all_taken batches ≡ v.taken → news ≡ take (length batches - k) (drop k batches)
    → AreTrueItems plan (client_stream plan c) (in_batches news)
news-of-run plan r c k vs v batches news checked same stand there all is =
    let here = subst IsCheckedPlan (sym same) checked in
    news-true plan c k vs v batches news (subst (λ p. AreTrueTo p vs) same (true-to r vs here stand)) there all (rest-taken k batches news is)

-- what all clients of a run took is true of its plan
pub clients-true : (plan : Plan) (r : RunOf) (vs : List ClientValue) → IsCheckedPlan plan → r.plan ≡ plan → StandForClients r.plan 0 vs (world_of r).clients → AreTrueTo plan vs
clients-true plan r vs checked same stand = subst (λ p. AreTrueTo p vs) same (true-to r vs (subst IsCheckedPlan (sym same) checked) stand)

-- seats that stayed what they were are in order still
pub in-order : (plan : Plan) (workers : ℕ) (vs : List ClientValue) (xs : List ClientState) (old new : List (List ℕ)) → StandForClients plan 0 vs xs → length new ≡ length old
    → ((i : ℕ) (d : List ℕ) → i < length old → slice_index_or new i d ≡ slice_index_or old i d) → AreInOrder workers (length plan.clients) old → AreInOrder workers (length vs) new
in-order plan workers vs xs old new stand long each order i d low high =
    let inside : i < length old = omega (arith, high, long) in
    let count = client-count plan 0 vs xs stand in
    let many : length plan.clients ≡ length vs = omega (arith, count) in
    each i d inside ∙ order i d low inside ∙ ap (range_with_len 0) many

-- and what was seen of its clients is what the run ends with
pub watched-run : (script : Script) (plan : Plan) (r : RunOf) (n m : ℕ) (vs : List ClientValue) (ws : List Watched) → IsLiveRun script r → plan ≡ script.plan → n ≡ m
    → StandForClients r.plan 0 vs (world_of r).clients → ((xs : List ClientState) → StandForClients plan 0 vs xs → AreWatched plan xs n ws) → IsWatchedRun script m r ws
watched-run script plan r n m vs ws run same many stand seen =
    let xs = (world_of r).clients in
    let here = seen xs (subst (λ p. StandForClients p 0 vs xs) (run.plan ∙ sym same) stand) in
    record { run = run; seen = subst (λ p. AreWatched p xs m ws) same (subst (λ k. AreWatched plan xs k ws) many here) }

pub then-ok : {A E : Type 0} {P : A → Type 0} (r : Result A E) → IfOk r P → (Q : A → Type 0) → ((x : A) → P x → Q x) → IfOk r Q
then-ok (Ok x) p Q f = f x p
then-ok (Err e) p Q f = tt
