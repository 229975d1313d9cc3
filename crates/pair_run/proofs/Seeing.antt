-- How the one stream of two clients goes on with a run.
use Rattle.std.proofs.Common.{◌≡◌, ◌⊎◌, inl, inr, ℕ, zero, suc, ◌+◌, ◌≤◌, ◌<◌, List, [], ◌∷◌, ◌++◌, length, take, drop, Some, slice_get, refl, sym, ap, subst, ◌∙◌, arith}
use Rattle.std.proofs.lemmas.List.{append-nil, append_assoc, drop_all, length-append}
use Rattle.dpc_lists.specs.Lists.{nth}
use Rattle.dpc_model.specs.Reading.{Reader, empty_reader}
use Rattle.dpc_model.specs.declared.messages.Event.{Event}
use Rattle.dpc_model.specs.declared.plans.Plan.{Plan}
use Rattle.dpc_model.specs.declared.tuples.Item.{Item}
use Rattle.node_model.specs.Clients.{ClientState, new_client}
use Rattle.world_model.specs.Worlds.{World, client_at, happens, run}
use Rattle.world_model.proofs.Running.{run-push}
use Rattle.law_safety.specs.Plans.{IsCheckedPlan}
use Rattle.law_session_origins.specs.Standing.{takes}
use Rattle.law_journals.proofs.Items.{takes-more}
use Rattle.client_fold.specs.Folding.{ClientValue, StandForClients, all_taken}
use Rattle.world_parts.proofs.ClientPlaces.{client-count, client-stands}
use Rattle.world_core.specs.Runs.{RunOf, world_of}
use Rattle.run_watchers.specs.Watching.{gone_on, unstarted}
use Rattle.back_channel.specs.Merging.{merge, items_between, Leaves, OneBegins}
use Rattle.back_channel.specs.Standing.{StandsFor}
use Rattle.back_channel.specs.declared.pair.Pair.{Pair}
use Rattle.law_pairs.specs.Pairs.{held_at, pair_items, AreReaders}
use Rattle.law_pairs.proofs.Holding.{first-taken, first-holds}
use Rattle.law_pairs.proofs.Going.{go-together, client-rests, told-nothing}
use Rattle.law_pairs.proofs.Whole.{none-told, one-told}
use Rattle.pair_run.specs.Seen.{HasTold, HasSeen}
use Rattle.pair_run.specs.declared.pairing.Pairing.{Pairing}

-- ---- before the first event

pub begins : (plan : Plan) (p : Pairing) → p.items.items ≡ [] → StandsFor p.pair empty_reader empty_reader → p.first_mark ≡ 0 → p.second_mark ≡ 0 → HasSeen p (unstarted plan) p
begins plan p none stands first second =
    record {
      first = refl;
      second = refl;
      told = λ checked readers. record {
        items = none ∙ sym (none-told plan p.first p.second);
        stands =
            subst (λ (r : Reader). StandsFor p.pair r (held_at (run plan []) p.second)) (sym (first-holds plan p.first))
            (subst (λ (r : Reader). StandsFor p.pair empty_reader r) (sym (first-holds plan p.second)) stands);
        first_mark = first ∙ sym (ap (λ (items : List Item). length items) (first-taken plan p.first));
        second_mark = second ∙ sym (ap (λ (items : List Item). length items) (first-taken plan p.second));
      };
    }

-- ---- the clients of the code

-- one batch more
pub batch-more : (batches : List (List Item)) (i : ℕ) (batch : List Item) → slice_get batches i ≡ Some batch → all_taken (take (suc i) batches) ≡ all_taken (take i batches) ++ batch
batch-more [] i batch e = cc
batch-more (b ∷ bs) zero batch e = let same : b ≡ batch = cc in append-nil b ∙ same
batch-more (b ∷ bs) (suc i) batch e = ap (λ (is : List Item). b ++ is) (batch-more bs i batch e) ∙ sym (append_assoc b (all_taken (take i bs)) batch)

nth-got : {X : Type 0} (d x : X) (i : ℕ) (xs : List X) → slice_get xs i ≡ Some x → nth d xs i ≡ x
nth-got d x i [] e = cc
nth-got d x zero (y ∷ xs) e = cc
nth-got d x (suc i) (y ∷ xs) e = nth-got d x i xs e

-- there are as many as in the plan
some-client : (plan : Plan) (c : ℕ) (vs : List ClientValue) (xs : List ClientState) → StandForClients plan 0 vs xs → c < length plan.clients → length vs ≤ c → ⊥
some-client plan c vs xs h low past = let many = client-count plan 0 vs xs h in absurd (omega (arith, many, low, past))

-- what the code's client took is what the plain one took
taken-of : (r : RunOf) (c : ℕ) (vs : List ClientValue) (v : ClientValue) → StandForClients r.plan 0 vs (world_of r).clients → slice_get vs c ≡ Some v → v.taken ≡ (client_at (world_of r) c).taken
taken-of r c vs v h there =
    let w = world_of r in
    let s = client-stands r.plan 0 c vs w.clients v h there in
    s.2.taken ∙ ap (λ (x : ClientState). x.taken) (sym (nth-got (new_client w.plan c) s.0 c w.clients s.1))

-- ---- an event

-- it is behind the events before
world-next : (before now : RunOf) (e : Event) → now ≡ gone_on before e → world_of now ≡ happens (world_of before) e
world-next before now e is = ap world_of is ∙ run-push before.plan before.events e

-- nothing that is behind the mark was taken
takes-none : (w next : World) (e : Event) (c mark : ℕ) → next ≡ happens w e → mark ≡ length (client_at w c).taken → length (client_at next c).taken ≡ mark → takes w e c ≡ []
takes-none w next e c mark is old same =
    let few : length (client_at (happens w e) c).taken ≡ length (client_at w c).taken = ap (λ (v : World). length (client_at v c).taken) (sym is) ∙ same ∙ old in
    drop_all (length (client_at w c).taken) (client_at (happens w e) c).taken (omega (arith, few))

-- what is behind the mark was taken
taken-behind : (w next : World) (e : Event) (c mark : ℕ) (items : List Item) → next ≡ happens w e → mark ≡ length (client_at w c).taken → items ≡ (client_at next c).taken →
    (mark ≤ length items) × (drop mark items ≡ takes w e c)
taken-behind w next e c mark items is old all =
    let now : items ≡ (client_at (happens w e) c).taken = all ∙ ap (λ (v : World). (client_at v c).taken) is in
    let many : length items ≡ length (client_at w c).taken + length (takes w e c) = ap (λ (is : List Item). length is) (now ∙ takes-more w e c) ∙ length-append (client_at w c).taken (takes w e c) in
    (omega (arith, many, old), ap (λ (n : ℕ). drop n items) old ∙ ap (λ (is : List Item). drop (length (client_at w c).taken) is) now)

-- the clients are not there
pub missed : (start p : Pairing) (before now : RunOf) (e : Event) (vs : List ClientValue) → now ≡ gone_on before e → HasSeen start before p → StandForClients now.plan 0 vs (world_of now).clients →
    (length vs ≤ p.first) ⊎ (length vs ≤ p.second) → HasSeen start now p
missed start p before now e vs is seen stand none =
    record {
      first = seen.first;
      second = seen.second;
      told = λ checked readers. absurd (elim none [
        | inl past ↦ some-client now.plan p.first vs (world_of now).clients stand readers.first past
        | inr past ↦ some-client now.plan p.second vs (world_of now).clients stand readers.second past
      ]);
    }

module _ (start p : Pairing) (before now : RunOf) (e : Event) (vs : List ClientValue) (v u : ClientValue)
    (is : now ≡ gone_on before e) (seen : HasSeen start before p) (stand : StandForClients now.plan 0 vs (world_of now).clients)
    (first : slice_get vs p.first ≡ Some v) (second : slice_get vs p.second ≡ Some u) where
  same-plan : now.plan ≡ before.plan
  same-plan = ap (λ (r : RunOf). r.plan) is

  next : world_of now ≡ happens (world_of before) e
  next = world-next before now e is

  first-now : v.taken ≡ (client_at (world_of now) p.first).taken
  first-now = taken-of now p.first vs v stand first

  second-now : u.taken ≡ (client_at (world_of now) p.second).taken
  second-now = taken-of now p.second vs u stand second

  -- neither took anything
  pub rested : length v.taken ≡ p.first_mark → length u.taken ≡ p.second_mark → HasSeen start now p
  rested old-first old-second =
      record { first = seen.first; second = seen.second; told = λ checked readers. told (subst IsCheckedPlan same-plan checked) (subst (λ (plan : Plan). AreReaders plan p.first p.second) same-plan readers) }
    where
      told : IsCheckedPlan before.plan → AreReaders before.plan p.first p.second → HasTold now p
      told checked readers =
          let t = seen.told checked readers in
          let w = world_of before in
          let none = takes-none w (world_of now) e p.first p.first_mark next t.first_mark (ap (λ (items : List Item). length items) (sym first-now) ∙ old-first) in
          let others = takes-none w (world_of now) e p.second p.second_mark next t.second_mark (ap (λ (items : List Item). length items) (sym second-now) ∙ old-second) in
          let nothing = told-nothing before.plan before.events e p.first p.second checked readers none others in
          let left = client-rests before.plan before.events e p.first checked readers.first none in
          let right = client-rests before.plan before.events e p.second checked readers.second others in
          record {
            items =
                t.items ∙ sym (append-nil (pair_items before.plan before.events p.first p.second)) ∙ ap (λ (items : List Item). pair_items before.plan before.events p.first p.second ++ items) (sym nothing)
                ∙ sym (one-told before.plan before.events e p.first p.second) ∙ ap (λ (r : RunOf). pair_items r.plan r.events p.first p.second) (sym is);
            stands =
                subst (λ (v : World). StandsFor p.pair (held_at v p.first) (held_at v p.second)) (sym next)
                (subst (λ (r : Reader). StandsFor p.pair r (held_at (happens w e) p.second)) (sym left) (subst (λ (r : Reader). StandsFor p.pair (held_at w p.first) r) (sym right) t.stands));
            first_mark = sym old-first ∙ ap (λ (items : List Item). length items) first-now;
            second_mark = sym old-second ∙ ap (λ (items : List Item). length items) second-now;
          }

  -- what a step of the pair tells
  abbrev pub Steps : List Item → List Item → List Item → Pair → Type 0
  Steps taken others told pair =
      (x y x' y' : Reader) → StandsFor p.pair x y → Leaves x taken x' → Leaves y others y' → OneBegins x'.stable y'.stable → (told ≡ items_between (merge x y) (merge x' y')) × StandsFor pair x' y'

  -- what they took was told
  pub stepped : (q : Pairing) (taken others told : List Item) → (p.first_mark ≤ length v.taken → taken ≡ drop p.first_mark v.taken) → (p.second_mark ≤ length u.taken → others ≡ drop p.second_mark u.taken) →
      Steps taken others told q.pair → q.first ≡ p.first → q.second ≡ p.second → q.items.items ≡ p.items.items ++ told → q.first_mark ≡ length v.taken → q.second_mark ≡ length u.taken → HasSeen start now q
  stepped q taken others told its theirs step same-first same-second more first-mark second-mark =
      record {
        first = same-first ∙ seen.first;
        second = same-second ∙ seen.second;
        told = λ checked readers. by-both (subst IsCheckedPlan same-plan checked)
            (subst (λ (plan : Plan). AreReaders plan p.first p.second) same-plan (subst (λ (c : ℕ). AreReaders now.plan p.first c) same-second (subst (λ (c : ℕ). AreReaders now.plan c q.second) same-first readers)));
      }
    where
      by-both : IsCheckedPlan before.plan → AreReaders before.plan p.first p.second → HasTold now q
      by-both checked readers =
          let t = seen.told checked readers in
          let w = world_of before in
          let g = go-together before.plan before.events e p.first p.second checked readers in
          let one = taken-behind w (world_of now) e p.first p.first_mark v.taken next t.first_mark first-now in
          let other = taken-behind w (world_of now) e p.second p.second_mark u.taken next t.second_mark second-now in
          let reads = subst (λ (items : List Item). Leaves (held_at w p.first) items (held_at (happens w e) p.first)) (sym (its one.0 ∙ one.1)) g.first in
          let others-read = subst (λ (items : List Item). Leaves (held_at w p.second) items (held_at (happens w e) p.second)) (sym (theirs other.0 ∙ other.1)) g.second in
          let stepped = step (held_at w p.first) (held_at w p.second) (held_at (happens w e) p.first) (held_at (happens w e) p.second) t.stands reads others-read g.after in
          record {
            items =
                more ∙ ap (λ (items : List Item). items ++ told) t.items ∙ ap (λ (items : List Item). pair_items before.plan before.events p.first p.second ++ items) stepped.0
                ∙ sym (one-told before.plan before.events e p.first p.second) ∙ ap (λ (r : RunOf). pair_items r.plan r.events p.first p.second) (sym is)
                ∙ ap (λ (c : ℕ). pair_items now.plan now.events c p.second) (sym same-first) ∙ ap (λ (c : ℕ). pair_items now.plan now.events q.first c) (sym same-second);
            stands =
                subst (λ (c : ℕ). StandsFor q.pair (held_at (world_of now) q.first) (held_at (world_of now) c)) (sym same-second)
                (subst (λ (c : ℕ). StandsFor q.pair (held_at (world_of now) c) (held_at (world_of now) p.second)) (sym same-first)
                (subst (λ (x : World). StandsFor q.pair (held_at x p.first) (held_at x p.second)) (sym next) stepped.1));
            first_mark = first-mark ∙ ap (λ (items : List Item). length items) first-now ∙ ap (λ (c : ℕ). length (client_at (world_of now) c).taken) (sym same-first);
            second_mark = second-mark ∙ ap (λ (items : List Item). length items) second-now ∙ ap (λ (c : ℕ). length (client_at (world_of now) c).taken) (sym same-second);
          }
