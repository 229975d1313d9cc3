-- An inlet goes on to stand for the plain one, call by call.
use Rattle.std.proofs.Common.{◌≡◌, ℕ, ◌<◌, ◌≤◌, true, false, cond, List, [], ◌∷◌, ◌++◌, length, refl, sym, ap, ◌∙◌, arith, append_assoc, append-nil, Option}
use Rattle.std.proofs.lemmas.Bool.{ltb-true}
use Rattle.std.proofs.lemmas.List.Elements.{All-nil, All-cons, All-append, All-weaker}
use Rattle.std.specs.List.{All}
use Rattle.dpc_model.specs.Streams.{is_below}
use Rattle.dpc_model.specs.Reading.{stable_reader}
use Rattle.dpc_model.specs.Inlets.{InletState, sess_of, new_inlet, restarted_inlet, take_batch, shows_loss, after_tally, with_next_session, asked_by}
use Rattle.dpc_model.specs.PartStands.{InletValue, with_stable, StandsForInlet}
use Rattle.dpc_model.specs.declared.tuples.Tuple.{Tuple}
use Rattle.dpc_model.specs.declared.tuples.Item.{Item}
use Rattle.dpc_model.specs.declared.batches.Taken.{Taken}
use Rattle.dpc_model.specs.declared.messages.Sess.{Sess}
use Rattle.dpc_model.specs.declared.messages.Subscribe.{Subscribe}
use Rattle.inlet.specs.Forgotten.{Keeps, IsTaken, times_of, from_first}
use Rattle.inlet.specs.declared.inlet.Absorbed.{Absorbed}

-- these tuples, all of them below b, are those of the plain inlet that are not kept
pub record Lacks (b : ℕ) (v : InletValue) (x : InletState) (gone : List Tuple) : Type 0 where
  pub keeps : Keeps gone v x
  pub below : All (λ (t : Tuple). t.stime < b) gone

pub stands-by : (b : ℕ) (v : InletValue) (x : InletState) (gone : List Tuple) → Lacks b v x gone → StandsForInlet b v x
stands-by b v x gone h = record { count = h.keeps.count; kept = (gone, h.keeps.kept, h.below); rest = h.keeps.rest }

pub lacks-some : (b : ℕ) (v : InletValue) (x : InletState) → StandsForInlet b v x → (gone : List Tuple) × Lacks b v x gone
lacks-some b v x h = (h.kept.0, record { keeps = record { count = h.count; kept = h.kept.1; rest = h.rest }; below = h.kept.2 })

-- it stands for the plain inlet at any later time
pub stands-later : (b c : ℕ) (v : InletValue) (x : InletState) → b ≤ c → StandsForInlet b v x → StandsForInlet c v x
stands-later b c v x later h =
    let gone = lacks-some b v x h in
    stands-by c v x gone.0 (record {
      keeps = gone.1.keeps;
      below = All-weaker (λ (t : Tuple). t.stime < b) (λ (t : Tuple). t.stime < c) (λ t low. omega (arith, low, later)) gone.0 gone.1.below;
    })

-- ---- the first state

pub new-stands : (b inc : ℕ) → StandsForInlet b (record { count = 0; state = new_inlet inc }) (new_inlet inc)
new-stands b inc =
    stands-by b (record { count = 0; state = new_inlet inc }) (new_inlet inc) []
    (record { keeps = record { count = refl; kept = refl; rest = refl }; below = All-nil (λ (t : Tuple). t.stime < b) })

pub start_at-stands : (b bound : ℕ) (last : Sess) (ts : List Tuple) → All (λ (t : Tuple). t.stime < b) ts →
    StandsForInlet b (record { count = length ts; state = restarted_inlet (stable_reader [] bound) last }) (restarted_inlet (stable_reader ts bound) last)
start_at-stands b bound last ts low =
    stands-by b (record { count = length ts; state = restarted_inlet (stable_reader [] bound) last }) (restarted_inlet (stable_reader ts bound) last) ts
    (record { keeps = record { count = refl; kept = sym (append-nil ts); rest = refl }; below = low })

-- ---- a batch

pub take-stands : (b : ℕ) (sess : Sess) (index : ℕ) (items : List Item) (v new : InletValue) (answer : Taken) (x : InletState) → IsTaken sess index items v new answer → StandsForInlet b v x →
    StandsForInlet b new (take_batch x sess index items).after
take-stands b sess index items v new answer x taken h =
    let gone = lacks-some b v x h in
    stands-by b new (take_batch x sess index items).after gone.0 (record { keeps = taken.after gone.0 x gone.1.keeps; below = gone.1.below })

pub take-tells : (b : ℕ) (sess : Sess) (index : ℕ) (items : List Item) (v new : InletValue) (answer : Taken) (x : InletState) → IsTaken sess index items v new answer → StandsForInlet b v x →
    answer ≡ (take_batch x sess index items).answer
take-tells b sess index items v new answer x taken h = let gone = lacks-some b v x h in taken.told gone.0 x gone.1.keeps

-- `absorb` promises a told answer with this and with `IsTaken`
pub absorb-tells : (b : ℕ) (sess : Sess) (index : ℕ) (items : List Item) (v new : InletValue) (answer : Absorbed) (told : Taken) (x : InletState) → answer ≡ times_of told →
    IsTaken sess index items v new told → StandsForInlet b v x → answer ≡ times_of (take_batch x sess index items).answer
absorb-tells b sess index items v new answer told x e taken h = e ∙ ap times_of (take-tells b sess index items v new told x taken h)

-- ---- sessions

pub heard-stands : (b : ℕ) (v : InletValue) (x : InletState) (tally : Option (Sess × ℕ)) → StandsForInlet b v x →
    StandsForInlet b (record v { state = after_tally v.state tally }) (after_tally x tally)
heard-stands b v x tally h = record { count = h.count; kept = h.kept; rest = ap (λ (y : InletState). after_tally y tally) h.rest }

pub heard-tells : (b : ℕ) (v : InletValue) (x : InletState) (tally : Option (Sess × ℕ)) → StandsForInlet b v x → shows_loss v.state tally ≡ shows_loss x tally
heard-tells b v x tally h = ap (λ (y : InletState). shows_loss y tally) h.rest

pub reopen-stands : (b : ℕ) (v : InletValue) (x : InletState) → StandsForInlet b v x → StandsForInlet b (record v { state = with_next_session v.state }) (with_next_session x)
reopen-stands b v x h = record { count = h.count; kept = h.kept; rest = ap with_next_session h.rest }

pub reopen-tells : (b : ℕ) (v : InletValue) (x : InletState) (asked : Subscribe) → ((gone : List Tuple) (y : InletState) → Keeps gone v y → asked ≡ asked_by (with_next_session y)) →
    StandsForInlet b v x → asked ≡ asked_by (with_next_session x)
reopen-tells b v x asked told h = let gone = lacks-some b v x h in told gone.0 x gone.1.keeps

pub renumber-stands : (b : ℕ) (v : InletValue) (x : InletState) (number : ℕ) → StandsForInlet b v x →
    StandsForInlet b (record v { state = record v.state { sess = sess_of v.state.sess.inc number } }) (record x { sess = sess_of x.sess.inc number })
renumber-stands b v x number h = record { count = h.count; kept = h.kept; rest = ap (λ (y : InletState). record y { sess = sess_of y.sess.inc number }) h.rest }

-- ---- forgetting

-- what goes, and what is left
pub record SplitsAs (b : ℕ) (ts left : List Tuple) : Type 0 where
  pub first : List Tuple
  pub all : ts ≡ first ++ left
  pub below : All (λ (t : Tuple). t.stime < b) first

pub splits : (b : ℕ) (ts : List Tuple) → SplitsAs b ts (from_first b ts)
splits b [] = record { first = []; all = refl; below = All-nil (λ (t : Tuple). t.stime < b) }
splits b (t ∷ ts) =
    (elim (is_below b t) as (λ c. is_below b t ≡ c → (left : List Tuple) → left ≡ cond c (from_first b ts) (t ∷ ts) → SplitsAs b (t ∷ ts) left) [
      | true ↦ λ e left k.
          let s = splits b ts in
          record {
            first = t ∷ s.first;
            all = ap (λ (us : List Tuple). t ∷ us) (s.all ∙ ap (λ (us : List Tuple). s.first ++ us) (sym k));
            below = All-cons (λ (u : Tuple). u.stime < b) t s.first (ltb-true t.stime b e) s.below;
          }
      | false ↦ λ e left k. record { first = []; all = sym k; below = All-nil (λ (u : Tuple). u.stime < b) }
    ]) refl (from_first b (t ∷ ts)) refl

pub drop_below-stands : (b c d : ℕ) (v : InletValue) (x : InletState) → b ≤ d → c ≤ d → StandsForInlet b v x →
    StandsForInlet d (record v { state = with_stable (from_first c v.state.held.stable) v.state }) x
drop_below-stands b c d v x old new h =
    let gone = lacks-some d v x (stands-later b d v x old h) in
    let s = splits c v.state.held.stable in
    stands-by d (record v { state = with_stable (from_first c v.state.held.stable) v.state }) x (gone.0 ++ s.first) (record {
      keeps = record {
        count = h.count;
        kept = gone.1.keeps.kept ∙ ap (λ (ts : List Tuple). gone.0 ++ ts) s.all ∙ sym (append_assoc gone.0 s.first (from_first c v.state.held.stable));
        rest = h.rest;
      };
      below = All-append (λ (t : Tuple). t.stime < d) gone.0 s.first gone.1.below (All-weaker (λ (t : Tuple). t.stime < c) (λ (t : Tuple). t.stime < d) (λ t low. omega (arith, low, new)) s.first s.below);
    })
