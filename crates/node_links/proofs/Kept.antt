-- What changes at ports keep: the table of senders is right, and no replica is marked.
use Rattle.std.proofs.Common.{◌≡◌, ℕ, zero, suc, ◌<◌, Bool, false, List, [], ◌∷◌, ◌++◌, map, length, refl, sym, ap, subst, ◌∙◌, ◌+◌, inl, inr, Option, Some, slice_get, slice_index_or, slice_set}
use Rattle.std.proofs.lemmas.List.{length-append}
use Rattle.dpc_lists.specs.Lists.{changed}
use Rattle.dpc_lists.proofs.Elements.{get-added, get-there, nth-is, set-changed}
use Rattle.dpc_model.specs.Actors.{senders_of}
use Rattle.dpc_model.specs.Parts.{Upstream}
use Rattle.dpc_model.specs.Replicas.{Watch}
use Rattle.dpc_model.specs.declared.messages.Beat.{Beat}
use Rattle.dpc_model.specs.declared.plans.Plan.{Plan}
use Rattle.dpc_model.specs.declared.plans.StreamRef.{StreamRef}
use Rattle.input_monitor.specs.Marks.{AreUnmarked}
use Rattle.input_monitor.proofs.Marked.{unmarked-beat, unmarked-tick, unmarked-count}
use Rattle.upstream.specs.Upstreams.{UpstreamValue, new_upstream, with_marks_ended, with_beat, with_tick}
use Rattle.node_links.specs.Linking.{sender_among, seen_otherwise, senders_at, known_at, IsTable, HaveNoMarks}
use Rattle.node_links.proofs.Viewing.{known-changed, senders-changed, known-mapped, senders-mapped}

-- ---- the table

-- a table of the first so many actors
abbrev pub IsTableOf : List (List ℕ) → ℕ → List (Option (ℕ × ℕ)) → Type 0
IsTableOf ss n table = IsTable table ss × (length table ≡ n)

pub no-table : (ss : List (List ℕ)) (table : List (Option (ℕ × ℕ))) → table ≡ [] → IsTableOf ss 0 table
no-table ss table none = (λ a o e. none-at a o (subst (λ (t : List (Option (ℕ × ℕ))). slice_get t a ≡ Some o) none e), ap length none)
  where
    none-at : (a : ℕ) (o : Option (ℕ × ℕ)) → slice_get [] a ≡ Some o → o ≡ sender_among 0 ss a
    none-at a o e = absurd (cc)

-- one actor more
pub table-more : (ss : List (List ℕ)) (n : ℕ) (table new : List (Option (ℕ × ℕ))) (place : Option (ℕ × ℕ)) → IsTableOf ss n table → place ≡ sender_among 0 ss n →
    new ≡ table ++ place ∷ [] → IsTableOf ss (n + 1) new
table-more ss n table new place h is pushed = (
  λ a o e. elim (get-added table place a o (subst (λ (t : List (Option (ℕ × ℕ))). slice_get t a ≡ Some o) pushed e)) [
    | inl old ↦ h.0 a o old
    | inr last ↦ sym last.1 ∙ is ∙ ap (sender_among 0 ss) (sym h.1 ∙ sym last.0)
  ],
  ap length pushed ∙ length-append table (place ∷ []) ∙ ap (λ (k : ℕ). k + 1) h.1,
)

-- what the entry of an actor tells
pub table-tells : (us old : List UpstreamValue) (table items : List (Option (ℕ × ℕ))) (a : ℕ) (place : Option (ℕ × ℕ)) → IsTable table (senders_at us) → us ≡ old → items ≡ table →
    a < length items → place ≡ slice_index_or items a place → place ≡ sender_among 0 (senders_at old) a
table-tells us old table items a place h seen same low at =
    let there : slice_get items a ≡ Some place = get-there place a items low ∙ ap Some (nth-is place place a items low at) in
    h a place (subst (λ (t : List (Option (ℕ × ℕ))). slice_get t a ≡ Some place) same there) ∙ ap (λ (xs : List UpstreamValue). sender_among 0 (senders_at xs) a) seen

-- ---- marks

-- what changes an upstream without a mark to one without
abbrev pub MarksNone : (Upstream → Upstream) → Type 0
MarksNone f = (u : Upstream) → AreUnmarked u.watches → AreUnmarked (f u).watches

pub beats-mark-none : (r : ℕ) (b : Beat) → MarksNone (with_beat r b)
beats-mark-none r b = λ u h. unmarked-beat r b.inc b.state b.recovering u.watches h

pub ticks-mark-none : MarksNone with_tick
ticks-mark-none = λ u h. unmarked-tick u.watches h

pub counts-mark-none : (count : ℕ) → MarksNone (with_marks_ended count)
counts-mark-none count = λ u h. subst (λ (ws : List Watch). AreUnmarked ws) (sym (unmarked-count count u.watches h)) h

unmarked-at : (p : ℕ) (f : Upstream → Upstream) (ks : List Upstream) → MarksNone f → HaveNoMarks ks → HaveNoMarks (changed p f ks)
unmarked-at p f [] k h = tt
unmarked-at zero f (u ∷ ks) k h = (k u h.0, h.1)
unmarked-at (suc p) f (u ∷ ks) k h = (h.0, unmarked-at p f ks k h.1)

unmarked-each : (f : Upstream → Upstream) (ks : List Upstream) → MarksNone f → HaveNoMarks ks → HaveNoMarks (map f ks)
unmarked-each f [] k h = tt
unmarked-each f (u ∷ ks) k h = (k u h.0, unmarked-each f ks k h.1)

unmarked-first : (senders : List ℕ) → AreUnmarked (new_upstream senders).known.watches
unmarked-first [] = tt
unmarked-first (s ∷ senders) = (refl, unmarked-first senders)

-- at the beginning
pub unmarked-new : (plan : Plan) (streams : List StreamRef) (us : List UpstreamValue) → us ≡ map (λ s. new_upstream (senders_of plan s)) streams → HaveNoMarks (known_at us)
unmarked-new plan streams us is = subst (λ (xs : List UpstreamValue). HaveNoMarks (known_at xs)) (sym is) (all streams)
  where
    all : (streams : List StreamRef) → HaveNoMarks (known_at (map (λ s. new_upstream (senders_of plan s)) streams))
    all [] = tt
    all (s ∷ streams) = (unmarked-first (senders_of plan s), all streams)

-- where none is marked no mark ends
pub no-mark-ends : (count : ℕ) (u : Upstream) → AreUnmarked u.watches → with_marks_ended count u ≡ u
no-mark-ends count u h = ap (λ (ws : List Watch). record u { watches = ws }) (unmarked-count count u.watches h)

-- ---- ports

-- a table of these ports, and a flag that says of their replicas that none is marked
abbrev pub AreTold : List (Option (ℕ × ℕ)) → Bool → List UpstreamValue → Type 0
AreTold table marked us = IsTable table (senders_at us) × (marked ≡ false → HaveNoMarks (known_at us))

-- the table stays right, whatever is known of the senders
pub table-kept : (table : List (Option (ℕ × ℕ))) (us new : List UpstreamValue) (p : ℕ) (f : Upstream → Upstream) → new ≡ changed p (seen_otherwise f) us →
    IsTable table (senders_at us) → IsTable table (senders_at new)
table-kept table us new p f is h = subst (λ (ss : List (List ℕ)). IsTable table ss) (sym (ap senders_at is ∙ senders-changed p f us)) h

pub kept-at : (table : List (Option (ℕ × ℕ))) (marked : Bool) (us new : List UpstreamValue) (p : ℕ) (f : Upstream → Upstream) → MarksNone f → new ≡ changed p (seen_otherwise f) us →
    AreTold table marked us → AreTold table marked new
kept-at table marked us new p f k is h = (
  table-kept table us new p f is h.0,
  λ e. subst (λ (ks : List Upstream). HaveNoMarks ks) (sym (ap known_at is ∙ known-changed p f us)) (unmarked-at p f (known_at us) k (h.1 e)),
)

pub kept-each : (table : List (Option (ℕ × ℕ))) (marked : Bool) (us new : List UpstreamValue) (f : Upstream → Upstream) → MarksNone f → new ≡ map (seen_otherwise f) us →
    AreTold table marked us → AreTold table marked new
kept-each table marked us new f k is h = (
  subst (λ (ss : List (List ℕ)). IsTable table ss) (sym (ap senders_at is ∙ senders-mapped f us)) h.0,
  λ e. subst (λ (ks : List Upstream). HaveNoMarks ks) (sym (ap known_at is ∙ known-mapped f us)) (unmarked-each f (known_at us) k (h.1 e)),
)

-- one port is written
pub port-set : (us old : List UpstreamValue) (p : ℕ) (f : Upstream → Upstream) (u new : UpstreamValue) → us ≡ old → p < length old → u ≡ slice_index_or us p u → new ≡ seen_otherwise f u →
    slice_set us p new ≡ changed p (seen_otherwise f) us
port-set us old p f u new is low at made = set-changed us p (seen_otherwise f) u new (subst (λ (xs : List UpstreamValue). p < length xs) (sym is) low) at made
