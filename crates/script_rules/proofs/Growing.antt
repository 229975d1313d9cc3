-- Lists with a further element, or with one element changed, keep what holds of each of their elements.
use Rattle.std.proofs.Common.{◌≡◌, ℕ, zero, suc, ◌+◌, ◌≤◌, Bool, true, List, [], ◌∷◌, ◌++◌, length, refl, sym, ap, subst, ◌∙◌, arith}
use Rattle.std.specs.Prelude.{⊤, ◌&&◌, ◌==◌, nat_lt}
use Rattle.std.proofs.lemmas.Bool.{and_parts}
use Rattle.std.proofs.lemmas.List.{map_push, length-append}
use Rattle.std.proofs.lemmas.List.Folds.{list_all-append}
use Rattle.std.proofs.lemmas.List.Sums.{sum_by-cons, sum_by_push}
use Rattle.dpc_lists.specs.Lists.{nth, changed, list_all}
use Rattle.dpc_model.specs.Fragments.{IsSoundKind, AreSoundOps, AreSoundFrags}
use Rattle.dpc_model.specs.Streams.{IsOrdered}
use Rattle.dpc_model.specs.declared.tuples.Tuple.{Tuple}
use Rattle.dpc_model.specs.declared.operators.OpSpec.{OpSpec}
use Rattle.dpc_model.specs.declared.plans.SourceSpec.{SourceSpec}
use Rattle.dpc_model.specs.declared.plans.FragSpec.{FragSpec}
use Rattle.script_rules.specs.Drafts.{with_log, with_op}
use Rattle.script_rules.specs.Reasons.{last_time}
use Rattle.script_rules.specs.Facts.{log_fits}
use Rattle.script_rules.proofs.Ordered.{itself, ordered-push, ordered-map}
use Rattle.script_rules.proofs.Sources.{times_of, entries_of, no_source}
use Rattle.script_rules.proofs.AllSources.{AreOrdered}
use Rattle.script_rules.proofs.Streams.{is_within}
use Rattle.script_rules.proofs.Inputs.{EachReads}

pub all-push : {X : Type 0} (p : X → Bool) (xs : List X) (x : X) → list_all p xs ≡ true → p x ≡ true → list_all p (xs ++ x ∷ []) ≡ true
all-push p xs x h k = list_all-append p xs (x ∷ []) ∙ rw (h, k) refl

-- where the change keeps it
pub all-changed : {X : Type 0} (p : X → Bool) (f : X → X) (i : ℕ) (xs : List X) → ((x : X) → p (f x) ≡ p x) → list_all p xs ≡ true → list_all p (changed i f xs) ≡ true
all-changed p f i [] keeps h = refl
all-changed p f zero (x ∷ xs) keeps h = ap (λ b. b && list_all p xs) (keeps x) ∙ h
all-changed p f (suc i) (x ∷ xs) keeps h =
    let q = and_parts (p x) (list_all p xs) h in
    rw (q.0, all-changed p f i xs keeps q.1) refl

-- ---- logs

-- each log is in order of time
abbrev pub AreInTime : List SourceSpec → Type 0
AreInTime [] = ⊤
AreInTime (s ∷ rest) = IsOrdered itself (times_of s.log) × AreInTime rest

pub logs-changed : (end i : ℕ) (t : Tuple) (xs : List SourceSpec) → nat_lt t.stime end ≡ true → (length t.vals == (nth no_source xs i).columns) ≡ true →
    list_all (log_fits end) xs ≡ true → list_all (log_fits end) (changed i (with_log t) xs) ≡ true
logs-changed end i t [] below counted h = refl
logs-changed end zero t (s ∷ rest) below counted h =
    let p = and_parts (log_fits end s) (list_all (log_fits end) rest) h in
    let log : log_fits end (with_log t s) ≡ true = all-push (λ (x : Tuple). nat_lt x.stime end && length x.vals == s.columns) s.log t p.0 (rw (below, counted) refl) in
    rw (log, p.1) refl
logs-changed end (suc i) t (s ∷ rest) below counted h =
    let p = and_parts (log_fits end s) (list_all (log_fits end) rest) h in
    rw (p.0, logs-changed end i t rest below counted p.1) refl

pub in_time-push : (xs : List SourceSpec) (s : SourceSpec) → AreInTime xs → IsOrdered itself (times_of s.log) → AreInTime (xs ++ s ∷ [])
in_time-push [] s h k = (k, tt)
in_time-push (x ∷ xs) s h k = (h.0, in_time-push xs s h.1 k)

pub in_time-changed : (i : ℕ) (t : Tuple) (xs : List SourceSpec) → last_time (nth no_source xs i).log ≤ t.stime → AreInTime xs → AreInTime (changed i (with_log t) xs)
in_time-changed i t [] low h = tt
in_time-changed zero t (s ∷ rest) low h =
    let log : IsOrdered itself (times_of (s.log ++ t ∷ [])) = subst (IsOrdered itself) (sym (map_push (λ (x : Tuple). x.stime) s.log t)) (ordered-push (times_of s.log) t.stime h.0 low) in
    (log, h.1)
in_time-changed (suc i) t (s ∷ rest) low h = (h.0, in_time-changed i t rest low h.1)

pub in_order : (xs : List SourceSpec) → AreInTime xs → AreOrdered xs
in_order [] h = tt
in_order (s ∷ rest) h = (ordered-map (λ (t : Tuple). t.stime) s.log h.0, in_order rest h.1)

pub entries-push : (xs : List SourceSpec) (s : SourceSpec) → s.log ≡ [] → entries_of (xs ++ s ∷ []) ≡ entries_of xs
entries-push xs s none =
    let whole : entries_of (xs ++ s ∷ []) ≡ entries_of xs + length s.log = sum_by_push (λ (x : SourceSpec). length x.log) xs s in
    let no_entry : length s.log ≡ 0 = ap length none in
    omega (arith, whole, no_entry)

entries-first : (s : SourceSpec) (rest : List SourceSpec) → entries_of (s ∷ rest) ≡ length s.log + entries_of rest
entries-first s rest = sum_by-cons (λ (x : SourceSpec). length x.log) s rest

pub entries-changed : (i : ℕ) (t : Tuple) (xs : List SourceSpec) → entries_of (changed i (with_log t) xs) ≤ entries_of xs + 1
entries-changed i t [] = omega arith
entries-changed zero t (s ∷ rest) =
    let more : length (s.log ++ t ∷ []) ≡ length s.log + 1 = length-append s.log (t ∷ []) in
    let before = entries-first s rest in
    let after = entries-first (with_log t s) rest in
    omega (arith, more, before, after)
entries-changed (suc i) t (s ∷ rest) =
    let more = entries-changed i t rest in
    let before = entries-first s rest in
    let after = entries-first s (changed i (with_log t) rest) in
    omega (arith, more, before, after)

-- ---- fragments

pub reads-push : (sources n : ℕ) (fs : List FragSpec) (f : FragSpec) → EachReads sources n fs → list_all (is_within sources (n + length fs)) f.inputs ≡ true → EachReads sources n (fs ++ f ∷ [])
reads-push sources n [] f h k = let same : n + 0 ≡ n = omega arith in (subst (λ m. list_all (is_within sources m) f.inputs ≡ true) same k, tt)
reads-push sources n (g ∷ fs) f h k =
    let same : n + suc (length fs) ≡ (n + 1) + length fs = omega arith in
    (h.0, reads-push sources (n + 1) fs f h.1 (subst (λ m. list_all (is_within sources m) f.inputs ≡ true) same k))

pub reads-changed : (sources n i : ℕ) (g : FragSpec → FragSpec) (fs : List FragSpec) → ((f : FragSpec) → (g f).inputs ≡ f.inputs) → EachReads sources n fs → EachReads sources n (changed i g fs)
reads-changed sources n i g [] keeps h = tt
reads-changed sources n zero g (f ∷ fs) keeps h = (subst (λ inputs. list_all (is_within sources n) inputs ≡ true) (sym (keeps f)) h.0, h.1)
reads-changed sources n (suc i) g (f ∷ fs) keeps h = (h.0, reads-changed sources (n + 1) i g fs keeps h.1)

pub sound-push : (fs : List FragSpec) (f : FragSpec) → AreSoundFrags fs → AreSoundOps f.ops → AreSoundFrags (fs ++ f ∷ [])
sound-push [] f h k = (k, tt)
sound-push (g ∷ fs) f h k = (h.0, sound-push fs f h.1 k)

ops-push : (ops : List OpSpec) (op : OpSpec) → AreSoundOps ops → IsSoundKind op.kind → AreSoundOps (ops ++ op ∷ [])
ops-push [] op h k = (k, tt)
ops-push (x ∷ ops) op h k = (h.0, ops-push ops op h.1 k)

pub sound-changed : (i : ℕ) (g : FragSpec → FragSpec) (fs : List FragSpec) → ((f : FragSpec) → AreSoundOps f.ops → AreSoundOps (g f).ops) → AreSoundFrags fs → AreSoundFrags (changed i g fs)
sound-changed i g [] keeps h = tt
sound-changed zero g (f ∷ fs) keeps h = (keeps f h.0, h.1)
sound-changed (suc i) g (f ∷ fs) keeps h = (h.0, sound-changed i g fs keeps h.1)

-- a further operator that is sound
pub keeps_sound : (op : OpSpec) → IsSoundKind op.kind → (f : FragSpec) → AreSoundOps f.ops → AreSoundOps (with_op op f).ops
keeps_sound op k f h = ops-push f.ops op h k
