-- The lines of a stream, one bucket more, and of clients, one more.
use Rattle.std.proofs.Common.{◌≡◌, ℕ, ◌+◌, ◌*◌, ◌<◌, ◌≤◌, List, [], ◌∷◌, ◌++◌, length, take, drop, get_or, flat_map, map, refl, sym, ◌∙◌, ap, arith, append_assoc, nat_le}
use Rattle.std.specs.Prelude.{codes}
use Rattle.std.proofs.lemmas.Grind.{common_steps}
use Rattle.std.proofs.lemmas.List.{take_more, append-nil, length-append, map-append, take-append-drop}
use Rattle.std.proofs.lemmas.List.Concat.{flat_map-append}
use Rattle.dpc_model.specs.Words.{Word, line_of, text_of}
use Rattle.dpc_model.specs.Streams.{cut, InOrder, time_of, is_below}
use Rattle.dpc_model.specs.Engines.{from_time}
use Rattle.dpc_model.specs.Fragments.{ideal}
use Rattle.dpc_model.specs.Sessions.{stable_items}
use Rattle.dpc_model.specs.declared.tuples.Item.{Item}
use Rattle.dpc_model.specs.declared.tuples.Item.TheVariants.{Stable}
use Rattle.dpc_model.specs.declared.tuples.Tuple.{Tuple}
use Rattle.dpc_model.specs.declared.plans.ClientSpec.{ClientSpec}
use Rattle.dpc_model.specs.declared.plans.Plan.{Plan}
use Rattle.dpc_model.specs.declared.plans.StreamRef.{StreamRef}
use Rattle.dpc_model.proofs.Causality.{filter-filter}
use Rattle.dpc_model.proofs.WindowCausality.{filter-implied}
use Rattle.dpc_model.proofs.Cuts.{none-below, none_below-zero, ordered-split}
use Rattle.dpc_model.proofs.Order.{IsOrdered-filter, ideal_upto-InOrder}
use Rattle.dpc_model.proofs.IdealCausality.{cut-ideal_upto}
use Rattle.report.specs.Text.{item_words, stream_lines, total_words, ideal_text}
use Rattle.ideal_run.specs.Buckets.{bucket_of, numbered, client_text}
use Rattle.ideal_run.specs.IdealPlans.{IsIdealPlan}

-- ---- numbered tuples

stable_items-append : (n : ℕ) (ts us : List Tuple) → stable_items n (ts ++ us) ≡ stable_items n ts ++ stable_items (n + length ts) us
stable_items-append n [] us = let none : n + 0 ≡ n = omega arith in rw none refl
stable_items-append n (t ∷ ts) us =
    let next : n + length (t ∷ ts) ≡ n + 1 + length ts = omega arith in
    rw next (ap (λ (items : List Item). Stable n t ∷ items) (stable_items-append (n + 1) ts us))

pub numbered-append : (n : ℕ) (ts us : List Tuple) → numbered n (ts ++ us) ≡ numbered n ts ++ numbered (n + length ts) us
numbered-append n ts us =
    ap text_of (ap (map item_words) (stable_items-append n ts us) ∙ map-append item_words (stable_items n ts) (stable_items (n + length ts) us))
    ∙ flat_map-append line_of (map item_words (stable_items n ts)) (map item_words (stable_items (n + length ts) us))

pub numbered-more : (ts us : List Tuple) → numbered 0 ts ++ numbered (length ts) us ≡ numbered 0 (ts ++ us)
numbered-more ts us =
    let zero-first : 0 + length ts ≡ length ts = omega arith in
    sym (flat_map-append line_of (map item_words (stable_items 0 ts)) (map item_words (stable_items (length ts) us)))
    ∙ ap text_of (sym (map-append item_words (stable_items 0 ts) (stable_items (length ts) us)) ∙ ap (map item_words) (sym (rw zero-first at (stable_items-append 0 ts us))))

-- ---- the buckets of a stream

pub cut-next : (w k : ℕ) (ts : List Tuple) → InOrder ts → cut ts (k * w) ++ cut (from_time (k * w) ts) ((k + 1) * w) ≡ cut ts ((k + 1) * w)
cut-next w k ts o =
    let later : k * w ≤ (k + 1) * w = grind (arith, common_steps) in
    let early : cut (cut ts ((k + 1) * w)) (k * w) ≡ cut ts (k * w) = filter-implied (is_below (k * w)) (is_below ((k + 1) * w)) (λ t e. grind (arith, common_steps, later)) ts in
    ap (λ (us : List Tuple). us ++ cut (from_time (k * w) ts) ((k + 1) * w)) (sym early)
    ∙ ap (λ (us : List Tuple). cut (cut ts ((k + 1) * w)) (k * w) ++ us) (filter-filter (is_below ((k + 1) * w)) (λ (t : Tuple). nat_le (k * w) t.stime) ts)
    ∙ sym (ordered-split time_of (k * w) (cut ts ((k + 1) * w)) (IsOrdered-filter time_of (is_below ((k + 1) * w)) ts o))

-- ---- a client's text

abbrev pub name_words : ClientSpec → List Word
name_words c = codes "client" ∷ c.name ∷ []

pub ideal-ordered : (plan : Plan) (s : StreamRef) → IsIdealPlan plan → InOrder (ideal plan s)
unfolding ideal
ideal-ordered plan s h = ideal_upto-InOrder plan s plan.end h.sound.logs

pub ideal-cut : (plan : Plan) (s : StreamRef) → IsIdealPlan plan → cut (ideal plan s) plan.end ≡ ideal plan s
unfolding ideal
ideal-cut plan s h = cut-ideal_upto plan s plan.end plan.end h.sound.ops (omega arith)

pub none-early : (w : ℕ) (ts : List Tuple) → InOrder ts → cut ts (0 * w) ≡ []
none-early w ts o = let none : 0 * w ≡ 0 = omega arith in rw none (none-below time_of 0 0 ts (omega arith) (none_below-zero time_of ts))

pub whole-text : (c : ClientSpec) (ts : List Tuple) → text_of (stream_lines c.name ts) ≡ (line_of (name_words c) ++ numbered 0 ts) ++ line_of (total_words (length ts))
whole-text c ts =
    ap (λ (xs : List ℕ). line_of (name_words c) ++ xs)
    (flat_map-append line_of (map item_words (stable_items 0 ts)) (total_words (length ts) ∷ [])
    ∙ ap (λ (xs : List ℕ). numbered 0 ts ++ xs) (append-nil (line_of (total_words (length ts)))))
    ∙ sym (append_assoc (line_of (name_words c)) (numbered 0 ts) (line_of (total_words (length ts))))

-- ---- clients

-- the lines of some clients
abbrev pub clients_text : Plan → List ClientSpec → List ℕ
clients_text plan cs = text_of (flat_map (λ (c : ClientSpec). stream_lines c.name (ideal plan c.input)) cs)

clients-append : (plan : Plan) (cs ds : List ClientSpec) → clients_text plan (cs ++ ds) ≡ clients_text plan cs ++ clients_text plan ds
clients-append plan cs ds =
    ap text_of (flat_map-append (λ (c : ClientSpec). stream_lines c.name (ideal plan c.input)) cs ds)
    ∙ flat_map-append line_of (flat_map (λ (c : ClientSpec). stream_lines c.name (ideal plan c.input)) cs) (flat_map (λ (c : ClientSpec). stream_lines c.name (ideal plan c.input)) ds)

one-client : (plan : Plan) (c : ClientSpec) → clients_text plan (c ∷ []) ≡ client_text plan c
one-client plan c = ap text_of (append-nil (stream_lines c.name (ideal plan c.input)))

-- one client more
pub clients-more : (plan : Plan) (i : ℕ) (c : ClientSpec) → i < length plan.clients → c ≡ get_or plan.clients i c →
    clients_text plan (take i plan.clients) ++ client_text plan c ≡ clients_text plan (take (i + 1) plan.clients)
clients-more plan i c low at =
    ap (λ (xs : List ℕ). clients_text plan (take i plan.clients) ++ xs) (sym (one-client plan c))
    ∙ sym (clients-append plan (take i plan.clients) (c ∷ []))
    ∙ ap (λ (d : ClientSpec). clients_text plan (take i plan.clients ++ d ∷ [])) at
    ∙ ap (clients_text plan) (sym (take_more plan.clients i c low))

-- the first ones are a beginning of all
pub clients-some : (plan : Plan) (i : ℕ) → (rest : List ℕ) × (ideal_text plan ≡ clients_text plan (take i plan.clients) ++ rest)
unfolding ideal_text
clients-some plan i =
    (clients_text plan (drop i plan.clients), ap (clients_text plan) (sym (take-append-drop i plan.clients)) ∙ clients-append plan (take i plan.clients) (drop i plan.clients))

pub clients-all : (plan : Plan) → clients_text plan plan.clients ≡ ideal_text plan
unfolding ideal_text
clients-all plan = refl
