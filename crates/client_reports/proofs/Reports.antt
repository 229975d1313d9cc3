-- The lists behind the loops, and that what the code's clients tell is what the plain ones tell.
use Rattle.std.proofs.Common.{◌≡◌, ℕ, ◌+◌, zero, suc, List, [], ◌∷◌, ◌++◌, length, take, map, Some, min, ◌<◌, ◌≤◌, refl, sym, ap, ◌∙◌, arith}
use Rattle.std.proofs.lemmas.List.{append_assoc, append-nil, map-append, map_push, flat_map_more}
use Rattle.std.proofs.lemmas.List.Concat.{flat_map-append}
use Rattle.std.proofs.lemmas.List.Folds.{flat_map-map}
use Rattle.std.proofs.lemmas.Option.{slice_get_read}
use Rattle.std.specs.Prelude.{flat_map, zip, slice_get, get_or}
use Rattle.dpc_model.specs.Words.{text_of, line_of}
use Rattle.dpc_model.specs.Inlets.{InletState}
use Rattle.dpc_model.specs.Reading.{is_settled}
use Rattle.dpc_model.specs.declared.tuples.Item.{Item}
use Rattle.dpc_model.specs.declared.plans.ClientSpec.{ClientSpec}
use Rattle.dpc_model.specs.declared.plans.Plan.{Plan}
use Rattle.report.specs.declared.text.Summary.{Summary}
use Rattle.report.specs.Text.{item_words, summary_of, summary_words, client_lines, client_text, client_short}
use Rattle.node_model.specs.Clients.{ClientState, reader_of}
use Rattle.client_fold.specs.Folding.{ClientValue, StandsForClient, StandForClients, all_taken}
use Rattle.client_reports.specs.Json.{client_data, data_of}
use Rattle.client_reports.specs.Telling.{summary_by, text_by, short_by, data_by, named}

-- ---- lists

-- one more client
named-more : (specs : List ClientSpec) (vs : List ClientValue) (i : ℕ) (s : ClientSpec) (v : ClientValue) → slice_get specs i ≡ Some s → slice_get vs i ≡ Some v →
    named (take (suc i) specs) (take (suc i) vs) ≡ named (take i specs) (take i vs) ++ (s.name, v) ∷ []
named-more [] vs i s v a b = cc
named-more (t ∷ specs) [] i s v a b = cc
named-more (t ∷ specs) (w ∷ vs) zero s v a b =
    let spec : t ≡ s = cc in
    let value : w ≡ v = cc in rw (spec, value) refl
named-more (t ∷ specs) (w ∷ vs) (suc i) s v a b = ap (λ cs. (t.name, w) ∷ cs) (named-more specs vs i s v a b)

-- as a loop over both lists meets it: at an index below the shorter one, with the name and the client that it read
module _ (specs : List ClientSpec) (vs : List ClientValue) (i : ℕ) (s : ClientSpec) (v : ClientValue) (name : List ℕ) (low : i < min (length specs) (length vs)) (spec : s ≡ get_or specs i s) (client : v ≡ get_or vs i v) (its_name : name ≡ (get_or specs i s).name) where
  named-next : named (take i specs) (take i vs) ++ (name, v) ∷ [] ≡ named (take (i + 1) specs) (take (i + 1) vs)
  named-next =
      let next : i + 1 ≡ suc i = omega arith in
      let same : name ≡ s.name = its_name ∙ ap (λ (t : ClientSpec). t.name) (sym spec) in
      rw (next, same) (sym (named-more specs vs i s v (slice_get_read specs (length specs) i s refl (omega (arith, low)) spec) (slice_get_read vs (length vs) i v refl (omega (arith, low)) client)))

  pub named-grows : (f : List ℕ × ClientValue → List ℕ) (old : List ℕ) → (old ++ flat_map f (named (take i specs) (take i vs))) ++ f (name, v) ≡ old ++ flat_map f (named (take (i + 1) specs) (take (i + 1) vs))
  named-grows f old = flat_map_more f old (named (take i specs) (take i vs)) (name, v) ∙ ap (λ cs. old ++ flat_map f cs) named-next

  pub mapped-grows : {X : Type 0} (f : List ℕ × ClientValue → X) → map f (named (take i specs) (take i vs)) ++ f (name, v) ∷ [] ≡ map f (named (take (i + 1) specs) (take (i + 1) vs))
  mapped-grows f = sym (map_push f (named (take i specs) (take i vs)) (name, v)) ∙ ap (map f) named-next

-- and none more behind the shorter of both
pub named-whole : (specs : List ClientSpec) (vs : List ClientValue) (i : ℕ) → min (length specs) (length vs) ≤ i → named (take i specs) (take i vs) ≡ named specs vs
named-whole [] vs zero past = refl
named-whole [] vs (suc i) past = refl
named-whole (s ∷ specs) [] zero past = refl
named-whole (s ∷ specs) [] (suc i) past = refl
named-whole (s ∷ specs) (v ∷ vs) zero past = absurd (omega (arith, past))
named-whole (s ∷ specs) (v ∷ vs) (suc i) past = ap (λ cs. (s.name, v) ∷ cs) (named-whole specs vs i (omega (arith, past)))

one-more : (xs : List (List Item)) (i : ℕ) (items : List Item) → slice_get xs i ≡ Some items → all_taken (take i xs) ++ items ≡ all_taken (take (suc i) xs)
one-more [] i items e = cc
one-more (x ∷ xs) zero items e =
    let same : x ≡ items = cc in rw same (sym (append-nil items))
one-more (x ∷ xs) (suc i) items e = append_assoc x (all_taken (take i xs)) items ∙ ap (λ (ts : List Item). x ++ ts) (one-more xs i items e)

-- the items of one batch more
pub mapped-more : {X : Type 0} (f : Item → X) (xs : List (List Item)) (i : ℕ) (items : List Item) → slice_get xs i ≡ Some items →
    map f (all_taken (take i xs)) ++ map f items ≡ map f (all_taken (take (suc i) xs))
mapped-more f xs i items e = sym (map-append f (all_taken (take i xs)) items) ∙ ap (map f) (one-more xs i items e)

pub taken-more : (old : List ℕ) (xs : List (List Item)) (i : ℕ) (items : List Item) → slice_get xs i ≡ Some items →
    (old ++ text_of (map item_words (all_taken (take i xs)))) ++ text_of (map item_words items) ≡ old ++ text_of (map item_words (all_taken (take (suc i) xs)))
taken-more old xs i items e =
    append_assoc old (text_of (map item_words (all_taken (take i xs)))) (text_of (map item_words items))
    ∙ ap (λ (t : List ℕ). old ++ t) (sym (flat_map-append line_of (map item_words (all_taken (take i xs))) (map item_words items)) ∙ ap text_of (mapped-more item_words xs i items e))

-- ---- what stands for what

pub same-summary : (plan : Plan) (c : ℕ) (v : ClientValue) (x : ClientState) → StandsForClient plan c v x → summary_by v ≡ summary_of plan.end (reader_of x)
same-summary plan c v x h =
    let kept = h.inlet.1 in
    let tells : ℕ → ℕ → InletState → Summary = λ n end i. record { stable = n; bound = i.held.bound; tentative = length i.held.tentative; settled = is_settled end i.held } in
    ap (λ n. tells n v.end v.inlet.state) kept.count ∙ ap (λ e. tells (length x.port.inlet.held.stable) e v.inlet.state) h.end ∙ ap (tells (length x.port.inlet.held.stable) plan.end) kept.rest

text-same : (plan : Plan) (c : ℕ) (s : ClientSpec) (v : ClientValue) (x : ClientState) → StandsForClient plan c v x → text_by (s.name, v) ≡ client_text plan (s, x)
text-same plan c s v x h =
    ap (λ (items : List Item). text_of (client_lines s.name items (summary_by v))) h.taken ∙ ap (λ (told : Summary). text_of (client_lines s.name x.taken told)) (same-summary plan c v x h)

short-same : (plan : Plan) (c : ℕ) (s : ClientSpec) (v : ClientValue) (x : ClientState) → StandsForClient plan c v x → short_by (s.name, v) ≡ client_short plan (s, x)
short-same plan c s v x h = ap (λ (told : Summary). line_of (summary_words s.name told)) (same-summary plan c v x h)

data-same : (plan : Plan) (c : ℕ) (s : ClientSpec) (v : ClientValue) (x : ClientState) → StandsForClient plan c v x → data_by (s.name, v) ≡ data_of plan (s, x)
data-same plan c s v x h =
    ap (λ (items : List Item). client_data s.name items (summary_by v)) h.taken ∙ ap (λ (told : Summary). client_data s.name x.taken told) (same-summary plan c v x h)

-- what is told of each of the code's clients is told of the plain one
abbrev TellsAlike : {X : Type 0} → (List ℕ × ClientValue → X) → (ClientSpec × ClientState → X) → Plan → Type 0
TellsAlike f g plan = (c : ℕ) (s : ClientSpec) (v : ClientValue) (x : ClientState) → StandsForClient plan c v x → f (s.name, v) ≡ g (s, x)

-- .. and so of all of them
all-same : {X : Type 0} (f : List ℕ × ClientValue → X) (g : ClientSpec × ClientState → X) (plan : Plan) → TellsAlike f g plan → (c : ℕ) (specs : List ClientSpec) (vs : List ClientValue) (xs : List ClientState) →
    StandForClients plan c vs xs → map f (named specs vs) ≡ map g (zip specs xs)
all-same f g plan each c [] vs xs h = refl
all-same f g plan each c (s ∷ specs) [] [] h = refl
all-same f g plan each c (s ∷ specs) (v ∷ vs) (x ∷ xs) h = rw (each c s v x h.0, all-same f g plan each (c + 1) specs vs xs h.1) refl
all-same f g plan each c (s ∷ specs) [] (x ∷ xs) h = absurd h
all-same f g plan each c (s ∷ specs) (v ∷ vs) [] h = absurd h

-- .. one behind another
behind-same : (f : List ℕ × ClientValue → List ℕ) (g : ClientSpec × ClientState → List ℕ) (plan : Plan) → TellsAlike f g plan → (c : ℕ) (specs : List ClientSpec) (vs : List ClientValue) (xs : List ClientState) →
    StandForClients plan c vs xs → flat_map f (named specs vs) ≡ flat_map g (zip specs xs)
behind-same f g plan each c specs vs xs h =
    let whole : List ℕ → List ℕ = λ t. t in
    sym (flat_map-map whole f (named specs vs)) ∙ ap (flat_map whole) (all-same f g plan each c specs vs xs h) ∙ flat_map-map whole g (zip specs xs)

pub texts-same : (plan : Plan) (c : ℕ) (specs : List ClientSpec) (vs : List ClientValue) (xs : List ClientState) → StandForClients plan c vs xs →
    flat_map text_by (named specs vs) ≡ flat_map (client_text plan) (zip specs xs)
texts-same plan = behind-same text_by (client_text plan) plan (text-same plan)

pub shorts-same : (plan : Plan) (c : ℕ) (specs : List ClientSpec) (vs : List ClientValue) (xs : List ClientState) → StandForClients plan c vs xs →
    flat_map short_by (named specs vs) ≡ flat_map (client_short plan) (zip specs xs)
shorts-same plan = behind-same short_by (client_short plan) plan (short-same plan)

pub data-all-same : (plan : Plan) (c : ℕ) (specs : List ClientSpec) (vs : List ClientValue) (xs : List ClientState) → StandForClients plan c vs xs →
    map data_by (named specs vs) ≡ map (data_of plan) (zip specs xs)
data-all-same plan = all-same data_by (data_of plan) plan (data-same plan)
