-- The frames behind the loops, and that what the code's clients tell is what the plain ones tell.
use Rattle.std.proofs.Common.{◌≡◌, ℕ, ◌+◌, zero, suc, List, [], ◌∷◌, ◌++◌, take, map, Some, refl, sym, ap, ◌∙◌, arith}
use Rattle.std.proofs.lemmas.List.{append_assoc, append-nil}
use Rattle.std.proofs.lemmas.List.Concat.{flat_map-append}
use Rattle.std.proofs.lemmas.List.Folds.{flat_map-map}
use Rattle.std.specs.Prelude.{flat_map, slice_get}
use Rattle.dpc_model.specs.declared.plans.Plan.{Plan}
use Rattle.dpc_model.specs.declared.tuples.Item.{Item}
use Rattle.report.specs.declared.text.Summary.{Summary}
use Rattle.report.specs.Text.{summary_of}
use Rattle.node_model.specs.Clients.{ClientState, reader_of}
use Rattle.stream_codec.specs.Frames.{frame_bytes}
use Rattle.stream_codec.specs.declared.frames.Frame.TheVariants as frame
use Rattle.frame_lists.specs.Lists.{item_frames}
use Rattle.client_fold.specs.Folding.{ClientValue, StandForClients, all_taken}
use Rattle.client_reports.proofs.Reports.{mapped-more, same-summary}
use Rattle.client_reports.specs.Telling.{summary_by}
use Rattle.client_frames.specs.Framed.{client_frames, all_client_frames, frames_by, all_frames_by}

-- ---- the items of one batch more

abbrev item_frame : Item → List ℕ
item_frame i = frame_bytes (frame.Item i)

abbrev whole : List ℕ → List ℕ
whole t = t

by-pieces : (items : List Item) → item_frames items ≡ flat_map whole (map item_frame items)
unfolding item_frames
by-pieces items = sym (flat_map-map whole item_frame items)

pub taken-more : (old : List ℕ) (xs : List (List Item)) (i : ℕ) (items : List Item) → slice_get xs i ≡ Some items →
    (old ++ item_frames (all_taken (take i xs))) ++ item_frames items ≡ old ++ item_frames (all_taken (take (suc i) xs))
taken-more old xs i items e =
    append_assoc old (item_frames (all_taken (take i xs))) (item_frames items)
    ∙ ap (λ (t : List ℕ). old ++ (t ++ item_frames items)) (by-pieces (all_taken (take i xs)))
    ∙ ap (λ (t : List ℕ). old ++ (flat_map whole (map item_frame (all_taken (take i xs))) ++ t)) (by-pieces items)
    ∙ ap (λ (t : List ℕ). old ++ t) (sym (flat_map-append whole (map item_frame (all_taken (take i xs))) (map item_frame items)))
    ∙ ap (λ (l : List (List ℕ)). old ++ flat_map whole l) (mapped-more item_frame xs i items e)
    ∙ ap (λ (t : List ℕ). old ++ t) (sym (by-pieces (all_taken (take (suc i) xs))))

pub none-taken : (old : List ℕ) → old ≡ old ++ item_frames []
unfolding item_frames
none-taken old = sym (append-nil old)

-- ---- one client more

frames-next : (c : ℕ) (vs : List ClientValue) (i : ℕ) (v : ClientValue) → slice_get vs i ≡ Some v →
    all_frames_by c (take i vs) ++ frames_by (c + i) v ≡ all_frames_by c (take (suc i) vs)
frames-next c [] i v e = cc
frames-next c (w ∷ vs) zero v e =
    let same : w ≡ v = cc in
    let here : c + zero ≡ c = omega arith in
    rw (same, here) (sym (append-nil (frames_by c v)))
frames-next c (w ∷ vs) (suc i) v e =
    let there : c + suc i ≡ (c + 1) + i = omega arith in
    rw there (append_assoc (frames_by c w) (all_frames_by (c + 1) (take i vs)) (frames_by ((c + 1) + i) v)
    ∙ ap (λ (t : List ℕ). frames_by c w ++ t) (frames-next (c + 1) vs i v e))

pub clients-more : (old : List ℕ) (vs : List ClientValue) (i : ℕ) (v : ClientValue) → slice_get vs i ≡ Some v →
    (old ++ all_frames_by 0 (take i vs)) ++ frames_by i v ≡ old ++ all_frames_by 0 (take (suc i) vs)
clients-more old vs i v e =
    let here : 0 + i ≡ i = omega arith in
    ap (λ (n : ℕ). (old ++ all_frames_by 0 (take i vs)) ++ frames_by n v) (sym here)
    ∙ append_assoc old (all_frames_by 0 (take i vs)) (frames_by (0 + i) v) ∙ ap (λ (t : List ℕ). old ++ t) (frames-next 0 vs i v e)

-- ---- what stands for what

pub frames-same : (plan : Plan) (c : ℕ) (vs : List ClientValue) (xs : List ClientState) → StandForClients plan c vs xs →
    all_frames_by c vs ≡ all_client_frames plan.end c xs
frames-same plan c [] [] h = refl
frames-same plan c (v ∷ vs) (x ∷ xs) h =
    ap (λ (items : List Item). client_frames c items (summary_by v) ++ all_frames_by (c + 1) vs) h.0.taken
    ∙ ap (λ (told : Summary). client_frames c x.taken told ++ all_frames_by (c + 1) vs) (same-summary plan c v x h.0)
    ∙ ap (λ (t : List ℕ). client_frames c x.taken (summary_of plan.end (reader_of x)) ++ t) (frames-same plan (c + 1) vs xs h.1)
frames-same plan c [] (x ∷ xs) h = absurd h
frames-same plan c (v ∷ vs) [] h = absurd h
