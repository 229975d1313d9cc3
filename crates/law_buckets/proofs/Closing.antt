-- Buckets are closed as they stand.
use Rattle.std.proofs.Common.{◌≡◌, ℕ, ◌+◌, ◌*◌, List, ◌++◌, length, drop, sym, refl, ◌∙◌, ap, arith, Some, append_assoc, length-append}
use Rattle.std.proofs.lemmas.Grind.{flat_map-append}
use Rattle.std.proofs.Math.Seq.{drop-append_seam}
use Rattle.dpc_model.specs.Operators.{all_of}
use Rattle.dpc_model.specs.Engines.{engine_value, AcceptsAll}
use Rattle.dpc_model.specs.Fragments.{AreSoundOps, fragment_value}
use Rattle.dpc_model.specs.Parts.{Inputs, processed, processed_and_closed, frontier_of}
use Rattle.dpc_model.specs.declared.tuples.Tagged.{Tagged}
use Rattle.dpc_model.specs.declared.operators.OpSpec.{OpSpec}
use Rattle.checkpoint_redo.specs.Keeping.{added_by}
use Rattle.law_buckets.specs.Series.{buckets_from, CanClose, after_closing_all}
use Rattle.law_buckets.specs.Laws.{BucketsClose}
use Rattle.law_buckets.proofs.Accepted.{buckets-accepted, accepts-append, count-buckets}
use Rattle.law_buckets.proofs.Ordered.{processed-ordered, processed-in-order}
use Rattle.law_buckets.proofs.Advancing.{value-more}

module _ (w : ℕ) (x : Inputs) (count : ℕ) where
  abbrev more : List (List Tagged)
  more = buckets_from w x (frontier_of x) count

  abbrev after : Inputs
  after = after_closing_all w count x

  pub inputs-close : processed_and_closed w after ≡ processed_and_closed w x ++ all_of more
  inputs-close =
      ap (λ (xs : List Tagged). processed w x ++ xs) (flat_map-append (λ (xs : List Tagged). xs) x.closed more)
      ∙ sym (append_assoc (processed w x) (all_of x.closed) (all_of more))

  pub view-closes : frontier_of after ≡ frontier_of x + count
  view-closes = omega (arith, length-append x.closed more, count-buckets w x (frontier_of x) count)

  pub more-accepted : CanClose w x count → AcceptsAll (Some w) (frontier_of x) more
  more-accepted h = buckets-accepted w x (frontier_of x) count h.end

  -- the value goes on behind the one before, whose first part is stable
  pub value-closes : (ops : List OpSpec) → AreSoundOps ops → CanClose w x count →
      fragment_value ops (processed_and_closed w after) (frontier_of after * w) ≡ fragment_value ops (processed_and_closed w x) (frontier_of x * w) ++ added_by (engine_value ops) w (processed_and_closed w x) more (frontier_of x)
  value-closes ops sound h =
      ap (λ (n : ℕ). fragment_value ops (processed_and_closed w after) (n * w)) view-closes
      ∙ ap (λ (xs : List Tagged). fragment_value ops xs ((frontier_of x + count) * w)) inputs-close
      ∙ value-more ops w (frontier_of x) (processed_and_closed w x) more count sound ((processed-in-order w x).1 h.placed) (more-accepted h) (count-buckets w x (frontier_of x) count)

  -- so the tentative output does
  pub tentative-closes : (ops : List OpSpec) → AreSoundOps ops → CanClose w x count → let stable = fragment_value ops (processed w x) (x.cursor * w) in
      drop (length stable) (fragment_value ops (processed_and_closed w after) (frontier_of after * w))
      ≡ drop (length stable) (fragment_value ops (processed_and_closed w x) (frontier_of x * w)) ++ added_by (engine_value ops) w (processed_and_closed w x) more (frontier_of x)
  tentative-closes ops sound h =
      let stable = fragment_value ops (processed w x) (x.cursor * w) in
      let tentative = added_by (engine_value ops) w (processed w x) x.closed x.cursor in
      let added = added_by (engine_value ops) w (processed_and_closed w x) more (frontier_of x) in
      let whole : fragment_value ops (processed_and_closed w x) (frontier_of x * w) ≡ stable ++ tentative =
      value-more ops w x.cursor (processed w x) x.closed (length x.closed) sound (processed-ordered w x) h.placed refl in
      rw (value-closes ops sound h, whole, append_assoc stable tentative added, drop-append_seam stable (tentative ++ added), drop-append_seam stable tentative) refl

pub buckets-close : BucketsClose
buckets-close ops w passing x count h =
    let more = buckets_from w x (frontier_of x) count in
    let after = after_closing_all w count x in
    record {
      accepted = more-accepted w x count h;
      placed = accepts-append w x.cursor x.closed more h.placed (more-accepted w x count h);
      inputs = inputs-close w x count;
      stream = λ sound. rw (tentative-closes w x count ops sound h, view-closes w x count) refl;
    }
