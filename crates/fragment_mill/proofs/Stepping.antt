-- One stage over one bucket: what it reads, and what it adds.
use Rattle.std.proofs.Common.{◌≡◌, ℕ, ◌+◌, ◌*◌, ◌≤◌, List, [], ◌++◌, map, length, drop, refl, sym, ◌∙◌, ap, subst, arith, nat_le, All, Bool}
use Rattle.std.proofs.lemmas.Grind.{common_steps}
use Rattle.std.proofs.lemmas.List.{length-map}
use Rattle.std.proofs.Math.Seq.{drop-append_seam}
use Rattle.dpc_model.specs.Streams.{IsOrdered, cut, is_below, cut_each, time_of}
use Rattle.dpc_model.specs.Engines.{IsBucket, LiesIn, LiesBelow, from_time, engine_value}
use Rattle.dpc_model.specs.Operators.{output_of}
use Rattle.dpc_model.specs.Fragments.{tagged_from, cut_tagged, read_wire, outputs_after, AreSoundOps, serial}
use Rattle.dpc_model.specs.declared.tuples.Tuple.{Tuple}
use Rattle.dpc_model.specs.declared.tuples.Tagged.{Tagged}
use Rattle.dpc_model.specs.declared.operators.OpSpec.{OpSpec}
use Rattle.dpc_model.specs.declared.operators.Wire.{Wire}
use Rattle.dpc_model.proofs.Buckets.{from_tagged, cut-below, cut-before, LiesBelow-next, inputs-ordered, after-begin, cut-inside}
use Rattle.dpc_model.proofs.Causality.{IsOrdered-sort, filter-filter}
use Rattle.dpc_model.proofs.IdealCausality.{cut-output_of, cut-outputs_after}
use Rattle.dpc_model.proofs.Order.{reads-InOrder, outputs-InOrder, output_of-InOrder, tagged_time}
use Rattle.dpc_model.proofs.Cuts.{ordered-split}
use Rattle.dpc_model.proofs.Kept.{kept, kept_each, reads-kept, serial-kept}
use Rattle.dpc_model.proofs.Serial.{serial-is, serial-adjacent}
use Rattle.fragment_mill.specs.Mills.{kind_of, operators_of, inputs_of}
use Rattle.fragment_mill.specs.Milling.{added_of, IsFit}
use Rattle.fragment_mill.specs.declared.mill.Stage.{Stage}
use Rattle.fragment_mill.proofs.Operators.{added-fit}

-- what a test of the tuples keeps of the inputs of an operator
pub inputs-kept : (test : Tuple → Bool) (xs : List Tagged) (outs : List (List Tuple)) (ws : List Wire) → kept test (inputs_of xs outs ws) ≡ inputs_of (kept test xs) (kept_each test outs) ws
inputs-kept test xs outs ws = serial-kept test (map (read_wire xs outs) ws) ∙ ap (λ (yss : List (List Tuple)). serial yss) (reads-kept test xs outs ws)

-- ---- a stage behind these operators

module _ (w k : ℕ) (before inputs : List Tagged) (ops : List OpSpec) (s : Stage) (below : All (LiesBelow (k * w)) before) (inorder : IsOrdered tagged_time before)
    (bucket : IsBucket w k inputs) (sound : AreSoundOps ops) where
  -- what the operators gave up to the begin of the bucket, and up to its end
  abbrev stood : List (List Tuple)
  stood = outputs_after [] ops before (k * w)

  abbrev given : List (List Tuple)
  given = outputs_after [] ops (before ++ inputs) ((k + 1) * w)

  -- what they gave in the bucket
  abbrev added : List (List Tuple)
  added = map (λ (ts : List Tuple). from_time (k * w) ts) given

  later : k * w ≤ (k + 1) * w
  later = grind (arith, common_steps)

  given-cut : cut_each (k * w) given ≡ stood
  given-cut =
      cut-outputs_after [] ops (before ++ inputs) (k * w) ((k + 1) * w) sound later
      ∙ ap (λ (xs : List Tagged). outputs_after [] ops xs (k * w)) (cut-before w k before inputs below bucket.inside)

  -- what the stage reads before the bucket, and in it
  reads-before : cut_tagged (k * w) (inputs_of (before ++ inputs) given s.reads) ≡ inputs_of before stood s.reads
  reads-before = inputs-kept (is_below (k * w)) (before ++ inputs) given s.reads ∙ rw (cut-before w k before inputs below bucket.inside, given-cut) refl

  reads-added : from_tagged (k * w) (inputs_of (before ++ inputs) given s.reads) ≡ inputs_of inputs added s.reads
  reads-added = inputs-kept (λ (t : Tuple). nat_le (k * w) t.stime) (before ++ inputs) given s.reads ∙ rw (after-begin w k before inputs below bucket.inside) refl

  pub inputs-split : inputs_of before stood s.reads ++ inputs_of inputs added s.reads ≡ inputs_of (before ++ inputs) given s.reads
  inputs-split =
      rw (← reads-before, ← reads-added)
      (sym (ordered-split tagged_time (k * w) (inputs_of (before ++ inputs) given s.reads) (IsOrdered-sort tagged_time (tagged_from 0 (map (read_wire (before ++ inputs) given) s.reads)))))

  -- all that it reads lies below the end of the bucket
  reads-end : cut_tagged ((k + 1) * w) (inputs_of (before ++ inputs) given s.reads) ≡ inputs_of (before ++ inputs) given s.reads
  reads-end =
      let end = (k + 1) * w in
      let whole = cut-below end (before ++ inputs) (LiesBelow-next w k before inputs below bucket.inside) in
      let same : cut_each end given ≡ given = cut-outputs_after [] ops (before ++ inputs) end end sound (omega arith) ∙ ap (λ (xs : List Tagged). outputs_after [] ops xs end) whole in
      inputs-kept (is_below end) (before ++ inputs) given s.reads ∙ rw (whole, same) refl

  pub added-bucket : IsBucket w k (inputs_of inputs added s.reads)
  added-bucket = record {
    inside =
        let whole = inputs_of (before ++ inputs) given s.reads in
        let from : cut_tagged ((k + 1) * w) (from_tagged (k * w) whole) ≡ inputs_of inputs added s.reads =
        filter-filter (λ (x : Tagged). is_below ((k + 1) * w) x.tuple) (λ (x : Tagged). nat_le (k * w) x.tuple.stime) whole ∙ ap (λ (ys : List Tagged). from_tagged (k * w) ys) reads-end ∙ reads-added in
        subst (λ (ys : List Tagged). All (LiesIn w k) ys) from (cut-inside w k whole);
    ordered = serial-adjacent (inputs_of inputs added s.reads) (serial-is (map (read_wire inputs added) s.reads));
  }

  -- what the stage adds is what its whole output has from the begin of the bucket on
  pub added-output : IsFit w s → added_of s.operator (inputs_of before stood s.reads) (inputs_of inputs added s.reads) k
      ≡ from_time (k * w) (output_of (kind_of s.operator) (map (read_wire (before ++ inputs) given) s.reads) ((k + 1) * w))
  added-output fit =
      let kind = kind_of s.operator in
      let ins = map (read_wire (before ++ inputs) given) s.reads in
      let ins' = map (read_wire before stood) s.reads in
      let ordered = inputs-ordered w k before inputs inorder below bucket in
      let ordered-ins = reads-InOrder (before ++ inputs) given s.reads ordered (outputs-InOrder [] ops (before ++ inputs) ((k + 1) * w) ordered tt) in
      let ordered-ins' = reads-InOrder before stood s.reads inorder (outputs-InOrder [] ops before (k * w) inorder tt) in
      let whole = output_of kind ins ((k + 1) * w) in
      let cut-ins : cut_each (k * w) ins ≡ ins' =
      reads-kept (is_below (k * w)) (before ++ inputs) given s.reads ∙ rw (cut-before w k before inputs below bucket.inside, given-cut) refl in
      let old : engine_value (operators_of s.operator) (inputs_of before stood s.reads) (k * w) ≡ cut whole (k * w) =
      fit.makes ins' (k * w) (length-map s.reads (read_wire before stood)) ordered-ins'
      ∙ ap (λ (yss : List (List Tuple)). output_of kind yss (k * w)) (sym cut-ins) ∙ sym (cut-output_of kind ins (k * w) ((k + 1) * w) fit.sound later) in
      let new : engine_value (operators_of s.operator) (inputs_of before stood s.reads ++ inputs_of inputs added s.reads) ((k + 1) * w) ≡ whole =
      ap (λ (ys : List Tagged). engine_value (operators_of s.operator) ys ((k + 1) * w)) inputs-split ∙ fit.makes ins ((k + 1) * w) (length-map s.reads (read_wire (before ++ inputs) given)) ordered-ins in
      added-fit w k s.operator (inputs_of before stood s.reads) (inputs_of inputs added s.reads) fit.width
      ∙ rw (old, new)
      (ap (λ (ts : List Tuple). drop (length (cut whole (k * w))) ts) (ordered-split time_of (k * w) whole (output_of-InOrder kind ins ((k + 1) * w) ordered-ins))
      ∙ drop-append_seam (cut whole (k * w)) (from_time (k * w) whole))
