use Rattle.std.proofs.Common.{◌≡◌, ℕ, ◌<◌, false, [], get_or, All}
use Rattle.fragment_mill.specs.Mills.{spent_of, OperatorAfter, specs_of}
use Rattle.fragment_mill.specs.Milling.{IsFit}
use Rattle.fragment_mill.specs.declared.mill.Stage.{Stage}
use Rattle.fragment_mill.proofs.mill.reset_all.Given as goal

abbrev pub invariant-loop-stage : goal.invariant-loop-stage
invariant-loop-stage l = record {
  specs : specs_of l.stages ≡ specs_of l.fn.stages;
  fits : (width : ℕ) → All (IsFit width) l.fn.stages → All (IsFit width) l.stages;
  after : (j : ℕ) (d : Stage) → j < l.stage-index → OperatorAfter (get_or l.stages j d).operator [] 0;
  idle : (j : ℕ) (d : Stage) → j < l.stage-index → spent_of (get_or l.stages j d).operator ≡ false;
}
