use Rattle.std.proofs.Common.{◌≡◌, ◌∙◌, List, ℤ, rules, ap, subst, FitsSigned, w64}
use Rattle.std.proofs.lemmas.Int.{to_z-of_z}
use Rattle.std.specs.Prelude.{OnOk}
use Rattle.std.specs.Ordering.{nat_cmp}
use Rattle.std.specs.BTreeMap.{insert_entry}
use Rattle.ops_window.specs.Windows.{Cell}
use Rattle.ops_window.specs.Feeding.{take_cell, grown, take_group}
use Rattle.ops_window.proofs.Flat.{if_ok, pane-changed, groups_at}
use Rattle.ops_window.proofs.cell_map.Cells.take_in.Goals as goal
use Rattle.ops_window.proofs.cell_map.Cells.take_in.Goals.{in-Vacant+in_ok-new-in-Vacant, in-Occupied}

pub returns : goal.returns
returns c =
    let fits : FitsSigned w64 c.args.key.1 = search rules in
    let cells = λ (cs : List Cell). take_cell c.args.aggs.now c.args.tuple.now cs c.args.key in
    elim c.match-branch-2.branch [
      | in-Vacant+in_ok-new-in-Vacant w ↦
          let panes : c.match-branch-2.self-inside.panes.entries ≡ insert_entry nat_cmp c.self.inside.panes.entries c.args.key.0 w.take_in.new.self = search rules in
          let none : w.insert.result.now ≡ groups_at c.args.key.0 c.self.inside.panes.entries = search rules in
          if_ok w.take_in.result c.match-branch-2.result w.result-is
          (λ (h : w.take_in.new.self ≡ take_group c.args.aggs.now c.args.tuple.now w.insert.result.now c.args.key.1).
          pane-changed c.args.key.0 c.args.key.1 (grown c.args.aggs.now c.args.tuple.now) c.self.inside.panes.entries c.match-branch-2.self-inside.panes.entries w.insert.result.now w.take_in.new.self
          c.entry.ensures.ordered panes none h
          ∙ ap cells c.self.view_is)
          (subst (λ (z : ℤ). OnOk w.take_in.result (w.take_in.new.self ≡ take_group c.args.aggs.now c.args.tuple.now w.insert.result.now z)) (to_z-of_z w64 c.args.key.1 fits) w.take_in.ensures)
      | in-Occupied w ↦
          let panes : c.match-branch-2.self-inside.panes.entries ≡ insert_entry nat_cmp c.self.inside.panes.entries c.args.key.0 w.take_in-in-Occupied.new.self = search rules in
          let there : w.into_mut.result.now ≡ groups_at c.args.key.0 c.self.inside.panes.entries = search rules in
          if_ok w.take_in-in-Occupied.result c.match-branch-2.result w.result-is
          (λ (h : w.take_in-in-Occupied.new.self ≡ take_group c.args.aggs.now c.args.tuple.now w.into_mut.result.now c.args.key.1).
          pane-changed c.args.key.0 c.args.key.1 (grown c.args.aggs.now c.args.tuple.now) c.self.inside.panes.entries c.match-branch-2.self-inside.panes.entries w.into_mut.result.now w.take_in-in-Occupied.new.self
          c.entry.ensures.ordered panes there h
          ∙ ap cells c.self.view_is)
          (subst (λ (z : ℤ). OnOk w.take_in-in-Occupied.result (w.take_in-in-Occupied.new.self ≡ take_group c.args.aggs.now c.args.tuple.now w.into_mut.result.now z)) (to_z-of_z w64 c.args.key.1 fits) w.take_in-in-Occupied.ensures)
    ]
