use Rattle.std.proofs.Common.{Vec, Global, List, ◌≡◌, ◌+◌, ◌++◌, ◌∷◌, [], ◌∙◌, map, sym, ap, subst}
use Rattle.std.specs.Borrow.{Bor}
use Rattle.dpc_model.specs.declared.tuples.Item.{Item}
use Rattle.inlet.specs.Drafts.{Reads}
use Rattle.inlet.specs.declared.draft.ItemReading.{ItemReading}
use Rattle.inlet.proofs.Folds.{IsUnderWay, under-way, takes, skips, refuses, one-pushed}
use Rattle.inlet.proofs.draft.BatchDraft.fold.Goals as goal
use Rattle.inlet.proofs.draft.BatchDraft.fold.Goals.{in-Taken+in_ok-push-in-Taken, in-Skipped}

abbrev values : List (Bor Item) → List Item
values items = map (λ (item : Bor Item). item.now) items

pub loop-item-init : goal.loop-item-init
loop-item-init c =
    subst (λ (bs : List (Bor Item)). IsUnderWay c.args.items.now 0 c.args.self.now c.args.self.now (values bs)) (sym c.in_ok-taken.ensures.items) (under-way c.args.items.now c.args.self.now)

pub loop-item-preserved : goal.loop-item-preserved
loop-item-preserved c =
    let items = c.args.items.now in
    let i = c.loop-item.item-index in
    let old = c.args.self.now in
    let now = c.loop-item.self in
    let new = c.read.new.self in
    let item = c.item-item.result in
    let taken = values c.loop-item.taken.items in
    elim c.match-branch-3.branch [
      | in-Taken+in_ok-push-in-Taken w ↦
          let reads = subst (λ (v : ItemReading). Reads item now new v) w.in-Taken.is c.in_ok-read.ensures in
          let told : values c.match-branch-3.taken.items ≡ taken ++ item ∷ [] =
          ap (λ (v : Vec (Bor Item) Global). values v.items) w.taken-is ∙ one-pushed _ _ _ w.in_ok-push-in-Taken.ensures.items in
          subst (λ (is : List Item). IsUnderWay items (i + 1) old new is) (sym told) (takes items i old now new taken item c.loop-item-test.true c.item-item.is c.loop-item.invariant reads)
      | in-Skipped w ↦
          let reads = subst (λ (v : ItemReading). Reads item now new v) w.in-Skipped.is c.in_ok-read.ensures in
          let told : values c.match-branch-3.taken.items ≡ taken = ap (λ (v : Vec (Bor Item) Global). values v.items) w.taken-is in
          subst (λ (is : List Item). IsUnderWay items (i + 1) old new is) (sym told) (skips items i old now new taken item c.loop-item-test.true c.item-item.is c.loop-item.invariant reads)
    ]

pub returns-in-Refused : goal.returns-in-Refused
returns-in-Refused c =
    refuses c.args.items.now c.loop-item.item-index c.args.self.now c.loop-item.self c.read.new.self (values c.loop-item.taken.items) c.item-item.result c.loop-item-test.true c.item-item.is
    c.loop-item.invariant (subst (λ (v : ItemReading). Reads c.item-item.result c.loop-item.self c.read.new.self v) c.in-Refused.is c.in_ok-read.ensures)
