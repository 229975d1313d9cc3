-- The cursor of a node does not fall where the node does not recover.
use Rattle.std.proofs.Common.{◌≡◌, ℕ, ◌≤◌, true, false, sym, ap, subst, ◌∙◌, arith, Option, Some, None}
use Rattle.dpc_model.specs.declared.messages.Event.{Event}
use Rattle.dpc_lists.proofs.Somes.{some-same}
use Rattle.dpc_lists.proofs.Truths.{true-not-false}
use Rattle.node_model.specs.Nodes.{Home, PlainNode}
use Rattle.node_model.specs.NodeSteps.{packet_step, mill_step, tick_step}
use Rattle.world_model.specs.Worlds.{World, Slot, slot_of}
use Rattle.law_schedules.proofs.Nodes.{delivered-calm, ticked-calm, milled-moves}
use Rattle.law_survivors.proofs.Doing.{ReplicaDoes}

module _ (w next : World) (home : Home) (x : ℕ) (d : Event) where
  not-zeroed : (n : PlainNode) → n.recovering ≡ false → n.recovering ≡ true → n.cursor ≡ 0
  not-zeroed n whole e = absurd (true-not-false (sym e ∙ whole))

  between : (n o m z : PlainNode) → (slot_of w x).node ≡ Some o → (slot_of w x).node ≡ Some n → (slot_of next x).node ≡ Some m → (slot_of next x).node ≡ Some z → o.cursor ≤ m.cursor → n.cursor ≤ z.cursor
  between n o m z was up now there more = subst (λ (y : PlainNode). y.cursor ≤ z.cursor) (some-same o n (sym was ∙ up)) (subst (λ (y : PlainNode). o.cursor ≤ y.cursor) (some-same m z (sym now ∙ there)) more)

  pub cursor-grows : ReplicaDoes w home x d next → (n z : PlainNode) → (slot_of w x).node ≡ Some n → (slot_of next x).node ≡ Some z → n.recovering ≡ false → z.recovering ≡ false → n.cursor ≤ z.cursor
  cursor-grows (ReplicaDoes.Rests slot sends) n z up there old new = between n n n z up up (ap (λ (s : Slot). s.node) slot ∙ up) there (le-self n.cursor)
    where
      le-self : (k : ℕ) → k ≤ k
      le-self k = omega arith
  cursor-grows (ReplicaDoes.Falls crash down last sends) n z up there old new = let clash : ◌≡◌ {A = Option PlainNode} None (Some z) = sym down ∙ there in cc
  cursor-grows (ReplicaDoes.Starts i newer down now last sends) n z up there old new = let clash : ◌≡◌ {A = Option PlainNode} None (Some n) = sym down ∙ up in cc
  cursor-grows (ReplicaDoes.Takes k e o event at can to s) n z up there old new =
      let m = (packet_step home e.sender e.packet o).after in
      let whole = ap (λ (y : PlainNode). y.recovering) (some-same o n (sym s.up ∙ up)) ∙ old in
      between n o m z s.up up s.now there ((delivered-calm home e.sender e.packet o).cursor (not-zeroed o whole) (ap (λ (y : PlainNode). y.recovering) (some-same m z (sym s.now ∙ there)) ∙ new))
  cursor-grows (ReplicaDoes.Ticks clock o event s) n z up there old new =
      let m = (tick_step home clock o).after in
      let whole = ap (λ (y : PlainNode). y.recovering) (some-same o n (sym s.up ∙ up)) ∙ old in
      between n o m z s.up up s.now there ((ticked-calm home clock o).cursor (not-zeroed o whole) (ap (λ (y : PlainNode). y.recovering) (some-same m z (sym s.now ∙ there)) ∙ new))
  cursor-grows (ReplicaDoes.Mills r o s) n z up there old new =
      let moved = (milled-moves home r o).moved in
      between n o (mill_step home r o).after z s.up up s.now there (omega (arith, moved))
