-- The steps of a tick, one behind another.
use Rattle.std.proofs.Common.{◌≡◌, ℕ, ◌<◌, Bool, true, false, not, List, ◌++◌, refl, sym, ap, subst, ◌∙◌}
use Rattle.std.specs.Prelude.{if◌then◌else◌}
use Rattle.node_links.specs.Linking.{nobody_can_help}
use Rattle.dpc_model.specs.Parts.{Neighbours}
use Rattle.node_links.proofs.Lawful.{ticks-stand}
use Rattle.node_model.specs.Mails.{Stepped}
use Rattle.node_model.specs.Nodes.{Home, PlainNode}
use Rattle.node_model.specs.NodeSteps.{then_do, after_clock, may_start_afresh, with_fresh_start, choice_step, ask_step, processing_step, announcing_step, serving_step, snapshot_ask_step, rest_of_tick, tick_step, with_marks_ended}
use Rattle.node_model.specs.NodeParts.{neighbours_of}
use Rattle.node_model.specs.Fitting.{IsFit}
use Rattle.law_node.proofs.FitNodes.{fit-marks, fit-clock, fit-afresh, fit-choice, fit-ask, fit-process}
use Rattle.node_core.specs.declared.packets.Mail as code_mail
use Rattle.node_core.specs.Standing.{NodeValue, StandsForNode, AreMails}
use Rattle.node_core.specs.Stepping.{IsSound, Follows, Steps}
use Rattle.node_core.proofs.Mailing.{mails-append}

-- ---- one step behind another

-- a step keeps the nodes that a value stands for fit
abbrev pub Keeps : (Home → PlainNode → Stepped PlainNode) → NodeValue → Type 0
Keeps f v = (home : Home) (p : PlainNode) → StandsForNode home v p → IsFit home p → IsFit home (f home p).after

pub steps-then : (f g : Home → PlainNode → Stepped PlainNode) (u v w : NodeValue) (ms ns : List code_mail.Mail) → Keeps f u → Steps f u v ms → Steps g v w ns →
    Steps (λ home p. then_do (f home p) (g home)) u w (ms ++ ns)
steps-then f g u v w ms ns keeps first next = record {
  after = λ home p h fit. next.after home (f home p).after (first.after home p h fit) (keeps home p h fit);
  sends = λ home p h fit.
      mails-append home ms ns (f home p).sends (g home (f home p).after).sends (first.sends home p h fit) (next.sends home (f home p).after (first.after home p h fit) (keeps home p h fit));
}

pub sound-then : (f : Home → PlainNode → Stepped PlainNode) (u v : NodeValue) (ms : List code_mail.Mail) → Keeps f u → Steps f u v ms → IsSound u → IsSound v
sound-then f u v ms keeps step sound =
    let home = sound.0 in
    let p = sound.1 in
    (home, (f home p).after, step.after home p sound.2 sound.3, keeps home p sound.2 sound.3)

pub sound-behind : (f : Home → PlainNode → PlainNode) (u v : NodeValue) → ((home : Home) (p : PlainNode) → IsFit home p → IsFit home (f home p)) → Follows f u v → IsSound u → IsSound v
sound-behind f u v keeps step sound =
    let home = sound.0 in
    let p = sound.1 in
    (home, f home p, step home p sound.2 sound.3, keeps home p sound.3)

-- a step behind what leaves another node
pub steps-behind : (f : Home → PlainNode → PlainNode) (g : Home → PlainNode → Stepped PlainNode) (u v w : NodeValue) (ns : List code_mail.Mail) → ((home : Home) (p : PlainNode) → IsFit home p → IsFit home (f home p)) →
    Follows f u v → Steps g v w ns → Steps (λ home p. g home (f home p)) u w ns
steps-behind f g u v w ns keeps first next = record {
  after = λ home p h fit. next.after home (f home p) (first home p h fit) (keeps home p fit);
  sends = λ home p h fit. next.sends home (f home p) (first home p h fit) (keeps home p fit);
}

-- ---- serving

pub keeps-choice : (v : NodeValue) → Keeps choice_step v
keeps-choice v home p h fit = fit-choice home p fit

pub keeps-ask : (v : NodeValue) → Keeps ask_step v
keeps-ask v home p h fit = fit-ask home p fit

pub keeps-process : (v : NodeValue) → Keeps processing_step v
keeps-process v home p h fit = fit-process home p (subst (λ (w : ℕ). 0 < w) h.setting.width h.path.some) fit

pub served : (a b c d e : NodeValue) (ks ls ms ns : List code_mail.Mail) → Steps choice_step a b ks → Steps ask_step b c ls → Steps processing_step c d ms → Steps announcing_step d e ns →
    Steps serving_step a e (((ks ++ ls) ++ ms) ++ ns)
served a b c d e ks ls ms ns choice ask process announce =
    let two = λ (home : Home) (p : PlainNode). then_do (choice_step home p) (ask_step home) in
    let three = λ (home : Home) (p : PlainNode). then_do (two home p) (processing_step home) in
    let first : Steps two a c (ks ++ ls) = steps-then choice_step ask_step a b c ks ls (keeps-choice a) choice ask in
    let keeps : Keeps two a = λ home p h fit. fit-ask home (choice_step home p).after (fit-choice home p fit) in
    let next : Steps three a d ((ks ++ ls) ++ ms) = steps-then two processing_step a c d (ks ++ ls) ms keeps first process in
    let kept : Keeps three a = λ home p h fit. keeps-process c home (two home p).after (first.after home p h fit) (keeps home p h fit) in
    steps-then three announcing_step a d e ((ks ++ ls) ++ ms) ns kept next announce

-- ---- a tick

abbrev rest_by : Bool → Bool → Home → PlainNode → Stepped PlainNode
rest_by serves afresh home n =
    if serves then serving_step home n else (if afresh then serving_step home (with_fresh_start n) else then_do (snapshot_ask_step home n) (announcing_step home))

rest-is : (home : Home) (p : PlainNode) (recovers afresh : Bool) → p.recovering ≡ recovers → may_start_afresh home p ≡ afresh → rest_of_tick home p ≡ rest_by (not recovers) afresh home p
rest-is home p recovers afresh e f =
    ap (λ (b : Bool). rest_by (not b) (may_start_afresh home p) home p) e ∙ ap (λ (b : Bool). rest_by (not recovers) b home p) f

-- whether nobody can help, as the links tell
helpless : (home : Home) (v : NodeValue) (p : PlainNode) → StandsForNode home v p → nobody_can_help v.links.me v.links.known ≡ may_start_afresh home p
helpless home v p h =
    ap (λ (x : Neighbours). nobody_can_help v.links.me x) h.links ∙ ap (λ (me : ℕ). nobody_can_help me (neighbours_of p)) h.knows.me ∙ (ticks-stand home 0 p).2

-- it serves
pub rest-serving : (v new : NodeValue) (told : List code_mail.Mail) → v.recovering ≡ false → Steps serving_step v new told → Steps rest_of_tick v new told
rest-serving v new told up steps = record {
  after = λ home p h fit. subst (λ (s : Stepped PlainNode). StandsForNode home new s.after) (sym (so home p h)) (steps.after home p h fit);
  sends = λ home p h fit. subst (λ (s : Stepped PlainNode). AreMails home told s.sends) (sym (so home p h)) (steps.sends home p h fit);
}
  where
    so : (home : Home) (p : PlainNode) → StandsForNode home v p → rest_of_tick home p ≡ serving_step home p
    so home p h = rest-is home p false (may_start_afresh home p) (sym h.recovering ∙ up) refl

-- it starts at the first bucket
pub rest-afresh : (v w new : NodeValue) (told : List code_mail.Mail) → v.recovering ≡ true → nobody_can_help v.links.me v.links.known ≡ true → Follows (λ home p. with_fresh_start p) v w →
    Steps serving_step w new told → Steps rest_of_tick v new told
rest-afresh v w new told down alone fresh steps =
    let serving = steps-behind (λ home p. with_fresh_start p) serving_step v w new told fit-afresh fresh steps in
    record {
      after = λ home p h fit. subst (λ (s : Stepped PlainNode). StandsForNode home new s.after) (sym (so home p h)) (serving.after home p h fit);
      sends = λ home p h fit. subst (λ (s : Stepped PlainNode). AreMails home told s.sends) (sym (so home p h)) (serving.sends home p h fit);
    }
  where
    so : (home : Home) (p : PlainNode) → StandsForNode home v p → rest_of_tick home p ≡ serving_step home (with_fresh_start p)
    so home p h = rest-is home p true true (sym h.recovering ∙ down) (sym (helpless home v p h) ∙ alone)

-- it asks for a snapshot
pub rest-asking : (v w new : NodeValue) (ms ns : List code_mail.Mail) → v.recovering ≡ true → nobody_can_help v.links.me v.links.known ≡ false → Steps snapshot_ask_step v w ms → Steps announcing_step w new ns →
    Steps rest_of_tick v new (ms ++ ns)
rest-asking v w new ms ns down helped ask announce =
    let both = steps-then snapshot_ask_step announcing_step v w new ms ns (λ home p h fit. fit) ask announce in
    record {
      after = λ home p h fit. subst (λ (s : Stepped PlainNode). StandsForNode home new s.after) (sym (so home p h)) (both.after home p h fit);
      sends = λ home p h fit. subst (λ (s : Stepped PlainNode). AreMails home (ms ++ ns) s.sends) (sym (so home p h)) (both.sends home p h fit);
    }
  where
    so : (home : Home) (p : PlainNode) → StandsForNode home v p → rest_of_tick home p ≡ then_do (snapshot_ask_step home p) (announcing_step home)
    so home p h = rest-is home p true false (sym h.recovering ∙ down) (sym (helpless home v p h) ∙ helped)

-- the whole tick
pub sound-ticked : (now : ℕ) (u v w : NodeValue) → Follows (λ home p. with_marks_ended p) u v → Follows (λ home p. after_clock now p) v w → IsSound u → IsSound w
sound-ticked now u v w marks clock sound =
    sound-behind (λ home p. after_clock now p) v w (λ home p fit. fit-clock home now p fit) clock (sound-behind (λ home p. with_marks_ended p) u v fit-marks marks sound)

pub whole-tick : (now : ℕ) (u v w new : NodeValue) (told : List code_mail.Mail) → Follows (λ home p. with_marks_ended p) u v → Follows (λ home p. after_clock now p) v w → Steps rest_of_tick w new told →
    Steps (λ home p. tick_step home now p) u new told
unfolding tick_step
whole-tick now u v w new told marks clock rest =
    steps-behind (λ home p. with_marks_ended p) (λ home p. rest_of_tick home (after_clock now p)) u v new told fit-marks marks
    (steps-behind (λ home p. after_clock now p) rest_of_tick v w new told (λ home p fit. fit-clock home now p fit) clock rest)
