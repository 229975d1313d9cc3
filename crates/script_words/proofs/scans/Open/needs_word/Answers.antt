use Rattle.std.proofs.Common.{◌≡◌, ◌⊎◌, ◌∙◌, sym, ap, inl, inr, false, arith}
use Rattle.script_words.specs.Scans.{repeated_place}
use Rattle.script_words.proofs.Opened.{needs_none}
use Rattle.script_words.proofs.scans.Open.needs_word.Goals as goal
use Rattle.script_words.proofs.scans.Open.needs_word.Goals.{else-self-gt0-via-then-self-gt0+else-place, else-self-gt0-via-else-self-gt0}

pub returns : goal.returns
returns c =
    let self = c.args.self.now in
    let none : (self.count ≡ 0) ⊎ ((repeated_place self.repeated).needed ≡ false) = elim c.else-self-gt0.branch [
      | else-self-gt0-via-then-self-gt0+else-place w ↦ inr (ap (λ p. p.needed) (sym w.place.ensures) ∙ w.if-place.false)
      | else-self-gt0-via-else-self-gt0 w ↦ inl (omega (arith, w.if-self-gt0.false))
    ] in
    c.some_needed.ensures ∙ needs_none c.args.places.now self none
