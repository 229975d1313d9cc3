use Rattle.std.proofs.Common.{rules, ◌≡◌, ◌∙◌, [], ℕ, length, refl, sym}
use Rattle.std.proofs.lemmas.Simd.{splat_is_map}
use Rattle.soutput.proofs.output.SOutput.restart_at.Goals as goal

pub returns : goal.returns
returns c =
    let p = c.self.inside in
    let buffer = c.in_ok-self-inside.ensures in
    let all : length p.sessions.items ≡ length p.buffer.acks = c.self.invariant in
    let readers : c.len.result ≡ length p.buffer.acks = search rules in
    let zeros = splat_is_map {Y = ℕ × ℕ} p.buffer.acks c.len.result (0, 0) (sym readers) in
    let none : c.new.result.items ≡ [] = c.new.ensures.items in
    c.shut.ensures ∙ rw (← c.self.view_is) (rw (buffer, none, zeros) refl)
