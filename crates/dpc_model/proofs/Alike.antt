-- Streams, sessions and events that are alike, and the order of sessions.
use Rattle.std.proofs.Common.{◌≡◌, true, ap, arith, refl, ◌==◌, ℕ}
use Rattle.std.proofs.lemmas.Grind.{common_steps}
use Rattle.dpc_model.specs.Actors.{same_stream}
use Rattle.dpc_model.specs.declared.plans.StreamRef.{StreamRef}
use Rattle.dpc_model.specs.declared.plans.StreamRef.TheVariants.{Source, Frag}
use Rattle.dpc_model.specs.Inlets.{same_sess, is_newer}
use Rattle.dpc_model.specs.declared.messages.Sess.{Sess}
use Rattle.dpc_model.specs.declared.messages.Event.TheVariants.{Phase}
use Rattle.dpc_lists.proofs.Truths.{eq-test, both, eq-of, both-of}

pub same_stream-eq : (s u : StreamRef) → same_stream s u ≡ true → s ≡ u
same_stream-eq (Source a) (Source b) e = ap Source (grind (arith, common_steps))
same_stream-eq (Source a) (Frag b) e = cc
same_stream-eq (Frag a) (Source b) e = cc
same_stream-eq (Frag a) (Frag b) e = ap Frag (grind (arith, common_steps))

pub same_stream-self : (s : StreamRef) → same_stream s s ≡ true
same_stream-self (Source s) = eq-test s s refl
same_stream-self (Frag f) = eq-test f f refl

pub same_sess-eq : (v u : Sess) → same_sess v u ≡ true → v ≡ u
same_sess-eq v u e = let p = both (v.inc == u.inc) (v.number == u.number) e in let one = eq-of v.inc u.inc p.0 in let two = eq-of v.number u.number p.1 in rw (one, two) refl

pub same_sess-self : (u : Sess) → same_sess u u ≡ true
same_sess-self u = both-of (u.inc == u.inc) (u.number == u.number) (eq-test u.inc u.inc refl) (eq-test u.number u.number refl)

pub newer-trans : (u v w : Sess) → is_newer u v ≡ true → is_newer v w ≡ true → is_newer u w ≡ true
newer-trans u v w e f = grind (arith, common_steps)

pub phase-is : {m n : ℕ} → Phase m ≡ Phase n → m ≡ n
phase-is e = cc
