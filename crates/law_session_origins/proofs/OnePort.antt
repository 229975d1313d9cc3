-- Nobody reads a stream at two ports, and each sender has its port.
use Rattle.std.proofs.Common.{◌≡◌, ℕ, zero, suc, ◌+◌, ◌≤◌, true, false, not, ◌==◌, List, [], ◌∷◌, refl, sym, ap, subst, ◌∙◌, arith, Option, Some, None, slice_get}
use Rattle.std.proofs.lemmas.Grind.{common_steps}
use Rattle.dpc_lists.specs.Lists.{list_any, place_of, IsRising}
use Rattle.dpc_model.specs.Actors.{role_of, inputs_of, sends_stream, senders_of, same_stream}
use Rattle.dpc_model.specs.Ports.{sender_from}
use Rattle.dpc_model.specs.declared.actors.Role.{Role}
use Rattle.dpc_model.specs.declared.actors.Role.TheVariants.{Source as IsSource, Node as IsNode, Client as IsClient, Nobody}
use Rattle.dpc_model.specs.declared.plans.FragSpec.{FragSpec}
use Rattle.dpc_model.specs.declared.plans.Plan.{Plan}
use Rattle.dpc_model.specs.declared.plans.StreamRef.{StreamRef}
use Rattle.dpc_model.specs.declared.plans.StreamRef.TheVariants.{Source, Frag}
use Rattle.dpc_model.specs.declared.scripts.Script.{Script}
use Rattle.node_model.specs.Nodes.{no_fragment}
use Rattle.script_rules.specs.Checking.{IsChecked}
use Rattle.script_rules.specs.Reading.{read}
use Rattle.script_rules.specs.Facts.{reads_once, HasForm}
use Rattle.script_rules.proofs.Forms.{checked_has_form, actors_are_in_order}
use Rattle.script_rules.proofs.ReadForms.{reads_have_facts}
use Rattle.dpc_lists.proofs.Truths.{both, eq-of, eq-test}
use Rattle.dpc_model.proofs.Alike.{same_stream-self}
use Rattle.dpc_model.proofs.Roles.{only-first}
use Rattle.law_safety.proofs.Numbering.{all-at, any-at, actors-pass, nth-inputs}
use Rattle.law_safety.proofs.Senders.{sender_sends}
use Rattle.law_session_origins.specs.Numbers.{ReadsOnce, FindsSenders}
use Rattle.law_session_origins.proofs.FirstSession.{nth-all}

-- ---- streams

-- an actor sends one stream
sends-one : (s u : StreamRef) (role : Role) → sends_stream s role ≡ true → sends_stream u role ≡ true → s ≡ u
sends-one (Source s) (Source u) (IsSource x) e d = ap Source (eq-of s x e ∙ sym (eq-of u x d))
sends-one (Source s) (Frag u) (IsSource x) e d = cc
sends-one (Frag s) u (IsSource x) e d = cc
sends-one (Source s) u (IsNode f r) e d = cc
sends-one (Frag s) (Source u) (IsNode f r) e d = cc
sends-one (Frag s) (Frag u) (IsNode f r) e d = ap Frag (eq-of s f e ∙ sym (eq-of u f d))
sends-one s u (IsClient c) e d = cc
sends-one s u Nobody e d = cc

-- ---- no stream twice

abbrev AreOnce : List StreamRef → Type 0
AreOnce streams = (i j : ℕ) (s : StreamRef) → slice_get streams i ≡ Some s → slice_get streams j ≡ Some s → i ≡ j

twice : (x s : StreamRef) (streams : List StreamRef) (j : ℕ) → x ≡ s → reads_once (x ∷ streams) ≡ true → slice_get streams j ≡ Some s → ⊥
twice x s streams j same h d =
    let found = any-at (same_stream x) streams j s d (subst (λ (z : StreamRef). same_stream x z ≡ true) same (same_stream-self x)) in
    let none = (both (not (list_any (same_stream x) streams)) (reads_once streams) h).0 in
    let clash : false ≡ true = ap not (sym found) ∙ none in cc

once-apart : (streams : List StreamRef) → reads_once streams ≡ true → AreOnce streams
once-apart [] h i j s e d = cc
once-apart (x ∷ streams) h zero zero s e d = refl
once-apart (x ∷ streams) h zero (suc j) s e d = let same : x ≡ s = cc in absurd (twice x s streams j same h d)
once-apart (x ∷ streams) h (suc i) zero s e d = let same : x ≡ s = cc in absurd (twice x s streams i same h e)
once-apart (x ∷ streams) h (suc i) (suc j) s e d = ap suc (once-apart streams (both (not (list_any (same_stream x) streams)) (reads_once streams) h).1 i j s e d)

form-reads-once : (s : Script) → HasForm s → ReadsOnce s.plan
form-reads-once s form x = by-role (role_of s.plan x)
  where
    by-role : (role : Role) → AreOnce (inputs_of s.plan role)
    by-role (IsSource u) i j t e d = cc
    by-role (IsNode f r) i j t e d =
        let once = nth-all (λ (frag : FragSpec). reads_once frag.inputs) (λ (frag : FragSpec). reads_once frag.inputs) no_fragment s.plan.frags f (λ frag e. e) refl form.once in
        once-apart (inputs_of s.plan (IsNode f r)) (ap reads_once (nth-inputs s.plan.frags f) ∙ once) i j t e d
    by-role (IsClient c) i j t e d = only-first s.plan.clients c i t e ∙ sym (only-first s.plan.clients c j t d)
    by-role Nobody i j t e d = cc

pub checked-reads-once : (s : Script) → IsChecked s → ReadsOnce s.plan
checked-reads-once s checked = form-reads-once s (checked_has_form s checked)

pub read-reads-once : (text : List ℕ) (s : Script) → read text ≡ Some s → ReadsOnce s.plan
read-reads-once text s e = form-reads-once s (reads_have_facts text s e).form

-- ---- each sender has its port

rising-low : (k : ℕ) (xs : List ℕ) (i a : ℕ) → IsRising k xs → slice_get xs i ≡ Some a → k ≤ a
rising-low k [] i a h e = cc
rising-low k (x ∷ xs) zero a h e = let same : x ≡ a = cc in let low = h.0 in omega (arith, same, low)
rising-low k (x ∷ xs) (suc i) a h e = let far = rising-low (x + 1) xs i a h.1 e in let low = h.0 in omega (arith, far, low)

found-place : (k : ℕ) (xs : List ℕ) (i a : ℕ) → IsRising k xs → slice_get xs i ≡ Some a → place_of (λ b. a == b) xs ≡ Some i
found-place k [] i a h e = cc
found-place k (x ∷ xs) zero a h e = let same : x ≡ a = cc in let it : (a == x) ≡ true = eq-test a x (sym same) in rw it refl
found-place k (x ∷ xs) (suc i) a h e =
    let far = rising-low (x + 1) xs i a h.1 e in
    let other : (a == x) ≡ false = above a x far in
    let more = found-place (x + 1) xs i a h.1 e in rw (other, more) refl
  where
    above : (a x : ℕ) → x + 1 ≤ a → (a == x) ≡ false
    above a x far = grind (arith, common_steps)

found-from : (plan : Plan) (p : ℕ) (streams : List StreamRef) (q r a : ℕ) (s : StreamRef) → AreOnce streams → slice_get streams q ≡ Some s → slice_get (senders_of plan s) r ≡ Some a → sender_from p plan streams a ≡ Some (p + q, r)
found-from plan p [] q r a s once e d = cc
found-from plan p (u ∷ streams) zero r a s once e d =
    let same : s ≡ u = cc in
    let none : p + 0 ≡ p = omega arith in
    let found = found-place 0 (senders_of plan u) r a (actors_are_in_order (sends_stream u) plan) (subst (λ (x : StreamRef). slice_get (senders_of plan x) r ≡ Some a) same d) in
    ap (λ (o : Option ℕ). elim o as (λ _. Option (ℕ × ℕ)) [ None ↦ sender_from (p + 1) plan streams a | Some x ↦ Some (p, x) ]) found ∙ ap (λ (x : ℕ). Some (x, r)) (sym none)
found-from plan p (u ∷ streams) (suc q) r a s once e d =
    behind (found-from plan (p + 1) streams q r a s (λ i j v x y. let same = once (suc i) (suc j) v x y in omega (arith, same)) e d) (place_of (λ b. a == b) (senders_of plan u)) refl
  where
    behind : sender_from (p + 1) plan streams a ≡ Some (p + 1 + q, r) → (o : Option ℕ) → place_of (λ b. a == b) (senders_of plan u) ≡ o → sender_from p plan (u ∷ streams) a ≡ Some (p + suc q, r)
    behind rest None f =
        let next : p + 1 + q ≡ p + suc q = omega arith in
        ap (λ (o : Option ℕ). elim o as (λ _. Option (ℕ × ℕ)) [ None ↦ sender_from (p + 1) plan streams a | Some x ↦ Some (p, x) ]) f ∙ rest ∙ ap (λ (x : ℕ). Some (x, r)) next
    behind rest (Some x) f =
        let sends = all-at (λ (y : ℕ). sends_stream s (role_of plan y)) (senders_of plan s) r a (actors-pass (sends_stream s) plan) d in
        let same = sends-one u s (role_of plan a) (sender_sends plan u a x f) sends in
        let clash = once 0 (suc q) s (ap (λ (y : StreamRef). Some y) same) e in absurd (omega (arith, clash))

pub finds-senders : (plan : Plan) → ReadsOnce plan → FindsSenders plan
finds-senders plan once x p r a s at sender =
    let zero_on : 0 + p ≡ p = omega arith in found-from plan 0 (inputs_of plan (role_of plan x)) p r a s (once x) at sender ∙ ap (λ (y : ℕ). Some (y, r)) zero_on
