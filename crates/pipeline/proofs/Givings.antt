-- What is given is what is new between two streams.
use Rattle.std.proofs.Common.{◌≡◌, ℕ, ◌+◌, Bool, true, false, List, ◌++◌, drop, length, refl, sym, ap, subst, ◌∙◌, length-append, Option, Some, None}
use Rattle.std.specs.Prelude.{if◌then◌else◌, option_map}
use Rattle.std.proofs.Math.Seq.{drop-append_seam}
use Rattle.dpc_model.specs.Parts.{Stream, Outputs}
use Rattle.dpc_model.specs.PartStands.{OutputValue, StandsForOutput}
use Rattle.dpc_model.specs.Sessions.{Given, base_after, given_items, batches_of, with_batches}
use Rattle.dpc_model.specs.declared.messages.Message.{Message}
use Rattle.dpc_model.specs.declared.tuples.Item.{Item}
use Rattle.soutput.specs.declared.fresh.Fresh.{Fresh}
use Rattle.soutput.specs.Giving.{given_behind, fresh_items, after_giving}
use Rattle.soutput.specs.Laws.{stream_with}
use Rattle.soutput.proofs.Standing.{giving-stands}
use Rattle.pipeline.specs.Flowing.{given_between, items_between, outputs_given}

bound-between : (any : Bool) (b : Option ℕ) (t n m : ℕ) → b ≡ (if any then Some t else None) → n ≡ m → if◌then◌else◌ {A = Option (ℕ × ℕ)} any (Some (t, n)) None ≡ option_map (λ (c : ℕ). (c, m)) b
bound-between true b t n m e f = rw (e, f) refl
bound-between false b t n m e f = rw e refl

pub gives-between : (new : Fresh) (s t : Stream) (any_stable any_closed : Bool) → t ≡ stream_with new s → new.bound ≡ (if any_stable then Some t.bound else None) → new.passed ≡ (if any_closed then t.passed else None) →
    given_between s t any_stable any_closed new.done ≡ given_behind (length s.stable) new
gives-between new s t any_stable any_closed e b p =
    let stable : drop (length s.stable) t.stable ≡ new.stable = ap (λ (r : Stream). drop (length s.stable) r.stable) e ∙ drop-append_seam s.stable new.stable in
    let tentative : drop (length s.tentative) t.tentative ≡ new.tentative = ap (λ (r : Stream). drop (length s.tentative) r.tentative) e ∙ drop-append_seam s.tentative new.tentative in
    let count : length t.stable ≡ length s.stable + length new.stable = ap (λ (r : Stream). length r.stable) e ∙ length-append s.stable new.stable in
    let bound = bound-between any_stable new.bound t.bound (length t.stable) (length s.stable + length new.stable) b count in
    rw (stable, bound, tentative, ← p) refl

pub gave : (new : Fresh) (s t : Stream) (v : OutputValue) (o : Outputs) (any_stable any_closed : Bool) (told : List (ℕ × Message)) → StandsForOutput s v o →
    t ≡ stream_with new s → new.bound ≡ (if any_stable then Some t.bound else None) → new.passed ≡ (if any_closed then t.passed else None) →
    told ≡ batches_of (fresh_items v new) v.subs →
    (told ≡ batches_of (items_between s t any_stable any_closed new.done) o.subs)
    × StandsForOutput t (after_giving new v) (outputs_given (items_between s t any_stable any_closed new.done) t o)
gave new s t v o any_stable any_closed told h e b p sent =
    let law = giving-stands new s v o h in
    let items : given_items (length s.stable) (given_behind (length s.stable) new) ≡ items_between s t any_stable any_closed new.done =
    ap (λ (g : Given). given_items (length s.stable) g) (sym (gives-between new s t any_stable any_closed e b p)) in
    let given = items_between s t any_stable any_closed new.done in (
      sent ∙ law.0 ∙ ap (λ (is : List Item). batches_of is o.subs) items,
      subst (λ (r : Stream). StandsForOutput r (after_giving new v) (record { subs = with_batches given o.subs; acks = o.acks; base = base_after o.base o.acks (length r.stable) })) (sym e)
          (subst (λ (is : List Item). StandsForOutput (stream_with new s) (after_giving new v) (record { subs = with_batches is o.subs; acks = o.acks; base = base_after o.base o.acks (length (s.stable ++ new.stable)) })) items law.1),
    )
