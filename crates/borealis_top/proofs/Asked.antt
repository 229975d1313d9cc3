-- How a command that asks something of a whole input ends, from how its parts ended.
use Rattle.std.proofs.Common.{◌≡◌, ℕ, ◌+◌, ◌⊎◌, inl, inr, List, length, Option, None, Some, Result, Ok, Err, IfOk, subst, ◌∙◌, ap, arith}
use Rattle.std.proofs.lemmas.List.{length-append}
use Rattle.std.specs.Io.KnownBytes.{Consumes, IsAtEnd}
use Rattle.dpc_edge.specs.Faults.{Rises}
use Rattle.dpc_edge.specs.Edges.{Edge}
use Rattle.status_lines.specs.Lines.{not_settled_line, too_long_line}
use Rattle.dpc_lists.specs.declared.faults.NoMemory.{NoMemory as Want}
use Rattle.journal_commands.specs.Endings.{Ending, Told, LeftOpen, PastLimits, RefusedBy, IsEnding}
use Rattle.journal_commands.specs.declared.outcome.Outcome.{Outcome}
use Rattle.borealis_top.specs.declared.status.Status.{Status}
use Rattle.borealis_top.specs.declared.status.Status.TheVariants.{Done, Refused, NoMemory, NotSettled, TooLong}
use Rattle.borealis_top.specs.InputEnds.{Question, IsSound, ComesTo, IsToldBy, EndsBy, IsWholeBy, IsWholeFor}
use Rattle.borealis_top.proofs.Ended.{consumed-all, Stays-same, told-Took}

-- ---- by status

pub told-EndsBy : (q : Question) (input input_new out out_new err err_new : Edge) (result : Status) (ending : Ending) →
    ComesTo q input input_new ending → IsToldBy ending out out_new err err_new result → EndsBy q input input_new out out_new err err_new result
told-EndsBy q input input_new out out_new err err_new result (Told text) c (inl h, same) = rw (h.0, same) (text, c, h.1, Stays-same err)
told-EndsBy q input input_new out out_new err err_new result (Told text) c (inr h, same) = rw (h.0, same) (inl (text, c, h.1, Stays-same err))
told-EndsBy q input input_new out out_new err err_new result (LeftOpen text) c (inl (took, inl h)) = rw h.0 (text, c, took, h.1)
told-EndsBy q input input_new out out_new err err_new result (LeftOpen text) c (inl (took, inr h)) = rw h.0 (inr (inr (inl (text, c, took, h.1))))
told-EndsBy q input input_new out out_new err err_new result (LeftOpen text) c (inr h) = rw (h.0, h.2) (inr (inl (text, c, h.1, Stays-same err)))
told-EndsBy q input input_new out out_new err err_new result (PastLimits sums) c (inl h, same) = rw (h.0, same) (sums, c, Stays-same out, h.1)
told-EndsBy q input input_new out out_new err err_new result (PastLimits sums) c (inr h, same) =
    rw (h.0, same) (inr (inr (inr (inl (sums, c, Stays-same out, h.1)))))
told-EndsBy q input input_new out out_new err err_new result (RefusedBy line) c (inl h, same) = rw (h.0, same) (line, c, Stays-same out, h.1)
told-EndsBy q input input_new out out_new err err_new result (RefusedBy line) c (inr h, same) =
    rw (h.0, same) (inr (inr (inr (inr (line, c, Stays-same out, h.1)))))

-- ---- where nothing failed that is written to

told-whole : (out out_new err err_new : Edge) (result : Status) (ending : Ending) → IsToldBy ending out out_new err err_new result →
    IsWholeBy ending out out_new err err_new result
told-whole out out_new err err_new result (Told text) h = λ quiet. inl (told-Took out out_new text Done result h.0 quiet)
told-whole out out_new err err_new result (LeftOpen text) (inl h) = λ quiet quiet_err.
    let line = told-Took err err_new not_settled_line NotSettled result h.1 quiet_err in inl (line.0, h.0, line.1)
told-whole out out_new err err_new result (LeftOpen text) (inr h) = λ quiet quiet_err. absurd (quiet h.1.faults)
told-whole out out_new err err_new result (PastLimits sums) h = λ quiet. inl (told-Took err err_new (too_long_line sums) TooLong result h.0 quiet)
told-whole out out_new err err_new result (RefusedBy line) h = λ quiet. inl (told-Took err err_new line Refused result h.0 quiet)

-- ---- an input that tells its bytes

-- known bytes come to what those come to that were read of them
same-ending : (q : Question) (sound : IsSound q) (input input_new : Edge) (ending : Ending) (known : List ℕ) → ComesTo q input input_new ending → input.bytes ≡ Some known →
    q.comes known ending
same-ending q sound input input_new ending known c left = by-whole input_new.bytes c.text (subst (λ (o : Option (List ℕ)). Consumes o input_new.bytes c.text) left c.gave.bytes) c.whole c.comes
  where
    by-whole : (new : Option (List ℕ)) (text : List ℕ) → Consumes (Some known) new text → IsAtEnd new ⊎ (length text ≡ q.most + 1) → q.comes text ending →
        q.comes known ending
    by-whole new text gave (inl end) e = let same = consumed-all new known text gave end in rw same at e
    by-whole None text gave (inr many) e = absurd gave
    by-whole (Some rest) text gave (inr many) e =
        let whole : length known ≡ length text + length rest = ap length gave ∙ length-append text rest in
        (sound.long known ending (omega (arith, whole, many))).1 ((sound.long text ending (omega (arith, many))).0 e)

pub told-IsWholeFor : (q : Question) (sound : IsSound q) (input input_new out out_new err err_new : Edge) (result : Status) (ending : Ending) →
    ComesTo q input input_new ending → IsToldBy ending out out_new err err_new result → IsWholeFor q input input_new out out_new err err_new result
told-IsWholeFor q sound input input_new out out_new err err_new result ending c h = λ known left quiet.
    inl (ending, same-ending q sound input input_new ending known c left, told-whole out out_new err err_new result ending h)

pub no_memory-IsWholeFor : (q : Question) (input input_new out out_new err err_new : Edge) (result : Status) → result ≡ NoMemory →
    IsWholeFor q input input_new out out_new err err_new result
no_memory-IsWholeFor q input input_new out out_new err err_new result e = λ known left quiet. inr e

pub failed-IsWholeFor : (q : Question) (input input_new out out_new err err_new : Edge) (result : Status) → Rises input.faults input_new.faults →
    IsWholeFor q input input_new out out_new err err_new result
failed-IsWholeFor q input input_new out out_new err err_new result failed = λ known left quiet. absurd (quiet failed)

-- ---- what code answers

pub answered-so : (comes : Ending → Type 0) (ending : Ending) (r : Result Outcome Want) → comes ending → IfOk r (IsEnding ending) → IfOk r (λ outcome. (e : Ending) × comes e × IsEnding e outcome)
answered-so comes ending (Ok outcome) c h = (ending, c, h)
answered-so comes ending (Err fault) c h = tt
