-- How a command that reads a script ends, from how its parts ended.
use Rattle.std.proofs.Common.{◌≡◌, ℕ, ◌+◌, ◌^◌, ◌<◌, ◌≤◌, ◌⊎◌, inl, inr, List, length, Option, None, Some, Ok, Err, Bool, true, false, refl, sym, subst, ◌∙◌, ap, arith}
use Rattle.std.proofs.lemmas.Bool.{lt-ltb}
use Rattle.std.proofs.lemmas.List.{append-nil, length-append}
use Rattle.std.specs.Io.KnownBytes.{Consumes, Keeps, IsAtEnd}
use Rattle.dpc_edge.specs.Faults.{Rises}
use Rattle.dpc_edge.specs.Edges.{Edge, Stays, Gave, Took}
use Rattle.dpc_model.specs.declared.scripts.Script.{Script}
use Rattle.dpc_model.specs.Limits.{most_input}
use Rattle.script_rules.specs.declared.reasons.Reason.TheVariants.{PastLimit}
use Rattle.script_rules.specs.declared.reasons.PlanFault.{PlanFault}
use Rattle.script_rules.specs.Reading.{reading, read, refusal, script_in}
use Rattle.world_model.specs.Worlds.{Sums}
use Rattle.borealis_top.specs.declared.command.Reading.{Reading}
use Rattle.borealis_top.specs.declared.command.Reading.TheVariants.{Ideal}
use Rattle.borealis_top.specs.declared.status.Status.{Status}
use Rattle.borealis_top.specs.declared.status.Status.TheVariants.{Done, Refused, NoMemory, NotSettled, TooLong}
use Rattle.status_lines.specs.Lines.{fault_line, not_settled_line, too_long_line}
use Rattle.borealis_top.specs.Ends.{IsTold, IsToldOpen, IsToldAlong, IsReadInPart, IsRead, IsNotRead, Answers, Passes, answer_to, excess_of, leaves_open, ReadEnds, IsWhole, ReadIsWhole}
use Rattle.borealis_top.proofs.Runs.{read-Holds}

-- ---- what was read

-- what was consumed to the end of known bytes is all of them
pub consumed-all : (new : Option (List ℕ)) (known bytes : List ℕ) → Consumes (Some known) new bytes → IsAtEnd new → bytes ≡ known
consumed-all None known bytes c e = absurd c
consumed-all (Some rest) known bytes c e = sym (c ∙ rw e (append-nil bytes))

-- a text that is longer than the longest is refused at line 0
pub long-refusal : (text : List ℕ) → length text ≡ most_input + 1 → refusal text ≡ Some (record { line = 0; reason = PastLimit })
unfolding reading
long-refusal text e = let long : 2 ^ 26 < length text = omega (arith, e) in rw (lt-ltb (2 ^ 26) (length text) long) refl

-- an input that was read whole, or to one byte past the longest script, gave no more
pub read-in_part : (old new : Edge) (text : List ℕ) → Gave old new text → length text ≤ most_input + 1 → IsReadInPart old new
read-in_part old new text gave few = record { text = text; bytes = gave.bytes; few = few }

-- known bytes that nobody touched stay
Keeps-same : (known : Option (List ℕ)) → Keeps known known
Keeps-same None = tt
Keeps-same (Some bytes) = refl

-- so does an edge
pub Stays-same : (e : Edge) → Stays e e
Stays-same e = record { bytes = Keeps-same e.bytes; faults = refl }

-- a whole input was read, and is a script
pub record WasRead (input input_new : Edge) (s : Script) : Type 0 where
  pub text : List ℕ
  pub gave : Gave input input_new text
  pub end : IsAtEnd input_new.bytes
  pub reads : reading text ≡ Ok s

was-IsRead : (input input_new : Edge) (s : Script) → WasRead input input_new s → IsRead input input_new s
was-IsRead input input_new s r = record { text = r.text; gave = r.gave; end = r.end; script = ap script_in r.reads }

pub read-Answers : (what : Reading) (input input_new : Edge) (s : Script) (is_open : Bool) (text : List ℕ) → WasRead input input_new s →
    (excess_of what s ≡ None) × (leaves_open what s ≡ is_open) × (answer_to what s ≡ text) → Answers what input input_new is_open text
read-Answers what input input_new s is_open text r h =
    record { script = s; read = was-IsRead input input_new s r; within = h.0; answer = h.2; opens = h.1; holds = read-Holds what r.text s r.reads }

pub read-Passes : (what : Reading) (input input_new : Edge) (s : Script) (sums : Sums) → WasRead input input_new s → excess_of what s ≡ Some sums →
    Passes what input input_new sums
read-Passes what input input_new s sums r h = record { script = s; read = was-IsRead input input_new s r; past = h }

-- ---- how the command ends

-- the answer was told, or the sink failed
pub told-ReadEnds : (what : Reading) (input input_new out out_new err err_new : Edge) (text : List ℕ) (result : Status) →
    Answers what input input_new false text → Stays err err_new → IsTold out out_new text Done result → ReadEnds what input input_new out out_new err err_new result
told-ReadEnds what input input_new out out_new err err_new text result r silent (inl h) = rw h.0 (text, r, h.1, silent)
told-ReadEnds what input input_new out out_new err err_new text result r silent (inr h) = rw h.0 (inl (text, false, r, h.1, silent))

-- the failure-free streams were, or memory ran out on the way
pub along-ReadEnds : (input input_new out out_new err err_new : Edge) (text : List ℕ) (result : Status) →
    Answers Ideal input input_new false text → Stays err err_new → IsReadInPart input input_new → input_new.faults ≡ input.faults → IsToldAlong out out_new text result →
    ReadEnds Ideal input input_new out out_new err err_new result
along-ReadEnds input input_new out out_new err err_new text result r silent part quiet (inl h) = told-ReadEnds Ideal input input_new out out_new err err_new text result r silent h
along-ReadEnds input input_new out out_new err err_new text result r silent part quiet (inr h) =
    rw h.0 (inr (record { is = refl; text = text; answers = r; took = h.1 }), silent, part, quiet)

-- so was a report that leaves a client open, and the line that says so
pub open-ReadEnds : (what : Reading) (input input_new out out_new err err_new : Edge) (text : List ℕ) (result : Status) →
    Answers what input input_new true text → IsToldOpen out out_new err err_new text result → ReadEnds what input input_new out out_new err err_new result
open-ReadEnds what input input_new out out_new err err_new text result r (inl (took, inl h)) = rw h.0 (text, r, took, h.1)
open-ReadEnds what input input_new out out_new err err_new text result r (inl (took, inr h)) = rw h.0 (inr (inl (text, r, took, h.1)))
open-ReadEnds what input input_new out out_new err err_new text result r (inr h) = rw (h.0, h.2) (inl (text, true, r, h.1, Stays-same err))

-- so was the line on a limit
pub passed-ReadEnds : (what : Reading) (input input_new out out_new err err_new : Edge) (sums : Sums) (result : Status) →
    Passes what input input_new sums → Stays out out_new → IsTold err err_new (too_long_line sums) TooLong result → ReadEnds what input input_new out out_new err err_new result
passed-ReadEnds what input input_new out out_new err err_new sums result r silent (inl h) = rw h.0 (sums, r, silent, h.1)
passed-ReadEnds what input input_new out out_new err err_new sums result r silent (inr h) = rw h.0 (inr (inr (inl (sums, r, silent, h.1))))

-- so was the line on a refusal, unless memory ran out
pub refused-ReadEnds : (what : Reading) (input input_new out out_new err err_new : Edge) (fault : PlanFault) (result : Status) →
    IsNotRead input input_new fault → Stays out out_new → IsReadInPart input input_new → input_new.faults ≡ input.faults →
    IsTold err err_new (fault_line fault) Refused result ⊎ ((result ≡ NoMemory) × Stays err err_new) →
    ReadEnds what input input_new out out_new err err_new result
refused-ReadEnds what input input_new out out_new err err_new fault result r silent part quiet (inl (inl h)) = rw h.0 (fault, r, silent, h.1)
refused-ReadEnds what input input_new out out_new err err_new fault result r silent part quiet (inl (inr h)) = rw h.0 (inr (inr (inr (fault, r, silent, h.1))))
refused-ReadEnds what input input_new out out_new err err_new fault result r silent part quiet (inr h) = rw h.0 (inl silent, h.1, part, quiet)

-- ---- where nothing failed that is written to

-- where the sink did not fail, the text was told
pub told-Took : (old new : Edge) (text : List ℕ) (status result : Status) → IsTold old new text status result →
    (Rises old.faults new.faults → ⊥) → (result ≡ status) × Took old new text
told-Took old new text status result (inl h) quiet = h
told-Took old new text status result (inr h) quiet = absurd (quiet h.1.faults)

pub told-IsWhole : (text : List ℕ) (out out_new err err_new : Edge) (result : Status) → IsTold out out_new text Done result →
    IsWhole None false text out out_new err err_new result
told-IsWhole text out out_new err err_new result h = λ quiet. inl (told-Took out out_new text Done result h quiet)

pub along-IsWhole : (text : List ℕ) (out out_new err err_new : Edge) (result : Status) → IsToldAlong out out_new text result →
    IsWhole None false text out out_new err err_new result
along-IsWhole text out out_new err err_new result (inl h) = told-IsWhole text out out_new err err_new result h
along-IsWhole text out out_new err err_new result (inr h) = λ quiet. inr h.0

pub open-IsWhole : (text : List ℕ) (out out_new err err_new : Edge) (result : Status) → IsToldOpen out out_new err err_new text result →
    IsWhole None true text out out_new err err_new result
open-IsWhole text out out_new err err_new result (inl h) = λ quiet quiet_err.
    let line = told-Took err err_new not_settled_line NotSettled result h.1 quiet_err in inl (line.0, h.0, line.1)
open-IsWhole text out out_new err err_new result (inr h) = λ quiet quiet_err. absurd (quiet h.1.faults)

pub passed-IsWhole : (sums : Sums) (is_open : Bool) (text : List ℕ) (out out_new err err_new : Edge) (result : Status) →
    IsTold err err_new (too_long_line sums) TooLong result → IsWhole (Some sums) is_open text out out_new err err_new result
passed-IsWhole sums is_open text out out_new err err_new result h = λ quiet. inl (told-Took err err_new (too_long_line sums) TooLong result h quiet)

no_memory-IsWhole : (sums : Option Sums) (is_open : Bool) (text : List ℕ) (out out_new err err_new : Edge) (result : Status) → result ≡ NoMemory →
    IsWhole sums is_open text out out_new err err_new result
no_memory-IsWhole None false text out out_new err err_new result e = λ quiet. inr e
no_memory-IsWhole None true text out out_new err err_new result e = λ quiet quiet_err. inr e
no_memory-IsWhole (Some sums) is_open text out out_new err err_new result e = λ quiet. inr e

-- ---- where an answer is asked for

-- what was read to the end of known bytes is them
known-read : (new : Option (List ℕ)) (input : Option (List ℕ)) (known bytes : List ℕ) → input ≡ Some known → Consumes input new bytes → IsAtEnd new → bytes ≡ known
known-read new input known bytes left c e = consumed-all new known bytes (rw left at c) e

-- the answer is that of the script that was read
read-same : (input input_new : Edge) (known : List ℕ) (s t : Script) → WasRead input input_new s → input.bytes ≡ Some known → read known ≡ Some t → s ≡ t
read-same input input_new known s t r left script =
    let same = known-read input_new.bytes input.bytes known r.text left r.gave.bytes r.end in
    let here : read known ≡ Some s = ap script_in (rw same at r.reads) in cc

pub same-whole : (what : Reading) (input input_new out out_new err err_new : Edge) (result : Status) (s : Script) → WasRead input input_new s →
    IsWhole (excess_of what s) (leaves_open what s) (answer_to what s) out out_new err err_new result → ReadIsWhole what input input_new out out_new err err_new result
same-whole what input input_new out out_new err err_new result s r h = λ t known script left quiet.
    subst (λ (t : Script). IsWhole (excess_of what t) (leaves_open what t) (answer_to what t) out out_new err err_new result)
    (read-same input input_new known s t r left script) h

-- where memory ran out, nothing is asked for
pub no_memory-whole : (what : Reading) (input input_new out out_new err err_new : Edge) (result : Status) → result ≡ NoMemory →
    ReadIsWhole what input input_new out out_new err err_new result
no_memory-whole what input input_new out out_new err err_new result e = λ s known script left quiet.
    no_memory-IsWhole (excess_of what s) (leaves_open what s) (answer_to what s) out out_new err err_new result e

-- nor is it where the input failed
pub failed-whole : (what : Reading) (input input_new out out_new err err_new : Edge) (result : Status) → Rises input.faults input_new.faults →
    ReadIsWhole what input input_new out out_new err err_new result
failed-whole what input input_new out out_new err err_new result failed = λ s known script left quiet. absurd (quiet failed)

-- a refused text is no script
pub refused-whole : (what : Reading) (input input_new out out_new err err_new : Edge) (result : Status) (bytes : List ℕ) (fault : PlanFault) →
    Gave input input_new bytes → IsAtEnd input_new.bytes → reading bytes ≡ Err fault → ReadIsWhole what input input_new out out_new err err_new result
refused-whole what input input_new out out_new err err_new result bytes fault gave e r = λ s known script left quiet.
    let same = known-read input_new.bytes input.bytes known bytes left gave.bytes e in
    let none : read known ≡ None = ap script_in (rw same at r) in absurd (none-some s (sym none ∙ script))
  where
    none-some : (s : Script) → None ≡ Some s → ⊥
    none-some s e = cc

long-read : (s : Script) (known : List ℕ) → 2 ^ 26 < length known → read known ≡ Some s → ⊥
unfolding reading
long-read s known long script = let none : read known ≡ None = rw (lt-ltb (2 ^ 26) (length known) long) refl in absurd (cc)

-- nor is one that is longer than the longest
pub long-whole : (what : Reading) (input input_new out out_new err err_new : Edge) (result : Status) (bytes : List ℕ) →
    Gave input input_new bytes → length bytes ≡ most_input + 1 → ReadIsWhole what input input_new out out_new err err_new result
long-whole what input input_new out out_new err err_new result bytes gave e = λ s known script left quiet.
    absurd (long-known input_new.bytes s known bytes (rw left at gave.bytes) e script)
  where
    long-known : (new : Option (List ℕ)) (s : Script) (known bytes : List ℕ) → Consumes (Some known) new bytes → length bytes ≡ most_input + 1 → read known ≡ Some s → ⊥
    long-known None s known bytes c e script = absurd c
    long-known (Some rest) s known bytes c e script =
        let whole : length known ≡ length bytes + length rest = ap length c ∙ length-append bytes rest in long-read s known (omega (arith, whole, e)) script
