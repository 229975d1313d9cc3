-- How a run by several threads ends, from how its parts ended.
use Rattle.std.proofs.Common.{◌≡◌, ℕ, ◌+◌, ◌^◌, ◌<◌, ◌⊎◌, inl, inr, List, length, Option, None, Some, refl, sym, subst, ◌∙◌, ap, arith}
use Rattle.std.proofs.lemmas.Bool.{lt-ltb}
use Rattle.std.proofs.lemmas.List.{length-append}
use Rattle.std.specs.Io.KnownBytes.{Consumes, IsAtEnd}
use Rattle.dpc_edge.specs.Faults.{Rises}
use Rattle.dpc_edge.specs.Edges.{Edge, Gave}
use Rattle.dpc_model.specs.Limits.{most_input}
use Rattle.dpc_model.specs.declared.scripts.Script.{Script}
use Rattle.script_rules.specs.declared.reasons.Reason.TheVariants.{PastLimit}
use Rattle.script_rules.specs.declared.reasons.PlanFault.{PlanFault}
use Rattle.script_rules.specs.Reading.{reading, read, refusal}
use Rattle.status_lines.specs.Lines.{fault_line, not_settled_line, too_long_line}
use Rattle.live_commands.specs.Endings.{Ending, Whole, Stopped, CanEnd, whole_text, journal_upto, readers_of}
use Rattle.live_commands.specs.Endings as live
use Rattle.borealis_top.specs.declared.command.LiveCommand.{LiveCommand}
use Rattle.borealis_top.specs.declared.status.Status.{Status}
use Rattle.borealis_top.specs.declared.status.Status.TheVariants.{Done, Refused, NoMemory, NotSettled, TooLong}
use Rattle.borealis_top.specs.LiveEnds.{LiveComesTo, LiveEnds, IsLiveWhole, LiveIsWhole, IsLiveTold}
use Rattle.borealis_top.proofs.Ended.{consumed-all, long-refusal, Stays-same, told-Took}

-- ---- by status

pub told-LiveEnds : (asked : LiveCommand) (input input_new out out_new err err_new : Edge) (result : Status) (ending : Ending) → LiveComesTo asked input input_new ending →
    IsLiveTold asked ending out out_new err err_new result → LiveEnds asked input input_new out out_new err err_new result
told-LiveEnds asked input input_new out out_new err err_new result (Whole s events watched) c (inl (closed, inl h, same)) = rw (h.0, same) (s, events, watched, c, closed, h.1, Stays-same err)
told-LiveEnds asked input input_new out out_new err err_new result (Whole s events watched) c (inl (closed, inr h, same)) = rw (h.0, same) (inl (s, events, watched, c, h.1, Stays-same err))
told-LiveEnds asked input input_new out out_new err err_new result (Whole s events watched) c (inr (still, inl (took, inl h))) =
    rw h.0 (s, events, watched, record { comes = c; still = still }, took, h.1)
told-LiveEnds asked input input_new out out_new err err_new result (Whole s events watched) c (inr (still, inl (took, inr h))) =
    rw h.0 (inr (inl (s, events, watched, record { comes = c; still = still }, took, h.1)))
told-LiveEnds asked input input_new out out_new err err_new result (Whole s events watched) c (inr (still, inr h)) = rw (h.0, h.2) (inl (s, events, watched, c, h.1, Stays-same err))
told-LiveEnds asked input input_new out out_new err err_new result (Stopped s events e sums) c (inl (took, inl h)) = rw h.0 (s, events, e, sums, c, took, h.1)
told-LiveEnds asked input input_new out out_new err err_new result (Stopped s events e sums) c (inl (took, inr h)) =
    rw h.0 (inr (inr (inr (inl (s, events, e, sums, c, took, h.1)))))
told-LiveEnds asked input input_new out out_new err err_new result (Stopped s events e sums) c (inr h) =
    rw (h.0, h.2) (inr (inr (inl (s, events, e, sums, c, h.1, Stays-same err))))
told-LiveEnds asked input input_new out out_new err err_new result (live.Refused fault) c (inl h, same) = rw (h.0, same) (fault, c, Stays-same out, h.1)
told-LiveEnds asked input input_new out out_new err err_new result (live.Refused fault) c (inr h, same) =
    rw (h.0, same) (inr (inr (inr (inr (fault, c, Stays-same out, h.1)))))

-- ---- where nothing failed that is written to

told-whole : (asked : LiveCommand) (out out_new err err_new : Edge) (result : Status) (ending : Ending) → IsLiveTold asked ending out out_new err err_new result →
    IsLiveWhole asked ending out out_new err err_new result
told-whole asked out out_new err err_new result (Whole s events watched) (inl (closed, h, same)) = λ quiet quiet_err.
    let told = told-Took out out_new (whole_text asked.notation s.plan events watched) Done result h quiet in (told.1, inl (closed, told.0))
told-whole asked out out_new err err_new result (Whole s events watched) (inr (still, inl (took, h))) = λ quiet quiet_err.
    let told = told-Took err err_new not_settled_line NotSettled result h quiet_err in (took, inr (still, told.0, told.1))
told-whole asked out out_new err err_new result (Whole s events watched) (inr (still, inr h)) = λ quiet quiet_err. absurd (quiet h.1.faults)
told-whole asked out out_new err err_new result (Stopped s events e sums) (inl (took, h)) = λ quiet quiet_err.
    let told = told-Took err err_new (too_long_line sums) TooLong result h quiet_err in (told.0, took, told.1)
told-whole asked out out_new err err_new result (Stopped s events e sums) (inr h) = λ quiet quiet_err. absurd (quiet h.1.faults)
told-whole asked out out_new err err_new result (live.Refused fault) h = λ quiet. told-Took err err_new (fault_line fault) Refused result h.0 quiet

-- ---- an input that tells its bytes

abbrev pub past_limit : PlanFault
past_limit = record { line = 0; reason = PastLimit }

-- a text that is longer than the longest is no script, and is refused for that
long-refused : (text : List ℕ) → most_input < length text → refusal text ≡ Some past_limit
unfolding reading
long-refused text long = let here : 2 ^ 26 < length text = omega (arith, long) in rw (lt-ltb (2 ^ 26) (length text) here) refl

long-unread : (text : List ℕ) (s : Script) → most_input < length text → read text ≡ Some s → ⊥
unfolding reading
long-unread text s long is =
    let here : 2 ^ 26 < length text = omega (arith, long) in
    let none : read text ≡ None = rw (lt-ltb (2 ^ 26) (length text) here) refl in
    absurd (cc)

-- so all longer ones come to the same
long-same : (readers : ℕ) (text known : List ℕ) (ending : Ending) → most_input < length text → most_input < length known → CanEnd readers text ending → CanEnd readers known ending
long-same readers text known (Whole s events watched) long longer can = absurd (long-unread text s long can.0)
long-same readers text known (Stopped s events e sums) long longer can = absurd (long-unread text s long can.0)
long-same readers text known (live.Refused fault) long longer can = long-refused known longer ∙ sym (long-refused text long) ∙ can

-- what was read of known bytes comes to what they come to
known-ending : (asked : LiveCommand) (input input_new : Edge) (ending : Ending) (known : List ℕ) → LiveComesTo asked input input_new ending → input.bytes ≡ Some known → CanEnd (readers_of asked.beside) known ending
known-ending asked input input_new ending known c left = by-whole input_new.bytes c.text (subst (λ (o : Option (List ℕ)). Consumes o input_new.bytes c.text) left c.gave.bytes) c.whole c.can
  where
    by-whole : (new : Option (List ℕ)) (text : List ℕ) → Consumes (Some known) new text → IsAtEnd new ⊎ (length text ≡ most_input + 1) → CanEnd (readers_of asked.beside) text ending → CanEnd (readers_of asked.beside) known ending
    by-whole new text gave (inl end) can = let same = consumed-all new known text gave end in subst (λ (t : List ℕ). CanEnd (readers_of asked.beside) t ending) same can
    by-whole None text gave (inr many) can = absurd gave
    by-whole (Some rest) text gave (inr many) can =
        let all : length known ≡ length text + length rest = ap length gave ∙ length-append text rest in
        long-same (readers_of asked.beside) text known ending (omega (arith, many)) (omega (arith, all, many)) can

pub told-LiveIsWhole : (asked : LiveCommand) (input input_new out out_new err err_new : Edge) (result : Status) (ending : Ending) → LiveComesTo asked input input_new ending →
    IsLiveTold asked ending out out_new err err_new result → LiveIsWhole asked input input_new out out_new err err_new result
told-LiveIsWhole asked input input_new out out_new err err_new result ending c h = λ known left quiet.
    inl (ending, known-ending asked input input_new ending known c left, told-whole asked out out_new err err_new result ending h)

pub no_memory-LiveIsWhole : (asked : LiveCommand) (input input_new out out_new err err_new : Edge) (result : Status) → result ≡ NoMemory →
    LiveIsWhole asked input input_new out out_new err err_new result
no_memory-LiveIsWhole asked input input_new out out_new err err_new result e = λ known left quiet. inr e

pub failed-LiveIsWhole : (asked : LiveCommand) (input input_new out out_new err err_new : Edge) (result : Status) → Rises input.faults input_new.faults →
    LiveIsWhole asked input input_new out out_new err err_new result
failed-LiveIsWhole asked input input_new out out_new err err_new result failed = λ known left quiet. absurd (quiet failed)

-- one byte past the longest is refused
pub long-LiveComesTo : (asked : LiveCommand) (input input_new : Edge) (text : List ℕ) → Gave input input_new text → length text ≡ most_input + 1 → LiveComesTo asked input input_new (live.Refused past_limit)
long-LiveComesTo asked input input_new text gave many = record { text = text; gave = gave; whole = inr many; can = long-refusal text many }
