-- How a command ends, from how each of them does.
use Rattle.std.proofs.Common.{◌≡◌, ℕ, List, Option, None, Some, refl}
use Rattle.dpc_edge.specs.Edges.{Edge}
use Rattle.borealis_top.specs.declared.command.Reading.{Reading}
use Rattle.borealis_top.specs.declared.command.Command.{Command}
use Rattle.borealis_top.specs.declared.command.Command.TheVariants.{Read, Journal, Saves, Picture, PictureReplay, Gen, Help, Reasons, Version}
use Rattle.journal_commands.specs.declared.outcome.JournalCommand.{JournalCommand}
use Rattle.picture_commands.specs.declared.form.PictureForm.{PictureForm}
use Rattle.borealis_top.specs.declared.status.Status.{Status}
use Rattle.borealis_top.specs.Programs.{CommandEnds, PlainEnds}

ends-of : (command : Option Command) (input input_new out out_new err err_new : Edge) (result : Status) →
    (command ≡ None → CommandEnds None input input_new out out_new err err_new result) →
    (command ≡ Some Help → CommandEnds (Some Help) input input_new out out_new err err_new result) →
    (command ≡ Some Reasons → CommandEnds (Some Reasons) input input_new out out_new err err_new result) →
    (command ≡ Some Version → CommandEnds (Some Version) input input_new out out_new err err_new result) →
    ((seed : ℕ) → command ≡ Some (Gen seed) → CommandEnds (Some (Gen seed)) input input_new out out_new err err_new result) →
    ((reading : Reading) → command ≡ Some (Read reading) → CommandEnds (Some (Read reading)) input input_new out out_new err err_new result) →
    ((what : JournalCommand) → command ≡ Some (Journal what) → CommandEnds (Some (Journal what)) input input_new out out_new err err_new result) →
    (command ≡ Some Saves → CommandEnds (Some Saves) input input_new out out_new err err_new result) →
    ((form : PictureForm) → command ≡ Some (Picture form) → CommandEnds (Some (Picture form)) input input_new out out_new err err_new result) →
    ((form : PictureForm) → command ≡ Some (PictureReplay form) → CommandEnds (Some (PictureReplay form)) input input_new out out_new err err_new result) →
    CommandEnds command input input_new out out_new err err_new result
ends-of None input input_new out out_new err err_new result none help reasons version gen read journal saves picture replayed = none refl
ends-of (Some Help) input input_new out out_new err err_new result none help reasons version gen read journal saves picture replayed = help refl
ends-of (Some Reasons) input input_new out out_new err err_new result none help reasons version gen read journal saves picture replayed = reasons refl
ends-of (Some Version) input input_new out out_new err err_new result none help reasons version gen read journal saves picture replayed = version refl
ends-of (Some (Gen seed)) input input_new out out_new err err_new result none help reasons version gen read journal saves picture replayed = gen seed refl
ends-of (Some (Read reading)) input input_new out out_new err err_new result none help reasons version gen read journal saves picture replayed = read reading refl
ends-of (Some (Journal what)) input input_new out out_new err err_new result none help reasons version gen read journal saves picture replayed = journal what refl
ends-of (Some Saves) input input_new out out_new err err_new result none help reasons version gen read journal saves picture replayed = saves refl
ends-of (Some (Picture form)) input input_new out out_new err err_new result none help reasons version gen read journal saves picture replayed = picture form refl
ends-of (Some (PictureReplay form)) input input_new out out_new err err_new result none help reasons version gen read journal saves picture replayed = replayed form refl

pub plain-ends : (names : Option (List ℕ × List ℕ)) (command : Option Command) (input input_new out out_new err err_new : Edge) (result : Status) →
    (command ≡ None → names ≡ None → CommandEnds None input input_new out out_new err err_new result) →
    (command ≡ Some Help → CommandEnds (Some Help) input input_new out out_new err err_new result) →
    (command ≡ Some Reasons → CommandEnds (Some Reasons) input input_new out out_new err err_new result) →
    (command ≡ Some Version → CommandEnds (Some Version) input input_new out out_new err err_new result) →
    ((seed : ℕ) → command ≡ Some (Gen seed) → CommandEnds (Some (Gen seed)) input input_new out out_new err err_new result) →
    ((reading : Reading) → command ≡ Some (Read reading) → CommandEnds (Some (Read reading)) input input_new out out_new err err_new result) →
    ((what : JournalCommand) → command ≡ Some (Journal what) → CommandEnds (Some (Journal what)) input input_new out out_new err err_new result) →
    (command ≡ Some Saves → CommandEnds (Some Saves) input input_new out out_new err err_new result) →
    ((form : PictureForm) → command ≡ Some (Picture form) → CommandEnds (Some (Picture form)) input input_new out out_new err err_new result) →
    ((form : PictureForm) → command ≡ Some (PictureReplay form) → CommandEnds (Some (PictureReplay form)) input input_new out out_new err err_new result) →
    ((pair : List ℕ × List ℕ) → names ≡ Some pair → PlainEnds (Some pair) command input input_new out out_new err err_new result) →
    PlainEnds names command input input_new out out_new err err_new result
plain-ends (Some pair) command input input_new out out_new err err_new result none help reasons version gen read journal saves picture replayed paired = paired pair refl
plain-ends None command input input_new out out_new err err_new result none help reasons version gen read journal saves picture replayed paired =
    ends-of command input input_new out out_new err err_new result (λ e. none e refl) help reasons version gen read journal saves picture replayed
