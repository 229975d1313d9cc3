-- The command that is done is the one that the words are.
use Rattle.std.proofs.Common.{◌≡◌, ◌∙◌, ℕ, List, Option, Some, subst, sym}
use Rattle.journal_commands.specs.declared.outcome.JournalCommand.{JournalCommand}
use Rattle.borealis_top.specs.InputEnds.{EndsBy, IsWholeFor}
use Rattle.picture_commands.specs.declared.form.PictureForm.{PictureForm}
use Rattle.borealis_top.specs.Questions.{journal_question, pair_question, picture_question, replay_picture_question}
use Rattle.borealis_top.proofs.plain.plain.Goals as goal

-- what is one pair of names is the other
same-names : (a b first second : List ℕ) → ◌≡◌ {A = Option (List ℕ × List ℕ)} (Some (a, b)) (Some (first, second)) → ◌≡◌ {A = List ℕ × List ℕ} (a, b) (first, second)
same-names a b first second e = cc

pub returns-in-Some-clause-pair : goal.returns-in-Some-clause-pair
returns-in-Some-clause-pair g c =
    λ first second is.
    subst (λ (names : List ℕ × List ℕ). EndsBy (pair_question names.0 names.1) (g.S.Source.edge c.args.input.now) (g.S.Source.edge c.ask.new.input) (g.O.Sink.edge c.args.out.now) (g.O.Sink.edge c.ask.new.out)
    (g.E.Sink.edge c.args.err.now) (g.E.Sink.edge c.ask.new.err) c.ask.result)
    (same-names c.in-Some.names.first.now c.in-Some.names.second.now first second (sym c.in-Some.ensures ∙ is)) c.ask.ensures.ends

pub returns-in-Some-clause-paired : goal.returns-in-Some-clause-paired
returns-in-Some-clause-paired g c =
    λ first second is.
    subst (λ (names : List ℕ × List ℕ). IsWholeFor (pair_question names.0 names.1) (g.S.Source.edge c.args.input.now) (g.S.Source.edge c.ask.new.input) (g.O.Sink.edge c.args.out.now) (g.O.Sink.edge c.ask.new.out)
    (g.E.Sink.edge c.args.err.now) (g.E.Sink.edge c.ask.new.err) c.ask.result)
    (same-names c.in-Some.names.first.now c.in-Some.names.second.now first second (sym c.in-Some.ensures ∙ is)) c.ask.ensures.complete

pub returns-in-Some-Journal-clause-journal : goal.returns-in-Some-Journal-clause-journal
returns-in-Some-Journal-clause-journal g c =
    λ what is.
    let said = c.command_in.ensures in
    let found = c.in-Some-Journal.is in
    let here = c.in-Some-Journal.field-0-is in
    let same : c.in-Some-Journal.what ≡ what = cc in
    subst (λ (w : JournalCommand). EndsBy (journal_question w) (g.S.Source.edge c.args.input.now) (g.S.Source.edge c.ask-in-Some-Journal.new.input) (g.O.Sink.edge c.args.out.now)
    (g.O.Sink.edge c.ask-in-Some-Journal.new.out) (g.E.Sink.edge c.args.err.now) (g.E.Sink.edge c.ask-in-Some-Journal.new.err) c.ask-in-Some-Journal.result)
    same c.ask-in-Some-Journal.ensures.ends

pub returns-in-Some-Picture-clause-picture : goal.returns-in-Some-Picture-clause-picture
returns-in-Some-Picture-clause-picture g c =
    λ form is.
    let said = c.command_in.ensures in
    let found = c.in-Some-Picture.is in
    let here = c.in-Some-Picture.field-0-is in
    let same : c.in-Some-Picture.form ≡ form = cc in
    subst (λ (f : PictureForm). EndsBy (picture_question f) (g.S.Source.edge c.args.input.now) (g.S.Source.edge c.ask-in-Some-Picture.new.input) (g.O.Sink.edge c.args.out.now)
    (g.O.Sink.edge c.ask-in-Some-Picture.new.out) (g.E.Sink.edge c.args.err.now) (g.E.Sink.edge c.ask-in-Some-Picture.new.err) c.ask-in-Some-Picture.result)
    same c.ask-in-Some-Picture.ensures.ends

pub returns-in-Some-Picture-clause-pictured : goal.returns-in-Some-Picture-clause-pictured
returns-in-Some-Picture-clause-pictured g c =
    λ form is.
    let said = c.command_in.ensures in
    let found = c.in-Some-Picture.is in
    let here = c.in-Some-Picture.field-0-is in
    let same : c.in-Some-Picture.form ≡ form = cc in
    subst (λ (f : PictureForm). IsWholeFor (picture_question f) (g.S.Source.edge c.args.input.now) (g.S.Source.edge c.ask-in-Some-Picture.new.input) (g.O.Sink.edge c.args.out.now)
    (g.O.Sink.edge c.ask-in-Some-Picture.new.out) (g.E.Sink.edge c.args.err.now) (g.E.Sink.edge c.ask-in-Some-Picture.new.err) c.ask-in-Some-Picture.result)
    same c.ask-in-Some-Picture.ensures.complete

pub returns-in-Some-PictureReplay-clause-replay_picture : goal.returns-in-Some-PictureReplay-clause-replay_picture
returns-in-Some-PictureReplay-clause-replay_picture g c =
    λ form is.
    let said = c.command_in.ensures in
    let found = c.in-Some-PictureReplay.is in
    let here = c.in-Some-PictureReplay.field-0-is in
    let same : c.in-Some-PictureReplay.form ≡ form = cc in
    subst (λ (f : PictureForm). EndsBy (replay_picture_question f) (g.S.Source.edge c.args.input.now) (g.S.Source.edge c.ask-in-Some-PictureReplay.new.input) (g.O.Sink.edge c.args.out.now)
    (g.O.Sink.edge c.ask-in-Some-PictureReplay.new.out) (g.E.Sink.edge c.args.err.now) (g.E.Sink.edge c.ask-in-Some-PictureReplay.new.err) c.ask-in-Some-PictureReplay.result)
    same c.ask-in-Some-PictureReplay.ensures.ends

pub returns-in-Some-PictureReplay-clause-replay_pictured : goal.returns-in-Some-PictureReplay-clause-replay_pictured
returns-in-Some-PictureReplay-clause-replay_pictured g c =
    λ form is.
    let said = c.command_in.ensures in
    let found = c.in-Some-PictureReplay.is in
    let here = c.in-Some-PictureReplay.field-0-is in
    let same : c.in-Some-PictureReplay.form ≡ form = cc in
    subst (λ (f : PictureForm). IsWholeFor (replay_picture_question f) (g.S.Source.edge c.args.input.now) (g.S.Source.edge c.ask-in-Some-PictureReplay.new.input) (g.O.Sink.edge c.args.out.now)
    (g.O.Sink.edge c.ask-in-Some-PictureReplay.new.out) (g.E.Sink.edge c.args.err.now) (g.E.Sink.edge c.ask-in-Some-PictureReplay.new.err) c.ask-in-Some-PictureReplay.result)
    same c.ask-in-Some-PictureReplay.ensures.complete
