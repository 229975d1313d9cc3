-- What comes to single ports and goes to single readers, and what each call leaves and answers.
use Rattle.std.specs.Prelude.{◌≡◌, ℕ, Bool, List, Option}
use Rattle.dpc_lists.specs.Lists.{nth, changed}
use Rattle.dpc_model.specs.Inlets.{with_next_session, asked_by, no_inlet}
use Rattle.dpc_model.specs.Parts.{Inputs, done_in, shown_of, Outputs}
use Rattle.dpc_model.specs.Sessions.{no_session, Answered, answer_to}
use Rattle.dpc_model.specs.declared.operators.OpSpec.{OpSpec}
use Rattle.dpc_model.specs.declared.tuples.Item.{Item}
use Rattle.dpc_model.specs.declared.messages.Message.{Message}
use Rattle.dpc_model.specs.declared.messages.Sess.{Sess}
use Rattle.dpc_model.specs.declared.messages.Subscribe.{Subscribe}
use Rattle.sunion.specs.Laws.{with_inlet}
use Rattle.sunion.specs.Unions.{taken_at, after_taking_at, verdict_of}
use Rattle.sunion.specs.declared.sunion.Verdict.{Verdict}
use Rattle.pipeline.specs.Flowing.{PipelineValue, StandsForData, stream_at}

-- a port took a batch; where the stable inputs below the cursor's bucket stay, it goes on to stand for the inputs
pub record IsTakenAt (ops : List OpSpec) (port : ℕ) (s : Sess) (index : ℕ) (items : List Item) (clock : ℕ) (old new : PipelineValue) (x : Inputs) (o : Outputs) (told : Verdict) : Type 0 where
  pub answer : told ≡ verdict_of (taken_at port s index items x).answer
  pub stands :
      let y = after_taking_at old.union.width clock port (taken_at port s index items x) x in
      done_in old.union.width y ≡ done_in old.union.width x → StandsForData ops new y o

-- the next session of a port was asked for
pub record IsReopened (ops : List OpSpec) (port : ℕ) (new : PipelineValue) (x : Inputs) (o : Outputs) (asked : Subscribe) : Type 0 where
  pub asked_as : asked ≡ asked_by (with_next_session (nth no_inlet x.inlets port))
  pub stands : StandsForData ops new (with_inlet port with_next_session x) o

-- what a reader's subscription is answered
abbrev pub answer_in : List OpSpec → PipelineValue → Bool → ℕ → Subscribe → Inputs → Outputs → Answered
answer_in ops v stable_now reader asked x o = answer_to (shown_of (stream_at ops v x) o.base stable_now) (nth no_session o.subs reader) asked

-- it was answered so
pub record HasAnswered (ops : List OpSpec) (reader : ℕ) (asked : Subscribe) (stable_now : Bool) (old new : PipelineValue) (x : Inputs) (o : Outputs) (told : Option Message) : Type 0 where
  pub answer : told ≡ (answer_in ops old stable_now reader asked x o).answer
  pub stands : StandsForData ops new x (record o { subs = changed reader (λ _. (answer_in ops old stable_now reader asked x o).after) o.subs })
