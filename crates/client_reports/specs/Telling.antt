-- What the code's client says of itself in a report.
use Rattle.std.specs.Prelude.{ℕ, List, [], ◌∷◌, length}
use Rattle.dpc_model.specs.declared.plans.ClientSpec.{ClientSpec}
use Rattle.dpc_model.specs.Words.{text_of, line_of}
use Rattle.dpc_model.specs.Reading.{is_settled}
use Rattle.serde_json.specs.Data.{Data}
use Rattle.report.specs.declared.text.Summary.{Summary}
use Rattle.report.specs.Text.{client_lines, summary_words}
use Rattle.client_fold.specs.Folding.{ClientValue}
use Rattle.client_reports.specs.Json.{client_data}

abbrev pub summary_by : ClientValue → Summary
summary_by v =
    record {
      stable = v.inlet.count;
      bound = v.inlet.state.held.bound;
      tentative = length v.inlet.state.held.tentative;
      settled = is_settled v.end v.inlet.state.held;
    }

-- its lines, under this name
abbrev pub text_by : List ℕ × ClientValue → List ℕ
text_by c = text_of (client_lines c.0 c.1.taken (summary_by c.1))

abbrev pub short_by : List ℕ × ClientValue → List ℕ
short_by c = line_of (summary_words c.0 (summary_by c.1))

-- each client with the name that the plan gives it
abbrev pub named : List ClientSpec → List ClientValue → List (List ℕ × ClientValue)
named [] vs = []
named (s ∷ specs) [] = []
named (s ∷ specs) (v ∷ vs) = (s.name, v) ∷ named specs vs

abbrev pub data_by : List ℕ × ClientValue → Data
data_by c = client_data c.0 c.1.taken (summary_by c.1)
