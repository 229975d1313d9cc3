-- Lines against whose words no reason stands.
use Rattle.std.specs.Prelude.{◌≡◌, false, List}
use Rattle.dpc_model.specs.Words.{Word}
use Rattle.script_rules.specs.Drafts.{Draft}
use Rattle.script_rules.specs.Reasons.{has_foreign_word, has_wrong_length, lacks_number, is_past_range}
use Rattle.script_rules.specs.declared.keywords.Keyword.{Keyword}

-- no reason stands against the words behind a keyword
pub record IsFaultless (d : Draft) (k : Keyword) (words : List Word) : Type 0 where
  pub foreign : has_foreign_word d k words ≡ false
  pub length : has_wrong_length d k words ≡ false
  pub number : lacks_number d k words ≡ false
  pub range : is_past_range d k words ≡ false
