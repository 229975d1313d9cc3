-- What the places of a line depend on.
use Rattle.std.specs.Prelude.{◌≡◌, if◌then◌else◌, List, [], ◌∷◌}
use Rattle.script_rules.specs.Drafts.{Draft, nothing_yet, is_wide, width_of, end_of}
use Rattle.script_rules.specs.Places.{places_of}
use Rattle.script_rules.specs.declared.keywords.Keyword.{Keyword}
use Rattle.script_rules.specs.declared.places.Place.{Place}
use Rattle.script_words.specs.declared.places.Limits.{Limits}

-- the limits are those of a draft
pub record HasLimits (d : Draft) (l : Limits) : Type 0 where
  pub wide : is_wide d ≡ l.wide
  pub width : width_of d ≡ l.width
  pub end : end_of d ≡ l.end

-- a draft that has these limits
abbrev pub draft_with : Limits → Draft
draft_with l = record nothing_yet { header = (if l.wide then 3 else 1) ∷ l.width ∷ 0 ∷ l.end ∷ [] }

-- the places of a line, where the limits are these
abbrev pub places_by : Limits → Keyword → List Place
places_by l k = places_of (draft_with l) k
