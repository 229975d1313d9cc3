-- The key words behind scripts begin no line of a script.
use Rattle.std.proofs.Common.{◌≡◌, ℕ, true, false, List, [], ◌∷◌, None, refl}
use Rattle.std.specs.Prelude.{◌==◌, ◌++◌, if◌then◌else◌, codes, bytes_eq, not, filter}
use Rattle.dpc_lists.specs.Lists.{is_nil}
use Rattle.dpc_model.specs.Words.{Word}
use Rattle.script_rules.specs.Keywords.{looked_up, keywords, late_keywords, keyword_of}
use Rattle.script_rules.specs.Lines.{in_front}
use Rattle.script_rules.specs.Statements.{word}
use Rattle.input_parts.proofs.Beside.{IsApart}

no_keyword : (key : Word) → looked_up keywords key ≡ None → looked_up (keywords ++ late_keywords) key ≡ None → (version : ℕ) → keyword_of version key ≡ None
no_keyword key old new version =
    elim (version == 3) as (λ t. looked_up (if t then keywords ++ late_keywords else keywords) key ≡ None) [
      | true ↦ new
      | false ↦ old
    ]

-- the first word behind a `#` is not such a key
abbrev HashIsOther : Word → Type 0
HashIsOther key = (ps : List (List ℕ)) → bytes_eq (word (filter (λ w. not (is_nil w)) (in_front 35 ps)) 0) key ≡ false

hash_journal : HashIsOther (codes "journal")
hash_journal [] = refl
hash_journal (p ∷ ps) = refl

pub journal_apart : IsApart (codes "journal")
journal_apart = record { some = refl; keyword = no_keyword (codes "journal") refl refl; hash = hash_journal }

hash_frames : HashIsOther (codes "frames")
hash_frames [] = refl
hash_frames (p ∷ ps) = refl

pub frames_apart : IsApart (codes "frames")
frames_apart = record { some = refl; keyword = no_keyword (codes "frames") refl refl; hash = hash_frames }

hash_stream : HashIsOther (codes "stream")
hash_stream [] = refl
hash_stream (p ∷ ps) = refl

pub stream_apart : IsApart (codes "stream")
stream_apart = record { some = refl; keyword = no_keyword (codes "stream") refl refl; hash = hash_stream }
