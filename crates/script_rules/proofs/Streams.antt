-- What a checked script's fragments and clients read was declared before.
use Rattle.std.proofs.Common.{◌≡◌, ℕ, zero, suc, ◌≤◌, Bool, true, false, List, [], ◌∷◌, ◌++◌, length, Option, None, refl, ap, subst, ◌∙◌, arith}
use Rattle.std.specs.Prelude.{◌||◌, nat_lt, is_none, option_map, bytes_eq}
use Rattle.std.proofs.lemmas.Bool.{or_parts, ltb-false}
use Rattle.std.proofs.lemmas.List.{append-nil}
use Rattle.std.proofs.lemmas.List.Folds.{list_any-append}
use Rattle.dpc_lists.specs.Lists.{nth}
use Rattle.dpc_model.specs.Words.{Word}
use Rattle.dpc_model.specs.declared.plans.StreamRef.{StreamRef}
use Rattle.dpc_model.specs.declared.plans.StreamRef.TheVariants.{Source, Frag}
use Rattle.dpc_lists.proofs.Truths.{or-true}
use Rattle.script_rules.specs.Drafts.{place_of_name, or_else}
use Rattle.script_rules.specs.Reasons.{is_among, has_twice}
use Rattle.script_rules.proofs.Apart.{same_word, word_is_itself, among_neither, twice-last}

-- a word that is not among them has no place
pub no_place : (w : Word) (ws : List Word) → is_among w ws ≡ false → place_of_name w ws ≡ None
no_place w [] h = refl
no_place w (x ∷ ws) h =
    let p = or_parts (bytes_eq w x) (is_among w ws) h in
    rw (p.0, no_place w ws p.1) refl

-- the stream of a name, by the names of sources and of fragments
abbrev pub stream_at : List Word → List Word → Word → Option StreamRef
stream_at sources frags w = or_else (option_map Source (place_of_name w sources)) (option_map Frag (place_of_name w frags))

no_stream : (w : Word) (sources frags : List Word) → is_among w sources ≡ false → is_among w frags ≡ false → stream_at sources frags w ≡ None
no_stream w sources frags h k = rw (no_place w sources h, no_place w frags k) refl

-- a word of the second part is none of the first
pub other_part : (w : Word) (a b : List Word) → has_twice (a ++ b) ≡ false → is_among w b ≡ true → is_among w a ≡ false
other_part w [] b h k = refl
other_part w (x ∷ a) b h k =
    let p = or_parts (is_among x (a ++ b)) (has_twice (a ++ b)) h in
    (elim (bytes_eq w x) as (λ t. bytes_eq w x ≡ t → (t || is_among w a) ≡ false) [
      | true ↦ λ e.
          let same : w ≡ x = same_word w x e in
          let among : is_among x b ≡ true = subst (λ v. is_among v b ≡ true) same k in
          let not_among : is_among x b ≡ false = (among_neither x a b p.0).1 in
          absurd cc
      | false ↦ λ e. other_part w a b p.1 k
    ]) refl

one_more : (v w : Word) (b : List Word) → is_among v b ≡ true → is_among v (w ∷ b) ≡ true
one_more v w b k = ap (λ t. bytes_eq v w || t) k ∙ or-true (bytes_eq v w)

-- an element behind the first part, or none
pub nth-behind : (P : Word → Type 0) (a b : List Word) (j : ℕ) → length a ≤ j → P [] → ((w : Word) → is_among w b ≡ true → P w) → P (nth [] (a ++ b) j)
nth-behind P [] [] j far none each = none
nth-behind P [] (w ∷ b) zero far none each = each w (ap (λ t. t || is_among w b) (word_is_itself w))
nth-behind P [] (w ∷ b) (suc j) far none each = nth-behind P [] b j (omega arith) none (λ v k. each v (one_more v w b k))
nth-behind P (x ∷ a) b zero far none each = absurd (omega (arith, far))
nth-behind P (x ∷ a) b (suc j) far none each = nth-behind P a b j (omega (arith, far)) none each

-- what lies behind the ports and the operators so far has a name of neither
abbrev pub AreOthers : List Word → List Word → Word → Type 0
AreOthers ports ops w = (is_among w ports ≡ false) × (is_among w ops ≡ false)

-- a fragment's name behind the fragments so far is unknown yet
pub later_is_unknown : (sources frags rest : List Word) (j : ℕ) → has_twice (sources ++ (frags ++ rest)) ≡ false → AreOthers sources frags [] → length frags ≤ j → AreOthers sources frags (nth [] (frags ++ rest) j)
later_is_unknown sources frags rest j apart none far =
    nth-behind (AreOthers sources frags) frags rest j far none
    (λ w k.
    let among : is_among w (frags ++ rest) ≡ true = list_any-append (bytes_eq w) frags rest ∙ ap (λ t. is_among w frags || t) k ∙ or-true (is_among w frags) in
    (other_part w sources (frags ++ rest) apart among, other_part w frags rest (twice-last sources (frags ++ rest) apart) k))

-- a source's name behind the sources is none
pub no_source_is_unknown : (sources frags : List Word) (j : ℕ) → AreOthers sources frags [] → length sources ≤ j → AreOthers sources frags (nth [] sources j)
no_source_is_unknown sources frags j none far =
    subst (λ l. AreOthers sources frags (nth [] l j)) (append-nil sources) (nth-behind (AreOthers sources frags) sources [] j far none (λ w k. absurd cc))

-- whether a stream is one of so many sources and fragments
abbrev pub is_within : ℕ → ℕ → StreamRef → Bool
is_within sources frags (Source s) = nat_lt s sources
is_within sources frags (Frag f) = nat_lt f frags

abbrev pub name_at : List Word → List Word → StreamRef → Word
name_at sources frags (Source s) = nth [] sources s
name_at sources frags (Frag f) = nth [] frags f

-- a stream that is found by its name among the sources and the fragments so far is one of them
pub found_is_within : (sources frags rest : List Word) (s : StreamRef) → has_twice (sources ++ (frags ++ rest)) ≡ false → AreOthers sources frags [] → is_none (stream_at sources frags (name_at sources (frags ++ rest) s)) ≡ false →
    is_within (length sources) (length frags) s ≡ true
found_is_within sources frags rest (Source s) apart none found =
    (elim (nat_lt s (length sources)) as (λ t. nat_lt s (length sources) ≡ t → t ≡ true) [
      | true ↦ λ e. refl
      | false ↦ λ e.
          let far : length sources ≤ s = ltb-false s (length sources) e in
          let u = no_source_is_unknown sources frags s none far in
          let lost : is_none (stream_at sources frags (nth [] sources s)) ≡ true = ap is_none (no_stream (nth [] sources s) sources frags u.0 u.1) in
          absurd cc
    ]) refl
found_is_within sources frags rest (Frag f) apart none found =
    (elim (nat_lt f (length frags)) as (λ t. nat_lt f (length frags) ≡ t → t ≡ true) [
      | true ↦ λ e. refl
      | false ↦ λ e.
          let far : length frags ≤ f = ltb-false f (length frags) e in
          let u = later_is_unknown sources frags rest f apart none far in
          let lost : is_none (stream_at sources frags (nth [] (frags ++ rest) f)) ≡ true = ap is_none (no_stream (nth [] (frags ++ rest) f) sources frags u.0 u.1) in
          absurd cc
    ]) refl
