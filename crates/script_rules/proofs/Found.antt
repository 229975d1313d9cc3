-- What is found by its name has that name.
use Rattle.std.proofs.Common.{◌≡◌, ℕ, suc, ◌<◌, true, false, List, [], ◌∷◌, map, length, Option, Some, None, refl, sym, ap, ◌∙◌, arith}
use Rattle.std.specs.Prelude.{⊤, ◌||◌, if◌then◌else◌, is_none, unwrap_or, option_map, bytes_eq}
use Rattle.std.proofs.lemmas.Bool.{or_parts, lt-ltb}
use Rattle.dpc_lists.specs.Lists.{nth, list_any, list_all}
use Rattle.dpc_model.specs.Words.{Word}
use Rattle.dpc_model.specs.Actors.{same_stream}
use Rattle.dpc_model.specs.declared.plans.StreamRef.{StreamRef}
use Rattle.dpc_model.specs.declared.plans.StreamRef.TheVariants.{Source, Frag}
use Rattle.dpc_model.proofs.Alike.{same_stream-eq}
use Rattle.script_rules.specs.Drafts.{place_of_name, or_else}
use Rattle.script_rules.specs.Reasons.{is_among, has_twice}
use Rattle.script_rules.specs.Facts.{reads_once}
use Rattle.script_rules.proofs.Apart.{same_word}
use Rattle.script_rules.proofs.Once.{is_not}
use Rattle.script_rules.proofs.Streams.{stream_at, is_within, name_at}

-- a place of that word
abbrev pub IsPlaceOf : Word → List Word → Option ℕ → Type 0
IsPlaceOf w ws None = ⊤
IsPlaceOf w ws (Some i) = (i < length ws) × (nth [] ws i ≡ w)

one_further : (w x : Word) (ws : List Word) (o : Option ℕ) → IsPlaceOf w ws o → IsPlaceOf w (x ∷ ws) (elim o [ None ↦ None | Some i ↦ Some (suc i) ])
one_further w x ws None h = tt
one_further w x ws (Some i) h = let low = h.0 in (omega (arith, low), h.1)

pub place_is : (w : Word) (ws : List Word) → IsPlaceOf w ws (place_of_name w ws)
place_is w [] = tt
place_is w (x ∷ ws) =
    (elim (bytes_eq w x) as (λ b. bytes_eq w x ≡ b → IsPlaceOf w (x ∷ ws) (if b then Some 0 else (elim (place_of_name w ws) [ None ↦ None | Some i ↦ Some (suc i) ]))) [
      | true ↦ λ e. (omega arith, sym (same_word w x e))
      | false ↦ λ e. one_further w x ws (place_of_name w ws) (place_is w ws)
    ]) refl

-- a stream of that name, one of those that are there
abbrev pub IsStreamOf : Word → List Word → List Word → Option StreamRef → Type 0
IsStreamOf w sources frags None = ⊤
IsStreamOf w sources frags (Some s) = (is_within (length sources) (length frags) s ≡ true) × (name_at sources frags s ≡ w)

either_is : (w : Word) (sources frags : List Word) (o p : Option ℕ) → IsPlaceOf w sources o → IsPlaceOf w frags p → IsStreamOf w sources frags (or_else (option_map Source o) (option_map Frag p))
either_is w sources frags (Some s) p h k = (lt-ltb s (length sources) h.0, h.1)
either_is w sources frags None (Some f) h k = (lt-ltb f (length frags) k.0, k.1)
either_is w sources frags None None h k = tt

pub stream_is : (w : Word) (sources frags : List Word) → IsStreamOf w sources frags (stream_at sources frags w)
stream_is w sources frags = either_is w sources frags (place_of_name w sources) (place_of_name w frags) (place_is w sources) (place_is w frags)

-- the stream that is found, or else the first source
abbrev pub found : List Word → List Word → Word → StreamRef
found sources frags w = unwrap_or (stream_at sources frags w) (Source 0)

abbrev IsFound : Word → List Word → List Word → StreamRef → Type 0
IsFound w sources frags s = (is_within (length sources) (length frags) s ≡ true) × (name_at sources frags s ≡ w)

or_lost : (w : Word) (sources frags : List Word) (o : Option StreamRef) → is_none o ≡ false → IsStreamOf w sources frags o → IsFound w sources frags (unwrap_or o (Source 0))
or_lost w sources frags None known h = absurd cc
or_lost w sources frags (Some s) known h = h

pub found_is : (w : Word) (sources frags : List Word) → is_none (stream_at sources frags w) ≡ false → IsFound w sources frags (found sources frags w)
found_is w sources frags known = or_lost w sources frags (stream_at sources frags w) known (stream_is w sources frags)

-- all of them are there
pub found_within : (sources frags ws : List Word) → list_any (λ w. is_none (stream_at sources frags w)) ws ≡ false → list_all (is_within (length sources) (length frags)) (map (found sources frags) ws) ≡ true
found_within sources frags [] known = refl
found_within sources frags (w ∷ ws) known =
    let p = or_parts (is_none (stream_at sources frags w)) (list_any (λ v. is_none (stream_at sources frags v)) ws) known in
    rw ((found_is w sources frags p.0).0, found_within sources frags ws p.1) refl

-- and those of different names differ
found_apart : (w : Word) (sources frags ws : List Word) → is_none (stream_at sources frags w) ≡ false → list_any (λ v. is_none (stream_at sources frags v)) ws ≡ false →
    is_among w ws ≡ false → list_any (same_stream (found sources frags w)) (map (found sources frags) ws) ≡ false
found_apart w sources frags [] here known apart = refl
found_apart w sources frags (v ∷ ws) here known apart =
    let p = or_parts (is_none (stream_at sources frags v)) (list_any (λ u. is_none (stream_at sources frags u)) ws) known in
    let q = or_parts (bytes_eq w v) (is_among w ws) apart in
    (elim (same_stream (found sources frags w) (found sources frags v)) as (λ t. same_stream (found sources frags w) (found sources frags v) ≡ t → (t || list_any (same_stream (found sources frags w)) (map (found sources frags) ws)) ≡ false) [
      | true ↦ λ e.
          let same : w ≡ v = sym (found_is w sources frags here).1 ∙ ap (name_at sources frags) (same_stream-eq _ _ e) ∙ (found_is v sources frags p.0).1 in
          absurd (is_not w v same q.0)
      | false ↦ λ e. found_apart w sources frags ws here p.1 q.1
    ]) refl

pub found_once : (sources frags ws : List Word) → list_any (λ w. is_none (stream_at sources frags w)) ws ≡ false → has_twice ws ≡ false → reads_once (map (found sources frags) ws) ≡ true
found_once sources frags [] known apart = refl
found_once sources frags (w ∷ ws) known apart =
    let p = or_parts (is_none (stream_at sources frags w)) (list_any (λ v. is_none (stream_at sources frags v)) ws) known in
    let q = or_parts (is_among w ws) (has_twice ws) apart in
    rw (found_apart w sources frags ws p.0 p.1 q.0, found_once sources frags ws p.1 q.1) refl
