-- A text that is read is what is printed of the journal that it is read as.
use Rattle.std.proofs.Common.{◌≡◌, ℕ, ◌^◌, Bool, true, false, cond, List, [], ◌∷◌, ◌++◌, map, length, Option, Some, None, refl, sym, ap, subst, ◌∙◌, inl, inr}
use Rattle.std.specs.Prelude.{Result, Ok, Err, ◌&&◌, ◌==◌, nat_lt, codes, bytes_eq, decimal, option_map, if◌then◌else◌}
use Rattle.std.proofs.lemmas.Bool.{and_parts, eqb-true, lt-ltb}
use Rattle.std.proofs.lemmas.List.{append-nil, append_assoc}
use Rattle.dpc_lists.specs.Lists.{list_all}
use Rattle.dpc_model.specs.Words.{Word, spaced, text_of}
use Rattle.dpc_model.specs.Actors.{role_of, roles_of}
use Rattle.dpc_model.specs.ScriptText.{actor_name, role_name}
use Rattle.dpc_model.specs.declared.actors.Role.TheVariants.{Nobody}
use Rattle.dpc_model.specs.declared.messages.Event.{Event}
use Rattle.dpc_model.specs.declared.messages.Event.TheVariants.{Phase, Emit, Release, Cut, Heal, Crash, Restart, Deliver, Tick, Mill}
use Rattle.dpc_model.specs.declared.plans.Plan.{Plan}
use Rattle.script_rules.specs.Lines.{pieces, lines_of, in_front}
use Rattle.script_rules.proofs.Apart.{same_word}
use Rattle.script_rules.proofs.Found.{IsPlaceOf, place_is}
use Rattle.script_rules.proofs.Roles.{nth-map}
use Rattle.script_words.specs.Options.{◌>>=◌, given}
use Rattle.script_words.specs.Numbers.{u64_of}
use Rattle.script_words.proofs.Splitting.{pieces-cons}
use Rattle.journal_text.specs.Actors.{is_of, actor_named, actor_of}
use Rattle.journal_text.specs.Entries.{both, entry_words, entry_of_two, entry_of_three, entry_of_words, entry_of, is_named, has_small_numbers}
use Rattle.journal_text.specs.Journals.{first_words, last_words, journal_text, counted, opened, is_right, concluded, entries_of, journal_of_lines, journal_of, IsTextOf}
use Rattle.journal_text.specs.declared.sorts.Sort.{Sort}
use Rattle.journal_text.specs.declared.sorts.Sort.TheVariants.{Source, Node, Any}
use Rattle.journal_text.proofs.Found.{decimal-u64_of, small-u64_of}
use Rattle.journal_text.proofs.ByLines.{by_lines}

-- ---- lines are put together as they were taken apart

spaced_in_front : (b : ℕ) (w : Word) (ws : List Word) → spaced ((b ∷ w) ∷ ws) ≡ b ∷ spaced (w ∷ ws)
spaced_in_front b w [] = refl
spaced_in_front b w (v ∷ ws) = refl

spaced-pieces : (line : List ℕ) → spaced (pieces 32 line) ≡ line
spaced-pieces [] = refl
spaced-pieces (b ∷ bs) =
    let c = pieces-cons 32 bs in
    let rest : spaced (c.0 ∷ c.1) ≡ bs = ap spaced (sym c.2) ∙ spaced-pieces bs in
    (elim (b == 32) as (λ t. (b == 32) ≡ t → spaced (cond t ([] ∷ pieces 32 bs) (in_front b (pieces 32 bs))) ≡ b ∷ bs) [
      | true ↦ λ e. ap (λ ps. spaced ([] ∷ ps)) c.2 ∙ ap (λ t. 32 ∷ t) rest ∙ ap (λ n. n ∷ bs) (sym (eqb-true b 32 e))
      | false ↦ λ e. ap (λ ps. spaced (in_front b ps)) c.2 ∙ spaced_in_front b c.0 c.1 ∙ ap (λ t. b ∷ t) rest
    ]) refl

abbrev closed : List (List ℕ) → List ℕ
closed [] = []
closed (l ∷ ls) = (l ++ 10 ∷ []) ++ closed ls

closed-spaced : (lines : List (List Word)) → closed (map spaced lines) ≡ text_of lines
closed-spaced [] = refl
closed-spaced (words ∷ lines) = ap (λ t. (spaced words ++ 10 ∷ []) ++ t) (closed-spaced lines)

-- a byte in front of a line
one_in_front : (b : ℕ) (bs : List ℕ) (lines : List (List ℕ)) → lines_of bs ≡ lines → IsTextOf bs (closed lines) → IsTextOf (b ∷ bs) (closed (in_front b lines))
one_in_front b [] [] e h = inr refl
one_in_front b (c ∷ bs) [] e (inl h) = absurd cc
one_in_front b (c ∷ bs) [] e (inr h) = absurd cc
one_in_front b bs (l ∷ ls) e (inl h) = inl (ap (λ t. b ∷ t) h)
one_in_front b bs (l ∷ ls) e (inr h) = inr (ap (λ t. b ∷ t) h)

closed-lines_of : (text : List ℕ) → IsTextOf text (closed (lines_of text))
closed-lines_of [] = inl refl
closed-lines_of (b ∷ bs) =
    (elim (b == 10) as (λ t. (b == 10) ≡ t → IsTextOf (b ∷ bs) (closed (cond t ([] ∷ lines_of bs) (in_front b (lines_of bs))))) [
      | true ↦ λ e. behind (eqb-true b 10 e) (closed-lines_of bs)
      | false ↦ λ e. one_in_front b bs (lines_of bs) refl (closed-lines_of bs)
    ]) refl
  where
    behind : b ≡ 10 → IsTextOf bs (closed (lines_of bs)) → IsTextOf (b ∷ bs) (10 ∷ closed (lines_of bs))
    behind same (inl h) = inl (rw same (ap (λ t. 10 ∷ t) h))
    behind same (inr h) = inr (rw same (ap (λ t. 10 ∷ t) h))

-- ---- what was there where something is

some_of : (make : ℕ → Event) (o : Option ℕ) (e : Event) → option_map make o ≡ Some e → (n : ℕ) × (o ≡ Some n) × (make n ≡ e)
some_of make None e h = absurd cc
some_of make (Some n) e h = (n, refl, cc)

some_both : (make : ℕ → ℕ → Event) (o p : Option ℕ) (e : Event) → option_map (λ (x : ℕ × ℕ). make x.0 x.1) (both o p) ≡ Some e → (a : ℕ) × (b : ℕ) × (o ≡ Some a) × (p ≡ Some b) × (make a b ≡ e)
some_both make None p e h = absurd cc
some_both make (Some a) None e h = absurd cc
some_both make (Some a) (Some b) e h = (a, b, refl, refl, cc)

given_is : (t : Bool) (a b : ℕ) → given t a ≡ Some b → (t ≡ true) × (a ≡ b)
given_is true a b e = (refl, cc)
given_is false a b e = absurd cc

module _ (plan : Plan) where
  -- an actor that was found has that name, and is of that sort
  actor_is : (sort : Sort) (w : Word) (a : ℕ) → actor_of plan sort w ≡ Some a → (w ≡ actor_name plan a) × (is_of sort (role_of plan a) ≡ true)
  actor_is sort w a h = pick (actor_named plan w) (place_is w (map (role_name plan) (roles_of plan))) h
    where
      pick : (o : Option ℕ) → IsPlaceOf w (map (role_name plan) (roles_of plan)) o → (o >>= (λ b. given (is_of sort (role_of plan b)) b)) ≡ Some a → (w ≡ actor_name plan a) × (is_of sort (role_of plan a) ≡ true)
      pick None p k = absurd cc
      pick (Some b) p k =
          let g = given_is (is_of sort (role_of plan b)) b a k in
          let name : w ≡ actor_name plan b = sym p.1 ∙ nth-map (role_name plan) Nobody (roles_of plan) b refl in
          (name ∙ ap (actor_name plan) g.1, subst (λ c. is_of sort (role_of plan c) ≡ true) g.1 g.0)

  -- words are those of an entry
  record AreWordsOf (words : List Word) (e : Event) : Type 0 where
    are : words ≡ entry_words plan e
    named : is_named plan e ≡ true
    small : has_small_numbers e ≡ true

  instead : (words own : List Word) (e f : Event) → words ≡ own → f ≡ e → AreWordsOf own f → AreWordsOf words e
  instead words own e f same is r =
      record {
        are = same ∙ r.are ∙ ap (entry_words plan) is;
        named = subst (λ v. is_named plan v ≡ true) is r.named;
        small = subst (λ v. has_small_numbers v ≡ true) is r.small;
      }

  numbered : (make : ℕ → Event) (w key a : Word) (e : Event) → ((n : ℕ) → nat_lt n (2 ^ 64) ≡ true → AreWordsOf (key ∷ decimal n ∷ []) (make n)) → w ≡ key → option_map make (u64_of a) ≡ Some e → AreWordsOf (w ∷ a ∷ []) e
  numbered make w key a e made is h =
      let s = some_of make (u64_of a) e h in
      let same : w ∷ a ∷ [] ≡ key ∷ decimal s.0 ∷ [] = ap (λ v. v ∷ a ∷ []) is ∙ ap (λ v. key ∷ v ∷ []) (decimal-u64_of a s.0 s.1) in
      instead (w ∷ a ∷ []) (key ∷ decimal s.0 ∷ []) e (make s.0) same s.2 (made s.0 (lt-ltb s.0 (2 ^ 64) (small-u64_of a s.0 s.1)))

  alone : (make : ℕ → Event) (sort : Sort) (w key a : Word) (e : Event) → ((n : ℕ) → is_of sort (role_of plan n) ≡ true → AreWordsOf (key ∷ actor_name plan n ∷ []) (make n)) → w ≡ key → option_map make (actor_of plan sort a) ≡ Some e → AreWordsOf (w ∷ a ∷ []) e
  alone make sort w key a e made is h =
      let s = some_of make (actor_of plan sort a) e h in
      let n = actor_is sort a s.0 s.1 in
      let same : w ∷ a ∷ [] ≡ key ∷ actor_name plan s.0 ∷ [] = ap (λ v. v ∷ a ∷ []) is ∙ ap (λ v. key ∷ v ∷ []) n.0 in
      instead (w ∷ a ∷ []) (key ∷ actor_name plan s.0 ∷ []) e (make s.0) same s.2 (made s.0 n.1)

  told : (make : ℕ → ℕ → Event) (sort : Sort) (w key a b : Word) (e : Event) → ((n t : ℕ) → is_of sort (role_of plan n) ≡ true → nat_lt t (2 ^ 64) ≡ true → AreWordsOf (key ∷ actor_name plan n ∷ decimal t ∷ []) (make n t)) → w ≡ key →
      option_map (λ (x : ℕ × ℕ). make x.0 x.1) (both (actor_of plan sort a) (u64_of b)) ≡ Some e → AreWordsOf (w ∷ a ∷ b ∷ []) e
  told make sort w key a b e made is h =
      let s = some_both make (actor_of plan sort a) (u64_of b) e h in
      let n = actor_is sort a s.0 s.2 in
      let same : w ∷ a ∷ b ∷ [] ≡ key ∷ actor_name plan s.0 ∷ decimal s.1 ∷ [] =
      ap (λ v. v ∷ a ∷ b ∷ []) is ∙ ap (λ v. key ∷ v ∷ b ∷ []) n.0 ∙ ap (λ v. key ∷ actor_name plan s.0 ∷ v ∷ []) (decimal-u64_of b s.1 s.3) in
      instead (w ∷ a ∷ b ∷ []) (key ∷ actor_name plan s.0 ∷ decimal s.1 ∷ []) e (make s.0 s.1) same s.4 (made s.0 s.1 n.1 (lt-ltb s.1 (2 ^ 64) (small-u64_of b s.1 s.3)))

  linked : (make : ℕ → ℕ → Event) (w key a b : Word) (e : Event) → ((x y : ℕ) → is_of Any (role_of plan x) ≡ true → is_of Any (role_of plan y) ≡ true → AreWordsOf (key ∷ actor_name plan x ∷ actor_name plan y ∷ []) (make x y)) → w ≡ key →
      option_map (λ (x : ℕ × ℕ). make x.0 x.1) (both (actor_of plan Any a) (actor_of plan Any b)) ≡ Some e → AreWordsOf (w ∷ a ∷ b ∷ []) e
  linked make w key a b e made is h =
      let s = some_both make (actor_of plan Any a) (actor_of plan Any b) e h in
      let n = actor_is Any a s.0 s.2 in
      let m = actor_is Any b s.1 s.3 in
      let same : w ∷ a ∷ b ∷ [] ≡ key ∷ actor_name plan s.0 ∷ actor_name plan s.1 ∷ [] =
      ap (λ v. v ∷ a ∷ b ∷ []) is ∙ ap (λ v. key ∷ v ∷ b ∷ []) n.0 ∙ ap (λ v. key ∷ actor_name plan s.0 ∷ v ∷ []) m.0 in
      instead (w ∷ a ∷ b ∷ []) (key ∷ actor_name plan s.0 ∷ actor_name plan s.1 ∷ []) e (make s.0 s.1) same s.4 (made s.0 s.1 n.1 m.1)

  -- one of two readings, by the first word
  by_word : (w key : Word) (x y : Option Event) (e : Event) (P : Type 0) → (if bytes_eq w key then x else y) ≡ Some e → (w ≡ key → x ≡ Some e → P) → (y ≡ Some e → P) → P
  by_word w key x y e P h first second =
      (elim (bytes_eq w key) as (λ t. bytes_eq w key ≡ t → (if t then x else y) ≡ Some e → P) [
        | true ↦ λ k g. first (same_word w key k) g
        | false ↦ λ k g. second g
      ]) refl h

  of_two : (w a : Word) (e : Event) → entry_of_two plan w a ≡ Some e → AreWordsOf (w ∷ a ∷ []) e
  of_two w a e h =
      by_word w (codes "deliver") _ _ e (AreWordsOf (w ∷ a ∷ []) e) h (numbered Deliver w (codes "deliver") a e (λ n low. record { are = refl; named = refl; small = low })) (λ h.
      by_word w (codes "phase") _ _ e (AreWordsOf (w ∷ a ∷ []) e) h (numbered Phase w (codes "phase") a e (λ n low. record { are = refl; named = refl; small = low })) (λ h.
      by_word w (codes "crash") _ _ e (AreWordsOf (w ∷ a ∷ []) e) h (alone Crash Node w (codes "crash") a e (λ n k. record { are = refl; named = k; small = refl })) (λ h. absurd cc)))

  of_three : (w a b : Word) (e : Event) → entry_of_three plan w a b ≡ Some e → AreWordsOf (w ∷ a ∷ b ∷ []) e
  of_three w a b e h =
      by_word w (codes "tick") _ _ e (AreWordsOf (w ∷ a ∷ b ∷ []) e) h (told Tick Any w (codes "tick") a b e (λ n t k low. record { are = refl; named = k; small = low })) (λ h.
      by_word w (codes "mill") _ _ e (AreWordsOf (w ∷ a ∷ b ∷ []) e) h (told Mill Node w (codes "mill") a b e (λ n t k low. record { are = refl; named = k; small = low })) (λ h.
      by_word w (codes "emit") _ _ e (AreWordsOf (w ∷ a ∷ b ∷ []) e) h (told Emit Source w (codes "emit") a b e (λ n t k low. record { are = refl; named = k; small = low })) (λ h.
      by_word w (codes "release") _ _ e (AreWordsOf (w ∷ a ∷ b ∷ []) e) h (told Release Source w (codes "release") a b e (λ n t k low. record { are = refl; named = k; small = low })) (λ h.
      by_word w (codes "cut") _ _ e (AreWordsOf (w ∷ a ∷ b ∷ []) e) h (linked Cut w (codes "cut") a b e (λ x y k l. record { are = refl; named = rw (k, l) refl; small = refl })) (λ h.
      by_word w (codes "heal") _ _ e (AreWordsOf (w ∷ a ∷ b ∷ []) e) h (linked Heal w (codes "heal") a b e (λ x y k l. record { are = refl; named = rw (k, l) refl; small = refl })) (λ h.
      by_word w (codes "restart") _ _ e (AreWordsOf (w ∷ a ∷ b ∷ []) e) h (told Restart Node w (codes "restart") a b e (λ n t k low. record { are = refl; named = k; small = low })) (λ h. absurd cc)))))))

  of_words : (ps : List Word) (e : Event) → entry_of_words plan ps ≡ Some e → AreWordsOf ps e
  of_words [] e h = absurd cc
  of_words (w ∷ []) e h = absurd cc
  of_words (w ∷ a ∷ []) e h = of_two w a e h
  of_words (w ∷ a ∷ b ∷ []) e h = of_three w a b e h
  of_words (w ∷ a ∷ b ∷ c ∷ ps) e h = absurd cc

  -- ---- the lines of entries

  -- read as this journal
  abbrev IsReadAs : Result (List Event) (ℕ × ℕ) → List Event → Type 0
  IsReadAs r events = r ≡ Ok events

  abbrev line : Event → List ℕ
  line e = spaced (entry_words plan e)

  record AreLinesOf (count : Option ℕ) (before all : List Event) (lines : List (List ℕ)) : Type 0 where
    more : List Event
    parts : all ≡ before ++ more
    are : lines ≡ map line more ++ codes "journal end" ∷ []
    named : list_all (is_named plan) more ≡ true
    small : list_all has_small_numbers more ≡ true
    right : is_right count (length all) ≡ true

  at_the_end : (count : Option ℕ) (before all : List Event) (l : List ℕ) (rest : List (List ℕ)) → l ≡ codes "journal end" → concluded count before rest ≡ Ok all → AreLinesOf count before all (l ∷ rest)
  at_the_end count before all l (x ∷ rest) is h = absurd cc
  at_the_end count before all l [] is h =
      (elim (is_right count (length before)) as (λ t. is_right count (length before) ≡ t → IsReadAs (if t then Ok before else Err (length before, 4)) all → AreLinesOf count before all (l ∷ [])) [
        | true ↦ λ k g.
            let same : before ≡ all = cc in
            record {
              more = [];
              parts = sym same ∙ sym (append-nil before);
              are = ap (λ x. x ∷ []) is;
              named = refl;
              small = refl;
              right = subst (λ x. is_right count (length x) ≡ true) same k;
            }
        | false ↦ λ k g. absurd cc
      ]) refl h

  one_more : (count : Option ℕ) (before all : List Event) (l : List ℕ) (rest : List (List ℕ)) (e : Event) → entry_of plan l ≡ Some e → AreLinesOf count (before ++ e ∷ []) all rest → AreLinesOf count before all (l ∷ rest)
  one_more count before all l rest e is r =
      let w = of_words (pieces 32 l) e is in
      let own : l ≡ line e = sym (spaced-pieces l) ∙ ap spaced w.are in
      record {
        more = e ∷ r.more;
        parts = r.parts ∙ append_assoc before (e ∷ []) r.more;
        are = ap (λ x. x ∷ rest) own ∙ ap (λ ls. line e ∷ ls) r.are;
        named = rw (w.named, r.named) refl;
        small = rw (w.small, r.small) refl;
        right = r.right;
      }

  lines_are : (lines : List (List ℕ)) (count : Option ℕ) (before all : List Event) → entries_of plan count before lines ≡ Ok all → AreLinesOf count before all lines
  lines_are [] count before all h = absurd cc
  lines_are (l ∷ rest) count before all h =
      (elim (bytes_eq l (codes "journal end")) as (λ t. bytes_eq l (codes "journal end") ≡ t → IsReadAs (if t then concluded count before rest
      else (elim (entry_of plan l) [ None ↦ Err (length before, 1) | Some e ↦ entries_of plan count (before ++ e ∷ []) rest ])) all → AreLinesOf count before all (l ∷ rest)) [
        | true ↦ λ k g. at_the_end count before all l rest (same_word l (codes "journal end") k) g
        | false ↦ λ k g.
            (elim (entry_of plan l) as (λ o. entry_of plan l ≡ o → IsReadAs (elim o [ None ↦ Err (length before, 1) | Some e ↦ entries_of plan count (before ++ e ∷ []) rest ]) all → AreLinesOf count before all (l ∷ rest)) [
              | None ↦ λ is g. absurd cc
              | Some e ↦ λ is g. one_more count before all l rest e is (lines_are rest count (before ++ e ∷ []) all g)
            ]) refl g
      ]) refl h

  -- ---- the first line

  counted_is : (ps : List Word) (n : ℕ) → counted ps ≡ Some n → ps ≡ codes "journal" ∷ codes "3" ∷ decimal n ∷ []
  counted_is [] n h = absurd cc
  counted_is (w ∷ []) n h = absurd cc
  counted_is (w ∷ v ∷ []) n h = absurd cc
  counted_is (w ∷ v ∷ x ∷ []) n h =
      (elim (bytes_eq w (codes "journal") && bytes_eq v (codes "3")) as (λ t. (bytes_eq w (codes "journal") && bytes_eq v (codes "3")) ≡ t → (if t then u64_of x else None) ≡ Some n → w ∷ v ∷ x ∷ [] ≡ codes "journal" ∷ codes "3" ∷ decimal n ∷ []) [
        | true ↦ λ k g.
            let p = and_parts (bytes_eq w (codes "journal")) (bytes_eq v (codes "3")) k in
            ap (λ y. y ∷ v ∷ x ∷ []) (same_word w (codes "journal") p.0) ∙ ap (λ y. codes "journal" ∷ y ∷ x ∷ []) (same_word v (codes "3") p.1)
            ∙ ap (λ y. codes "journal" ∷ codes "3" ∷ y ∷ []) (decimal-u64_of x n g)
        | false ↦ λ k g. absurd cc
      ]) refl h
  counted_is (w ∷ v ∷ x ∷ y ∷ ps) n h = absurd cc

  first_is : (l : List ℕ) (count : Option ℕ) (n : ℕ) → opened plan l ≡ Some count → is_right count n ≡ true → l ≡ spaced (first_words plan n)
  first_is l count n h right = by_version (plan.version == 3) h
    where
      wide : (o : Option ℕ) → counted (pieces 32 l) ≡ o → option_map Some o ≡ Some count → l ≡ spaced (codes "journal" ∷ codes "3" ∷ decimal n ∷ [])
      wide None e g = absurd cc
      wide (Some m) e g =
          let told : count ≡ Some m = cc in
          let same : m ≡ n = eqb-true m n (subst (λ c. is_right c n ≡ true) told right) in
          sym (spaced-pieces l) ∙ ap spaced (counted_is (pieces 32 l) m e) ∙ ap (λ k. spaced (codes "journal" ∷ codes "3" ∷ decimal k ∷ [])) same

      by_version : (t : Bool) → (if t then option_map Some (counted (pieces 32 l)) else if bytes_eq l (codes "journal") then Some None else None) ≡ Some count →
          l ≡ spaced (if t then codes "journal" ∷ codes "3" ∷ decimal n ∷ [] else codes "journal" ∷ [])
      by_version true g = wide (counted (pieces 32 l)) refl g
      by_version false g =
          (elim (bytes_eq l (codes "journal")) as (λ t. bytes_eq l (codes "journal") ≡ t → (if t then Some None else None) ≡ Some count → l ≡ codes "journal") [
            | true ↦ λ k g. same_word l (codes "journal") k
            | false ↦ λ k g. absurd cc
          ]) refl g

  -- ---- the whole text

  pub record IsPrinted (text : List ℕ) (events : List Event) : Type 0 where
    pub printed : IsTextOf text (journal_text plan events true)
    pub named : list_all (is_named plan) events ≡ true
    pub small : list_all has_small_numbers events ≡ true

  whole : (text l : List ℕ) (rest : List (List ℕ)) (count : Option ℕ) (events : List Event) → lines_of text ≡ l ∷ rest → opened plan l ≡ Some count → AreLinesOf count [] events rest → IsPrinted text events
  unfolding journal_text
  whole text l rest count events e o r =
      let first = first_words plan (length events) in
      let lines : List (List Word) = first ∷ (map (entry_words plan) events ++ last_words ∷ []) in
      let own : rest ≡ map spaced (map (entry_words plan) events ++ last_words ∷ []) =
      r.are ∙ ap (λ x. map line x ++ codes "journal end" ∷ []) (sym r.parts) ∙ entries events in
      let all : lines_of text ≡ map spaced lines = e ∙ ap (λ x. x ∷ rest) (first_is l count (length events) o r.right) ∙ ap (λ ls. spaced first ∷ ls) own in
      record {
        printed = subst (λ t. IsTextOf text t) (ap closed all ∙ closed-spaced lines) (closed-lines_of text);
        named = subst (λ x. list_all (is_named plan) x ≡ true) (sym r.parts) r.named;
        small = subst (λ x. list_all has_small_numbers x ≡ true) (sym r.parts) r.small;
      }
    where
      entries : (es : List Event) → map line es ++ codes "journal end" ∷ [] ≡ map spaced (map (entry_words plan) es ++ last_words ∷ [])
      entries [] = refl
      entries (x ∷ es) = ap (λ ls. line x ∷ ls) (entries es)

  pub is_printed : (text : List ℕ) (events : List Event) → journal_of plan text ≡ Ok events → IsPrinted text events
  is_printed text events h = by_first (lines_of text) refl (sym (by_lines plan text (lines_of text) refl) ∙ h)
    where
      by_count : (l : List ℕ) (rest : List (List ℕ)) (o : Option (Option ℕ)) → lines_of text ≡ l ∷ rest → opened plan l ≡ o → IsReadAs (elim o [ None ↦ Err (0, 1) | Some count ↦ entries_of plan count [] rest ]) events → IsPrinted text events
      by_count l rest None e o g = absurd cc
      by_count l rest (Some count) e o g = whole text l rest count events e o (lines_are rest count [] events g)

      by_first : (lines : List (List ℕ)) → lines_of text ≡ lines → journal_of_lines plan lines ≡ Ok events → IsPrinted text events
      by_first [] e g = absurd cc
      by_first (l ∷ rest) e g = by_count l rest (opened plan l) e refl g
