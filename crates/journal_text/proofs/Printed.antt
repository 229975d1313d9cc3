-- What is printed of a journal is read back.
use Rattle.std.proofs.Common.{◌≡◌, ℕ, ◌^◌, ◌<◌, Bool, true, false, List, [], ◌∷◌, ◌++◌, map, length, Option, Some, None, refl, sym, ap, ◌∙◌}
use Rattle.std.specs.Prelude.{Ok, Err, ◌&&◌, ◌==◌, nat_lt, codes, bytes_eq, decimal, option_map, if◌then◌else◌}
use Rattle.std.proofs.lemmas.Bool.{and_parts, ltb-true, eq-eqb}
use Rattle.std.proofs.lemmas.List.{append-nil, append_assoc, map-append}
use Rattle.std.proofs.lemmas.List.Folds.{list_all-append}
use Rattle.dpc_lists.specs.Lists.{list_all}
use Rattle.dpc_lists.proofs.Elements.{map-map}
use Rattle.dpc_model.specs.Words.{spaced}
use Rattle.dpc_model.specs.Actors.{role_of}
use Rattle.dpc_model.specs.ScriptText.{actor_name}
use Rattle.dpc_model.specs.declared.messages.Event.{Event}
use Rattle.dpc_model.specs.declared.messages.Event.TheVariants.{Phase, Emit, Release, Cut, Heal, Crash, Restart, Deliver, Tick, Mill}
use Rattle.dpc_model.specs.declared.plans.Plan.{Plan}
use Rattle.script_rules.specs.Lines.{pieces, lines_of}
use Rattle.script_rules.proofs.Apart.{same_word}
use Rattle.law_scripts.proofs.Lines.{is_plain, spaced_pieces, lines_of-text}
use Rattle.law_scripts.proofs.Plain.{plain_decimal}
use Rattle.script_words.specs.Numbers.{u64_of}
use Rattle.journal_text.specs.Actors.{is_of, actor_of}
use Rattle.journal_text.specs.Entries.{both, entry_words, entry_of_words, entry_of, is_named, has_small_numbers}
use Rattle.journal_text.specs.Journals.{first_words, last_lines, journal_text, counted, opened, is_right, entries_of, journal_of}
use Rattle.journal_text.specs.declared.sorts.Sort.{Sort}
use Rattle.journal_text.specs.declared.sorts.Sort.TheVariants.{Source, Node, Any}
use Rattle.journal_text.proofs.Found.{u64_of-decimal}
use Rattle.journal_text.proofs.ByLines.{opening, no_more, at_end, one_entry}
use Rattle.journal_text.proofs.Named.{HasClearNames, found_by_name, plain_of_sort}

module _ (plan : Plan) (names : HasClearNames plan) where
  -- ---- an entry

  number_back : (make : ℕ → Event) (n : ℕ) → nat_lt n (2 ^ 64) ≡ true → option_map make (u64_of (decimal n)) ≡ Some (make n)
  number_back make n low = ap (option_map make) (u64_of-decimal n (ltb-true n (2 ^ 64) low))

  told_back : (make : ℕ → ℕ → Event) (sort : Sort) (a n : ℕ) → is_of sort (role_of plan a) ≡ true → nat_lt n (2 ^ 64) ≡ true →
      option_map (λ (x : ℕ × ℕ). make x.0 x.1) (both (actor_of plan sort (actor_name plan a)) (u64_of (decimal n))) ≡ Some (make a n)
  told_back make sort a n h low =
      ap (λ o. option_map (λ (x : ℕ × ℕ). make x.0 x.1) (both o (u64_of (decimal n)))) (found_by_name plan names sort a h)
      ∙ ap (λ o. option_map (λ (x : ℕ × ℕ). make x.0 x.1) (both (Some a) o)) (u64_of-decimal n (ltb-true n (2 ^ 64) low))

  link_back : (make : ℕ → ℕ → Event) (a b : ℕ) → (is_of Any (role_of plan a) && is_of Any (role_of plan b)) ≡ true →
      option_map (λ (x : ℕ × ℕ). make x.0 x.1) (both (actor_of plan Any (actor_name plan a)) (actor_of plan Any (actor_name plan b))) ≡ Some (make a b)
  link_back make a b h =
      let p = and_parts (is_of Any (role_of plan a)) (is_of Any (role_of plan b)) h in
      ap (λ o. option_map (λ (x : ℕ × ℕ). make x.0 x.1) (both o (actor_of plan Any (actor_name plan b)))) (found_by_name plan names Any a p.0)
      ∙ ap (λ o. option_map (λ (x : ℕ × ℕ). make x.0 x.1) (both (Some a) o)) (found_by_name plan names Any b p.1)

  words_back : (e : Event) → is_named plan e ≡ true → has_small_numbers e ≡ true → entry_of_words plan (entry_words plan e) ≡ Some e
  words_back (Phase p) h low = number_back Phase p low
  words_back (Emit s t) h low = told_back Emit Source s t h low
  words_back (Release s t) h low = told_back Release Source s t h low
  words_back (Cut a b) h low = link_back Cut a b h
  words_back (Heal a b) h low = link_back Heal a b h
  words_back (Crash n) h low = ap (option_map Crash) (found_by_name plan names Node n h)
  words_back (Restart n inc) h low = told_back Restart Node n inc h low
  words_back (Deliver k) h low = number_back Deliver k low
  words_back (Tick a now) h low = told_back Tick Any a now h low
  words_back (Mill n r) h low = told_back Mill Node n r h low

  plain_number : (n : ℕ) → nat_lt n (2 ^ 64) ≡ true → is_plain (decimal n) ≡ true
  plain_number n low = plain_decimal n (ltb-true n (2 ^ 64) low)

  plain_link : (a b : ℕ) → (is_of Any (role_of plan a) && is_of Any (role_of plan b)) ≡ true → list_all is_plain (actor_name plan a ∷ actor_name plan b ∷ []) ≡ true
  plain_link a b h =
      let p = and_parts (is_of Any (role_of plan a)) (is_of Any (role_of plan b)) h in
      rw (plain_of_sort plan names Any a p.0, plain_of_sort plan names Any b p.1) refl

  plain_told : (sort : Sort) (a n : ℕ) → is_of sort (role_of plan a) ≡ true → nat_lt n (2 ^ 64) ≡ true → list_all is_plain (actor_name plan a ∷ decimal n ∷ []) ≡ true
  plain_told sort a n h low = rw (plain_of_sort plan names sort a h, plain_number n low) refl

  words_plain : (e : Event) → is_named plan e ≡ true → has_small_numbers e ≡ true → list_all is_plain (entry_words plan e) ≡ true
  words_plain (Phase p) h low = rw (plain_number p low) refl
  words_plain (Emit s t) h low = plain_told Source s t h low
  words_plain (Release s t) h low = plain_told Source s t h low
  words_plain (Cut a b) h low = plain_link a b h
  words_plain (Heal a b) h low = plain_link a b h
  words_plain (Crash n) h low = rw (plain_of_sort plan names Node n h) refl
  words_plain (Restart n inc) h low = plain_told Node n inc h low
  words_plain (Deliver k) h low = rw (plain_number k low) refl
  words_plain (Tick a now) h low = plain_told Any a now h low
  words_plain (Mill n r) h low = plain_told Node n r h low

  abbrev line : Event → List ℕ
  line e = spaced (entry_words plan e)

  -- each entry has a first word, so that its words are those of its line
  pieces_of_line : (e : Event) → list_all is_plain (entry_words plan e) ≡ true → pieces 32 (line e) ≡ entry_words plan e
  pieces_of_line (Phase p) h = spaced_pieces (codes "phase") _ h
  pieces_of_line (Emit s t) h = spaced_pieces (codes "emit") _ h
  pieces_of_line (Release s t) h = spaced_pieces (codes "release") _ h
  pieces_of_line (Cut a b) h = spaced_pieces (codes "cut") _ h
  pieces_of_line (Heal a b) h = spaced_pieces (codes "heal") _ h
  pieces_of_line (Crash n) h = spaced_pieces (codes "crash") _ h
  pieces_of_line (Restart n inc) h = spaced_pieces (codes "restart") _ h
  pieces_of_line (Deliver k) h = spaced_pieces (codes "deliver") _ h
  pieces_of_line (Tick a now) h = spaced_pieces (codes "tick") _ h
  pieces_of_line (Mill n r) h = spaced_pieces (codes "mill") _ h

  line_back : (e : Event) → is_named plan e ≡ true → has_small_numbers e ≡ true → entry_of plan (line e) ≡ Some e
  line_back e h low = ap (entry_of_words plan) (pieces_of_line e (words_plain e h low)) ∙ words_back e h low

  -- ---- entries

  last_is_none : entry_of plan (codes "journal end") ≡ None
  last_is_none = refl

  is_no_last : (l : List ℕ) (e : Event) → entry_of plan l ≡ Some e → false ≡ bytes_eq l (codes "journal end")
  is_no_last l e is =
      (elim (bytes_eq l (codes "journal end")) as (λ t. bytes_eq l (codes "journal end") ≡ t → false ≡ t) [
        | true ↦ λ k. let wrong : None ≡ Some e = sym last_is_none ∙ ap (entry_of plan) (sym (same_word l (codes "journal end") k)) ∙ is in absurd cc
        | false ↦ λ k. refl
      ]) refl

  entries_back : (count : Option ℕ) (before events : List Event) (tail : List (List ℕ)) → list_all (is_named plan) events ≡ true → list_all has_small_numbers events ≡ true →
      entries_of plan count before (map line events ++ tail) ≡ entries_of plan count (before ++ events) tail
  entries_back count before [] tail h low = ap (λ l. entries_of plan count l tail) (sym (append-nil before))
  entries_back count before (e ∷ events) tail h low =
      let p = and_parts (is_named plan e) (list_all (is_named plan) events) h in
      let q = and_parts (has_small_numbers e) (list_all has_small_numbers events) low in
      let is = line_back e p.0 q.0 in
      one_entry plan count before (line e) (line e ∷ (map line events ++ tail)) (map line events ++ tail) e refl (is_no_last (line e) e is) (sym is)
      ∙ entries_back count (before ++ e ∷ []) events tail p.1 q.1 ∙ ap (λ l. entries_of plan count l tail) (append_assoc before (e ∷ []) events)

  lines_plain : (events : List Event) → list_all (is_named plan) events ≡ true → list_all has_small_numbers events ≡ true → list_all (list_all is_plain) (map (entry_words plan) events) ≡ true
  lines_plain [] h low = refl
  lines_plain (e ∷ events) h low =
      let p = and_parts (is_named plan e) (list_all (is_named plan) events) h in
      let q = and_parts (has_small_numbers e) (list_all has_small_numbers events) low in
      rw (words_plain e p.0 q.0, lines_plain events p.1 q.1) refl

  -- ---- the first line and the last one

  first_plain : (n : ℕ) → n < 2 ^ 64 → list_all is_plain (first_words plan n) ≡ true
  first_plain n low =
      elim (plan.version == 3) as (λ t. list_all is_plain (if t then codes "journal" ∷ codes "3" ∷ decimal n ∷ [] else codes "journal" ∷ []) ≡ true) [
        | true ↦ rw (plain_decimal n low) refl
        | false ↦ refl
      ]

  last_plain : (ended : Bool) → list_all (list_all is_plain) (last_lines ended) ≡ true
  last_plain true = refl
  last_plain false = refl

  record IsOpened (n : ℕ) : Type 0 where
    count : Option ℕ
    opens : Some count ≡ opened plan (spaced (first_words plan n))
    right : is_right count n ≡ true

  is_opened : (n : ℕ) → n < 2 ^ 64 → IsOpened n
  is_opened n low =
      let found = by_version (plan.version == 3) in
      record { count = found.0; opens = found.1; right = found.2 }
    where
      by_version : (t : Bool) → (count : Option ℕ) × (Some count ≡ (if t then option_map Some (counted (pieces 32 (spaced (if t then codes "journal" ∷ codes "3" ∷ decimal n ∷ [] else codes "journal" ∷ []))))
          else if bytes_eq (spaced (if t then codes "journal" ∷ codes "3" ∷ decimal n ∷ [] else codes "journal" ∷ [])) (codes "journal") then Some None else None)) × (is_right count n ≡ true)
      by_version true =
          let plain : list_all is_plain (codes "journal" ∷ codes "3" ∷ decimal n ∷ []) ≡ true = rw (plain_decimal n low) refl in
          (Some n, sym (ap (λ ps. option_map Some (counted ps)) (spaced_pieces (codes "journal") (codes "3" ∷ decimal n ∷ []) plain) ∙ ap (option_map Some) (u64_of-decimal n low)), eq-eqb n n refl)
      by_version false = (None, refl, refl)

  -- ---- the whole text

  lines_of_journal : (events : List Event) (ended : Bool) → list_all (is_named plan) events ≡ true → list_all has_small_numbers events ≡ true → length events < 2 ^ 64 →
      lines_of (journal_text plan events ended) ≡ spaced (first_words plan (length events)) ∷ (map line events ++ map spaced (last_lines ended))
  unfolding journal_text
  lines_of_journal events ended h low few =
      let first = first_words plan (length events) in
      let middle = map (entry_words plan) events in
      let plain : list_all (list_all is_plain) (first ∷ (middle ++ last_lines ended)) ≡ true =
      rw (first_plain (length events) few, list_all-append (list_all is_plain) middle (last_lines ended), lines_plain events h low, last_plain ended) refl in
      lines_of-text (first ∷ (middle ++ last_lines ended)) plain
      ∙ ap (λ l. spaced first ∷ l) (map-append spaced middle (last_lines ended) ∙ ap (λ l. l ++ map spaced (last_lines ended)) (map-map spaced (entry_words plan) events))

  behind_entries : (events : List Event) (ended : Bool) → list_all (is_named plan) events ≡ true → list_all has_small_numbers events ≡ true → length events < 2 ^ 64 →
      (count : Option ℕ) × (is_right count (length events) ≡ true) × (journal_of plan (journal_text plan events ended) ≡ entries_of plan count events (map spaced (last_lines ended)))
  behind_entries events ended h low few =
      let o = is_opened (length events) few in
      let text = journal_text plan events ended in
      let rest = map line events ++ map spaced (last_lines ended) in (
        o.count,
        o.right,
        sym (opening plan text (spaced (first_words plan (length events))) rest o.count (lines_of_journal events ended h low few) o.opens)
            ∙ entries_back o.count [] events (map spaced (last_lines ended)) h low,
      )

  pub read_back : (events : List Event) → list_all (is_named plan) events ≡ true → list_all has_small_numbers events ≡ true → length events < 2 ^ 64 → journal_of plan (journal_text plan events true) ≡ Ok events
  read_back events h low few =
      let b = behind_entries events true h low few in
      b.2 ∙ at_end plan b.0 events (codes "journal end") (codes "journal end" ∷ []) [] refl refl ∙ ap (λ t. if t then Ok events else Err (length events, 4)) b.1

  pub without_end : (events : List Event) → list_all (is_named plan) events ≡ true → list_all has_small_numbers events ≡ true → length events < 2 ^ 64 →
      journal_of plan (journal_text plan events false) ≡ Err (length events, 3)
  without_end events h low few =
      let b = behind_entries events false h low few in
      b.2 ∙ no_more plan b.0 events [] refl
