-- Words at o places, one after another.
use Rattle.std.proofs.Common.{◌≡◌, ℕ, zero, suc, ◌+◌, ◌*◌, ◌^◌, ◌≤◌, Bool, true, false, ◌||◌, ◌⊎◌, inl, inr, List, [], ◌∷◌, ◌++◌, length, refl, sym, ap, subst, ◌∙◌, arith}
use Rattle.std.specs.Prelude.{replicate}
use Rattle.dpc_lists.specs.Lists.{list_any}
use Rattle.dpc_model.specs.Words.{Word}
use Rattle.dpc_lists.proofs.Truths.{or-none}
use Rattle.script_rules.specs.declared.reasons.Reason.TheVariants.{ForeignWord, WrongCount, NoNumber, OutOfRange}
use Rattle.script_rules.specs.Symbols.{symbol_of, operands}
use Rattle.script_rules.specs.Places.{must, opened, placed, leaves_over, is_foreign, is_no_number, is_out_of_range}
use Rattle.script_rules.specs.Reasons.{first_of_tests}
use Rattle.script_rules.specs.declared.places.Place.{Place}
use Rattle.script_rules.specs.declared.places.Sort.{Sort}
use Rattle.script_rules.specs.declared.places.Sort.TheVariants as sort
use Rattle.script_words.specs.Scans.{repeated_place, open_places, is_bad, some_breaks, fault_of_places, IsSeen}
use Rattle.script_words.specs.declared.seen.Repeated.{Repeated}
use Rattle.script_words.specs.declared.seen.Repeated.TheVariants.{Expression, Column, Natural, Anything}
use Rattle.script_words.specs.declared.seen.Seen.{Seen}
use Rattle.script_words.specs.declared.scans.Flaws.{Flaws}
use Rattle.script_words.specs.declared.scans.Open.{Open}

-- ---- places alike

-- a list that is a repeated place has it, unless it is empty
same_place : (n m : ℕ) (p q : Place) → replicate n p ≡ replicate m q → (n ≡ 0) ⊎ (p ≡ q)
same_place zero m p q e = inl refl
same_place (suc n) zero p q e = absurd cc
same_place (suc n) (suc m) p q e = inr cc

none_opened : (n : ℕ) (p : Place) → replicate n p ≡ [] → n ≡ 0
none_opened zero p e = refl
none_opened (suc n) p e = absurd cc

is_expression : (r : Repeated) → repeated_place r ≡ must sort.Expression → r ≡ Expression
is_expression Expression e = refl
is_expression Column e = let sorts : sort.Column ≡ sort.Expression = ap (λ (p : Place). p.sort) e in absurd cc
is_expression Natural e = let sorts : sort.Natural ≡ sort.Expression = ap (λ (p : Place). p.sort) e in absurd cc
is_expression Anything e = let sorts : sort.Anything ≡ sort.Expression = ap (λ (p : Place). p.sort) e in absurd cc

-- a word at a place that another word opened opens places like its own, or none
alike_there : (r : Repeated) (w : Word) (behind : List Word) (seen : Seen) → IsSeen (repeated_place r).sort w behind seen → (seen.count ≡ 0) ⊎ (seen.repeated ≡ r)
alike_there Expression w behind seen s =
    elim (same_place seen.count (operands (symbol_of w)) (repeated_place seen.repeated) (must sort.Expression) s.opens) [
      | inl none ↦ inl none
      | inr e ↦ inr (is_expression seen.repeated e)
    ]
alike_there Column w behind seen s = inl (none_opened seen.count (repeated_place seen.repeated) s.opens)
alike_there Natural w behind seen s = inl (none_opened seen.count (repeated_place seen.repeated) s.opens)
alike_there Anything w behind seen s = inl (none_opened seen.count (repeated_place seen.repeated) s.opens)

pub alike : (o : Open) (p : Place) (w : Word) (behind : List Word) (seen : Seen) → (o.count ≡ 0) ⊎ (p ≡ repeated_place o.repeated) → IsSeen p.sort w behind seen → (o.count ≡ 0) ⊎ ((seen.count ≡ 0) ⊎ (seen.repeated ≡ o.repeated))
alike o p w behind seen (inl none) s = inl none
alike o p w behind seen (inr e) s = inr (alike_there o.repeated w behind seen (subst (λ x. IsSeen x.sort w behind seen) e s))

-- ---- what was found so far

-- what was found, and what is left to find, are all
pub record IsScan (places : List Place) (all : List Word) (flaws : Flaws) (o : Open) (left : List Word) : Type 0 where
  pub foreign : (flaws.foreign || some_breaks is_foreign (open_places places o) left) ≡ some_breaks is_foreign places all
  pub no_number : (flaws.no_number || some_breaks is_no_number (open_places places o) left) ≡ some_breaks is_no_number places all
  pub bad : (flaws.bad || some_breaks is_bad (open_places places o) left) ≡ some_breaks is_bad places all
  pub over : leaves_over (open_places places o) left ≡ leaves_over places all
  pub room : o.count + 2 ^ 64 * length left ≤ 2 ^ 64 * length all

or_assoc : (a b c : Bool) → ((a || b) || c) ≡ (a || (b || c))
or_assoc true b c = refl
or_assoc false b c = refl

-- one more word, for one of the rules
one_more : (breaks : Sort → Word → Bool) (o taken new : List Place) (p : Place) (w : Word) (left behind : List Word) (f g whole : Bool) →
    left ≡ w ∷ behind → o ≡ p ∷ taken → new ≡ opened p.sort w behind ++ taken → g ≡ breaks p.sort w → (f || some_breaks breaks o left) ≡ whole →
    ((f || g) || some_breaks breaks new behind) ≡ whole
one_more breaks o taken new p w left behind f g whole at first more is found =
    or_assoc f g (some_breaks breaks new behind)
    ∙ ap (λ t. f || (t || some_breaks breaks new behind)) is
    ∙ ap (λ ps. f || (breaks p.sort w || some_breaks breaks ps behind)) more
    ∙ ap (λ ps. f || some_breaks breaks ps (w ∷ behind)) (sym first)
    ∙ ap (λ ws. f || some_breaks breaks o ws) (sym at)
    ∙ found

-- one more word
pub goes_on : (places : List Place) (all left behind : List Word) (w : Word) (p : Place) (o taken new : Open) (seen : Seen) (flaws : Flaws) →
    left ≡ w ∷ behind → open_places places o ≡ p ∷ open_places places taken → IsSeen p.sort w behind seen →
    open_places places new ≡ replicate seen.count (repeated_place seen.repeated) ++ open_places places taken → new.count ≤ o.count + 2 ^ 64 →
    IsScan places all flaws o left →
    IsScan places all (record { foreign = flaws.foreign || seen.foreign; no_number = flaws.no_number || seen.no_number; bad = flaws.bad || seen.bad }) new behind
goes_on places all left behind w p o taken new seen flaws at first s more count scan =
    let opens : open_places places new ≡ opened p.sort w behind ++ open_places places taken = more ∙ ap (λ ps. ps ++ open_places places taken) s.opens in
    record {
      foreign = one_more is_foreign (open_places places o) (open_places places taken) (open_places places new) p w left behind flaws.foreign seen.foreign _ at first opens s.foreign scan.foreign;
      no_number = one_more is_no_number (open_places places o) (open_places places taken) (open_places places new) p w left behind flaws.no_number seen.no_number _ at first opens s.no_number scan.no_number;
      bad = one_more is_bad (open_places places o) (open_places places taken) (open_places places new) p w left behind flaws.bad seen.bad _ at first opens s.bad scan.bad;
      over = ap (λ ps. leaves_over ps behind) opens ∙ ap (λ ps. leaves_over ps (w ∷ behind)) (sym first) ∙ ap (leaves_over (open_places places o)) (sym at) ∙ scan.over;
      room = let length_is : length left ≡ suc (length behind) = ap length at in omega (arith, scan.room);
    }

-- ---- what was found in the end

-- some number is missing or out of range
any_or : {X : Type 0} (a b : X → Bool) (xs : List X) → list_any (λ x. a x || b x) xs ≡ (list_any a xs || list_any b xs)
any_or a b [] = refl
any_or a b (x ∷ xs) = ap (λ t. (a x || b x) || t) (any_or a b xs) ∙ swapped (a x) (b x) (list_any a xs) (list_any b xs)
  where
    swapped : (p q r s : Bool) → ((p || q) || (r || s)) ≡ ((p || r) || (q || s))
    swapped true q r s = refl
    swapped false true true s = refl
    swapped false true false s = refl
    swapped false false true s = refl
    swapped false false false s = refl

least : (f l n r : Bool) → first_of_tests ((f, ForeignWord) ∷ (l, WrongCount) ∷ (n, NoNumber) ∷ (n || r, OutOfRange) ∷ []) ≡ first_of_tests ((f, ForeignWord) ∷ (l, WrongCount) ∷ (n, NoNumber) ∷ (r, OutOfRange) ∷ [])
least true l n r = refl
least false true n r = refl
least false false true r = refl
least false false false r = refl

-- the tests of what was found are those of the whole line
found : (places : List Place) (all : List Word) (f l n b : Bool) → f ≡ some_breaks is_foreign places all → l ≡ leaves_over places all → n ≡ some_breaks is_no_number places all →
    b ≡ some_breaks is_bad places all → first_of_tests ((f, ForeignWord) ∷ (l, WrongCount) ∷ (n, NoNumber) ∷ (b, OutOfRange) ∷ []) ≡ fault_of_places places all
unfolding fault_of_places
found places all f l n b fe le ne be =
    let both : b ≡ (some_breaks is_no_number places all || some_breaks is_out_of_range places all) =
    be ∙ any_or (λ x. is_no_number x.0 x.1) (λ x. is_out_of_range x.0 x.1) (placed places all) in
    rw (fe, le, ne, both) (least (some_breaks is_foreign places all) (leaves_over places all) (some_breaks is_no_number places all) (some_breaks is_out_of_range places all))

-- the last word
pub ends : (places : List Place) (all left : List Word) (o : Open) (flaws : Flaws) (l : Bool) → left ≡ [] → l ≡ leaves_over (open_places places o) [] → IsScan places all flaws o left →
    first_of_tests ((flaws.foreign, ForeignWord) ∷ (l, WrongCount) ∷ (flaws.no_number, NoNumber) ∷ (flaws.bad, OutOfRange) ∷ []) ≡ fault_of_places places all
ends places all left o flaws l none is scan =
    found places all flaws.foreign l flaws.no_number flaws.bad
    (sym (or-none flaws.foreign) ∙ ap (λ ws. flaws.foreign || some_breaks is_foreign (open_places places o) ws) (sym none) ∙ scan.foreign)
    (is ∙ ap (leaves_over (open_places places o)) (sym none) ∙ scan.over)
    (sym (or-none flaws.no_number) ∙ ap (λ ws. flaws.no_number || some_breaks is_no_number (open_places places o) ws) (sym none) ∙ scan.no_number)
    (sym (or-none flaws.bad) ∙ ap (λ ws. flaws.bad || some_breaks is_bad (open_places places o) ws) (sym none) ∙ scan.bad)

-- a word that has no place
pub past : (places : List Place) (all left behind : List Word) (w : Word) (o : Open) (flaws : Flaws) → left ≡ w ∷ behind → open_places places o ≡ [] → IsScan places all flaws o left →
    first_of_tests ((flaws.foreign, ForeignWord) ∷ (true, WrongCount) ∷ (flaws.no_number, NoNumber) ∷ (flaws.bad, OutOfRange) ∷ []) ≡ fault_of_places places all
past places all left behind w o flaws at none scan =
    let no_place : (breaks : Sort → Word → Bool) → some_breaks breaks (open_places places o) left ≡ false =
    λ breaks. ap (some_breaks breaks (open_places places o)) at ∙ ap (λ ps. some_breaks breaks ps (w ∷ behind)) none in
    found places all flaws.foreign true flaws.no_number flaws.bad
    (sym (or-none flaws.foreign) ∙ ap (λ t. flaws.foreign || t) (sym (no_place is_foreign)) ∙ scan.foreign)
    (ap (λ ps. leaves_over ps (w ∷ behind)) (sym none) ∙ ap (leaves_over (open_places places o)) (sym at) ∙ scan.over)
    (sym (or-none flaws.no_number) ∙ ap (λ t. flaws.no_number || t) (sym (no_place is_no_number)) ∙ scan.no_number)
    (sym (or-none flaws.bad) ∙ ap (λ t. flaws.bad || t) (sym (no_place is_bad)) ∙ scan.bad)
