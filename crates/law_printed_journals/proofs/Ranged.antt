-- The entries of a live journal are in the ranges of frames.
use Rattle.std.proofs.Common.{◌≡◌, ℕ, suc, ◌+◌, ◌^◌, ◌<◌, true, ◌&&◌, nat_lt, nat_le, List, [], ◌∷◌, ◌++◌, length, refl, ap, subst, ◌∙◌, arith, None, length-append}
use Rattle.dpc_lists.specs.Lists.{list_all}
use Rattle.dpc_lists.proofs.Truths.{both, both-of, le-of, le-test, lt-of, lt-test}
use Rattle.dpc_model.specs.Limits.{most_milled}
use Rattle.dpc_model.specs.Actors.{roles_of}
use Rattle.dpc_model.specs.declared.messages.Event.{Event}
use Rattle.dpc_model.specs.declared.messages.Event.TheVariants.{Phase, Emit, Release, Cut, Heal, Crash, Restart, Deliver, Tick, Mill}
use Rattle.dpc_model.specs.declared.scripts.Script.{Script}
use Rattle.script_rules.specs.Checking.{IsChecked}
use Rattle.script_rules.proofs.Forms.{checked_has_form}
use Rattle.world_model.specs.Worlds.{new_world, excess}
use Rattle.world_model.specs.Schedules.{is_live_so_far}
use Rattle.stream_codec.specs.Kinds.{holds}
use Rattle.stream_codec.specs.Frames.{all_hold, is_in_range}
use Rattle.stream_codec.specs.declared.frames.Frame.TheVariants as frame
use Rattle.stream_codec.specs.declared.kinds.Field.{Field}
use Rattle.stream_codec.specs.declared.kinds.Field.TheVariants.{Number, Clock, Actor, Buckets}
use Rattle.law_journals.specs.Entries.{IsSend, IsPhaseTick, IsEntryOf, HasSmallNumbers}
use Rattle.law_journals.proofs.Sizes.{few-actors}
use Rattle.law_journals.proofs.Entries.{entry-is, small-numbers}
use Rattle.law_printed_journals.proofs.Printable.{each-of, within-before}

-- ---- the fields of a frame, one or two of them

one-held : (f : Field) (n : ℕ) → holds f n ≡ true → (all_hold (f ∷ []) (n ∷ []) && true) ≡ true
one-held f n h = both-of (holds f n && true) true (both-of (holds f n) true h refl) refl

two-held : (f g : Field) (n m : ℕ) → holds f n ≡ true → holds g m ≡ true → (all_hold (f ∷ g ∷ []) (n ∷ m ∷ []) && true) ≡ true
two-held f g n m h k =
    both-of (holds f n && (holds g m && true)) true (both-of (holds f n) (holds g m && true) h (both-of (holds g m) true k refl)) refl

-- ---- an entry, by what it names and how great its numbers are

number-held : (n : ℕ) → list_all (λ k. nat_lt k (2 ^ 63)) (n ∷ []) ≡ true → holds Number n ≡ true
number-held n h = let low = lt-of n (2 ^ 63) (both (nat_lt n (2 ^ 63)) true h).0 in lt-test n (2 ^ 64) (omega (arith, low))

module _ (script : Script) (checked : IsChecked script) where
  actor-held : (a : ℕ) (more : List ℕ) → list_all (λ b. nat_lt b (length (roles_of script.plan))) (a ∷ more) ≡ true → holds Actor a ≡ true
  actor-held a more h =
      let few = few-actors script checked in
      let low = lt-of a (length (roles_of script.plan)) (both (nat_lt a (length (roles_of script.plan))) (list_all (λ b. nat_lt b (length (roles_of script.plan))) more) h).0 in
      le-test a 95 (omega (arith, few, low))

  second-held : (a b : ℕ) → list_all (λ b. nat_lt b (length (roles_of script.plan))) (a ∷ b ∷ []) ≡ true → holds Actor b ≡ true
  second-held a b h =
      actor-held b [] (both (nat_lt a (length (roles_of script.plan))) (list_all (λ b. nat_lt b (length (roles_of script.plan))) (b ∷ [])) h).1

  -- a time is no greater than the end
  time-held : (a t : ℕ) → IsSend script.plan a t → holds Clock t ≡ true
  time-held a t s =
      let end = (checked_has_form script checked).ends in
      let low = le-of t script.plan.end (both (nat_le 1 t) (nat_le t script.plan.end) s.time).1 in
      le-test t (2 ^ 62) (omega (arith, end, low))

  clock-held : (events : List Event) (a now : ℕ) → IsPhaseTick script events a now → holds Clock now ≡ true
  clock-held events a now h =
      let low = le-of now (2 ^ 40) (both (nat_le h.ticks.old now) (nat_le now (2 ^ 40)) h.ticks.may).1 in
      le-test now (2 ^ 62) (omega (arith, low))

  buckets-held : (r ready : ℕ) → (nat_le 1 r && nat_le r most_milled && nat_le r ready) ≡ true → holds Buckets r ≡ true
  buckets-held r ready h = (both (nat_le 1 r && nat_le r most_milled) (nat_le r ready) h).0

  entry-ranged : (events : List Event) (e : Event) → IsEntryOf script events e → HasSmallNumbers script.plan e → is_in_range (frame.Entry e) ≡ true
  unfolding is_in_range
  entry-ranged events (Phase p) h s = one-held Number p (number-held p s.numbers)
  entry-ranged events (Emit a t) h s = two-held Actor Clock a t (actor-held a [] s.actors) (time-held a t h)
  entry-ranged events (Release a t) h s = two-held Actor Clock a t (actor-held a [] s.actors) (time-held a t h)
  entry-ranged events (Cut a b) h s = two-held Actor Actor a b (actor-held a (b ∷ []) s.actors) (second-held a b s.actors)
  entry-ranged events (Heal a b) h s = two-held Actor Actor a b (actor-held a (b ∷ []) s.actors) (second-held a b s.actors)
  entry-ranged events (Crash a) h s = one-held Actor a (actor-held a [] s.actors)
  entry-ranged events (Restart a i) h s = two-held Actor Number a i (actor-held a [] s.actors) (number-held i s.numbers)
  entry-ranged events (Deliver k) h s = one-held Number k (number-held k s.numbers)
  entry-ranged events (Tick a now) h s = two-held Actor Clock a now (actor-held a [] s.actors) (clock-held events a now h)
  entry-ranged events (Mill a r) h s = two-held Actor Buckets a r (actor-held a [] s.actors) (buckets-held r _ h.may)

-- ---- all entries

pub entries-ranged : (script : Script) (events : List Event) → IsChecked script → is_live_so_far script events ≡ true → excess script.plan events ≡ None →
    length events < 2 ^ 62 → list_all (λ e. is_in_range (frame.Entry e)) events ≡ true
entries-ranged script events checked live within short = each-of (λ e. is_in_range (frame.Entry e)) events there
  where
    there : (before : List Event) (e : Event) (rest : List Event) → events ≡ before ++ e ∷ rest → is_in_range (frame.Entry e) ≡ true
    there before e rest split =
        let lives = subst (λ (es : List Event). is_live_so_far script es ≡ true) split live in
        let none = within-before (new_world script.plan) before (e ∷ rest) (subst (λ (es : List Event). excess script.plan es ≡ None) split within) in
        let many : length events ≡ length before + suc (length rest) = ap (λ (es : List Event). length es) split ∙ length-append before (e ∷ rest) in
        entry-ranged script checked before e (entry-is script before e rest checked lives)
        (small-numbers script before e rest checked lives none (omega (arith, short, many)))
