-- What a sender's step leaves of its readers' sessions.
use Rattle.std.proofs.Common.{◌≡◌, ℕ, zero, suc, ◌≤◌, Bool, true, false, cond, ◌&&◌, ◌==◌, List, [], ◌∷◌, ◌++◌, map, length, refl, sym, ap, subst, ◌∙◌, Option, Some, slice_get, append_assoc}
use Rattle.std.proofs.lemmas.List.{append-nil}
use Rattle.dpc_lists.specs.Lists.{nth, list_all}
use Rattle.dpc_model.specs.Sessions.{Shown, with_batch, with_batches, batches_of, is_newer_than_kept}
use Rattle.dpc_model.specs.declared.sessions.Sub.{Sub}
use Rattle.dpc_model.specs.declared.tuples.Item.{Item}
use Rattle.dpc_model.specs.declared.messages.Sess.{Sess}
use Rattle.dpc_model.specs.declared.messages.Subscribe.{Subscribe}
use Rattle.dpc_model.specs.declared.messages.Message.{Message}
use Rattle.dpc_model.specs.declared.messages.Message.TheVariants as message
use Rattle.dpc_model.specs.declared.plans.Plan.{Plan}
use Rattle.dpc_model.specs.declared.plans.StreamRef.{StreamRef}
use Rattle.node_model.specs.Mails.{Packet, Plain, SnapFor, Mail, to_readers}
use Rattle.world_model.specs.Worlds.{from}
use Rattle.world_model.specs.SessionLaw.{Channel, packet_items, carried, LeavesView}
use Rattle.dpc_lists.proofs.Truths.{both}
use Rattle.dpc_model.proofs.Subs.{shut-tally}
use Rattle.law_safety.proofs.Histories.{HoldsSession, AreDistinct, Carries, gave-held}

-- ---- mails that carry no items

abbrev pub no_batch : Message → Bool
no_batch (message.Batch s index items) = false
no_batch (message.Subscribe asked) = true
no_batch (message.Truncated s base) = true
no_batch (message.Beat b) = true
no_batch (message.Ack i n) = true
no_batch (message.Ask i n) = true
no_batch (message.Grant i n) = true
no_batch (message.SnapAsk i n) = true

abbrev pub is_bare_packet : Packet → Bool
is_bare_packet (Plain m) = no_batch m
is_bare_packet (SnapFor i try s) = true

abbrev pub is_bare : Mail → Bool
is_bare m = is_bare_packet m.packet

bare-message : (l : Channel) (m : Message) → no_batch m ≡ true → packet_items l (Plain m) ≡ []
bare-message l (message.Batch s index items) e = cc
bare-message l (message.Subscribe asked) e = refl
bare-message l (message.Truncated s base) e = refl
bare-message l (message.Beat b) e = refl
bare-message l (message.Ack i n) e = refl
bare-message l (message.Ask i n) e = refl
bare-message l (message.Grant i n) e = refl
bare-message l (message.SnapAsk i n) e = refl

bare-items : (l : Channel) (p : Packet) → is_bare_packet p ≡ true → packet_items l p ≡ []
bare-items l (Plain m) e = bare-message l m e
bare-items l (SnapFor i try s) e = refl

pub bare-carried : (l : Channel) (a : ℕ) (ms : List Mail) → list_all is_bare ms ≡ true → carried l (map (from a) ms) ≡ []
bare-carried l a [] h = refl
bare-carried l a (m ∷ ms) h =
    let p = both (is_bare m) (list_all is_bare ms) h in
    rw (bare-items l m.packet p.0, bare-carried l a ms p.1) (none (a == l.sender && m.to == l.reader))
  where
    none : (b : Bool) → cond {A = List Item} b [] [] ++ [] ≡ []
    none true = refl
    none false = refl

pub carried-append : (l : Channel) (a : ℕ) (ms ns : List Mail) → carried l (map (from a) (ms ++ ns)) ≡ carried l (map (from a) ms) ++ carried l (map (from a) ns)
carried-append l a [] ns = refl
carried-append l a (m ∷ ms) ns =
    let here : List Item = cond (a == l.sender && m.to == l.reader) (packet_items l m.packet) [] in
    ap (λ (xs : List Item). here ++ xs) (carried-append l a ms ns) ∙ sym (append_assoc here (carried l (map (from a) ms)) (carried l (map (from a) ns)))

pub mapped : {X Y : Type 0} (f : X → Y) (xs : List X) (k : ℕ) (y : Y) → slice_get (map f xs) k ≡ Some y → (x : X) × (slice_get xs k ≡ Some x) × (y ≡ f x)
mapped f [] k y e = cc
mapped f (x ∷ xs) zero y e = (x, refl, (let same : f x ≡ y = cc in sym same))
mapped f (x ∷ xs) (suc k) y e = mapped f xs k y e

-- ---- the sessions of a sender

-- what was sent in each session, by reader, and what opened it
abbrev pub HeldBy : Plan → StreamRef → Shown → (ℕ → Sess → List Item) → (ℕ → Sess → Subscribe) → List Sub → Type 0
HeldBy plan s x h q subs = (k : ℕ) (sub : Sub) → slice_get subs k ≡ Some sub → HoldsSession plan s x (h k) (q k) sub

abbrev pub line_of : ℕ → List ℕ → ℕ → Sess → Channel
line_of a readers k u = record { sender = a; reader = nth 0 readers k; sess = u }

-- what these mails carry, by reader
abbrev pub mailed : ℕ → List ℕ → List Mail → ℕ → Sess → List Item
mailed a readers ms k u = carried (line_of a readers k u) (map (from a) ms)

-- a step with these mails leaves what is held
abbrev pub Keeps : Plan → StreamRef → ℕ → List ℕ → Shown → List Sub → Shown → List Sub → List Mail → Type 0
Keeps plan s a readers x subs y subs' ms =
    (h : ℕ → Sess → List Item) (q : ℕ → Sess → Subscribe) → HeldBy plan s x h q subs → HeldBy plan s y (λ k u. h k u ++ mailed a readers ms k u) q subs'

-- the same history
pub held-same : (plan : Plan) (s : StreamRef) (x : Shown) (h h' : Sess → List Item) (q q' : Sess → Subscribe) (sub : Sub) → ((u : Sess) → h' u ≡ h u) → ((u : Sess) → q' u ≡ q u) →
    HoldsSession plan s x h q sub → HoldsSession plan s x h' q' sub
held-same plan s x h h' q q' sub same asks held =
    record { open_one = λ l e. rw (same l.0, asks l.0) (held.open_one l e); newer = λ u e. same u ∙ held.newer u e }

-- the same view
pub record SameShown (x y : Shown) : Type 0 where
  pub stable : y.stable ≡ x.stable
  pub bound : y.bound ≡ x.bound
  pub tentative : y.tentative ≡ x.tentative
  pub passed : y.passed ≡ x.passed

view-law : (plan : Plan) (s : StreamRef) (asked : Subscribe) (x y : Shown) (items : List Item) → SameShown x y → LeavesView plan s asked x items → LeavesView plan s asked y items
view-law plan s asked x y items same law start fit = rw (same.stable, same.bound, same.tentative, same.passed) (law start fit)

pub view-held : (plan : Plan) (s : StreamRef) (x y : Shown) (h : Sess → List Item) (q : Sess → Subscribe) (sub : Sub) → SameShown x y → HoldsSession plan s x h q sub → HoldsSession plan s y h q sub
view-held plan s x y h q sub same held = record { open_one = λ l e. view-law plan s (q l.0) x y (h l.0) same (held.open_one l e); newer = held.newer }

pub no-more : {X : Type 0} (xs ys : List X) → ys ≡ [] → xs ++ ys ≡ xs
no-more xs ys e = ap (λ (zs : List _). xs ++ zs) e ∙ append-nil xs

module _ (plan : Plan) (s : StreamRef) (a : ℕ) (readers : List ℕ) where
  pub keeps-then : (x y z : Shown) (subs subs' subs'' : List Sub) (ms ns : List Mail) → Keeps plan s a readers x subs y subs' ms → Keeps plan s a readers y subs' z subs'' ns → Keeps plan s a readers x subs z subs'' (ms ++ ns)
  keeps-then x y z subs subs' subs'' ms ns f g h q held k sub e =
      held-same plan s z (λ u. (h k u ++ mailed a readers ms k u) ++ mailed a readers ns k u) (λ u. h k u ++ mailed a readers (ms ++ ns) k u) (q k) (q k) sub
      (λ u. ap (λ (xs : List Item). h k u ++ xs) (carried-append (line_of a readers k u) a ms ns) ∙ sym (append_assoc (h k u) (mailed a readers ms k u) (mailed a readers ns k u)))
      (λ u. refl) (g (λ k u. h k u ++ mailed a readers ms k u) q (f h q held) k sub e)

  -- a step that shows the same and sends no items
  pub keeps-same : (x y : Shown) (subs subs' : List Sub) (ms : List Mail) → SameShown x y → subs' ≡ subs → list_all is_bare ms ≡ true → Keeps plan s a readers x subs y subs' ms
  keeps-same x y subs subs' ms same e bare h q held k sub f =
      held-same plan s y (h k) (λ u. h k u ++ mailed a readers ms k u) (q k) (q k) sub (λ u. no-more (h k u) (mailed a readers ms k u) (bare-carried (line_of a readers k u) a ms bare)) (λ u. refl)
      (view-held plan s x y (h k) (q k) sub same (held k sub (ap (λ (l : List Sub). slice_get l k) (sym e) ∙ f)))

  -- a step behind which no session is open
  pub keeps-shut : (x y : Shown) (subs subs' : List Sub) (ms : List Mail) → ((k : ℕ) (sub' : Sub) → slice_get subs' k ≡ Some sub' → (sub : Sub) × (slice_get subs k ≡ Some sub) × (sub'.kept ≡ sub.kept) × (sub'.is_open ≡ false)) →
      list_all is_bare ms ≡ true → Keeps plan s a readers x subs y subs' ms
  keeps-shut x y subs subs' ms shuts bare h q held k sub' e =
      let f = shuts k sub' e in
      let old = held k f.0 f.1 in
      record {
        open_one = λ l g. let none = shut-tally sub' f.3 in cc;
        newer = λ u g. no-more (h k u) (mailed a readers ms k u) (bare-carried (line_of a readers k u) a ms bare) ∙ old.newer u (subst (λ (o : Option Sess). is_newer_than_kept u o ≡ true) f.2 g);
      }

  -- items are given
  pub keeps-gave : (x y : Shown) (subs : List Sub) (items : List Item) → AreDistinct readers → length subs ≤ length readers → Carries plan s x y items →
      Keeps plan s a readers x subs y (with_batches items subs) (to_readers readers (batches_of items subs))
  keeps-gave x y subs [] distinct few carries h q held k sub e =
      let old = held k sub e in
      record { open_one = λ l f. carries (q k l.0) (h k l.0) (old.open_one l f); newer = λ u f. append-nil (h k u) ∙ old.newer u f }
  keeps-gave x y subs (i ∷ items) distinct few carries h q held k sub e =
      let c = mapped with_batch subs k sub e in
      rw c.2 (gave-held plan s x y (i ∷ items) (h k) (q k) readers a k subs c.0 distinct few c.1 carries (held k c.0 c.1))
