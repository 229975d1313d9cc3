-- What is told, a node at a time.
use Rattle.std.proofs.Common.{◌≡◌, ℕ, zero, suc, ◌+◌, List, [], ◌∷◌, ◌++◌, length, map, take, Option, Some, None, slice_get, inl, inr, refl, sym, ap, subst, ◌∙◌, arith}
use Rattle.std.proofs.lemmas.List.{length-drop, length-append, length-map, map-append}
use Rattle.disk_model.specs.Disk.{Image}
use Rattle.disk_model.specs.declared.disk.Disk.{Ghosts}
use Rattle.dpc_model.specs.declared.messages.Event.{Event}
use Rattle.dpc_model.specs.declared.plans.Plan.{Plan}
use Rattle.fragment_mill.specs.Mills.{MillState}
use Rattle.law_saves.specs.Saves.{saved_last}
use Rattle.node_model.specs.Mails.{Snap}
use Rattle.node_model.specs.Stands.{SnapValue, snap_output}
use Rattle.phase_saves.specs.Nodes.{Agrees, Went}
use Rattle.phase_saves.specs.declared.kept.LastSave.{LastSave}
use Rattle.phase_saves.specs.declared.kept.LastSave.TheVariants as last_save
use Rattle.phase_saves.specs.declared.node.SavingNode.{SavingNode}
use Rattle.saved_point.specs.Points.{Point, point_at, point_given, kept_in, room_in}
use Rattle.world_model.specs.Worlds.{home_of}
use Rattle.saved_runs.specs.Told.{kept_count, AreSaidFrom, IsSaved, AreSavedFrom}
use Rattle.saved_runs.specs.declared.saved.Saved.{Saved}
use Rattle.saved_runs.specs.declared.saved.Saved.TheVariants as saved

take-one : {X : Type 0} (xs : List X) (k : ℕ) (x : X) → slice_get xs k ≡ Some x → take (suc k) xs ≡ take k xs ++ x ∷ []
take-one [] k x is = absurd (cc (is))
take-one (y ∷ xs) zero x is = let same : y ≡ x = cc in rw same refl
take-one {X = X} (y ∷ xs) (suc k) x is = ap (λ (rest : List X). y ∷ rest) (take-one xs k x is)

take-next : {X : Type 0} (xs : List X) (k : ℕ) (x : X) → slice_get xs k ≡ Some x → take (k + 1) xs ≡ take k xs ++ x ∷ []
take-next {X = X} xs k x is = let next : k + 1 ≡ suc k = omega arith in ap (λ n. take n xs) next ∙ take-one xs k x is

point-known : (v w : SnapValue MillState) → Point v ≡ Point w → v ≡ w
point-known v w is = cc

same-point : (a b c x y z : ℕ) → a ≡ x → b ≡ y → c ≡ z → saved.Point a b c ≡ saved.Point x y z
same-point a b c x y z p q r = rw (p, q, r) refl

given-known : (o : Option (SnapValue MillState)) (v : SnapValue MillState) → point_given o ≡ Point v → o ≡ Some v
given-known None v is = absurd (cc (is))
given-known (Some w) v is = ap Some (point-known w v is)

pub told-more : (plan : Plan) (room : ℕ) (events : List Event) (a : ℕ) (ns : List (ℕ × ℕ)) (ds : List Image) (ss : List Saved) (n : ℕ × ℕ) (d : Image) (s : Saved)
    → AreSavedFrom plan room events a ns ds ss → IsSaved plan room n d (saved_last plan events (a + length ds)) s → AreSavedFrom plan room events a (ns ++ n ∷ []) (ds ++ d ∷ []) (ss ++ s ∷ [])
told-more plan room events a [] [] [] n d s h one = let none : a + 0 ≡ a = omega arith in (subst (λ b. IsSaved plan room n d (saved_last plan events b) s) none one, tt)
told-more plan room events a [] [] (t ∷ ss) n d s h one = absurd h
told-more plan room events a [] (e ∷ ds) ss n d s h one = absurd h
told-more plan room events a (m ∷ ns) [] ss n d s h one = absurd h
told-more plan room events a (m ∷ ns) (e ∷ ds) [] n d s h one = absurd h
told-more plan room events a (m ∷ ns) (e ∷ ds) (t ∷ ss) n d s h one =
    let next : a + suc (length ds) ≡ a + 1 + length ds = omega arith in
    (h.0, told-more plan room events (a + 1) ns ds ss n d s h.1 (subst (λ b. IsSaved plan room n d (saved_last plan events b) s) next one))

pub told-next : (plan : Plan) (room : ℕ) (events : List Event) (a : ℕ) (all : List (ℕ × ℕ)) (ds : List Image) (ss : List Saved) (n : ℕ × ℕ) (d : Image) (s : Saved)
    → slice_get all (length ds) ≡ Some n → AreSavedFrom plan room events a (take (length ds) all) ds ss → IsSaved plan room n d (saved_last plan events (a + length ds)) s
    → AreSavedFrom plan room events a (take (length ds + 1) all) (ds ++ d ∷ []) (ss ++ s ∷ [])
told-next plan room events a all ds ss n d s at h one =
    subst (λ (ns : List (ℕ × ℕ)). AreSavedFrom plan room events a ns (ds ++ d ∷ []) (ss ++ s ∷ [])) (sym (take-next all (length ds) n at))
    (told-more plan room events a (take (length ds) all) ds ss n d s h one)

-- where nothing is told yet
pub told-none : {D : Type 0} (seen : D → Image) (plan : Plan) (room : ℕ) (events : List Event) (a : ℕ) (all : List (ℕ × ℕ)) (ds : List D) (ss : List Saved) → ds ≡ [] → ss ≡ []
    → AreSavedFrom plan room events a (take (length ds) all) (map seen ds) ss
told-none {D = D} seen plan room events a all ds ss none nothing =
    subst (λ (ds : List D). AreSavedFrom plan room events a (take (length ds) all) (map seen ds) ss) (sym none)
    (subst (λ (ss : List Saved). AreSavedFrom plan room events a (take 0 all) [] ss) (sym nothing) tt)

-- one more
pub told-step : {D : Type 0} (seen : D → Image) (plan : Plan) (room : ℕ) (events : List Event) (a : ℕ) (all : List (ℕ × ℕ)) (ds : List D) (ss : List Saved) (n : ℕ × ℕ) (d : D) (s : Saved)
    → slice_get all (length ds) ≡ Some n → AreSavedFrom plan room events a (take (length ds) all) (map seen ds) ss → IsSaved plan room n (seen d) (saved_last plan events (a + length ds)) s
    → AreSavedFrom plan room events a (take (length (ds ++ d ∷ [])) all) (map seen (ds ++ d ∷ [])) (ss ++ s ∷ [])
told-step {D = D} seen plan room events a all ds ss n d s at h one =
    let many : length (map seen ds) ≡ length ds = length-map ds seen in
    let more : length (ds ++ d ∷ []) ≡ length (map seen ds) + 1 = (let both = length-append ds (d ∷ []) in omega (arith, both, many)) in
    let next = told-next plan room events a all (map seen ds) ss n (seen d) s (ap (slice_get all) many ∙ at)
    (subst (λ k. AreSavedFrom plan room events a (take k all) (map seen ds) ss) (sym many) h) (subst (λ k. IsSaved plan room n (seen d) (saved_last plan events (a + k)) s) (sym many) one) in
    subst (λ (images : List Image). AreSavedFrom plan room events a (take (length (ds ++ d ∷ [])) all) images (ss ++ s ∷ [])) (sym (map-append seen ds (d ∷ [])))
    (subst (λ k. AreSavedFrom plan room events a (take k all) (map seen ds ++ seen d ∷ []) (ss ++ s ∷ [])) (sym more) next)

-- all of them
take-all : {X : Type 0} (xs : List X) (k : ℕ) → k ≡ length xs → take k xs ≡ xs
take-all xs k is = ap (λ n. take n xs) is ∙ whole xs
  where
    whole : {X : Type 0} (xs : List X) → take (length xs) xs ≡ xs
    whole [] = refl
    whole {X = X} (x ∷ xs) = ap (λ (rest : List X). x ∷ rest) (whole xs)

pub told-all : (plan : Plan) (room : ℕ) (events : List Event) (a k : ℕ) (all : List (ℕ × ℕ)) (images : List Image) (ss : List Saved) → k ≡ length all
    → AreSavedFrom plan room events a (take k all) images ss → AreSavedFrom plan room events a all images ss
told-all plan room events a k all images ss is h = subst (λ (ns : List (ℕ × ℕ)). AreSavedFrom plan room events a ns images ss) (take-all all k is) h

-- without the disks
pub said-of : (plan : Plan) (room : ℕ) (events : List Event) (a : ℕ) (ns : List (ℕ × ℕ)) (ds : List Image) (ss : List Saved) → AreSavedFrom plan room events a ns ds ss → AreSaidFrom plan room events a ns ss
said-of plan room events a [] [] [] h = tt
said-of plan room events a [] [] (s ∷ ss) h = absurd h
said-of plan room events a [] (d ∷ ds) ss h = absurd h
said-of plan room events a (n ∷ ns) [] ss h = absurd h
said-of plan room events a (n ∷ ns) (d ∷ ds) [] h = absurd h
said-of plan room events a (n ∷ ns) (d ∷ ds) (s ∷ ss) h = (h.0.0, said-of plan room events (a + 1) ns ds ss h.1)

module _ {D : Type 0} {g : Ghosts D} where
  -- what is told of a node that agrees, when its disk was opened again
  pub told-one : (plan : Plan) (room r : ℕ) (n : SavingNode D g) (image : Image) (opened : Option (SnapValue MillState)) (last : Option Snap) (said : Saved)
      → room_in n.point ≡ room
      → point_given opened ≡ kept_in plan n.frag n.point → point_at plan n.frag room image ≡ point_given opened
      → (n.last ≡ last_save.Never → said ≡ saved.Never) → (n.last ≡ last_save.Full → said ≡ saved.Full)
      → ((v : SnapValue MillState) → n.last ≡ last_save.Kept → opened ≡ Some v → said ≡ saved.Point v.cursor v.base (length v.kept))
      → Agrees plan r n last → IsSaved plan room (n.frag, r) image last said
  told-one plan room r n image opened None said roomy given seen never full kept has = (never has.last, seen ∙ given ∙ has.kept)
  told-one plan room r n image opened (Some s) said roomy given seen never full kept has = by-went n.last refl
    where
      v : SnapValue MillState
      v = has.snapshot

      counted : length v.kept ≡ kept_count plan (n.frag, r) s
      counted = ap length has.stands.kept ∙ length-drop s.base (snap_output (home_of plan (n.frag, r)) s)

      by-went : (w : LastSave) → n.last ≡ w → IsSaved plan room (n.frag, r) image (Some s) said
      by-went last_save.Never is = absurd (subst (λ (w : LastSave). Went plan n v w) is has.went)
      by-went last_save.Full is =
          let long = subst (λ (w : LastSave). Went plan n v w) is has.went in
          (record { snapshot = v; stands = has.stands; kept = inl (full is, omega (arith, long, roomy)) }, inl (full is))
      by-went last_save.Kept is =
          let keeps = subst (λ (w : LastSave). Went plan n v w) is has.went in
          let fits = keeps.0 in
          let here = kept v is (given-known opened v (given ∙ keeps.1)) in
          let told = here ∙ same-point v.cursor v.base (length v.kept) s.cursor s.base (kept_count plan (n.frag, r) s) has.stands.cursor has.stands.base counted in
          (record { snapshot = v; stands = has.stands; kept = inr (told, omega (arith, fits, roomy)) }, inr (v, has.stands, seen ∙ given ∙ keeps.1))
