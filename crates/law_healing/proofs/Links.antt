-- Each link that is cut in a world is cut behind the directives that were done.
use Rattle.std.proofs.Common.{◌≡◌, ℕ, Bool, true, false, cond, not, ◌&&◌, ◌==◌, List, [], ◌∷◌, ◌++◌, refl, ap, ◌∙◌}
use Rattle.std.specs.Prelude.{fold}
use Rattle.std.specs.List.{filter}
use Rattle.std.proofs.lemmas.Bool.{or_right}
use Rattle.dpc_lists.specs.Lists.{list_all, push}
use Rattle.dpc_model.specs.declared.actors.Role.{Role}
use Rattle.dpc_model.specs.declared.actors.Role.TheVariants.{Source as IsSource, Node as IsNode, Client as IsClient, Nobody}
use Rattle.dpc_model.specs.declared.scripts.Directive.{Directive}
use Rattle.dpc_model.specs.declared.scripts.Directive.TheVariants as directive
use Rattle.node_model.specs.Sources.{source_emits, source_releases}
use Rattle.world_model.specs.Worlds.{World, source_at, source_stepped, same_pair, link_up, is_release_time, emits, releases, cuts_link, heals_link, crashes, restarts}
use Rattle.dpc_lists.proofs.Truths.{both, both-of, eq-test, all-append}
use Rattle.law_healing.specs.Healing.{cut_behind}
use Rattle.law_healing.proofs.Behind.{fold-push}

abbrev pub is_cut_behind : List Directive → ℕ × ℕ → Bool
is_cut_behind done p = fold (cut_behind p.0 p.1) false done

abbrev pub AreCutBehind : List Directive → List (ℕ × ℕ) → Type 0
AreCutBehind done cuts = list_all (is_cut_behind done) cuts ≡ true

-- ---- one directive more

all-weaker : (q r : ℕ × ℕ → Bool) (ps : List (ℕ × ℕ)) → ((p : ℕ × ℕ) → q p ≡ true → r p ≡ true) → list_all q ps ≡ true → list_all r ps ≡ true
all-weaker q r [] weaker h = refl
all-weaker q r (p ∷ ps) weaker h = let k = both (q p) (list_all q ps) h in both-of (r p) (list_all r ps) (weaker p k.0) (all-weaker q r ps weaker k.1)

all-kept : (q r test : ℕ × ℕ → Bool) (ps : List (ℕ × ℕ)) → ((p : ℕ × ℕ) → q p ≡ true → test p ≡ true → r p ≡ true) → list_all q ps ≡ true → list_all r (filter test ps) ≡ true
all-kept q r test [] keeps h = refl
all-kept q r test (p ∷ ps) keeps h =
    let k = both (q p) (list_all q ps) h in
    (elim (test p) as (λ b. test p ≡ b → list_all r (cond b (p ∷ filter test ps) (filter test ps)) ≡ true) [
      | true ↦ λ e. both-of (r p) (list_all r (filter test ps)) (keeps p k.0 e) (all-kept q r test ps keeps k.1)
      | false ↦ λ e. all-kept q r test ps keeps k.1
    ]) refl

-- a link that was cut is cut behind one directive more, where that heals it not
still-cut : (done : List Directive) (d : Directive) (p : ℕ × ℕ) → is_cut_behind done p ≡ true → cut_behind p.0 p.1 true d ≡ true → is_cut_behind (done ++ d ∷ []) p ≡ true
still-cut done d p was now = fold-push (cut_behind p.0 p.1) false done d ∙ ap (λ (b : Bool). cut_behind p.0 p.1 b d) was ∙ now

pub links-idle : (done : List Directive) (d : Directive) (cuts next : List (ℕ × ℕ)) → next ≡ cuts → ((p : ℕ × ℕ) → cut_behind p.0 p.1 true d ≡ true) → AreCutBehind done cuts → AreCutBehind (done ++ d ∷ []) next
links-idle done d cuts next same idle h =
    ap (λ (ps : List (ℕ × ℕ)). list_all (is_cut_behind (done ++ d ∷ [])) ps) same
    ∙ all-weaker (is_cut_behind done) (is_cut_behind (done ++ d ∷ [])) cuts (λ p was. still-cut done d p was (idle p)) h

pub links-cut : (done : List Directive) (w : World) (a b : ℕ) → AreCutBehind done w.cuts → AreCutBehind (done ++ directive.Cut a b ∷ []) (cuts_link w a b).cuts
links-cut done w a b h =
    let d = directive.Cut a b in
    let old = links-idle done d w.cuts w.cuts refl (λ p. refl) h in
    let here : (a == a && b == b) ≡ true = both-of (a == a) (b == b) (eq-test a a refl) (eq-test b b refl) in
    let new : is_cut_behind (done ++ d ∷ []) (a, b) ≡ true = fold-push (cut_behind a b) false done d ∙ or_right (fold (cut_behind a b) false done) (a == a && b == b) here in
    elim (link_up w a b) as (λ t. AreCutBehind (done ++ d ∷ []) (World.cuts (cond t (record w { cuts = push w.cuts (a, b) }) w))) [
      | true ↦ all-append (is_cut_behind (done ++ d ∷ [])) w.cuts ((a, b) ∷ []) old (both-of (is_cut_behind (done ++ d ∷ []) (a, b)) true new refl)
      | false ↦ old
    ]

pub links-heal : (done : List Directive) (w : World) (a b : ℕ) → AreCutBehind done w.cuts → AreCutBehind (done ++ directive.Heal a b ∷ []) (heals_link w a b).cuts
links-heal done w a b h =
    let d = directive.Heal a b in
    all-kept (is_cut_behind done) (is_cut_behind (done ++ d ∷ [])) (λ p. not (same_pair a b p)) w.cuts
    (λ p was kept. still-cut done d p was kept) h

-- ---- the events of other directives leave the links

pub emits-cuts : (w : World) (a t : ℕ) (role : Role) → (emits w a t role).cuts ≡ w.cuts
emits-cuts w a t (IsSource s) = elim (is_release_time w.plan t) as (λ b. World.cuts (cond b (source_stepped a (source_emits w.plan s t (source_at w s)) w) w) ≡ w.cuts) [ true ↦ refl | false ↦ refl ]
emits-cuts w a t (IsNode f r) = refl
emits-cuts w a t (IsClient c) = refl
emits-cuts w a t Nobody = refl

pub releases-cuts : (w : World) (a t : ℕ) (role : Role) → (releases w a t role).cuts ≡ w.cuts
releases-cuts w a t (IsSource s) = elim (is_release_time w.plan t) as (λ b. World.cuts (cond b (source_stepped a (source_releases w.plan s t (source_at w s)) w) w) ≡ w.cuts) [ true ↦ refl | false ↦ refl ]
releases-cuts w a t (IsNode f r) = refl
releases-cuts w a t (IsClient c) = refl
releases-cuts w a t Nobody = refl

pub crashes-cuts : (w : World) (a : ℕ) (role : Role) → (crashes w a role).cuts ≡ w.cuts
crashes-cuts w a (IsSource s) = refl
crashes-cuts w a (IsNode f r) = refl
crashes-cuts w a (IsClient c) = refl
crashes-cuts w a Nobody = refl

pub restarts-cuts : (w : World) (a i : ℕ) (role : Role) → (restarts w a i role).cuts ≡ w.cuts
restarts-cuts w a i (IsSource s) = refl
restarts-cuts w a i (IsNode f r) = refl
restarts-cuts w a i (IsClient c) = refl
restarts-cuts w a i Nobody = refl
