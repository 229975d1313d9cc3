-- A replica is chosen for each port, one after another.
use Rattle.std.proofs.Common.{◌≡◌, ℕ, zero, suc, ◌+◌, ◌<◌, List, [], ◌∷◌, ◌++◌, map, take, length, refl, sym, ap, subst, ◌∙◌, arith, append_assoc, append-nil}
use Rattle.std.proofs.lemmas.List.{map-append, take_all}
use Rattle.dpc_lists.specs.Lists.{nth, changed, sort_by}
use Rattle.dpc_model.specs.Ports.{Port, no_port, port_after_choice, subscription, subscriptions}
use Rattle.dpc_model.specs.declared.messages.Out.{Out}
use Rattle.dpc_model.specs.declared.plans.Plan.{Plan}
use Rattle.dpc_model.specs.declared.plans.StreamRef.{StreamRef}
use Rattle.dpc_model.specs.declared.plans.StreamRef.TheVariants.{Source}
use Rattle.dpc_lists.proofs.Mapped.{mapped_to}
use Rattle.node_model.specs.Mails.{Mail, mail, mails}
use Rattle.node_model.specs.Nodes.{Home, streams_of, PlainNode}
use Rattle.node_model.specs.NodeSteps.{with_port, choice_step}
use Rattle.node_model.specs.Fitting.{IsFit}
use Rattle.law_node.proofs.FitNodes.{fit-choice-at}
use Rattle.node_core.specs.declared.packets.Mail as code_mail
use Rattle.node_core.specs.Standing.{NodeValue, StandsForNode, AreMails}
use Rattle.node_core.specs.Stepping.{Steps, choice_at_port}
use Rattle.node_core.proofs.Frames.{upstreams-many}
use Rattle.node_core.proofs.Mailing.{mails-append}
use Rattle.node_core.proofs.Sendings.{sorted-mails}

-- the first ports chose, and the others did not yet
abbrev pub chosen_upto : ℕ → PlainNode → PlainNode
chosen_upto i p = record p { ports = mapped_to port_after_choice i p.ports }

pub record IsChosenUpto (i : ℕ) (new : NodeValue) (told : List code_mail.Mail) (home : Home) (p : PlainNode) : Type 0 where
  pub stands : StandsForNode home new (chosen_upto i p)
  pub fit : IsFit home (chosen_upto i p)
  pub sends : AreMails home told (mails (subscriptions home.plan (take i p.ports) (streams_of home)))

abbrev pub HasChosen : ℕ → NodeValue → NodeValue → List code_mail.Mail → Type 0
HasChosen i old new told = (home : Home) (p : PlainNode) → StandsForNode home old p → IsFit home p → IsChosenUpto i new told home p

pub none-chosen : (v : NodeValue) → HasChosen 0 v v []
none-chosen v home p h fit = record { stands = h; fit = fit; sends = tt }

changed-mapped : {X : Type 0} (f : X → X) (i : ℕ) (xs : List X) → i < length xs → changed i f (mapped_to f i xs) ≡ mapped_to f (i + 1) xs
changed-mapped f i [] low = absurd (omega (arith, low))
changed-mapped f zero (x ∷ xs) low = refl
changed-mapped {X = X} f (suc i) (x ∷ xs) low =
    let next : suc i + 1 ≡ suc (i + 1) = omega arith in rw next (ap (λ (ys : List X). f x ∷ ys) (changed-mapped f i xs (omega (arith, low))))

nth-mapped : {X : Type 0} (d : X) (f : X → X) (i : ℕ) (xs : List X) → nth d (mapped_to f i xs) i ≡ nth d xs i
nth-mapped d f zero [] = refl
nth-mapped d f (suc i) [] = refl
nth-mapped d f zero (x ∷ xs) = refl
nth-mapped d f (suc i) (x ∷ xs) = nth-mapped d f i xs

subscriptions-more : (plan : Plan) (i : ℕ) (ports : List Port) (streams : List StreamRef) → i < length ports → length ports ≡ length streams →
    subscriptions plan (take (i + 1) ports) streams ≡ subscriptions plan (take i ports) streams ++ subscription plan (nth no_port ports i) (nth (Source 0) streams i)
subscriptions-more plan i [] streams low many = absurd (omega (arith, low))
subscriptions-more plan i (p ∷ ports) [] low many = cc
subscriptions-more plan zero (p ∷ ports) (s ∷ streams) low many = append-nil (subscription plan p s)
subscriptions-more plan (suc i) (p ∷ ports) (s ∷ streams) low many =
    let next : suc i + 1 ≡ suc (i + 1) = omega arith in
    rw next (ap (λ (os : List Out). subscription plan p s ++ os) (subscriptions-more plan i ports streams (omega (arith, low)) (omega (arith, many)))
    ∙ sym (append_assoc (subscription plan p s) (subscriptions plan (take i ports) streams) (subscription plan (nth no_port ports i) (nth (Source 0) streams i))))

-- one port more chooses
pub more-chosen : (i : ℕ) (old v new : NodeValue) (told asked : List code_mail.Mail) → i < length v.links.known.upstreams → HasChosen i old v told → Steps (choice_at_port i) v new asked →
    HasChosen (i + 1) old new (told ++ asked)
more-chosen i old v new told asked low chosen step home p h fit =
    let so = chosen home p h fit in
    let m = chosen_upto i p in
    let many = upstreams-many home v m so.stands in
    let as_many = mapped-many port_after_choice i p.ports in
    let inside : i < length p.ports = omega (arith, low, many, as_many) in
    let same : with_port i port_after_choice m ≡ chosen_upto (i + 1) p = ap (λ (ports : List Port). record p { ports = ports }) (changed-mapped port_after_choice i p.ports inside) in
    let port : nth no_port m.ports i ≡ nth no_port p.ports i = nth-mapped no_port port_after_choice i p.ports in
    let s = nth (Source 0) (streams_of home) i in
    let sent : AreMails home asked (mails (subscription home.plan (nth no_port p.ports i) s)) =
    subst (λ (q : Port). AreMails home asked (mails (subscription home.plan q s))) port (step.sends home m so.stands so.fit) in
    let both = mails-append home told asked (mails (subscriptions home.plan (take i p.ports) (streams_of home))) (mails (subscription home.plan (nth no_port p.ports i) s)) so.sends sent in
    let listed : mails (subscriptions home.plan (take i p.ports) (streams_of home)) ++ mails (subscription home.plan (nth no_port p.ports i) s) ≡ mails (subscriptions home.plan (take (i + 1) p.ports) (streams_of home)) =
    sym (map-append (λ (o : Out). mail o.to o.message) (subscriptions home.plan (take i p.ports) (streams_of home)) (subscription home.plan (nth no_port p.ports i) s))
    ∙ ap mails (sym (subscriptions-more home.plan i p.ports (streams_of home) inside fit.ports)) in
    record {
      stands = subst (λ (q : PlainNode). StandsForNode home new q) same (step.after home m so.stands so.fit);
      fit = subst (λ (q : PlainNode). IsFit home q) same (fit-choice-at home i m so.fit);
      sends = subst (λ (ps : List Mail). AreMails home (told ++ asked) ps) listed both;
    }
  where
    mapped-many : {X : Type 0} (f : X → X) (i : ℕ) (xs : List X) → length (mapped_to f i xs) ≡ length xs
    mapped-many f zero xs = refl
    mapped-many f (suc i) [] = refl
    mapped-many f (suc i) (x ∷ xs) = ap suc (mapped-many f i xs)

all-mapped : {X : Type 0} (f : X → X) (xs : List X) → mapped_to f (length xs) xs ≡ map f xs
all-mapped f [] = refl
all-mapped {X = X} f (x ∷ xs) = ap (λ (ys : List X). f x ∷ ys) (all-mapped f xs)

-- every port chose
pub all-chosen : (many : ℕ) (old new : NodeValue) (told : List code_mail.Mail) → many ≡ length old.links.known.upstreams → HasChosen many old new told →
    Steps choice_step old new (sort_by (λ (m : code_mail.Mail). m.to) told)
all-chosen many old new told all chosen = record {
  after = λ home p h fit.
      let count : many ≡ length p.ports = all ∙ upstreams-many home old p h in
      subst (λ (ports : List Port). StandsForNode home new (record p { ports = ports })) (ap (λ (k : ℕ). mapped_to port_after_choice k p.ports) count ∙ all-mapped port_after_choice p.ports) (chosen home p h fit).stands;
  sends = λ home p h fit.
      let count : many ≡ length p.ports = all ∙ upstreams-many home old p h in
      let whole : take many p.ports ≡ p.ports = take_all many p.ports (omega (arith, count)) in
      sorted-mails home told (mails (subscriptions home.plan p.ports (streams_of home)))
      (subst (λ (ports : List Port). AreMails home told (mails (subscriptions home.plan ports (streams_of home)))) whole (chosen home p h fit).sends);
}
