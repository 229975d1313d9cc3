-- What contracts see of links whose ports were changed.
use Rattle.std.proofs.Common.{◌≡◌, ℕ, zero, suc, ◌<◌, List, [], ◌∷◌, map, length, replicate, refl, ap, sym, subst, ◌∙◌, arith, Some}
use Rattle.std.proofs.lemmas.List.{length-map}
use Rattle.dpc_lists.specs.Lists.{nth, changed}
use Rattle.dpc_model.specs.Replicas.{Watch, new_watch}
use Rattle.dpc_model.specs.Actors.{senders_of, replicas_of}
use Rattle.dpc_model.specs.declared.plans.Plan.{Plan}
use Rattle.dpc_model.specs.declared.plans.StreamRef.{StreamRef}
use Rattle.node_model.specs.Nodes.{Home, spec_of, streams_of}
use Rattle.dpc_model.specs.Granting.{Grants, new_grants}
use Rattle.dpc_model.specs.Parts.{Upstream}
use Rattle.upstream.specs.Upstreams.{UpstreamValue, new_upstream}
use Rattle.node_links.specs.Linking.{LinksValue, new_links, sender_among, senders_at, known_at, seen_otherwise, with_upstream, with_upstreams, no_upstream, no_value, upstream_at}
use Rattle.node_links.proofs.Within.{sender-within}

-- links of these parts
abbrev pub links_of : List UpstreamValue → List ℕ → ℕ → Grants → List Watch → ℕ → LinksValue
links_of us rs me g ws n = record { senders = senders_at us; replicas = rs; me = me; known = record { upstreams = known_at us; grants = g; peers = ws; tries = n } }

-- ---- one port

pub known-changed : (p : ℕ) (f : Upstream → Upstream) (us : List UpstreamValue) → known_at (changed p (seen_otherwise f) us) ≡ changed p f (known_at us)
known-changed p f [] = refl
known-changed zero f (u ∷ us) = refl
known-changed (suc p) f (u ∷ us) = ap (λ (ks : List Upstream). u.known ∷ ks) (known-changed p f us)

pub senders-changed : (p : ℕ) (f : Upstream → Upstream) (us : List UpstreamValue) → senders_at (changed p (seen_otherwise f) us) ≡ senders_at us
senders-changed p f [] = refl
senders-changed zero f (u ∷ us) = refl
senders-changed (suc p) f (u ∷ us) = ap (λ (ss : List (List ℕ)). u.senders ∷ ss) (senders-changed p f us)

one-changed : (p : ℕ) (f : Upstream → Upstream) (us : List UpstreamValue) (rs : List ℕ) (me : ℕ) (g : Grants) (ws : List Watch) (n : ℕ) →
    links_of (changed p (seen_otherwise f) us) rs me g ws n ≡ record (links_of us rs me g ws n) { known = with_upstream p f (links_of us rs me g ws n).known }
one-changed p f us rs me g ws n =
    let see : List (List ℕ) → List Upstream → LinksValue = λ ss ks. record { senders = ss; replicas = rs; me = me; known = record { upstreams = ks; grants = g; peers = ws; tries = n } } in
    ap (λ (ss : List (List ℕ)). see ss (known_at (changed p (seen_otherwise f) us))) (senders-changed p f us) ∙ ap (λ (ks : List Upstream). see (senders_at us) ks) (known-changed p f us)

-- a port of the links that were seen
pub port-low : (us : List UpstreamValue) (rs : List ℕ) (me : ℕ) (g : Grants) (ws : List Watch) (n : ℕ) (old : LinksValue) (p : ℕ) →
    links_of us rs me g ws n ≡ old → p < length old.known.upstreams → p < length us
port-low us rs me g ws n old p is low =
    let same : length (known_at us) ≡ length us = length-map us (λ (u : UpstreamValue). u.known) in
    let long : length (known_at us) ≡ length old.known.upstreams = ap (λ (v : LinksValue). length v.known.upstreams) is in omega (arith, same, long, low)

-- the sender of one port is seen otherwise
pub port-seen : (us new : List UpstreamValue) (rs : List ℕ) (me : ℕ) (g : Grants) (ws : List Watch) (n : ℕ) (old : LinksValue) (p : ℕ) (f : Upstream → Upstream) →
    links_of us rs me g ws n ≡ old → new ≡ changed p (seen_otherwise f) us → links_of new rs me g ws n ≡ record old { known = with_upstream p f old.known }
port-seen us new rs me g ws n old p f is made =
    ap (λ (xs : List UpstreamValue). links_of xs rs me g ws n) made ∙ one-changed p f us rs me g ws n ∙ ap (λ (v : LinksValue). record v { known = with_upstream p f v.known }) is

-- ---- a port is read

pub upstream-is : (us : List UpstreamValue) (rs : List ℕ) (me : ℕ) (g : Grants) (ws : List Watch) (n : ℕ) (old : LinksValue) (p : ℕ) →
    links_of us rs me g ws n ≡ old → nth no_value us p ≡ upstream_at p old
upstream-is us rs me g ws n old p is = here us p ∙ ap (λ (v : LinksValue). upstream_at p v) is
  where
    here : (us : List UpstreamValue) (p : ℕ) → nth no_value us p ≡ record { senders = nth [] (senders_at us) p; known = nth no_upstream (known_at us) p }
    here [] p = refl
    here (x ∷ us) zero = refl
    here (x ∷ us) (suc p) = here us p

-- where a sender is found
pub sender-low : (us : List UpstreamValue) (rs : List ℕ) (me : ℕ) (g : Grants) (ws : List Watch) (n : ℕ) (old : LinksValue) (a p r : ℕ) →
    links_of us rs me g ws n ≡ old → sender_among 0 old.senders a ≡ Some (p, r) → (p < length us) × (r < length (nth [] (senders_at us) p))
sender-low us rs me g ws n old a p r is found =
    let s = sender-within 0 old.senders a p r found in
    let here : p ≡ s.place = let port = s.port in omega (arith, port) in
    let same : length (senders_at us) ≡ length us = length-map us (λ (u : UpstreamValue). u.senders) in
    let long : length (senders_at us) ≡ length old.senders = ap (λ (v : LinksValue). length v.senders) is in
    let replica : r < length (nth [] old.senders p) = subst (λ (q : ℕ). r < length (nth [] old.senders q)) (sym here) s.replica in (
      let below = s.low in omega (arith, same, long, below, here),
      subst (λ (v : LinksValue). r < length (nth [] v.senders p)) (sym is) replica,
    )

-- the replicas of a port
pub replica-low : (us : List UpstreamValue) (rs : List ℕ) (me : ℕ) (g : Grants) (ws : List Watch) (n : ℕ) (old : LinksValue) (p r : ℕ) →
    links_of us rs me g ws n ≡ old → r < length (nth [] old.senders p) → r < length (nth [] (senders_at us) p)
replica-low us rs me g ws n old p r is low = subst (λ (v : LinksValue). r < length (nth [] v.senders p)) (sym is) low

-- ---- all ports

pub known-mapped : (f : Upstream → Upstream) (us : List UpstreamValue) → known_at (map (seen_otherwise f) us) ≡ map f (known_at us)
known-mapped f [] = refl
known-mapped f (u ∷ us) = ap (λ (ks : List Upstream). f u.known ∷ ks) (known-mapped f us)

pub senders-mapped : (f : Upstream → Upstream) (us : List UpstreamValue) → senders_at (map (seen_otherwise f) us) ≡ senders_at us
senders-mapped f [] = refl
senders-mapped f (u ∷ us) = ap (λ (ss : List (List ℕ)). u.senders ∷ ss) (senders-mapped f us)

pub ports-changed : (us new : List UpstreamValue) (rs : List ℕ) (me : ℕ) (g : Grants) (ws : List Watch) (n : ℕ) (f : Upstream → Upstream) → new ≡ map (seen_otherwise f) us →
    links_of new rs me g ws n ≡ record (links_of us rs me g ws n) { known = with_upstreams f (links_of us rs me g ws n).known }
ports-changed us new rs me g ws n f made =
    let see : List (List ℕ) → List Upstream → LinksValue = λ ss ks. record { senders = ss; replicas = rs; me = me; known = record { upstreams = ks; grants = g; peers = ws; tries = n } } in
    ap (λ (xs : List UpstreamValue). links_of xs rs me g ws n) made
    ∙ ap (λ (ss : List (List ℕ)). see ss (known_at (map (seen_otherwise f) us))) (senders-mapped f us) ∙ ap (λ (ks : List Upstream). see (senders_at us) ks) (known-mapped f us)

-- ---- new links

new-senders : (plan : Plan) (streams : List StreamRef) → senders_at (map (λ s. new_upstream (senders_of plan s)) streams) ≡ map (senders_of plan) streams
new-senders plan [] = refl
new-senders plan (s ∷ streams) = ap (λ (ss : List (List ℕ)). senders_of plan s ∷ ss) (new-senders plan streams)

new-known : (plan : Plan) (streams : List StreamRef) → known_at (map (λ s. new_upstream (senders_of plan s)) streams) ≡ map (λ s. (new_upstream (senders_of plan s)).known) streams
new-known plan [] = refl
new-known plan (s ∷ streams) = ap (λ (ks : List Upstream). (new_upstream (senders_of plan s)).known ∷ ks) (new-known plan streams)

pub new-view : (home : Home) (inc n : ℕ) (us : List UpstreamValue) (rs : List ℕ) (g : Grants) (ws : List Watch) → us ≡ map (λ s. new_upstream (senders_of home.plan s)) (streams_of home) →
    rs ≡ replicas_of home.plan home.frag → n ≡ (spec_of home).replicas → g ≡ new_grants home.replica inc n → ws ≡ replicate n new_watch →
    links_of us rs home.replica g ws 0 ≡ new_links home inc
new-view home inc n us rs g ws ports replicas count grants watches =
    let see : List (List ℕ) → List Upstream → List ℕ → Grants → List Watch → LinksValue =
    λ ss ks rs g ws. record { senders = ss; replicas = rs; me = home.replica; known = record { upstreams = ks; grants = g; peers = ws; tries = 0 } } in
    let made : List UpstreamValue = map (λ s. new_upstream (senders_of home.plan s)) (streams_of home) in
    let ss : List (List ℕ) = map (senders_of home.plan) (streams_of home) in
    let ks : List Upstream = map (λ s. (new_upstream (senders_of home.plan s)).known) (streams_of home) in
    let all : List ℕ = replicas_of home.plan home.frag in
    ap (λ (xs : List UpstreamValue). see (senders_at xs) (known_at xs) rs g ws) ports ∙ ap (λ (xs : List (List ℕ)). see xs (known_at made) rs g ws) (new-senders home.plan (streams_of home))
    ∙ ap (λ (xs : List Upstream). see ss xs rs g ws) (new-known home.plan (streams_of home)) ∙ ap (λ (xs : List ℕ). see ss ks xs g ws) replicas
    ∙ ap (λ (x : Grants). see ss ks all x ws) grants ∙ ap (λ (xs : List Watch). see ss ks all (new_grants home.replica inc n) xs) watches
    ∙ ap (λ (m : ℕ). see ss ks all (new_grants home.replica inc m) (replicate m new_watch)) count
