-- Mails in order of actors, and the same message to each actor.
use Rattle.std.proofs.Common.{◌≡◌, ℕ, Bool, true, false, nat_lt, List, [], ◌∷◌, map, refl, sym, ap, subst, ◌∙◌}
use Rattle.std.specs.Prelude.{if◌then◌else◌}
use Rattle.dpc_model.specs.declared.messages.Message.{Message}
use Rattle.node_links.specs.Linking.{peers_in}
use Rattle.node_links.proofs.Lawful.{finds-senders}
use Rattle.node_model.specs.Mails.{Mail, to_each}
use Rattle.node_model.specs.Nodes.{Home, PlainNode}
use Rattle.node_model.specs.NodeSteps.{peers_of}
use Rattle.node_core.specs.declared.packets.Mail as code_mail
use Rattle.node_core.specs.Standing.{NodeValue, StandsForNode, AreMails}
use Rattle.node_core.specs.Stepping.{plain_mail}
use Rattle.std.proofs.Common.{◌≡◌, ℕ, Bool, true, false, List, [], ◌∷◌, map, refl, sym, ap, subst, ◌∙◌, nat_lt}
use Rattle.dpc_lists.specs.Lists.{insert_by, sort_by}
use Rattle.node_model.specs.Mails.{Mail, in_actor_order}
use Rattle.node_core.specs.Standing.{NodeValue, StandsForNode, StandsForMail, AreMails}

-- ---- mails in order of actors

-- one mail is put in its place
insert-mails : (home : Home) (m : code_mail.Mail) (q : Mail) (ms : List code_mail.Mail) (ps : List Mail) → StandsForMail home m q → AreMails home ms ps →
    AreMails home (insert_by (λ (m : code_mail.Mail). m.to) m ms) (insert_by (λ (m : Mail). m.to) q ps)
insert-mails home m q [] [] h k = (h, tt)
insert-mails home m q [] (p ∷ ps) h k = absurd k
insert-mails home m q (n ∷ ms) [] h k = absurd k
insert-mails home m q (n ∷ ms) (p ∷ ps) h k =
    let same : nat_lt p.to q.to ≡ nat_lt n.to m.to = ap (λ (a : ℕ). nat_lt a q.to) (sym k.0.to) ∙ ap (λ (a : ℕ). nat_lt n.to a) (sym h.to) in
    let rest = insert-mails home m q ms ps h k.1 in
    subst (λ (b : Bool). AreMails home (if nat_lt n.to m.to then n ∷ insert_by (λ (m : code_mail.Mail). m.to) m ms else m ∷ n ∷ ms) (if b then p ∷ insert_by (λ (m : Mail). m.to) q ps else q ∷ p ∷ ps)) (sym same)
    (elim (nat_lt n.to m.to) as (λ (b : Bool). AreMails home (if b then n ∷ insert_by (λ (m : code_mail.Mail). m.to) m ms else m ∷ n ∷ ms) (if b then p ∷ insert_by (λ (m : Mail). m.to) q ps else q ∷ p ∷ ps)) [
      | true ↦ (k.0, rest)
      | false ↦ (h, k)
    ])

-- mails that stand for plain ones do so in order
pub sorted-mails : (home : Home) (ms : List code_mail.Mail) (ps : List Mail) → AreMails home ms ps → AreMails home (sort_by (λ (m : code_mail.Mail). m.to) ms) (in_actor_order ps)
sorted-mails home [] [] h = tt
sorted-mails home [] (p ∷ ps) h = absurd h
sorted-mails home (m ∷ ms) [] h = absurd h
sorted-mails home (m ∷ ms) (p ∷ ps) h = insert-mails home m p (sort_by (λ (m : code_mail.Mail). m.to) ms) (in_actor_order ps) h.0 (sorted-mails home ms ps h.1)

-- ---- the same to each

-- what is asked of each actor
pub each-mails : (home : Home) (m : Message) (actors : List ℕ) → AreMails home (map (λ a. plain_mail a m) actors) (to_each m actors)
each-mails home m [] = tt
each-mails home m (a ∷ actors) = (record { to = refl; packet = refl }, each-mails home m actors)

-- each other replica is asked
pub peers-mails : (home : Home) (v : NodeValue) (p : PlainNode) (m : Message) (peers : List ℕ) (told : List code_mail.Mail) → StandsForNode home v p → peers ≡ peers_in v.links →
    told ≡ map (λ a. plain_mail a m) peers → AreMails home told (to_each m (peers_of home))
peers-mails home v p m peers told h same sent =
    let all : peers ≡ peers_of home = same ∙ (finds-senders home v.links h.knows).1 in
    subst (λ (ms : List code_mail.Mail). AreMails home ms (to_each m (peers_of home))) (sym (sent ∙ ap (λ (ns : List ℕ). map (λ a. plain_mail a m) ns) all)) (each-mails home m (peers_of home))
