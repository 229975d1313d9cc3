-- Messages to readers, as a node sends them and as the plain node does.
use Rattle.std.proofs.Common.{◌≡◌, ℕ, List, [], ◌∷◌, ◌++◌, ◌∙◌, map, refl, ap, append_assoc}
use Rattle.dpc_lists.specs.Lists.{nth}
use Rattle.dpc_model.specs.declared.messages.Message.{Message}
use Rattle.node_model.specs.Mails.{Mail, to_readers}
use Rattle.node_model.specs.Nodes.{Home}
use Rattle.node_core.specs.declared.packets.Mail as code_mail
use Rattle.node_core.specs.Standing.{AreMails}
use Rattle.node_core.specs.Stepping.{plain_mail}

-- mails to readers stand for the plain ones
pub readers-mails : (home : Home) (readers : List ℕ) (ms : List (ℕ × Message)) → AreMails home (map (λ (m : ℕ × Message). plain_mail (nth 0 readers m.0) m.1) ms) (to_readers readers ms)
readers-mails home readers [] = tt
readers-mails home readers (m ∷ ms) = (record { to = refl; packet = refl }, readers-mails home readers ms)

-- one message more is sent
pub readers-more : (readers : List ℕ) (mails : List code_mail.Mail) (one : code_mail.Mail) (m : ℕ × Message) (rest : List (ℕ × Message)) → one ≡ plain_mail (nth 0 readers m.0) m.1 →
    (mails ++ one ∷ []) ++ map (λ (m : ℕ × Message). plain_mail (nth 0 readers m.0) m.1) rest ≡ mails ++ map (λ (m : ℕ × Message). plain_mail (nth 0 readers m.0) m.1) (m ∷ rest)
readers-more readers mails one m rest e =
    let f = λ (m : ℕ × Message). plain_mail (nth 0 readers m.0) m.1 in
    append_assoc mails (one ∷ []) (map f rest) ∙ ap (λ (o : code_mail.Mail). mails ++ (o ∷ map f rest)) e

-- mails that stand for plain ones, one list behind another
pub mails-append : (home : Home) (xs ys : List code_mail.Mail) (ps qs : List Mail) → AreMails home xs ps → AreMails home ys qs → AreMails home (xs ++ ys) (ps ++ qs)
mails-append home [] ys [] qs h k = k
mails-append home [] ys (p ∷ ps) qs h k = absurd h
mails-append home (x ∷ xs) ys [] qs h k = absurd h
mails-append home (x ∷ xs) ys (p ∷ ps) qs h k = (h.0, mails-append home xs ys ps qs h.1 k)
