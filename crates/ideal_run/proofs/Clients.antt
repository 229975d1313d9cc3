-- The clients' texts, one after another.
use Rattle.std.proofs.Common.{◌≡◌, ℕ, ◌+◌, ◌<◌, List, ◌++◌, length, take, get_or, sym, subst}
use Rattle.dpc_edge.specs.Edges.{Edge}
use Rattle.dpc_model.specs.declared.plans.ClientSpec.{ClientSpec}
use Rattle.dpc_model.specs.declared.plans.Plan.{Plan}
use Rattle.report.specs.Text.{ideal_text}
use Rattle.ideal_run.specs.Buckets.{client_text, IsUnderWay, Stopped}
use Rattle.ideal_run.specs.declared.faults.WriteFault.{WriteFault}
use Rattle.ideal_run.proofs.Texts.{clients_text, clients-more, clients-some}
use Rattle.ideal_run.proofs.Ways.{way-more, way-on, stop-behind, stop-longer}

-- one client more
pub client-next : (plan : Plan) (i : ℕ) (c : ClientSpec) (a b d : Edge) (held rest : List ℕ) → i < length plan.clients → c ≡ get_or plan.clients i c →
    IsUnderWay a b (clients_text plan (take i plan.clients)) held → IsUnderWay b d (held ++ client_text plan c) rest → IsUnderWay a d (clients_text plan (take (i + 1) plan.clients)) rest
client-next plan i c a b d held rest low at way more =
    way-on a b d (clients_text plan (take (i + 1) plan.clients)) (held ++ client_text plan c) rest
    (subst (λ (xs : List ℕ). IsUnderWay a b xs (held ++ client_text plan c)) (clients-more plan i c low at) (way-more a b (clients_text plan (take i plan.clients)) held (client_text plan c) way))
    more

-- where it stops, a beginning of the whole text stands
stop-some : (plan : Plan) (i : ℕ) (why : WriteFault) (a b : Edge) → Stopped why a b (clients_text plan (take i plan.clients)) → Stopped why a b (ideal_text plan)
stop-some plan i why a b h =
    let some = clients-some plan i in subst (λ (xs : List ℕ). Stopped why a b xs) (sym some.1) (stop-longer why a b (clients_text plan (take i plan.clients)) some.0 h)

pub last-stop : (plan : Plan) (i : ℕ) (why : WriteFault) (a b d : Edge) (held : List ℕ) → IsUnderWay a b (clients_text plan (take i plan.clients)) held → Stopped why b d held →
    Stopped why a d (ideal_text plan)
last-stop plan i why a b d held way h =
    stop-some plan i why a d (subst (λ (xs : List ℕ). Stopped why a d xs) (sym way.split) (stop-behind why a b d way.gone held way.took h))

pub client-stop : (plan : Plan) (i : ℕ) (c : ClientSpec) (why : WriteFault) (a b d : Edge) (held : List ℕ) → i < length plan.clients → c ≡ get_or plan.clients i c →
    IsUnderWay a b (clients_text plan (take i plan.clients)) held → Stopped why b d (held ++ client_text plan c) → Stopped why a d (ideal_text plan)
client-stop plan i c why a b d held low at way h =
    last-stop plan (i + 1) why a b d (held ++ client_text plan c)
    (subst (λ (xs : List ℕ). IsUnderWay a b xs (held ++ client_text plan c)) (clients-more plan i c low at) (way-more a b (clients_text plan (take i plan.clients)) held (client_text plan c) way))
    h
