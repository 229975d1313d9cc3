use Rattle.std.proofs.Common.{arith, sym}
use Rattle.dpc_model.proofs.Numbers.{source-role, node-role, client-role, nobody-role}
use Rattle.dpc_model.proofs.actors.role_of.Goals as goal

pub returns-then-actor-sources : goal.returns-then-actor-sources
returns-then-actor-sources c =
    let many = c.len-sources.ensures in
    let less = c.if-actor-sources.true in
    sym (source-role c.args.plan.now c.args.actor (omega (arith, many, less)))

pub returns-in-Ok : goal.returns-in-Ok
returns-in-Ok c =
    let many = c.len-sources.ensures in
    let past = c.if-actor-sources.false in
    sym (node-role c.args.plan.now c.args.actor (c.in-Ok.frag, c.in-Ok.replica) (omega (arith, many, past))
    (rw (← c.as_slice.ensures, ← many) c.in-Ok.ensures.found))

pub returns-then-past-len : goal.returns-then-past-len
returns-then-past-len c =
    let many = c.len-sources.ensures in
    let past = c.if-actor-sources.false in
    let less = c.if-past-len.true in
    let clients = c.len.ensures in
    sym (client-role c.args.plan.now c.args.actor c.in-Err.past (omega (arith, many, past))
    (rw (← c.as_slice.ensures, ← many) c.in-Err.ensures.past) (omega (arith, less, clients)))

pub returns-else-past-len : goal.returns-else-past-len
returns-else-past-len c =
    let many = c.len-sources.ensures in
    let past = c.if-actor-sources.false in
    let less = c.if-past-len.false in
    let clients = c.len.ensures in
    sym (nobody-role c.args.plan.now c.args.actor c.in-Err.past (omega (arith, many, past))
    (rw (← c.as_slice.ensures, ← many) c.in-Err.ensures.past) (omega (arith, less, clients)))
