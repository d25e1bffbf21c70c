use Rattle.std.proofs.Common.{sym}
use Rattle.wait_order.specs.Inside.{waiters_in}
use Rattle.wait_order.proofs.Firsts.{firsts_stay, firsts_change}
use Rattle.wait_order.proofs.runs.come.Goals as goal

pub returns-then-first_stays-clause-fronts : goal.returns-then-first_stays-clause-fronts
returns-then-first_stays-clause-fronts c =
    let kept = c.requires.kept in
    firsts_stay (waiters_in c.args.waiters.now.chains) c.args.fronts.now.items c.args.waiter.now kept.order kept.ahead (sym c.if-first_stays.ensures)

pub returns-clause-fronts : goal.returns-clause-fronts
returns-clause-fronts c =
    let kept = c.requires.kept in
    firsts_change (waiters_in c.args.waiters.now.chains) c.args.fronts.now.items c.put.new.fronts.items c.args.waiter.now kept.order kept.ahead (sym c.if-first_stays.ensures) c.put.ensures.put
