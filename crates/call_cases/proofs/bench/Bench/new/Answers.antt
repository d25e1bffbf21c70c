use Rattle.call_cases.proofs.Benches.{used_alarm}
use Rattle.call_cases.proofs.bench.Bench.new.Goals as goal

pub invariant_of-result : goal.invariant_of-result
invariant_of-result g c =
    used_alarm _ _ _ _ c.in_ok-watch.watch c.in-Ok.ensures.ok c.in_ok-watch.ensures.watch c.in_ok-watch.ensures.none c.in_ok-watch.ensures.starts c.in_ok-watch.ensures.link
