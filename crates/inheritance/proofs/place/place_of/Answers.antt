use Rattle.std.proofs.Common.{◌≡◌, ℕ, ◌+◌, ◌-◌, ◌/◌, ◌<◌, subst, arith}
use Rattle.std.proofs.Math.Nat.{mul-div-le}
use Rattle.inheritance.proofs.Places.{Below, Above, below_more, above_more, found_place_of}
use Rattle.inheritance.proofs.place.place_of.Goals as goal

-- the middle is below the end
half_below : (low high : ℕ) → low < high → low + (high - low) / 2 < high
half_below low high below = let half = mul-div-le (high - low) 2 in omega arith

pub loop-low-preserved-then-get-number : goal.loop-low-preserved-then-get-number
loop-low-preserved-then-get-number c =
    let low = c.loop-low.low in
    let half = half_below low c.loop-low.high c.loop-low-test.true in
    let within = c.loop-low.invariant.within in
    record {
      ordered = omega arith;
      within = within;
      below = below_more c.args.k.now.tasks c.get-number.result (low + (c.loop-low.high - low) / 2) c.task_at.result.now c.facts.ensures.rising (omega arith) c.task_at.ensures
          (omega (arith, c.if-get-number.true, c.get.ensures.same));
      above = c.loop-low.invariant.above;
    }

pub loop-low-preserved : goal.loop-low-preserved
loop-low-preserved c =
    let low = c.loop-low.low in
    let half = half_below low c.loop-low.high c.loop-low-test.true in
    let within = c.loop-low.invariant.within in
    record {
      ordered = omega arith;
      within = omega arith;
      below = c.loop-low.invariant.below;
      above = above_more c.args.k.now.tasks c.get-number.result (low + (c.loop-low.high - low) / 2) c.task_at.result.now c.facts.ensures.rising (omega arith) c.task_at.ensures
          (omega (arith, c.if-get-number.false, c.get.ensures.same));
    }

pub returns : goal.returns
returns c =
    let ts = c.args.k.now.tasks in
    let low = c.loop-low.low in
    let met : c.loop-low.high ≡ low = omega (arith, c.loop-low.invariant.ordered, c.loop-low-test.false) in
    found_place_of ts c.args.who low c.facts.ensures.rising c.requires
    (subst (λ n. Below ts n low) c.get-number.ensures.same c.loop-low.invariant.below)
    (subst (λ n. Above ts n low) c.get-number.ensures.same (subst (λ h. Above ts c.get-number.result h) met c.loop-low.invariant.above))
