use Rattle.std.proofs.Common.{rules, ◌≡◌, ◌+◌, ◌≤◌, List, [], ◌∙◌, refl, sym, ap, subst, arith}
use Rattle.std.specs.Prelude.{ℕ}
use Rattle.std.proofs.lemmas.List.{nil_from_length}
use Rattle.kept_files.specs.Kept.{kept_of}
use Rattle.kept_files.proofs.Keeping.{grows_both, grows_same}
use Rattle.board_player.specs.WindMachineState.{State}
use Rattle.wind_session.proofs.Continuing.{burst_counted}
use Rattle.again.specs.Reaching.{GoesOn}
use Rattle.again.proofs.Stepping.{both, kept_more, none_made, silent_on, to_same, wrote_none}
use Rattle.again.proofs.going.go.Goals as goal

pub loop-made-init : goal.loop-made-init
loop-made-init g c = record {
  on = none_made c.args.modules.now (kept_of c.args.kept.now) _ _ refl;
  counted = omega arith;
  within = omega arith;
  grows = grows_same _ _ refl;
  truth = λ h. h;
  keeps = (refl, omega arith);
}

-- a burst and a step were made, and the step wrote nothing
pub loop-made-preserved : goal.loop-made-preserved
loop-made-preserved g c =
    let i = c.loop-made.invariant in
    let modules = c.args.modules.now in
    let old = kept_of c.args.kept.now in
    let mid = kept_of c.loop-made.kept in
    let new = kept_of c.step.new.kept in
    let silent = silent_on modules mid c.burst-made.result _ _ c.burst-made.ensures.made in
    let burst = burst_counted c.silent_law.ensures _ _ c.burst-made.result c.burst-made.ensures.made in
    let moved = both modules old mid mid c.loop-made.made c.burst-made.result _ _ _ [] [] i.on silent in
    let none : c.step.new.board.parts.world.out.bytes ≡ [] = sym c.output.ensures ∙ nil_from_length c.output.result.now (search rules) in
    record {
      on = both modules old mid new (c.loop-made.made + c.burst-made.result) 1 _ _ _ [] [] moved (wrote_none modules mid new 1 _ _ none c.in-Ok.ensures.made);
      counted = omega (arith, c.in-Ok.ensures.counted, burst, i.counted);
      within = omega (arith, c.burst-made.ensures.within, c.if-made-most.false);
      grows = grows_both _ _ _ i.grows c.in-Ok.ensures.grows;
      truth = λ h. c.in-Ok.ensures.truth (i.truth h);
      keeps = (c.in-Ok.ensures.keeps.0 ∙ i.keeps.0, omega (arith, c.in-Ok.ensures.keeps.1, i.keeps.1));
    }

pub step-requires : goal.step-requires
step-requires g c = omega (arith, burst_counted c.silent_law.ensures _ _ c.burst-made.result c.burst-made.ensures.made, c.loop-made.invariant.counted, c.requires, c.burst-made.ensures.within, c.if-made-most.false)

-- as many as asked were made by a burst
pub returns-then-made-most-clause-all : goal.returns-then-made-most-clause-all
returns-then-made-most-clause-all g c = λ e. omega (arith, burst_counted c.silent_law.ensures _ _ c.burst-made.result c.burst-made.ensures.made, c.loop-made.invariant.counted, c.if-made-most.true)

pub returns-then-made-most-clause-made : goal.returns-then-made-most-clause-made
returns-then-made-most-clause-made g c =
    let i = c.loop-made.invariant in
    let modules = c.args.modules.now in
    let old = kept_of c.args.kept.now in
    let mid = kept_of c.loop-made.kept in
    let silent = silent_on modules mid c.burst-made.result _ _ c.burst-made.ensures.made in
    let burst = burst_counted c.silent_law.ensures _ _ c.burst-made.result c.burst-made.ensures.made in
    record {
      n = c.loop-made.made + c.burst-made.result;
      within = omega (arith, c.burst-made.ensures.within, i.within);
      counted = omega (arith, burst, i.counted);
      made = both modules old mid mid c.loop-made.made c.burst-made.result _ _ _ [] [] i.on silent;
    }

-- no further step was made
pub returns-in-Err-clause-made : goal.returns-in-Err-clause-made
returns-in-Err-clause-made g c =
    let i = c.loop-made.invariant in
    let modules = c.args.modules.now in
    let old = kept_of c.args.kept.now in
    let mid = kept_of c.loop-made.kept in
    let new = kept_of c.step.new.kept in
    let silent = silent_on modules mid c.burst-made.result _ _ c.burst-made.ensures.made in
    let burst = burst_counted c.silent_law.ensures _ _ c.burst-made.result c.burst-made.ensures.made in
    let moved = both modules old mid mid c.loop-made.made c.burst-made.result _ _ _ [] [] i.on silent in
    record {
      n = c.loop-made.made + c.burst-made.result;
      within = omega (arith, c.burst-made.ensures.within, i.within);
      counted = omega (arith, ap (λ (v : State). v.steps) c.in-Err.ensures.unchanged, burst, i.counted);
      made = to_same modules old new (c.loop-made.made + c.burst-made.result) _ _ _ [] c.in-Err.ensures.unchanged (kept_more modules old mid new (c.loop-made.made + c.burst-made.result) _ _ [] c.in-Err.ensures.grows moved);
    }

pub returns-in-Err-clause-fewer : goal.returns-in-Err-clause-fewer
returns-in-Err-clause-fewer g c = λ end e.
    omega (arith, ap (λ (v : State). v.steps) c.in-Err.ensures.unchanged, burst_counted c.silent_law.ensures _ _ c.burst-made.result c.burst-made.ensures.made, c.loop-made.invariant.counted, c.loop-made.invariant.within, c.burst-made.ensures.within, c.if-made-most.false)

-- the last step wrote something
pub returns-then-not-is_empty-clause-made : goal.returns-then-not-is_empty-clause-made
returns-then-not-is_empty-clause-made g c =
    let i = c.loop-made.invariant in
    let modules = c.args.modules.now in
    let old = kept_of c.args.kept.now in
    let mid = kept_of c.loop-made.kept in
    let new = kept_of c.step.new.kept in
    let silent = silent_on modules mid c.burst-made.result _ _ c.burst-made.ensures.made in
    let burst = burst_counted c.silent_law.ensures _ _ c.burst-made.result c.burst-made.ensures.made in
    let moved = both modules old mid mid c.loop-made.made c.burst-made.result _ _ _ [] [] i.on silent in
    record {
      n = c.loop-made.made + c.burst-made.result + 1;
      within = omega (arith, c.burst-made.ensures.within, c.if-made-most.false);
      counted = omega (arith, c.in-Ok.ensures.counted, burst, i.counted);
      made = both modules old mid new (c.loop-made.made + c.burst-made.result) 1 _ _ _ [] _ moved c.in-Ok.ensures.made;
    }

pub returns-then-not-is_empty-clause-further : goal.returns-then-not-is_empty-clause-further
returns-then-not-is_empty-clause-further g c = λ e.
    omega (arith, c.in-Ok.ensures.counted, burst_counted c.silent_law.ensures _ _ c.burst-made.result c.burst-made.ensures.made, c.loop-made.invariant.counted)
