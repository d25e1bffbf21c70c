use Rattle.std.proofs.Common.{◌≡◌, ℕ, ◌+◌, ◌-◌, List, sym, ap, ◌∙◌, arith}
use Rattle.wind_base.specs.declared.profile.Profile.TheVariants.{One}
use Rattle.wind_core.specs.State.{KernState, IsKern, Lives}
use Rattle.inheritance.specs.declared.mutex.Mutex.{Mutex}
use Rattle.inheritance.specs.Reach.{pri_of, raised_kern}
use Rattle.inheritance.specs.Laws.{OwnersUrgentBut}
use Rattle.inheritance.proofs.Raising.{since-change_pri}
use Rattle.inheritance.proofs.Path.{walked, walk_ends, walk_goes_on, walk_raises}
use Rattle.inheritance.proofs.heirs.inherit.Goals as goal

all : (k r : KernState) (ms : List (ℕ × Mutex)) (p who : ℕ) → IsKern k → Lives k who → OwnersUrgentBut who ms k.tasks → p ≡ pri_of k.tasks who → walked ms p 256 k who ≡ r → r ≡ raised_kern One k ms
all k r ms p who is lives urgent own e = sym e ∙ ap (λ q. walked ms q 256 k who) own ∙ walk_raises k ms who is lives urgent

pub returns-in_default : goal.returns-in_default
returns-in_default c =
    all c.args.k.now c.loop-step.k c.args.mutexes.now.rows c.priority-pri.result c.args.who c.facts.ensures c.requires.live c.requires.urgent c.priority-pri.ensures
    (sym c.loop-step.invariant.same
    ∙ walk_ends c.args.mutexes.now.rows c.priority-pri.result 256 c.loop-step.step c.loop-step.k c.loop-step.at c.loop-step-test.true (sym c.in_default.ensures))

pub loop-step-preserved : goal.loop-step-preserved
loop-step-preserved c =
    let ms = c.args.mutexes.now.rows in
    let p = c.priority-pri.result in
    record {
      same = ap (λ r. walked ms p (256 - (c.loop-step.step + 1)) r c.in-Some.owner) c.change_pri.ensures
          ∙ sym (walk_goes_on ms p 256 c.loop-step.step c.loop-step.k c.loop-step.at c.in-Some.owner c.loop-step-test.true (sym c.in-Some.ensures))
          ∙ c.loop-step.invariant.same;
      room = omega (arith, ap (λ r. r.next_since) c.change_pri.ensures, since-change_pri c.loop-step.k c.in-Some.owner p, c.loop-step.invariant.room);
    }

pub returns : goal.returns
returns c =
    let ms = c.args.mutexes.now.rows in
    let p = c.priority-pri.result in
    let done : 256 - c.loop-step.step ≡ 0 = omega arith in
    all c.args.k.now c.loop-step.k ms p c.args.who c.facts.ensures c.requires.live c.requires.urgent c.priority-pri.ensures
    (sym c.loop-step.invariant.same ∙ ap (λ m. walked ms p m c.loop-step.k c.loop-step.at) done)
