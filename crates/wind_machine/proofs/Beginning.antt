-- The opening state has the invariant.
use Rattle.std.proofs.Common.{◌≡◌, ◌≤◌, [], Some, IsSome, refl, arith}
use Rattle.std.proofs.lemmas.List.Elements.{All-cons, All-nil}
use Rattle.task_block.specs.declared.task.Task.{Task}
use Rattle.wind_core.specs.Moves.{new_task}
use Rattle.wind_base.specs.declared.profile.Profile.{Profile}
use Rattle.wind_base.specs.declared.profile.Profile.TheVariants.{One, Two}
use Rattle.inheritance.specs.Mutexes.{both as with_mutexes}
use Rattle.inheritance.specs.Reach.{lifted, IsExact}
use Rattle.live_loading.specs.KernelWorldObjects.{no_objects}
use Rattle.con_line.proofs.Kept.{start_keeps}
use Rattle.live_loading.specs.KernelWorldOpening.{shell_record, opening_kern, opening_world}
use Rattle.live_loading.specs.KernelWorldKept.{HasCounts}
use Rattle.live_loading.proofs.KernelWorldOpened.{opens}
use Rattle.wind_machine.specs.Laws.{StartLaw}
use Rattle.wind_machine.specs.Machine.{opening}

first_task : Task
first_task = new_task 1 0 shell_record

-- nobody ran last, and nobody has a reservation
abbrev Unreserved : Task → Type 0
Unreserved t = IsSome t.regs.reserve → opening_kern.last ≡ Some t.id

-- the shell's task has its normal priority, and owns nothing
exact-opening : (profile : Profile) → IsExact (with_mutexes opening_kern (no_objects profile).mutexes)
unfolding first_task
exact-opening One = All-cons (λ t. t.pri ≡ lifted One opening_kern [] t.id) first_task [] refl (All-nil (λ t. t.pri ≡ lifted One opening_kern [] t.id))
exact-opening Two = All-cons (λ t. t.pri ≡ lifted Two opening_kern [] t.id) first_task [] refl (All-nil (λ t. t.pri ≡ lifted Two opening_kern [] t.id))

pub begins : StartLaw
unfolding opening opening_world first_task
begins console schedule slots profile board = record {
  kept = record {
    console = start_keeps;
    read = λ e. absurd (cc);
    world = opens slots profile board;
    shell = refl;
    reserved = All-cons Unreserved first_task [] (λ some. absurd (cc)) (All-nil Unreserved);
    sinces = omega arith;
    ticks = omega arith;
    within = (All-cons (HasCounts 0) first_task [] (omega arith, omega arith) (All-nil (HasCounts 0)), All-nil (λ r. r.1.depth ≤ 0));
    names = omega arith;
    starts = omega arith;
    time = omega arith;
  };
  exact = exact-opening profile;
}
