-- Who inherits at once under profile 1: the owners on one task's path.
use Rattle.std.proofs.Common.{◌≡◌, ℕ, not, refl, sym, ap, ◌∙◌}
use Rattle.wind_base.specs.declared.profile.Profile.TheVariants.{One}
use Rattle.task_block.specs.declared.task.Task.{Task}
use Rattle.wind_core.specs.State.{Lives}
use Rattle.wind_core.specs.Moves.{renewed, pended, wake_at}
use Rattle.wind_core.proofs.Ids.{ids-change, lives_by}
use Rattle.inheritance.specs.Mutexes.{MutexState, mutex_place}
use Rattle.inheritance.specs.Reach.{pri_of, raised_kern}
use Rattle.inheritance.specs.Laws.{OwnersUrgentBut}
use Rattle.inheritance.proofs.Joined.{heirs_law}
use Rattle.sem_mutex.specs.Calls.{at_once, raised_at_once, await, after_take, priority_alone}
use Rattle.sem_mutex.specs.Laws.{OnlyHeirsRise, WaitingLaw, SettingLaw}
use Rattle.sem_mutex.proofs.Handing.{await_urgent}
use Rattle.sem_mutex.proofs.Ending.{priority_urgent}
use Rattle.sem_mutex.proofs.Answering.{reprices}

-- raising at once is raising
rise : (s : MutexState) (w : ℕ) → s.profile ≡ One → OwnersUrgentBut w s.mutexes s.kern.tasks → Lives s.kern w → OnlyHeirsRise s (raised_at_once s) w
rise s w first urgent lives x there =
    ap (λ p. pri_of (at_once p s.kern s.mutexes).tasks x) first
    ∙ sym (ap (λ p. pri_of (raised_kern p s.kern s.mutexes).tasks x) first)
    ∙ heirs_law s w x first urgent lives there

pub waiting_law : WaitingLaw
waiting_law s who id n m first kept lives same x there =
    let t : MutexState = await s who id n m in
    let begins : Task → Task = λ u. renewed s.kern.next_since (pended (mutex_place id) (not m.by_priority) (wake_at 0 s.kern.tick n) u) in
    ap (λ d. pri_of (raised_at_once (after_take s who id n d)).kern.tasks x) same
    ∙ rise t who first (await_urgent s who id n m first kept) (lives_by t.kern.tasks s.kern.tasks who (ids-change s.kern.tasks who begins (λ u. refl)) lives) x there

pub setting_law : SettingLaw
setting_law s who pri first is kept lives =
    let t : MutexState = priority_alone s who pri in
    rise t who first (priority_urgent s who pri first is kept) (reprices s t who pri is lives kept refl).lives
