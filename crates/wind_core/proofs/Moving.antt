-- Every move of the kernel keeps its invariant, and so does every list of moves.
use Rattle.std.proofs.Common.{List, [], ◌∷◌, refl, ap, arith}
use Rattle.wind_core.specs.State.{KernState, IsKern}
use Rattle.wind_core.specs.Moves.{wake_at, pended, delayed, suspended, unmarked, with_setting}
use Rattle.wind_core.specs.Orders.{waiters}
use Rattle.wind_core.specs.Move.{Move, Spawn, Remove, Pend, Delay, Release, ReleaseAll, EndWait, WakeAll, Tick, Suspend, Resume, ChangePri, Reset, Set, SetRegs, SetLast, SetSlice, DrawIds, Lend, apply, IsAllowed, after, EachMove}
use Rattle.wind_core.specs.Laws.{KeptLaw, SeriesLaw}
use Rattle.wind_core.proofs.Writes.{wake_ahead, delayed_id, delayed_ahead}
use Rattle.wind_core.proofs.Comings.{without_keeps}
use Rattle.wind_core.proofs.Mending.{setting_stays}
use Rattle.wind_core.proofs.Keeping.{renew_task_keeps, end_wait_keeps, release_keeps, end_waits_keep, resume_keeps, change_pri_keeps, spawn_keeps, writes, counters_keep}
use Rattle.wind_core.proofs.Releasing.{releases_keep}
use Rattle.wind_core.proofs.Ticking.{tick_keeps}

pub move_keeps : KeptLaw
move_keeps k (Spawn n) is may = spawn_keeps k n is may
move_keeps k (Remove who) is may = without_keeps k who is
move_keeps k (Pend who place fifo n) is may = renew_task_keeps k who (pended place fifo (wake_at place.side k.tick n)) is (λ t. refl) (λ t h. wake_ahead place.side k.tick n may)
move_keeps k (Delay who n) is may = renew_task_keeps k who (delayed k.tick n) is (delayed_id k.tick n) (delayed_ahead k.tick n)
move_keeps k (Release who) is may = release_keeps k who is
move_keeps k (ReleaseAll place) is may = releases_keep k (waiters k.tasks place) is
move_keeps k (EndWait who value errno) is may = end_wait_keeps k who value errno is
move_keeps k (WakeAll place value errno) is may = end_waits_keep k (waiters k.tasks place) value errno is
move_keeps k Tick is may = tick_keeps k is
move_keeps k (Suspend who) is may = writes k who suspended is (λ t. refl) (λ t. refl) (λ t. refl)
move_keeps k (Resume who) is may = resume_keeps k who is
move_keeps k (ChangePri who pri) is may = change_pri_keeps k who pri is
move_keeps k (Reset who) is may = renew_task_keeps k who unmarked is (λ t. refl) (λ t h. h)
move_keeps k (Set who change) is may =
    let stays = setting_stays change in
    writes k who (with_setting change) is (λ t. ap (λ s. s.0) (stays t)) (λ t. ap (λ s. s.2) (stays t)) (λ t. ap (λ s. s.5) (stays t))
move_keeps k (SetRegs who regs) is may = writes k who (λ t. record t { regs = regs }) is (λ t. refl) (λ t. refl) (λ t. refl)
move_keeps k (SetLast last) is may = counters_keep k k.next_id k.slice k.lent last is (omega arith) is.last_id
move_keeps k (SetSlice n) is may = counters_keep k k.next_id n k.lent k.last is (omega arith) is.last_id
move_keeps k (DrawIds next) is may = counters_keep k next k.slice k.lent k.last is may.0 may.1
move_keeps k (Lend on) is may = counters_keep k k.next_id k.slice on k.last is (omega arith) is.last_id

-- ---- several moves
-- what each move with a property keeps, a list of such moves keeps
module _ (K : KernState → Type 0) (P : KernState → Move → Type 0) (keeps : (k : KernState) (m : Move) → K k → P k m → K (apply k m)) where
  pub series_keeps : (k : KernState) (ms : List Move) → K k → EachMove P k ms → K (after k ms)
  series_keeps k [] kept each = kept
  series_keeps k (m ∷ ms) kept each = series_keeps (apply k m) ms (keeps k m kept each.0) each.1

pub moves_keep : SeriesLaw
moves_keep k ms is each = series_keeps IsKern IsAllowed move_keeps k ms is each
