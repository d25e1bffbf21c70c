-- Messages are conserved along every run of the machine.
use Rattle.std.proofs.Common.{◌≡◌, ℕ, List, [], Option, refl}
use Rattle.wind_base.specs.declared.board_kind.BoardKind.{BoardKind}
use Rattle.wind_base.specs.declared.profile.Profile.{Profile}
use Rattle.wind_outside.specs.Devices.{DeviceState}
use Rattle.tick_file.specs.Schedule.{timetable_of}
use Rattle.msg_queue.specs.Laws.{IsRun}
use Rattle.msg_queue.proofs.Running.{run_conserved}
use Rattle.kernel_world.specs.Opening.{opening_world}
use Rattle.kernel_world.proofs.Apart.{queue_ids}
use Rattle.wind_machine.specs.State.{State}
use Rattle.wind_machine.specs.Good.{Good}
use Rattle.wind_machine.specs.Machine.{opening}
use Rattle.wind_machine.specs.Run.{Answers, after}
use Rattle.wind_machine.specs.LiveLoadingLaws.{AloneLaw}
use Rattle.wind_machine.specs.Laws.{RunLaw}
use Rattle.wind_messages.specs.Messages.{step_accepts, step_takes}
use Rattle.wind_messages.specs.Laws.{ConservationLaw}
use Rattle.wind_messages.proofs.Rows.{stock_in}
use Rattle.wind_messages.proofs.Steps.{step_goes}

-- in the opening state there is no queue
none_yet : (console ticks : List ℕ) (slots : List (Option DeviceState)) (profile : Profile) (board : BoardKind) → (stock_in (opening console (timetable_of ticks) slots profile board).world).queues ≡ []
unfolding opening opening_world
none_yet console ticks slots profile board = refl

-- a run that begins without queues, with the invariant at each state
runs : AloneLaw → (said : Answers) (s : State) → (stock_in s.world).queues ≡ [] → ((k : ℕ) → Good (after said s k))
    → IsRun (λ k. stock_in (after said s k).world) (λ k. step_accepts (after said s k)) (λ k. step_takes (after said s k))
runs law said s none good = record {
  none = none;
  below = λ k. queue_ids (after said s k).world.kern (after said s k).world.objects (good k).kept.world.objects;
  balanced = λ k. step_goes (after said s k) (good k) law (said k);
}

pub conserved : AloneLaw → RunLaw → ConservationLaw
conserved alone law said console ticks slots profile board k q y here =
    let s : State = opening console (timetable_of ticks) slots profile board in
    run_conserved (λ j. stock_in (after said s j).world) (λ j. step_accepts (after said s j)) (λ j. step_takes (after said s j))
    (runs alone said s (none_yet console ticks slots profile board) (λ j. (law said console ticks slots (record { profile = profile; board = board }) j).kept)) k q y here
