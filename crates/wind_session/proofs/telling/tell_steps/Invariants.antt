use Rattle.std.proofs.Common.{◌≡◌, ℕ, ◌+◌, ◌-◌, ◌≤◌}
use Rattle.board_player.specs.Seen.{board_by}
use Rattle.board_player.specs.WindMachineState.{State}
use Rattle.board_player.specs.WindMachineRun.{Answers}
use Rattle.board_player.specs.WindMachineExtending.{IsRoom}
use Rattle.wind_session.specs.Keeping.{KeepsFiles}
use Rattle.wind_session.specs.Modules.{Shelf}
use Rattle.wind_session.specs.Outside.{Outside, outside}
use Rattle.wind_session.specs.Telling.{Underway}
use Rattle.wind_session.proofs.telling.tell_steps.Given as goal

-- each run that stood at the board has gone on, and its steps were told
abbrev pub invariant-loop-made : goal.invariant-loop-made
invariant-loop-made g l =
    let state = board_by (λ d. (goal.Device-dyn g (d.vtable, d.value)).kind_of d.value) (λ d. (goal.Device-dyn g (d.vtable, d.value)).words_of d.value) in
    let shelf : Shelf = record { files = g.F.Folder.files l.fn.folder; name = l.modules } in
    let before : Outside = outside (g.F.Folder.requests l.fn.folder) (g.O.Sink.bytes l.fn.out) (g.O.Sink.pieces l.fn.out) in
    let now : Outside = outside (g.F.Folder.requests l.folder) (g.O.Sink.bytes l.out) (g.O.Sink.pieces l.out) in
    record {
      run : (said : Answers) (start : State) (n i : ℕ) (first : Outside) → i + l.most ≡ n → Underway (g.T.Teller.tells l.fn.teller) shelf said start n i (state l.fn.board) first before → (next : Answers) × Underway (g.T.Teller.tells l.teller) shelf next start n (i + l.made) (state l.board) first now;
      scope : g.T.Teller.scope l.teller ≡ g.T.Teller.scope l.fn.teller;
      ready : g.T.Teller.ready l.teller (state l.board);
      counted : (state l.board).steps ≡ (state l.fn.board).steps + l.made;
      within : l.made ≤ l.most;
      room : (time line : ℕ) → IsRoom time line (state l.fn.board) → IsRoom time line (state l.board);
      keeps : KeepsFiles g.F.Folder g.O.Sink l.fn.folder l.fn.out l.folder l.out;
    }

abbrev pub decreases-loop-made : goal.decreases-loop-made
decreases-loop-made g l = l.most - l.made
