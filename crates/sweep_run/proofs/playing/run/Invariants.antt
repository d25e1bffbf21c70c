use Rattle.std.proofs.Common.{◌≤◌, ◌-◌}
use Rattle.kept_files.specs.Fetching.{asked_of}
use Rattle.kept_files.specs.Kept.{kept_of}
use Rattle.wind_session.specs.BoardPlayerSeen.{board_by}
use Rattle.again.specs.Reaching.{IsAt}
use Rattle.sweep_run.specs.Fetches.{Fetches}
use Rattle.sweep_run.proofs.playing.run.Given as goal

-- the board is where its steps led, and they wrote the text
abbrev pub invariant-loop-alloc : goal.invariant-loop-alloc
invariant-loop-alloc g l =
    let state = board_by (λ d. (goal.Device-dyn g (d.vtable, d.value)).kind_of d.value) (λ d. (goal.Device-dyn g (d.vtable, d.value)).words_of d.value) in
    record {
      at : IsAt l.start.modules.now (kept_of l.kept) (state l.fn.board) (state l.board).steps (state l.board) l.console.items;
      within : (state l.board).steps ≤ l.start.limit;
      fetches : Fetches (asked_of g.F.Folder l.fn.folder) (asked_of g.F.Folder l.folder) (kept_of l.fn.kept) (kept_of l.kept);
    }

abbrev pub decreases-loop-alloc : goal.decreases-loop-alloc
decreases-loop-alloc g l =
    let state = board_by (λ d. (goal.Device-dyn g (d.vtable, d.value)).kind_of d.value) (λ d. (goal.Device-dyn g (d.vtable, d.value)).words_of d.value) in
    l.start.limit - (state l.board).steps
