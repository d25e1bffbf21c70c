use Rattle.std.proofs.Common.{◌≡◌, ◌+◌, ◌-◌, ◌≤◌, []}
use Rattle.kept_files.specs.Kept.{Grows, IsTrue, kept_of}
use Rattle.board_player.specs.Seen.{board_by}
use Rattle.wind_session.specs.Keeping.{KeepsFolder}
use Rattle.again.specs.Reaching.{GoesOn}
use Rattle.again.proofs.going.go.Given as goal

-- each run that stood at the board has gone on, and wrote nothing
abbrev pub invariant-loop-made : goal.invariant-loop-made
invariant-loop-made g l =
    let state = board_by (λ d. (goal.Device-dyn g (d.vtable, d.value)).kind_of d.value) (λ d. (goal.Device-dyn g (d.vtable, d.value)).words_of d.value) in
    record {
      on : GoesOn l.modules (kept_of l.fn.kept) (kept_of l.kept) l.made (state l.fn.board) (state l.board) [];
      counted : (state l.board).steps ≡ (state l.fn.board).steps + l.made;
      within : l.made ≤ l.most;
      grows : Grows (kept_of l.fn.kept) (kept_of l.kept);
      truth : IsTrue (g.F.Folder.files l.fn.folder) (kept_of l.fn.kept) → IsTrue (g.F.Folder.files l.folder) (kept_of l.kept);
      keeps : KeepsFolder (g.F.Folder.files l.fn.folder) (g.F.Folder.files l.folder) (g.F.Folder.faults l.fn.folder) (g.F.Folder.faults l.folder);
    }

abbrev pub decreases-loop-made : goal.decreases-loop-made
decreases-loop-made g l = l.most - l.made
