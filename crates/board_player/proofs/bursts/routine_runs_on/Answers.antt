use Rattle.std.proofs.Common.{length, ◌≡◌, sym, ◌∙◌, arith}
use Rattle.std.proofs.lemmas.Bool.Decides.{nat_tests}
use Rattle.std.proofs.lemmas.List.{nil_from_length}
use Rattle.board_player.proofs.RoutineBursts.{routine_alone}
use Rattle.board_player.proofs.bursts.routine_runs_on.Goals as goal

pub returns : goal.returns
returns g c = λ quiet.
    let none : length c.bytes.result.now ≡ 0 = grind (arith, nat_tests) in
    record {
      active = c.requires.active;
      alone = routine_alone _ c.requires.none;
      silent = sym c.bytes.ensures ∙ nil_from_length c.bytes.result.now none;
    }
