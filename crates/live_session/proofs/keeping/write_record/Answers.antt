use Rattle.std.proofs.Common.{◌≡◌, rules, sym}
use Rattle.live_session.specs.Ending.{is_quiet}
use Rattle.live_session.specs.Saving.{replay_limit}
use Rattle.live_session.proofs.keeping.write_record.Goals as goal

pub returns-clause-parts : goal.returns-clause-parts
returns-clause-parts g c =
    let same : c.replay_limit-limit.result ≡ replay_limit c.args.live.now.board.parts.clock.steps (is_quiet c.args.end) = search rules in
    rw (sym same) c.write_files.ensures.parts
