use Rattle.std.proofs.Common.{rules}
use Rattle.live_session.specs.Words.{command_state}
use Rattle.live_session.proofs.Scenes.{saved_in_part}
use Rattle.live_session.proofs.saving.save.Goals as goal

pub returns-clause-parts : goal.returns-clause-parts
returns-clause-parts g c =
    let files = g.D.RecordFolder.files in
    saved_in_part c.write-3.result (command_state c.args.target.command.now) c.args.record.now.console.bytes c.args.record.now.ticks.bytes c.args.limit
    (files c.args.records.now) (files c.write.new.records) (files c.write-2.new.records) (files c.write-3.new.records)
    (search rules) (search rules) (search rules) (search rules)
