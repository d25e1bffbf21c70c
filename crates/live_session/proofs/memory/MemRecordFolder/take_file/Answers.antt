use Rattle.std.proofs.Common.{◌≡◌, false, arith}
use Rattle.std.specs.Str.{bytes_eq}
use Rattle.std.proofs.lemmas.Map.Text.{text_keys}
use Rattle.live_session.proofs.Moved.{bytes_differ}
use Rattle.live_session.proofs.memory.MemRecordFolder.take_file.Goals as goal

pub returns-clause-others : goal.returns-clause-others
returns-clause-others c = λ other differs. let apart : bytes_eq other c.args.name.now ≡ false = bytes_differ other c.args.name.now differs in grind (arith, text_keys)
