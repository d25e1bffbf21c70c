use Rattle.std.proofs.Common.{arith, IfSome, ◌≡◌, ◌++◌, subst}
use Rattle.std.specs.Io.Take.{take_remaining}
use Rattle.wind_outside.proofs.Reading.{whole_read}
use Rattle.wind_outside.proofs.host.read_within.Goals as goal

pub returns-clause-whole : goal.returns-clause-whole
returns-clause-whole g c =
    whole_read g.F.Read.remaining c.take.result c.args.file c.read_to_end.new.buf.items c.args.limit c.take.ensures.limit c.take.ensures.inner
    (subst (λ prefix. IfSome (take_remaining g.F.Read.remaining c.take.result) (λ xs. c.read_to_end.new.buf.items ≡ prefix ++ xs)) c.new-bytes.ensures.items c.in_ok-read_to_end.ensures.bytes)
    (omega (arith, c.len.ensures, c.if-len-limit.false))
