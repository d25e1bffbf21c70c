use Rattle.wind_session.proofs.Putting.{count_on}
use Rattle.wind_session.proofs.count.ByteCountTeller.tell.Goals as goal

pub returns-clause-tells : goal.returns-clause-tells
returns-clause-tells g c = λ done first said next s u i reads ready on counted.
    rw c.output.ensures (count_on first _ said next s u _ _ i on c.args.self.now.bytes counted)
