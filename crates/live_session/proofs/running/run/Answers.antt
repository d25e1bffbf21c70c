use Rattle.live_session.proofs.Moving.{runs_for}
use Rattle.live_session.proofs.running.run.Goals as goal

-- the board ran for this many steps
pub returns-clause-made : goal.returns-clause-made
returns-clause-made g c = λ shelf setup old here.
    runs_for c.args.target.command.now.modules.now shelf setup old _ _ here c.go-went.result.end _ _ c.go-went.ensures.runs _ _ _ _ _ c.go-went.ensures.record_is (c.go-went.ensures.made shelf setup old here)
