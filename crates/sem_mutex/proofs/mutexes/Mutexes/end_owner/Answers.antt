use Rattle.std.proofs.Common.{ap, ◌∙◌, rules}
use Rattle.wind_core.specs.State.{Lives}
use Rattle.inheritance.specs.Mutexes.{LiveMutexes}
use Rattle.sem_mutex.specs.Calls.{letting_go}
use Rattle.sem_mutex.proofs.Answering.{let_go_after}
use Rattle.sem_mutex.proofs.mutexes.Mutexes.end_owner.Goals as goal

pub ease-requires-clause-live : goal.ease-requires-clause-live
ease-requires-clause-live c =
    let lives : Lives c.args.k.now c.in-Some.owner = search rules in
    (let_go_after c.args.self.now.profile c.args.k.now c.let_go.new.k c.in-Some.owner c.mutex-m.result.now
    (c.let_go.ensures ∙ ap (λ p. letting_go p c.args.k.now c.in-Some.owner c.mutex-m.result.now) (ap (λ (live : LiveMutexes). live.profile) c.self.view_is)) lives).lives
