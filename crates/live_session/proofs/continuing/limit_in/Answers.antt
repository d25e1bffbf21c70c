use Rattle.std.proofs.Common.{◌∙◌, ◌++◌, ◌∷◌, [], ℕ, List, ap}
use Rattle.std.specs.Fmt.{decimal}
use Rattle.live_session.specs.Words.{command_state}
use Rattle.live_session.proofs.Taking.{other_limit}
use Rattle.live_session.proofs.continuing.limit_in.Goals as goal

-- no limit comes after the other words
pub returns-clause-err : goal.returns-clause-err
returns-clause-err c = λ known.
    other_limit (command_state c.args.command.now) c.args.words.now c.deref.result.now
    (λ limit. ap (λ (front : List ℕ). front ++ (decimal limit ++ 10 ∷ [])) c.deref.ensures.value ∙ c.in_ok-front.ensures limit)
    c.in-Some.text.now c.in-Some.ensures c.in-None.ensures.none
