use Rattle.std.proofs.Common.{List, [], ap₂, subst, sym, ℕ}
use Rattle.live_session.specs.Continuing.{Kept}
use Rattle.live_session.specs.Cutting.{IsTextOf}
use Rattle.live_session.proofs.Taking.{no_texts}
use Rattle.live_session.proofs.continuing.nothing.Goals as goal

kept_as : List ℕ → List ℕ → Kept
kept_as console ticks = record { console = console; ticks = ticks; limit = 0 }

pub returns-clause-kept : goal.returns-clause-kept
unfolding kept_as
returns-clause-kept c = ap₂ kept_as c.new-console.ensures.items c.new-ticks.ensures.items

pub returns-clause-texts : goal.returns-clause-texts
returns-clause-texts c =
    subst (λ (text : List ℕ). IsTextOf text c.new-ticks.result.items 0 0) (sym c.new-console.ensures.items)
    (subst (λ (text : List ℕ). IsTextOf [] text 0 0) (sym c.new-ticks.ensures.items) no_texts)
