use Rattle.trace_session.proofs.coverage.CovererTeller.burst.Goals as goal

pub returns-clause-tells : goal.returns-clause-tells
returns-clause-tells g c = λ first now said s i here covers.
    record { given = covers.given; gained = covers.gained; holds = c.burst.ensures.covers covers.given said s i here covers.holds }
