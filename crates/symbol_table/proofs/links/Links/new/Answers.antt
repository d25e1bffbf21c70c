use Rattle.symbol_table.proofs.links.Links.new.Goals as goal

pub returns-clause-heads : goal.returns-clause-heads
returns-clause-heads c = c.in_ok-heads.ensures.items_if_clones_equal (λ y e. e)
