use Rattle.ppc_asm.proofs.Drafted.{fits_module}
use Rattle.ppc_asm.proofs.Ending.{made}
use Rattle.ppc_asm.proofs.Filing.{builds}
use Rattle.ppc_asm.proofs.assembling.assemble.Goals as goal

pub module_of-requires-clause-small : goal.module_of-requires-clause-small
module_of-requires-clause-small c = c.in_ok-draft.ensures.good.2

pub module_of-requires-clause-fits : goal.module_of-requires-clause-fits
module_of-requires-clause-fits c = let g = c.in_ok-draft.ensures.good in fits_module c.args.text.now _ g.0 g.1 g.3

pub returns-in-Ok-clause-good : goal.returns-in-Ok-clause-good
returns-in-Ok-clause-good c =
    let g = c.in_ok-draft.ensures.good in
    made c.args.text.now g.0 c.in-Ok.m g.3 (c.in-Ok.ensures g.0 g.1)

pub returns-in-Ok-clause-has_file : goal.returns-in-Ok-clause-has_file
returns-in-Ok-clause-has_file c =
    let g = c.in_ok-draft.ensures.good in
    builds c.args.text.now c.in-Ok.m (made c.args.text.now g.0 c.in-Ok.m g.3 (c.in-Ok.ensures g.0 g.1))
