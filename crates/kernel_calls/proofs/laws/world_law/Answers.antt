use Rattle.call_rows.proofs.KernelWorldOpened.{opens}
use Rattle.kernel_calls.proofs.Passing.{call_passes}
use Rattle.kernel_calls.proofs.Departing.{ends}
use Rattle.kernel_calls.proofs.laws.world_law.Goals as goal

pub returns : goal.returns
returns c = record { opening = opens; call = call_passes; end = ends }
