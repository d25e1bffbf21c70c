use Rattle.kernel_calls.proofs.Removing.{removal, slot_law, none_back}
use Rattle.kernel_calls.proofs.laws.removal_law.Goals as goal

pub returns : goal.returns
returns c = record { remove = removal; slots = slot_law; back = none_back }
