use Rattle.sem_mutex.proofs.Handing.{await_urgent}
use Rattle.sem_mutex.proofs.Ending.{priority_urgent}
use Rattle.sem_mutex.proofs.Heirs.{waiting_law, setting_law}
use Rattle.sem_mutex.proofs.laws.inherit_law.Goals as goal

pub returns : goal.returns
returns c = record { pending = await_urgent; repricing = priority_urgent; waiting = waiting_law; setting = setting_law }
