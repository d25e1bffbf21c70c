use Rattle.inheritance.proofs.Same as same
use Rattle.inheritance.proofs.Exact as exact
use Rattle.inheritance.proofs.laws.exact_law.Goals as goal

pub returns : goal.returns
returns c = record { exact = exact.exact_law; same = same.exact_same; urgent = same.exact_urgent; normal = exact.exact_normal }
