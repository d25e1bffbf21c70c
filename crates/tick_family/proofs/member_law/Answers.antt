use Rattle.tick_family.proofs.MemberLemmas.{all_members}
use Rattle.tick_family.proofs.member_law.Goals as goal

pub returns : goal.returns
returns c = all_members
