use Rattle.std.proofs.Common.{rules}
use Rattle.std.proofs.lemmas.List.Elements.{recursion_from_All}
use Rattle.tick_family.specs.Members.{member_events}
use Rattle.tick_family.specs.Inside.{IsEntry}
use Rattle.tick_family.proofs.MemberLemmas.{is_tick_file}
use Rattle.tick_family.proofs.family.Family.text.Goals as goal

pub returns-in_err-events-clause-file : goal.returns-in_err-events-clause-file
returns-in_err-events-clause-file c = is_tick_file c.args.self.now c.args.number (recursion_from_All IsEntry c.args.self.now (search rules)) (search rules) c.requires

pub returns-clause-value : goal.returns-clause-value
unfolding member_events
returns-clause-value c = search rules

pub returns-clause-file : goal.returns-clause-file
returns-clause-file c = is_tick_file c.args.self.now c.args.number (recursion_from_All IsEntry c.args.self.now (search rules)) (search rules) c.requires
