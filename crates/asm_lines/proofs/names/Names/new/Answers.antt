use Rattle.std.proofs.Common.{ap, rules}
use Rattle.std.specs.Prelude.{is_some}
use Rattle.asm_lines.specs.Names.{has_name, first_names}
use Rattle.asm_lines.proofs.names.Names.new.Goals as goal

pub returns : goal.returns
unfolding has_name first_names
returns c = record {
  entries = search rules;
  mentioned = λ q. ap is_some (c.new-mentioned.ensures q);
  labelled = λ q. ap is_some (c.new-labelled.ensures q);
  global = λ q. ap is_some (c.new-global.ensures q);
}
