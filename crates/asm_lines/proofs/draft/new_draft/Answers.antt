use Rattle.std.proofs.Common.{refl, rules, arith}
use Rattle.asm_lines.specs.Items.{section_at, section_bytes}
use Rattle.asm_lines.specs.Names.{first_names, defined, globals, mentions, labels, fixes}
use Rattle.asm_lines.proofs.draft.new_draft.Goals as goal

pub returns-clause-draft : goal.returns-clause-draft
unfolding section_at section_bytes fixes labels defined globals mentions
returns-clause-draft c = record {
  section = refl;
  known = omega arith;
  in_text = record { bytes = c.new-text_part.ensures.bytes; fixes = c.new-text_part.ensures.fixes };
  in_data = record { bytes = c.new-data_part.ensures.bytes; fixes = c.new-data_part.ensures.fixes };
  labels = search rules;
  names = c.new-names.ensures;
}

pub returns-clause-small : goal.returns-clause-small
unfolding first_names
returns-clause-small c = record {
  small_text = rw c.new-text_part.ensures.bytes (omega arith);
  small_data = rw c.new-data_part.ensures.bytes (omega arith);
  few_names = rw c.new-names.ensures.entries (omega arith);
  few_labels = search rules;
}
