use Rattle.std.proofs.Common.{◌≡◌, ◌+◌, ◌≤◌, List, length, map}
use Rattle.wind_base.specs.Lines.{line_length}
use Rattle.source_text.specs.Lines.{pieces}
use Rattle.ppc_text.specs.Lines.{line_of}
use Rattle.asm_lines.specs.Items.{Placed}
use Rattle.asm_lines.specs.Causes.{judged, items}
use Rattle.asm_lines.specs.Drafts.{IsDraft, IsSmall}
use Rattle.asm_lines.proofs.draft.draft_of.Given as goal

abbrev pub invariant-loop-len : goal.invariant-loop-len
invariant-loop-len l = record {
  len : l.len ≡ line_length l.left;
  count : l.number + length l.left ≤ length l.text + 1;
  small : IsSmall l.draft;
  good : (ps : List Placed) × IsDraft l.draft ps × (judged ps l.number (map line_of (pieces l.left)) ≡ items l.text);
}

abbrev pub decreases-loop-len : goal.decreases-loop-len
decreases-loop-len l = length l.left
