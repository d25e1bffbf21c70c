use Rattle.std.proofs.Common.{refl, length}
use Rattle.reloc_link.proofs.Writing.{length-patched}
use Rattle.reloc_link.proofs.Order.{first_refused, each_done, stays_outside}
use Rattle.reloc_link.proofs.laws.patch_law.Goals as goal

pub returns : goal.returns
returns c = record {
  first = first_refused 0;
  each = each_done 0;
  outside = stays_outside 0;
  size = λ image list all. length-patched 0 image list (length image) refl all;
}
