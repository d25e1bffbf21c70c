use Rattle.std.proofs.Common.{◌≡◌, length, drop}
use Rattle.reloc_link.specs.Patched.{patched}
use Rattle.reloc_link.proofs.patching.patch.Given as goal

abbrev pub invariant-loop-i : goal.invariant-loop-i
invariant-loop-i l = record {
  same : length l.image ≡ length l.fn.image;
  rest : patched l.i l.image (drop l.i l.list) ≡ patched 0 l.fn.image l.list;
}
