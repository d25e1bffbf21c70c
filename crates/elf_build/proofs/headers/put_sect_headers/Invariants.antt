use Rattle.std.proofs.Common.{◌≡◌, ◌++◌, ◌+◌, ◌*◌, ◌≤◌, drop, length}
use Rattle.std.specs.List.{flat_map}
use Rattle.elf_build.specs.File.{sect_content, contents_of, sect_headers}
use Rattle.elf_build.proofs.headers.put_sect_headers.Given as goal

abbrev pub invariant-loop-s : goal.invariant-loop-s
invariant-loop-s l = record { made : l.out.items ++ sect_headers l.name l.at (drop l.s-index l.sections) ≡ l.fn.out.items ++ sect_headers 27 52 l.sections; low : l.name ≤ 27 + 256 * l.s-index; left : l.at + length (flat_map sect_content (drop l.s-index l.sections)) ≡ 52 + length (contents_of l.sections) }
