use Rattle.std.proofs.Common.{◌≡◌, ◌-◌, length, drop, ap, ◌∙◌, arith, length-drop}
use Rattle.elf_build.specs.File.{tables_of}
use Rattle.elf_build.proofs.TableLemmas.{count_step}
use Rattle.elf_build.proofs.groups.table_count.Goals as goal

pub loop-rest-preserved : goal.loop-rest-preserved
loop-rest-preserved c =
    let n = c.first_len.result in
    let rest = c.loop-rest.rest.now in
    let lead = c.first_len.ensures in
    let some = lead.some in
    let within = lead.within in
    let step = count_step n rest lead (omega arith) in
    let relocs_after = c.relocs_after-rest.ensures in
    let tables : length (tables_of c.relocs_after-rest.result.now) ≡ length (tables_of (drop n rest)) = ap (λ xs. length (tables_of xs)) relocs_after in
    let size : length c.relocs_after-rest.result.now ≡ length rest - n = ap length relocs_after ∙ length-drop n rest in
    let all = c.loop-rest.invariant.all in
    let few = c.loop-rest.invariant.few in
    record { all = omega arith; few = omega arith }
