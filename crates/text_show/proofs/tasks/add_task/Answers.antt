use Rattle.std.proofs.Common.{[], ◌∷◌}
use Rattle.text_show.proofs.Cells.{row_written}
use Rattle.text_show.specs.Tasks.{task_row}
use Rattle.text_show.proofs.tasks.add_task.Goals as goal

pub returns : goal.returns
unfolding task_row
returns c =
    rw (c.in_ok-add.ensures, c.in_ok-add_next-6.ensures, c.in_ok-add_next-5.ensures, c.in_ok-add_next-4.ensures, c.in_ok-add_next-3.ensures, c.in_ok-add_next-2.ensures, c.in_ok-add_next.ensures, c.in_ok-add_cell.ensures)
    (rw (c.bytes.ensures.value, c.as_slice.ensures.value, c.as_slice-2.ensures.value, c.bytes-2.ensures.value, c.as_slice-3.ensures.value, c.as_slice-4.ensures.value, c.as_bytes.ensures.value, c.format.ensures.text)
    (rw (c.numeral-id.ensures, c.numeral-pri.ensures, c.status-status.ensures, c.hex_digits-pc.ensures, c.numeral-errno.ensures, c.ticks_to-ticks.ensures, c.get.ensures.same, c.get-2.ensures.same)
    (row_written c.args.page.now.items _ (_ ∷ _ ∷ _ ∷ _ ∷ _ ∷ _ ∷ []))))
