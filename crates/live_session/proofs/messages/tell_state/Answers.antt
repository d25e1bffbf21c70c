use Rattle.std.proofs.Common.{◌≡◌, ◌∙◌, ◌++◌, ℕ, List, Option, inl, subst}
use Rattle.std.specs.Prelude.{codes}
use Rattle.wind_session.specs.Texts.{IsPrinted}
use Rattle.live_session.specs.Seen.{live_by}
use Rattle.live_session.specs.Telling.{numbers_text}
use Rattle.text_show.specs.Tasks.{task_table_of}
use Rattle.live_session.proofs.messages.tell_state.Goals as goal

-- a text of three pieces; the first and the last are known
printed : (old new : Option (List ℕ)) (rose : Type 0) (first numbers last table : List ℕ) → first ≡ numbers → last ≡ table
    → IsPrinted old new (first ++ codes "\n" ++ last) rose → IsPrinted old new (numbers ++ codes "\n" ++ table) rose
printed old new rose first numbers last table same like told =
    subst (λ (t : List ℕ). IsPrinted old new (numbers ++ codes "\n" ++ t) rose) like
    (subst (λ (n : List ℕ). IsPrinted old new (n ++ codes "\n" ++ last) rose) same told)

pub returns : goal.returns
returns g c =
    let board = (live_by (λ d. (goal.Device-dyn g (d.vtable, d.value)).kind_of d.value) (λ d. (goal.Device-dyn g (d.vtable, d.value)).words_of d.value) c.args.live.now).board in
    record {
      printed =
          inl (printed _ _ _ _ (numbers_text board) _ (task_table_of board.world.kern) (c.deref.ensures.value ∙ c.in-Ok.ensures) (c.bytes.ensures ∙ c.in-Ok-table.ensures)
          c.put_pieces.ensures.printed);
    }
