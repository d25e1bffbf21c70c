use Rattle.std.proofs.Common.{◌≡◌, ℕ, List, [], ◌∷◌, map, refl, ap, ◌∙◌}
use Rattle.std.proofs.lemmas.Result.{IfOk-weaker}
use Rattle.id_table.specs.Rows.{row_object}
use Rattle.isr_watch.specs.declared.watchdog.Watchdog.{Watchdog}
use Rattle.serde_json.specs.Data.{array}
use Rattle.serde_json.specs.View.{items_of}
use Rattle.trace_state.specs.Objects.{watchdog_data}
use Rattle.trace_state.proofs.objects.watchdogs.Goals as goal

-- a watchdog holds its id
without_ids : (rows : List (ℕ × Watchdog)) → map (λ r. watchdog_data r.1) rows ≡ map watchdog_data (map row_object rows)
without_ids [] = refl
without_ids (r ∷ rs) = ap (λ ds. watchdog_data r.1 ∷ ds) (without_ids rs)

pub returns : goal.returns
returns c =
    IfOk-weaker c.rows.result _ _
    (λ v is. is ∙ ap (λ ds. array (items_of ds)) (without_ids c.watchdogs.result.now.rows ∙ ap (map watchdog_data) c.watchdogs.ensures)) c.rows.ensures
