-- At each time, spans say of at most one task that it runs.
use Rattle.std.proofs.Common.{◌≡◌, ℕ, Bool, true, false, cond, leb, List, [], ◌∷◌, Option, None, Some, refl, sym, ap, ◌∙◌}
use Rattle.std.specs.Prelude.{◌||◌, is_some}
use Rattle.std.specs.Option.{option_map}
use Rattle.std.specs.List.{list_any}
use Rattle.std.proofs.lemmas.Bool.{and_parts, eqb-true}
use Rattle.std.proofs.lemmas.Option.{same_Some}
use Rattle.id_table.proofs.Records.{found_id}
use Rattle.board_changes.specs.declared.look.Look.{Look}
use Rattle.board_changes.specs.declared.look.Standing.{Standing}
use Rattle.board_changes.specs.declared.look.Standing.TheVariants.{Running, Ready, Waiting, Sleeping, Suspended}
use Rattle.board_changes.specs.declared.view.TaskView.{TaskView}
use Rattle.board_changes.specs.Looks.{is_runner, look_of, same_flag, same_standing}
use Rattle.board_changes.specs.Spans.{view_of}
use Rattle.board_changes.specs.Tiling.{Observation, OneRunsLaw, SaysOnce, said_at, says_running, seen_at, spans_until}
use Rattle.board_changes.specs.Views.{task_id}
use Rattle.board_changes.proofs.Tiling.{tiles}

abbrev any_runs : List Look → Bool
any_runs looks = list_any (λ look. says_running look.standing) looks

-- the same standing says the same
same_says : (s t : Standing) → same_standing s t ≡ true → says_running s ≡ true → says_running t ≡ true
same_says Running Running same runs = refl
same_says Running Ready same runs = absurd (cc)
same_says Running Waiting same runs = absurd (cc)
same_says Running Sleeping same runs = absurd (cc)
same_says Running Suspended same runs = absurd (cc)
same_says Ready t same runs = absurd (cc)
same_says Waiting t same runs = absurd (cc)
same_says Sleeping t same runs = absurd (cc)
same_says Suspended t same runs = absurd (cc)

-- a task that looks as if it ran is the one that runs
standing_runs : (r s w k : Bool) → says_running (cond s Suspended (cond w Waiting (cond k Sleeping (cond r Running Ready)))) ≡ true → r ≡ true
standing_runs true s w k runs = refl
standing_runs false true w k runs = absurd (cc)
standing_runs false false true k runs = absurd (cc)
standing_runs false false false true runs = absurd (cc)
standing_runs false false false false runs = absurd (cc)

is_the_runner : (runner : Option ℕ) (id : ℕ) → is_runner runner id ≡ true → runner ≡ Some id
is_the_runner None id is = absurd (cc)
is_the_runner (Some who) id is = ap Some (eqb-true who id is)

or_nothing : (b : Bool) → b || false ≡ true → b ≡ true
or_nothing true e = refl
or_nothing false e = e

-- who ran when the tasks were last observed up to a time
abbrev runner_at : ℕ → List Observation → Option ℕ
runner_at t [] = None
runner_at t (m ∷ ms) = cond (leb m.time t) m.runner (runner_at t ms)

module _ (who : ℕ) (said : List Look) (runs : any_runs said ≡ true) where
  view_runs : (runner : Option ℕ) (view : Option TaskView) → ((v : TaskView) → view ≡ Some v → v.id ≡ who) → SaysOnce (option_map (look_of runner) view) said → runner ≡ Some who
  view_runs runner None same once = (let none : any_runs said ≡ false = ap any_runs once in absurd (cc))
  view_runs runner (Some v) same once =
      let one : says_running once.0.standing ≡ true = or_nothing (says_running once.0.standing) (sym (ap any_runs once.1) ∙ runs) in
      let look = look_of runner v in
      let alike = and_parts (same_standing once.0.standing look.standing) (same_flag once.0.inherits look.inherits) once.2 in
      let is = standing_runs (is_runner runner v.id) v.suspended (is_some v.wait) (is_some v.wake) (same_says once.0.standing look.standing alike.0 one) in
      is_the_runner runner v.id is ∙ ap Some (same v refl)

  seen_runs : (t : ℕ) (ms : List Observation) → SaysOnce (seen_at who t ms) said → runner_at t ms ≡ Some who
  seen_runs t [] once = (let none : any_runs said ≡ false = ap any_runs once in absurd (cc))
  seen_runs t (m ∷ ms) once =
      elim (leb m.time t) as (λ b. SaysOnce (cond b (option_map (look_of m.runner) (view_of m.views who)) (seen_at who t ms)) said → cond b m.runner (runner_at t ms) ≡ Some who) [
        | true ↦ λ o. view_runs m.runner (view_of m.views who) (λ v e. found_id task_id m.views who v e) o
        | false ↦ λ o. seen_runs t ms o
      ] once

pub one_runs : OneRunsLaw
one_runs ms end t one other order up within first second =
    let a = seen_runs one (said_at one t (spans_until end ms)) first t ms (tiles ms end one t order up within) in
    let b = seen_runs other (said_at other t (spans_until end ms)) second t ms (tiles ms end other t order up within) in
    same_Some one other (sym a ∙ b)
