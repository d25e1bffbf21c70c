-- A task's life after a step follows from that before it and what happens in the step.
use Rattle.std.proofs.Common.{◌≡◌, ℕ, cond, List, [], ◌∷◌, ◌++◌, map, refl, sym, ap, ap₂, ◌∙◌, append_assoc}
use Rattle.std.specs.Option.{option_map}
use Rattle.std.proofs.lemmas.List.{append-nil}
use Rattle.wind_machine.specs.Laws.{StepLaw}
use Rattle.board_trace.specs.Mutexes.{mutex_named}
use Rattle.wind_machine.specs.Replies.{step_reply}
use Rattle.wind_machine.specs.declared.next.Next.{Next}
use Rattle.board_changes.specs.declared.change.Change.{Change}
use Rattle.board_changes.specs.Modules.{module_changes}
use Rattle.board_changes.specs.Replay.{life_of, replayed, changes_naming}
use Rattle.board_changes.specs.Spans.{view_of}
use Rattle.board_changes.specs.Tasks.{task_changes}
use Rattle.board_changes.specs.Watchdogs.{watchdog_changes}
use Rattle.board_changes.proofs.Replaying.{modules_untold, replays, told_append, watchdogs_untold}
use Rattle.board_trace.proofs.Observing.{good_distinct}
use Rattle.board_trace.proofs.Parts.{Each, HoldsElse, each_both, each_cause, each_message, each_owner, each_routine, each_write}
use Rattle.board_trace.specs.Before.{before_step}
use Rattle.board_trace.specs.Laws.{StepReplayLaw, change_in, changes_told}
use Rattle.board_trace.specs.Level.{routines}
use Rattle.board_trace.specs.Messages.{messages}
use Rattle.board_trace.specs.Outside.{is_hearing, switches}
use Rattle.board_trace.specs.Owners.{owners}
use Rattle.board_trace.specs.Snapshots.{after_step, snapshot_of}
use Rattle.board_trace.specs.Steps.{changes, has_written, writes, instruction_of, causes, effects, step_happenings, happenings}
use Rattle.board_trace.specs.Views.{SnapshotState}
use Rattle.board_trace.specs.declared.moment.BeforeStep.{BeforeStep}
use Rattle.board_trace.specs.declared.moment.AfterStep.{AfterStep}
use Rattle.board_trace.specs.declared.happening.Happening.{Happening}
use Rattle.board_trace.specs.declared.happening.Happening.TheVariants as told
use Rattle.std.specs.Prelude.{not}

-- ---- what has no line of a change
abbrev Quiet : List Happening → Type 0
Quiet hs = changes_told hs ≡ []

joined : (xs ys : List Happening) → changes_told (xs ++ ys) ≡ changes_told xs ++ changes_told ys
joined [] ys = refl
joined (x ∷ xs) ys = ap (λ rs. change_in x ++ rs) (joined xs ys) ∙ sym (append_assoc (change_in x) (changes_told xs) (changes_told ys))

-- a part without one may be left out
after_quiet : (xs ys : List Happening) (rs : List Change) → Quiet xs → changes_told ys ≡ rs → changes_told (xs ++ ys) ≡ rs
after_quiet xs ys rs quiet tells = joined xs ys ∙ ap (λ q. q ++ changes_told ys) quiet ∙ tells

abbrev IsNoChange : Happening → Type 0
IsNoChange h = change_in h ≡ []

no_changes : HoldsElse IsNoChange
no_changes = record {
  tick = λ tick. refl;
  arrival = λ count. refl;
  interrupt = λ slot. refl;
  delivery = λ slot. refl;
  jump = λ time. refl;
  file = λ name. refl;
  runs = λ who last. refl;
  abort = refl;
  queued = λ queue sender. refl;
  handed = λ queue sender receiver. refl;
  taken = λ queue receiver. refl;
  ends = refl;
  begins = λ entry param. refl;
  writes = λ who bytes. refl;
  instructions = λ who count. refl;
}

quiet_by : (hs : List Happening) → Each IsNoChange hs → Quiet hs
quiet_by [] each = refl
quiet_by (h ∷ hs) each = ap (λ cs. cs ++ changes_told hs) each.0 ∙ quiet_by hs each.1

changes_are : (cs : List Change) → changes_told (map told.Changed cs) ≡ cs
changes_are [] = refl
changes_are (c ∷ cs) = ap (λ xs. c ∷ xs) (changes_are cs)

-- ---- a step
module _ (c : BeforeStep) (before after : SnapshotState) (r : AfterStep) (written : List ℕ) where
  causes_quiet : Quiet (causes c before after r written)
  causes_quiet =
      quiet_by (causes c before after r written) (each_cause IsNoChange no_changes (λ who call reply. refl) (λ who at cause. refl) c before after r written)

  effects_told : changes_told (effects c before after r written) ≡ changes c.next r.tick before after
  effects_told =
      let cs = changes c.next r.tick before after in
      let rest = routines c r (has_written written) ++ writes c.actor written in
      let quiet : Quiet rest =
      quiet_by rest (each_both IsNoChange (routines c r (has_written written)) (writes c.actor written)
      (each_routine IsNoChange no_changes c r (has_written written)) (each_write IsNoChange no_changes c.actor written)) in
      after_quiet (owners c r) _ cs (quiet_by (owners c r) (each_owner IsNoChange (λ mutex owner. refl) (λ mutex owner. refl) (mutex_named c.call) c.owner r.owner))
      (after_quiet (messages c r.reply cs) (map told.Changed cs ++ rest) cs (quiet_by (messages c r.reply cs) (each_message IsNoChange no_changes c r.reply cs))
      (joined (map told.Changed cs) rest ∙ ap₂ (λ p q. p ++ q) (changes_are cs) quiet ∙ append-nil cs))

  all_told : changes_told (step_happenings c before after r written) ≡ changes c.next r.tick before after
  all_told = joined (causes c before after r written) (effects c before after r written) ∙ ap₂ (λ p q. p ++ q) causes_quiet effects_told

-- of tasks
of_tasks : (n : Next) (tick who : ℕ) (before after : SnapshotState)
    → changes_naming who (changes n tick before after) ≡ changes_naming who (task_changes (not (is_hearing n)) before.tasks after.tasks)
of_tasks n tick who before after =
    let tasks = task_changes (not (is_hearing n)) before.tasks after.tasks in
    let watchdogs = watchdog_changes tick before.watchdogs after.watchdogs in
    let mods = module_changes before.modules after.modules in
    told_append who tasks (watchdogs ++ mods)
    ∙ ap (λ cs. changes_naming who tasks ++ cs) (told_append who watchdogs mods ∙ ap₂ (λ p q. p ++ q) (watchdogs_untold who tick before.watchdogs after.watchdogs) (modules_untold who before.modules after.modules))
    ∙ append-nil (changes_naming who tasks)

pub step_replays : StepLaw → StepReplayLaw
unfolding happenings
step_replays keeps said s t who is_early good makes stands =
    let c = before_step s in
    let r = after_step c (step_reply said s) t in
    let before = snapshot_of s.world in
    let after = snapshot_of t.world in
    let life = option_map life_of (view_of before.tasks who) in
    ap (λ b. replayed (changes_naming who (changes_told (cond b (switches before.last after.last ++ instruction_of c.actor) (step_happenings c before after r t.world.output)))) life) stands
    ∙ ap (λ cs. replayed (changes_naming who cs) life) (all_told c before after r t.world.output)
    ∙ ap (λ cs. replayed cs life) (of_tasks c.next r.tick who before after)
    ∙ replays (not (is_hearing c.next)) before.tasks after.tasks who (good_distinct s good) (good_distinct t (keeps said s t is_early good makes))
