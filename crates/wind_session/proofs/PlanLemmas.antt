-- What the arguments and the two files ask for.
use Rattle.std.proofs.Common.{◌≡◌, ℕ, zero, suc, ◌+◌, ◌<◌, ◌≤◌, List, [], ◌∷◌, Option, Some, None, true, false, cond, refl, sym, ap, subst, ◌∙◌, arith, length}
use Rattle.std.specs.Prelude.{IfSome, IsSomeAnd, nat_lt}
use Rattle.std.proofs.lemmas.Bool.Decides.{nat_tests}
use Rattle.wind_base.specs.Limits.{longest_text_file}
use Rattle.wind_outside.specs.Files.{Files, IsFetchOf}
use Rattle.wind_outside.specs.declared.folder.Fetched.TheVariants as fetched
use Rattle.tick_file.specs.Schedule.{Timetable, timetable_of}
use Rattle.generated_session.specs.Session.{generated_console, generated_ticks, most_rounds}
use Rattle.wind_session.specs.Command.{CommandState, HasFewRounds}
use Rattle.wind_session.specs.declared.command.Source.{Source}
use Rattle.wind_session.specs.declared.command.Source.TheVariants as sources
use Rattle.wind_session.specs.Keeping.{Around, FolderFailed}
use Rattle.wind_session.specs.Plan.{Plan, Refuse, Start, IsFilePlan, IsPlanOf, IsPlan, IsEntry, IsHeld, plan_file, plan_ticks, plan_of, generated_plan}
use Rattle.wind_session.specs.Headline.{IsRefusal, IsUnread, RefusesFiles, Refuses, fetch_fault, IsThere, IsPlayed, IsComplete}
use Rattle.wind_session.specs.declared.ending.Status.{Status}
use Rattle.wind_session.specs.declared.ending.Status.TheVariants as status
use Rattle.wind_session.specs.declared.ending.Which.{Which}
use Rattle.wind_session.specs.declared.ending.Which.TheVariants as which

-- a folder has some file of a name, or none
some_entry : (files : Option Files) (name : List ℕ) → (file : Option (List ℕ)) × IsEntry files name file
some_entry None name = (None, tt)
some_entry (Some held) name = (held name, refl)

-- the file that a fetch found is the folder's, if the folder tells its files
pub found_entry : (limit : ℕ) (files : Option Files) (name bytes : List ℕ) → IfSome files (λ held. (held name ≡ Some bytes) × (length bytes ≤ limit)) → IsEntry files name (Some bytes)
found_entry limit None name bytes h = tt
found_entry limit (Some held) name bytes h = sym h.0

pub missing_entry : (files : Option Files) (name : List ℕ) → IfSome files (λ held. held name ≡ None) → IsEntry files name None
missing_entry None name h = tt
missing_entry (Some held) name h = sym h

some_list : (n : ℕ) → (xs : List ℕ) × (length xs ≡ n)
some_list zero = ([], refl)
some_list (suc n) = let xs = some_list n in (0 ∷ xs.0, ap suc xs.1)

-- there is a file that is too long, for a folder that leaves its files untold
pub long_entry : (limit : ℕ) (files : Option Files) (name : List ℕ) → IfSome files (λ held. IsSomeAnd (held name) (λ bytes. limit < length bytes))
    → (file : Option (List ℕ)) × IsEntry files name file × IsSomeAnd file (λ bytes. limit < length bytes)
long_entry limit None name h = let xs = some_list (limit + 1) in (Some xs.0, tt, omega (arith, xs.1))
long_entry limit (Some held) name h = (held name, refl, h)

-- a file that is too long, and one that is not
long_file : (file : Which) (next : List ℕ → Plan) (bytes : Option (List ℕ)) → IsSomeAnd bytes (λ b. longest_text_file < length b) → plan_file file next bytes ≡ Refuse (status.TooLong file)
long_file file next None h = elim h [ ]
long_file file next (Some b) h = let long : nat_lt longest_text_file (length b) ≡ true = grind (arith, nat_tests, h) in ap (λ t. cond t (Refuse (status.TooLong file)) (next b)) long

short_file : (file : Which) (next : List ℕ → Plan) (bytes : List ℕ) → length bytes ≤ longest_text_file → plan_file file next (Some bytes) ≡ next bytes
short_file file next bytes h = let short : nat_lt longest_text_file (length bytes) ≡ false = grind (arith, nat_tests) in ap (λ t. cond t (Refuse (status.TooLong file)) (next bytes)) short

-- a refusal with one count of faults is a refusal if the count rose by more
refusal_up : (s : Status) (plan : Plan) (rose later : Type 0) → (rose → later) → IsRefusal s plan rose → IsRefusal s plan later
refusal_up status.NoMemory plan rose later up h = tt
refusal_up status.ReadFault plan rose later up h = up h
refusal_up status.Quiet plan rose later up h = h
refusal_up status.Limit plan rose later up h = h
refusal_up status.WriteFault plan rose later up h = h
refusal_up status.Usage plan rose later up h = h
refusal_up (status.Absent file) plan rose later up h = h
refusal_up (status.BadTicks line) plan rose later up h = h
refusal_up (status.TooLong file) plan rose later up h = h

module _ (files : Option Files) (name : List ℕ) where
  -- the file that a fetch found
  pub held_found : (bytes : List ℕ) → length bytes ≤ longest_text_file → IfSome files (λ held. (held name ≡ Some bytes) × (length bytes ≤ longest_text_file)) → IsHeld files name bytes
  held_found bytes within h = record { entry = found_entry longest_text_file files name bytes h; within = within }

  module _ (file : Which) (rose : Type 0) where
    -- no file, and one that is too long
    pub unread_missing : IfSome files (λ held. IsFetchOf (held name) longest_text_file fetched.Missing) → IsUnread (status.Absent file) file files name rose
    unread_missing h = record { file = None; entry = missing_entry files name h; refused = λ next. refl }

    pub unread_long : IfSome files (λ held. IsFetchOf (held name) longest_text_file fetched.TooLong) → IsUnread (status.TooLong file) file files name rose
    unread_long h = let long = long_entry longest_text_file files name h in record { file = long.0; entry = long.1; refused = λ next. long_file file next long.0 long.2 }

    -- a read fault, and memory that ran out
    pub unread_fault : rose → IsUnread status.ReadFault file files name rose
    unread_fault h = let some = some_entry files name in record { file = some.0; entry = some.1; refused = λ next. h }

    pub unread_memory : IsUnread status.NoMemory file files name rose
    unread_memory = let some = some_entry files name in record { file = some.0; entry = some.1; refused = λ next. tt }

-- the arguments ask for some plan, even if it isn't known which
some_plan_of : (source : Source) (files : Option Files) (c : CommandState) → (plan : Plan) × IsPlanOf source files c plan
some_plan_of sources.Files files c =
    let console = some_entry files c.console in
    let ticks = some_entry files c.ticks in
    (plan_of console.0 ticks.0, record { console = console.0; ticks = ticks.0; console_entry = console.1; ticks_entry = ticks.1; plan_is = refl })
some_plan_of (sources.Generated n) files c = (generated_plan n, refl)

pub some_plan : (files : Option Files) (command : Option CommandState) → (plan : Plan) × IsPlan files command plan
some_plan files None = (Refuse status.Usage, refl)
some_plan files (Some c) = some_plan_of c.source files c

module _ (files : Option Files) (command : CommandState) where
  -- the console file is refused
  pub refuses_console : (s : Status) (rose : Type 0) → IsUnread s which.Console files command.console rose → RefusesFiles s files command rose
  refuses_console s rose unread =
      let ticks = some_entry files command.ticks in (
        plan_of unread.file ticks.0,
        record { console = unread.file; ticks = ticks.0; console_entry = unread.entry; ticks_entry = ticks.1; plan_is = refl },
        unread.refused (λ bytes. plan_file which.Ticks (plan_ticks bytes) ticks.0),
      )

  module _ (console : List ℕ) (first : IsHeld files command.console console) where
    -- the tick file is refused
    pub refuses_ticks : (s : Status) (rose later : Type 0) → (rose → later) → IsUnread s which.Ticks files command.ticks rose → RefusesFiles s files command later
    refuses_ticks s rose later up unread = (
      plan_file which.Ticks (plan_ticks console) unread.file,
      record {
        console = Some console;
        ticks = unread.file;
        console_entry = first.entry;
        ticks_entry = unread.entry;
        plan_is = sym (short_file which.Console (λ bytes. plan_file which.Ticks (plan_ticks bytes) unread.file) console first.within);
      },
      refusal_up s (plan_file which.Ticks (plan_ticks console) unread.file) rose later up (unread.refused (plan_ticks console)),
    )

    -- both files are there
    pub both_held : (ticks : List ℕ) (plan : Plan) → IsHeld files command.ticks ticks → plan ≡ plan_ticks console ticks → IsFilePlan files command plan
    both_held ticks plan second e = record {
      console = Some console;
      ticks = Some ticks;
      console_entry = first.entry;
      ticks_entry = second.entry;
      plan_is =
          e
          ∙ sym (short_file which.Ticks (plan_ticks console) ticks second.within)
          ∙ sym (short_file which.Console (λ bytes. plan_file which.Ticks (plan_ticks bytes) (Some ticks)) console first.within);
    }

    -- and what they ask for is refused
    pub refuses_both : (s : Status) (ticks : List ℕ) (plan : Plan) (rose : Type 0) → IsHeld files command.ticks ticks → plan ≡ plan_ticks console ticks → IsRefusal s plan ⊥ → RefusesFiles s files command rose
    refuses_both s ticks plan rose second e h = (plan, both_held ticks plan second e, refusal_up s plan ⊥ rose (λ never. absurd never) h)

-- a refusal although the plan is to start comes from a fault, or because memory ran out
refusal_played : (s : Status) (plan : Plan) (console : List ℕ) (schedule : Timetable) (rose : Type 0) → plan ≡ Start console schedule → (rose → ⊥) → IsRefusal s plan rose → IsPlayed s
refusal_played status.NoMemory plan console schedule rose e fine h = tt
refusal_played status.ReadFault plan console schedule rose e fine h = fine h
refusal_played status.Quiet plan console schedule rose e fine h = tt
refusal_played status.Limit plan console schedule rose e fine h = tt
refusal_played status.WriteFault plan console schedule rose e fine h = h
refusal_played status.Usage plan console schedule rose e fine h = let bad : Refuse status.Usage ≡ Start console schedule = sym h ∙ e in cc
refusal_played (status.Absent file) plan console schedule rose e fine h = let bad : Refuse (status.Absent file) ≡ Start console schedule = sym h ∙ e in cc
refusal_played (status.BadTicks line) plan console schedule rose e fine h = let bad : Refuse (status.BadTicks line) ≡ Start console schedule = sym h ∙ e in cc
refusal_played (status.TooLong file) plan console schedule rose e fine h = let bad : Refuse (status.TooLong file) ≡ Start console schedule = sym h ∙ e in cc

-- so what is refused without a fault was not there to play
refused_of : (source : Source) (s : Status) (files : Option Files) (command : CommandState) (rose : Type 0) (plan : Plan) → IsPlanOf source files command plan
    → IsRefusal s plan (fetch_fault source rose) → IsThere source command files → (rose → ⊥) → IsPlayed s
refused_of sources.Files s None command rose plan planned refused there fine = absurd there
refused_of sources.Files s (Some held) command rose plan planned refused there fine =
    refusal_played s plan there.0 there.1 rose
    (planned.plan_is ∙ ap (λ file. plan_of file planned.ticks) planned.console_entry ∙ ap (plan_of (held command.console)) planned.ticks_entry ∙ there.2)
    fine refused
refused_of (sources.Generated n) s files command rose plan planned refused there fine =
    refusal_played s plan (generated_console n) (timetable_of (generated_ticks n)) ⊥ planned (λ never. never) refused

pub complete_refused : (s : Status) (command : CommandState) (before after : Around) → Refuses s before.files command (FolderFailed before after) → IsComplete s (Some command) before after
complete_refused s command before after h = λ there fine out_fine. refused_of command.source s before.files command (FolderFailed before after) h.0 h.1 h.2 there fine

-- ---- by what is played
module _ (source : Source) (files : Option Files) (command : CommandState) where
  -- the files
  pub plans_files : (plan : Plan) → source ≡ sources.Files → IsFilePlan files command plan → IsPlanOf source files command plan
  plans_files plan is h = subst (λ x. IsPlanOf x files command plan) (sym is) h

  refused_files : (s : Status) (rose : Type 0) (plan : Plan) → source ≡ sources.Files → IsRefusal s plan rose → IsRefusal s plan (fetch_fault source rose)
  refused_files s rose plan is h = subst (λ x. IsRefusal s plan (fetch_fault x rose)) (sym is) h

  -- a generated session
  pub plans_generated : (n : ℕ) (plan : Plan) → source ≡ sources.Generated n → plan ≡ generated_plan n → IsPlanOf source files command plan
  plans_generated n plan is h = subst (λ x. IsPlanOf x files command plan) (sym is) h

pub few_rounds : (source : Source) (n : ℕ) → source ≡ sources.Generated n → HasFewRounds source → n ≤ most_rounds
few_rounds source n is h = subst HasFewRounds is h

module _ (files : Option Files) (command : CommandState) where
  pub refuses_by_files : (s : Status) (rose : Type 0) → command.source ≡ sources.Files → RefusesFiles s files command rose → Refuses s files command rose
  refuses_by_files s rose is h = (h.0, plans_files command.source files command h.0 is h.1, refused_files command.source files command s rose h.0 is h.2)

  pub refuses_memory : (s : Status) (rose : Type 0) → s ≡ status.NoMemory → Refuses s files command rose
  refuses_memory s rose is =
      let some = some_plan_of command.source files command in
      (some.0, some.1, subst (λ x. IsRefusal x some.0 (fetch_fault command.source rose)) (sym is) tt)
