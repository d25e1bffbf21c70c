-- What is left of a traced run.
use Rattle.std.proofs.Common.{◌≡◌, ◌≢◌, ℕ, List, ◌++◌, Option, Some, inl, inr, refl, sym, subst, ◌∙◌}
use Rattle.std.specs.Option.{option_map}
use Rattle.wind_outside.specs.Files.{Files}
use Rattle.wind_outside.specs.Requests.{GrowsBy, Request}
use Rattle.wind_session.specs.WindMachineState.{State}
use Rattle.wind_session.specs.WindMachineRun.{Answers}
use Rattle.wind_session.specs.Command.{CommandState}
use Rattle.wind_session.specs.Headline.{IsComplete, IsPlayed, status_of}
use Rattle.wind_session.specs.Keeping.{Around, FolderFailed, SinkFailed}
use Rattle.wind_session.specs.Modules.{Shelf}
use Rattle.wind_session.specs.Outside.{Outside}
use Rattle.wind_session.specs.Telling.{Told}
use Rattle.wind_session.specs.declared.run.RunEnd.{RunEnd}
use Rattle.wind_session.specs.declared.run.RunEnd.TheVariants as ends
use Rattle.wind_session.specs.declared.ending.Status.{Status}
use Rattle.wind_session.specs.declared.ending.Status.TheVariants as status
use Rattle.wind_session.proofs.InputLemmas.{made_there}
use Rattle.trace_session.specs.declared.traced.Product.{Product}
use Rattle.trace_session.specs.Choice.{ChoiceState}
use Rattle.trace_session.specs.Forms.{TellsForm, TellsLess}
use Rattle.trace_session.specs.declared.forms.Form.{Form}
use Rattle.trace_session.specs.Headline.{IsLeft}

-- ---- the status
-- a run with a status of a fault had that fault
status_played : (end : RunEnd) (rose out_rose : Type 0) → (status_of end ≡ status.ReadFault → rose) → (status_of end ≡ status.WriteFault → out_rose) → (rose → ⊥) → (out_rose → ⊥) → IsPlayed (status_of end)
status_played ends.Quiet rose out_rose read write fine out_fine = tt
status_played ends.Limit rose out_rose read write fine out_fine = tt
status_played ends.ReadFault rose out_rose read write fine out_fine = fine (read refl)
status_played ends.WriteFault rose out_rose read write fine out_fine = out_fine (write refl)
status_played ends.NoMemory rose out_rose read write fine out_fine = tt

status_known : (end : RunEnd) → status_of end ≢ status.Usage
status_known ends.Quiet = λ e. cc
status_known ends.Limit = λ e. cc
status_known ends.ReadFault = λ e. cc
status_known ends.WriteFault = λ e. cc
status_known ends.NoMemory = λ e. cc

module _ (form : Form) (choice : ChoiceState) (product : Product) (s : Status) (shelf : Shelf) (start : State) (limit : ℕ) (board : State) (old new : Outside) where
  -- without a fault, the session was played
  pub complete_left : (c : CommandState) (before after : Around) → (s ≡ status.ReadFault → FolderFailed before after) → (s ≡ status.WriteFault → SinkFailed before after)
      → IsLeft form choice product s shelf start limit board old new → IsComplete s (Some c) before after
  complete_left c before after read write (inl (end, is, traced)) =
      λ there fine out_fine. subst IsPlayed (sym is) (status_played end (FolderFailed before after) (SinkFailed before after) (λ e. read (is ∙ e)) (λ e. write (is ∙ e)) fine out_fine)
  complete_left c before after read write (inr (is, traced)) = λ there fine out_fine. subst IsPlayed (sym is) tt

  -- the arguments were a command
  pub known_left : IsLeft form choice product s shelf start limit board old new → s ≢ status.Usage
  known_left (inl (end, is, traced)) = λ e. status_known end (sym is ∙ e)
  known_left (inr (is, traced)) = λ e. let never : status.NoMemory ≡ status.Usage = sym is ∙ e in cc

-- ---- after the files of a command
-- what a folder says after its requests grew to `mid`, and what it would say if it logged them all
module _ (first : List Request) (old : Outside) (mid : Option (List Request)) (grown : GrowsBy old.requests mid first) where
  abbrev here : Outside
  here = record old { requests = mid }

  abbrev there : Outside
  there = record old { requests = option_map (λ xs. xs ++ first) old.requests }

  traced_there : (Tells : Answers → ℕ → RunEnd → Type 0) (shelf : Shelf) (start : State) (limit : ℕ) (board : State) (new : Option (List Request))
      → Told Tells shelf start limit board mid new → Told Tells shelf start limit board there.requests new
  traced_there Tells shelf start limit board new traced = record {
    said = traced.said;
    k = traced.k;
    end = traced.end;
    made = made_there first old mid grown traced.end shelf traced.said start limit traced.k board new traced.made;
    tells = traced.tells;
  }

  left_there : (form : Form) (choice : ChoiceState) (product : Product) (s : Status) (shelf : Shelf) (start : State) (limit : ℕ) (board : State) (new : Outside)
      → IsLeft form choice product s shelf start limit board here new → IsLeft form choice product s shelf start limit board there new
  left_there form choice product s shelf start limit board new (inl (result, is, traced)) =
      inl (result, is, traced_there (TellsForm form choice product result start old.bytes new.bytes) shelf start limit board new.requests traced)
  left_there form choice product s shelf start limit board new (inr (is, traced)) =
      inr (is, traced_there (TellsLess form choice start old.bytes new.bytes) shelf start limit board new.requests traced)

  -- the folder keeps its files, and the board begins as the plan says
  pub left_after : (form : Form) (choice : ChoiceState) (product : Product) (s : Status) (held files : Option Files) (name : List ℕ) (opened start : State) (limit : ℕ) (board : State) (new : Outside) → held ≡ files → opened ≡ start
      → IsLeft form choice product s (record { files = held; name = name }) opened limit board here new → IsLeft form choice product s (record { files = files; name = name }) start limit board there new
  left_after form choice product s held files name opened start limit board new same_files same_start left =
      left_there form choice product s (record { files = files; name = name }) start limit board new
      (subst (λ (f : Option Files). IsLeft form choice product s (record { files = f; name = name }) start limit board here new) same_files
      (subst (λ (u : State). IsLeft form choice product s (record { files = held; name = name }) u limit board here new) same_start left))
