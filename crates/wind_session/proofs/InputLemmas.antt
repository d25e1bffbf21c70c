-- A run after the fetches of a command's files.
use Rattle.std.proofs.Common.{◌≡◌, ℕ, List, ◌++◌, Option, subst}
use Rattle.std.specs.Option.{option_map}
use Rattle.wind_outside.specs.Files.{Files}
use Rattle.wind_outside.specs.Requests.{GrowsBy, Request}
use Rattle.board_player.specs.WindMachineState.{State}
use Rattle.board_player.specs.WindMachineRun.{Answers}
use Rattle.wind_session.specs.Fetches.{requests_of}
use Rattle.wind_session.specs.declared.command.Source.{Source}
use Rattle.wind_session.specs.declared.command.Source.TheVariants as sources
use Rattle.wind_session.specs.Headline.{IsLeft}
use Rattle.wind_session.specs.Modules.{Shelf}
use Rattle.wind_session.specs.Outside.{Outside}
use Rattle.wind_session.specs.Runs.{Made}
use Rattle.wind_session.specs.declared.run.RunEnd.{RunEnd}
use Rattle.wind_session.specs.declared.ending.Status.{Status}
use Rattle.wind_session.proofs.FetchLemmas.{grows_from}

-- what a folder tells after its requests grew to `mid`, and what it would tell if it told them all
module _ (first : List Request) (old : Outside) (mid : Option (List Request)) (grown : GrowsBy old.requests mid first) where
  abbrev pub here : Outside
  here = record old { requests = mid }

  abbrev pub there : Outside
  there = record old { requests = option_map (λ xs. xs ++ first) old.requests }

  pub made_there : (end : RunEnd) (shelf : Shelf) (said : Answers) (s : State) (n k : ℕ) (board : State) (new : Option (List Request)) → Made end shelf said s n k board mid new → Made end shelf said s n k board there.requests new
  made_there end shelf said s n k board new made = record {
    counted = made.counted;
    answers = made.answers;
    part = made.part;
    state = made.state;
    ended = made.ended;
    fetches = record {
      last = made.fetches.last;
      last_is = made.fetches.last_is;
      requests = grows_from old.requests mid new first (requests_of shelf.name said s k ++ made.fetches.last) grown made.fetches.requests;
    };
  }

  left_there : (source : Source) (s : Status) (end : RunEnd) (shelf : Shelf) (start : State) (limit : ℕ) (board : State) (new : Outside) → IsLeft source s end shelf start limit board here new → IsLeft source s end shelf start limit board there new
  left_there sources.Files s end shelf start limit board new (is, ran) = (
    is,
    record {
      said = ran.said;
      k = ran.k;
      made = made_there end shelf ran.said start limit ran.k board new.requests ran.made;
      written = ran.written;
    },
  )
  left_there (sources.Generated n) s end shelf start limit board new sums = record {
    said = sums.said;
    k = sums.k;
    made = made_there end shelf sums.said start limit sums.k board new.requests sums.made;
    summed = sums.summed;
    all_put = sums.all_put;
  }

  -- the folder keeps its files, and the board begins as the plan says
  pub left_after : (source : Source) (s : Status) (end : RunEnd) (held files : Option Files) (name : List ℕ) (opened start : State) (limit : ℕ) (board : State) (new : Outside) → held ≡ files → opened ≡ start
      → IsLeft source s end (record { files = held; name = name }) opened limit board here new → IsLeft source s end (record { files = files; name = name }) start limit board there new
  left_after source s end held files name opened start limit board new same_files same_start left =
      left_there source s end (record { files = files; name = name }) start limit board new
      (subst (λ (f : Option Files). IsLeft source s end (record { files = f; name = name }) start limit board here new) same_files
      (subst (λ (u : State). IsLeft source s end (record { files = held; name = name }) u limit board here new) same_start left))
