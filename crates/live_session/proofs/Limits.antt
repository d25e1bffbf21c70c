-- A run under another limit.
use Rattle.std.proofs.Common.{ℕ, ◌≤◌}
use Rattle.wind_machine.specs.State.{State}
use Rattle.wind_machine.specs.Machine.{file_asked}
use Rattle.wind_machine.specs.Run.{after}
use Rattle.wind_session.specs.Fetches.{IsLastRequest}
use Rattle.wind_session.specs.Modules.{Shelf}
use Rattle.wind_session.specs.Outside.{Outside}
use Rattle.wind_session.specs.Runs.{IsEnd, IsWritten, Ran}
use Rattle.wind_session.specs.declared.run.RunEnd.{RunEnd}

-- the same run under another limit, for which it ended so
pub under_limit : (end next : RunEnd) (shelf : Shelf) (start board : State) (n m : ℕ) (old now : Outside) (ran : Ran end shelf start n board old now)
    → ran.k ≤ m → IsEnd next ran.said start m ran.k → IsLastRequest next shelf.name (file_asked (after ran.said start ran.k)) ran.made.fetches.last
    → IsWritten next ran.said start ran.k old now → Ran next shelf start m board old now
under_limit end next shelf start board n m old now ran within ended last_is written = record {
  said = ran.said;
  k = ran.k;
  made = record {
    counted = ran.made.counted;
    answers = ran.made.answers;
    part = record { within = within; steps = ran.made.part.steps };
    state = ran.made.state;
    ended = ended;
    fetches = record { last = ran.made.fetches.last; last_is = last_is; requests = ran.made.fetches.requests };
  };
  written = written;
}
