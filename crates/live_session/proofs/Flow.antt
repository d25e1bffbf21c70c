-- A session that goes on.
use Rattle.std.proofs.Common.{◌≡◌, ℕ, ◌+◌, List, Option, sym, subst, arith}
use Rattle.wind_outside.specs.Files.{Files}
use Rattle.wind_machine.specs.State.{State}
use Rattle.wind_machine.specs.Machine.{IsOver}
use Rattle.wind_machine.specs.Extending.{Setup}
use Rattle.wind_session.specs.Modules.{Shelf}
use Rattle.wind_session.specs.Outside.{Outside}
use Rattle.wind_session.specs.Runs.{Ran}
use Rattle.wind_session.specs.declared.run.RunEnd.{RunEnd}
use Rattle.wind_session.specs.declared.run.RunEnd.TheVariants as ends
use Rattle.wind_session.proofs.AppendingLemmas.{rose_earlier}
use Rattle.wind_session.proofs.KeepingLemmas.{keeps_both, keeps_same}
use Rattle.live_session.proofs.Limits.{under_limit}
use Rattle.wind_session.specs.Keeping.{Around}
use Rattle.live_session.specs.Ending.{IsGoing}
use Rattle.live_session.specs.Seen.{LiveState, IsLiveAt, IsRun, IsSound, GoesOn, Runs, StaysLive}

-- after a run that can go on, the session is live
pub is_live : (end : RunEnd) (shelf : Shelf) (setup : Setup) (l : LiveState) (old now : Outside) → IsGoing end → IsRun end shelf setup l old now → IsLiveAt shelf setup l old now
is_live ends.Quiet shelf setup l old now going h = h
is_live ends.Limit shelf setup l old now going h = h
is_live ends.ReadFault shelf setup l old now going h = absurd going
is_live ends.WriteFault shelf setup l old now going h = absurd going
is_live ends.NoMemory shelf setup l old now going h = absurd going

pub is_run : (end : RunEnd) (shelf : Shelf) (setup : Setup) (l : LiveState) (old now : Outside) → IsGoing end → IsLiveAt shelf setup l old now → IsRun end shelf setup l old now
is_run ends.Quiet shelf setup l old now going h = h
is_run ends.Limit shelf setup l old now going h = h
is_run ends.ReadFault shelf setup l old now going h = absurd going
is_run ends.WriteFault shelf setup l old now going h = absurd going
is_run ends.NoMemory shelf setup l old now going h = absurd going

pub quiet_going : (end : RunEnd) → end ≡ ends.Quiet → IsGoing end
quiet_going end quiet = subst (λ (e : RunEnd). IsGoing e) (sym quiet) tt

-- nothing has run
pub runs_none : (end : RunEnd) (modules : List ℕ) (l : LiveState) (now : Around) → IsGoing end → IsSound l → (end ≡ ends.Quiet → IsOver l.board) → Runs end modules l now l now
runs_none end modules l now going sound over = record {
  sound = sound;
  goes = record { goes = λ setup old live. is_run end (record { files = now.files; name = modules }) setup l old now.logged going live };
  quiet = over;
  read_fault = λ e. let bad : IsGoing ends.ReadFault = subst (λ (x : RunEnd). IsGoing x) e going in absurd bad;
  write_fault = λ e. let bad : IsGoing ends.WriteFault = subst (λ (x : RunEnd). IsGoing x) e going in absurd bad;
  keeps = keeps_same now;
}

-- what was refused, or not sent, has changed nothing
pub stays_same : (l : LiveState) → IsSound l → StaysLive l l
stays_same l sound = record { sound = sound; live = λ shelf setup old now live. live }

-- something was sent, and the board has not run since
pub runs_sent : (modules : List ℕ) (l m : LiveState) (now : Around) → StaysLive l m → Runs ends.Limit modules l now m now
runs_sent modules l m now stays = record {
  sound = stays.sound;
  goes = record { goes = λ setup old live. stays.live (record { files = now.files; name = modules }) setup old now.logged live };
  quiet = λ e. cc;
  read_fault = λ e. cc;
  write_fault = λ e. cc;
  keeps = keeps_same now;
}

-- the board runs, something is sent, and the board runs again, while the folder keeps its files
module _ (end next : RunEnd) (modules : List ℕ) (k l m n : LiveState) (a b c : Around) (going : IsGoing end) (first : Runs end modules k a l b) (sent : StaysLive l m) (second : Runs next modules m b n c) where
  here : GoesOn next (record { files = a.files; name = modules }) m b.logged n c.logged
  here = subst (λ (files : Option Files). GoesOn next (record { files = files; name = modules }) m b.logged n c.logged) first.keeps.0.0 second.goes

  pub runs_on : Runs next modules k a n c
  runs_on = record {
    sound = second.sound;
    goes = record {
      goes = λ setup old live.
          here.goes setup old (sent.live (record { files = a.files; name = modules }) setup old b.logged
          (is_live end (record { files = a.files; name = modules }) setup l old b.logged going (first.goes.goes setup old live)));
    };
    quiet = second.quiet;
    read_fault = λ e. rose_earlier _ _ _ first.keeps.0.1 second.keeps.0.1 (second.read_fault e);
    write_fault = λ e. rose_earlier _ _ _ first.keeps.1 second.keeps.1 (second.write_fault e);
    keeps = keeps_both a b c first.keeps second.keeps;
  }

-- ---- a run that went on from its limit
-- after it has ended like this, the run up to the steps made is at its limit
stopped : (end : RunEnd) (shelf : Shelf) (start board : State) (n : ℕ) (old now : Outside) → IsGoing end → Ran end shelf start n board old now → Ran ends.Limit shelf start board.steps board old now
stopped ends.Quiet shelf start board n old now going ran =
    let counted : board.steps ≡ ran.k = ran.made.counted in
    under_limit ends.Quiet ends.Limit shelf start board n board.steps old now ran (omega (arith, counted)) (sym counted) ran.made.fetches.last_is ran.written
stopped ends.Limit shelf start board n old now going ran =
    let at : n ≡ board.steps = omega (arith, ran.made.counted, ran.made.ended) in
    subst (λ limit. Ran ends.Limit shelf start limit board old now) at ran
stopped ends.ReadFault shelf start board n old now going ran = absurd going
stopped ends.WriteFault shelf start board n old now going ran = absurd going
stopped ends.NoMemory shelf start board n old now going ran = absurd going

-- the session with the board that it left
pub went : (end : RunEnd) (shelf : Shelf) (l : LiveState) (board : State) (most : ℕ) (now later : Outside)
    → ((start : State) (first : Outside) → Ran ends.Limit shelf start l.board.steps l.board first now → Ran end shelf start (l.board.steps + most) board first later)
    → GoesOn end shelf l now (record l { board = board }) later
went ends.Quiet shelf l board most now later on = record {
  goes = λ setup old live. record { fed = live.fed; ran = stopped ends.Quiet shelf _ board _ old later tt (on _ old live.ran) };
}
went ends.Limit shelf l board most now later on = record {
  goes = λ setup old live. record { fed = live.fed; ran = stopped ends.Limit shelf _ board _ old later tt (on _ old live.ran) };
}
went ends.ReadFault shelf l board most now later on = record { goes = λ setup old live. (l.board.steps + most, on _ old live.ran) }
went ends.WriteFault shelf l board most now later on = record { goes = λ setup old live. (l.board.steps + most, on _ old live.ran) }
went ends.NoMemory shelf l board most now later on = record { goes = λ setup old live. (l.board.steps + most, on _ old live.ran) }
