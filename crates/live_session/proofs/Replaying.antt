-- What was shown is a prefix of what a replay of the record writes.
use Rattle.std.proofs.Common.{◌≡◌, ℕ, suc, ◌≤◌, List, [], ◌++◌, take, drop, sym, ap, ◌∙◌, subst, arith, append_assoc}
use Rattle.std.proofs.lemmas.List.{append-nil, take-append-drop}
use Rattle.wind_outside.specs.Files.{Files}
use Rattle.tick_file.specs.Schedule.{timetable_of}
use Rattle.tick_file.specs.Writing.{WritingLaw}
use Rattle.wind_machine.specs.State.{State}
use Rattle.wind_machine.specs.Extending.{Setup, booted}
use Rattle.wind_machine.specs.Run.{Answers, after, text}
use Rattle.wind_session.specs.Modules.{Shelf}
use Rattle.wind_session.specs.Outside.{Outside, sink_of}
use Rattle.wind_session.specs.Runs.{IsCutOff, IsPut, IsWritten, Ran}
use Rattle.wind_session.specs.declared.run.RunEnd.{RunEnd}
use Rattle.wind_session.specs.declared.run.RunEnd.TheVariants as ends
use Rattle.live_session.specs.Command.{CommandState}
use Rattle.live_session.specs.Ending.{IsAfterRun}
use Rattle.live_session.specs.Journal.{IsCurrent, IsPrefixShown, IsReplay, IsReplayed}
use Rattle.live_session.specs.Seen.{IsRun, IsSound, LiveState}
use Rattle.live_session.proofs.ReplayText.{replay_text}
use Rattle.live_session.proofs.Starting.{planned}
use Rattle.std.specs.Prelude.{Option}

-- ---- what the steps wrote was shown, or a prefix of it
whole_text : (said : Answers) (s : State) (before part : ℕ)
    → text said s (suc before) ≡ (text said s before ++ take part (after said s (suc before)).world.output) ++ drop part (after said s (suc before)).world.output
whole_text said s before part =
    ap (λ out. text said s before ++ out) (sym (take-append-drop part (after said s (suc before)).world.output))
    ∙ sym (append_assoc (text said s before) (take part (after said s (suc before)).world.output) (drop part (after said s (suc before)).world.output))

all_shown : (said : Answers) (s : State) (k : ℕ) (old now : Outside) → IsPut (sink_of old) (sink_of now) said s k → IsPrefixShown old.bytes now.bytes (text said s k)
all_shown said s k old now put = record { shown = text said s k; rest = []; whole_is = sym (append-nil (text said s k)); gained = put.gained }

part_shown : (said : Answers) (s : State) (k : ℕ) (old now : Outside) → IsCutOff (sink_of old) (sink_of now) said s k → IsPrefixShown old.bytes now.bytes (text said s k)
part_shown said s k old now cut = record {
  shown = text said s cut.before ++ take cut.part (after said s k).world.output;
  rest = drop cut.part (after said s k).world.output;
  whole_is =
      subst (λ n. text said s n ≡ (text said s cut.before ++ take cut.part (after said s n).world.output) ++ drop cut.part (after said s n).world.output) (sym cut.last)
      (whole_text said s cut.before cut.part);
  gained = cut.gained;
}

pub written_prefix : (end : RunEnd) (said : Answers) (s : State) (k : ℕ) (old now : Outside) → IsWritten end said s k old now → IsPrefixShown old.bytes now.bytes (text said s k)
written_prefix ends.Quiet said s k old now put = all_shown said s k old now put
written_prefix ends.Limit said s k old now put = all_shown said s k old now put
written_prefix ends.ReadFault said s k old now put = all_shown said s k old now put
written_prefix ends.NoMemory said s k old now put = all_shown said s k old now put
written_prefix ends.WriteFault said s k old now cut = part_shown said s k old now cut

-- ---- a run under a limit that lets it make its steps
by_run : (end : RunEnd) (shelf : Shelf) (start board : State) (n limit : ℕ) (old now : Outside) → Ran end shelf start n board old now → board.steps ≤ limit → IsReplay shelf start limit old.bytes now.bytes
by_run end shelf start board n limit old now ran within = record {
  said = ran.said;
  count = ran.k;
  part = record { within = omega (arith, ran.made.counted, within); steps = ran.made.part.steps };
  answers = ran.made.answers;
  prefix = written_prefix end ran.said start ran.k old now ran.written;
}

pub by_end : (end : RunEnd) (shelf : Shelf) (setup : Setup) (console ticks : List ℕ) (board : State) (limit : ℕ) (old now : Outside)
    → IsAfterRun end shelf setup console ticks board old now → board.steps ≤ limit → IsReplay shelf (booted setup console (timetable_of ticks)) limit old.bytes now.bytes
by_end ends.Quiet shelf setup console ticks board limit old now live within = by_run ends.Limit shelf (booted setup console (timetable_of ticks)) board board.steps limit old now live.ran within
by_end ends.Limit shelf setup console ticks board limit old now live within = by_run ends.Limit shelf (booted setup console (timetable_of ticks)) board board.steps limit old now live.ran within
by_end ends.ReadFault shelf setup console ticks board limit old now ended within = by_run ends.ReadFault shelf (booted setup console (timetable_of ticks)) board ended.0 limit old now ended.1 within
by_end ends.WriteFault shelf setup console ticks board limit old now ended within = by_run ends.WriteFault shelf (booted setup console (timetable_of ticks)) board ended.0 limit old now ended.1 within
by_end ends.NoMemory shelf setup console ticks board limit old now ended within = by_run ends.NoMemory shelf (booted setup console (timetable_of ticks)) board ended.0 limit old now ended.1 within

-- ---- files that are current
pub replayed_here : WritingLaw → (c : CommandState) (shelf : Shelf) (setup : Setup) (l : LiveState) (end : RunEnd) (old now : Outside) (files : Option Files)
    → IsSound l → IsRun end shelf setup l old now → IsCurrent c l files → IsReplayed c shelf setup old.bytes files now.bytes
replayed_here law c shelf setup l end old now files sound run current = record {
  console = l.console.bytes;
  ticks = l.ticks.bytes;
  limit = current.limit;
  held = current.held;
  words = replay_text c current.limit current.few;
  planned = planned law l.console l.ticks l.lines l.last sound.console sound.kept;
  replay = by_end end shelf setup l.console.bytes l.ticks.bytes l.board current.limit old now run current.within;
}
