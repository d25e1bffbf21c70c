-- What the steps of a run wrote, as it is put, or counted.
use Rattle.std.proofs.Common.{◌≡◌, ◌≢◌, ℕ, ◌+◌, ◌++◌, [], Option, sym, ap, subst, ◌∙◌, add-one, length, length-append}
use Rattle.std.specs.Prelude.{take}
use Rattle.board_player.specs.KernelWorldReply.{Reply}
use Rattle.wind_outside.specs.Appending.{Appended, AppendedPrefix}
use Rattle.wind_outside.specs.Requests.{GrowsBy}
use Rattle.wind_outside.specs.declared.sink.Put.TheVariants as puts
use Rattle.generated_session.specs.Puts.{SinkLog}
use Rattle.board_player.specs.WindMachineState.{State}
use Rattle.board_player.specs.WindMachineRun.{Answers, after, text}
use Rattle.board_player.specs.WindMachineSilent.{SilentSteps, SilentLaw}
use Rattle.wind_session.specs.Pieces.{output_piece, pieces_of}
use Rattle.wind_session.specs.Runs.{IsCutOff, IsPut}
use Rattle.wind_session.specs.Telling.{CountsBytes, GoesOn}
use Rattle.wind_session.proofs.AppendingLemmas.{appended_both}
use Rattle.wind_session.proofs.Bursts.{silent_pieces}
use Rattle.wind_session.proofs.FetchLemmas.{grows_both}
use Rattle.wind_session.proofs.Saying.{pieces_before, pieces_on, text_before, text_on}

-- ---- silent steps
module _ (law : SilentLaw) (first now : SinkLog) (said : Answers) (s u t : State) (i k : ℕ) (here : u ≡ after said s i) (steps : SilentSteps k u t) where
  pub put_silent : IsPut first now said s i → IsPut first now said s (i + k)
  put_silent put = record {
    gained = subst (Appended first.bytes now.bytes) (sym (law said s u t i k here steps).text_is) put.gained;
    pieces = subst (GrowsBy first.pieces now.pieces) (sym (silent_pieces law said s u i here k t steps)) put.pieces;
  }

  pub count_silent : (bytes : ℕ) → CountsBytes bytes first now said s i → CountsBytes bytes first now said s (i + k)
  count_silent bytes (same, counted) = (same, counted ∙ ap length (sym (law said s u t i k here steps).text_is))

-- ---- a step more
module _ (first now : SinkLog) (said next : Answers) (s u t : State) (reply : Option Reply) (i : ℕ) (on : GoesOn said next s u t reply i) where
  -- its output was put
  pub put_on : (later : SinkLog) → IsPut first now said s i → Appended now.bytes later.bytes t.world.output → GrowsBy now.pieces later.pieces (output_piece t.world.output puts.Done)
      → IsPut first later next s (i + 1)
  put_on later put gained grown = record {
    gained = subst (Appended first.bytes later.bytes) (text_on said next s u t reply i on) (appended_both first.bytes now.bytes later.bytes (text said s i) t.world.output put.gained gained);
    pieces = subst (GrowsBy first.pieces later.pieces) (pieces_on said next s u t reply i on) (grows_both first.pieces now.pieces later.pieces (pieces_of said s i) (output_piece t.world.output puts.Done) put.pieces grown);
  }

  -- the put of its output failed
  pub cut_on : (later : SinkLog) → IsPut first now said s i → AppendedPrefix now.bytes later.bytes t.world.output → t.world.output ≢ [] → GrowsBy now.pieces later.pieces (output_piece t.world.output puts.Failed)
      → IsCutOff first later next s (i + 1)
  cut_on later put (n, gained) some grown =
      let end : t ≡ after next s (i + 1) = on.to in
      record {
        before = i;
        last = add-one i;
        wrote = subst (λ (v : State). v.world.output ≢ []) end some;
        part = n;
        gained = subst (λ (v : State). Appended first.bytes later.bytes (text next s i ++ take n v.world.output)) end
            (subst (λ w. Appended first.bytes later.bytes (w ++ take n t.world.output)) (text_before said next s u t reply i on)
            (appended_both first.bytes now.bytes later.bytes (text said s i) (take n t.world.output) put.gained gained));
        pieces = subst (λ (v : State). GrowsBy first.pieces later.pieces (pieces_of next s i ++ output_piece v.world.output puts.Failed)) end
            (subst (λ w. GrowsBy first.pieces later.pieces (w ++ output_piece t.world.output puts.Failed)) (pieces_before said next s u t reply i on)
            (grows_both first.pieces now.pieces later.pieces (pieces_of said s i) (output_piece t.world.output puts.Failed) put.pieces grown));
      }

  -- its output was counted
  pub count_on : (bytes : ℕ) → CountsBytes bytes first now said s i → CountsBytes (bytes + length t.world.output) first now next s (i + 1)
  count_on bytes (same, counted) = (
    same,
    ap (λ n. n + length t.world.output) counted
        ∙ sym (length-append (text said s i) t.world.output)
        ∙ ap length (text_on said next s u t reply i on),
  )
