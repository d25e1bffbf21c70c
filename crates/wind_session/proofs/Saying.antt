-- What is said at one step more, and what is told of it.
use Rattle.std.proofs.Common.{◌≡◌, ℕ, ◌+◌, List, Option, zero, suc, ◌<◌, cond, eqb, ◌++◌, Some, IsSome, refl, sym, ap, ◌∙◌, subst, arith, below_more, add-one}
use Rattle.std.specs.Prelude.{unwrap_or}
use Rattle.std.proofs.lemmas.Bool.{eq-eqb, ne_eqb}
use Rattle.board_player.specs.KernelWorldReply.{Reply}
use Rattle.board_player.specs.LiveLoadingSaid.{FileSaid}
use Rattle.board_player.specs.WindMachineState.{State}
use Rattle.board_player.specs.WindMachineMachine.{file_asked, machine_step}
use Rattle.board_player.specs.WindMachineReplies.{step_reply}
use Rattle.board_player.specs.WindMachineRun.{Answers, after, text, IsPart}
use Rattle.wind_outside.specs.declared.sink.Put.TheVariants as puts
use Rattle.wind_session.specs.Modules.{Shelf, IsSaid, AreSaid}
use Rattle.wind_session.specs.Fetches.{outcome_said, requests_of, step_request}
use Rattle.wind_session.specs.Pieces.{output_piece, pieces_of}
use Rattle.wind_session.specs.Telling.{GoesOn}

-- the same is said at the first steps
abbrev pub Agree : Answers → Answers → ℕ → Type 0
Agree a b k = (j : ℕ) → j < k → a j ≡ b j

fewer : (a b : Answers) (k : ℕ) → Agree a b (suc k) → Agree a b k
fewer a b k same j below = same j (omega (arith, below))

pub same_after : (a b : Answers) (s : State) (k : ℕ) → Agree a b k → after a s k ≡ after b s k
same_after a b s zero same = refl
same_after a b s (suc k) same =
    let before = same_after a b s k (fewer a b k same) in
    ap (λ x. unwrap_or (machine_step x (after a s k)) (after a s k)) (same k (omega arith))
    ∙ ap (λ u. unwrap_or (machine_step (b k) u) u) before

pub same_text : (a b : Answers) (s : State) (k : ℕ) → Agree a b k → text a s k ≡ text b s k
same_text a b s zero same = refl
same_text a b s (suc k) same =
    ap (λ t. t ++ (after a s (suc k)).world.output) (same_text a b s k (fewer a b k same))
    ∙ ap (λ (u : State). text b s k ++ u.world.output) (same_after a b s (suc k) same)

pub same_requests : (folder : List ℕ) (a b : Answers) (s : State) (k : ℕ) → Agree a b k → requests_of folder a s k ≡ requests_of folder b s k
same_requests folder a b s zero same = refl
same_requests folder a b s (suc k) same =
    ap (λ r. r ++ step_request folder (file_asked (after a s k)) (outcome_said (a k))) (same_requests folder a b s k (fewer a b k same))
    ∙ ap (λ (u : State). requests_of folder b s k ++ step_request folder (file_asked u) (outcome_said (a k))) (same_after a b s k (fewer a b k same))
    ∙ ap (λ x. requests_of folder b s k ++ step_request folder (file_asked (after b s k)) (outcome_said x)) (same k (omega arith))

pub same_pieces : (a b : Answers) (s : State) (k : ℕ) → Agree a b k → pieces_of a s k ≡ pieces_of b s k
same_pieces a b s zero same = refl
same_pieces a b s (suc k) same =
    ap (λ p. p ++ output_piece (after a s (suc k)).world.output puts.Done) (same_pieces a b s k (fewer a b k same))
    ∙ ap (λ (u : State). pieces_of b s k ++ output_piece u.world.output puts.Done) (same_after a b s (suc k) same)

-- this is said at step i, and what was said at the others
abbrev pub saying : Answers → ℕ → FileSaid → Answers
saying said i x j = cond (eqb j i) x (said j)

pub as_before : (said : Answers) (i : ℕ) (x : FileSaid) → Agree said (saying said i x) i
as_before said i x j below = sym (ap (λ b. cond b x (said j)) (ne_eqb j i (λ e. omega (arith, below, e))))

pub said_now : (said : Answers) (i : ℕ) (x : FileSaid) → saying said i x i ≡ x
said_now said i x = ap (λ b. cond b x (said i)) (eq-eqb i i refl)

-- ---- after i steps another one was made, given what was said of its file
module _ (shelf : Shelf) (said : Answers) (s u t : State) (i : ℕ) (x : FileSaid) (here : u ≡ after said s i) (step : machine_step x u ≡ Some t) where
  abbrev pub now : Answers
  now = saying said i x

  still : after said s i ≡ after now s i
  still = same_after said now s i (as_before said i x)

  made : machine_step (now i) (after now s i) ≡ Some t
  made =
      subst (λ y. machine_step y (after now s i) ≡ Some t) (sym (said_now said i x))
      (subst (λ (v : State). machine_step x v ≡ Some t) (here ∙ still) step)

  pub state_now : t ≡ after now s (suc i)
  state_now = ap (λ o. unwrap_or o (after now s i)) (sym made)

  pub part_now : (n : ℕ) → IsPart said s n i → i < n → IsPart now s n (suc i)
  part_now n p h = record {
    within = omega arith;
    steps = λ j below. below_more (λ k. IsSome (machine_step (now k) (after now s k))) i earlier (subst IsSome (sym made) refl) j (rw add-one below);
  }
    where
      earlier : (j : ℕ) → j < i → IsSome (machine_step (now j) (after now s j))
      earlier j below =
          subst (λ (v : State). IsSome (machine_step (now j) v)) (same_after said now s j (λ k less. as_before said i x k (omega (arith, less, below))))
          (subst (λ y. IsSome (machine_step y (after said s j))) (as_before said i x j below) (p.steps j below))

  pub answers_now : AreSaid shelf said s i → IsSaid shelf u x → AreSaid shelf now s (suc i)
  answers_now appended_now own = λ j below. below_more (λ k. IsSaid shelf (after now s k) (now k)) i earlier (subst (IsSaid shelf (after now s i)) (sym (said_now said i x)) (subst (λ (v : State). IsSaid shelf v x) (here ∙ still) own)) j (rw add-one below)
    where
      earlier : (j : ℕ) → j < i → IsSaid shelf (after now s j) (now j)
      earlier j below =
          subst (λ (v : State). IsSaid shelf v (now j)) (same_after said now s j (λ k less. as_before said i x k (omega (arith, less, below))))
          (subst (IsSaid shelf (after said s j)) (as_before said i x j below) (appended_now j below))

  pub requests_now : requests_of shelf.name now s (suc i) ≡ requests_of shelf.name said s i ++ step_request shelf.name (file_asked u) (outcome_said x)
  requests_now =
      ap (λ r. r ++ step_request shelf.name (file_asked (after now s i)) (outcome_said (now i))) (sym (same_requests shelf.name said now s i (as_before said i x)))
      ∙ ap (λ (v : State). requests_of shelf.name said s i ++ step_request shelf.name (file_asked v) (outcome_said (now i))) (sym (here ∙ still))
      ∙ ap (λ y. requests_of shelf.name said s i ++ step_request shelf.name (file_asked u) (outcome_said y)) (said_now said i x)

-- ---- a step more was made after i steps
-- of the files, the same is said before it
pub goes_on : (shelf : Shelf) (said : Answers) (s u t : State) (reply : Option Reply) (i : ℕ) (x : FileSaid) → u ≡ after said s i → machine_step x u ≡ Some t → reply ≡ step_reply x u
    → GoesOn said (saying said i x) s u t reply i
goes_on shelf said s u t reply i x here step replied = record {
  same = as_before said i x;
  from = here;
  to = state_now shelf said s u t i x here step ∙ ap (after (saying said i x) s) (sym (add-one i));
  replied = replied ∙ ap (λ y. step_reply y u) (sym (said_now said i x));
}

module _ (said next : Answers) (s u t : State) (reply : Option Reply) (i : ℕ) (on : GoesOn said next s u t reply i) where
  -- the states before it and after it
  pub state_before : u ≡ after next s i
  state_before = on.from ∙ same_after said next s i on.same

  pub state_after : t ≡ after next s (suc i)
  state_after = on.to ∙ ap (after next s) (add-one i)

  -- what the steps before it wrote, and their pieces
  pub text_before : text said s i ≡ text next s i
  text_before = same_text said next s i on.same

  pub pieces_before : pieces_of said s i ≡ pieces_of next s i
  pieces_before = same_pieces said next s i on.same

  -- and with its output
  pub text_on : text said s i ++ t.world.output ≡ text next s (i + 1)
  text_on =
      ap (λ w. w ++ t.world.output) text_before
      ∙ ap (λ (v : State). text next s i ++ v.world.output) state_after
      ∙ ap (text next s) (sym (add-one i))

  pub pieces_on : pieces_of said s i ++ output_piece t.world.output puts.Done ≡ pieces_of next s (i + 1)
  pieces_on =
      ap (λ p. p ++ output_piece t.world.output puts.Done) pieces_before
      ∙ ap (λ (v : State). pieces_of next s i ++ output_piece v.world.output puts.Done) state_after
      ∙ ap (pieces_of next s) (sym (add-one i))
