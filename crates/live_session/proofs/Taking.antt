-- The record from which a session goes on.
use Rattle.std.proofs.Common.{◌≡◌, ◌≢◌, ℕ, ◌<◌, ◌≤◌, true, List, [], ◌∷◌, ◌++◌, length, Option, None, Some, refl, sym, ap, ◌∙◌, subst, inl, inr, arith}
use Rattle.std.specs.Prelude.{IfSome, IsSomeAnd}
use Rattle.std.specs.Fmt.{decimal}
use Rattle.std.proofs.lemmas.List.{append_cancel_left, length-append}
use Rattle.wind_base.specs.Decimal.{decimal_value}
use Rattle.wind_base.specs.Limits.{longest_text_file, most_steps}
use Rattle.wind_base.specs.declared.board_kind.BoardKind.{BoardKind}
use Rattle.wind_base.specs.declared.board_kind.BoardKind.TheVariants as boards
use Rattle.wind_base.specs.declared.profile.Profile.{Profile}
use Rattle.wind_base.specs.declared.profile.Profile.TheVariants as profiles
use Rattle.wind_outside.specs.Files.{Files, IsFetchOf}
use Rattle.wind_outside.specs.declared.folder.Fetched.{Fetched}
use Rattle.wind_outside.specs.declared.folder.Fetched.TheVariants as fetched
use Rattle.live_session.specs.Command.{CommandState}
use Rattle.live_session.specs.Continuing.{Has, IsForeign, IsReasonFor, IsTakenFrom, Kept, file_path, unsaved_for}
use Rattle.live_session.specs.Cutting.{IsCut, IsTextOf}
use Rattle.live_session.specs.Saving.{board_digit, command_path, command_text, console_path, profile_digit, ticks_path}
use Rattle.live_session.specs.Session.{IsRefusal, status_unless}
use Rattle.live_session.specs.declared.reading.NotContinued.{NotContinued}
use Rattle.live_session.specs.declared.reading.NotContinued.TheVariants as reasons
use Rattle.live_session.specs.declared.reading.RecordFile.{RecordFile}
use Rattle.live_session.specs.declared.reading.RecordFile.TheVariants as parts
use Rattle.live_session.specs.declared.status.Status.TheVariants as status
use Rattle.live_session.proofs.ReplayText.{digits_few, limit_read}

-- ---- the limit
snoc_same : (xs ys : List ℕ) (x y : ℕ) → xs ++ x ∷ [] ≡ ys ++ y ∷ [] → (xs ≡ ys) × (x ≡ y)
snoc_same [] [] x y same = (refl, cc)
snoc_same [] (b ∷ ys) x y same = let rest : [] ≡ ys ++ y ∷ [] = cc in absurd (omega (arith, ap length rest, length-append ys (y ∷ [])))
snoc_same (a ∷ xs) [] x y same = let rest : xs ++ x ∷ [] ≡ [] = cc in absurd (omega (arith, ap length rest, length-append xs (x ∷ [])))
snoc_same (a ∷ xs) (b ∷ ys) x y same =
    let head : a ≡ b = cc in
    let rest : xs ++ x ∷ [] ≡ ys ++ y ∷ [] = cc in
    let more = snoc_same xs ys x y rest in
    (ap (λ c. c ∷ xs) head ∙ ap (λ (l : List ℕ). b ∷ l) more.0, more.1)

pub no_limit_empty : (text : List ℕ) → text ≡ [] → (limit : ℕ) → limit ≤ most_steps → text ≢ decimal limit ++ 10 ∷ []
no_limit_empty text none limit few is = absurd (omega (arith, ap length none, ap length is, length-append (decimal limit) (10 ∷ [])))

module _ (text digits : List ℕ) (last : ℕ) (split : text ≡ digits ++ last ∷ []) where
  pub no_limit_digits : decimal_value most_steps digits ≡ None → (limit : ℕ) → limit ≤ most_steps → text ≢ decimal limit ++ 10 ∷ []
  no_limit_digits none limit few is =
      let same = snoc_same digits (decimal limit) last 10 (sym split ∙ is) in
      let value : decimal_value most_steps digits ≡ Some limit = ap (λ (l : List ℕ). decimal_value most_steps l) same.0 ∙ limit_read limit few in
      absurd (cc)

  pub no_limit_end : last ≢ 10 → (limit : ℕ) → limit ≤ most_steps → text ≢ decimal limit ++ 10 ∷ []
  no_limit_end other limit few is = other (snoc_same digits (decimal limit) last 10 (sym split ∙ is)).1

  pub no_limit_other : (n : ℕ) → decimal_value most_steps digits ≡ Some n → decimal n ≢ digits → (limit : ℕ) → limit ≤ most_steps → text ≢ decimal limit ++ 10 ∷ []
  no_limit_other n found other limit few is =
      let same = snoc_same digits (decimal limit) last 10 (sym split ∙ is) in
      let value : decimal_value most_steps digits ≡ Some limit = ap (λ (l : List ℕ). decimal_value most_steps l) same.0 ∙ limit_read limit few in
      let number : n ≡ limit = cc in
      other (ap decimal number ∙ sym same.0)

  pub limit_there : (n : ℕ) → last ≡ 10 → decimal n ≡ digits → text ≡ decimal n ++ 10 ∷ []
  limit_there n end same = split ∙ ap (λ (l : List ℕ). l ++ last ∷ []) (sym same) ∙ ap (λ b. decimal n ++ b ∷ []) end

-- the words are short
profile_short : (p : Profile) → length (profile_digit p) ≡ 1
profile_short profiles.One = refl
profile_short profiles.Two = refl

board_short : (b : BoardKind) → length (board_digit b) ≡ 1
board_short boards.One = refl
board_short boards.Two = refl

pub words_short : (c : CommandState) (limit : ℕ) → limit ≤ most_steps → length (command_text c limit) ≤ longest_text_file
words_short c limit few =
    let profile = profile_short c.profile in
    let board = board_short c.board in
    let digits = digits_few limit few in
    simp length-append (omega arith)

-- ---- the words
module _ (c : CommandState) (words front : List ℕ) (fronts : (limit : ℕ) → front ++ (decimal limit ++ 10 ∷ []) ≡ command_text c limit) where
  pub other_limit : (text : List ℕ) → words ≡ front ++ text → ((limit : ℕ) → limit ≤ most_steps → text ≢ decimal limit ++ 10 ∷ []) → (limit : ℕ) → limit ≤ most_steps → words ≢ command_text c limit
  other_limit text split other limit few same = other limit few (append_cancel_left front text (decimal limit ++ 10 ∷ []) (sym split ∙ same ∙ sym (fronts limit)))

-- ---- files from which no session goes on
-- a text that isn't longer than a file of a record
not_over : (file : Option (List ℕ)) (bytes : List ℕ) → file ≡ Some bytes → length bytes ≤ longest_text_file → IsSomeAnd file (λ b. longest_text_file < length b) → ⊥
not_over file bytes is short over =
    let less : longest_text_file < length bytes = subst (λ (o : Option (List ℕ)). IsSomeAnd o (λ b. longest_text_file < length b)) is over in
    absurd (omega (arith, less, short))

long_file : (c : CommandState) (held : Files) (file : RecordFile) → IsSomeAnd (held (file_path c.record_folder file)) (λ bytes. longest_text_file < length bytes) → IsForeign c held
long_file c held parts.Console over = λ kept t. not_over (held (console_path c.record_folder)) t.console t.console_is t.short.0 over
long_file c held parts.Ticks over = λ kept t. not_over (held (ticks_path c.record_folder)) t.ticks t.ticks_is t.short.1 over
long_file c held parts.Command over = λ kept t. not_over (held (command_path c.record_folder)) (command_text c kept.limit) t.command_is (words_short c kept.limit t.few) over

-- ---- what a fetch says
pub long_there : (c : CommandState) (files : Option Files) (file : RecordFile) (path : List ℕ) (limit : ℕ) (fetch : Fetched) → path ≡ file_path c.record_folder file → limit ≡ longest_text_file → fetch ≡ fetched.TooLong
    → IfSome files (λ held. IsFetchOf (held path) limit fetch) → IfSome files (IsForeign c)
long_there c None file path limit fetch at most is h = tt
long_there c (Some held) file path limit fetch at most is h =
    let over = subst (λ (f : Fetched). IsFetchOf (held path) limit f) is h in
    let more = subst (λ n. IsSomeAnd (held path) (λ bytes. n < length bytes)) most over in
    long_file c held file (subst (λ (p : List ℕ). IsSomeAnd (held p) (λ bytes. longest_text_file < length bytes)) at more)

-- the same bytes, and the same files
pub has_as : (c : CommandState) (first files : Option Files) (file : RecordFile) (bytes text : List ℕ) → files ≡ first → text ≡ bytes → Has c files file bytes → Has c first file text
has_as c first files file bytes text same is has = subst (λ (f : Option Files). Has c f file text) same (subst (λ (b : List ℕ). Has c files file b) (sym is) has)

-- ---- why a session doesn't go on
pub reason_words : (c : CommandState) (files : Option Files) (words : List ℕ) (reason : NotContinued) → Has c files parts.Command words
    → (reason ≢ reasons.NoMemory → (limit : ℕ) → limit ≤ most_steps → words ≢ command_text c limit) → IsReasonFor c files reason
reason_words c None words (reasons.Foreign file) has other = tt
reason_words c (Some held) words (reasons.Foreign file) has other = λ kept t. other (λ e. cc) kept.limit t.few (let there = t.command_is in cc)
reason_words c files words reasons.Failed has other = tt
reason_words c files words reasons.NoMemory has other = tt

pub reason_texts : (c : CommandState) (files : Option Files) (console ticks : List ℕ) (reason : NotContinued) → Has c files parts.Console console → Has c files parts.Ticks ticks
    → (reason ≢ reasons.NoMemory → (kept_console kept_ticks : List ℕ) → IsCut console ticks kept_console kept_ticks → ⊥) → IsReasonFor c files reason
reason_texts c None console ticks (reasons.Foreign file) has_console has_ticks torn = tt
reason_texts c (Some held) console ticks (reasons.Foreign file) has_console has_ticks torn = λ kept t.
    let there = t.console_is in
    let there_too = t.ticks_is in
    let one : t.console ≡ console = cc in
    let two : t.ticks ≡ ticks = cc in
    torn (λ e. cc) kept.console kept.ticks (subst (λ (x : List ℕ). IsCut x ticks kept.console kept.ticks) one (subst (λ (x : List ℕ). IsCut t.console x kept.console kept.ticks) two t.cut))
reason_texts c files console ticks reasons.Failed has_console has_ticks torn = tt
reason_texts c files console ticks reasons.NoMemory has_console has_ticks torn = tt

pub reason_failed : (c : CommandState) (files : Option Files) (reason : NotContinued) → reason ≡ reasons.Failed → IsReasonFor c files reason
reason_failed c files reason is = subst (λ (r : NotContinued). IsReasonFor c files r) (sym is) tt

pub going_refusal : (reason : NotContinued) (c : CommandState) (files : Option Files) (rose : Type 0) → c.record_folder ≢ [] → c.continues ≡ true → IsReasonFor c files reason → (reason ≡ reasons.Failed → rose)
    → IsRefusal (status_unless (unsaved_for reason) status.Ended) c files rose
going_refusal (reasons.Foreign file) c files rose named going why failed = (named, inr (inl (going, why)))
going_refusal reasons.Failed c files rose named going why failed = (named, inr (inr (failed refl)))
going_refusal reasons.NoMemory c files rose named going why failed = tt

-- ---- what is taken over
pub taken_there : (c : CommandState) (files : Option Files) (words console ticks : List ℕ) (kept : Kept) → Has c files parts.Command words → Has c files parts.Console console → Has c files parts.Ticks ticks
    → words ≡ command_text c kept.limit → kept.limit ≤ most_steps → length console ≤ longest_text_file → length ticks ≤ longest_text_file → IsCut console ticks kept.console kept.ticks
    → IfSome files (IsTakenFrom c kept)
taken_there c None words console ticks kept has_words has_console has_ticks is few one two cut = tt
taken_there c (Some held) words console ticks kept has_words has_console has_ticks is few one two cut = record {
  console = console;
  ticks = ticks;
  console_is = has_console;
  ticks_is = has_ticks;
  command_is = has_words ∙ ap (λ (l : List ℕ). Some l) is;
  short = (one, two);
  few = few;
  cut = cut;
}

-- nothing is taken over
pub no_texts : IsTextOf [] [] 0 0
no_texts = record { events = []; text = refl; fits = tt; count = refl; last_is = refl; bytes = refl }
