-- A run whose module files are kept goes on.
use Rattle.std.proofs.Common.{◌≡◌, ℕ, zero, suc, ◌+◌, ◌<◌, ◌≤◌, ◌++◌, Bool, true, false, List, [], Option, Some, None, IsSome, refl, sym, ap, ap₂, ◌∙◌, subst, arith, below_more, add-one}
use Rattle.std.specs.Prelude.{IfSome, unwrap_or}
use Rattle.std.specs.Str.{IsUtf8, is_utf8}
use Rattle.std.proofs.lemmas.Bool.{false_from_ne_true}
use Rattle.std.proofs.lemmas.List.{append-nil, append_assoc}
use Rattle.std.proofs.lemmas.Str.{IsUtf8-from_is_utf8}
use Rattle.kept_files.specs.Kept.{Grows, Kept}
use Rattle.board_player.specs.LiveLoadingSaid.{FileSaid, Missing}
use Rattle.board_player.specs.WindMachineState.{State}
use Rattle.board_player.specs.WindMachineMachine.{Steps, file_asked, machine_step}
use Rattle.board_player.specs.WindMachineSilent.{IsSilentStep, SilentSteps}
use Rattle.wind_session.specs.Paths.{path_in}
use Rattle.again.specs.Libraries.{Library, Reaches, at, said_for, said_in, text_in}
use Rattle.again.specs.Reaching.{Agrees, GoesBy, GoesOn, IsAt, IsKept}

-- ---- a library that gives all answers gives those that were kept before
kept_before : (text : Bool) (old new : Option FileSaid) (said : FileSaid) → IfSome old (λ x. new ≡ Some x) → IsKept text new said → IsKept text old said
kept_before false old new said grows h = h
kept_before true None new said grows h = tt
kept_before true (Some x) new said grows h = subst (λ (o : Option FileSaid). IsKept true o said) grows h

pub agreed : (modules : List ℕ) (old new : Kept) → Grows old new → (library : Library) → Agrees modules new library → Agrees modules old library
agreed modules old new grows library agrees = λ name. kept_before (is_utf8 name) (old (path_in modules name)) (new (path_in modules name)) (library name) (grows (path_in modules name)) (agrees name)

pub stays_at : (modules : List ℕ) (old new : Kept) → Grows old new → (start s : State) (k : ℕ) (written : List ℕ) → IsAt modules old start k s written → IsAt modules new start k s written
stays_at modules old new grows start s k written here = λ library agrees. here library (agreed modules old new grows library agrees)

-- ---- one step more
module _ (library : Library) (start s t : State) (k : ℕ) (written : List ℕ) (here : Reaches library start k s written) (step : machine_step (said_in library s) s ≡ Some t) where
  there : machine_step (said_in library (at library start k)) (at library start k) ≡ Some t
  there = subst (λ (v : State). machine_step (said_in library v) v ≡ Some t) here.state step

  comes : t ≡ at library start (suc k)
  comes = ap (λ o. unwrap_or o (at library start k)) (sym there)

  one_more : Reaches library start (suc k) t (written ++ t.world.output)
  one_more = record {
    state = comes;
    made = λ j below. below_more (λ i. IsSome (machine_step (said_in library (at library start i)) (at library start i))) k here.made (subst IsSome (sym there) refl) j (rw add-one below);
    text = ap₂ (λ (xs ys : List ℕ). xs ++ ys) here.text (ap (λ (v : State). v.world.output) comes);
  }

  pub further : Reaches library start (k + 1) t (written ++ t.world.output)
  further = subst (λ i. Reaches library start i t (written ++ t.world.output)) (sym (add-one k)) one_more

-- one that asks for no file
pub steps_on : (modules : List ℕ) (kept : Kept) (s t : State) → Steps s t → GoesOn modules kept kept 1 s t t.world.output
steps_on modules kept s t steps = λ start k written here library agrees. further library start s t k written (here library agrees) (steps (said_in library s))

-- one that asks for a file, whose answer is kept then
module _ (modules : List ℕ) (old new : Kept) (s t : State) (name : List ℕ) (said : FileSaid) (grows : Grows old new) (asked : file_asked s ≡ Some name) (step : machine_step said s ≡ Some t) where
  given : (library : Library) → library name ≡ said → machine_step (said_in library s) s ≡ Some t
  given library own = subst (λ x. machine_step x s ≡ Some t) (sym (ap (said_for library) asked ∙ own)) step

  loads : ((library : Library) → Agrees modules new library → library name ≡ said) → GoesOn modules old new 1 s t t.world.output
  loads own = λ start k written here library agrees. further library start s t k written (stays_at modules old new grows start s k written here library agrees) (given library (own library agrees))

  -- its name is a text
  pub loads_text : is_utf8 name ≡ true → new (path_in modules name) ≡ Some said → GoesOn modules old new 1 s t t.world.output
  loads_text text kept = loads (λ library agrees.
      subst (λ (o : Option FileSaid). IsKept true o (library name)) kept
      (subst (λ b. IsKept b (new (path_in modules name)) (library name)) text (agrees name)))

  -- or it isn't
  pub loads_none : is_utf8 name ≡ false → said ≡ Missing → GoesOn modules old new 1 s t t.world.output
  loads_none text missing = loads (λ library agrees. subst (λ b. IsKept b (new (path_in modules name)) (library name)) text (agrees name) ∙ sym missing)

-- ---- many steps
module _ (modules : List ℕ) where
  pub none_made : (kept : Kept) (s t : State) → t ≡ s → GoesOn modules kept kept 0 s t []
  none_made kept s t same = λ start k written here library agrees.
      subst (Reaches library start (k + 0) t) (sym (append-nil written))
      (subst (λ i. Reaches library start i t written) (let e : k ≡ k + 0 = omega arith in e)
      (subst (λ (v : State). Reaches library start k v written) (sym same) (here library agrees)))

  pub both : (old mid new : Kept) (n m : ℕ) (s u t : State) (more last : List ℕ) → GoesOn modules old mid n s u more → GoesOn modules mid new m u t last → GoesOn modules old new (n + m) s t (more ++ last)
  both old mid new n m s u t more last first then = λ start k written here library agrees.
      subst (Reaches library start (k + (n + m)) t) (append_assoc written more last)
      (subst (λ i. Reaches library start i t ((written ++ more) ++ last)) (let e : (k + n) + m ≡ k + (n + m) = omega arith in e)
      (then start (k + n) (written ++ more) (first start k written here) library agrees))

  pub silent_on : (kept : Kept) (n : ℕ) (s t : State) → SilentSteps n s t → GoesOn modules kept kept n s t []
  silent_on kept zero s t same = none_made kept s t same
  silent_on kept (suc n) s t steps =
      let before = silent_on kept n s steps.0 steps.1 in
      let step : IsSilentStep steps.0 t = steps.2 in
      subst (λ m. GoesOn modules kept kept m s t []) (add-one n)
      (subst (GoesOn modules kept kept (n + 1) s t) step.silent
      (both kept kept kept n 1 s steps.0 t [] t.world.output before (steps_on modules kept steps.0 t step.steps)))

-- a step that wrote nothing
pub wrote_none : (modules : List ℕ) (old new : Kept) (n : ℕ) (s t : State) → t.world.output ≡ [] → GoesOn modules old new n s t t.world.output → GoesOn modules old new n s t []
wrote_none modules old new n s t none on = subst (GoesOn modules old new n s t) none on

-- from a board that is the same
pub from_same : (modules : List ℕ) (old new : Kept) (n : ℕ) (s u t : State) (more : List ℕ) → u ≡ s → GoesOn modules old new n u t more → GoesOn modules old new n s t more
from_same modules old new n s u t more same on = subst (λ (v : State). GoesOn modules old new n v t more) same on

-- to a board that is the same
pub to_same : (modules : List ℕ) (old new : Kept) (n : ℕ) (s u t : State) (more : List ℕ) → t ≡ u → GoesOn modules old new n s u more → GoesOn modules old new n s t more
to_same modules old new n s u t more same on = subst (λ (v : State). GoesOn modules old new n s v more) (sym same) on

-- a name that isn't UTF-8
pub not_text : (name : List ℕ) → (IsUtf8 name → ⊥) → is_utf8 name ≡ false
not_text name none = false_from_ne_true (is_utf8 name) (λ e. none (IsUtf8-from_is_utf8 name e))

-- more answers are kept
pub kept_more : (modules : List ℕ) (old mid new : Kept) (n : ℕ) (s t : State) (more : List ℕ) → Grows mid new → GoesOn modules old mid n s t more → GoesOn modules old new n s t more
kept_more modules old mid new n s t more grows on = λ start k written here library agrees. on start k written here library (agreed modules mid new grows library agrees)
