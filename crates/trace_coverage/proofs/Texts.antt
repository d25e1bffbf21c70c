-- The text of a coverage, and the coverage that is kept.
use Rattle.std.proofs.Common.{◌≡◌, ℕ, true, false, not, cond, List, [], ◌∷◌, ◌++◌, map, Option, None, Some, Result, Ok, Err, refl, sym, ap, ap₂, subst, ◌∙◌, append_assoc}
use Rattle.std.specs.Prelude.{OnOk}
use Rattle.std.proofs.lemmas.List.{append-nil}
use Rattle.module_loader.specs.declared.module.LoadedModule.{LoadedModule}
use Rattle.trace_coverage.specs.Covered.{CoverageState, CoveredState, is_live, leaving, staying, with_executed, with_new, with_table, with_word}
use Rattle.trace_coverage.specs.Text.{Holds, Range, coverage_text, module_text, modules_text, range_line, range_lines, texts_of_gone}
use Rattle.trace_coverage.specs.declared.coverage.Coverage.{Coverage}

-- ---- texts
pub lines_append : (rs ss : List Range) → range_lines (rs ++ ss) ≡ range_lines rs ++ range_lines ss
lines_append [] ss = refl
lines_append (r ∷ rs) ss = ap (λ t. range_line r ++ t) (lines_append rs ss) ∙ sym (append_assoc (range_line r) (range_lines rs) (range_lines ss))

pub modules_append : (ms ns : List CoveredState) → modules_text (ms ++ ns) ≡ modules_text ms ++ modules_text ns
modules_append [] ns = refl
modules_append (m ∷ ms) ns = ap (λ t. module_text m ++ t) (modules_append ms ns) ∙ sym (append_assoc (module_text m) (modules_text ms) (modules_text ns))

-- the text of the modules that left
pub texts_gone : (rows : List (ℕ × LoadedModule)) (ms : List CoveredState) → texts_of_gone rows ms ≡ modules_text (leaving rows ms)
texts_gone rows [] = refl
texts_gone rows (m ∷ ms) =
    elim (is_live rows m) as (λ v. cond v [] (module_text m) ++ texts_of_gone rows ms ≡ modules_text (cond (not v) (m ∷ leaving rows ms) (leaving rows ms)))
    [ true ↦ texts_gone rows ms | false ↦ ap (λ t. module_text m ++ t) (texts_gone rows ms) ]

-- ---- the coverage that is kept
pub ok_leads : {A E : Type 0} (r : Result A E) (P Q : Type 0) → (P → Q) → OnOk r P → OnOk r Q
ok_leads (Ok x) P Q f h = f h
ok_leads (Err e) P Q f h = tt

module _ (old new : Coverage) (given : List ℕ) (c : CoverageState) (holds : Holds old given c) where
  -- an instruction was executed
  pub held_executed : (o : Option ℕ) (a : ℕ) → o ≡ Some a → new.live.items ≡ map (with_word a) old.live.items → new.gone.items ≡ old.gone.items → Holds new given (with_executed o c)
  held_executed o a is live gone =
      subst (λ (p : Option ℕ). Holds new given (with_executed p c)) (sym is)
      (record { live = live ∙ ap (map (with_word a)) holds.live; gone = ap (λ (t : List ℕ). given ++ t) gone ∙ holds.gone })

  -- none was
  pub held_same : (o : Option ℕ) → o ≡ None → Holds old given (with_executed o c)
  held_same o is = subst (λ (p : Option ℕ). Holds old given (with_executed p c)) (sym is) holds

  -- the table has these modules now
  pub held_table : (rows : List (ℕ × LoadedModule)) (stayed : List CoveredState) → new.gone.items ≡ old.gone.items ++ texts_of_gone rows old.live.items
      → stayed ≡ staying rows old.live.items → new.live.items ≡ with_new rows stayed → Holds new given (with_table rows c)
  held_table rows stayed gone kept live = record {
    live = live ∙ ap (with_new rows) (kept ∙ ap (staying rows) holds.live);
    gone =
        ap (λ (t : List ℕ). given ++ t) gone
        ∙ sym (append_assoc given old.gone.items (texts_of_gone rows old.live.items))
        ∙ ap₂ (λ (s t : List ℕ). s ++ t) holds.gone (ap (texts_of_gone rows) holds.live ∙ texts_gone rows c.live)
        ∙ sym (modules_append c.gone (leaving rows c.live));
  }

  -- the text of both
  pub held_text : (text : List ℕ) → text ≡ old.gone.items ++ modules_text old.live.items → given ++ text ≡ coverage_text c
  held_text text is =
      ap (λ (t : List ℕ). given ++ t) is
      ∙ sym (append_assoc given old.gone.items (modules_text old.live.items))
      ∙ ap₂ (λ (s t : List ℕ). s ++ t) holds.gone (ap modules_text holds.live)

  -- the text was put
  pub held_put : new.live.items ≡ old.live.items → new.gone.items ≡ [] → Holds new (given ++ old.gone.items) c
  held_put live gone = record {
    live = live ∙ holds.live;
    gone = ap (λ (t : List ℕ). (given ++ old.gone.items) ++ t) gone ∙ append-nil (given ++ old.gone.items) ∙ holds.gone;
  }
