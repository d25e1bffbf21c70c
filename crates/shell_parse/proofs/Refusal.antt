-- The first token that the automaton doesn't allow is the first with which no line continues.
use Rattle.std.proofs.Common.{◌≡◌, ℕ, suc, Bool, true, false, List, [], ◌∷◌, ◌++◌, take, Option, Some, None, ◌⊎◌, inl, inr, refl, sym, subst}
use Rattle.std.specs.Prelude.{slice_get}
use Rattle.shell_parse.specs.declared.token.Token.{Token}
use Rattle.shell_parse.specs.declared.allowed.Mode.{Mode}
use Rattle.shell_parse.specs.declared.allowed.Mode.TheVariants.{Start}
use Rattle.shell_parse.specs.declared.frames.Frame.{Frame}
use Rattle.shell_parse.specs.Reading.{MayCome, IsRefusedAt}
use Rattle.shell_parse.specs.Descent.{stmts_of}
use Rattle.shell_parse.specs.Allowed.{Place, step, begun_after, begun_from, begun}
use Rattle.shell_parse.proofs.Follow.{Lang, LangOf, word, completes, may_end, ends_there, ends_back}
use Rattle.shell_parse.proofs.Next.{back, forth}
use Rattle.shell_parse.proofs.Lines.{stmts_complete}

-- these tokens, and then what may follow
abbrev pub GoesOn : Mode → List Frame → List Token → Option Token → Type 0
GoesOn mode fs prefix (Some t) = (more : List Token) × Lang mode fs (prefix ++ t ∷ more)
GoesOn mode fs prefix None = Lang mode fs prefix

-- token number i after this place is the first that is refused
pub record Stops (mode : Mode) (fs : List Frame) (ts : List Token) (i : ℕ) : Type 0 where
  pub begins : (more : List Token) × Lang mode fs (take i ts ++ more)
  pub refused : GoesOn mode fs (take i ts) (slice_get ts i) → ⊥

-- these tokens may follow to the end, or the one after those that are allowed is refused
abbrev pub Outcome : Mode → List Frame → List Token → ℕ → Type 0
Outcome mode fs ts i = Lang mode fs ts ⊎ Stops mode fs ts i

at_end : (mode : Mode) (fs : List Frame) (b : Bool) → may_end mode fs ≡ b → Outcome mode fs [] 0
at_end mode fs true h = inl (ends_back mode fs h)
at_end mode fs false h = inr (record { begins = (word mode fs, completes mode fs); refused = λ l. let e : may_end mode fs ≡ true = ends_there mode fs l in cc })

onward : (mode : Mode) (fs : List Frame) (t : Token) (p : Place) → step mode fs t ≡ Some p → (us : List Token) → Lang p.mode p.frames us → Lang mode fs (t ∷ us)
onward mode fs t p e us h = back mode fs t us (subst (λ o. LangOf o us) (sym e) h)

inward : (mode : Mode) (fs : List Frame) (t : Token) (p : Place) → step mode fs t ≡ Some p → (us : List Token) → Lang mode fs (t ∷ us) → Lang p.mode p.frames us
inward mode fs t p e us h = subst (λ o. LangOf o us) e (forth mode fs t us h)

goes_inward : (mode : Mode) (fs : List Frame) (t : Token) (p : Place) → step mode fs t ≡ Some p → (prefix : List Token) (o : Option Token) → GoesOn mode fs (t ∷ prefix) o → GoesOn p.mode p.frames prefix o
goes_inward mode fs t p e prefix (Some u) (more, h) = (more, inward mode fs t p e (prefix ++ u ∷ more) h)
goes_inward mode fs t p e prefix None h = inward mode fs t p e prefix h

later : (mode : Mode) (fs : List Frame) (t : Token) (ts : List Token) (p : Place) (i : ℕ) → step mode fs t ≡ Some p → Outcome p.mode p.frames ts i → Outcome mode fs (t ∷ ts) (suc i)
later mode fs t ts p i e (inl h) = inl (onward mode fs t p e ts h)
later mode fs t ts p i e (inr stops) = inr (record {
  begins = (stops.begins.0, onward mode fs t p e (take i ts ++ stops.begins.0) stops.begins.1);
  refused = λ g. stops.refused (goes_inward mode fs t p e (take i ts) (slice_get ts i) g);
})

by_step : (mode : Mode) (fs : List Frame) (t : Token) (ts : List Token) (s : Option Place) → step mode fs t ≡ s
    → ((m : Mode) (gs : List Frame) → Outcome m gs ts (begun_from ts m gs)) → Outcome mode fs (t ∷ ts) (begun_after s (λ m gs. begun_from ts m gs))
by_step mode fs t ts None e go = inr (record {
  begins = (word mode fs, completes mode fs);
  refused = λ g. subst (λ o. LangOf o g.0) e (forth mode fs t g.0 g.1);
})
by_step mode fs t ts (Some p) e go = later mode fs t ts p (begun_from ts p.mode p.frames) e (go p.mode p.frames)

outcome : (ts : List Token) (mode : Mode) (fs : List Frame) → Outcome mode fs ts (begun_from ts mode fs)
outcome [] mode fs = at_end mode fs (may_end mode fs) refl
outcome (t ∷ ts) mode fs = by_step mode fs t ts (step mode fs t) refl (λ m gs. outcome ts m gs)

at_start : (ts : List Token) (i : ℕ) → Stops Start [] ts i → IsRefusedAt ts i
at_start ts i stops = record { begins = stops.begins; refused = λ m. stops.refused (by_token (take i ts) (slice_get ts i) m) }
  where
    by_token : (prefix : List Token) (o : Option Token) → MayCome prefix o → GoesOn Start [] prefix o
    by_token prefix (Some t) m = m
    by_token prefix None m = m

no_line : (ts : List Token) → stmts_of ts ≡ None → Outcome Start [] ts (begun_from ts Start []) → IsRefusedAt ts (begun_from ts Start [])
no_line ts h (inl (ss, line)) = let found : stmts_of ts ≡ Some ss = stmts_complete ts ss line in cc
no_line ts h (inr stops) = at_start ts (begun_from ts Start []) stops

-- if tokens have no statements, the one after those that begin some line is refused
pub begun_refused : (ts : List Token) → stmts_of ts ≡ None → IsRefusedAt ts (begun ts)
unfolding begun
begun_refused ts h = no_line ts h (outcome ts Start [])
