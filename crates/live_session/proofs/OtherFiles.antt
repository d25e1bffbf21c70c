-- The files that are none of a record's stay as they are.
use Rattle.std.proofs.Common.{◌≡◌, ◌≢◌, ℕ, Bool, true, false, List, [], ◌∷◌, Option, None, Some, eqb, length, refl, ◌∙◌, subst, sym}
use Rattle.wind_outside.specs.Files.{Files}
use Rattle.live_session.specs.Command.{CommandState}
use Rattle.live_session.specs.Saving.{IsOther, IsSpared, KeepsOthers, KeepsThose, WritesFor, WritesOnly}

pub keeps_none : (Spared : List ℕ → Type 0) (files : Option Files) → KeepsThose Spared files files
keeps_none Spared None = refl
keeps_none Spared (Some held) = λ name other. refl

pub keeps_both : (Spared : List ℕ → Type 0) (a b c : Option Files) → KeepsThose Spared a b → KeepsThose Spared b c → KeepsThose Spared a c
keeps_both Spared None b c first second = subst (λ (x : Option Files). KeepsThose Spared x c) first second
keeps_both Spared (Some a) None c first second = elim first [ ]
keeps_both Spared (Some a) (Some b) None first second = elim second [ ]
keeps_both Spared (Some a) (Some b) (Some c) first second = λ name other. second name other ∙ first name other

pub keeps_same : (Spared : List ℕ → Type 0) (a b : Option Files) → b ≡ a → KeepsThose Spared a b
keeps_same Spared a b same = subst (λ (x : Option Files). KeepsThose Spared a x) (sym same) (keeps_none Spared a)

-- if fewer files are spared, they are kept too
pub keeps_fewer : (Spared Fewer : List ℕ → Type 0) (a b : Option Files) → ((name : List ℕ) → Fewer name → Spared name) → KeepsThose Spared a b → KeepsThose Fewer a b
keeps_fewer Spared Fewer None b so kept = kept
keeps_fewer Spared Fewer (Some a) None so kept = elim kept [ ]
keeps_fewer Spared Fewer (Some a) (Some b) so kept = λ name fewer. kept name (so name fewer)

false_of : (b : Bool) → (b ≡ true → ⊥) → b ≡ false
false_of true h = absurd (h refl)
false_of false h = refl

-- ---- and nothing is written without a folder for the record
pub writes_none : (folder : List ℕ) (files : Option Files) → WritesOnly folder files files
writes_none folder files = record { nothing = λ e. refl; others = keeps_none (IsOther folder) files }

pub writes_kept : (folder : List ℕ) (old new : Option Files) → new ≡ old → WritesOnly folder old new
writes_kept folder old new same = subst (λ (files : Option Files). WritesOnly folder old files) (sym same) (writes_none folder old)

pub writes_both : (folder : List ℕ) (a b c : Option Files) → WritesOnly folder a b → WritesOnly folder b c → WritesOnly folder a c
writes_both folder a b c first second = record { nothing = λ e. second.nothing e ∙ first.nothing e; others = keeps_both (IsOther folder) a b c first.others second.others }

pub writes_record : (folder : List ℕ) (old new : Option Files) → folder ≢ [] → KeepsOthers folder old new → WritesOnly folder old new
writes_record folder old new named others = record { nothing = λ e. absurd (named e); others = others }

-- ---- what a session with a command may write
pub writes_for : (c : CommandState) (old new : Option Files) → WritesOnly c.record_folder old new → WritesFor c old new
writes_for c old new only = record { nothing = only.nothing; others = keeps_fewer (IsOther c.record_folder) (IsSpared c) old new (λ name spared. spared.0) only.others }

pub for_kept : (c : CommandState) (old new : Option Files) → new ≡ old → WritesFor c old new
for_kept c old new same = writes_for c old new (writes_kept c.record_folder old new same)

pub for_both : (c : CommandState) (a b d : Option Files) → WritesFor c a b → WritesFor c b d → WritesFor c a d
for_both c a b d first second = record { nothing = λ e. second.nothing e ∙ first.nothing e; others = keeps_both (IsSpared c) a b d first.others second.others }

pub for_record : (c : CommandState) (old new : Option Files) → c.record_folder ≢ [] → KeepsThose (IsSpared c) old new → WritesFor c old new
for_record c old new named others = record { nothing = λ e. absurd (named e); others = others }

-- a name that has bytes isn't empty
pub named_by : (name : List ℕ) → eqb (length name) 0 ≡ false → name ≢ []
named_by [] e = absurd (cc)
named_by (b ∷ bs) e = λ same. cc
