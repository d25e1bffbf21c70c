-- The draft of an assembled text fits a module.
use Rattle.std.proofs.Common.{◌≡◌, ℕ, ◌≤◌, ◌<◌, ◌^◌, List, [], length, Ok, sym, subst, arith}
use Rattle.std.specs.List.{All}
use Rattle.wind_base.specs.Limits.{longest_name}
use Rattle.ppc_text.proofs.Naming.{IsName}
use Rattle.asm_lines.specs.declared.section.Fix.{Fix}
use Rattle.asm_lines.specs.declared.names.Label.{Label}
use Rattle.asm_lines.specs.declared.draft.Draft.{Draft}
use Rattle.asm_lines.specs.Causes.{longest_section, items}
use Rattle.asm_lines.specs.Items.{Placed, size}
use Rattle.asm_lines.specs.Gather.{gather}
use Rattle.asm_lines.specs.Names.{new_name, mentions, first_names, labels, fixes}
use Rattle.asm_lines.specs.Drafts.{IsDraft}
use Rattle.ppc_asm.specs.Assembly.{FitsModule}
use Rattle.ppc_asm.proofs.Sound.{LabelIn, FixIn, Sound, sound_items}
use Rattle.ppc_asm.proofs.Counting.{first_all, small}

All_then : {A : Type 0} (P Q : A → Type 0) (xs : List A) → ((x : A) → P x → Q x) → All P xs → All Q xs
All_then P Q xs f h = λ k d lt. f _ (h k d lt)

short_names : (ps : List Placed) → Sound ps → All (λ (n : List ℕ). length n ≤ longest_name) (first_names (mentions ps))
unfolding first_names
short_names ps a = All_then IsName (λ (n : List ℕ). length n ≤ longest_name) (gather new_name [] (mentions ps)) (λ n g. g.size) (first_all IsName [] (mentions ps) a.names)

low_fixes : (n : ℕ) (fs : List Fix) → n ≤ longest_section → All (FixIn n) fs → All (λ (f : Fix). f.offset < 2 ^ 32) fs
low_fixes n fs h a = All_then (FixIn n) (λ (f : Fix). f.offset < 2 ^ 32) fs (λ f g. let i = g.inside in omega arith) a

pub fits_module : (text : List ℕ) (d : Draft) (ps : List Placed) → IsDraft d ps → items text ≡ Ok ps → FitsModule d
fits_module text d ps a e =
    let s = sound_items text ps e in
    let m = small ps s.small in
    record {
      labels = subst (All (λ (l : Label). length l.name ≤ longest_name)) (sym a.labels) (All_then (LabelIn ps) (λ (l : Label). length l.name ≤ longest_name) (labels ps) (λ l g. g.name.size) s.labelled);
      names = subst (All (λ (n : List ℕ). length n ≤ longest_name)) (sym a.names.entries) (short_names ps s);
      in_text = subst (All (λ (f : Fix). f.offset < 2 ^ 32)) (sym a.in_text.fixes) (low_fixes (size 0 ps) (fixes 0 ps) m.text s.in_text);
      in_data = subst (All (λ (f : Fix). f.offset < 2 ^ 32)) (sym a.in_data.fixes) (low_fixes (size 1 ps) (fixes 1 ps) m.data_size s.in_data);
    }
