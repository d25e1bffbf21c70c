-- A load step by step is the load that is defined.
use Rattle.std.proofs.Common.{◌≡◌, ℕ, ◌+◌, ◌-◌, ◌^◌, ◌<◌, ◌≤◌, List, [], ◌∷◌, ◌++◌, length, take, drop, replicate, Option, Some, None, Result, Ok, Err, sym, ap, ◌∙◌, subst, arith}
use Rattle.wind_core.specs.State.{KernState}
use Rattle.reloc_link.specs.declared.patching.RelocErr.{RelocErr}
use Rattle.symbol_table.specs.declared.symbol.Symbol.{Symbol}
use Rattle.wind_base.specs.declared.board_kind.Side.{Side}
use Rattle.mem_partition.specs.declared.block.PartErr.{PartErr}
use Rattle.mem_partition.specs.State.{PartState, IsPart}
use Rattle.elf_read.specs.declared.module.Module.{Module}
use Rattle.module_image.specs.declared.segments.Needs.{Needs}
use Rattle.module_image.specs.declared.segments.Places.{Places}
use Rattle.module_image.specs.Needs.{needs_of}
use Rattle.module_image.specs.Exports.{export_count, exports}
use Rattle.module_image.specs.Image.{image}
use Rattle.module_image.specs.Making.{IsMade}
use Rattle.module_image.proofs.Made.{bss_is}
use Rattle.module_loader.specs.declared.module.LoadErr.{LoadErr}
use Rattle.module_loader.specs.declared.module.LoadErr.TheVariants as refusal
use Rattle.module_loader.specs.declared.module.LoadedModule.{LoadedModule}
use Rattle.module_loader.specs.Modules.{LoadedModules, modules_on}
use Rattle.module_loader.specs.Placing.{places_of, with_needs}
use Rattle.module_loader.specs.Loading.{LoaderState, side_of, count_by, count_refusal, reloc_verdict, place_verdict, verdict_by, verdict, block_size, in_block, stored_all, pieces_of, record_of, loaded, IsLoaded, IsVerdict}
use Rattle.module_loader.specs.Steps.{IsRefusedBy, state_of, three_pieces}
use Rattle.module_loader.proofs.Filling.{block_holds}
use Rattle.module_loader.proofs.Standing.{total_small}
use Rattle.module_loader.proofs.Applying.{all_stand, all_fit}

-- text and data fit below 2^32 if they have places
pub text_and_data : (side : Side) (s : PartState) (m : Module) (z : Needs) (at : Places) → IsPart s → z ≡ needs_of m → places_of side s z ≡ Ok at
    → (needs_of m).text.size + (needs_of m).«data».size < 2 ^ 32
text_and_data side s m z at k n h = subst (λ (x : Needs). x.text.size + x.«data».size < 2 ^ 32) n (total_small side s z at k h)

-- the refusal of a relocation is the verdict on the places
pub placed_fault : (m : Module) (tab : List Symbol) (r : Result Places PartErr) (at : Places) (e : RelocErr) → r ≡ Ok at → (image m tab at).fault ≡ Some e
    → place_verdict m tab r ≡ Err (refusal.Reloc e)
placed_fault m tab r at e p f = ap (place_verdict m tab) p ∙ ap (reloc_verdict at) f

-- ---- the verdict
pub by_counts : (s : LoaderState) (m : Module) (mode : ℕ) (o : Option LoadErr) → count_by (length s.modules.rows) s.kern.next_id (length s.symbols + export_count mode m.symbols) ≡ o
    → verdict s m mode ≡ verdict_by o (place_verdict m s.symbols (places_of (side_of s) s.part (needs_of m)))
unfolding verdict count_refusal
by_counts s m mode o h = ap (λ x. verdict_by x (place_verdict m s.symbols (places_of (side_of s) s.part (needs_of m)))) h

pub counted : (s : LoaderState) (m : Module) (mode : ℕ) (e : LoadErr)
    → IsRefusedBy (length s.modules.rows) s.kern.next_id (length s.symbols + export_count mode m.symbols) e → IsVerdict (verdict s m mode) e
counted s m mode refusal.NoMemory h = tt
counted s m mode (refusal.Elf e) h = by_counts s m mode (Some (refusal.Elf e)) h
counted s m mode (refusal.Reloc e) h = by_counts s m mode (Some (refusal.Reloc e)) h
counted s m mode refusal.ModulesFull h = by_counts s m mode (Some refusal.ModulesFull) h
counted s m mode refusal.IdsSpent h = by_counts s m mode (Some refusal.IdsSpent) h
counted s m mode refusal.TableFull h = by_counts s m mode (Some refusal.TableFull) h
counted s m mode (refusal.Part e) h = by_counts s m mode (Some (refusal.Part e)) h

pub placed : (s : LoaderState) (m : Module) (mode : ℕ) (e : LoadErr) → count_by (length s.modules.rows) s.kern.next_id (length s.symbols + export_count mode m.symbols) ≡ None
    → IsVerdict (place_verdict m s.symbols (places_of (side_of s) s.part (needs_of m))) e → IsVerdict (verdict s m mode) e
placed s m mode e h v = subst (λ r. IsVerdict r e) (sym (by_counts s m mode None h)) v

-- what was stored is the image
made_pieces : (m : Module) (tab : List Symbol) (at : Places) (bytes : List ℕ) → IsMade (image m tab at) (needs_of m) bytes
    → three_pieces at (in_block (take (needs_of m).text.size bytes)) (in_block (drop (needs_of m).text.size bytes)) (in_block (replicate (needs_of m).bss.size 0)) ≡ pieces_of at (image m tab at)
made_pieces m tab at bytes k =
    let cut = (needs_of m).text.size in
    ap (λ t. (at.text, in_block t) ∷ (at.«data», in_block (drop cut bytes)) ∷ (at.bss, in_block (replicate (needs_of m).bss.size 0)) ∷ []) (sym k.text)
    ∙ ap (λ v. (at.text, in_block (image m tab at).text) ∷ (at.«data», in_block v) ∷ (at.bss, in_block (replicate (needs_of m).bss.size 0)) ∷ []) (sym k.«data»)
    ∙ ap (λ b. (at.text, in_block (image m tab at).text) ∷ (at.«data», in_block (image m tab at).«data») ∷ (at.bss, in_block b) ∷ []) (sym (bss_is m tab at))

alike : {a a' : KernState} {b b' : List Symbol} {c c' : LoadedModules} {d d' : PartState} {e e' : List ℕ}
    → a ≡ a' → b ≡ b' → c ≡ c' → d ≡ d' → e ≡ e' → state_of a b c d e ≡ state_of a' b' c' d' e'
alike {a} {a'} {b} {b'} {c} {c'} {d} {d'} {e} {e'} p q r s t =
    ap (λ (x : KernState). state_of x b c d e) p ∙ ap (λ x. state_of a' x c d e) q ∙ ap (λ (x : LoadedModules). state_of a' b' x d e) r
    ∙ ap (λ (x : PartState). state_of a' b' c' x e) s ∙ ap (λ x. state_of a' b' c' d' x) t

loaded_is : (s : LoaderState) (name : List ℕ) (m : Module) (mode : ℕ) (at : Places) (bytes : List ℕ) (added : List Symbol) (kern : KernState) (symbols : List Symbol) (rows : List (ℕ × LoadedModule)) (part : PartState) (ram : List ℕ)
    → IsMade (image m s.symbols at) (needs_of m) bytes → added ≡ exports m mode at s.kern.next_id → kern ≡ record s.kern { next_id = s.kern.next_id + 1 }
    → symbols ≡ s.symbols ++ added → rows ≡ s.modules.rows ++ (s.kern.next_id, record_of name (needs_of m) at) ∷ [] → part ≡ with_needs (side_of s) s.part (needs_of m)
    → ram ≡ stored_all s.ram (three_pieces at (in_block (take (needs_of m).text.size bytes)) (in_block (drop (needs_of m).text.size bytes)) (in_block (replicate (needs_of m).bss.size 0)))
    → state_of kern symbols (modules_on s.modules.board rows) part ram ≡ loaded s name m mode at
unfolding loaded
loaded_is s name m mode at bytes added kern symbols rows part ram made adds e a b c d =
    alike e (a ∙ ap (λ x. s.symbols ++ x) adds) (ap (modules_on s.modules.board) b) c (d ∙ ap (stored_all s.ram) (made_pieces m s.symbols at bytes made))

accepts : (s : LoaderState) (m : Module) (mode : ℕ) (at : Places) → count_by (length s.modules.rows) s.kern.next_id (length s.symbols + export_count mode m.symbols) ≡ None
    → places_of (side_of s) s.part (needs_of m) ≡ Ok at → (image m s.symbols at).fault ≡ None → verdict s m mode ≡ Ok at
accepts s m mode at n p f = by_counts s m mode None n ∙ ap (place_verdict m s.symbols) p ∙ ap (reloc_verdict at) f

pub is_loaded : (s : LoaderState) (name : List ℕ) (m : Module) (mode : ℕ) (at : Places) (bytes : List ℕ) (added : List Symbol) (kern : KernState) (symbols : List Symbol) (rows : List (ℕ × LoadedModule)) (part : PartState) (ram : List ℕ)
    → count_by (length s.modules.rows) s.kern.next_id (length s.symbols + export_count mode m.symbols) ≡ None → places_of (side_of s) s.part (needs_of m) ≡ Ok at
    → IsMade (image m s.symbols at) (needs_of m) bytes → added ≡ exports m mode at s.kern.next_id → kern ≡ record s.kern { next_id = s.kern.next_id + 1 }
    → symbols ≡ s.symbols ++ added → rows ≡ s.modules.rows ++ (s.kern.next_id, record_of name (needs_of m) at) ∷ [] → part ≡ with_needs (side_of s) s.part (needs_of m)
    → ram ≡ stored_all s.ram (three_pieces at (in_block (take (needs_of m).text.size bytes)) (in_block (drop (needs_of m).text.size bytes)) (in_block (replicate (needs_of m).bss.size 0)))
    → IsLoaded (verdict s m mode) s name m mode (state_of kern symbols (modules_on s.modules.board rows) part ram)
is_loaded s name m mode at bytes added kern symbols rows part ram n p made adds e a b c d =
    subst (λ v. IsLoaded v s name m mode (state_of kern symbols (modules_on s.modules.board rows) part ram)) (sym (accepts s m mode at n p made.fault))
    (loaded_is s name m mode at bytes added kern symbols rows part ram made adds e a b c d)

-- the segments fit, for the code that stores them
pub record Fitting (z : Needs) (at : Places) (size total : ℕ) : Type 0 where
  pub cut : z.text.size ≤ total
  pub text : at.text + block_size z.text.size ≤ size
  pub «data» : at.«data» + block_size (total - z.text.size) ≤ size
  pub bss : at.bss + block_size z.bss.size ≤ size
  pub text_size : z.text.size < 2 ^ 32
  pub data_size : z.«data».size < 2 ^ 32
  pub bss_size : z.bss.size < 2 ^ 32

pub fitting : (side : Side) (s : PartState) (z : Needs) (at : Places) (size total : ℕ) → IsPart s → s.end ≤ size → total ≡ z.text.size + z.«data».size
    → places_of side s z ≡ Ok at → Fitting z at size total
fitting side s z at size total k pool sum h =
    let st = all_stand side s z at k h in
    let fit = all_fit side s z at size st pool in
    let pool_fit = all_fit side s z at s.end st (omega arith) in
    let bound = k.bound in
    let a = fit.text in
    let b = fit.«data» in
    let pt = pool_fit.text in
    let pd = pool_fit.«data» in
    let pb = pool_fit.bss in
    let ht = block_holds z.text.size in
    let hd = block_holds z.«data».size in
    let hb = block_holds z.bss.size in
    let rest : total - z.text.size ≡ z.«data».size = omega arith in
    record {
      cut = omega arith;
      text = a;
      «data» = subst (λ n. at.«data» + block_size n ≤ size) (sym rest) b;
      bss = fit.bss;
      text_size = omega arith;
      data_size = omega arith;
      bss_size = omega arith;
    }
