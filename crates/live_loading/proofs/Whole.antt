-- The world that a load leaves, by what its steps have answered.
use Rattle.std.proofs.Common.{◌≡◌, ◌≢◌, ℕ, List, Result, Ok, Err, refl, sym, ap, ◌∙◌, subst, None, Some}
use Rattle.std.specs.Prelude.{IfOk, OnOk, OnErr}
use Rattle.wind_base.specs.declared.errno.Errno.TheVariants as errors
use Rattle.wind_base.specs.declared.gate.Gate.TheVariants as gates
use Rattle.mem_partition.specs.State.{PartState}
use Rattle.symbol_table.specs.declared.symbol.Symbol.{Symbol}
use Rattle.wind_core.specs.State.{KernState}
use Rattle.elf_read.specs.declared.module.Module.{Module}
use Rattle.elf_read.specs.Contents.{ModuleOf, module_at}
use Rattle.module_image.specs.declared.segments.Places.{Places}
use Rattle.module_loader.specs.declared.module.LoadErr.{LoadErr}
use Rattle.module_loader.specs.declared.module.LoadErr.TheVariants as refusal
use Rattle.module_loader.specs.declared.module.Loaded.{Loaded}
use Rattle.module_loader.specs.Loading.{LoaderState, count_refusal, verdict, file_verdict, loaded, loaded_answer, IsLoaded, IsVerdict}
use Rattle.module_loader.proofs.Files.{read_verdict}
use Rattle.kernel_calls.specs.KernelWorldState.{WorldState}
use Rattle.id_table.specs.Idents.{shell_id}
use Rattle.kernel_calls.specs.KernelWorldActors.{MayCall}
use Rattle.kernel_calls.specs.KernelWorldKept.{IsWorld}
use Rattle.kernel_calls.specs.KernelWorldReplies.{left_gate, with_answer}
use Rattle.kernel_calls.specs.KernelWorldActor.TheVariants.{Task}
use Rattle.kernel_calls.specs.KernelWorldReply.{Reply}
use Rattle.kernel_calls.specs.KernelWorldReply.TheVariants.{Answer, Refusal}
use Rattle.kernel_calls.specs.declared.files.Load.{Load}
use Rattle.kernel_calls.specs.Calls.{load_wanted}
use Rattle.live_loading.specs.declared.text.Cause.TheVariants as causes
use Rattle.live_loading.specs.Causes.{cause_text}
use Rattle.live_loading.specs.Said.{FileSaid, Held}
use Rattle.live_loading.specs.Texts.{reason, undefined_text}
use Rattle.live_loading.specs.Loading.{shell, loader_state, with_loader, writing, refused, by_verdict, load_call, mode_in, mode_wanted}
use Rattle.live_loading.specs.Replies.{load_reply, verdict_reply}
use Rattle.live_loading.proofs.Going.{kept_by}

-- ---- a module that has been read
-- it is loaded: this commutes with leaving the gate
at_places : (w : WorldState) (name : List ℕ) (m : Module) (mode : ℕ) (at : Places)
    → with_answer (writing (left_gate (with_loader w (loaded (loader_state w) name m mode at)) shell) (undefined_text (loaded_answer (loader_state w) m).undefined)) shell (loaded_answer (loader_state w) m).id
    ≡ by_verdict (left_gate w shell) name mode m (Ok at)
unfolding loaded
at_places w name m mode at = refl

-- with the same name
pub named : (v : Result Places LoadErr) (s : LoaderState) (name other : List ℕ) (m : Module) (mode : ℕ) (t : LoaderState) → name ≡ other → IsLoaded v s name m mode t → IsLoaded v s other m mode t
named v s name other m mode t same to = subst (λ n. IsLoaded v s n m mode t) same to

-- the world that has written this
abbrev pub with_output : WorldState → List ℕ → WorldState
with_output w bytes = record w { output = bytes }

pub loaded_world : (w x : WorldState) (name : List ℕ) (m : Module) (mode : ℕ) (v : Result Places LoadErr) (t : LoaderState) (l : Loaded) (bytes : List ℕ)
    → IsLoaded v (loader_state w) name m mode t → l ≡ loaded_answer (loader_state w) m → bytes ≡ w.output
    → x ≡ with_answer (writing (left_gate (with_output (with_loader w t) bytes) shell) (undefined_text l.undefined)) shell l.id → x ≡ by_verdict (left_gate w shell) name mode m v
loaded_world w x name m mode (Err e) t l bytes to answer same is = absurd to
loaded_world w x name m mode (Ok at) t l bytes to answer same is =
    is
    ∙ ap (λ b. with_answer (writing (left_gate (with_output (with_loader w t) b) shell) (undefined_text l.undefined)) shell l.id) same
    ∙ ap (λ (q : Loaded). with_answer (writing (left_gate (with_loader w t) shell) (undefined_text q.undefined)) shell q.id) answer
    ∙ ap (λ (u : LoaderState). with_answer (writing (left_gate (with_loader w u) shell) (undefined_text (loaded_answer (loader_state w) m).undefined)) shell (loaded_answer (loader_state w) m).id) to
    ∙ at_places w name m mode at

-- its id is the answer
pub loaded_reply : (w : WorldState) (name : List ℕ) (m : Module) (mode : ℕ) (v : Result Places LoadErr) (t : LoaderState) (l : Loaded) (r : Reply)
    → IsLoaded v (loader_state w) name m mode t → l ≡ loaded_answer (loader_state w) m → r ≡ Answer l.id → r ≡ verdict_reply (left_gate w shell) v
loaded_reply w name m mode (Err e) t l r to answer is = absurd to
loaded_reply w name m mode (Ok at) t l r to answer is = is ∙ ap (λ (q : Loaded). Answer q.id) answer

-- or refused
verdict_is : (v : Result Places LoadErr) (e : LoadErr) → e ≢ refusal.NoMemory → IsVerdict v e → v ≡ Err e
verdict_is v refusal.NoMemory some h = absurd (some refl)
verdict_is v (refusal.Elf e) some h = h
verdict_is v refusal.ModulesFull some h = h
verdict_is v refusal.IdsSpent some h = h
verdict_is v refusal.TableFull some h = h
verdict_is v (refusal.Part e) some h = h
verdict_is v (refusal.Reloc e) some h = h

pub refused_reply : (w : WorldState) (v : Result Places LoadErr) (e : LoadErr) (r : Reply) → e ≢ refusal.NoMemory → IsVerdict v e → r ≡ Refusal errors.LoadFailed → r ≡ verdict_reply w v
refused_reply w v e r some h is = is ∙ ap (verdict_reply w) (sym (verdict_is v e some h))

-- ---- a file
left_file : (w : WorldState) (file : List ℕ) (mode : ℕ) → file_verdict (loader_state w) file mode ≡ file_verdict (loader_state (left_gate w shell)) file mode
unfolding file_verdict verdict count_refusal
left_file w file mode = refl

-- the shell's task wants a load at the gate of ld, in this mode
pub no_load : (w : WorldState) (id : ℕ) → None ≡ load_wanted gates.Ld w (Task id) → id ≡ shell_id → ⊥
no_load w id none same = let is : None ≡ load_wanted gates.Ld w shell = none ∙ ap (λ n. load_wanted gates.Ld w (Task n)) same in absurd (cc)

pub mode_is : (w : WorldState) (id : ℕ) (load : Load) → Some load ≡ load_wanted gates.Ld w (Task id) → id ≡ shell_id → load.mode ≡ mode_wanted w
mode_is w id load is same = ap mode_in (is ∙ ap (λ n. load_wanted gates.Ld w (Task n)) same)

pub read_world : {A E : Type 0} (r : Result A E) (w x : WorldState) (name file : List ℕ) (m : Module) (n : ℕ) → n ≡ mode_wanted w → ModuleOf file m
    → OnOk r (x ≡ by_verdict (left_gate w shell) name n m (verdict (loader_state w) m n)) → OnOk r (x ≡ load_call w name (Held file))
unfolding load_call
read_world (Err e) w x name file m n is holds ok = tt
read_world (Ok u) w x name file m n is holds ok =
    let mode : ℕ = mode_wanted w in
    ok
    ∙ ap (λ (i : ℕ). by_verdict (left_gate w shell) name i m (verdict (loader_state w) m i)) is
    ∙ ap (λ (n : Module). by_verdict (left_gate w shell) name mode n (verdict (loader_state w) m mode)) holds.holds
    ∙ ap (by_verdict (left_gate w shell) name mode (module_at file)) (sym (read_verdict (loader_state w) file m mode holds) ∙ left_file w file mode)

-- ---- a file whose outline was read
-- the world with these parts
abbrev pub with_parts : WorldState → KernState → List Symbol → PartState → WorldState
with_parts w kern symbols part = record w { kern = kern; symbols = symbols; part = part }

parts_stay : (w : WorldState) (kern : KernState) (symbols : List Symbol) (part : PartState) → kern ≡ w.kern → symbols ≡ w.symbols → part ≡ w.part → with_parts w kern symbols part ≡ w
parts_stay w kern symbols part a b c =
    ap (λ (k : KernState). with_parts w k symbols part) a ∙ ap (λ s. with_parts w w.kern s part) b ∙ ap (λ (p : PartState). with_parts w w.kern w.symbols p) c

-- it is loaded
pub outlined_world : {A E : Type 0} (r : Result A E) (w x : WorldState) (kern : KernState) (symbols : List Symbol) (part : PartState) (name file : List ℕ) (mode : ℕ)
    → mode ≡ mode_wanted w → kern ≡ w.kern → symbols ≡ w.symbols → part ≡ w.part → ModuleOf file (module_at file)
    → OnOk r (x ≡ by_verdict (left_gate (with_parts w kern symbols part) shell) name mode (module_at file) (verdict (loader_state (with_parts w kern symbols part)) (module_at file) mode))
    → OnOk r (x ≡ load_call w name (Held file))
outlined_world r w x kern symbols part name file mode is a b c holds ok =
    let m = module_at file in
    read_world r w x name file m mode is holds
    (subst (λ (v : WorldState). OnOk r (x ≡ by_verdict (left_gate v shell) name mode m (verdict (loader_state v) m mode))) (parts_stay w kern symbols part a b c) ok)

-- or refused
pub outline_refused : (w x : WorldState) (kern : KernState) (symbols : List Symbol) (part : PartState) (name file : List ℕ) (e : LoadErr) (n : ℕ)
    → n ≡ mode_wanted w → kern ≡ w.kern → symbols ≡ w.symbols → part ≡ w.part
    → e ≢ refusal.NoMemory → IsVerdict (file_verdict (loader_state w) file n) e
    → x ≡ refused (left_gate (with_parts w kern symbols part) shell) name (cause_text (causes.Refused e)) → x ≡ load_call w name (Held file)
unfolding load_call
outline_refused w x kern symbols part name file e n wanted a b c some h is =
    let mode : ℕ = mode_wanted w in
    let verdict : file_verdict (loader_state w) file mode ≡ Err e = ap (file_verdict (loader_state w) file) (sym wanted) ∙ verdict_is (file_verdict (loader_state w) file n) e some h in
    is
    ∙ ap (λ (v : WorldState). refused (left_gate v shell) name (reason e)) (parts_stay w kern symbols part a b c)
    ∙ ap (by_verdict (left_gate w shell) name mode (module_at file)) (sym verdict ∙ left_file w file mode)

-- ---- how the caller is answered
-- the verdict on the file, in the mode of the call
module _ (w : WorldState) (file : List ℕ) (mode : ℕ) (at : mode ≡ mode_wanted w) where
  reply_by : load_reply w (Held file) ≡ verdict_reply (left_gate w shell) (file_verdict (loader_state w) file mode)
  unfolding load_reply
  reply_by =
      ap (verdict_reply (left_gate w shell)) (sym (left_file w file (mode_wanted w)))
      ∙ ap (λ (n : ℕ). verdict_reply (left_gate w shell) (file_verdict (loader_state w) file n)) (sym at)

  module _ (kern : KernState) (symbols : List Symbol) (part : PartState) (a : kern ≡ w.kern) (b : symbols ≡ w.symbols) (c : part ≡ w.part) where
    pub outlined_reply : {E : Type 0} (r : Result Reply E) → ModuleOf file (module_at file)
        → IfOk r (λ x. x ≡ verdict_reply (left_gate (with_parts w kern symbols part) shell) (verdict (loader_state (with_parts w kern symbols part)) (module_at file) mode))
        → IfOk r (λ x. x ≡ load_reply w (Held file))
    outlined_reply (Err e) holds ok = tt
    outlined_reply (Ok x) holds ok =
        ok
        ∙ ap (λ (v : WorldState). verdict_reply (left_gate v shell) (verdict (loader_state v) (module_at file) mode)) (parts_stay w kern symbols part a b c)
        ∙ ap (verdict_reply (left_gate w shell)) (sym (read_verdict (loader_state w) file (module_at file) mode holds))
        ∙ sym reply_by

  pub outline_refused_reply : (e : LoadErr) (r : Reply) → e ≢ refusal.NoMemory → IsVerdict (file_verdict (loader_state w) file mode) e → r ≡ Refusal errors.LoadFailed → r ≡ load_reply w (Held file)
  outline_refused_reply e r some h is = refused_reply (left_gate w shell) (file_verdict (loader_state w) file mode) e r some h is ∙ sym reply_by

-- ---- the world is kept, whether it was loaded or memory ran out
pub kept_so : {A E : Type 0} (r : Result A E) (w x : WorldState) (name : List ℕ) (said : FileSaid) → IsWorld w → MayCall w.kern shell → OnOk r (x ≡ load_call w name said) → OnErr r (x ≡ w) → IsWorld x
kept_so (Ok u) w x name said kept may ok err = kept_by w x name said kept may ok
kept_so (Err e) w x name said kept may ok err = subst IsWorld (sym err) kept
