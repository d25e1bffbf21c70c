-- Fields written in order: the first refusal, each field, and the bytes outside.
use Rattle.std.proofs.Common.{◌≡◌, ℕ, suc, ◌+◌, List, [], ◌∷◌, length, take, get_or, None, Some, Result, Ok, Err, refl, sym, ◌∙◌, ap, subst, arith}
use Rattle.std.specs.List.{All, AllPairs}
use Rattle.std.proofs.lemmas.List.Elements.{All-cons}
use Rattle.reloc_link.specs.declared.kind.RelocType.{RelocType}
use Rattle.reloc_link.specs.declared.kind.RelocType.TheVariants.{Nothing, Addr32, Addr24, Addr16, Addr16Lo, Addr16Hi, Addr16Ha, Addr14, Addr14BrTaken, Addr14BrNTaken, Rel24, Rel14, Rel14BrTaken, Rel14BrNTaken, Uaddr32, Uaddr16, Rel32}
use Rattle.reloc_link.specs.declared.fields.FieldFault.{FieldFault}
use Rattle.reloc_link.specs.declared.patching.Binding.{Binding}
use Rattle.reloc_link.specs.declared.patching.RelocErr.{RelocErr}
use Rattle.reloc_link.specs.Types.{type_number, type_of}
use Rattle.reloc_link.specs.Patched.{LiesWithin, Patched, asked, written, after_field, numbered, patched}
use Rattle.reloc_link.specs.Laws.{IsOutside, Apart, Holds, IsDone, IsFirstRefused}
use Rattle.reloc_link.proofs.Writing.{length-written, written_holds, written_outside, outside_other, asked_apart}

pub own_number : (t : RelocType) → type_of (type_number t) ≡ Some t
own_number Nothing = refl
own_number Addr32 = refl
own_number Addr24 = refl
own_number Addr16 = refl
own_number Addr16Lo = refl
own_number Addr16Hi = refl
own_number Addr16Ha = refl
own_number Addr14 = refl
own_number Addr14BrTaken = refl
own_number Addr14BrNTaken = refl
own_number Rel24 = refl
own_number Rel14 = refl
own_number Rel14BrTaken = refl
own_number Rel14BrNTaken = refl
own_number Uaddr32 = refl
own_number Uaddr16 = refl
own_number Rel32 = refl

-- the image and the fault after an answer for the first binding
abbrev step : ℕ → List ℕ → Binding → List Binding → Result ℕ FieldFault → Patched
step i image b bs r = after_field r (λ v. patched (i + 1) (written image b v) bs) (λ f. record { image = image; fault = Some (numbered f i) })

-- the fields of the bindings after the first are still inside the image
lies_again : (image : List ℕ) (b : Binding) (bs : List Binding) (v : ℕ) → All (LiesWithin (length image)) (b ∷ bs) → All (LiesWithin (length (written image b v))) bs
lies_again image b bs v all =
    let e = length-written image b v (all 0 b (omega arith)) in λ k d h. subst (λ n. LiesWithin n (get_or bs k d)) (sym e) (all (suc k) d (omega arith))

pub stays_outside : (i : ℕ) (image : List ℕ) (bs : List Binding) (at : ℕ) → All (LiesWithin (length image)) bs → All (IsOutside at) bs
    → get_or (patched i image bs).image at 0 ≡ get_or image at 0
stays_outside i image [] at all out = refl
stays_outside i image (b ∷ bs) at all out =
    elim (asked image b) as (λ r. get_or (step i image b bs r).image at 0 ≡ get_or image at 0) [
      | Ok v ↦
          stays_outside (i + 1) (written image b v) bs at (lies_again image b bs v all) (λ k d h. out (suc k) d (omega arith))
          ∙ written_outside image b v at (all 0 b (omega arith)) (out 0 b (omega arith))
      | Err f ↦ refl
    ]

-- the first field holds its number to the end, if the others are apart from it
first_holds : (i : ℕ) (image : List ℕ) (b : Binding) (bs : List Binding) (v : ℕ) → All (LiesWithin (length image)) (b ∷ bs) → All (Apart b) bs
    → Holds (patched i (written image b v) bs).image b v
first_holds i image b bs v all apart k low =
    stays_outside i (written image b v) bs (b.offset + k) (lies_again image b bs v all)
    (λ j d h. outside_other b (get_or bs j d) k (apart j d h) low)
    ∙ written_holds image b v (all 0 b (omega arith)) k low

-- what is done over the image with the first field written is done over the image
done_before : (image final : List ℕ) (b c : Binding) (v : ℕ) → LiesWithin (length image) b → Apart b c → IsDone (written image b v) final c → IsDone image final c
done_before image final b c v h apart (w, asks, holds) = (w, sym (asked_apart image b c v h apart) ∙ asks, holds)

pub each_done : (i : ℕ) (image : List ℕ) (bs : List Binding) → All (LiesWithin (length image)) bs → AllPairs Apart bs
    → (patched i image bs).fault ≡ None → All (IsDone image (patched i image bs).image) bs
each_done i image [] all apart e = λ k d h. absurd (omega arith)
each_done i image (b ∷ bs) all apart e =
    elim (asked image b) as (λ r. asked image b ≡ r → (step i image b bs r).fault ≡ None → All (IsDone image (step i image b bs r).image) (b ∷ bs)) [
      | Ok v ↦ λ asks q.
          let final = (patched (i + 1) (written image b v) bs).image in
          let others : All (Apart b) bs = λ k d h. apart 0 (suc k) d (omega arith) (omega arith) in
          let rest = each_done (i + 1) (written image b v) bs (lies_again image b bs v all) (λ j k d h m. apart (suc j) (suc k) d (omega arith) (omega arith)) q in
          All-cons (IsDone image final) b bs (v, asks, first_holds (i + 1) image b bs v all others)
          (λ k d h. done_before image final b (get_or bs k d) v (all 0 b (omega arith)) (others k d h) (rest k d h))
      | Err f ↦ λ asks q. absurd (cc)
    ] refl e

-- the first binding is written, and the refusal is one of those after it
later_refused : (i : ℕ) (image : List ℕ) (b : Binding) (bs : List Binding) (v : ℕ) (e : RelocErr) → asked image b ≡ Ok v
    → IsFirstRefused (i + 1) (written image b v) bs e → IsFirstRefused i image (b ∷ bs) e
later_refused i image b bs v e asks h =
    let prefix : patched i image (b ∷ take h.place bs) ≡ patched (i + 1) (written image b v) (take h.place bs) =
    ap (step i image b (take h.place bs)) asks in record {
      place = suc h.place;
      within = (let w = h.within in omega arith);
      before = ap (λ (p : Patched). p.fault) prefix ∙ h.before;
      fault = h.fault;
      refused = λ d. ap (λ (p : Patched). asked p.image (get_or bs h.place d)) prefix ∙ h.refused d;
      held = ap (λ r. (step i image b bs r).image) asks ∙ h.held ∙ sym (ap (λ (p : Patched). p.image) prefix);
      named = (let n : i + 1 + h.place ≡ i + suc h.place = omega arith in h.named ∙ ap (numbered h.fault) n);
    }

pub first_refused : (i : ℕ) (image : List ℕ) (bs : List Binding) (e : RelocErr) → (patched i image bs).fault ≡ Some e → IsFirstRefused i image bs e
first_refused i image [] e h = absurd (cc)
first_refused i image (b ∷ bs) e h =
    elim (asked image b) as (λ r. asked image b ≡ r → (step i image b bs r).fault ≡ Some e → IsFirstRefused i image (b ∷ bs) e) [
      | Ok v ↦ λ asks q. later_refused i image b bs v e asks (first_refused (i + 1) (written image b v) bs e q)
      | Err f ↦ λ asks q. record {
        place = 0;
        within = omega arith;
        before = refl;
        fault = f;
        refused = λ d. asks;
        held = ap (λ r. (step i image b bs r).image) asks;
        named = (let n : i ≡ i + 0 = omega arith in let same : numbered f i ≡ e = cc in sym same ∙ ap (numbered f) n);
      }
    ] refl h
