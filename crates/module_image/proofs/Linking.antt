-- Loads one after the other write the static link.
use Rattle.std.proofs.Common.{◌≡◌, ℕ, List, [], ◌∷◌, ◌++◌, map, refl, ◌∙◌, ap}
use Rattle.std.proofs.Math.Path.{fun_ext}
use Rattle.symbol_table.specs.declared.symbol.Symbol.{Symbol}
use Rattle.module_image.specs.Binding.{bind}
use Rattle.module_image.specs.Exports.{exports}
use Rattle.module_image.specs.Image.{image, image_by}
use Rattle.module_image.specs.Link.{Load, export_by, value_else, meaning, link_after, link, images_of, LinkLaw}
use Rattle.module_image.proofs.Tables.{bind-exports}

-- a table says what the loads so far say
abbrev Tells : List Symbol → List Load → List Symbol → Type 0
Tells tab earlier now = (name : List ℕ) → bind now name ≡ meaning tab earlier name

goes_on : (tab : List Symbol) (earlier : List Load) (now : List Symbol) (l : Load) (id : ℕ)
    → Tells tab earlier now → Tells tab (l ∷ earlier) (now ++ exports l.body l.mode l.at id)
goes_on tab earlier now l id tells name = bind-exports now l id name ∙ ap (value_else (export_by l name)) (tells name)

same_image : (tab : List Symbol) (earlier : List Load) (now : List Symbol) (l : Load)
    → Tells tab earlier now → image l.body now l.at ≡ image_by l.body (meaning tab earlier) l.at
unfolding image
same_image tab earlier now l tells = ap (λ f. image_by l.body f l.at) (fun_ext tells)

linked : (tab : List Symbol) (earlier : List Load) (now : List Symbol) (ls : List (ℕ × Load))
    → Tells tab earlier now → images_of now ls ≡ link_after tab earlier (map (λ l. l.1) ls)
linked tab earlier now [] tells = refl
linked tab earlier now ((id, l) ∷ ls) tells =
    let next = now ++ exports l.body l.mode l.at id in
    ap (λ i. i ∷ images_of next ls) (same_image tab earlier now l tells)
    ∙ ap (λ is. image_by l.body (meaning tab earlier) l.at ∷ is) (linked tab (l ∷ earlier) next ls (goes_on tab earlier now l id tells))

pub link_law : LinkLaw
unfolding link
link_law tab ls = linked tab [] tab ls (λ name. refl)
