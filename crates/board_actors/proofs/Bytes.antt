-- A loop over arriving bytes.
use Rattle.std.proofs.Common.{◌≡◌, ℕ, ◌+◌, ◌<◌, List, ◌∷◌, length, drop, get_or, drop-cons, add-one, sym, ap, ◌∙◌}
use Rattle.std.specs.List.{fold}
use Rattle.wind_machine.specs.Events.{Heard, hear, heard_all}

-- one byte further
pub hear_more : (h new : Heard) (bytes : List ℕ) (i : ℕ) → i < length bytes → new ≡ hear h (get_or bytes i 0) → heard_all new (drop (i + 1) bytes) ≡ heard_all h (drop i bytes)
unfolding heard_all
hear_more h new bytes i within e =
    let cons : drop i bytes ≡ get_or bytes i 0 ∷ drop (i + 1) bytes = drop-cons bytes i 0 within ∙ ap (λ n. get_or bytes i 0 ∷ drop n bytes) (sym (add-one i)) in
    ap (λ g. fold hear g (drop (i + 1) bytes)) e ∙ sym (ap (fold hear h) cons)
