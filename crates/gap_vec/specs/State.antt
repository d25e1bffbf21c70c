-- What a contract sees of a vector with a gap: its elements, and the greatest number of them.
use Rattle.std.specs.Prelude.{ℕ, List, refl}
use Rattle.std.specs.Coded.{Coded, code_by, coded×, coded_ℕ, coded_list}

-- the elements, and the room
pub record GapState (T : Type 0) : Type 0 where
  pub items : List T
  pub room : ℕ

-- such a state, coded as a pair
abbrev pub gap_code : {T : Type 0} → Coded T → Coded (GapState T)
gap_code {T} code =
    code_by
    (List T × ℕ)
    (coded× (coded_list code) coded_ℕ)
    (λ t. (t.items, t.room))
    (λ p. record { items = p.0; room = p.1 })
    (λ _. refl)
