-- The meaning of a bus, for each address and each width of 1, 2 or 4 bytes.
use Rattle.std.specs.Prelude.{◌≡◌, ℕ, zero, suc, ◌+◌, ◌*◌, ◌^◌, ◌<◌, Bool, true, false, ◌&&◌, Result, MatchResult}
use Rattle.ppc_core.specs.declared.bus.Fault.{Fault}

-- the meaning of a bus B
pub record Meaning (B : Type 0) : Type 0 where
  -- whether an access of n bytes at an address faults
  pub faults : B → ℕ → ℕ → Bool
  -- the result of a load of n bytes at an address
  pub answer : B → ℕ → ℕ → ℕ
  -- the bus after a load of n bytes at an address
  pub loaded : B → ℕ → ℕ → B
  -- the bus after a store of a number in n bytes at an address
  pub stored : B → ℕ → ℕ → ℕ → B
  -- whether the byte at an address is RAM
  pub ram : B → ℕ → Bool

module _ {B : Type 0} (m : Meaning B) where
  -- a load of n bytes at an address: a fault changes nothing; otherwise the result is a number of n bytes
  abbrev pub Loads : ℕ → ℕ → B → B → Result ℕ Fault → Type 0
  Loads n at old new result =
      MatchResult result
      (λ v. (m.faults old n at ≡ false) × (v ≡ m.answer old n at) × (new ≡ m.loaded old n at) × (v < 2 ^ (8 * n)))
      (λ _. (m.faults old n at ≡ true) × (new ≡ old))

  -- a store of a number in n bytes at an address: a fault changes nothing
  abbrev pub Stores : ℕ → ℕ → ℕ → B → B → Result (Unit {0}) Fault → Type 0
  Stores n at v old new result =
      MatchResult result
      (λ _. (m.faults old n at ≡ false) × (new ≡ m.stored old n at v))
      (λ _. (m.faults old n at ≡ true) × (new ≡ old))

  -- the n bytes from an address on are all RAM
  abbrev pub all_ram : B → ℕ → ℕ → Bool
  all_ram b at zero = true
  all_ram b at (suc n) = all_ram b at n && m.ram b (at + n)

  -- the laws: an access whose bytes are all RAM never faults, and no access changes which addresses are RAM
  pub record IsLawful : Type 0 where
    pub ram_never_faults : (b : B) (n at : ℕ) → 0 < n → all_ram b at n ≡ true → m.faults b n at ≡ false
    pub load_keeps : (b : B) (n at a : ℕ) → m.faults b n at ≡ false → m.ram (m.loaded b n at) a ≡ m.ram b a
    pub store_keeps : (b : B) (n at v a : ℕ) → m.faults b n at ≡ false → m.ram (m.stored b n at v) a ≡ m.ram b a
