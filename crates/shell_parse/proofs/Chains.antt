-- Operators of all levels after an operand: level by level, and without levels. Which tokens may follow an operand
-- doesn't depend on the levels: any chain of operators and operands is an expression.
use Rattle.std.proofs.Common.{ℕ, zero, suc, ◌<◌, inl, inr, List, ◌∷◌, arith, lit<}
use Rattle.std.proofs.lemmas.Bool.{cases_eq}
use Rattle.shell_parse.specs.declared.tree.BinOp.{BinOp}
use Rattle.shell_parse.specs.declared.tree.BinOp.TheVariants.{OrElse, AndAlso, Or, Xor, And, Eq, Ne, Lt, Le, Gt, Ge, Shl, Shr, Plus, Minus, Times, Over, Rest}
use Rattle.shell_parse.specs.declared.token.Token.{Token}
use Rattle.shell_parse.specs.declared.token.Token.TheVariants.{Operator}
use Rattle.shell_parse.specs.Levels.{level_of, levels}
use Rattle.shell_parse.specs.Trees.{PlainTree}
use Rattle.shell_parse.specs.Trees as trees
use Rattle.shell_parse.specs.Grammar.{Level, operand, level, More, stop, operator, Unary}

-- what follows an operand a, at the tightest n levels
pub data Climb : ℕ → PlainTree → List Token → PlainTree → List Token → Type 0 where
  flat : {a : PlainTree} {ts : List Token} → Climb zero a ts a ts
  up : {n : ℕ} {a b e : PlainTree} {ts mid rest : List Token} → Climb n a ts b mid → More n b mid e rest → Climb (suc n) a ts e rest

-- operators and operands, without levels
pub data Chain : List Token → List Token → Type 0 where
  ends : {ts : List Token} → Chain ts ts
  goes_on : {op : BinOp} {b : PlainTree} {ts mid rest : List Token} → Unary ts b mid → Chain mid rest → Chain (Operator op ∷ ts) rest

pub climb_level : {n : ℕ} {ts mid rest : List Token} {a e : PlainTree} → Unary ts a mid → Climb n a mid e rest → Level n ts e rest
climb_level u flat = operand u
climb_level u (up c m) = level (climb_level u c) m

more_any : {n : ℕ} {a e : PlainTree} {ts rest : List Token} → More n a ts e rest → (b : PlainTree) → (e' : PlainTree) × More n b ts e' rest
more_any stop b = (b, stop)
more_any (operator {op = op} {b = c} i l m) b = let h = more_any m (trees.Binary op b c) in (h.0, operator i l h.1)

climb_stop : (n : ℕ) (a : PlainTree) (ts : List Token) → Climb n a ts a ts
climb_stop zero a ts = flat
climb_stop (suc n) a ts = up (climb_stop n a ts) stop

-- one more operator and operand at the beginning
operator_first : {n : ℕ} {b e : PlainTree} {ts mid rest : List Token} (op : BinOp) → Unary ts b mid → Climb n b mid e rest → level_of op < n → (a : PlainTree)
    → (e' : PlainTree) × Climb n a (Operator op ∷ ts) e' rest
operator_first op u flat h a = absurd (omega arith)
operator_first {ts = ts} op u (up {n = n} {b = c} k m) h a =
    elim (cases_eq (level_of op) n) [
      | inl same ↦ let g = more_any m (trees.Binary op a c) in (g.0, up (climb_stop n a (Operator op ∷ ts)) (operator same (climb_level u k) g.1))
      | inr other ↦
          let g = operator_first op u k (omega arith) a in
          let f = more_any m g.0 in (f.0, up g.1 f.1)
    ]

pub below_ten : (op : BinOp) → level_of op < 10
unfolding level_of
below_ten OrElse = lit< tt
below_ten AndAlso = lit< tt
below_ten Or = lit< tt
below_ten Xor = lit< tt
below_ten And = lit< tt
below_ten Eq = lit< tt
below_ten Ne = lit< tt
below_ten Lt = lit< tt
below_ten Le = lit< tt
below_ten Gt = lit< tt
below_ten Ge = lit< tt
below_ten Shl = lit< tt
below_ten Shr = lit< tt
below_ten Plus = lit< tt
below_ten Minus = lit< tt
below_ten Times = lit< tt
below_ten Over = lit< tt
below_ten Rest = lit< tt

chain_climbs : {ts rest : List Token} → Chain ts rest → (a : PlainTree) → (e : PlainTree) × Climb 10 a ts e rest
chain_climbs {ts = ts} ends a = (a, climb_stop 10 a ts)
chain_climbs (goes_on {op = op} {b = b} u c) a = let h = chain_climbs c b in operator_first op u h.1 (below_ten op) a

join_chains : {ts mid rest : List Token} → Chain ts mid → Chain mid rest → Chain ts rest
join_chains ends d = d
join_chains (goes_on u c) d = goes_on u (join_chains c d)

mutual
  more_chain : {n : ℕ} {a e : PlainTree} {ts rest : List Token} → More n a ts e rest → Chain ts rest
  more_chain stop = ends
  more_chain (operator i l m) = let h = level_chain l in goes_on h.1.1.0 (join_chains h.1.1.1 (more_chain m))

  pub level_chain : {n : ℕ} {ts rest : List Token} {e : PlainTree} → Level n ts e rest → (a : PlainTree) × ((mid : List Token) × (Unary ts a mid × Chain mid rest))
  level_chain (operand u) = (_, (_, (u, ends)))
  level_chain (level l m) = let h = level_chain l in (h.0, (h.1.0, (h.1.1.0, join_chains h.1.1.1 (more_chain m))))

-- an operand and a chain are an expression of all levels
pub chain_level : {ts mid rest : List Token} {a : PlainTree} → Unary ts a mid → Chain mid rest → (e : PlainTree) × Level levels ts e rest
chain_level {a = a} u c = let h = chain_climbs c a in (h.0, climb_level u h.1)
