-- Levels of operators at which nothing is read.
use Rattle.std.proofs.Common.{◌≡◌, ℕ, zero, suc, ◌+◌, ◌<◌, ◌≤◌, cond, List, [], ◌∷◌, Some, None, refl, ap, arith}
use Rattle.std.proofs.lemmas.Bool.{ne_eqb}
use Rattle.shell_parse.specs.declared.token.Token.{Token}
use Rattle.shell_parse.specs.declared.token.Token.TheVariants.{Number, Str, Name, Operator, Set, Not, Com, Open, Close, Comma, Semi, Redirect, File, Unknown}
use Rattle.shell_parse.specs.Levels.{level_of}
use Rattle.shell_parse.specs.Trees.{PlainTree}
use Rattle.shell_parse.specs.Descent.{operator_at, level_ahead, climb_at, more_at}
use Rattle.shell_parse.proofs.Complete.{first, more_stops}

-- no operator of a tighter level comes first
none_ahead : (i : ℕ) (ts : List Token) → i < level_ahead ts → operator_at i ts ≡ None
none_ahead i [] h = refl
none_ahead i (Operator op ∷ ts) h = ap (λ b. cond b (Some (op, ts)) None) (ne_eqb (level_of op) i (λ e. omega (arith, e, h)))
none_ahead i (Number n ∷ ts) h = refl
none_ahead i (Str x ∷ ts) h = refl
none_ahead i (Name x ∷ ts) h = refl
none_ahead i (Set op ∷ ts) h = refl
none_ahead i (Not ∷ ts) h = refl
none_ahead i (Com ∷ ts) h = refl
none_ahead i (Open ∷ ts) h = refl
none_ahead i (Close ∷ ts) h = refl
none_ahead i (Comma ∷ ts) h = refl
none_ahead i (Semi ∷ ts) h = refl
none_ahead i (Redirect ∷ ts) h = refl
none_ahead i (File x ∷ ts) h = refl
none_ahead i (Unknown ∷ ts) h = refl

-- none of the tightest k levels reads anything
pub passes : (n k : ℕ) (a : PlainTree) (ts : List Token) → k + 2 ≤ n → k ≤ level_ahead ts → climb_at n k a ts ≡ Some (a, ts)
unfolding climb_at
passes zero k a ts h le = absurd (omega arith)
passes (suc n) zero a ts h le = refl
passes (suc n) (suc k) a ts h le = first (λ x. more_at n k x.0 x.1) (passes n k a ts (omega arith) (omega arith)) (more_stops n k a ts (omega arith) (none_ahead k ts (omega arith)))
