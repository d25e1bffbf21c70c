-- How trees under evaluation are stored as ghost values, and read back.
use Rattle.std.specs.Prelude.{◌≡◌, ℕ, zero, suc, refl}
use Rattle.std.proofs.Common.{ap, sym, ◌∙◌}
use Rattle.shell_parse.specs.Codes.{op_number, op_of_number, op_again, set_number, set_of_number, set_again, un_number, un_of_number, un_again, bytes_code, bytes_of_code, bytes_again}
use Rattle.shell_eval.specs.Pending.{Pending, Number, Str, Name, Lone, Address, Word, Unary, Binary, Choice, SetName, SetWord, New, Call, Hole, Args, End, Then, Logic, All, Any}
use base.Stored.{Gv, gnil, gnum, gcons, Coded}

-- the number of a logic
abbrev pub logic_number : Logic → ℕ
logic_number All = 0
logic_number Any = 1

-- the logic with this number
abbrev pub logic_of_number : ℕ → Logic
logic_of_number zero = All
logic_of_number (suc n) = Any

pub logic_again : (w : Logic) → logic_of_number (logic_number w) ≡ w
logic_again All = refl
logic_again Any = refl

-- a tree and arguments as ghost values: a number for the kind, then the parts
abbrev mutual
  pub tree_code : Pending → Gv
  tree_code Hole = gnil
  tree_code (Number n) = gcons (gnum 0) (gnum n)
  tree_code (Str b) = gcons (gnum 1) (bytes_code b)
  tree_code (Name x) = gcons (gnum 2) (bytes_code x)
  tree_code (Lone x) = gcons (gnum 3) (bytes_code x)
  tree_code (Address x) = gcons (gnum 4) (bytes_code x)
  tree_code (Word a) = gcons (gnum 5) (tree_code a)
  tree_code (Unary o a) = gcons (gnum 6) (gcons (gnum (un_number o)) (tree_code a))
  tree_code (Binary o a b) = gcons (gnum 7) (gcons (gnum (op_number o)) (gcons (tree_code a) (tree_code b)))
  tree_code (Choice w a b) = gcons (gnum 8) (gcons (gnum (logic_number w)) (gcons (tree_code a) (tree_code b)))
  tree_code (SetName aop x e) = gcons (gnum 9) (gcons (gnum (set_number aop)) (gcons (bytes_code x) (tree_code e)))
  tree_code (SetWord aop a e) = gcons (gnum 10) (gcons (gnum (set_number aop)) (gcons (tree_code a) (tree_code e)))
  tree_code (New x e) = gcons (gnum 11) (gcons (bytes_code x) (tree_code e))
  tree_code (Call f es) = gcons (gnum 12) (gcons (tree_code f) (args_code es))

  pub args_code : Args → Gv
  args_code End = gnil
  args_code (Then e es) = gcons (tree_code e) (args_code es)

-- the tree and the arguments that a ghost value stores
abbrev mutual
  pub tree_of_code : Gv → Pending
  tree_of_code (gcons (gnum zero) (gnum n)) = Number n
  tree_of_code (gcons (gnum (suc zero)) b) = Str (bytes_of_code b)
  tree_of_code (gcons (gnum (suc (suc zero))) x) = Name (bytes_of_code x)
  tree_of_code (gcons (gnum (suc (suc (suc zero)))) x) = Lone (bytes_of_code x)
  tree_of_code (gcons (gnum (suc (suc (suc (suc zero))))) x) = Address (bytes_of_code x)
  tree_of_code (gcons (gnum (suc (suc (suc (suc (suc zero)))))) a) = Word (tree_of_code a)
  tree_of_code (gcons (gnum (suc (suc (suc (suc (suc (suc zero))))))) (gcons (gnum o) a)) = Unary (un_of_number o) (tree_of_code a)
  tree_of_code (gcons (gnum (suc (suc (suc (suc (suc (suc (suc zero)))))))) (gcons (gnum o) (gcons a b))) = Binary (op_of_number o) (tree_of_code a) (tree_of_code b)
  tree_of_code (gcons (gnum (suc (suc (suc (suc (suc (suc (suc (suc zero))))))))) (gcons (gnum w) (gcons a b))) = Choice (logic_of_number w) (tree_of_code a) (tree_of_code b)
  tree_of_code (gcons (gnum (suc (suc (suc (suc (suc (suc (suc (suc (suc zero)))))))))) (gcons (gnum o) (gcons x e))) = SetName (set_of_number o) (bytes_of_code x) (tree_of_code e)
  tree_of_code (gcons (gnum (suc (suc (suc (suc (suc (suc (suc (suc (suc (suc zero))))))))))) (gcons (gnum o) (gcons a e))) = SetWord (set_of_number o) (tree_of_code a) (tree_of_code e)
  tree_of_code (gcons (gnum (suc (suc (suc (suc (suc (suc (suc (suc (suc (suc (suc zero)))))))))))) (gcons x e)) = New (bytes_of_code x) (tree_of_code e)
  tree_of_code (gcons (gnum (suc (suc (suc (suc (suc (suc (suc (suc (suc (suc (suc (suc n))))))))))))) (gcons f es)) = Call (tree_of_code f) (args_of_code es)
  tree_of_code _ = Hole

  pub args_of_code : Gv → Args
  args_of_code (gcons e es) = Then (tree_of_code e) (args_of_code es)
  args_of_code _ = End

mutual
  pub tree_again : (t : Pending) → tree_of_code (tree_code t) ≡ t
  tree_again Hole = refl
  tree_again (Number n) = refl
  tree_again (Str b) = ap Str (bytes_again b)
  tree_again (Name x) = ap Name (bytes_again x)
  tree_again (Lone x) = ap Lone (bytes_again x)
  tree_again (Address x) = ap Address (bytes_again x)
  tree_again (Word a) = ap Word (tree_again a)
  tree_again (Unary o a) = λ i. Unary (un_again o i) (tree_again a i)
  tree_again (Binary o a b) = λ i. Binary (op_again o i) (tree_again a i) (tree_again b i)
  tree_again (Choice w a b) = λ i. Choice (logic_again w i) (tree_again a i) (tree_again b i)
  tree_again (SetName aop x e) = λ i. SetName (set_again aop i) (bytes_again x i) (tree_again e i)
  tree_again (SetWord aop a e) = λ i. SetWord (set_again aop i) (tree_again a i) (tree_again e i)
  tree_again (New x e) = λ i. New (bytes_again x i) (tree_again e i)
  tree_again (Call f es) = λ i. Call (tree_again f i) (args_again es i)

  pub args_again : (es : Args) → args_of_code (args_code es) ≡ es
  args_again End = refl
  args_again (Then e es) = λ i. Then (tree_again e i) (args_again es i)

-- the code of trees under evaluation
abbrev pub coded_pending : Coded Pending
coded_pending = record { code = tree_code; inj = λ x y p. sym (tree_again x) ∙ ap tree_of_code p ∙ tree_again y }
