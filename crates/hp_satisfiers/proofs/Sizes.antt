-- The measure of looking for satisfiers: the levels that are left, and the sizes of expressions.
use Rattle.std.proofs.Common.{◌≡◌, ℕ, zero, suc, ◌+◌, ◌*◌, ◌-◌, ◌<◌, ◌≤◌, List, [], ◌∷◌, length, get_or, ap, subst, arith}
use Rattle.std.specs.Prelude.{sum_by, Contains, Vec, Box}
use Rattle.std.specs.Global.{Global}
use Rattle.hp_syntax.specs.declared.pattern.AtomPat.{AtomPat}
use Rattle.hp_syntax.specs.declared.expression.Expr.{Expr}
use Rattle.hp_syntax.specs.declared.expression.ExprKind.TheVariants as exprs
use Rattle.hp_syntax.specs.Syntax.{Expression, Expressions, Holds, And, Or, Not, Forall, Assign, Test, NoExpression, Also, Clause, Axiom}
use Rattle.hp_syntax.specs.Views.{expression_of, expressions_of}
use Rattle.hp_syntax.specs.ViewLaws.{expression_of-atom, expression_of-and, expression_of-or, expression_of-not, expression_of-forall}
use Rattle.hp_satisfiers.specs.declared.expressions.Source.{Source}
use Rattle.hp_satisfiers.specs.declared.expressions.Source.TheVariants.{Parts, Sats, Axioms, Branches}
use Rattle.std.proofs.lemmas.List.Sums.{get_or-le-sum_by}

-- the number of expressions in an expression, itself among them
abbrev mutual
  pub size : Expression → ℕ
  size (Holds s a) = 1
  size (And s ps) = 1 + sizes ps
  size (Or s ps) = 1 + sizes ps
  size (Not s p) = 1 + size p
  size (Forall s vs y z) = 1 + (size y + size z)
  size (Assign s v p) = 1
  size (Test s p) = 1

  pub sizes : Expressions → ℕ
  sizes NoExpression = 0
  sizes (Also p ps) = size p + sizes ps

-- the number of expressions in the branches of axioms
abbrev pub branch_sizes : List Clause → ℕ
branch_sizes cs = sum_by (λ c. size c.body) cs

abbrev pub axiom_sizes : List Axiom → ℕ
axiom_sizes axioms = sum_by (λ x. branch_sizes x.clauses) axioms

-- what an item of a source is less than, beside the levels that are left
abbrev pub item_work : Source → ℕ
item_work (Parts parts) = 8 * sizes (expressions_of parts.now) + 1
item_work (Sats found part negate) = 8 * size (expression_of part.now) + 2
item_work (Axioms places goal) = 3
item_work (Branches found head goal) = 0

-- the measure for so many levels that are left, and a rest that is less than a level
abbrev pub left_to_do : List Axiom → ℕ → ℕ → ℕ
left_to_do axioms level rest = level * (8 * axiom_sizes axioms + 8) + rest

-- ---- expressions and their parts

module _ (expr : Expr) where
  -- an atom has size 1
  pub size_of-atom : (a : AtomPat) → expr.kind ≡ exprs.Atom a → size (expression_of expr) ≡ 1
  size_of-atom a h = ap size (expression_of-atom expr a h)

  -- a conjunction is one more than its parts
  pub size_of-and : (parts : Vec Expr Global) → expr.kind ≡ exprs.And parts
      → size (expression_of expr) ≡ 1 + sizes (expressions_of parts.items)
  size_of-and parts h = ap size (expression_of-and expr parts h)

  -- a disjunction is one more than its parts
  pub size_of-or : (parts : Vec Expr Global) → expr.kind ≡ exprs.Or parts
      → size (expression_of expr) ≡ 1 + sizes (expressions_of parts.items)
  size_of-or parts h = ap size (expression_of-or expr parts h)

  -- a negation is one more than its part
  pub size_of-not : (part : Box Expr Global) → expr.kind ≡ exprs.Not part
      → size (expression_of expr) ≡ 1 + size (expression_of part.value)
  size_of-not part h = ap size (expression_of-not expr part h)

  -- a forall is one more than its range and its body
  pub size_of-forall : (vars : Vec ℕ Global) (range body : Box Expr Global) → expr.kind ≡ exprs.Forall vars range body
      → size (expression_of expr) ≡ 1 + (size (expression_of range.value) + size (expression_of body.value))
  size_of-forall vars range body h = ap size (expression_of-forall expr vars range body h)

-- a part is no larger than all parts
pub part_size : (parts : List Expr) (i : ℕ) (p : Expr) → i < length parts → p ≡ get_or parts i p
    → size (expression_of p) ≤ sizes (expressions_of parts)
part_size [] i p l is = absurd (omega arith)
part_size (q ∷ ps) zero p l is = let e = ap (λ x. size (expression_of x)) is in omega (arith, e)
part_size (q ∷ ps) (suc i) p l is = let h = part_size ps i p (omega arith) is in omega (arith, h)

-- ---- axioms

-- one of some numbers is no larger than their sum
one_of_sum : {X : Type 0} (f : X → ℕ) (xs : List X) (x : X) → Contains xs x → f x ≤ sum_by f xs
one_of_sum f xs x (k, l, e) = subst (λ y. f y ≤ sum_by f xs) e (get_or-le-sum_by f xs k x l)

-- a branch is no larger than all branches of all axioms
pub branch_size : (axioms : List Axiom) (x : Axiom) (c : Clause) → Contains axioms x → Contains x.clauses c
    → size c.body ≤ axiom_sizes axioms
branch_size axioms x c h k =
    let one = one_of_sum (λ c. size c.body) x.clauses c k in
    let all = one_of_sum (λ x. branch_sizes x.clauses) axioms x h in
    omega (arith, one, all)

-- ---- the measure

-- the measure is less one level down, in a branch
pub less_to_do_below : (axioms : List Axiom) (level : ℕ) (n b : ℕ) → 0 < level → n ≤ axiom_sizes axioms
    → left_to_do axioms (level - 1) (8 * n) < left_to_do axioms level b
less_to_do_below axioms zero n b l h = absurd (omega arith)
less_to_do_below axioms (suc level) n b l h =
    let one : suc level - 1 ≡ level = omega arith in
    let unit = 8 * axiom_sizes axioms + 8 in
    rw one (let step : suc level * unit ≡ level * unit + unit = omega arith in omega (arith, step, h))
