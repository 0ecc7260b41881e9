-- An empty list, and one that begins with a name other than `nil`: the line of the grammar that it chooses.
use Rattle.std.proofs.Common.{◌≡◌, refl, ap, sym, ◌∙◌, arith, ℕ, ◌<◌, ◌≤◌, List, [], ◌∷◌, length, get_or, Result, Ok, Err, true, false, bytes_eq, codes}
use Rattle.std.specs.Global.{Global}
use Rattle.std.specs.Prelude.{Vec}
use Rattle.hp_syntax.specs.declared.expression.Expr.{Expr}
use Rattle.hp_syntax.specs.declared.expression.ExprKind.TheVariants as exprs
use Rattle.hp_syntax.specs.declared.pattern.Span.{Span}
use Rattle.hp_syntax.specs.declared.form.What.TheVariants as wants
use Rattle.hp_syntax.specs.Forest.{Forest, Grow, Word}
use Rattle.hp_text.specs.declared.forest.Node.{Node}
use Rattle.hp_text.specs.Nodes.{node_of, nodes_of}
use Rattle.hp_text.specs.NodeLaws.{node_of-span}
use Rattle.hp_terms.proofs.Turns.{refused_same, refused_next}
use Rattle.hp_terms.specs.FormReads.{Refuses}
use Rattle.hp_terms.specs.declared.refusal.FormRefusal.{FormRefusal}
use Rattle.hp_syntax.specs.Names.{is_plain}
use Rattle.hp_syntax.specs.Steps.{Misform, Expected, Names, and_then, pure, ◌>>=◌, ◌<$>◌, closing, ended, expected}
use Rattle.hp_syntax.specs.Syntax.{Expression, And, Or, Not, Test, Holds}
use Rattle.hp_syntax.specs.ViewLaws.{expression_of-and}
use Rattle.hp_syntax.specs.Views.{expression_of, expressions_of}
use Rattle.hp_syntax.specs.Grammar.{InRule, is_nil, expression, list_expression, expressions, one_expression, two_expressions, quantified, assigned, implied, called, named_atom}

-- what a step gives, seen through a function
pub seen_as : {A B : Type 0} (f : A → B) (r : Result (A × Names) Misform) (x : A) (y : B) (names : Names)
    → r ≡ Ok (x, names) → f x ≡ y → and_then r (λ a. pure (f a)) ≡ Ok (y, names)
seen_as f r x y names h e = ap (λ o. and_then o (λ a. pure (f a))) h ∙ ap (λ b. Ok (b, names)) e

-- an empty list is an empty conjunction
pub by_nothing : (s : Span) (nodes : List Node) (parts : Vec Expr Global) (names : Names) → length nodes ≡ 0
    → parts.items ≡ []
    → list_expression s (nodes_of nodes) names
    ≡ Ok (expression_of (record { span = s; kind = exprs.And parts }), names)
unfolding list_expression
by_nothing s [] parts names none h =
    ap (λ e. Ok (e, names)) (sym (expression_of-and (record { span = s; kind = exprs.And parts }) parts refl
    ∙ ap (λ es. And s (expressions_of es)) h))
by_nothing s (n ∷ ns) parts names none h = absurd (omega arith)

module _ (s t : Span) (key : List ℕ) (rest : Forest) (names : Names) (no_nil : is_nil key ≡ false) where
  pub by_and : bytes_eq key (codes "and") ≡ true
      → list_expression s (Grow (Word t key) rest) names ≡ (And s <$> expressions rest) names
  unfolding list_expression
  by_and h = rw (no_nil, h) refl

  pub by_or : bytes_eq key (codes "and") ≡ false → bytes_eq key (codes "or") ≡ true
      → list_expression s (Grow (Word t key) rest) names ≡ (Or s <$> expressions rest) names
  unfolding list_expression
  by_or no_and h = rw (no_nil, no_and, h) refl

  pub by_not : bytes_eq key (codes "and") ≡ false → bytes_eq key (codes "or") ≡ false
      → bytes_eq key (codes "not") ≡ true
      → list_expression s (Grow (Word t key) rest) names ≡ (Not s <$> one_expression (closing s) rest) names
  unfolding list_expression
  by_not no_and no_or h = rw (no_nil, no_and, no_or, h) refl

  -- it is none of the words of expressions that are made of expressions, up to `imply`
  pub by_imply : bytes_eq key (codes "and") ≡ false → bytes_eq key (codes "or") ≡ false
      → bytes_eq key (codes "not") ≡ false → bytes_eq key (codes "imply") ≡ true
      → list_expression s (Grow (Word t key) rest) names ≡ (implied s <$> two_expressions (closing s) rest) names
  unfolding list_expression
  by_imply no_and no_or no_not h = rw (no_nil, no_and, no_or, no_not, h) refl

  module _ (no_and : bytes_eq key (codes "and") ≡ false) (no_or : bytes_eq key (codes "or") ≡ false)
      (no_not : bytes_eq key (codes "not") ≡ false) (no_imply : bytes_eq key (codes "imply") ≡ false) where
    pub by_forall : bytes_eq key (codes "forall") ≡ true
        → list_expression s (Grow (Word t key) rest) names ≡ quantified s rest names
    unfolding list_expression
    by_forall h = rw (no_nil, no_and, no_or, no_not, no_imply, h) refl

    pub by_assign : bytes_eq key (codes "forall") ≡ false → bytes_eq key (codes "assign") ≡ true
        → list_expression s (Grow (Word t key) rest) names ≡ assigned s rest names
    unfolding list_expression
    by_assign no_forall h = rw (no_nil, no_and, no_or, no_not, no_imply, no_forall, h) refl

    module _ (no_forall : bytes_eq key (codes "forall") ≡ false)
        (no_assign : bytes_eq key (codes "assign") ≡ false) where
      pub by_call : bytes_eq key (codes "call") ≡ true
          → list_expression s (Grow (Word t key) rest) names ≡ (Test s <$> called InRule s rest) names
      unfolding list_expression
      by_call h = rw (no_nil, no_and, no_or, no_not, no_imply, no_forall, no_assign, h) refl

      pub by_name : bytes_eq key (codes "call") ≡ false → is_plain key ≡ true
          → list_expression s (Grow (Word t key) rest) names ≡ (Holds s <$> named_atom InRule s key rest) names
      unfolding list_expression
      by_name no_call h = rw (h, no_nil, no_and, no_or, no_not, no_imply, no_forall, no_assign, no_call) refl

      pub by_no_name : bytes_eq key (codes "call") ≡ false → is_plain key ≡ false
          → list_expression s (Grow (Word t key) rest) names ≡ expected wants.Expr s names
      unfolding list_expression
      by_no_name no_call h = rw (h, no_nil, no_and, no_or, no_not, no_imply, no_forall, no_assign, no_call) refl

-- ---- one expression, and what stands behind it

-- one expression that stands alone is itself
pub one_alone : (end : Span) (nodes : List Node) (n : Node) (names : Names) → 1 ≤ length nodes → length nodes < 2
    → n ≡ get_or nodes 0 n → one_expression end (nodes_of nodes) names ≡ expression (node_of n) names
unfolding one_expression
one_alone end [] n names least most is = absurd (omega arith)
one_alone end (x ∷ []) n names least most is =
    elim (expression (node_of x) names) as (λ r. and_then r (λ e. ended (nodes_of []) >>= (λ _. pure e)) ≡ r)
    [ Ok p ↦ refl | Err e ↦ refl ]
    ∙ ap (λ y. expression (node_of y) names) (sym is)
one_alone end (x ∷ y ∷ ns) n names least most is = absurd (omega arith)

-- behind one expression that is read no other may stand
pub one_too_many : (end : Span) (nodes : List Node) (first second : Node) (e : Expression) (names after : Names)
    → 2 ≤ length nodes → first ≡ get_or nodes 0 first → second ≡ get_or nodes 1 second
    → expression (node_of first) names ≡ Ok (e, after)
    → one_expression end (nodes_of nodes) names ≡ Err (Expected wants.End second.span)
unfolding one_expression
one_too_many end [] first second e names after least f s h = absurd (omega arith)
one_too_many end (x ∷ []) first second e names after least f s h = absurd (omega arith)
one_too_many end (x ∷ y ∷ ns) first second e names after least f s h =
    ap (λ r. and_then r (λ d. ended (nodes_of (y ∷ ns)) >>= (λ _. pure d)))
    (ap (λ z. expression (node_of z) names) (sym f) ∙ h)
    ∙ ap (λ t. Err (Expected wants.End t)) (node_of-span y ∙ ap (λ z. z.span) (sym s))

-- an expression that is refused at the front refuses all
pub one_refused : (why : FormRefusal) (end : Span) (nodes : List Node) (first : Node) (names : Names)
    → 1 ≤ length nodes → first ≡ get_or nodes 0 first → Refuses why (expression (node_of first) names)
    → Refuses why (one_expression end (nodes_of nodes) names)
unfolding one_expression
one_refused why end [] first names least f h = absurd (omega arith)
one_refused why end (x ∷ xs) first names least f h =
    refused_same why _ _
    (ap (λ z. and_then (expression (node_of z) names) (λ d. ended (nodes_of xs) >>= (λ _. pure d))) (sym f))
    (refused_next why (expression (node_of first) names) (λ d. ended (nodes_of xs) >>= (λ _. pure d)) h)
