-- The expressions between two indices of a code: the first of them, and so many before the others.
use Rattle.std.proofs.Common.{◌≡◌, ℕ, zero, suc, ◌+◌, ◌≤◌, inl, inr, true, List, [], ◌∷◌, length, take, drop, slice_get, Option, Some, None, is_some, refl, ap, ap₂, sym, subst, ◌∙◌, arith}
use Rattle.std.proofs.lemmas.Bool.{cases_lt}
use Rattle.std.proofs.lemmas.Option.{same_Some}
use Rattle.hp_syntax.specs.Syntax.{Also, Expression, Expressions, NoExpression}
use Rattle.hp_syntax.specs.Views.{as_expressions}
use Rattle.hp_nodes.specs.Trees.{Laid, Node, size, sizes, trees, tree_at, trees_between}
use Rattle.hp_code.specs.CodeViews.{CodeView, IsCode}
use Rattle.hp_code.specs.Sources.{expressions_read, made_of}
use Rattle.hp_code.proofs.NodeLemmas.{first_between, node_there, none_between}
use Rattle.hp_suspended.specs.Fitting.{AreExpressionsIn, IsExpressionAt}
use Rattle.hp_suspended.specs.Nodes.{expression_at, expressions_in}
use Rattle.hp_suspended.specs.Settings.{Setting}
use Rattle.hp_suspended.proofs.NodeRanges.{below_ends, node_in, range_ends}
use Rattle.hp_suspended.proofs.RangeLemmas.{code_laid, expression_of, first_expression, range_ascends}
use Rattle.hp_choice.specs.Asking.{next_tree, past}

-- past some trees and then some more is past as many as both
pub past_more : (nodes : List Laid) (i n m : ℕ) → past nodes i (n + m) ≡ past nodes (past nodes i n) m
past_more nodes i zero m = let none : 0 + m ≡ m = omega arith in ap (past nodes i) none
past_more nodes i (suc n) m =
    let next = next_tree (slice_get nodes i) i in
    let more : suc n + m ≡ suc (n + m) = omega arith in
    ap (past nodes i) more ∙ past_more nodes next n m

-- past a node's tree and some more is past these from where the node's tree ends
pub past_first : (nodes : List Laid) (i n : ℕ) (l : Laid) → slice_get nodes i ≡ Some l
    → past nodes i (suc n) ≡ past nodes l.to n
past_first nodes i n l there = ap (λ o. past nodes (next_tree o i) n) there

-- where expressions are made of a first one and others, both are there
both_of : (x : Option Expression) (y : Option Expressions) (e : Expression) (es : Expressions)
    → made_of Also x y ≡ Some (Also e es) → (x ≡ Some e) × (y ≡ Some es)
both_of None y e es h = absurd cc
both_of (Some a) None e es h = absurd cc
both_of (Some a) (Some b) e es h = let same = same_Some (Also a b) (Also e es) h in (cc, cc)

-- a first one and others aren't none
none_of : (x : Option Expression) (y : Option Expressions) → made_of Also x y ≡ Some NoExpression → ⊥
none_of None y h = cc
none_of (Some a) None h = cc
none_of (Some a) (Some b) h = cc

-- nor are none a first one and others
some_and_none : (e : Expression) (es : Expressions) → Some NoExpression ≡ Some (Also e es) → ⊥
some_and_none e es h = cc

-- an expression is that of the first node between two indices, and the others stand where its tree ends
record BeginsWith (c : CodeView) (first end : ℕ) (e : Expression) (es : List Expression) : Type 0 where
  node : Laid
  there : slice_get c.nodes first ≡ Some node
  is : expression_at c first ≡ Some e
  others : AreExpressionsIn c node.to end
  rest : expressions_in c node.to end ≡ Some (as_expressions es)

module _ (c : CodeView) (code : IsCode c) (first end : ℕ) (are : AreExpressionsIn c first end) where
  -- as a setting, of which only the code counts
  abbrev setting : Setting
  setting = record { code = c; terms = []; places = [] }

  -- a range that ends where it begins has no expressions
  none_over : end ≤ first → expressions_in c first end ≡ Some NoExpression
  unfolding expressions_in expressions_read
  none_over over = ap expressions_read (range_ends c.nodes first end are.whole over)

  -- where there are no expressions the range ends
  nothing_left : expressions_in c first end ≡ Some NoExpression → first ≡ end
  nothing_left none = elim (cases_lt first end) [
    | inl less ↦
        let l = node_in c.nodes first end are.within less in
        let f = first_expression setting 0 first end code are less l.0 l.1 in
        absurd (none_of (expression_at c first) (expressions_in c l.0.to end) (sym f.parts ∙ none))
    | inr over ↦ omega (arith, over, range_ascends c first end are)
  ]

  -- where there are some it begins with the first of them
  begins_with : (e : Expression) (es : List Expression) → expressions_in c first end ≡ Some (as_expressions (e ∷ es))
      → BeginsWith c first end e es
  begins_with e es read = elim (cases_lt first end) [
    | inl less ↦
        let l = node_in c.nodes first end are.within less in
        let f = first_expression setting 0 first end code are less l.0 l.1 in
        let both = both_of (expression_at c first) (expressions_in c l.0.to end) e (as_expressions es)
        (sym f.parts ∙ read) in
        record { node = l.0; there = l.1; is = both.0; others = f.others; rest = both.1 }
    | inr over ↦ absurd (some_and_none e (as_expressions es) (sym (none_over over) ∙ read))
  ]

-- a first expression before those of a range
pub record Grown (c : CodeView) (first to end : ℕ) : Type 0 where
  pub are : AreExpressionsIn c first end
  pub parts : expressions_in c first end ≡ made_of Also (expression_at c first) (expressions_in c to end)

-- where a first one and others are there, they are there together
both_made : (x : Option Expression) (y : Option Expressions) → is_some x ≡ true → is_some y ≡ true
    → is_some (made_of Also x y) ≡ true
both_made None y h k = absurd cc
both_made (Some a) None h k = absurd cc
both_made (Some a) (Some b) h k = refl

-- where a node is an expression's, it stands before a range that begins where its tree ends
pub grown : (c : CodeView) → IsCode c → (first end : ℕ) (l : Laid) → slice_get c.nodes first ≡ Some l
    → IsExpressionAt c first → AreExpressionsIn c l.to end → Grown c first l.to end
unfolding expressions_in expressions_read size sizes
grown c code first end l there is are =
    let down = code_laid c code in
    let tree = Node l.op l.span (trees_between c.nodes (suc first) l.to) in
    let at' : tree_at c.nodes first ≡ Some tree = node_there c.nodes first l there in
    let begins =
    first_between (trees 0 c.nodes) c.nodes down first end l there (range_ascends c l.to end are) tree at' in
    let parts : expressions_in c first end ≡ made_of Also (expression_at c first) (expressions_in c l.to end) =
    ap expressions_read begins
    ∙ ap (λ x. made_of Also x (expressions_in c l.to end)) (sym (expression_of c first tree at')) in
    let long = ap sizes begins in
    let ends = below_ends c.nodes down first l there in
    let whole = are.whole in
    record {
      are = record {
        read =
            ap is_some parts ∙ both_made (expression_at c first) (expressions_in c l.to end) is are.read;
        whole = omega (arith, long, ends, whole);
        within = are.within;
      };
      parts = parts;
    }

-- so many of the expressions between two indices stand before an index, and the others from there on
pub record PrefixAt (c : CodeView) (first end n : ℕ) (es : List Expression) : Type 0 where
  pub before : AreExpressionsIn c first (past c.nodes first n)
  pub are : expressions_in c first (past c.nodes first n) ≡ Some (as_expressions (take n es))
  pub behind : AreExpressionsIn c (past c.nodes first n) end
  pub others : expressions_in c (past c.nodes first n) end ≡ Some (as_expressions (drop n es))

-- between an index and itself there are none
pub none_at : (c : CodeView) (first : ℕ) → expressions_in c first first ≡ Some NoExpression
unfolding expressions_in expressions_read
none_at c first = ap expressions_read (none_between c.nodes first)

-- which is a range of expressions
pub range_of_none : (c : CodeView) (first : ℕ) → first ≤ length c.nodes → AreExpressionsIn c first first
unfolding sizes
range_of_none c first within =
    let none = ap sizes (none_between c.nodes first) in
    record { read = ap is_some (none_at c first); whole = omega (arith, none); within = within }

pub prefix_at : (c : CodeView) → IsCode c → (first end n : ℕ) (es : List Expression) → AreExpressionsIn c first end
    → expressions_in c first end ≡ Some (as_expressions es) → n ≤ length es → PrefixAt c first end n es
prefix_at c code first end zero es are read few =
    let within = are.within in
    record {
      before = range_of_none c first (omega (arith, within, range_ascends c first end are));
      are = none_at c first;
      behind = are;
      others = read;
    }
prefix_at c code first end (suc n) [] are read few = absurd (omega (arith, few))
prefix_at c code first end (suc n) (e ∷ es) are read few =
    let b = begins_with c code first end are e es read in
    let p = prefix_at c code b.node.to end n es b.others b.rest (omega (arith, few)) in
    let to = past c.nodes b.node.to n in
    let g = grown c code first to b.node b.there (ap is_some b.is) p.before in
    let same : to ≡ past c.nodes first (suc n) = sym (past_first c.nodes first n b.node b.there) in
    record {
      before = subst (AreExpressionsIn c first) same g.are;
      are =
          subst (λ k. expressions_in c first k ≡ Some (as_expressions (e ∷ take n es))) same
          (g.parts ∙ ap₂ (made_of Also) b.is p.are);
      behind = subst (λ k. AreExpressionsIn c k end) same p.behind;
      others = subst (λ k. expressions_in c k end ≡ Some (as_expressions (drop n es))) same p.others;
    }

-- past all of them the range ends
pub past_all : (c : CodeView) → IsCode c → (first end : ℕ) (es : List Expression) → AreExpressionsIn c first end
    → expressions_in c first end ≡ Some (as_expressions es) → past c.nodes first (length es) ≡ end
past_all c code first end [] are read = nothing_left c code first end are read
past_all c code first end (e ∷ es) are read =
    let b = begins_with c code first end are e es read in
    past_first c.nodes first (length es) b.node b.there ∙ past_all c code b.node.to end es b.others b.rest

-- the expression at a place stands past as many trees
pub part_past : (c : CodeView) → IsCode c → (first end n : ℕ) (es : List Expression) (e : Expression)
    → AreExpressionsIn c first end → expressions_in c first end ≡ Some (as_expressions es) → slice_get es n ≡ Some e
    → expression_at c (past c.nodes first n) ≡ Some e
part_past c code first end n [] e are read there = absurd cc
part_past c code first end zero (x ∷ xs) e are read there =
    let b = begins_with c code first end are x xs read in
    b.is ∙ there
part_past c code first end (suc n) (x ∷ xs) e are read there =
    let b = begins_with c code first end are x xs read in
    ap (expression_at c) (past_first c.nodes first n b.node b.there)
    ∙ part_past c code b.node.to end n xs e b.others b.rest there
