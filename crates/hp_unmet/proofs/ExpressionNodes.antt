-- The nodes of the expressions of a negation and of a `forall`, and that of an expression alone.
use Rattle.std.proofs.Common.{◌≡◌, ℕ, suc, ◌+◌, true, List, [], ◌∷◌, length, slice_get, Option, Some, None, is_some, option_map, refl, ap, ap₂, sym, subst, ◌∙◌, arith}
use Rattle.std.proofs.lemmas.Option.{same_Some}
use Rattle.hp_syntax.specs.declared.pattern.Span.{Span}
use Rattle.hp_syntax.specs.Syntax as syntax
use Rattle.hp_syntax.specs.Syntax.{Expression}
use Rattle.hp_nodes.specs.Trees as trees
use Rattle.hp_nodes.specs.Trees.{Laid, Operation, More, Node, NoTree, Tree, Trees, trees_between}
use Rattle.hp_code.specs.CodeViews.{CodeView, IsCode}
use Rattle.hp_code.specs.Sources.{expression_read, expressions_read, made_of}
use Rattle.hp_suspended.specs.Nodes.{expression_at}
use Rattle.hp_suspended.proofs.NodeRanges.{StandsFirst, below_ends, ends_within, node_in, stands_first}
use Rattle.hp_suspended.proofs.NodeReadings.{expression_within}
use Rattle.hp_suspended.proofs.RangeLemmas.{code_laid, expression_of}
use Rattle.hp_choice.specs.Asking.{next_tree, past}
use Rattle.hp_unmet.specs.PartNodes.{StandBetween}
use Rattle.hp_unmet.proofs.ConjunctionNodes.{other_made, other_made_of, own_tree}
use Rattle.hp_unmet.proofs.PrefixSteps.{grown, none_at, past_first, range_of_none}

-- what is some is some thing
pub known_some : {A : Type 0} (o : Option A) → is_some o ≡ true → (x : A) × (o ≡ Some x)
known_some None e = absurd cc
known_some (Some x) e = (x, refl)

-- ---- what stands below a negation

-- a tree alone reads back as an expression
record IsOnly (ts : Trees) (p : Expression) : Type 0 where
  tree : Tree
  is : ts ≡ More tree NoTree
  read : expression_read tree ≡ Some p

-- where a negation is made of an expression, it denies that
denied_made : (s t : Span) (x : Option Expression) (p : Expression)
    → option_map (syntax.Not s) x ≡ Some (syntax.Not t p) → x ≡ Some p
denied_made s t None p e = absurd cc
denied_made s t (Some a) p e = let same = same_Some (syntax.Not s a) (syntax.Not t p) e in cc

-- below the node of a negation stands the tree of the expression that it denies, alone
denied_below : (op : Operation) (s : Span) (ts : Trees) (t : Span) (p : Expression)
    → expression_read (Node op s ts) ≡ Some (syntax.Not t p) → IsOnly ts p
unfolding expression_read
denied_below trees.Not s NoTree t p e = absurd cc
denied_below trees.Not s (More u NoTree) t p e =
    record { tree = u; is = refl; read = denied_made s t (expression_read u) p e }
denied_below trees.Not s (More u (More v vs)) t p e = absurd cc
denied_below trees.And s ts t p e =
    absurd (other_made (syntax.And s) (syntax.Not t p) (λ a h. cc) (expressions_read ts) e)
denied_below trees.Or s ts t p e =
    absurd (other_made (syntax.Or s) (syntax.Not t p) (λ a h. cc) (expressions_read ts) e)
denied_below trees.Forall s NoTree t p e = absurd cc
denied_below trees.Forall s (More u NoTree) t p e = absurd cc
denied_below trees.Forall s (More u (More v NoTree)) t p e =
    absurd (other_made_of (syntax.Forall s []) (syntax.Not t p) (λ a b h. cc) (expression_read u) (expression_read v) e)
denied_below trees.Forall s (More u (More v (More w ws))) t p e = absurd cc
denied_below (trees.Holds a) s NoTree t p e = absurd cc
denied_below (trees.Holds a) s (More u us) t p e = absurd cc
denied_below (trees.Assign v q) s NoTree t p e = absurd cc
denied_below (trees.Assign v q) s (More u us) t p e = absurd cc
denied_below (trees.Test q) s NoTree t p e = absurd cc
denied_below (trees.Test q) s (More u us) t p e = absurd cc
denied_below _ s ts t p e = absurd cc

-- ---- what stands below a `forall`

-- two trees read back as two expressions
record AreBoth (ts : Trees) (y z : Expression) : Type 0 where
  first : Tree
  second : Tree
  is : ts ≡ More first (More second NoTree)
  first_read : expression_read first ≡ Some y
  second_read : expression_read second ≡ Some z

-- where a `forall` is made of two expressions, they are its own
both_made : (s t : Span) (vars : List ℕ) (x o : Option Expression) (y z : Expression)
    → made_of (syntax.Forall s []) x o ≡ Some (syntax.Forall t vars y z) → (x ≡ Some y) × (o ≡ Some z)
both_made s t vars None o y z e = absurd cc
both_made s t vars (Some a) None y z e = absurd cc
both_made s t vars (Some a) (Some b) y z e =
    let same = same_Some (syntax.Forall s [] a b) (syntax.Forall t vars y z) e in (cc, cc)

-- below the node of a `forall` stand the trees of its two expressions
both_below : (op : Operation) (s : Span) (ts : Trees) (t : Span) (vars : List ℕ) (y z : Expression)
    → expression_read (Node op s ts) ≡ Some (syntax.Forall t vars y z) → AreBoth ts y z
unfolding expression_read
both_below trees.Forall s NoTree t vars y z e = absurd cc
both_below trees.Forall s (More u NoTree) t vars y z e = absurd cc
both_below trees.Forall s (More u (More v NoTree)) t vars y z e =
    let both = both_made s t vars (expression_read u) (expression_read v) y z e in
    record { first = u; second = v; is = refl; first_read = both.0; second_read = both.1 }
both_below trees.Forall s (More u (More v (More w ws))) t vars y z e = absurd cc
both_below trees.And s ts t vars y z e =
    absurd (other_made (syntax.And s) (syntax.Forall t vars y z) (λ a h. cc) (expressions_read ts) e)
both_below trees.Or s ts t vars y z e =
    absurd (other_made (syntax.Or s) (syntax.Forall t vars y z) (λ a h. cc) (expressions_read ts) e)
both_below trees.Not s NoTree t vars y z e = absurd cc
both_below trees.Not s (More u NoTree) t vars y z e =
    absurd (other_made (syntax.Not s) (syntax.Forall t vars y z) (λ a h. cc) (expression_read u) e)
both_below trees.Not s (More u (More v vs)) t vars y z e = absurd cc
both_below (trees.Holds a) s NoTree t vars y z e = absurd cc
both_below (trees.Holds a) s (More u us) t vars y z e = absurd cc
both_below (trees.Assign v q) s NoTree t vars y z e = absurd cc
both_below (trees.Assign v q) s (More u us) t vars y z e = absurd cc
both_below (trees.Test q) s NoTree t vars y z e = absurd cc
both_below (trees.Test q) s (More u us) t vars y z e = absurd cc
both_below _ s ts t vars y z e = absurd cc

-- ---- nodes

module _ (c : CodeView) (code : IsCode c) (i : ℕ) where
  next : suc i ≡ i + 1
  next = omega arith

  -- where an expression is read there is a node
  node_read : (e : Expression) → expression_at c i ≡ Some e → (l : Laid) × (slice_get c.nodes i ≡ Some l)
  node_read e read =
      let within = expression_within c i (ap is_some read) in
      node_in c.nodes i (length c.nodes) (omega arith) within

  module _ (l : Laid) (there : slice_get c.nodes i ≡ Some l) where
    abbrev below : Trees
    below = trees_between c.nodes (suc i) l.to

    -- where trees stand below it the first of them stands after it
    first_below : (t : Tree) (us : Trees) → below ≡ More t us → StandsFirst c.nodes (suc i) l.to t us
    first_below t us is =
        let down = code_laid c code in
        stands_first c.nodes down (suc i) l.to t us (below_ends c.nodes down i l there)
        (ends_within c.nodes down i l there) is

    after : (t : Tree) (us : Trees) → below ≡ More t us → expression_at c (i + 1) ≡ expression_read t
    after t us is =
        ap (expression_at c) (sym next) ∙ expression_of c (suc i) t (first_below t us is).tree

    denied_after : (s : Span) (p : Expression) → expression_at c i ≡ Some (syntax.Not s p)
        → expression_at c (i + 1) ≡ Some p
    denied_after s p read =
        let b = denied_below l.op l.span below s p (own_tree c code i (syntax.Not s p) read l there) in
        after b.tree NoTree b.is ∙ b.read

    module _ (s : Span) (vars : List ℕ) (y z : Expression) (read : expression_at c i ≡ Some (syntax.Forall s vars y z))
      where
        both : AreBoth below y z
        both = both_below l.op l.span below s vars y z (own_tree c code i (syntax.Forall s vars y z) read l there)

        range_after : expression_at c (i + 1) ≡ Some y
        range_after = after both.first (More both.second NoTree) both.is ∙ both.first_read

        body_after : expression_at c (next_tree (slice_get c.nodes (i + 1)) (i + 1)) ≡ Some z
        body_after =
            let down = code_laid c code in
            let first = first_below both.first (More both.second NoTree) both.is in
            let second = stands_first c.nodes down first.node.to l.to both.second NoTree first.whole
            (ends_within c.nodes down i l there) first.others in
            let here : slice_get c.nodes (i + 1) ≡ Some first.node = ap (slice_get c.nodes) (sym next) ∙ first.there in
            ap (λ o. expression_at c (next_tree o (i + 1))) here
            ∙ (expression_of c first.node.to both.second second.tree ∙ both.second_read)

    -- from the node of an expression to where its tree ends the expression stands alone
    alone_there : (e : Expression) → expression_at c i ≡ Some e → StandBetween c i (past c.nodes i 1) (e ∷ [])
    alone_there e read =
        let none = range_of_none c l.to (ends_within c.nodes (code_laid c code) i l there) in
        let g = grown c code i l.to l there (ap is_some read) none in
        subst (λ to. StandBetween c i to (e ∷ [])) (sym (past_first c.nodes i 0 l there))
        (record { range = g.are; are = g.parts ∙ ap₂ (made_of syntax.Also) read (none_at c l.to) })

  -- the node after a negation's is that of the expression that it denies
  pub denied_there : (s : Span) (p : Expression) → expression_at c i ≡ Some (syntax.Not s p)
      → expression_at c (i + 1) ≡ Some p
  denied_there s p read =
      let l = node_read (syntax.Not s p) read in denied_after l.0 l.1 s p read

  -- the node after that of a `forall` is that of its first expression
  pub range_there : (s : Span) (vars : List ℕ) (y z : Expression) → expression_at c i ≡ Some (syntax.Forall s vars y z)
      → expression_at c (i + 1) ≡ Some y
  range_there s vars y z read =
      let l = node_read (syntax.Forall s vars y z) read in range_after l.0 l.1 s vars y z read

  -- and where that one's tree ends there is the node of the second
  pub body_there : (s : Span) (vars : List ℕ) (y z : Expression) → expression_at c i ≡ Some (syntax.Forall s vars y z)
      → expression_at c (next_tree (slice_get c.nodes (i + 1)) (i + 1)) ≡ Some z
  body_there s vars y z read =
      let l = node_read (syntax.Forall s vars y z) read in body_after l.0 l.1 s vars y z read

  -- an expression stands alone from its node to where the tree of the node ends
  pub stands_alone : (e : Expression) → expression_at c i ≡ Some e → StandBetween c i (past c.nodes i 1) (e ∷ [])
  stands_alone e read = let l = node_read e read in alone_there l.0 l.1 e read
