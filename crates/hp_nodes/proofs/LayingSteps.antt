-- Steps of laying rules down.
use Rattle.std.proofs.Common.{◌≡◌, ℕ, ◌+◌, ◌<◌, ◌≤◌, List, [], ◌∷◌, map, length, get_or, drop, Result, refl, ap, ap₂, sym, subst, ◌∙◌}
use Rattle.std.specs.Global.{Global}
use Rattle.std.specs.Prelude.{Vec}
use Rattle.std.specs.Result.{OnOk}
use Rattle.std.proofs.lemmas.List.{drop_more, at_drop_all}
use Rattle.hp_syntax.specs.declared.domain.Side.{Side}
use Rattle.hp_syntax.specs.declared.pattern.Span.{Span}
use Rattle.hp_syntax.specs.declared.tasks.NetPat.{NetPat}
use Rattle.hp_syntax.specs.declared.tasks.NetPat.TheVariants as nets
use Rattle.hp_syntax.specs.Syntax.{Effect, Tasks, Ordered, Then, NoTasks}
use Rattle.hp_syntax.specs.ViewLaws.{tasks_of-ordered}
use Rattle.hp_syntax.specs.Views.{task_list_of, tasks_of}
use Rattle.hp_nodes.specs.declared.node.CodeNode.{CodeNode}
use Rattle.hp_nodes.specs.Compiled.{only, effect_tree, effect_trees}
use Rattle.hp_nodes.specs.Laying.{Lays, Opens}
use Rattle.hp_nodes.specs.NodeViews.{laid_of}
use Rattle.hp_nodes.specs.Trees.{Operation, Laid, Tree, Trees, Node, NoTree, More}
use Rattle.hp_nodes.proofs.LayingLemmas.{laid_behind, laid_behind-none, laid_on, lays_both}
use Rattle.hp_nodes.proofs.TreeLemmas.{followed}

-- ---- equal operations

-- a node of an equal operation is laid down as that of the operation
pub node_of_equal : {T E : Type 0} {op same : Operation} (r : Result T E) (s : Span) (ts : Trees)
    (old new : List CodeNode) → op ≡ same → OnOk r (Lays (only (Node op s ts)) old new)
    → OnOk r (Lays (only (Node same s ts)) old new)
node_of_equal r s ts old new e h = subst (λ o. OnOk r (Lays (only (Node o s ts)) old new)) e h

-- a node of an equal operation is opened as that of the operation
pub opened_of_equal : {op same : Operation} {s : Span} {at : ℕ} {old new : List CodeNode} → op ≡ same
    → Opens op s at old new → Opens same s at old new
opened_of_equal {s = s} {at = at} {old = old} {new = new} e h = subst (λ o. Opens o s at old new) e h

-- ---- lists that are laid down part by part

module _ {X : Type 0} (rest : List X → Trees) (tree : X → Tree) (xs : List X) (i : ℕ) (x : X) (old new : List CodeNode)
    (step : (y : X) (ys : List X) → rest (y ∷ ys) ≡ More (tree y) (rest ys)) (below : i < length xs)
    (at : x ≡ get_or xs i x) (put : Lays (only (tree x)) old new) where
  -- what is left of a list begins with the part in this place
  rest_here : rest (drop i xs) ≡ More (tree x) (rest (drop (i + 1) xs))
  rest_here =
      ap rest (drop_more xs i x below ∙ ap (λ y. y ∷ drop (i + 1) xs) (sym at)) ∙ step x (drop (i + 1) xs)

  -- once one more part is laid down, the nodes and what is left of the list are what they were together before
  pub laid_one_more : (whole : List Laid) → laid_behind old (rest (drop i xs)) ≡ whole
      → laid_behind new (rest (drop (i + 1) xs)) ≡ whole
  laid_one_more whole left =
      laid_on (only (tree x)) (rest (drop (i + 1) xs)) old new put ∙ ap (laid_behind old) (sym rest_here) ∙ left

module _ {X : Type 0} (rest : List X → Trees) (xs : List X) (i : ℕ) (past : length xs ≤ i)
    (none : rest [] ≡ NoTree) where
  -- when all parts of a list are laid down, the nodes are the whole
  pub all_parts_laid : (nodes : List CodeNode) (whole : List Laid)
      → laid_behind nodes (rest (drop i xs)) ≡ whole → map laid_of nodes ≡ whole
  all_parts_laid nodes whole left =
      sym (laid_behind-none nodes) ∙ ap (laid_behind nodes) (sym (at_drop_all rest xs i past ∙ none)) ∙ left

-- ---- effects

-- the trees of effects before others are followed by them
effect_trees-followed : (side : Side) (s : Span) (xs : List Effect) (ts : Trees)
    → followed (effect_trees side s xs NoTree) ts ≡ effect_trees side s xs ts
effect_trees-followed side s [] ts = refl
effect_trees-followed side s (x ∷ xs) ts =
    ap (λ us. More (effect_tree side s x) us) (effect_trees-followed side s xs ts)

-- effects that are laid down, and trees behind them, are all of these
pub effects_before : (side : Side) (s : Span) (xs : List Effect) (ts : Trees) (a b c : List CodeNode)
    → Lays (effect_trees side s xs NoTree) a b → Lays ts b c → Lays (effect_trees side s xs ts) a c
effects_before side s xs ts a b c h k =
    lays_both (effect_trees side s xs NoTree) ts a b c h k
    ∙ ap (laid_behind a) (effect_trees-followed side s xs ts)

-- ---- tasks

-- two tasks in a list are ordered as they stand in it
pub ordered_both : (ps : Vec NetPat Global) (a b : NetPat) (x y : Tasks) → ps.items ≡ a ∷ b ∷ []
    → tasks_of a ≡ x → tasks_of b ≡ y → tasks_of (nets.Ordered ps) ≡ Ordered (Then x (Then y NoTasks))
ordered_both ps a b x y h k l =
    tasks_of-ordered ps
    ∙ (ap (λ ts. Ordered (task_list_of ts)) h ∙ ap₂ (λ u v. Ordered (Then u (Then v NoTasks))) k l)
