-- Written forests stand nowhere yet: without their places they are the same.
use Rattle.std.proofs.Common.{◌≡◌, ℕ, true, false, List, [], ◌∷◌, Some, None, refl, ap, ap₂}
use Rattle.std.specs.Prelude.{Option, codes}
use Rattle.hp_syntax.specs.declared.pattern.Tail.{Tail}
use Rattle.hp_syntax.specs.Forest.{Node, Group, Forest, Bare, Grow}
use Rattle.hp_syntax.specs.Steps.{Names}
use Rattle.hp_syntax.specs.Syntax as syntax
use Rattle.hp_syntax.specs.Unplaced.{node, forest}
use Rattle.hp_syntax.specs.Written as written
use Rattle.hp_syntax.specs.Written.{nowhere, word, group, worded, one, two, joined}

-- without its places a node or a forest is the same
abbrev pub IsNowhere : Node → Type 0
IsNowhere n = node n ≡ n

abbrev pub AreNowhere : Forest → Type 0
AreNowhere f = forest f ≡ f

-- a word stands nowhere
word_nowhere : (text : List ℕ) → IsNowhere (word text)
unfolding node
word_nowhere text = refl

-- a list stands nowhere if its parts do
group_nowhere : {f : Forest} → AreNowhere f → IsNowhere (group f)
unfolding node
group_nowhere h = ap (Group nowhere) h

-- no nodes stand nowhere, and one more does not change that if it stands nowhere
none_nowhere : AreNowhere Bare
unfolding forest
none_nowhere = refl

grow_nowhere : {n : Node} {f : Forest} → IsNowhere n → AreNowhere f → AreNowhere (Grow n f)
unfolding forest
grow_nowhere h k = ap₂ Grow h k

worded_nowhere : (text : List ℕ) {f : Forest} → AreNowhere f → IsNowhere (worded text f)
worded_nowhere text h = group_nowhere (grow_nowhere (word_nowhere text) h)

one_nowhere : {n : Node} → IsNowhere n → AreNowhere (one n)
one_nowhere h = grow_nowhere h none_nowhere

two_nowhere : {m n : Node} → IsNowhere m → IsNowhere n → AreNowhere (two m n)
two_nowhere h k = grow_nowhere h (one_nowhere k)

-- the first node of a forest, and the rest of it
first_or : Node → Forest → Node
first_or n Bare = n
first_or n (Grow m f) = m

rest_of : Forest → Forest
rest_of Bare = Bare
rest_of (Grow n f) = f

-- two forests stand nowhere together if each does
joined_nowhere : (f g : Forest) → AreNowhere f → AreNowhere g → AreNowhere (joined f g)
unfolding forest first_or rest_of
joined_nowhere Bare g h k = k
joined_nowhere (Grow n f) g h k = grow_nowhere (ap (first_or n) h) (joined_nowhere f g (ap rest_of h) k)

-- the name of a branch stands nowhere
branch_name_nowhere : (name : Option (List ℕ)) → AreNowhere (written.branch_name name)
branch_name_nowhere None = none_nowhere
branch_name_nowhere (Some text) = one_nowhere (word_nowhere text)

module _ (names : Names) where
  -- terms and atoms stand nowhere
  variable_nowhere : (v : ℕ) → IsNowhere (written.variable names v)
  variable_nowhere v = word_nowhere (written.name_of names v)

  tail_nowhere : (t : Option Tail) → AreNowhere (written.tail names t)
  tail_nowhere None = none_nowhere
  tail_nowhere (Some t) = two_nowhere (word_nowhere (codes ".")) (variable_nowhere t.var)

  mutual
    unfolding node written.pattern written.items

    pattern_nowhere : (p : syntax.Pattern) → IsNowhere (written.pattern names p)
    pattern_nowhere (syntax.Variable s v) = variable_nowhere v
    pattern_nowhere (syntax.Symbol s text) = word_nowhere text
    pattern_nowhere (syntax.Number s n) = refl
    pattern_nowhere (syntax.Listing s parts t) = group_nowhere (items_nowhere parts t)
    pattern_nowhere (syntax.Call s text args) =
        worded_nowhere (codes "call") (grow_nowhere (word_nowhere text) (items_nowhere args None))

    items_nowhere : (ps : syntax.Patterns) (t : Option Tail) → AreNowhere (written.items names ps t)
    items_nowhere syntax.NoPattern t = tail_nowhere t
    items_nowhere (syntax.Before p ps) t = grow_nowhere (pattern_nowhere p) (items_nowhere ps t)

  atom_nowhere : (a : syntax.Atom) → IsNowhere (written.atom names a)
  atom_nowhere a = worded_nowhere a.name (items_nowhere a.args a.tail)

  atoms_nowhere : (as' : List syntax.Atom) → AreNowhere (written.atoms names as')
  atoms_nowhere [] = none_nowhere
  atoms_nowhere (a ∷ as') = grow_nowhere (atom_nowhere a) (atoms_nowhere as')

  variables_nowhere : (vs : List ℕ) → AreNowhere (written.variables names vs)
  variables_nowhere [] = none_nowhere
  variables_nowhere (v ∷ vs) = grow_nowhere (variable_nowhere v) (variables_nowhere vs)

  -- expressions and preconditions stand nowhere
  mutual
    unfolding written.expression written.conjunction written.expressions

    expression_nowhere : (e : syntax.Expression) → IsNowhere (written.expression names e)
    expression_nowhere (syntax.Holds s a) = atom_nowhere a
    expression_nowhere (syntax.And s parts) = conjunction_nowhere parts
    expression_nowhere (syntax.Or s parts) = worded_nowhere (codes "or") (expressions_nowhere parts)
    expression_nowhere (syntax.Not s part) = worded_nowhere (codes "not") (one_nowhere (expression_nowhere part))
    expression_nowhere (syntax.Forall s vars range body) =
        worded_nowhere (codes "forall") (grow_nowhere (group_nowhere (variables_nowhere vars))
        (two_nowhere (expression_nowhere range) (expression_nowhere body)))
    expression_nowhere (syntax.Assign s v value) =
        worded_nowhere (codes "assign") (two_nowhere (variable_nowhere v) (pattern_nowhere value))
    expression_nowhere (syntax.Test s call) = pattern_nowhere call

    conjunction_nowhere : (es : syntax.Expressions) → IsNowhere (written.conjunction names es)
    conjunction_nowhere syntax.NoExpression = group_nowhere none_nowhere
    conjunction_nowhere (syntax.Also e es) =
        worded_nowhere (codes "and") (grow_nowhere (expression_nowhere e) (expressions_nowhere es))

    expressions_nowhere : (es : syntax.Expressions) → AreNowhere (written.expressions names es)
    expressions_nowhere syntax.NoExpression = none_nowhere
    expressions_nowhere (syntax.Also e es) = grow_nowhere (expression_nowhere e) (expressions_nowhere es)

  precondition_nowhere : (p : syntax.Precondition) → IsNowhere (written.precondition names p)
  unfolding written.precondition
  precondition_nowhere (syntax.Plain e) = expression_nowhere e
  precondition_nowhere (syntax.First e) = worded_nowhere (codes ":first") (one_nowhere (expression_nowhere e))
  precondition_nowhere (syntax.Sorted key e) =
      worded_nowhere (codes ":sort-by") (grow_nowhere (variable_nowhere key.var)
      (two_nowhere (word_nowhere (written.order_word key.order)) (expression_nowhere e)))

  -- tasks stand nowhere
  mutual
    unfolding written.tasks written.task_list

    tasks_nowhere : (t : syntax.Tasks) → IsNowhere (written.tasks names t)
    tasks_nowhere (syntax.Task a true) =
        worded_nowhere (codes ":immediate") (grow_nowhere (word_nowhere a.name) (items_nowhere a.args a.tail))
    tasks_nowhere (syntax.Task a false) = atom_nowhere a
    tasks_nowhere (syntax.Ordered parts) = worded_nowhere (codes ":ordered") (task_list_nowhere parts)
    tasks_nowhere (syntax.Unordered parts) = worded_nowhere (codes ":unordered") (task_list_nowhere parts)

    task_list_nowhere : (ts : syntax.TaskList) → AreNowhere (written.task_list names ts)
    task_list_nowhere syntax.NoTasks = none_nowhere
    task_list_nowhere (syntax.Then t ts) = grow_nowhere (tasks_nowhere t) (task_list_nowhere ts)

  -- effects stand nowhere
  effect_nowhere : (e : syntax.Effect) → IsNowhere (written.effect names e)
  unfolding written.effect
  effect_nowhere (syntax.Change a) = atom_nowhere a
  effect_nowhere (syntax.Protection a) = worded_nowhere (codes ":protection") (one_nowhere (atom_nowhere a))
  effect_nowhere (syntax.Each vars e changed) =
      worded_nowhere (codes "forall") (grow_nowhere (group_nowhere (variables_nowhere vars))
      (two_nowhere (expression_nowhere e) (group_nowhere (atoms_nowhere changed))))

  effects_nowhere : (es : List syntax.Effect) → AreNowhere (written.effects names es)
  effects_nowhere [] = none_nowhere
  effects_nowhere (e ∷ es) = grow_nowhere (effect_nowhere e) (effects_nowhere es)

  -- branches and clauses stand nowhere
  branch_nowhere : (b : syntax.Branch) → AreNowhere (written.branch names b)
  branch_nowhere b =
      joined_nowhere (written.branch_name b.name) _ (branch_name_nowhere b.name)
      (two_nowhere (precondition_nowhere b.pre) (tasks_nowhere b.tasks))

  branches_nowhere : (bs : List syntax.Branch) → AreNowhere (written.branches names bs)
  unfolding written.branches
  branches_nowhere [] = none_nowhere
  branches_nowhere (b ∷ bs) =
      joined_nowhere (written.branch names b) (written.branches names bs) (branch_nowhere b) (branches_nowhere bs)

  clause_nowhere : (c : syntax.Clause) → AreNowhere (written.clause names c)
  clause_nowhere c =
      joined_nowhere (written.branch_name c.name) _ (branch_name_nowhere c.name)
      (one_nowhere (expression_nowhere c.body))

  clauses_nowhere : (cs : List syntax.Clause) → AreNowhere (written.clauses names cs)
  unfolding written.clauses
  clauses_nowhere [] = none_nowhere
  clauses_nowhere (c ∷ cs) =
      joined_nowhere (written.clause names c) (written.clauses names cs) (clause_nowhere c) (clauses_nowhere cs)

  -- the pairs of a problem stand nowhere
  pairs_nowhere : (ps : List syntax.Pair) → AreNowhere (written.pairs names ps)
  pairs_nowhere [] = none_nowhere
  pairs_nowhere (p ∷ ps) =
      joined_nowhere (written.pair names p) (written.pairs names ps)
      (two_nowhere (group_nowhere (atoms_nowhere p.state)) (tasks_nowhere p.tasks)) (pairs_nowhere ps)

-- rules stand nowhere
operator_nowhere : (o : syntax.Operator) → IsNowhere (written.operator o)
unfolding written.operator
operator_nowhere o =
    worded_nowhere (codes ":operator") (grow_nowhere (atom_nowhere o.vars o.head)
    (grow_nowhere (precondition_nowhere o.vars o.pre) (grow_nowhere (group_nowhere (effects_nowhere o.vars o.dels))
    (two_nowhere (group_nowhere (effects_nowhere o.vars o.adds)) (pattern_nowhere o.vars o.cost)))))

method_nowhere : (m : syntax.Method) → IsNowhere (written.method m)
unfolding written.method
method_nowhere m =
    worded_nowhere (codes ":method") (grow_nowhere (atom_nowhere m.vars m.head) (branches_nowhere m.vars m.branches))

axiom_nowhere : (a : syntax.Axiom) → IsNowhere (written.axiom_rule a)
unfolding written.axiom_rule
axiom_nowhere a =
    worded_nowhere (codes ":-") (grow_nowhere (atom_nowhere a.vars a.head) (clauses_nowhere a.vars a.clauses))

rules_nowhere : (rs : List syntax.Rule) → AreNowhere (written.rules rs)
unfolding written.rule
rules_nowhere [] = none_nowhere
rules_nowhere (syntax.Does o ∷ rs) = grow_nowhere (operator_nowhere o) (rules_nowhere rs)
rules_nowhere (syntax.Refines m ∷ rs) = grow_nowhere (method_nowhere m) (rules_nowhere rs)
rules_nowhere (syntax.Concludes a ∷ rs) = grow_nowhere (axiom_nowhere a) (rules_nowhere rs)

-- a domain stands nowhere
pub domain_nowhere : (d : syntax.Domain) → IsNowhere (written.domain d)
unfolding written.domain
domain_nowhere d =
    worded_nowhere (codes "defdomain") (two_nowhere (word_nowhere d.name) (group_nowhere (rules_nowhere d.rules)))

-- a problem stands nowhere
pub problem_nowhere : (p : syntax.Problem) → IsNowhere (written.problem p)
unfolding written.problem
problem_nowhere p =
    worded_nowhere (codes "defproblem") (grow_nowhere (word_nowhere p.name)
    (grow_nowhere (word_nowhere p.domain) (pairs_nowhere p.vars p.pairs)))
