-- The nodes of a method's branches, and what stands below each.
use Rattle.std.proofs.Common.{◌≡◌, inl, inr, ℕ, suc, ◌+◌, ◌<◌, ◌≤◌, true, List, [], ◌∷◌, length, slice_get, Option, Some, None, is_some, option_map, option_and_then, refl, sym, ◌∙◌, ap, subst, arith}
use Rattle.std.proofs.lemmas.List.{drop_all}
use Rattle.std.proofs.lemmas.Option.{same_Some, slice_get_cases}
use Rattle.hp_syntax.specs.declared.pattern.Span.{Span}
use Rattle.hp_syntax.specs.Syntax.{Atom, Branch, Method, Precondition, Refines, Tasks}
use Rattle.hp_nodes.specs.Trees.{Laid, Operation, BranchOf, MethodOf, TasksOf, Tree, Trees, Node, NoTree, More, sizes, first_tree, trees, tree_at, trees_between}
use Rattle.hp_code.specs.CodeViews.{CodeView, IsCode, beside, rule_nodes, rules_in, vars_at}
use Rattle.hp_code.specs.Sources.{branch_read, branches_read, made_of, precondition_read, rule_read}
use Rattle.hp_code.proofs.CodeLemmas.{vars_found}
use Rattle.hp_code.proofs.NodeLemmas.{node_there}
use Rattle.hp_suspended.proofs.NodeRanges.{below_ends, ends_within, node_of_tree, range_ends, stands_first}
use Rattle.hp_suspended.proofs.RangeLemmas.{code_laid}
use Rattle.hp_suspended.proofs.RuleNodes.{rule_at}
use Rattle.hp_precondition.specs.PreconditionNodes.{precondition_at}
use Rattle.hp_method.specs.Branches.{AreBranchesIn, branch_at, branches_at, tasks_at, tasks_read}

-- what is there is something
pub there_is : {A : Type 0} (o : Option A) → is_some o ≡ true → (a : A) × (o ≡ Some a)
there_is None e = absurd cc
there_is (Some a) e = (a, refl)

-- what is made of something that is there is made of what is there
bound : {A B : Type 0} (f : A → Option B) (o : Option A) (b : B) → option_and_then f o ≡ Some b
    → (a : A) × ((o ≡ Some a) × (f a ≡ Some b))
bound f None b e = absurd cc
bound f (Some a) b e = (a, (refl, e))

-- ---- a branch

-- what a tree says that reads back as a branch
record BranchTree (t : Tree) (b : Branch) : Type 0 where
  name : Option (List ℕ)
  span : Span
  first : Tree
  place : Span
  is : t ≡ Node (BranchOf name) span (More first (More (Node (TasksOf b.tasks) place NoTree) NoTree))
  pre : precondition_read first ≡ Some b.pre

branch_of_pre : (name : Option (List ℕ)) (tasks : Tasks) (x : Option Precondition) (b : Branch)
    → option_map (λ pre. record { name = name; pre = pre; tasks = tasks }) x ≡ Some b
    → (x ≡ Some b.pre) × (tasks ≡ b.tasks)
branch_of_pre name tasks None b e = absurd cc
branch_of_pre name tasks (Some p) b e =
    let same = same_Some (record { name = name; pre = p; tasks = tasks }) b e in
    (ap (λ (x : Branch). Some x.pre) same, ap (λ (x : Branch). x.tasks) same)

branch_tree : (t : Tree) (b : Branch) → branch_read t ≡ Some b → BranchTree t b
branch_tree (Node (BranchOf name) s (More t (More (Node (TasksOf tasks) u NoTree) NoTree))) b e =
    let p = branch_of_pre name tasks (precondition_read t) b e in
    record {
      name = name;
      span = s;
      first = t;
      place = u;
      is = ap (λ ts. Node (BranchOf name) s (More t (More (Node (TasksOf ts) u NoTree) NoTree))) p.1;
      pre = p.0;
    }
branch_tree _ b e = absurd cc

-- the node behind a branch's is that of its precondition, and where the nodes below that end stands that of its tasks
pub record BranchNodes (c : CodeView) (i : ℕ) (b : Branch) : Type 0 where
  pub node : Laid
  pub there : slice_get c.nodes (i + 1) ≡ Some node
  pub inside : i + 1 < length c.nodes
  pub precondition : precondition_at c (i + 1) ≡ Some b.pre
  pub tasks : tasks_at c node.to ≡ Some b.tasks

-- the node of a precondition's tree is that of the precondition
pre_reads : (c : CodeView) (k : ℕ) (t : Tree) (p : Precondition) → tree_at c.nodes k ≡ Some t
    → precondition_read t ≡ Some p → precondition_at c k ≡ Some p
unfolding precondition_at
pre_reads c k t p e h = ap (option_and_then precondition_read) e ∙ h

-- the node of tasks is that of these tasks
tasks_read_at : (c : CodeView) (k : ℕ) (ts : Tasks) (s : Span)
    → tree_at c.nodes k ≡ Some (Node (TasksOf ts) s NoTree) → tasks_at c k ≡ Some ts
unfolding tasks_at
tasks_read_at c k ts s e = ap (option_and_then tasks_read) e

-- so a node that reads back as a branch has these two
pub branch_nodes : (c : CodeView) → IsCode c → (i : ℕ) (b : Branch) → branch_at c i ≡ Some b → BranchNodes c i b
unfolding branch_at
branch_nodes c code i b e =
    let down = code_laid c code in
    let read = bound branch_read (tree_at c.nodes i) b e in
    let t = branch_tree read.0 b read.1.1 in
    let l = node_of_tree c.nodes i read.0 read.1.0 in
    let below = trees_between c.nodes (suc i) l.0.to in
    let last = Node (TasksOf b.tasks) t.place NoTree in
    let whole : Node l.0.op l.0.span below ≡ Node (BranchOf t.name) t.span (More t.first (More last NoTree)) =
    same_Some (Node l.0.op l.0.span below) read.0 (sym (node_there c.nodes i l.0 l.1) ∙ read.1.0) ∙ t.is in
    let parts : below ≡ More t.first (More last NoTree) = cc in
    let within = ends_within c.nodes down i l.0 l.1 in
    let f = stands_first c.nodes down (suc i) l.0.to t.first (More last NoTree) (below_ends c.nodes down i l.0 l.1)
    within parts in
    let g = stands_first c.nodes down f.node.to l.0.to last NoTree f.whole within f.others in
    let next : suc i ≡ i + 1 = omega arith in
    record {
      node = f.node;
      there = subst (λ k. slice_get c.nodes k ≡ Some f.node) next f.there;
      inside = let less = f.less in let more = f.more in let most = f.most in let some = g.less in omega arith;
      precondition =
          subst (λ k. precondition_at c k ≡ Some b.pre) next (pre_reads c (suc i) t.first b.pre f.tree t.pre);
      tasks = tasks_read_at c f.node.to b.tasks t.place g.tree;
    }

-- ---- branches one after the other

-- a branch is read before others
record ReadsBranch (t : Tree) (us : Trees) (bs : List Branch) : Type 0 where
  branch : Branch
  others : List Branch
  first : branch_read t ≡ Some branch
  rest : branches_read us ≡ Some others
  is : bs ≡ branch ∷ others

branch_before : (x : Option Branch) (y : Option (List Branch)) (bs : List Branch) (t : Tree) (us : Trees)
    → branch_read t ≡ x → branches_read us ≡ y → made_of (λ b bs. b ∷ bs) x y ≡ Some bs → ReadsBranch t us bs
branch_before None y bs t us h k e = absurd cc
branch_before (Some x) None bs t us h k e = absurd cc
branch_before (Some x) (Some xs) bs t us h k e =
    record { branch = x; others = xs; first = h; rest = k; is = cc }

-- a branch stands first, and the others behind it
pub record StandsBranch (c : CodeView) (i to : ℕ) : Type 0 where
  pub branch : Branch
  pub others : List Branch
  pub node : Laid
  pub there : slice_get c.nodes i ≡ Some node
  pub inside : i < length c.nodes
  pub more : i < node.to
  pub most : node.to ≤ to
  pub reads : branch_at c i ≡ Some branch
  pub is : branches_at c i to ≡ Some (branch ∷ others)
  pub rest : branches_at c node.to to ≡ Some others
  pub branches : AreBranchesIn c node.to to

module _ (c : CodeView) (i to : ℕ) (are : AreBranchesIn c i to) where
  -- branches end no sooner than they begin
  pub branches_ascend : i ≤ to
  branches_ascend = let whole = are.whole in omega (arith, whole)

  -- where they begin at their end there is none
  pub branches_end : to ≤ i → branches_at c i to ≡ Some []
  unfolding branches_at
  branches_end h = ap branches_read (range_ends c.nodes i to are.whole h)

module _ (c : CodeView) (code : IsCode c) (i to : ℕ) (are : AreBranchesIn c i to) (less : i < to) where
  stands_of : (bs : List Branch) (ts : Trees) → branches_at c i to ≡ Some bs → trees_between c.nodes i to ≡ ts
      → branches_read ts ≡ Some bs → StandsBranch c i to
  unfolding branch_at branches_at sizes
  stands_of bs NoTree h k e =
      let whole = are.whole in let none = ap sizes k in absurd (omega (arith, whole, none, less))
  stands_of bs (More t us) h k e =
      let f = stands_first c.nodes (code_laid c code) i to t us are.whole are.within k in
      let r = branch_before (branch_read t) (branches_read us) bs t us refl refl e in
      record {
        branch = r.branch;
        others = r.others;
        node = f.node;
        there = f.there;
        inside = let within = are.within in omega (arith, within, less);
        more = f.more;
        most = f.most;
        reads = ap (option_and_then branch_read) f.tree ∙ r.first;
        is = h ∙ ap Some r.is;
        rest = ap branches_read f.others ∙ r.rest;
        branches = record {
          read = ap is_some (ap branches_read f.others ∙ r.rest);
          whole = f.whole;
          within = are.within;
        };
      }

  -- the first of branches stands first
  pub stands_branch : StandsBranch c i to
  unfolding branches_at
  stands_branch =
      let bs = there_is (branches_at c i to) are.read in
      stands_of bs.0 (trees_between c.nodes i to) bs.1 refl bs.1

-- ---- tasks

-- the node of a branch's tasks is one of the nodes
pub tasks_there : (c : CodeView) → IsCode c → (i : ℕ) → is_some (tasks_at c i) ≡ true → i < length c.nodes
unfolding tasks_at trees
tasks_there c code i is = elim ((slice_get_cases c.nodes i).1) [
  | inl w ↦ w.1
  | inr w ↦
      let none : tasks_at c i ≡ None =
      ap (λ ns. option_and_then tasks_read (first_tree (trees i ns))) (drop_all i c.nodes w.0) in
      let known : is_some {T = Tasks} None ≡ true = sym (ap is_some none) ∙ is in
      absurd cc
]

tasks_of : (op : Operation) (s : Span) (below : Trees) (ts : Tasks) → tasks_read (Node op s below) ≡ Some ts
    → op ≡ TasksOf ts
tasks_of (TasksOf tasks) s NoTree ts e = ap TasksOf (same_Some tasks ts e)
tasks_of (TasksOf tasks) s (More t us) ts e = absurd cc
tasks_of _ s below ts e = absurd cc

-- it holds them
pub tasks_operation : (c : CodeView) → IsCode c → (i : ℕ) (l : Laid) (ts : Tasks) → slice_get c.nodes i ≡ Some l
    → tasks_at c i ≡ Some ts → l.op ≡ TasksOf ts
unfolding tasks_at
tasks_operation c code i l ts there e =
    tasks_of l.op l.span (trees_between c.nodes (suc i) l.to) ts
    (sym (ap (option_and_then tasks_read) (node_there c.nodes i l there)) ∙ e)

-- ---- methods

-- the node of a method has its head, its names and its branches
pub record MethodNodes (c : CodeView) (i : ℕ) (l : Laid) (head : Atom) (m : Method) : Type 0 where
  pub head_is : m.head ≡ head
  pub vars_are : m.vars ≡ vars_at c i
  pub reads : branches_at c (i + 1) l.to ≡ Some m.branches
  pub branches : AreBranchesIn c (i + 1) l.to

method_read : (vars : List (List ℕ)) (head : Atom) (s : Span) (x : Option (List Branch)) (m : Method)
    → option_map (λ bs. Refines (record { span = s; vars = vars; head = head; branches = bs })) x ≡ Some (Refines m)
    → (m.head ≡ head) × (x ≡ Some m.branches)
method_read vars head s None m e = absurd cc
method_read vars head s (Some bs) m e =
    let own : Method = record { span = s; vars = vars; head = head; branches = bs } in
    let same : own ≡ m = cc in
    (sym (ap (λ (x : Method). x.head) same), ap (λ (x : Method). Some x.branches) same)

pub method_nodes : (c : CodeView) → IsCode c → (i : ℕ) (l : Laid) → slice_get c.nodes i ≡ Some l → (head : Atom)
    → l.op ≡ MethodOf head → (m : Method) → beside i (rule_nodes c) (rules_in c) ≡ Some (Refines m)
    → MethodNodes c i l head m
unfolding branches_at
method_nodes c code i l there head does m found =
    let down = code_laid c code in
    let below = trees_between c.nodes (suc i) l.to in
    let r = rule_at c code i (Refines m) found in
    let tree : r.tree ≡ Node l.op l.span below =
    same_Some r.tree (Node l.op l.span below) (sym r.at' ∙ node_there c.nodes i l there) in
    let own : rule_read r.vars (Node (MethodOf head) l.span below) ≡ Some (Refines m) =
    sym (ap (rule_read r.vars) tree ∙ ap (λ o. rule_read r.vars (Node o l.span below)) does) ∙ r.is in
    let p = method_read r.vars head l.span (branches_read below) m own in
    let next : suc i ≡ i + 1 = omega arith in
    let reads : branches_at c (i + 1) l.to ≡ Some m.branches =
    ap (λ k. branches_read (trees_between c.nodes k l.to)) (sym next) ∙ p.1 in
    record {
      head_is = p.0;
      vars_are = sym (vars_found c code i (Refines m) found);
      reads = reads;
      branches = record {
        read = ap is_some reads;
        whole =
            subst (λ k. k + sizes (trees_between c.nodes k l.to) ≡ l.to) next (below_ends c.nodes down i l there);
        within = ends_within c.nodes down i l there;
      };
    }
