-- A code in the making, rule by rule.
use Rattle.std.proofs.Common.{◌≡◌, ℕ, zero, ◌+◌, ◌<◌, ◌≤◌, Bool, true, false, cond, List, [], ◌∷◌, ◌++◌, length, map, take, get_or, Result, refl, ap, ap₂, sym, subst, ◌∙◌, arith}
use Rattle.std.specs.Global.{Global}
use Rattle.std.specs.Prelude.{Vec}
use Rattle.std.specs.Result.{OnOk}
use Rattle.std.proofs.lemmas.List.{map-append, take_all, take_more}
use Rattle.std.proofs.lemmas.Result.{on_ok_weaker}
use Rattle.hp_laws.specs.RulesByName.{is_name}
use Rattle.hp_syntax.specs.declared.domain.Rule as public_rule
use Rattle.hp_syntax.specs.Syntax.{Rule}
use Rattle.hp_syntax.specs.Views.{rule_of}
use Rattle.hp_tables.specs.declared.Kind.{Kind}
use Rattle.hp_tables.specs.declared.Kind.TheVariants.{Task, Axiom}
use Rattle.hp_tables.specs.declared.Table.{Table}
use Rattle.hp_tables.specs.Tables.{name_as, places_in, places_of, with_place}
use Rattle.hp_nodes.proofs.LayingLemmas.{length_after, lays_both}
use Rattle.hp_nodes.proofs.TreeLemmas.{followed}
use Rattle.hp_nodes.specs.declared.node.CodeNode.{CodeNode}
use Rattle.hp_nodes.specs.Compiled.{only, rule_tree, rule_trees, vars_of}
use Rattle.hp_nodes.specs.Laying.{Lays}
use Rattle.hp_nodes.specs.NodeViews.{laid_of}
use Rattle.hp_nodes.specs.Trees.{Trees, NoTree, More, all_laid, roots, size, sizes}
use Rattle.hp_code.specs.declared.lowering.Lowering.{Lowering}
use Rattle.hp_code.specs.Lowerings.{Begins, Extends, Holds}
use Rattle.hp_code.proofs.CodeLemmas.{length-rule_nodes}

-- ---- one rule more

-- the trees of rules and of one behind them follow one another
trees_more : (rs : List Rule) (r : Rule) → rule_trees (rs ++ r ∷ []) ≡ followed (rule_trees rs) (only (rule_tree r))
trees_more [] r = refl
trees_more (q ∷ rs) r = ap (λ ts. More (rule_tree q) ts) (trees_more rs r)

-- the first nodes of trees that follow others stand behind those of the others
roots_followed : (i : ℕ) (ts us : Trees) → roots i (followed ts us) ≡ roots i ts ++ roots (i + sizes ts) us
unfolding sizes
roots_followed i NoTree us =
    let j : i ≡ i + zero = omega arith in
    ap (λ n. roots n us) j
roots_followed i (More t ts) us =
    let j : i + size t + sizes ts ≡ i + (size t + sizes ts) = omega arith in
    ap (λ xs. i ∷ xs) (roots_followed (i + size t) ts us ∙ ap (λ n. roots (i + size t) ts ++ roots n us) j)

-- a place goes behind the others of a name, whether the first of these is one or not
placed_behind : (b c : Bool) (i j : ℕ) (places : List ℕ)
    → cond b (j ∷ with_place c i places) (with_place c i places) ≡ with_place c i (cond b (j ∷ places) places)
placed_behind true true i j places = refl
placed_behind true false i j places = refl
placed_behind false true i j places = refl
placed_behind false false i j places = refl

first_placed : (b : Bool) (i : ℕ) → cond b (i ∷ []) [] ≡ with_place b i []
first_placed true i = refl
first_placed false i = refl

-- the place of a rule behind others goes behind those of its name
places_more : (kind : Kind) (name : List ℕ) (is : List ℕ) (i : ℕ) (rs : List Rule) (r : Rule) → length is ≡ length rs
    → places_of kind name (is ++ i ∷ []) (rs ++ r ∷ [])
    ≡ with_place (is_name name (name_as kind r)) i (places_of kind name is rs)
places_more kind name [] i [] r e = first_placed (is_name name (name_as kind r)) i
places_more kind name [] i (q ∷ rs) r e = absurd (omega (arith, e))
places_more kind name (j ∷ is) i [] r e = absurd (omega (arith, e))
places_more kind name (j ∷ is) i (q ∷ rs) r e =
    ap (λ xs. cond (is_name name (name_as kind q)) (j ∷ xs) xs) (places_more kind name is i rs r (omega (arith, e)))
    ∙ placed_behind (is_name name (name_as kind q)) (is_name name (name_as kind r)) i j (places_of kind name is rs)

-- ---- a code in the making

-- a rule was put behind those that it held, part by part
pub record Adds (r : Rule) (old new : Lowering) : Type 0 where
  pub places : new.rules.items ≡ old.rules.items ++ length old.nodes.items ∷ []
  pub names : map (λ names. names.items) new.vars.items ≡ map (λ names. names.items) old.vars.items ++ vars_of r ∷ []
  pub laid : Lays (only (rule_tree r)) old.nodes.items new.nodes.items
  pub tasks : (q : List ℕ) → places_in new.task_rules q
      ≡ with_place (is_name q (name_as Task r)) (length old.nodes.items) (places_in old.task_rules q)
  pub axioms : (q : List ℕ) → places_in new.axiom_rules q
      ≡ with_place (is_name q (name_as Axiom r)) (length old.nodes.items) (places_in old.axiom_rules q)

module _ (r : Rule) (old new : Lowering) (adds : Adds r old new) (rules : List Rule) (h : Holds rules old) where
  abbrev whole : List Rule
  whole = rules ++ r ∷ []

  -- the nodes that it held are those of its rules
  own_laid : Lays (rule_trees rules) [] old.nodes.items
  own_laid = h.code.nodes

  nodes_more : map laid_of new.nodes.items ≡ all_laid 0 (rule_trees whole)
  nodes_more =
      lays_both (rule_trees rules) (only (rule_tree r)) [] old.nodes.items new.nodes.items own_laid adds.laid
      ∙ ap (all_laid 0) (sym (trees_more rules r))

  -- the next node stands behind those of its rules
  roots_more : roots 0 (rule_trees whole) ≡ roots 0 (rule_trees rules) ++ length old.nodes.items ∷ []
  roots_more =
      ap (roots 0) (trees_more rules r) ∙ roots_followed 0 (rule_trees rules) (only (rule_tree r))
      ∙ ap (λ n. roots 0 (rule_trees rules) ++ n ∷ [])
      (sym (length_after (rule_trees rules) [] old.nodes.items own_laid))

  -- by each name it finds the rules that it held and this one
  found_more : (kind : Kind) (before after name : List ℕ)
      → after ≡ with_place (is_name name (name_as kind r)) (length old.nodes.items) before
      → before ≡ places_of kind name (roots 0 (rule_trees rules)) rules
      → after ≡ places_of kind name (roots 0 (rule_trees whole)) whole
  found_more kind before after name e f =
      e ∙ ap (with_place (is_name name (name_as kind r)) (length old.nodes.items)) f
      ∙ sym (places_more kind name (roots 0 (rule_trees rules)) (length old.nodes.items) rules r
      (length-rule_nodes 0 rules))
      ∙ ap (λ is. places_of kind name is whole) (sym roots_more)

  -- so it holds this rule behind them
  pub holds_more : Holds (rules ++ r ∷ []) new
  holds_more = record {
    code = record {
      nodes = nodes_more;
      vars = adds.names ∙ ap (λ vs. vs ++ vars_of r ∷ []) h.code.vars ∙ sym (map-append vars_of rules (r ∷ []));
      task_rules =
          λ name.
          found_more Task (places_in old.task_rules name) (places_in new.task_rules name) name (adds.tasks name)
          (h.code.task_rules name);
      axiom_rules =
          λ name.
          found_more Axiom (places_in old.axiom_rules name) (places_in new.axiom_rules name) name (adds.axioms name)
          (h.code.axiom_rules name);
    };
    places = adds.places ∙ ap (λ is. is ++ length old.nodes.items ∷ []) h.places ∙ sym roots_more;
  }

-- a rule that is put behind those that it held extends it
pub extends_by : (r : Rule) (old new : Lowering) → Adds r old new → Extends (r ∷ []) old new
extends_by r old new adds = λ rules h. holds_more r old new adds rules h

-- where a rule begins with the next node, its nodes are laid down there, and the tables find it there, it is put behind
-- those that were held
module _ (r : Rule) (old mid : Lowering) (node : ℕ) (vars : List (List ℕ)) (nodes : Vec CodeNode Global)
    (tasks axioms : Table) (at : node ≡ length old.nodes.items) (named : vars ≡ vars_of r)
    (begins : Begins node vars old mid) where
  abbrev pub after : Lowering
  after = record {
    nodes = nodes;
    rules = mid.rules;
    vars = mid.vars;
    task_rules = tasks;
    axiom_rules = axioms;
  }

  module _ (task : (q : List ℕ) → places_in tasks q
      ≡ with_place (is_name q (name_as Task r)) node (places_in mid.task_rules q))
      (axiom_ : (q : List ℕ) → places_in axioms q
      ≡ with_place (is_name q (name_as Axiom r)) node (places_in mid.axiom_rules q)) where
    put : Lays (only (rule_tree r)) mid.nodes.items nodes.items → Adds r old after
    put laid = record {
      places = begins.places ∙ ap (λ n. old.rules.items ++ n ∷ []) at;
      names = begins.names ∙ ap (λ vs. map (λ names. names.items) old.vars.items ++ vs ∷ []) named;
      laid = subst (λ ns. Lays (only (rule_tree r)) ns.items nodes.items) begins.nodes laid;
      tasks =
          λ q.
          task q
          ∙ ap₂ (λ n t. with_place (is_name q (name_as Task r)) n (places_in t q)) at begins.task_rules;
      axioms =
          λ q.
          axiom_ q
          ∙ ap₂ (λ n t. with_place (is_name q (name_as Axiom r)) n (places_in t q)) at begins.axiom_rules;
    }

    pub put_behind : {A E : Type 0} (result : Result A E)
        → OnOk result (Lays (only (rule_tree r)) mid.nodes.items nodes.items)
        → OnOk result (Extends (r ∷ []) old after)
    put_behind result laid = on_ok_weaker result (λ l. extends_by r old after (put l)) laid

-- ---- the rules of a domain

-- rules of which no more are left are held
pub whole_held : (rules : List public_rule.Rule) (i : ℕ) (l : Lowering) → length rules ≤ i
    → Holds (map rule_of (take i rules)) l → Holds (map rule_of rules) l
whole_held rules i l past h = subst (λ rs. Holds (map rule_of rs) l) (take_all i rules past) h

-- the first rules are held with one more of them
pub next_held : (rules : List public_rule.Rule) (i : ℕ) (r : public_rule.Rule) (old new : Lowering) → i < length rules
    → r ≡ get_or rules i r → Extends (rule_of r ∷ []) old new → Holds (map rule_of (take i rules)) old
    → Holds (map rule_of (take (i + 1) rules)) new
next_held rules i r old new below at extends h =
    subst (λ rs. Holds rs new)
    (sym (map-append rule_of (take i rules) (r ∷ []))
    ∙ ap (map rule_of) (ap (λ x. take i rules ++ x ∷ []) at ∙ sym (take_more rules i r below)))
    (extends (map rule_of (take i rules)) h)
