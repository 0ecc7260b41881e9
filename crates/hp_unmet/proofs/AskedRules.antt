-- The rule at a place of a domain, and the one in a code that asks for what it does.
use Rattle.std.proofs.Common.{◌≡◌, ℕ, ◌<◌, List, length, map, Option, Some, None, get_or, refl, sym, ap, ◌∙◌, subst, arith}
use Rattle.std.specs.Prelude.{option_map, slice_get}
use Rattle.std.specs.Option.{option_and_then}
use Rattle.std.specs.Ordering.{nat_cmp}
use Rattle.std.specs.declared.cmp.Ordering.TheVariants.{Equal}
use Rattle.std.proofs.lemmas.Bool.Decides.{nat_tests}
use Rattle.std.proofs.lemmas.Option.{get_or_from_slice_get, slice_get-map, slice_get_within}
use Rattle.hp_choice.specs.declared.starting.Conjuncts.{Conjuncts}
use Rattle.hp_choice.specs.Asking.{head_of}
use Rattle.hp_choice.proofs.RuleReadings.{rule_within}
use Rattle.hp_code.specs.CodeViews.{CodeView, IsCode, beside, rule_nodes, rules_in}
use Rattle.hp_code.specs.Lowered.{lowered, lowered_branch, lowered_clause, lowered_precondition, lowered_rule}
use Rattle.hp_code.proofs.LookUpSteps.{place_found}
use Rattle.hp_nodes.specs.Compiled.{vars_of}
use Rattle.hp_syntax.specs.Syntax as syntax
use Rattle.hp_unmet.specs.Conjunctions.{Conjunction, asked_by, asked_in, body_of, conjuncts, conjunction, in_branch, in_clause}
use Rattle.hp_unmet.specs.PartNodes.{AsksAlike, AsksFor, ServesFor, StandBetween, StandIn, precondition_by}
use Rattle.hp_unmet.proofs.LoweredParts.{asked_lowered, parts_lowered, rules_there}

-- ---- a rule

-- a rule has the head and the variables of a conjunction, and asks there for its parts
record Asks (branch : ℕ) (r : syntax.Rule) (c : Conjunction) : Type 0 where
  pub head : head_of r ≡ c.head
  pub vars : vars_of r ≡ c.vars
  pub pre : syntax.Precondition
  pub own : precondition_by branch r ≡ Some pre
  pub are : conjuncts (body_of pre) ≡ c.parts

method_asks : (branch : ℕ) (m : syntax.Method) (c : Conjunction) (o : Option syntax.Branch)
    → slice_get m.branches branch ≡ o → option_map (in_branch m) o ≡ Some c → Asks branch (syntax.Refines m) c
method_asks branch m c None at e = absurd cc
method_asks branch m c (Some b) at e =
    let same : in_branch m b ≡ c = cc in
    subst (Asks branch (syntax.Refines m)) same
    (record {
      head = refl;
      vars = refl;
      pre = b.pre;
      own = ap (option_map (λ (x : syntax.Branch). x.pre)) at;
      are = refl;
    })

axiom_asks : (branch : ℕ) (x : syntax.Axiom) (c : Conjunction) (o : Option syntax.Clause)
    → slice_get x.clauses branch ≡ o → option_map (in_clause x) o ≡ Some c → Asks branch (syntax.Concludes x) c
axiom_asks branch x c None at e = absurd cc
axiom_asks branch x c (Some b) at e =
    let same : in_clause x b ≡ c = cc in
    subst (Asks branch (syntax.Concludes x)) same
    (record {
      head = refl;
      vars = refl;
      pre = syntax.Plain b.body;
      own = ap (option_map (λ (y : syntax.Clause). syntax.Plain y.body)) at;
      are = refl;
    })

-- a rule asks for its own conjunction
rule_asks : (branch : ℕ) (r : syntax.Rule) (c : Conjunction) → asked_by branch r ≡ Some c → Asks branch r c
rule_asks branch (syntax.Does o) c e =
    let same : conjunction o.span o.vars o.head o.pre ≡ c = cc in
    subst (Asks branch (syntax.Does o)) same
    (record { head = refl; vars = refl; pre = o.pre; own = refl; are = refl })
rule_asks branch (syntax.Refines m) c e = method_asks branch m c (slice_get m.branches branch) refl e
rule_asks branch (syntax.Concludes x) c e = axiom_asks branch x c (slice_get x.clauses branch) refl e

-- what a rule asks for, one that asks for what it does asks for too
alike_asks : (branch : ℕ) (r s : syntax.Rule) (c : Conjunction) → AsksAlike r s → Asks branch r c → Asks branch s c
alike_asks branch r s c alike h = record {
  head = sym alike.head ∙ h.head;
  vars = sym alike.vars ∙ h.vars;
  pre = h.pre;
  own = sym (alike.preconditions branch) ∙ h.own;
  are = h.are;
}

-- ---- a lowered rule

-- a lowered rule has the head of the rule
lowered_head : (r : syntax.Rule) → head_of (lowered_rule r) ≡ head_of r
lowered_head (syntax.Does o) = refl
lowered_head (syntax.Refines m) = refl
lowered_head (syntax.Concludes x) = refl

-- and its variables
lowered_vars : (r : syntax.Rule) → vars_of (lowered_rule r) ≡ vars_of r
lowered_vars (syntax.Does o) = refl
lowered_vars (syntax.Refines m) = refl
lowered_vars (syntax.Concludes x) = refl

-- the precondition of a lowered branch is that of the branch, lowered
branch_lowered : (o : Option syntax.Branch) → option_map (λ b. b.pre) (option_map lowered_branch o)
    ≡ option_map lowered_precondition (option_map (λ b. b.pre) o)
branch_lowered None = refl
branch_lowered (Some b) = refl

-- and so is that of a lowered branch of an axiom
clause_lowered : (o : Option syntax.Clause)
    → option_map (λ b. syntax.Plain b.body) (option_map lowered_clause o)
    ≡ option_map lowered_precondition (option_map (λ b. syntax.Plain b.body) o)
clause_lowered None = refl
clause_lowered (Some b) = refl

-- and so it is with that of a rule
pre_lowered : (branch : ℕ) (r : syntax.Rule)
    → precondition_by branch (lowered_rule r) ≡ option_map lowered_precondition (precondition_by branch r)
pre_lowered branch (syntax.Does o) = refl
pre_lowered branch (syntax.Refines m) =
    ap (option_map (λ (b : syntax.Branch). b.pre)) (slice_get-map lowered_branch m.branches branch)
    ∙ branch_lowered (slice_get m.branches branch)
pre_lowered branch (syntax.Concludes x) =
    ap (option_map (λ (b : syntax.Clause). syntax.Plain b.body)) (slice_get-map lowered_clause x.clauses branch)
    ∙ clause_lowered (slice_get x.clauses branch)

-- a rule has the head and the variables of a conjunction, and asks there for its parts, lowered
record AsksLowered (branch : ℕ) (r : syntax.Rule) (c : Conjunction) : Type 0 where
  pub head : head_of r ≡ c.head
  pub vars : vars_of r ≡ c.vars
  pub pre : syntax.Precondition
  pub own : precondition_by branch r ≡ Some pre
  pub are : conjuncts (body_of pre) ≡ map lowered c.parts

-- what a rule asks for, the lowered rule asks for, lowered
lowered_asks : (branch : ℕ) (r : syntax.Rule) (c : Conjunction) → Asks branch r c
    → AsksLowered branch (lowered_rule r) c
lowered_asks branch r c h = record {
  head = lowered_head r ∙ h.head;
  vars = lowered_vars r ∙ h.vars;
  pre = lowered_precondition h.pre;
  own = pre_lowered branch r ∙ ap (option_map lowered_precondition) h.own;
  are = asked_lowered h.pre ∙ ap (map lowered) h.are;
}

-- ---- its node

-- an index at a place compares as equal to what stands there
compared : (ns : List ℕ) (k i : ℕ) → slice_get ns k ≡ Some i → (d : ℕ) → nat_cmp (get_or ns k d) i ≡ Equal
compared ns k i at d =
    let same : get_or ns k d ≡ i = get_or_from_slice_get ns k i d at in
    grind (arith, nat_tests)

module _ (rules : List syntax.Rule) (rule : ℕ) (code : CodeView) (node : ℕ)
    (serves : ServesFor rules rule code node) where
  -- beside the node there stands a rule that serves, lowered
  beside_node : beside node (rule_nodes code) (rules_in code) ≡ Some (lowered_rule serves.other)
  beside_node =
      let ns = rule_nodes code in
      let place = serves.place in
      sym (place_found code node ns refl place (slice_get_within ns place node serves.node_at)
      (compared ns place node serves.node_at)).1
      ∙ (ap (λ rs. slice_get rs place) (rules_there serves.others code serves.code)
      ∙ (slice_get-map lowered_rule serves.others place ∙ ap (option_map lowered_rule) serves.other_at))

  -- the node is one of the code's
  pub node_within : IsCode code → node < length code.nodes
  node_within kept = rule_within code kept node (lowered_rule serves.other) beside_node

  module _ (branch : ℕ) (c : Conjunction) (asked : asked_in rules rule branch ≡ Some c) where
    asks : AsksLowered branch (lowered_rule serves.other) c
    asks =
        lowered_asks branch serves.other c
        (alike_asks branch serves.own serves.other c serves.alike
        (rule_asks branch serves.own c (ap (option_and_then (asked_by branch)) (sym serves.own_at) ∙ asked)))

    -- there it asks for the parts, lowered
    pub asks_there : AsksFor code node branch (map lowered c.parts)
    asks_there = record {
      pre = asks.pre;
      has = record { rule = lowered_rule serves.other; is = beside_node; own = asks.own };
      are = asks.are;
    }

    -- where what it asks for stands between nodes, there stand the parts
    pub stand_there : (x : Conjuncts) → x.rule ≡ node
        → ((parts : List syntax.Expression) → AsksFor code node branch parts → StandBetween code x.first x.end parts)
        → StandIn rules code c x
    stand_there x same between =
        let stand = between (map lowered c.parts) asks_there in
        record {
          others = serves.others;
          of = serves.code;
          axioms = serves.axioms;
          rule = lowered_rule serves.other;
          is = ap (λ j. beside j (rule_nodes code) (rules_in code)) same ∙ beside_node;
          head = asks.head;
          vars = asks.vars;
          range = stand.range;
          parts = stand.are ∙ ap Some (sym (parts_lowered c.parts));
        }
