use Rattle.std.proofs.Common.{◌≤◌, Option, None, Some, IfSome, length, refl, ap, ap₂, sym, subst, ◌∙◌}
use Rattle.std.proofs.lemmas.Result.{IfOk-weaker}
use Rattle.hp_syntax.specs.declared.limits.TheConstants.{MOST_VARIABLES}
use Rattle.hp_syntax.specs.Matching.{match_atom}
use Rattle.hp_syntax.specs.Values.{unbound}
use Rattle.hp_syntax.specs.Views.{atom_of}
use Rattle.hp_syntax.specs.Walk.{method_children, operator_children, rule_children}
use Rattle.hp_answers.specs.AnswerViews.{MeetsHead}
use Rattle.hp_nodes.specs.NodeViews.{laid_of, operation_of}
use Rattle.hp_code.specs.CodeViews.{beside, rule_nodes, rules_in}
use Rattle.hp_eval.specs.GoalViews.{term_at}
use Rattle.hp_eval.proofs.GrowthLemmas.{grows_self}
use Rattle.hp_suspended.specs.SceneViews.{code_in}
use Rattle.hp_choice.specs.Served.{ServesBy}
use Rattle.hp_choice.proofs.RuleReadings.{few_of_rule, has_method, has_operator, no_children, rule_within, there_is}
use Rattle.hp_choice.proofs.opening.open.Goals as goal

-- what holds of a thing, if it is there, may be said in other words
some_weaker : {A : Type 0} (o : Option A) (P Q : A → Type 0) → ((x : A) → P x → Q x) → IfSome o P → IfSome o Q
some_weaker None P Q f h = tt
some_weaker (Some x) P Q f h = f x h

pub node_at-requires : goal.node_at-requires
node_at-requires c =
    let s = c.args.scene.now in
    let code = code_in s in
    let r = there_is (beside c.args.rule (rule_nodes code) (rules_in code)) c.requires.rule in
    rule_within code s.code.now.kept c.args.rule r.0 r.1

pub matched-requires-clause-few : goal.matched-requires-clause-few
matched-requires-clause-few c =
    let s = c.args.scene.now in
    let code = code_in s in
    let r = there_is (beside c.args.rule (rule_nodes code) (rules_in code)) c.requires.rule in
    subst (λ vs. length vs ≤ MOST_VARIABLES) (sym c.vars-vars.ensures)
    (few_of_rule code s.code.now.kept c.args.rule r.0 r.1)

pub matched-requires-in-Method-clause-few : goal.matched-requires-in-Method-clause-few
matched-requires-in-Method-clause-few c =
    let s = c.args.scene.now in
    let code = code_in s in
    let r = there_is (beside c.args.rule (rule_nodes code) (rules_in code)) c.requires.rule in
    subst (λ vs. length vs ≤ MOST_VARIABLES) (sym c.vars-vars.ensures)
    (few_of_rule code s.code.now.kept c.args.rule r.0 r.1)

pub by_operator-requires-clause-rule : goal.by_operator-requires-clause-rule
by_operator-requires-clause-rule c =
    let s = c.args.scene.now in
    let code = code_in s in
    let r = there_is (beside c.args.rule (rule_nodes code) (rules_in code)) c.requires.rule in
    let h = has_operator code c.args.rule (laid_of c.node_at.result.now) (atom_of c.in-Operator.head) s.code.now.kept
    c.node_at.ensures.is r.0 r.1 (ap operation_of c.in-Operator.is) in
    (h.own, r.1 ∙ ap Some h.is)

pub by_method-requires-clause-rule : goal.by_method-requires-clause-rule
by_method-requires-clause-rule c =
    let s = c.args.scene.now in
    let code = code_in s in
    let r = there_is (beside c.args.rule (rule_nodes code) (rules_in code)) c.requires.rule in
    let h = has_method code c.args.rule (laid_of c.node_at.result.now) (atom_of c.in-Method.head) s.code.now.kept
    c.node_at.ensures.is r.0 r.1 (ap operation_of c.in-Method.is) in
    (h.own, r.1 ∙ ap Some h.is)

pub returns-in_ok-by_operator-in-Some-clause-children :
    goal.returns-in_ok-by_operator-in-Some-clause-children
returns-in_ok-by_operator-in-Some-clause-children c = λ r n p found state.
    let s = c.args.scene.now in
    let code = code_in s in
    let terms = c.args.cells.now in
    let t = term_at terms c.args.task in
    let vars = length c.vars-vars.result.now in
    let head = atom_of c.in-Operator.head in
    let h = has_operator code c.args.rule (laid_of c.node_at.result.now) head s.code.now.kept
    c.node_at.ensures.is r found (ap operation_of c.in-Operator.is) in
    let met = subst (λ x. MeetsHead terms vars x (match_atom head t (unbound vars))) c.in-Some.is
    c.in_ok-slots-in-Operator.ensures in
    let many = ap length (c.vars-vars.ensures ∙ h.vars_are) in
    let same = ap₂ (λ a k. match_atom a t (unbound k)) h.head_is (sym many) in
    c.in_ok-by_operator-in-Some.ensures.children h.own n p (found ∙ ap Some h.is) state
    ∙ ap (operator_children (rules_in code) c.args.nest n p t h.own) (sym (same ∙ met.0))
    ∙ ap (rule_children (rules_in code) c.args.nest n p t) (sym h.is)

pub returns-in_ok-by_operator-in-Some-clause-branch : goal.returns-in_ok-by_operator-in-Some-clause-branch
returns-in_ok-by_operator-in-Some-clause-branch c = λ r n found state.
    let s = c.args.scene.now in
    let code = code_in s in
    let t = term_at c.args.cells.now c.args.task in
    let h = has_operator code c.args.rule (laid_of c.node_at.result.now) (atom_of c.in-Operator.head) s.code.now.kept
    c.node_at.ensures.is r found (ap operation_of c.in-Operator.is) in
    subst (λ x. ServesBy (rules_in code) c.args.nest n.state t x c.in_ok-by_operator-in-Some.field-0.value.branch)
    (sym h.is) c.in_ok-by_operator-in-Some.ensures.served.1

pub returns-in-None-clause-children : goal.returns-in-None-clause-children
returns-in-None-clause-children c = λ r n p found state.
    let s = c.args.scene.now in
    let code = code_in s in
    let terms = c.args.cells.now in
    let t = term_at terms c.args.task in
    let vars = length c.vars-vars.result.now in
    let head = atom_of c.in-Operator.head in
    let h = has_operator code c.args.rule (laid_of c.node_at.result.now) head s.code.now.kept
    c.node_at.ensures.is r found (ap operation_of c.in-Operator.is) in
    let met = subst (λ x. MeetsHead terms vars x (match_atom head t (unbound vars))) c.in-None.is
    c.in_ok-slots-in-Operator.ensures in
    let many = ap length (c.vars-vars.ensures ∙ h.vars_are) in
    let same = ap₂ (λ a k. match_atom a t (unbound k)) h.head_is (sym many) in
    sym (ap (rule_children (rules_in code) c.args.nest n p t) h.is
    ∙ ap (operator_children (rules_in code) c.args.nest n p t h.own) (same ∙ met))

pub returns-in-Some-2-clause-children : goal.returns-in-Some-2-clause-children
returns-in-Some-2-clause-children c =
    let s = c.args.scene.now in
    let code = code_in s in
    let terms = c.args.cells.now in
    let t = term_at terms c.args.task in
    let vars = length c.vars-vars.result.now in
    let head = atom_of c.in-Method.head in
    let met = subst (λ x. MeetsHead terms vars x (match_atom head t (unbound vars))) c.in-Some-2.is
    c.in_ok-slots-in-Method.ensures in
    IfOk-weaker c.by_method.result _ _
    (λ x own r n p found state.
    let h = has_method code c.args.rule (laid_of c.node_at.result.now) head s.code.now.kept
    c.node_at.ensures.is r found (ap operation_of c.in-Method.is) in
    let many = ap length (c.vars-vars.ensures ∙ h.vars_are) in
    let same = ap₂ (λ a k. match_atom a t (unbound k)) h.head_is (sym many) in
    own h.own n p (found ∙ ap Some h.is) state
    ∙ ap (method_children (rules_in code) c.args.nest n p h.own) (sym (same ∙ met.0))
    ∙ ap (rule_children (rules_in code) c.args.nest n p t) (sym h.is))
    c.by_method.ensures.children

pub returns-in-Some-2-clause-branch : goal.returns-in-Some-2-clause-branch
returns-in-Some-2-clause-branch c =
    let s = c.args.scene.now in
    let code = code_in s in
    let terms = c.args.cells.now in
    let t = term_at terms c.args.task in
    let vars = length c.vars-vars.result.now in
    let head = atom_of c.in-Method.head in
    let met = subst (λ x. MeetsHead terms vars x (match_atom head t (unbound vars))) c.in-Some-2.is
    c.in_ok-slots-in-Method.ensures in
    IfOk-weaker c.by_method.result _ _
    (λ x. some_weaker x _ _
    (λ d own r n found state.
    let h = has_method code c.args.rule (laid_of c.node_at.result.now) head s.code.now.kept
    c.node_at.ensures.is r found (ap operation_of c.in-Method.is) in
    let many = ap length (c.vars-vars.ensures ∙ h.vars_are) in
    let same = ap₂ (λ a k. match_atom a t (unbound k)) h.head_is (sym many) in
    subst (λ q. ServesBy (rules_in code) c.args.nest n.state t q d.value.branch) (sym h.is)
    (record { matched = _; head = same ∙ met.0; chosen = own h.own n (found ∙ ap Some h.is) state })))
    c.by_method.ensures.branch

pub returns-in-None-2-clause-children : goal.returns-in-None-2-clause-children
returns-in-None-2-clause-children c = λ r n p found state.
    let s = c.args.scene.now in
    let code = code_in s in
    let terms = c.args.cells.now in
    let t = term_at terms c.args.task in
    let vars = length c.vars-vars.result.now in
    let head = atom_of c.in-Method.head in
    let h = has_method code c.args.rule (laid_of c.node_at.result.now) head s.code.now.kept
    c.node_at.ensures.is r found (ap operation_of c.in-Method.is) in
    let met = subst (λ x. MeetsHead terms vars x (match_atom head t (unbound vars))) c.in-None-2.is
    c.in_ok-slots-in-Method.ensures in
    let many = ap length (c.vars-vars.ensures ∙ h.vars_are) in
    let same = ap₂ (λ a k. match_atom a t (unbound k)) h.head_is (sym many) in
    sym (ap (rule_children (rules_in code) c.args.nest n p t) h.is
    ∙ ap (method_children (rules_in code) c.args.nest n p h.own) (same ∙ met))

pub returns-in_default : goal.returns-in_default
returns-in_default c =
    let s = c.args.scene.now in
    let t = term_at c.args.cells.now c.args.task in
    record {
      children =
          λ r n p found state.
          sym (no_children (code_in s) c.args.rule (laid_of c.node_at.result.now) c.node_at.result.now.op refl
          c.in_default.not-Operator c.in_default.not-Method s.code.now.kept c.node_at.ensures.is r found c.args.nest n p
          t);
      choice = tt;
      names = tt;
      rule = tt;
      branch = tt;
      kept = tt;
      cells = grows_self c.args.cells.now;
    }
