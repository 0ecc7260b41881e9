-- Lowered rules are numbered where the rules are, and the checks find in them what they find in the rules.
use Rattle.std.proofs.Common.{◌≡◌, ℕ, ◌+◌, ◌<◌, List, [], ◌∷◌, ◌++◌, map, length, refl, ap, ap₂, sym, ◌∙◌}
use Rattle.std.specs.List.{All, flat_map}
use Rattle.std.proofs.lemmas.Grind.{flat_map-append}
use Rattle.std.proofs.lemmas.List.{append_assoc}
use Rattle.std.proofs.lemmas.List.Elements.{All-append, All-cons, All-head, All-nil, All-tail}
use Rattle.hp_syntax.specs.declared.check.CheckFault.{CheckFault}
use Rattle.hp_syntax.specs.Syntax as syntax
use Rattle.hp_syntax.specs.Checks as checks
use Rattle.hp_syntax.specs.Numbered.{ExpressionBelow, ExpressionsBelow, PreconditionBelow, EffectBelow, BranchBelow, ClauseBelow, IsNumberedRule}
use Rattle.hp_code.specs.Lowered.{lowered, all_lowered, lowered_precondition, lowered_effect, idle_prefix, behind_idle, lowered_branch, lowered_clause, lowered_rule, lowered_rules}

-- the effects of a list are its idle prefix and those behind it
idle_and_behind : (xs : List syntax.Effect) → idle_prefix xs ++ behind_idle xs ≡ xs
idle_and_behind [] = refl
idle_and_behind (syntax.Change a ∷ xs) = refl
idle_and_behind (syntax.Protection a ∷ xs) = refl
idle_and_behind (syntax.Each vs e [] ∷ xs) = ap (λ ys. syntax.Each vs e [] ∷ ys) (idle_and_behind xs)
idle_and_behind (syntax.Each vs e (a ∷ as') ∷ xs) = refl

-- ---- faults

mutual
  unfolding lowered all_lowered checks.expression_faults checks.expressions_faults

  -- a lowered expression has the faults of the expression
  expression_checked : (level : ℕ) (e : syntax.Expression) → checks.expression_faults level (lowered e)
      ≡ checks.expression_faults level e
  expression_checked level (syntax.Holds s a) = refl
  expression_checked level (syntax.And s ps) = ap (λ fs. checks.level_faults level s ++ fs)
      (expressions_checked (level + 1) ps)
  expression_checked level (syntax.Or s ps) = ap (λ fs. checks.level_faults level s ++ fs)
      (expressions_checked (level + 1) ps)
  expression_checked level (syntax.Not s p) = ap (λ fs. checks.level_faults level s ++ fs)
      (expression_checked (level + 1) p)
  expression_checked level (syntax.Forall s vs y z) =
      ap (λ fs. checks.level_faults level s ++ fs ++ checks.expression_faults (level + 1) (lowered z))
      (expression_checked (level + 1) y)
      ∙ ap (λ fs. checks.level_faults level s ++ checks.expression_faults (level + 1) y ++ fs)
      (expression_checked (level + 1) z)
  expression_checked level (syntax.Assign s v p) = refl
  expression_checked level (syntax.Test s p) = refl

  -- so do expressions
  expressions_checked : (level : ℕ) (es : syntax.Expressions)
      → checks.expressions_faults level (all_lowered es) ≡ checks.expressions_faults level es
  expressions_checked level syntax.NoExpression = refl
  expressions_checked level (syntax.Also e es) =
      ap (λ fs. fs ++ checks.expressions_faults level (all_lowered es)) (expression_checked level e)
      ∙ ap (λ fs. checks.expression_faults level e ++ fs) (expressions_checked level es)

-- so does a precondition
precondition_checked : (p : syntax.Precondition) → checks.precondition_faults (lowered_precondition p)
    ≡ checks.precondition_faults p
precondition_checked (syntax.Plain e) = expression_checked 1 e
precondition_checked (syntax.First e) = expression_checked 1 e
precondition_checked (syntax.Sorted k e) = ap (λ fs. checks.order_faults k.order ++ fs) (expression_checked 1 e)

-- and an effect
effect_checked : (x : syntax.Effect) → checks.effect_faults (lowered_effect x) ≡ checks.effect_faults x
effect_checked (syntax.Change a) = refl
effect_checked (syntax.Protection a) = refl
effect_checked (syntax.Each vs e as') = ap (λ fs. fs ++ checks.atoms_faults checks.InBody as') (expression_checked 1 e)

-- what each part has, all parts have
all_checked : {A : Type 0} (f : A → List CheckFault) (g : A → A) → ((x : A) → f (g x) ≡ f x) → (xs : List A)
    → flat_map f (map g xs) ≡ flat_map f xs
all_checked f g h [] = refl
all_checked f g h (x ∷ xs) =
    ap (λ fs. fs ++ flat_map f (map g xs)) (h x) ∙ ap (λ fs. f x ++ fs) (all_checked f g h xs)

-- the effects of a lowered operator have the faults of the operator's, behind others
effects_checked : (fs : List CheckFault) (dels adds : List syntax.Effect)
    → fs ++ flat_map checks.effect_faults (map lowered_effect (dels ++ idle_prefix adds))
    ++ flat_map checks.effect_faults (map lowered_effect (behind_idle adds))
    ≡ fs ++ flat_map checks.effect_faults dels ++ flat_map checks.effect_faults adds
effects_checked fs dels adds =
    let of = flat_map checks.effect_faults in
    ap₂ (λ xs ys. fs ++ xs ++ ys)
    (all_checked checks.effect_faults lowered_effect effect_checked (dels ++ idle_prefix adds)
    ∙ flat_map-append checks.effect_faults dels (idle_prefix adds))
    (all_checked checks.effect_faults lowered_effect effect_checked (behind_idle adds))
    ∙ append_assoc fs (of dels ++ of (idle_prefix adds)) (of (behind_idle adds))
    ∙ ap (λ xs. fs ++ xs)
    (append_assoc (of dels) (of (idle_prefix adds)) (of (behind_idle adds))
    ∙ ap (λ xs. of dels ++ xs)
    (sym (flat_map-append checks.effect_faults (idle_prefix adds) (behind_idle adds)) ∙ ap of (idle_and_behind adds)))
    ∙ sym (append_assoc fs (of dels) (of adds))

-- a branch of a lowered method has the faults of the branch
branch_checked : (b : syntax.Branch) → checks.branch_faults (lowered_branch b) ≡ checks.branch_faults b
branch_checked b = ap (λ fs. fs ++ checks.tasks_faults checks.InBody b.tasks) (precondition_checked b.pre)

-- so has one of a lowered axiom
clause_checked : (c : syntax.Clause) → checks.clause_faults (lowered_clause c) ≡ checks.clause_faults c
clause_checked c = expression_checked 1 c.body

-- a lowered rule has the faults of the rule
rule_checked : (r : syntax.Rule) → checks.rule_faults (lowered_rule r) ≡ checks.rule_faults r
rule_checked (syntax.Does o) =
    ap (λ fs. fs ++ checks.pattern_faults checks.InBody o.cost)
    (effects_checked
    (checks.vars_faults o.vars o.span ++ checks.atom_faults checks.InHead o.head
    ++ checks.precondition_faults (lowered_precondition o.pre))
    o.dels o.adds
    ∙ ap (λ fs. checks.vars_faults o.vars o.span ++ checks.atom_faults checks.InHead o.head ++ fs
    ++ flat_map checks.effect_faults o.dels
    ++ flat_map checks.effect_faults o.adds) (precondition_checked o.pre))
rule_checked (syntax.Refines m) =
    ap (λ fs. checks.vars_faults m.vars m.span ++ checks.atom_faults checks.InHead m.head ++ fs)
    (all_checked checks.branch_faults lowered_branch branch_checked m.branches)
rule_checked (syntax.Concludes x) =
    ap (λ fs. checks.vars_faults x.vars x.span ++ checks.atom_faults checks.InHead x.head ++ fs)
    (all_checked checks.clause_faults lowered_clause clause_checked x.clauses)

-- lowered rules have the faults of the rules
pub rules_checked : (rules : List syntax.Rule) → flat_map checks.rule_faults (lowered_rules rules)
    ≡ flat_map checks.rule_faults rules
rules_checked rules = all_checked checks.rule_faults lowered_rule rule_checked rules

-- ---- numbers of variables

module _ (n : ℕ) where
  mutual
    unfolding lowered all_lowered

    -- a lowered expression has its variables below what those of the expression are below
    expression_numbered : (e : syntax.Expression) → ExpressionBelow n e → ExpressionBelow n (lowered e)
    expression_numbered (syntax.Holds s a) h = h
    expression_numbered (syntax.And s ps) h = expressions_numbered ps h
    expression_numbered (syntax.Or s ps) h = expressions_numbered ps h
    expression_numbered (syntax.Not s p) h = expression_numbered p h
    expression_numbered (syntax.Forall s vs y z) h =
        (All-nil (λ v. v < n), expression_numbered y h.1, expression_numbered z h.2)
    expression_numbered (syntax.Assign s v p) h = h
    expression_numbered (syntax.Test s p) h = h

    -- so have expressions
    expressions_numbered : (es : syntax.Expressions) → ExpressionsBelow n es → ExpressionsBelow n (all_lowered es)
    expressions_numbered syntax.NoExpression h = h
    expressions_numbered (syntax.Also e es) h = (expression_numbered e h.0, expressions_numbered es h.1)

  -- so has a precondition
  precondition_numbered : (p : syntax.Precondition) → PreconditionBelow n p
      → PreconditionBelow n (lowered_precondition p)
  precondition_numbered (syntax.Plain e) h = expression_numbered e h
  precondition_numbered (syntax.First e) h = expression_numbered e h
  precondition_numbered (syntax.Sorted k e) h = (h.0, expression_numbered e h.1)

  -- and an effect
  effect_numbered : (x : syntax.Effect) → EffectBelow n x → EffectBelow n (lowered_effect x)
  effect_numbered (syntax.Change a) h = h
  effect_numbered (syntax.Protection a) h = h
  effect_numbered (syntax.Each vs e as') h = (All-nil (λ v. v < n), expression_numbered e h.1, h.2)

-- what holds of each part holds of all parts
all_numbered : {A : Type 0} (P : A → Type 0) (g : A → A) → ((x : A) → P x → P (g x)) → (xs : List A)
    → All P xs → All P (map g xs)
all_numbered P g h [] a = All-nil P
all_numbered P g h (x ∷ xs) a =
    All-cons P (g x) (map g xs) (h x (All-head P x xs a)) (all_numbered P g h xs (All-tail P x xs a))

module _ (P : syntax.Effect → Type 0) where
  -- what holds of all effects holds of their idle prefix
  idle_holds : (xs : List syntax.Effect) → All P xs → All P (idle_prefix xs)
  idle_holds [] a = a
  idle_holds (syntax.Change x ∷ xs) a = All-nil P
  idle_holds (syntax.Protection x ∷ xs) a = All-nil P
  idle_holds (syntax.Each vs e [] ∷ xs) a =
      All-cons P (syntax.Each vs e []) (idle_prefix xs) (All-head P (syntax.Each vs e []) xs a)
      (idle_holds xs (All-tail P (syntax.Each vs e []) xs a))
  idle_holds (syntax.Each vs e (x ∷ as') ∷ xs) a = All-nil P

  -- and of those behind it
  behind_holds : (xs : List syntax.Effect) → All P xs → All P (behind_idle xs)
  behind_holds [] a = a
  behind_holds (syntax.Change x ∷ xs) a = a
  behind_holds (syntax.Protection x ∷ xs) a = a
  behind_holds (syntax.Each vs e [] ∷ xs) a = behind_holds xs (All-tail P (syntax.Each vs e []) xs a)
  behind_holds (syntax.Each vs e (x ∷ as') ∷ xs) a = a

-- a lowered rule is numbered where the rule is
rule_numbered : (r : syntax.Rule) → IsNumberedRule r → IsNumberedRule (lowered_rule r)
rule_numbered (syntax.Does o) h =
    let n = length o.vars in
    record {
      head = h.head;
      pre = precondition_numbered n o.pre h.pre;
      dels =
          all_numbered (EffectBelow n) lowered_effect (effect_numbered n) (o.dels ++ idle_prefix o.adds)
          (All-append (EffectBelow n) o.dels (idle_prefix o.adds) h.dels
          (idle_holds (EffectBelow n) o.adds h.adds));
      adds =
          all_numbered (EffectBelow n) lowered_effect (effect_numbered n) (behind_idle o.adds)
          (behind_holds (EffectBelow n) o.adds h.adds);
      cost = h.cost;
    }
rule_numbered (syntax.Refines m) h =
    let n = length m.vars in
    record {
      head = h.head;
      branches =
          all_numbered (BranchBelow n) lowered_branch (λ b g. (precondition_numbered n b.pre g.0, g.1)) m.branches
          h.branches;
    }
rule_numbered (syntax.Concludes x) h =
    let n = length x.vars in
    record {
      head = h.head;
      clauses =
          all_numbered (ClauseBelow n) lowered_clause (λ c g. expression_numbered n c.body g) x.clauses h.clauses;
    }

-- lowered rules are numbered where the rules are
pub rules_numbered : (rules : List syntax.Rule) → All IsNumberedRule rules → All IsNumberedRule (lowered_rules rules)
rules_numbered rules h = all_numbered IsNumberedRule lowered_rule rule_numbered rules h
