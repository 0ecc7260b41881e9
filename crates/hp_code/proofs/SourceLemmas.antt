-- What the trees of rules read back as.
use Rattle.std.proofs.Common.{◌≡◌, ℕ, Bool, true, false, List, [], ◌∷◌, ◌++◌, map, Option, Some, refl, ap, ◌∙◌}
use Rattle.std.specs.Prelude.{option_map}
use Rattle.std.proofs.lemmas.List.{append-nil}
use Rattle.hp_syntax.specs.declared.domain.Side.{Side}
use Rattle.hp_syntax.specs.declared.domain.Side.TheVariants.{Deletes, Adds}
use Rattle.hp_syntax.specs.declared.pattern.Span.{Span}
use Rattle.hp_syntax.specs.Changes.{pattern_span}
use Rattle.hp_syntax.specs.Syntax as syntax
use Rattle.hp_nodes.specs.Trees.{CostOf, Trees, More}
use Rattle.hp_nodes.specs.Compiled as compiled
use Rattle.hp_code.specs.Lowered.{lowered, all_lowered, lowered_precondition, lowered_effect, idle_prefix, behind_idle, lowered_branch, lowered_clause, lowered_rule, lowered_rules}
use Rattle.hp_code.specs.Sources as sources

-- what is made of two that are there
made : {A B C : Type 0} (f : A → B → C) (x : Option A) (y : Option B) (a : A) (b : B) → x ≡ Some a → y ≡ Some b
    → sources.made_of f x y ≡ Some (f a b)
made f x y a b h k = rw h (rw k refl)

-- what is made of one that is there
mapped : {A B : Type 0} (f : A → B) (x : Option A) (a : A) → x ≡ Some a → option_map f x ≡ Some (f a)
mapped f x a h = ap (option_map f) h

-- ---- expressions

mutual
  unfolding compiled.expression_tree compiled.expression_trees sources.expression_read sources.expressions_read lowered
      all_lowered

  -- the tree of an expression reads back as the lowered expression
  expression_back : (E : syntax.Expression) → sources.expression_read (compiled.expression_tree E) ≡ Some (lowered E)
  expression_back (syntax.Holds s a) = refl
  expression_back (syntax.And s ps) = mapped (syntax.And s) _ _ (expressions_back ps)
  expression_back (syntax.Or s ps) = mapped (syntax.Or s) _ _ (expressions_back ps)
  expression_back (syntax.Not s p) = mapped (syntax.Not s) _ _ (expression_back p)
  expression_back (syntax.Forall s vs y z) = made (syntax.Forall s []) _ _ _ _ (expression_back y) (expression_back z)
  expression_back (syntax.Assign s v p) = refl
  expression_back (syntax.Test s p) = refl

  -- so do those of several
  expressions_back : (ps : syntax.Expressions) → sources.expressions_read (compiled.expression_trees ps)
      ≡ Some (all_lowered ps)
  expressions_back syntax.NoExpression = refl
  expressions_back (syntax.Also p ps) = made syntax.Also _ _ _ _ (expression_back p) (expressions_back ps)

-- the tree of a precondition reads back as the lowered precondition
precondition_back : (s : Span) (p : syntax.Precondition)
    → sources.precondition_read (compiled.precondition_tree s p) ≡ Some (lowered_precondition p)
precondition_back s (syntax.Plain e) = mapped syntax.Plain _ _ (expression_back e)
precondition_back s (syntax.First e) = mapped syntax.First _ _ (expression_back e)
precondition_back s (syntax.Sorted k e) = mapped (syntax.Sorted k) _ _ (expression_back e)

-- ---- effects

abbrev is_adding : Side → Bool
is_adding Deletes = false
is_adding Adds = true

-- an atom of a side
abbrev sided : Side → syntax.Atom → sources.SidedAtom
sided side a = record { adds = is_adding side; atom = a }

-- the trees of a side's atoms read back as these
changes_back : (side : Side) (as' : List syntax.Atom) → sources.changes_read (compiled.change_trees side as')
    ≡ Some (map (sided side) as')
changes_back side [] = refl
changes_back Deletes (a ∷ as') =
    made (λ b bs. b ∷ bs) (Some (sided Deletes a)) _ _ _ refl (changes_back Deletes as')
changes_back Adds (a ∷ as') = made (λ b bs. b ∷ bs) (Some (sided Adds a)) _ _ _ refl
    (changes_back Adds as')

-- atoms of a side, without the side
atoms_sided : (side : Side) (as' : List syntax.Atom) → map (λ a. a.atom) (map (sided side) as') ≡ as'
atoms_sided side [] = refl
atoms_sided side (a ∷ as') = ap (λ bs. a ∷ bs) (atoms_sided side as')

-- what is deleted adds nothing
deletes_add_nothing : (as' : List syntax.Atom) → sources.some_adds (map (sided Deletes) as') ≡ false
deletes_add_nothing [] = refl
deletes_add_nothing (a ∷ as') = deletes_add_nothing as'

-- whether an effect of a side adds anything
abbrev adds_by : Side → syntax.Effect → Bool
adds_by Deletes x = false
adds_by Adds (syntax.Change a) = true
adds_by Adds (syntax.Protection a) = true
adds_by Adds (syntax.Each vs e []) = false
adds_by Adds (syntax.Each vs e (a ∷ as')) = true

-- an effect of a side as it reads back
abbrev sided_effect : Side → syntax.Effect → sources.Sided
sided_effect side x = record { adds = adds_by side x; effect = lowered_effect x }

-- a `forall` of a side whose parts read back
each_back : (side : Side) (vs : List ℕ) (e : syntax.Expression) (as' : List syntax.Atom)
    → sources.some_adds (map (sided side) as') ≡ adds_by side (syntax.Each vs e as')
    → sources.made_of sources.each_of (sources.expression_read (compiled.expression_tree e))
    (sources.changes_read (compiled.change_trees side as'))
    ≡ Some (sided_effect side (syntax.Each vs e as'))
each_back side vs e as' h =
    made sources.each_of _ _ _ _ (expression_back e) (changes_back side as')
    ∙ ap (λ b. Some (record {
      adds = b;
      effect = syntax.Each [] (lowered e)
          (map (λ a. a.atom) (map (sided side) as'));
    })) h
    ∙ ap (λ bs. Some (record { adds = adds_by side (syntax.Each vs e as'); effect = syntax.Each [] (lowered e) bs }))
    (atoms_sided side as')

-- the tree of an effect reads back as the lowered effect
effect_back : (side : Side) (s : Span) (x : syntax.Effect)
    → sources.effect_read (compiled.effect_tree side s x) ≡ Some (sided_effect side x)
effect_back Deletes s (syntax.Change a) = refl
effect_back Adds s (syntax.Change a) = refl
effect_back Deletes s (syntax.Protection a) = refl
effect_back Adds s (syntax.Protection a) = refl
effect_back Deletes s (syntax.Each vs e as') = each_back Deletes vs e as' (deletes_add_nothing as')
effect_back Adds s (syntax.Each vs e []) = each_back Adds vs e [] refl
effect_back Adds s (syntax.Each vs e (a ∷ as')) = each_back Adds vs e (a ∷ as') refl

-- the tree of an effect before others reads back before them
effect_before : (side : Side) (s : Span) (x : syntax.Effect) (ts : Trees)
    → sources.body_read (More (compiled.effect_tree side s x) ts)
    ≡ sources.made_of sources.with_effect (sources.effect_read (compiled.effect_tree side s x)) (sources.body_read ts)
unfolding sources.body_read
effect_before Deletes s (syntax.Change a) ts = refl
effect_before Adds s (syntax.Change a) ts = refl
effect_before Deletes s (syntax.Protection a) ts = refl
effect_before Adds s (syntax.Protection a) ts = refl
effect_before side s (syntax.Each vs e as') ts = refl

abbrev behind_effects : List sources.Sided → sources.Body → sources.Body
behind_effects xs b = record { effects = xs ++ b.effects; cost = b.cost }

-- the trees of effects before a body read back before it
effects_back : (side : Side) (s : Span) (xs : List syntax.Effect) (ts : Trees) (b : sources.Body)
    → sources.body_read ts ≡ Some b
    → sources.body_read (compiled.effect_trees side s xs ts) ≡ Some (behind_effects (map (sided_effect side) xs) b)
effects_back side s [] ts b h = h
effects_back side s (x ∷ xs) ts b h =
    effect_before side s x (compiled.effect_trees side s xs ts)
    ∙ made sources.with_effect _ _ _ _ (effect_back side s x) (effects_back side s xs ts b h)

-- ---- the sides told apart

-- effects that delete are none that adds
not_adding_behind : (xs : List syntax.Effect) (ys : List sources.Sided)
    → sources.not_adding (map (sided_effect Deletes) xs ++ ys) ≡ map lowered_effect xs ++ sources.not_adding ys
not_adding_behind [] ys = refl
not_adding_behind (x ∷ xs) ys = ap (λ zs. lowered_effect x ∷ zs) (not_adding_behind xs ys)

-- nor does one of them come from the first that adds on
from_adding_behind : (xs : List syntax.Effect) (ys : List sources.Sided)
    → sources.from_adding (map (sided_effect Deletes) xs ++ ys) ≡ sources.from_adding ys
from_adding_behind [] ys = refl
from_adding_behind (x ∷ xs) ys = from_adding_behind xs ys

-- of effects that are to add, the idle prefix adds nothing
not_adding_idle : (xs : List syntax.Effect) → sources.not_adding (map (sided_effect Adds) xs)
    ≡ map lowered_effect (idle_prefix xs)
not_adding_idle [] = refl
not_adding_idle (syntax.Change a ∷ xs) = refl
not_adding_idle (syntax.Protection a ∷ xs) = refl
not_adding_idle (syntax.Each vs e [] ∷ xs) = ap (λ zs. syntax.Each [] (lowered e) [] ∷ zs) (not_adding_idle xs)
not_adding_idle (syntax.Each vs e (a ∷ as') ∷ xs) = refl

-- effects of a side, without the side
effects_sided : (side : Side) (xs : List syntax.Effect)
    → map (λ y. y.effect) (map (sided_effect side) xs) ≡ map lowered_effect xs
effects_sided side [] = refl
effects_sided side (x ∷ xs) = ap (λ zs. lowered_effect x ∷ zs) (effects_sided side xs)

-- and the others are from the first that adds anything on
from_adding_idle : (xs : List syntax.Effect) → sources.from_adding (map (sided_effect Adds) xs)
    ≡ map lowered_effect (behind_idle xs)
from_adding_idle [] = refl
from_adding_idle (syntax.Change a ∷ xs) = ap (λ zs. syntax.Change a ∷ zs) (effects_sided Adds xs)
from_adding_idle (syntax.Protection a ∷ xs) = ap (λ zs. syntax.Protection a ∷ zs) (effects_sided Adds xs)
from_adding_idle (syntax.Each vs e [] ∷ xs) = from_adding_idle xs
from_adding_idle (syntax.Each vs e (a ∷ as') ∷ xs) = ap (λ zs. syntax.Each [] (lowered e) (a ∷ as') ∷ zs)
    (effects_sided Adds xs)

-- ---- rules

-- a list lowered is the joined list lowered
lowered_both : (xs ys : List syntax.Effect) → map lowered_effect xs ++ map lowered_effect ys
    ≡ map lowered_effect (xs ++ ys)
lowered_both [] ys = refl
lowered_both (x ∷ xs) ys = ap (λ zs. lowered_effect x ∷ zs) (lowered_both xs ys)

-- an operator with a precondition, its effects and its cost
abbrev does : syntax.Operator → syntax.Precondition → List syntax.Effect → List syntax.Effect → syntax.Rule
does o pre dels adds = syntax.Does (record {
  span = o.span;
  vars = o.vars;
  head = o.head;
  pre = pre;
  dels = dels;
  adds = adds;
  cost = o.cost;
})

-- the tree of an operator reads back as the lowered operator
operator_back : (o : syntax.Operator) → sources.rule_read o.vars (compiled.rule_tree (syntax.Does o))
    ≡ Some (lowered_rule (syntax.Does o))
unfolding sources.body_read
operator_back o =
    let cost = compiled.only (compiled.leaf (CostOf o.cost) (pattern_span o.cost)) in
    let adds = map (sided_effect Adds) o.adds in
    made _ _ _ _ _ (precondition_back o.span o.pre)
    (effects_back Deletes o.span o.dels (compiled.effect_trees Adds o.span o.adds cost) _
    (effects_back Adds o.span o.adds cost (record { effects = []; cost = o.cost }) refl))
    ∙ ap (λ xs. Some (does o (lowered_precondition o.pre) (sources.not_adding
    (map (sided_effect Deletes) o.dels ++ xs))
    (sources.from_adding (map (sided_effect Deletes) o.dels ++ xs)))) (append-nil adds)
    ∙ ap (λ xs. Some (does o (lowered_precondition o.pre) xs (sources.from_adding
    (map (sided_effect Deletes) o.dels ++ adds))))
    (not_adding_behind o.dels adds
    ∙ ap (λ ys. map lowered_effect o.dels ++ ys) (not_adding_idle o.adds)
    ∙ lowered_both o.dels (idle_prefix o.adds))
    ∙ ap (λ xs. Some (does o (lowered_precondition o.pre) (map lowered_effect (o.dels ++ idle_prefix o.adds)) xs))
    (from_adding_behind o.dels adds ∙ from_adding_idle o.adds)

-- the trees of a method's branches read back as the lowered branches
branches_back : (s : Span) (bs : List syntax.Branch) → sources.branches_read (compiled.branch_trees s bs)
    ≡ Some (map lowered_branch bs)
branches_back s [] = refl
branches_back s (b ∷ bs) =
    made (λ c cs. c ∷ cs) _ _ _ _
    (mapped (λ pre. record { name = b.name; pre = pre; tasks = b.tasks }) _ _ (precondition_back s b.pre))
    (branches_back s bs)

-- those of an axiom's branches likewise
clauses_back : (s : Span) (cs : List syntax.Clause) → sources.clauses_read (compiled.clause_trees s cs)
    ≡ Some (map lowered_clause cs)
clauses_back s [] = refl
clauses_back s (c ∷ cs) =
    made (λ d ds. d ∷ ds) _ _ _ _ (mapped (λ e. record { name = c.name; body = e }) _ _ (expression_back c.body))
    (clauses_back s cs)

-- the tree of a rule reads back as the lowered rule
rule_back : (r : syntax.Rule) → sources.rule_read (compiled.vars_of r) (compiled.rule_tree r) ≡ Some (lowered_rule r)
rule_back (syntax.Does o) = operator_back o
rule_back (syntax.Refines m) = mapped _ _ _ (branches_back m.span m.branches)
rule_back (syntax.Concludes x) = mapped _ _ _ (clauses_back x.span x.clauses)

-- the trees of rules read back as the lowered rules
pub rules_back : (rules : List syntax.Rule) → sources.rules_read (map compiled.vars_of rules)
    (compiled.rule_trees rules) ≡ Some (lowered_rules rules)
rules_back [] = refl
rules_back (r ∷ rs) = made (λ q qs. q ∷ qs) _ _ _ _ (rule_back r) (rules_back rs)
