-- Written rules are read as these again, up to spans.
use Rattle.std.proofs.Common.{◌≡◌, ℕ, Bool, true, false, List, [], ◌∷◌, map, Option, Some, None, Ok, refl, sym, subst, ◌∙◌, bytes_eq, codes}
use Rattle.hp_syntax.specs.declared.pattern.Span.{Span}
use Rattle.hp_syntax.specs.declared.form.What.TheVariants as wants
use Rattle.hp_syntax.specs.Forest.{Node, Word, Numeral, Group, Forest, Bare, Grow, span_of}
use Rattle.hp_syntax.specs.Names.{is_plain, is_primitive, is_compound, is_branch_name}
use Rattle.hp_syntax.specs.Steps.{Names, closing}
use Rattle.hp_syntax.specs.Grammar as grammar
use Rattle.hp_syntax.specs.Syntax.{Pattern, Atom, Precondition, Expression, Tasks, Effect, Branch, Clause, Rule, Does, Refines, Concludes}
use Rattle.hp_syntax.specs.Written as written
use Rattle.hp_syntax.specs.Written.{nowhere, word, group, worded, one, two}
use Rattle.hp_syntax.specs.Unplaced as unplaced
use Rattle.hp_print.proofs.CanSpell.{IsName, CanSpell, CanSpellAll}
use Rattle.hp_print.proofs.WrittenWords.{one_number, operator_name, method_name, axiom_mark_name}
use Rattle.hp_print.proofs.AgainSteps as again_steps
use Rattle.hp_print.proofs.AgainTerms.{again_term, again_headed}
use Rattle.hp_print.proofs.AgainForms.{again_expression, unnamed_expression, again_precondition, again_tasks, again_effects}

-- the names of a rule's variables
abbrev rule_names : Rule → Names
rule_names (Does o) = o.vars
rule_names (Refines m) = m.vars
rule_names (Concludes a) = a.vars

-- the written forest of a rule whose variables have these names
abbrev rule_at : Names → Rule → Node
rule_at all (Does o) = written.operator (record o { vars = all })
rule_at all (Refines m) = written.method (record m { vars = all })
rule_at all (Concludes a) = written.axiom_rule (record a { vars = all })

-- by a rule's own names this is what is written of the rule
own_names : (r : Rule) → rule_at (rule_names r) r ≡ written.rule r
unfolding written.rule
own_names (Does o) = refl
own_names (Refines m) = refl
own_names (Concludes a) = refl

-- a rule is read again by the word that it begins with and the names at its end
record KeyedRuleAgain (H : Type 0) (names all : Names) (r : Rule) (end : Names) : Type 0 where
  own : rule_names r ≡ end
  key : List ℕ
  parts : Forest
  is : rule_at all r ≡ worded key parts
  reads : grammar.keyed_rule nowhere key parts names ≡ Ok (unplaced.rule r, end)
  spells : H → CanSpell (worded key parts)

-- a rule is read again, from whatever names
pub record RuleAgain (H : Type 0) (r : Rule) : Type 0 where
  pub reads : (names : Names) → grammar.rule (written.rule r) names ≡ Ok (unplaced.rule r, names)
  pub spells : H → CanSpell (written.rule r)

-- a rule that is read again by its first word is read again
keyed_rule_again : (H : Type 0) (r : Rule) (names : Names) → KeyedRuleAgain H [] names r names → RuleAgain H r
unfolding grammar.rule
keyed_rule_again H r names h =
    let is : written.rule r ≡ worded h.key h.parts =
    subst (λ (x : Names). rule_at x r ≡ written.rule r → written.rule r ≡ worded h.key h.parts) (sym h.own)
    (λ e. sym e ∙ h.is) (own_names r) in
    record {
      reads = λ names.
          subst (λ (m : Node). grammar.rule m names ≡ Ok (unplaced.rule r, names)) (sym is)
          (again_steps.reads_chain _ h.reads refl);
      spells = λ c. subst CanSpell (sym is) (h.spells c);
    }

-- the written parts of an operator whose variables have these names, behind its first word
abbrev operator_parts : Names → Atom → Precondition → List Effect → List Effect → Pattern → Forest
operator_parts all head pre dels adds price =
    Grow (written.atom all head) (Grow (written.precondition all pre)
    (Grow (group (written.effects all dels)) (two (group (written.effects all adds)) (written.pattern all price))))

-- the name of a branch is read again
record BranchNameAgain (n : Node) (text : List ℕ) : Type 0 where
  fits : is_branch_name text ≡ true
  named : grammar.begins_named (word text) ≡ grammar.begins_named n
  spells : CanSpell n → IsName text

-- each name of a branch that the grammar reads is read again
still_branch_name : {names : Names} (n : Node) → again_steps.Still names (BranchNameAgain n) (grammar.branch_name n)
unfolding grammar.branch_name
still_branch_name (Word s text) =
    again_steps.still_choice (is_branch_name text) (λ e. again_steps.still_pure
    (record { fits = e; named = refl; spells = λ c. c }))
    (λ e. again_steps.still_refusal _)
still_branch_name (Numeral s n) = again_steps.still_refusal _
still_branch_name (Group s parts) = again_steps.still_refusal _

-- a name that fits is read as the name of a branch
reads_branch_name : {names : Names} {text : List ℕ} → is_branch_name text ≡ true
    → grammar.branch_name (word text) names ≡ Ok (text, names)
unfolding grammar.branch_name
reads_branch_name e = again_steps.reads_true _ _ e refl

-- the tasks of a branch and what follows are read again
record BranchTasksAgain (H : Type 0) (names all : Names) (text : Option (List ℕ)) (p : Precondition)
    (bs : List Branch) (end : Names) : Type 0 where
  first : Tasks
  others : List Branch
  is : bs ≡ grammar.make_branch text p first ∷ others
  reads : grammar.branch_tasks nowhere text (unplaced.precondition p)
      (Grow (written.tasks all first) (written.branches all others)) names
      ≡ Ok (map unplaced.branch (grammar.make_branch text p first ∷ others), end)
  spells : H → CanSpell (written.tasks all first) × CanSpellAll (written.branches all others)

-- the nodes behind the name of a branch are read again
record NamedBranchAgain (H : Type 0) (names all : Names) (text : List ℕ) (bs : List Branch) (end : Names) : Type 0
  where
    pre : Precondition
    first : Tasks
    others : List Branch
    is : bs ≡ grammar.make_branch (Some text) pre first ∷ others
    reads : grammar.named_branch nowhere text
        (Grow (written.precondition all pre) (Grow (written.tasks all first) (written.branches all others))) names
        ≡ Ok (map unplaced.branch (grammar.make_branch (Some text) pre first ∷ others), end)
    spells : H → CanSpell (written.precondition all pre)
        × (CanSpell (written.tasks all first) × CanSpellAll (written.branches all others))

-- branches are read again
abbrev BranchesAgain : Bool → Type 0 → Names → Names → List Branch → Names → Type 0
BranchesAgain is_first H names all bs end =
    again_steps.Again (grammar.branches nowhere is_first) CanSpellAll (map unplaced.branch) H names
    (written.branches all bs) bs end

-- the nodes behind the name of a branch of an axiom are read again
record NamedClauseAgain (H : Type 0) (names all : Names) (text : List ℕ) (cs : List Clause) (end : Names) : Type 0
  where
    first : Expression
    others : List Clause
    is : cs ≡ grammar.make_clause (Some text) first ∷ others
    reads : grammar.named_clause nowhere text (Grow (written.expression all first) (written.clauses all others)) names
        ≡ Ok (map unplaced.clause (grammar.make_clause (Some text) first ∷ others), end)
    spells : H → CanSpell (written.expression all first) × CanSpellAll (written.clauses all others)

-- branches of an axiom are read again
abbrev ClausesAgain : Bool → Type 0 → Names → Names → List Clause → Names → Type 0
ClausesAgain is_first H names all cs end =
    again_steps.Again (grammar.clauses nowhere is_first) CanSpellAll (map unplaced.clause) H names
    (written.clauses all cs) cs end

module _ {all : Names} where
  -- a cost is read again
  again_cost : {names : Names} (s : Span) (f : Forest)
      → again_steps.After all names
      (λ t end.
      again_steps.Again (grammar.cost nowhere) CanSpellAll unplaced.pattern (CanSpellAll f) names
      (one (written.pattern all t)) t end)
      (grammar.cost s f)
  unfolding grammar.cost grammar.term written.pattern unplaced.pattern
  again_cost s Bare = again_steps.after_pure (record { reads = refl; spells = λ c. (one_number, tt) })
  again_cost s (Grow n rest) =
      again_steps.after_chain (again_term grammar.InRule n) (λ t mid.
      again_steps.after_still (again_steps.still_ended rest) (λ x.
      again_steps.after_pure (λ u h. record {
        reads = again_steps.reads_chain _ h.again.reads refl;
        spells = λ c. (h.again.spells c.0, tt);
      })))

  -- an operator is read again
  again_operator : {names : Names} (s : Span) (rest : Forest)
      → again_steps.After all names (KeyedRuleAgain (CanSpellAll rest) names all) (grammar.operator s rest)
  unfolding grammar.keyed_rule grammar.operator grammar.effects grammar.list written.operator unplaced.rule
  again_operator s rest =
      again_steps.after_still (again_steps.still_next wants.Head (closing s) rest) (λ h.
      again_steps.after_chain (again_headed wants.Head is_primitive grammar.InRule h.0) (λ head mid.
      again_steps.after_still (again_steps.still_next wants.Pre (closing s) h.1) (λ p.
      again_steps.after_chain (again_precondition p.0) (λ pre mid'.
      again_steps.after_still (again_steps.still_next wants.Effects (closing s) p.1) (λ d.
      again_steps.after_chain (again_effects d.0) (λ dels mid''.
      again_steps.after_still (again_steps.still_next wants.Effects (closing s) d.1) (λ a.
      again_steps.after_chain (again_effects a.0) (λ adds mid'''.
      again_steps.after_chain (again_cost s a.1) (λ price end.
      again_steps.after_names (λ price' adds' a' dels' d' pre' p' head' h'. record {
        own = refl;
        key = codes ":operator";
        parts = operator_parts all head pre dels adds price;
        is = refl;
        reads =
            again_steps.reads_chain _ head'.reads (again_steps.reads_chain _ pre'.reads
            (again_steps.reads_chain _ dels'.reads
            (again_steps.reads_chain _ adds'.reads (again_steps.reads_chain _ price'.reads refl))));
        spells = λ c.
            (let ps = p' (h' c).1 in
            let ds = d' ps.1 in
            let as' = a' ds.1 in
            let behind : CanSpellAll (two (group (written.effects all adds)) (written.pattern all price)) =
            (adds'.spells as'.0, price'.spells as'.1) in
            (operator_name, (head'.spells (h' c).0, (pre'.spells ps.0, (dels'.spells ds.0, behind)))));
      }))))))))))

  mutual
    unfolding grammar.branches grammar.named_branch grammar.branch_tasks written.branches

    -- branches are read again
    again_branches : {names : Names} (end : Span) (is_first : Bool) (f : Forest)
        → again_steps.After all names (BranchesAgain is_first (CanSpellAll f) names all)
        (grammar.branches end is_first f)
    again_branches end is_first Bare =
        again_steps.after_choice is_first (λ e. again_steps.after_refusal _)
        (λ e. again_steps.after_pure (record { reads = again_steps.reads_false _ _ e refl; spells = λ c. tt }))
    again_branches {names} end is_first (Grow n rest) =
        again_steps.after_choice (grammar.begins_named n)
        (λ e. again_steps.after_still (still_branch_name n) (λ text.
        again_steps.after_so (again_named_branch end text rest) (λ bs end h k.
        subst (λ (x : List Branch). BranchesAgain is_first (CanSpellAll (Grow n rest)) names all x end) (sym h.is)
        (record {
          reads = again_steps.reads_true _ _ (k.named ∙ e) (again_steps.reads_chain _
              (reads_branch_name k.fits) h.reads);
          spells = λ c. (k.spells c.0, h.spells c.1);
        }))))
        (λ e. again_steps.after_chain (again_precondition n) (λ p mid.
        again_steps.after_so (again_branch_tasks end None p rest) (λ bs end h k.
        subst (λ (x : List Branch). BranchesAgain is_first (CanSpellAll (Grow n rest)) names all x end) (sym h.is)
        (record {
          reads = again_steps.reads_false _ _ k.unnamed (again_steps.reads_chain _ k.reads h.reads);
          spells = λ c. (k.spells c.0, h.spells c.1);
        }))))

    -- the nodes behind the name of a branch are read again
    again_named_branch : {names : Names} (end : Span) (text : List ℕ) (f : Forest)
        → again_steps.After all names (NamedBranchAgain (CanSpellAll f) names all text)
        (grammar.named_branch end text f)
    again_named_branch end text Bare = again_steps.after_refusal _
    again_named_branch end text (Grow n rest) =
        again_steps.after_chain (again_precondition n) (λ p mid.
        again_steps.after_so (again_branch_tasks end (Some text) p rest) (λ bs end h k. record {
          pre = p;
          first = h.first;
          others = h.others;
          is = h.is;
          reads = again_steps.reads_chain _ k.reads h.reads;
          spells = λ c. (k.spells c.0, h.spells c.1);
        }))

    -- the tasks of a branch and what follows are read again
    again_branch_tasks : {names : Names} (end : Span) (text : Option (List ℕ)) (p : Precondition) (f : Forest)
        → again_steps.After all names (BranchTasksAgain (CanSpellAll f) names all text p)
        (grammar.branch_tasks end text p f)
    again_branch_tasks end text p Bare = again_steps.after_refusal _
    again_branch_tasks end text p (Grow n rest) =
        again_steps.after_chain (again_tasks grammar.InRule n) (λ t mid.
        again_steps.after_chain (again_branches end false rest) (λ others end.
        again_steps.after_pure (λ k h. record {
          first = t;
          others = others;
          is = refl;
          reads = again_steps.reads_chain _ h.reads (again_steps.reads_chain _ k.reads refl);
          spells = λ c. (h.spells c.0, k.spells c.1);
        })))

  -- a method is read again
  again_method : {names : Names} (s : Span) (rest : Forest)
      → again_steps.After all names (KeyedRuleAgain (CanSpellAll rest) names all) (grammar.method s rest)
  unfolding grammar.keyed_rule grammar.method written.method unplaced.rule
  again_method s rest =
      again_steps.after_still (again_steps.still_next wants.Head (closing s) rest) (λ h.
      again_steps.after_chain (again_headed wants.Head is_compound grammar.InRule h.0) (λ head mid.
      again_steps.after_chain (again_branches (closing s) true h.1) (λ bs end.
      again_steps.after_names (λ bs' head' h'. record {
        own = refl;
        key = codes ":method";
        parts = Grow (written.atom all head) (written.branches all bs);
        is = refl;
        reads = again_steps.reads_chain _ head'.reads (again_steps.reads_chain _ bs'.reads refl);
        spells = λ c. (method_name, (head'.spells (h' c).0, bs'.spells (h' c).1));
      }))))

  mutual
    unfolding grammar.clauses grammar.named_clause written.clauses

    -- branches of an axiom are read again
    again_clauses : {names : Names} (end : Span) (is_first : Bool) (f : Forest)
        → again_steps.After all names (ClausesAgain is_first (CanSpellAll f) names all) (grammar.clauses end is_first f)
    again_clauses end is_first Bare =
        again_steps.after_choice is_first (λ e. again_steps.after_refusal _)
        (λ e. again_steps.after_pure (record { reads = again_steps.reads_false _ _ e refl; spells = λ c. tt }))
    again_clauses {names} end is_first (Grow n rest) =
        again_steps.after_choice (grammar.begins_named n)
        (λ e. again_steps.after_still (still_branch_name n) (λ text.
        again_steps.after_so (again_named_clause end text rest) (λ cs end h k.
        subst (λ (x : List Clause). ClausesAgain is_first (CanSpellAll (Grow n rest)) names all x end) (sym h.is)
        (record {
          reads = again_steps.reads_true _ _ (k.named ∙ e) (again_steps.reads_chain _
              (reads_branch_name k.fits) h.reads);
          spells = λ c. (k.spells c.0, h.spells c.1);
        }))))
        (λ e. again_steps.after_chain (again_expression n) (λ x mid.
        again_steps.after_chain (again_clauses end false rest) (λ others end.
        again_steps.after_pure (λ k h. record {
          reads =
              again_steps.reads_false _ _ (unnamed_expression (written.expression all x) h.begins)
              (again_steps.reads_chain _ h.reads (again_steps.reads_chain _ k.reads refl));
          spells = λ c. (h.spells c.0, k.spells c.1);
        }))))

    -- the nodes behind the name of a branch of an axiom are read again
    again_named_clause : {names : Names} (end : Span) (text : List ℕ) (f : Forest)
        → again_steps.After all names (NamedClauseAgain (CanSpellAll f) names all text)
        (grammar.named_clause end text f)
    again_named_clause end text Bare = again_steps.after_refusal _
    again_named_clause end text (Grow n rest) =
        again_steps.after_chain (again_expression n) (λ e mid.
        again_steps.after_chain (again_clauses end false rest) (λ others end.
        again_steps.after_pure (λ k h. record {
          first = e;
          others = others;
          is = refl;
          reads = again_steps.reads_chain _ h.reads (again_steps.reads_chain _ k.reads refl);
          spells = λ c. (h.spells c.0, k.spells c.1);
        })))

  -- an axiom is read again
  again_axiom : {names : Names} (s : Span) (rest : Forest)
      → again_steps.After all names (KeyedRuleAgain (CanSpellAll rest) names all) (grammar.axiom_rule s rest)
  unfolding grammar.keyed_rule grammar.axiom_rule written.axiom_rule unplaced.rule
  again_axiom s rest =
      again_steps.after_still (again_steps.still_next wants.Head (closing s) rest) (λ h.
      again_steps.after_chain (again_headed wants.Head is_plain grammar.InRule h.0) (λ head mid.
      again_steps.after_chain (again_clauses (closing s) true h.1) (λ cs end.
      again_steps.after_names (λ cs' head' h'. record {
        own = refl;
        key = codes ":-";
        parts = Grow (written.atom all head) (written.clauses all cs);
        is = refl;
        reads = again_steps.reads_chain _ head'.reads (again_steps.reads_chain _ cs'.reads refl);
        spells = λ c. (axiom_mark_name, (head'.spells (h' c).0, cs'.spells (h' c).1));
      }))))

  -- a rule with its name is read again
  again_keyed_rule : {names : Names} (s : Span) (key : List ℕ) (rest : Forest)
      → again_steps.After all names (KeyedRuleAgain (CanSpellAll rest) names all) (grammar.keyed_rule s key rest)
  unfolding grammar.keyed_rule
  again_keyed_rule s key rest =
      again_steps.after_choice (bytes_eq key (codes ":operator")) (λ e. again_operator s rest)
      (λ e. again_steps.after_choice (bytes_eq key (codes ":method")) (λ e. again_method s rest)
      (λ e. again_steps.after_choice (bytes_eq key (codes ":-")) (λ e. again_axiom s rest)
      (λ e. again_steps.after_refusal _)))

-- a rule is read again
pub still_rule : {names : Names} (n : Node) → again_steps.Still names (RuleAgain (CanSpell n)) (grammar.rule n)
unfolding grammar.rule
still_rule n =
    again_steps.still_begun n _ (λ key rest c.
    again_steps.after_none (λ all r end. KeyedRuleAgain (CanSpellAll rest) [] all r end) (RuleAgain (CanSpell n))
    (λ all. again_keyed_rule (span_of n) key rest)
    (λ r end h. (let again = keyed_rule_again (CanSpellAll rest) r end h in record {
      reads = again.reads;
      spells = λ k. again.spells (c k).1;
    })))
