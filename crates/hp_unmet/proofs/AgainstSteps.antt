-- What is found against a part by the nodes of a code is the satisfier that makes the part false.
use denote.Ref.{Bor}
use Rattle.std.proofs.Common.{◌≡◌, ℕ, Bool, true, false, List, [], ◌∷◌, map, Option, Some, None, option_map, slice_get, refl, sym, ap, ◌∙◌, subst}
use Rattle.std.specs.Prelude.{Vec}
use Rattle.std.specs.Global.{Global}
use Rattle.std.specs.Option.{option_and_then}
use Rattle.std.proofs.lemmas.Option.{same_Some, slice_get-map}
use Rattle.hp_syntax.specs.declared.pattern.AtomPat.{AtomPat}
use Rattle.hp_syntax.specs.declared.pattern.Ground.{Ground}
use Rattle.hp_syntax.specs.declared.pattern.Span.{Span}
use Rattle.hp_syntax.specs.Events.{State, axioms_of, events, events_of_all, finding, sat}
use Rattle.hp_syntax.specs.GroundPatterns.{atom_said}
use Rattle.hp_syntax.specs.Syntax as syntax
use Rattle.hp_syntax.specs.Terms.{Term}
use Rattle.hp_syntax.specs.Values.{Bindings}
use Rattle.hp_syntax.specs.Views.{as_expressions, atom_of}
use Rattle.hp_code.specs.CodeViews.{CodeView, rules_in}
use Rattle.hp_code.specs.Codes.{code_of}
use Rattle.hp_code.specs.Lowered.{lowered, lowered_axiom}
use Rattle.hp_code.proofs.LoweredLemmas.{axioms_lowered, sat_same}
use Rattle.hp_suspended.specs.Fitting.{AreExpressionsIn, IsExpressionAt}
use Rattle.hp_suspended.specs.Nodes.{expression_at}
use Rattle.hp_suspended.specs.Settings.{atoms_at}
use Rattle.hp_suspended.proofs.RangeLemmas.{sat_is}
use Rattle.hp_choice.specs.declared.asking.Prefix.{Prefix}
use Rattle.hp_choice.specs.declared.first.Test.{Test}
use Rattle.hp_choice.specs.declared.first.Test.TheVariants as tests
use Rattle.hp_choice.specs.declared.starting.Conjuncts.{Conjuncts}
use Rattle.hp_choice.specs.declared.starting.Start.TheVariants as starts
use Rattle.hp_choice.specs.Asking.{AreConjuncts, events_under, past}
use Rattle.hp_choice.specs.FirstSatisfier.{first_sat, first_that, values_of}
use Rattle.hp_choice.specs.Questions.{GivesFirst}
use Rattle.hp_choice.specs.Tests.{Passes, is_nothing}
use Rattle.hp_unmet.specs.Against.{against_in, against_part, leaves_none, satisfier_against}
use Rattle.hp_unmet.specs.Conjunctions.{Conjunction, first_events}
use Rattle.hp_unmet.specs.Said.{is_atom}
use Rattle.hp_unmet.specs.Trials.{CanBeTried, IsPrefix, conjunction_of, nodes_tried, rules_tried}
use Rattle.hp_unmet.specs.TrialsAgainst.{GivesAfter, met_tried}
use Rattle.hp_unmet.specs.declared.trial.Trial.{Trial}
use Rattle.hp_unmet.proofs.AnswerLemmas.{no_match}
use Rattle.hp_unmet.proofs.ExpressionNodes.{known_some, stands_alone}
use Rattle.hp_unmet.proofs.FindingLemmas.{one_part}
use Rattle.hp_unmet.proofs.LoweredParts.{parts_lowered, rules_there}
use Rattle.hp_unmet.proofs.PrefixSteps.{part_past}
use Rattle.hp_unmet.proofs.TrialLemmas.{are_after}

-- ---- an expression alone

-- a conjunction of one part meets what the part meets
alone_meets : (axioms : List syntax.Axiom) (n : ℕ) (st : State) (s : Span) (E : syntax.Expression) (e : Bindings)
    → sat axioms n st (syntax.And s (as_expressions (E ∷ []))) e ≡ sat axioms n st E e
unfolding events events_of_all
alone_meets axioms n st s E e =
    sat_is axioms n st (syntax.And s (as_expressions (E ∷ []))) e
    ∙ (one_part (atoms_at axioms n st) E e ∙ sym (sat_is axioms n st E e))

-- so it has the same first satisfier that passes a test, under bindings, if there are any
alone_under : (rules : List syntax.Rule) (n : ℕ) (st : State) (s : Span) (E : syntax.Expression)
    (passes : Bindings → Bool) (o : Option Bindings)
    → first_that passes (events_under rules n st (syntax.And s (as_expressions (E ∷ []))) o)
    ≡ option_and_then (λ e. first_that passes (sat (axioms_of rules) n st E e)) o
alone_under rules n st s E passes None = refl
alone_under rules n st s E passes (Some e) = ap (first_that passes) (alone_meets (axioms_of rules) n st s E e)

-- ---- parts that nothing can be against

module _ (rules : List syntax.Rule) (nest : ℕ) (state : State) (task : Term) (c : Conjunction) (place : ℕ) where
  none_under : (part : syntax.Expression)
      → ((e : Bindings) → satisfier_against (axioms_of rules) nest state part e ≡ None) → (o : Option Bindings)
      → None ≡ option_and_then (satisfier_against (axioms_of rules) nest state part) o
  none_under part none None = refl
  none_under part none (Some e) = sym (none e)

  -- where there is nothing against a part under any bindings there is nothing
  pub none_against : (E part : syntax.Expression) → E ≡ part
      → ((e : Bindings) → satisfier_against (axioms_of rules) nest state part e ≡ None)
      → None ≡ against_part rules nest state task c place E
  none_against E part is none =
      none_under part none _ ∙ ap (against_part rules nest state task c place) (sym is)

-- there is nothing against a part where no head matches
unmatched_at : (rules : List syntax.Rule) (nest : ℕ) (state : State) (task : Term) (place : ℕ) (c : Conjunction)
    → is_atom task ≡ false → (o : Option syntax.Expression)
    → None ≡ option_and_then (against_part rules nest state task c place) o
unmatched_at rules nest state task place c h None = refl
unmatched_at rules nest state task place c h (Some part) =
    sym (ap (λ m. option_and_then (satisfier_against (axioms_of rules) nest state part)
    (first_sat (first_events rules nest state c m place))) (no_match c task h))

-- so there is nothing against any for a task that is no atom
pub unmatched_against : (rules : List syntax.Rule) (nest : ℕ) (state : State) (task : Term) (place : ℕ)
    → is_atom task ≡ false → (o : Option Conjunction)
    → None ≡ option_and_then (against_in rules nest state task place) o
unmatched_against rules nest state task place h None = refl
unmatched_against rules nest state task place h (Some c) =
    unmatched_at rules nest state task place c h (slice_get c.parts place)

-- ---- by the nodes of a code

-- a lowered negation denies what is denied, lowered
lowered_not : (s : Span) (E : syntax.Expression) → lowered (syntax.Not s E) ≡ syntax.Not s (lowered E)
unfolding lowered
lowered_not s E = refl

-- a lowered `forall` has both its expressions, lowered, and lists no variables
lowered_forall : (s : Span) (vars : List ℕ) (y z : syntax.Expression)
    → lowered (syntax.Forall s vars y z) ≡ syntax.Forall s [] (lowered y) (lowered z)
unfolding lowered
lowered_forall s vars y z = refl

module _ (t : Trial) (can : CanBeTried t) where
  abbrev code : CodeView
  code = code_of t.code.now

  abbrev own : Conjunction
  own = conjunction_of t.asked

  abbrev rules : List syntax.Rule
  rules = rules_tried t

  -- an expression meets by the code, which holds it lowered, what it meets by the rules
  own_there : (nest : ℕ) (state : State) (E : syntax.Expression) (e : Bindings)
      → sat (axioms_of (rules_in code)) nest state (lowered E) e ≡ sat (axioms_of rules) nest state E e
  own_there nest state E e =
      let axioms_there : axioms_of (rules_in code) ≡ map lowered_axiom (axioms_of rules) =
      ap axioms_of (rules_there can.stand.others code can.stand.of)
      ∙ (axioms_lowered can.stand.others ∙ ap (map lowered_axiom) can.stand.axioms) in
      ap (λ axioms. sat axioms nest state (lowered E) e) axioms_there ∙ sat_same (axioms_of rules) nest state E e

  -- after some first parts stands the next one, lowered
  pub part_there : (p : Prefix) → IsPrefix t p → (part : syntax.Expression) → slice_get own.parts p.count ≡ Some part
      → expression_at code p.end ≡ Some (lowered part)
  part_there p is part at' =
      ap (expression_at code) is.end
      ∙ part_past code t.code.now.kept t.nodes.first t.nodes.end p.count (map lowered own.parts) (lowered part)
      can.stand.range (can.stand.parts ∙ ap Some (parts_lowered own.parts))
      (slice_get-map lowered own.parts p.count ∙ ap (option_map lowered) at')

  -- so after some first parts stands a negation, where it is the next part
  pub not_there : (p : Prefix) → IsPrefix t p → (part : syntax.Expression) → slice_get own.parts p.count ≡ Some part
      → (s : Span) (E : syntax.Expression) → part ≡ syntax.Not s E
      → expression_at code p.end ≡ Some (syntax.Not s (lowered E))
  not_there p is part at' s E same =
      part_there p is part at' ∙ ap (λ x. Some (lowered x)) same ∙ ap Some (lowered_not s E)

  -- and a `forall`, where it is that
  pub forall_there : (p : Prefix) → IsPrefix t p → (part : syntax.Expression) → slice_get own.parts p.count ≡ Some part
      → (s : Span) (vars : List ℕ) (y z : syntax.Expression) → part ≡ syntax.Forall s vars y z
      → expression_at code p.end ≡ Some (syntax.Forall s [] (lowered y) (lowered z))
  forall_there p is part at' s vars y z same =
      part_there p is part at' ∙ ap (λ x. Some (lowered x)) same ∙ ap Some (lowered_forall s vars y z)

  -- an expression alone, by its node and the index after its tree
  abbrev alone : ℕ → ℕ → Conjuncts
  alone node end = record { rule = t.nodes.rule; first = node; end = end }

  -- it may be asked for
  pub may_ask_alone : (node : ℕ) → IsExpressionAt code node → (end : ℕ) → end ≡ past code.nodes node 1
      → AreConjuncts code (alone node end)
  may_ask_alone node at' end ends =
      let E = known_some (expression_at code node) at' in
      record {
        rule = can.stand.rule;
        is = can.stand.is;
        parts =
            subst (AreExpressionsIn code node) (sym ends) (stands_alone code t.code.now.kept node E.0 E.1).range;
      }

  module _ (nest : ℕ) (state : State) where
    -- the values that a question for it gives are those under the bindings by the first parts
    pub gives_after : (p : Prefix) → IsPrefix t p → (task : Bor AtomPat) (before : Conjuncts) → before ≡ nodes_tried t p
        → (node end : ℕ) → end ≡ past code.nodes node 1 → (test : Test) (o : Option (Vec (Option Ground) Global))
        → GivesFirst code nest state (alone node end) (starts.After task before) test o
        → GivesAfter t nest state (atom_said (atom_of task.now)) p.count node test o
    gives_after p is task before same node end ends test o gives = λ E passes at' test_is.
        let said = atom_said (atom_of task.now) in
        let met = met_tried t nest state said p.count in
        let given : GivesFirst code nest state (alone node (past code.nodes node 1))
        (starts.After task (nodes_tried t p)) test o =
        subst (λ x. GivesFirst code nest state (alone node (past code.nodes node 1)) (starts.After task x) test o) same
        (subst (λ k. GivesFirst code nest state (alone node k) (starts.After task before) test o) ends gives) in
        given can.stand.rule own.span (as_expressions (E ∷ [])) met passes can.stand.is
        (stands_alone code t.code.now.kept node E at').are (are_after t can p is nest state said) test_is
        ∙ alone_under (rules_in code) nest state own.span E passes met

    module _ (task : Term) (count : ℕ) (o : Option (Vec (Option Ground) Global)) where
      -- against a negation there is the first satisfier of what it denies
      pub against_not : (s : Span) (E : syntax.Expression) (node : ℕ) → expression_at code node ≡ Some (lowered E)
          → GivesAfter t nest state task count node tests.Any o
          → option_map values_of o ≡ against_part rules nest state task own count (syntax.Not s E)
      against_not s E node at' gives =
          gives (lowered E) (λ e. true) at' (λ e. refl)
          ∙ ap (λ f. option_and_then f (met_tried t nest state task count))
          (λ i e. first_sat (own_there nest state E e i))

      -- against a `forall` there is the first satisfier of its first expression that leaves none of the second
      pub against_forall : (s : Span) (vars : List ℕ) (y z : syntax.Expression) (node body : ℕ)
          → expression_at code node ≡ Some (lowered y) → expression_at code body ≡ Some (lowered z)
          → GivesAfter t nest state task count node (tests.Nothing body) o
          → option_map values_of o ≡ against_part rules nest state task own count (syntax.Forall s vars y z)
      against_forall s vars y z node body at' body_at gives =
          let passes = leaves_none (axioms_of rules) nest state z in
          let test : Passes code nest state (tests.Nothing body) passes =
          λ E there e.
          ap (λ xs. is_nothing (finding xs)) (sym (own_there nest state z e))
          ∙ ap (λ x. is_nothing (finding (sat (axioms_of (rules_in code)) nest state x e)))
          (same_Some (lowered z) E (sym body_at ∙ there)) in
          gives (lowered y) passes at' test
          ∙ ap (λ f. option_and_then f (met_tried t nest state task count))
          (λ i e. first_that passes (own_there nest state y e i))
