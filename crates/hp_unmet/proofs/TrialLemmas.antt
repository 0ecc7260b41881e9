-- What a trial asks for by the nodes of its first parts.
use Rattle.std.proofs.Common.{◌≡◌, ℕ, ◌+◌, Bool, true, Bor, List, length, map, take, Option, Some, None, IfSome, MatchOption, option_map, refl, sym, ap, ap₂, ◌∙◌, subst, arith}
use Rattle.std.proofs.lemmas.List.{length-map}
use Rattle.std.proofs.lemmas.Option.{MatchOption-at_some, same_Some}
use Rattle.hp_choice.specs.declared.starting.Conjuncts.{Conjuncts}
use Rattle.hp_choice.specs.declared.asking.Finding.{Finding}
use Rattle.hp_choice.specs.declared.asking.Prefix.{Prefix}
use Rattle.hp_choice.specs.declared.first.Test.{Test}
use Rattle.hp_choice.specs.declared.first.Test.TheVariants as tests
use Rattle.hp_choice.specs.declared.starting.Start.TheVariants as starts
use Rattle.hp_choice.specs.Asking.{AreConjuncts, along, events_under, finding_of, past}
use Rattle.hp_choice.specs.FirstSatisfier.{first_that, values_of}
use Rattle.hp_choice.specs.Questions.{Finds, GivesFirst, GoesAlong}
use Rattle.hp_choice.specs.Starting.{AreAfter, StartsFrom, levels_from}
use Rattle.hp_choice.specs.Tests.{Passes}
use Rattle.hp_choice.proofs.AlongLaws.{along_satisfied, along_within}
use Rattle.hp_code.specs.CodeViews.{CodeView, beside, rule_nodes, rules_in}
use Rattle.hp_code.specs.Codes.{code_of}
use Rattle.hp_code.specs.Lowered.{lowered}
use Rattle.hp_suspended.specs.Fitting.{AreExpressionsIn}
use Rattle.hp_suspended.specs.Nodes.{expressions_in}
use Rattle.std.specs.Prelude.{Vec}
use Rattle.std.specs.Global.{Global}
use Rattle.hp_syntax.specs.declared.pattern.Ground.{Ground}
use Rattle.hp_syntax.specs.declared.pattern.AtomPat.{AtomPat}
use Rattle.hp_syntax.specs.GroundPatterns.{atom_said}
use Rattle.hp_syntax.specs.Events.{Satisfied, State, axioms_of, finding, sat}
use Rattle.hp_syntax.specs.Matching.{match_atom}
use Rattle.hp_syntax.specs.Syntax as syntax
use Rattle.hp_syntax.specs.Syntax.{And, Axiom, Expression}
use Rattle.hp_syntax.specs.Terms.{Term}
use Rattle.hp_syntax.specs.Values.{Bindings, unbound}
use Rattle.hp_syntax.specs.Views.{as_expressions, atom_of, expression_of}
use Rattle.hp_syntax.specs.Walk.{Node}
use Rattle.hp_unmet.specs.Clauses.{bindings_met, started_under}
use Rattle.hp_unmet.specs.Conjunctions.{Conjunction, first_events, matched, or_unbound}
use Rattle.hp_unmet.specs.Trials.{CanBeTried, IsPrefix, Starts, conjunction_of, nodes_tried, rules_tried, tried, values_tried}
use Rattle.hp_unmet.specs.declared.trial.Trial.{Trial}
use Rattle.hp_unmet.proofs.LoweredParts.{first_sat_there, first_under_there, parts_lowered, under_there}
use Rattle.hp_unmet.proofs.StartLemmas.{after_any_span, start_bindings, started_alike}
use Rattle.hp_unmet.proofs.PrefixSteps.{PrefixAt, past_all, past_more, prefix_at}

-- so many more parts than some end behind these
pub more_end : (t : Trial) (p : Prefix) → IsPrefix t p → (more : ℕ)
    → past (code_of t.code.now).nodes p.end more ≡ past (code_of t.code.now).nodes t.nodes.first (p.count + more)
more_end t p is more =
    ap (λ i. past (code_of t.code.now).nodes i more) is.end
    ∙ sym (past_more (code_of t.code.now).nodes t.nodes.first p.count more)

module _ (t : Trial) (can : CanBeTried t) where
  abbrev code : CodeView
  code = code_of t.code.now

  -- the parts, as the code holds them
  abbrev held : List Expression
  held = map lowered (conjunction_of t.asked).parts

  read : expressions_in code t.nodes.first t.nodes.end ≡ Some (as_expressions held)
  read = can.stand.parts ∙ ap Some (parts_lowered (conjunction_of t.asked).parts)

  as_many : length held ≡ length t.asked.parts.now
  as_many = length-map (conjunction_of t.asked).parts lowered ∙ length-map t.asked.parts.now expression_of

  -- all parts end where the last one does
  pub all_end : t.nodes.end ≡ past code.nodes t.nodes.first (length t.asked.parts.now)
  all_end =
      sym (past_all code t.code.now.kept t.nodes.first t.nodes.end held can.stand.range read)
      ∙ ap (past code.nodes t.nodes.first) as_many

  module _ (p : Prefix) (is : IsPrefix t p) where
    -- what is asked for with so many of the first parts
    abbrev asked : Conjuncts
    asked = nodes_tried t p

    prefix : PrefixAt code t.nodes.first t.nodes.end p.count held
    prefix =
        let l = is.within in
        prefix_at code t.code.now.kept t.nodes.first t.nodes.end p.count held can.stand.range read
        (omega (arith, as_many, l))

    -- they may be asked for
    pub may_ask : AreConjuncts code asked
    may_ask = record {
      rule = can.stand.rule;
      is = can.stand.is;
      parts = subst (AreExpressionsIn code t.nodes.first) (sym is.end) prefix.before;
    }

    module _ (nest : ℕ) (state : State) (o : Option Bindings) (starts : Starts t nest state o) where
      -- what they find by the code is found with so many of the first parts
      pub finds_first : (f : Finding) → Finds code nest state asked t.start f
          → finding_of f ≡ tried t (levels_from nest t.start) state o p.count
      finds_first f finds =
          let own = conjunction_of t.asked in
          finds can.stand.rule own.span (as_expressions (take p.count held)) o can.stand.is
          (ap (expressions_in code t.nodes.first) is.end ∙ prefix.are) (starts can.stand.rule can.stand.is)
          ∙ under_there can.stand.others code can.stand.of (rules_tried t) can.stand.axioms
          (levels_from nest t.start) state own p.count o

      -- the values that they give are those by the first satisfier of so many of the first parts that passes a test
      pub gives_that : (test : Test) (passes : Bindings → Bool) → Passes code (levels_from nest t.start) state test passes
          → (v : Option (Vec (Option Ground) Global)) → GivesFirst code nest state asked t.start test v
          → option_map values_of v ≡ first_that passes
          (first_events (rules_tried t) (levels_from nest t.start) state (conjunction_of t.asked) o p.count)
      gives_that test passes passing v gives =
          let own = conjunction_of t.asked in
          gives can.stand.rule own.span (as_expressions (take p.count held)) o passes can.stand.is
          (ap (expressions_in code t.nodes.first) is.end ∙ prefix.are) (starts can.stand.rule can.stand.is) passing
          ∙ first_under_there can.stand.others code can.stand.of (rules_tried t) can.stand.axioms
          (levels_from nest t.start) state own p.count passes o

      -- and where each one passes those by so many of the first parts
      pub gives_first : (v : Option (Vec (Option Ground) Global)) → GivesFirst code nest state asked t.start tests.Any v
          → or_unbound (option_map values_of v) ≡ values_tried t (levels_from nest t.start) state o p.count
      gives_first v gives = ap or_unbound (gives_that tests.Any (λ e. true) (λ e. refl) v gives)

    -- the bindings by their first satisfier for a task are those by so many of the first parts
    pub are_after : (nest : ℕ) (state : State) (task : Term)
        → AreAfter code nest state asked task (bindings_met (rules_tried t) nest state task (conjunction_of t.asked) p.count)
    are_after nest state task =
        let own = conjunction_of t.asked in
        after_any_span code nest state asked task can.stand.rule can.stand.is own.span
        (as_expressions (take p.count held)) (ap (expressions_in code t.nodes.first) is.end ∙ prefix.are)
        (bindings_met (rules_tried t) nest state task own p.count)
        (sym (first_sat_there can.stand.others code can.stand.of (rules_tried t) can.stand.axioms nest state own p.count
        can.stand.rule task can.stand.head can.stand.vars))

  -- all parts may be gone along
  pub may_go : AreConjuncts code t.nodes
  may_go = record { rule = can.stand.rule; is = can.stand.is; parts = can.stand.range }

  -- what holds of the rule of the parts holds of each rule of their node
  of_rule : (P : syntax.Rule → Type 0) → P can.stand.rule → (r : syntax.Rule)
      → beside t.nodes.rule (rule_nodes code) (rules_in code) ≡ Some r → P r
  of_rule P h r is = subst P (same_Some can.stand.rule r (sym can.stand.is ∙ is)) h

  -- a trial starts from some bindings, if there are any
  has_start : (nest : ℕ) (state : State) → (o : Option Bindings) × Starts t nest state o
  has_start nest state =
      let from = start_bindings code nest state can.stand.rule t.start can.start in
      (from.0, of_rule (λ r. StartsFrom code nest state r t.start from.0) from.1)

  -- from a task, a trial starts from the bindings under which the head matches it
  pub starts_by_task : (nest : ℕ) (state : State) (task : Bor AtomPat) → t.start ≡ starts.Task task
      → Starts t nest state (matched (conjunction_of t.asked) (atom_said (atom_of task.now)))
  starts_by_task nest state task is =
      let own = conjunction_of t.asked in
      let said = atom_said (atom_of task.now) in
      of_rule (λ r. StartsFrom code nest state r t.start (matched own said))
      (subst (λ s. StartsFrom code nest state can.stand.rule s (matched own said)) (sym is)
      (sym (ap₂ (λ h vs. match_atom h said (unbound (length vs))) can.stand.head can.stand.vars)))

  -- from an atom, it starts from the bindings with which the head starts from it
  pub starts_by_goal : (nest : ℕ) (state : State) (task : Bor AtomPat) (x : Conjuncts) (goal : Bor AtomPat)
      (b : Option Bindings) → AreAfter code nest state x (atom_said (atom_of task.now)) b
      → t.start ≡ starts.Goal task x goal
      → Starts t nest state (started_under (conjunction_of t.asked) (atom_of goal.now) b)
  starts_by_goal nest state task x goal b after is =
      let own = conjunction_of t.asked in
      let from = started_under own (atom_of goal.now) b in
      of_rule (λ r. StartsFrom code nest state r t.start from)
      (subst (λ s. StartsFrom code nest state can.stand.rule s from) (sym is)
      (b, after, started_alike can.stand.rule own can.stand.head can.stand.vars (atom_of goal.now) b))

  module _ (nest : ℕ) (state : State) where
    abbrev own : Conjunction
    own = conjunction_of t.asked

    abbrev levels : ℕ
    levels = levels_from nest t.start

    abbrev axioms : List Axiom
    axioms = axioms_of (rules_in code)

    -- so many of the parts, as the code holds them, are satisfied one after another
    abbrev along_held : Bindings → ℕ
    along_held = along axioms levels state held

    -- where there are bindings to start from, so many are told; where there are none, there is no answer
    counted : (o : Option Bindings) → Starts t nest state o → (p : Option Prefix)
        → GoesAlong code nest state t.nodes t.start p → option_map (λ x. x.count) p ≡ option_map along_held o
    counted o starts p goes =
        goes.count can.stand.rule held o can.stand.is read (starts can.stand.rule can.stand.is)

    none_by : (m : Option Bindings) → None ≡ option_map along_held m → m ≡ None
    none_by None e = refl
    none_by (Some b) e = absurd cc

    -- where there is no answer there are no bindings to start from
    pub goes_unmatched : (o : Option Bindings) → Starts t nest state o → GoesAlong code nest state t.nodes t.start None
        → o ≡ None
    goes_unmatched o starts goes = none_by o (counted o starts None goes)

    some_by : (n : ℕ) (m : Option Bindings) → Some n ≡ option_map along_held m
        → (b : Bindings) × (m ≡ Some b) × (n ≡ along_held b)
    some_by n None e = absurd cc
    some_by n (Some b) e = (b, refl, same_Some n (along_held b) e)

    module _ (p : Prefix) (goes : GoesAlong code nest state t.nodes t.start (Some p)) where
      bound : (o : Option Bindings) → Starts t nest state o
          → (b : Bindings) × (o ≡ Some b) × (p.count ≡ along_held b)
      bound o starts = some_by p.count o (counted o starts (Some p) goes)

      -- those that are satisfied one after another are some of the first parts
      pub goes_prefix : IsPrefix t p
      goes_prefix =
          let from = has_start nest state in
          let b = bound from.0 from.1 in
          let few = along_within axioms levels state held b.0 in
          let same = b.2 in
          record { within = omega (arith, few, same, as_many); end = goes.end }

      -- and they are satisfied together
      pub goes_met : (o : Option Bindings) → Starts t nest state o → tried t levels state o p.count ≡ Satisfied
      goes_met o starts =
          let b = bound o starts in
          sym (under_there can.stand.others code can.stand.of (rules_tried t) can.stand.axioms levels state own p.count o)
          ∙ ap (λ x. finding (events_under (rules_in code) levels state
          (And own.span (as_expressions (take p.count held))) x)) b.1
          ∙ ap (λ n. finding (sat axioms levels state (And own.span (as_expressions (take n held))) b.0)) b.2
          ∙ along_satisfied axioms levels state own.span held b.0

  module _ (nest : ℕ) where
    -- the parts are gone along in the state of the node that is reached
    abbrev pub GoesWhere : Option Node → Option Prefix → Type 0
    GoesWhere r p = MatchOption r ⊥ (λ n. GoesAlong code nest n.state t.nodes t.start p)

    -- so those told are some of the first parts
    pub prefix_where : (r : Option Node) (p : Option Prefix) → GoesWhere r p → IfSome p (IsPrefix t)
    prefix_where None p h = absurd h
    prefix_where (Some n) None h = tt
    prefix_where (Some n) (Some p) h = goes_prefix nest n.state p h

    -- which are satisfied together in that state
    pub met_where : (r : Option Node) (p : Option Prefix) → GoesWhere r p
        → IfSome p (λ x. (n : Node) → r ≡ Some n → (o : Option Bindings) → Starts t nest n.state o
        → tried t (levels_from nest t.start) n.state o x.count ≡ Satisfied)
    met_where r None h = tt
    met_where r (Some p) h = λ n at o starts. goes_met nest n.state p (MatchOption-at_some _ _ n at h) o starts

    -- and where there is no answer there are no bindings to start from
    pub unmatched_where : (r : Option Node) (p : Option Prefix) → GoesWhere r p → p ≡ None → (n : Node) → r ≡ Some n
        → (o : Option Bindings) → Starts t nest n.state o → o ≡ None
    unmatched_where r None h none n at o starts =
        goes_unmatched nest n.state o starts (MatchOption-at_some _ _ n at h)
    unmatched_where r (Some p) h none n at o starts = absurd cc
