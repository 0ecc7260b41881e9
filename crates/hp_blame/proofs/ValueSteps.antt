-- The values by the first satisfier of some first parts with which valuing a pattern is a fault.
use Rattle.std.proofs.Common.{◌≡◌, ℕ, List, min, length, Bor, Option, Some, None, option_map, refl, sym, ap, ◌∙◌}
use Rattle.std.specs.Prelude.{Vec}
use Rattle.std.specs.Global.{Global}
use Rattle.std.proofs.lemmas.List.{length-map, take_min}
use Rattle.hp_code.specs.Codes.{code_of}
use Rattle.hp_choice.specs.declared.asking.Prefix.{Prefix}
use Rattle.hp_choice.specs.declared.first.Test.TheVariants as tests
use Rattle.hp_choice.specs.declared.starting.Start.TheVariants as starts
use Rattle.hp_choice.specs.FirstSatisfier.{first_that, values_of}
use Rattle.hp_choice.specs.Questions.{GivesFirst}
use Rattle.hp_choice.specs.Starting.{levels_from}
use Rattle.hp_syntax.specs.declared.fault.RunFault.{RunFault}
use Rattle.hp_syntax.specs.declared.pattern.AtomPat.{AtomPat}
use Rattle.hp_syntax.specs.declared.pattern.Ground.{Ground}
use Rattle.hp_syntax.specs.declared.pattern.Pat.{Pat}
use Rattle.hp_syntax.specs.Events.{State, axioms_of}
use Rattle.hp_syntax.specs.GroundPatterns.{atom_said}
use Rattle.hp_syntax.specs.Preconditions.{precondition_events}
use Rattle.hp_syntax.specs.Syntax as syntax
use Rattle.hp_syntax.specs.Values.{Bindings}
use Rattle.hp_syntax.specs.Views.{as_expressions, atom_of, expression_of, pattern_of}
use Rattle.hp_unmet.specs.Conjunctions.{Conjunction, first_events, matched}
use Rattle.hp_unmet.specs.Trials.{CanBeTried, IsPrefix, conjunction_of, nodes_tried, rules_tried}
use Rattle.hp_unmet.specs.declared.trial.Trial.{Trial}
use Rattle.hp_unmet.proofs.TrialLemmas.{gives_that, starts_by_task}
use Rattle.hp_blame.specs.Blames.{has_fault, values_by}
use Rattle.hp_blame.specs.Sites.{Site}

-- as many of the first parts as there are, at most so many, meet what so many do
few_events : (rules : List syntax.Rule) (nest : ℕ) (s : State) (c : Conjunction) (o : Option Bindings) (n : ℕ)
    → first_events rules nest s c o (min n (length c.parts)) ≡ first_events rules nest s c o n
few_events rules nest s c None n = refl
few_events rules nest s c (Some e) n =
    ap
    (λ ps. precondition_events (axioms_of rules) nest s (syntax.Plain (syntax.And c.span (as_expressions ps))) e)
    (take_min n c.parts)

-- what a walk gives for the parts before a pattern are the values by them
pub gives_values : (t : Trial) (can : CanBeTried t) (p : Prefix) (is : IsPrefix t p) (nest : ℕ) (s : State)
    (task : Bor AtomPat) (own : Bor Pat) (f : RunFault) (x : Site) → t.start ≡ starts.Task task
    → x.pattern ≡ pattern_of own.now → p.count ≡ min x.before (length t.asked.parts.now)
    → (o : Option (Vec (Option Ground) Global))
    → GivesFirst (code_of t.code.now) nest s (nodes_tried t p) t.start (tests.Fault own f) o
    → option_map values_of o
    ≡ values_by (rules_tried t) f nest s (atom_said (atom_of task.now)) (conjunction_of t.asked) x
gives_values t can p is nest s task own f x start same count o gives =
    let rules = rules_tried t in
    let c = conjunction_of t.asked in
    let m = matched c (atom_said (atom_of task.now)) in
    let few : p.count ≡ min x.before (length c.parts) =
    count ∙ ap (min x.before) (sym (length-map t.asked.parts.now expression_of)) in
    gives_that t can p is nest s m (starts_by_task t can nest s task start) (tests.Fault own f)
    (has_fault f (pattern_of own.now)) (λ e. refl) o gives
    ∙ (ap (λ k. first_that (has_fault f (pattern_of own.now)) (first_events rules k s c m p.count))
    (ap (levels_from nest) start)
    ∙ (ap (λ n. first_that (has_fault f (pattern_of own.now)) (first_events rules nest s c m n)) few
    ∙ (ap (first_that (has_fault f (pattern_of own.now))) (few_events rules nest s c m x.before)
    ∙ ap (λ q. first_that (has_fault f q) (first_events rules nest s c m x.before)) (sym same))))
