-- What the checks and the form let through in a problem holds no variable and no call, and has as its value what it
-- says.
use Rattle.std.proofs.Common.{◌≡◌, ℕ, ◌≤◌, [], Option, Some, None, Ok, refl, ap, ◌∙◌, arith}
use Rattle.std.proofs.lemmas.Bool.{le-ltb}
use Rattle.hp_syntax.specs.declared.limits.TheConstants.{DEEPEST_TERM}
use Rattle.hp_syntax.specs.declared.pattern.Span.{Span}
use Rattle.hp_syntax.specs.declared.pattern.Tail.{Tail}
use Rattle.hp_syntax.specs.Checks.{InProblem, pattern_faults, patterns_faults, tail_faults, atom_faults, tasks_faults, task_list_faults, pair_faults}
use Rattle.hp_syntax.specs.GroundPatterns.{IsGroundPattern, AreGroundPatterns, IsGroundAtom, AreGroundTasks, IsGroundTaskList, IsGroundPair, term_said, terms_said, network_said, networks_said}
use Rattle.hp_syntax.specs.Networks.{tasks_value, task_list_value}
use Rattle.hp_syntax.specs.Networks as networks
use Rattle.hp_syntax.specs.Syntax as syntax
use Rattle.hp_syntax.specs.Terms.{Terms, Listed, NoTerm, term_nesting, deepest}
use Rattle.hp_syntax.specs.Values.{Bindings, on_ok, value, values, tail_value, list_of}
use Rattle.hp_laws.specs.Plain.{IsCallFree, AreCallFree, IsPlainAtom, ArePlainTasks, IsPlainTaskList, IsPlainPair}
use Rattle.hp_laws.specs.Sayings.{SaysItself, PairSaysItself}
use Rattle.hp_laws.proofs.FaultLemmas.{both_empty, each_empty}

-- a list that doesn't nest too deep is the list of its parts
list_made : (s : Span) (ts : Terms) → term_nesting (Listed ts) ≤ DEEPEST_TERM → list_of s ts ≡ Ok (Listed ts)
list_made s ts l = rw (le-ltb DEEPEST_TERM (term_nesting (Listed ts)) l) refl

-- where no variable is found as a tail no terms stand behind the parts
no_tail : (tail : Option Tail) (e : Bindings) → tail_faults InProblem tail ≡ [] → tail_value tail e ≡ Ok NoTerm
no_tail None e f = refl
no_tail (Some t) e f = absurd cc

mutual
  unfolding value values term_said terms_said pattern_faults patterns_faults

  -- the value of a pattern is what it says
  value_said : (p : syntax.Pattern) (e : Bindings) → IsCallFree p → pattern_faults InProblem p ≡ []
      → term_nesting (term_said p) ≤ DEEPEST_TERM → value p e ≡ Ok (term_said p)
  value_said (syntax.Variable s v) e c f l = absurd cc
  value_said (syntax.Symbol s name) e c f l = refl
  value_said (syntax.Number s n) e c f l = refl
  value_said (syntax.Listing s ps tail) e c f l =
      let b = both_empty (patterns_faults InProblem ps) (tail_faults InProblem tail) f in
      ap (λ r. on_ok r (list_of s)) (values_said ps tail e c b.0 b.1 (omega arith))
      ∙ list_made s (terms_said ps) l
  value_said (syntax.Call s name args) e c f l = absurd c

  -- the values of patterns are what they say
  values_said : (ps : syntax.Patterns) (tail : Option Tail) (e : Bindings) → AreCallFree ps
      → patterns_faults InProblem ps ≡ [] → tail_faults InProblem tail ≡ [] → deepest (terms_said ps) ≤ DEEPEST_TERM
      → values ps tail e ≡ Ok (terms_said ps)
  values_said syntax.NoPattern tail e c f g l = no_tail tail e g
  values_said (syntax.Before p ps) tail e c f g l =
      let b = both_empty (pattern_faults InProblem p) (patterns_faults InProblem ps) f in
      rw (value_said p e c.0 b.0 (omega arith)) (rw (values_said ps tail e c.1 b.1 g (omega arith)) refl)

-- the value of an atom is what it says
pub atom_says_itself : (a : syntax.Atom) → atom_faults InProblem a ≡ [] → IsPlainAtom DEEPEST_TERM a → SaysItself a
atom_says_itself a f h =
    let b = both_empty (patterns_faults InProblem a.args) (tail_faults InProblem a.tail) f in
    let l = h.shallow in
    rw (values_said a.args a.tail [] h.call_free b.0 b.1 (omega arith)) (list_made a.span _ l)

mutual
  unfolding tasks_value task_list_value network_said networks_said tasks_faults task_list_faults

  -- the value of tasks is the network that they say
  tasks_say : (t : syntax.Tasks) → tasks_faults InProblem t ≡ [] → ArePlainTasks DEEPEST_TERM t
      → tasks_value t [] ≡ Ok (network_said t)
  tasks_say (syntax.Task a i) f h = ap (λ r. on_ok r (λ t. Ok (networks.Task t i))) (atom_says_itself a f h)
  tasks_say (syntax.Ordered ts) f h = ap (λ r. on_ok r (λ ns. Ok (networks.Ordered ns))) (task_list_says ts f h)
  tasks_say (syntax.Unordered ts) f h = ap (λ r. on_ok r (λ ns. Ok (networks.Unordered ns))) (task_list_says ts f h)

  -- the value of tasks in a list is the networks that they say
  task_list_says : (ts : syntax.TaskList) → task_list_faults InProblem ts ≡ [] → IsPlainTaskList DEEPEST_TERM ts
      → task_list_value ts [] ≡ Ok (networks_said ts)
  task_list_says syntax.NoTasks f h = refl
  task_list_says (syntax.Then t ts) f h =
      let b = both_empty (tasks_faults InProblem t) (task_list_faults InProblem ts) f in
      rw (tasks_say t b.0 h.0) (rw (task_list_says ts b.1 h.1) refl)

-- the values of a plain pair without faults are what they say
pub plain_says_itself : (p : syntax.Pair) → pair_faults p ≡ [] → IsPlainPair DEEPEST_TERM p → PairSaysItself p
plain_says_itself p f h =
    let b = both_empty _ (tasks_faults InProblem p.tasks) f in
    let a = each_empty (atom_faults InProblem) p.state b.0 in
    record {
      state = λ k d l. atom_says_itself _ (a k d l) (h.state k d l);
      tasks = tasks_say p.tasks b.1 h.tasks;
    }

-- ---- what holds no variable and no call

-- where no variable is found as a tail there is no tail
tail_is_none : (tail : Option Tail) → tail_faults InProblem tail ≡ [] → tail ≡ None
tail_is_none None f = refl
tail_is_none (Some t) f = absurd cc

mutual
  unfolding pattern_faults patterns_faults

  -- a pattern without calls in which no variable is found is ground
  pattern_is_ground : (p : syntax.Pattern) → IsCallFree p → pattern_faults InProblem p ≡ [] → IsGroundPattern p
  pattern_is_ground (syntax.Variable s v) c f = absurd cc
  pattern_is_ground (syntax.Symbol s name) c f = tt
  pattern_is_ground (syntax.Number s n) c f = tt
  pattern_is_ground (syntax.Listing s ps tail) c f =
      let b = both_empty (patterns_faults InProblem ps) (tail_faults InProblem tail) f in
      (patterns_are_ground ps c b.0, tail_is_none tail b.1)
  pattern_is_ground (syntax.Call s name args) c f = absurd c

  -- patterns without calls in which no variable is found are ground
  patterns_are_ground : (ps : syntax.Patterns) → AreCallFree ps → patterns_faults InProblem ps ≡ []
      → AreGroundPatterns ps
  patterns_are_ground syntax.NoPattern c f = tt
  patterns_are_ground (syntax.Before p ps) c f =
      let b = both_empty (pattern_faults InProblem p) (patterns_faults InProblem ps) f in
      (pattern_is_ground p c.0 b.0, patterns_are_ground ps c.1 b.1)

-- an atom without calls in which no variable is found is ground
atom_is_ground : {most : ℕ} (a : syntax.Atom) → atom_faults InProblem a ≡ [] → IsPlainAtom most a → IsGroundAtom a
atom_is_ground a f h =
    let b = both_empty (patterns_faults InProblem a.args) (tail_faults InProblem a.tail) f in
    record { args = patterns_are_ground a.args h.call_free b.0; tail = tail_is_none a.tail b.1 }

mutual
  unfolding tasks_faults task_list_faults

  -- plain tasks in which no variable is found are ground
  tasks_are_ground : (most : ℕ) (t : syntax.Tasks) → tasks_faults InProblem t ≡ [] → ArePlainTasks most t
      → AreGroundTasks t
  tasks_are_ground most (syntax.Task a i) f h = atom_is_ground a f h
  tasks_are_ground most (syntax.Ordered ts) f h = task_list_is_ground most ts f h
  tasks_are_ground most (syntax.Unordered ts) f h = task_list_is_ground most ts f h

  -- a list of plain tasks in which no variable is found is ground
  task_list_is_ground : (most : ℕ) (ts : syntax.TaskList) → task_list_faults InProblem ts ≡ [] → IsPlainTaskList most ts
      → IsGroundTaskList ts
  task_list_is_ground most syntax.NoTasks f h = tt
  task_list_is_ground most (syntax.Then t ts) f h =
      let b = both_empty (tasks_faults InProblem t) (task_list_faults InProblem ts) f in
      (tasks_are_ground most t b.0 h.0, task_list_is_ground most ts b.1 h.1)

-- a plain pair without faults is ground
pub plain_is_ground : {most : ℕ} (p : syntax.Pair) → pair_faults p ≡ [] → IsPlainPair most p → IsGroundPair p
plain_is_ground {most} p f h =
    let b = both_empty _ (tasks_faults InProblem p.tasks) f in
    let a = each_empty (atom_faults InProblem) p.state b.0 in
    record {
      state = λ k d l. atom_is_ground _ (a k d l) (h.state k d l);
      tasks = tasks_are_ground most p.tasks b.1 h.tasks;
    }
