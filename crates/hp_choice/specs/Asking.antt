-- What parts of a conjunction find for a task in a state, and how many of the first are satisfied one after another, by
-- the head of their rule.
use Rattle.std.specs.Prelude.{◌≡◌, ℕ, zero, suc, Bool, true, false, cond, List, [], ◌∷◌, length, slice_get, Option, None, Some}
use Rattle.hp_syntax.specs.Events as plain
use Rattle.hp_syntax.specs.Events.{Event, State, axioms_of, finding, finding_with, sat}
use Rattle.hp_syntax.specs.Matching.{match_atom}
use Rattle.hp_syntax.specs.Syntax.{Atom, Axiom, Expression, Rule, Does, Refines, Concludes}
use Rattle.hp_syntax.specs.Terms.{Term}
use Rattle.hp_syntax.specs.Values.{Bindings, unbound}
use Rattle.hp_nodes.specs.Compiled.{vars_of}
use Rattle.hp_nodes.specs.Trees.{Laid}
use Rattle.hp_code.specs.CodeViews.{CodeView, beside, rule_nodes, rules_in}
use Rattle.hp_suspended.specs.Fitting.{AreExpressionsIn}
use Rattle.hp_choice.specs.declared.starting.Conjuncts.{Conjuncts}
use Rattle.hp_choice.specs.declared.asking.Finding.{Finding}
use Rattle.hp_choice.specs.declared.asking.Finding.TheVariants as findings

-- what events come to, as it is told
abbrev pub finding_of : Finding → plain.Finding
finding_of findings.Satisfied = plain.Satisfied
finding_of (findings.Faulty f) = plain.Faulty f
finding_of findings.Undecided = plain.Undecided
finding_of findings.Nothing = plain.Nothing

-- what events come to, where there may be a cut before them
abbrev pub behind : Bool → plain.Finding → plain.Finding
behind false x = x
behind true x = finding_with plain.Cut x

-- the head of a rule
abbrev pub head_of : Rule → Atom
head_of (Does o) = o.head
head_of (Refines m) = m.head
head_of (Concludes x) = x.head

module _ (rules : List Rule) (nest : ℕ) (st : State) where
  -- what an expression meets under bindings, and nothing where there are none
  abbrev pub events_under : Expression → Option Bindings → List Event
  events_under E None = []
  events_under E (Some e) = sat (axioms_of rules) nest st E e

  -- what it meets where the head of a rule matches a task
  abbrev pub asked_events : Rule → Expression → Term → List Event
  asked_events r E t = events_under E (match_atom (head_of r) t (unbound (length (vars_of r))))

-- they are parts by the nodes of a code, below some rule's
pub record AreConjuncts (c : CodeView) (x : Conjuncts) : Type 0 where
  pub rule : Rule
  pub is : beside x.rule (rule_nodes c) (rules_in c) ≡ Some rule
  pub parts : AreExpressionsIn c x.first x.end

-- ---- parts that are satisfied one after another

-- where the first event is a satisfier, one more than is counted under its bindings; else none
abbrev pub along_by : List Event → (Bindings → ℕ) → ℕ
along_by [] rest = 0
along_by (plain.Sat e ∷ more) rest = suc (rest e)
along_by (plain.Cut ∷ more) rest = 0
along_by (plain.Fault f ∷ more) rest = 0

-- how many of the first parts are satisfied one after another, each by its first event under the bindings that the one
-- before gave
abbrev pub along : List Axiom → ℕ → State → List Expression → Bindings → ℕ
along axioms nest st [] e = 0
along axioms nest st (p ∷ ps) e = along_by (sat axioms nest st p e) (along axioms nest st ps)

-- where the first of events is a satisfier that gives these bindings, one more is counted than under them; else none
abbrev pub GoesBy : Bool → Bindings → List Event → Type 0
GoesBy first e events = (rest : Bindings → ℕ) → along_by events rest ≡ cond first (suc (rest e)) 0

-- the index behind the tree of a node; where there is no node, the index itself
abbrev pub next_tree : Option Laid → ℕ → ℕ
next_tree None i = i
next_tree (Some l) i = l.to

-- the index past so many trees from one on, as far as there are nodes
abbrev pub past : List Laid → ℕ → ℕ → ℕ
past nodes i zero = i
past nodes i (suc n) = past nodes (next_tree (slice_get nodes i) i) n
