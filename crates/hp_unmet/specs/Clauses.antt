-- What of a branch of an axiom is satisfied, where the head of the axiom starts from an atom of a precondition.
use Rattle.std.specs.Prelude.{ℕ, ◌-◌, List, [], length, slice_get, Option, None, Some, option_map, Result, Ok, Err}
use Rattle.std.specs.Option.{option_and_then}
use Rattle.hp_syntax.specs.declared.fault.RunFault.{RunFault}
use Rattle.hp_syntax.specs.Events.{State}
use Rattle.hp_syntax.specs.Goals.{Goal, fill_goal, start_goal}
use Rattle.hp_syntax.specs.Syntax as syntax
use Rattle.hp_syntax.specs.Terms.{Term}
use Rattle.hp_syntax.specs.Values.{Bindings, unbound}
use Rattle.hp_syntax.specs.Views.{atom_of}
use Rattle.hp_choice.specs.FirstSatisfier.{first_sat}
use Rattle.hp_unmet.specs.Conjunctions.{Conjunction, answer_where, asked_in, first_events, matched, values_where}
use Rattle.hp_unmet.specs.Trials.{conjunction_of}
use Rattle.hp_unmet.specs.declared.clauses.Clause as made
use Rattle.hp_unmet.specs.declared.unmet.Unmet.{Unmet}
use Rattle.hp_unmet.specs.declared.unmet.Unmet.TheVariants as unmets

-- ---- a branch that is asked for

-- the atom that a part is
abbrev pub atom_in : syntax.Expression → Option syntax.Atom
atom_in (syntax.Holds s a) = Some a
atom_in (syntax.And s parts) = None
atom_in (syntax.Or s parts) = None
atom_in (syntax.Not s part) = None
atom_in (syntax.Forall s vars range body) = None
atom_in (syntax.Assign s v value) = None
atom_in (syntax.Test s call) = None

-- the atom that stands at a place
abbrev pub atom_at : Conjunction → ℕ → Option syntax.Atom
atom_at c place = option_and_then atom_in (slice_get c.parts place)

-- the parts of a branch, the parts that ask for it, and the atom among these from which its head may start
pub record Clause : Type 0 where
  pub own : Conjunction
  pub asking : Conjunction
  pub atom : syntax.Atom

abbrev pub clause_for : ℕ → Conjunction → Conjunction → Option Clause
clause_for place asking own =
    option_map (λ a. record { own = own; asking = asking; atom = a }) (atom_at asking place)

abbrev pub clause_by : ℕ → Option Conjunction → Conjunction → Option Clause
clause_by place own asking = option_and_then (clause_for place asking) own

-- that of a rule and a branch, for the atom at a place of the precondition of another one; none where no atom stands
-- there, or there is no such branch
abbrev pub clause_at : List syntax.Rule → ℕ → ℕ → ℕ → ℕ → ℕ → Option Clause
clause_at rules asking_rule asking_branch place rule branch =
    option_and_then (clause_by place (asked_in rules rule branch)) (asked_in rules asking_rule asking_branch)

-- ---- what is satisfied of it

-- the bindings with which the head of a rule starts from an atom as it is filled
abbrev pub started_by : Conjunction → Result Goal RunFault → Option Bindings
started_by c (Err f) = None
started_by c (Ok q) = start_goal c.head q (unbound (length c.vars))

-- and from an atom that is to be filled under bindings, if there are any
abbrev pub started_under : Conjunction → syntax.Atom → Option Bindings → Option Bindings
started_under c a None = None
started_under c a (Some e) = started_by c (fill_goal a e)

module _ (rules : List syntax.Rule) (nest : ℕ) (state : State) (task : Term) where
  -- the bindings by the first satisfier of so many of the first parts together
  abbrev pub bindings_met : Conjunction → ℕ → Option Bindings
  bindings_met c n = first_sat (first_events rules nest state c (matched c task) n)

  -- those with which a branch's head starts: the atom is filled under the bindings by the parts before it
  abbrev pub start_of : ℕ → Clause → Option Bindings
  start_of place x = started_under x.own x.atom (bindings_met x.asking place)

  -- its parts are asked for one axiom level further down
  abbrev pub clause_answer : ℕ → Option Clause → Unmet
  clause_answer place None = unmets.None
  clause_answer place (Some x) = answer_where rules (nest - 1) state x.own (start_of place x)

  abbrev pub values_by : ℕ → Unmet → Option Clause → Bindings
  values_by place u None = []
  values_by place u (Some x) = values_where rules (nest - 1) state x.own (start_of place x) u

-- what of a branch is satisfied in a state, where its head starts from that atom
abbrev pub clause_unmet : List syntax.Rule → ℕ → State → Term → ℕ → ℕ → ℕ → ℕ → ℕ → Unmet
clause_unmet rules nest state task asking_rule asking_branch place rule branch =
    clause_answer rules nest state task place (clause_at rules asking_rule asking_branch place rule branch)

-- the values of the variables of its rule by the parts that are met
abbrev pub clause_values : List syntax.Rule → ℕ → State → Term → ℕ → ℕ → ℕ → ℕ → ℕ → Unmet → Bindings
clause_values rules nest state task asking_rule asking_branch place rule branch u =
    values_by rules nest state task place u (clause_at rules asking_rule asking_branch place rule branch)

-- ---- as it is kept

abbrev pub clause_of : made.Clause → Clause
clause_of x = record {
  own = conjunction_of x.own;
  asking = conjunction_of x.asking;
  atom = atom_of x.atom.now;
}
