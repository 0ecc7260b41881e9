-- Atoms that are asked for, and atoms that hold at first, are added or are concluded.
use Rattle.std.specs.Prelude.{ℕ, Bool, not, ◌&&◌, cond, List, [], ◌∷◌, ◌++◌, Some, bytes_eq, codes}
use Rattle.std.specs.List.{list_any, flat_map}
use Rattle.hp_syntax.specs.Syntax as syntax
use Rattle.hp_lint.specs.declared.report.Concern.{Concern}
use Rattle.hp_lint.specs.declared.report.Concern.TheVariants.{NothingGives, NamedLikeCall}
use Rattle.hp_lint.specs.Remarked.{Remark, in_domain}

-- ---- what is asked for

-- the atoms of an expression, those that aren't to hold too
unfoldable mutual
  pub asked_in : syntax.Expression → List syntax.Atom
  asked_in (syntax.Holds s a) = a ∷ []
  asked_in (syntax.And s parts) = asked_in_each parts
  asked_in (syntax.Or s parts) = asked_in_each parts
  asked_in (syntax.Not s part) = asked_in part
  asked_in (syntax.Forall s vars range body) = asked_in range ++ asked_in body
  asked_in (syntax.Assign s v value) = []
  asked_in (syntax.Test s call) = []

  pub asked_in_each : syntax.Expressions → List syntax.Atom
  asked_in_each syntax.NoExpression = []
  asked_in_each (syntax.Also e es) = asked_in e ++ asked_in_each es

abbrev pub asked_before : syntax.Precondition → List syntax.Atom
asked_before (syntax.Plain e) = asked_in e
asked_before (syntax.First e) = asked_in e
asked_before (syntax.Sorted key e) = asked_in e

abbrev pub asked_for : syntax.Effect → List syntax.Atom
asked_for (syntax.Change a) = []
asked_for (syntax.Protection a) = []
asked_for (syntax.Each vars e atoms) = asked_in e

abbrev pub asked_by_branch : syntax.Branch → List syntax.Atom
asked_by_branch b = asked_before b.pre

abbrev pub asked_by_clause : syntax.Clause → List syntax.Atom
asked_by_clause c = asked_in c.body

abbrev pub asked_by : syntax.Rule → List syntax.Atom
asked_by (syntax.Does o) = asked_before o.pre ++ flat_map asked_for o.dels ++ flat_map asked_for o.adds
asked_by (syntax.Refines m) = flat_map asked_by_branch m.branches
asked_by (syntax.Concludes x) = flat_map asked_by_clause x.clauses

-- ---- what is given

abbrev pub added_by : syntax.Effect → List syntax.Atom
added_by (syntax.Change a) = a ∷ []
added_by (syntax.Protection a) = []
added_by (syntax.Each vars e atoms) = atoms

abbrev pub given_by : syntax.Rule → List syntax.Atom
given_by (syntax.Does o) = flat_map added_by o.adds
given_by (syntax.Refines m) = []
given_by (syntax.Concludes x) = x.head ∷ []

abbrev pub given_by_pair : syntax.Pair → List syntax.Atom
given_by_pair q = q.state

-- what a rule adds or concludes, and what holds at first in any pair
abbrev pub given : syntax.Domain → syntax.Problem → List syntax.Atom
given d p = flat_map given_by d.rules ++ flat_map given_by_pair p.pairs

-- ---- remarks

-- names of calls here, in JSHOP2 and in Lisp
abbrev pub call_names : List (List ℕ)
call_names =
    codes "+" ∷ codes "-" ∷ codes "*" ∷ codes "/" ∷ codes "^" ∷ codes "<" ∷ codes "<=" ∷ codes ">" ∷ codes ">=" ∷ codes "="
    ∷ codes "!=" ∷ codes "==" ∷ codes "/=" ∷ codes "<>" ∷ codes "mod" ∷ codes "min" ∷ codes "max" ∷ codes "abs"
    ∷ codes "member" ∷ codes "eval" ∷ codes "setof" ∷ codes "eq" ∷ codes "eql" ∷ codes "equal" ∷ codes "expt"
    ∷ codes "sqrt" ∷ codes "rem" ∷ codes "floor" ∷ codes "ceiling" ∷ codes "round" ∷ codes "1+" ∷ codes "1-"
    ∷ codes "length" ∷ codes "null" ∷ codes "evenp" ∷ codes "oddp" ∷ codes "zerop" ∷ codes "plusp" ∷ codes "minusp" ∷ []

abbrev pub is_named_like_call : List ℕ → Bool
is_named_like_call name = list_any (bytes_eq name) call_names

-- whether one of the atoms has the name
abbrev pub has_name : List syntax.Atom → List ℕ → Bool
has_name atoms name = list_any (λ a. bytes_eq name a.name) atoms

-- what is doubtful of an atom that nothing gives: a call without its word is told as such, where nothing has its name
abbrev pub doubt : (List ℕ → Bool) → List ℕ → Concern
doubt is_given_name name = cond (is_named_like_call name && not (is_given_name name)) NamedLikeCall NothingGives

abbrev pub on_asked : (syntax.Atom → Bool) → (List ℕ → Bool) → syntax.Atom → List Remark
on_asked is_given is_given_name a = cond (is_given a) [] (in_domain (doubt is_given_name a.name) a.span (Some a.name))
