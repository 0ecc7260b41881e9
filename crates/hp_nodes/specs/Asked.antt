-- The parts of atoms that goals ask for. Part 0 is the name, and the arguments are those behind it. Atoms are found by
-- a goal's name and its first argument that has a value when the goal is come to. So a goal asks for its name, and for
-- the arguments that may have a value, up to the first that surely has one: behind that none serves.
use Rattle.std.specs.Prelude.{ℕ, ◌+◌, ◌==◌, Bool, true, false, cond, ◌||◌, List, [], ◌∷◌, ◌++◌, Option, Some, None}
use Rattle.std.specs.List.{filter, list_any, range_with_len}
use Rattle.hp_syntax.specs.declared.pattern.Tail.{Tail}
use Rattle.hp_syntax.specs.Syntax.{Pattern, Patterns, Atom, Variable, Symbol, Number, Listing, Call, NoPattern, Before}
use Rattle.hp_nodes.specs.declared.asking.TheConstants.{LAST_PART}
use Rattle.hp_nodes.specs.Trees.{Operation, OperatorOf, MethodOf, AxiomOf, BranchOf, Holds, Assign, Laid}

-- ---- sets of numbers

-- a number is one of these
abbrev pub is_in : ℕ → List ℕ → Bool
is_in n ns = list_any (λ m. m == n) ns

-- a set of numbers is told by a test; this one has none
abbrev pub none : ℕ → Bool
none n = false

-- these numbers, and those of a set
abbrev pub also : List ℕ → (ℕ → Bool) → ℕ → Bool
also ns known n = is_in n ns || known n

-- ---- variables

abbrev pub tail_variables : Option Tail → List ℕ
tail_variables None = []
tail_variables (Some tail) = tail.var ∷ []

-- the variables of a pattern, from left to right
unfoldable mutual
  pub variables : Pattern → List ℕ
  variables (Variable s v) = v ∷ []
  variables (Symbol s name) = []
  variables (Number s n) = []
  variables (Listing s parts tail) = all_variables parts ++ tail_variables tail
  variables (Call s name args) = all_variables args

  pub all_variables : Patterns → List ℕ
  all_variables NoPattern = []
  all_variables (Before first rest) = variables first ++ all_variables rest

abbrev pub atom_variables : Atom → List ℕ
atom_variables a = all_variables a.args ++ tail_variables a.tail

-- ---- goals

-- the variables of the head of a rule, those of them that surely have a value, and those that were seen so far in its
-- branch
pub record Known : Type 0 where
  pub head : ℕ → Bool
  pub sure : ℕ → Bool
  pub seen : ℕ → Bool

-- whether a pattern is more than a variable that wasn't seen yet
abbrev pub is_known : (ℕ → Bool) → Pattern → Bool
is_known seen (Variable s v) = seen v
is_known seen _ = true

-- whether a pattern surely has a value when its goal is come to; no list counts, since it has none while a variable
-- in it is free
abbrev pub is_sure : (ℕ → Bool) → Pattern → Bool
is_sure sure (Variable s v) = sure v
is_sure sure (Listing s parts tail) = false
is_sure sure _ = true

-- the arguments that are known, up to the first that is sure, where the first of all has this number
unfoldable pub known_arguments : (ℕ → Bool) → (ℕ → Bool) → ℕ → Patterns → List ℕ
known_arguments sure seen n NoPattern = []
known_arguments sure seen n (Before first rest) =
    cond (is_known seen first) (n ∷ []) []
    ++ cond (is_sure sure first) [] (known_arguments sure (also (variables first) seen) (n + 1) rest)

-- the parts that a node asks for: a goal asks for its name and its known arguments, up to the first that is sure
abbrev pub asked_by : Operation → Known → List ℕ
asked_by (Holds a) k = 0 ∷ known_arguments k.sure k.seen 1 a.args
asked_by _ k = []

-- behind the head of a rule its variables are seen, and these are sure
abbrev pub behind_head : Atom → (ℕ → Bool) → Known
behind_head a sure = record {
  head = also (atom_variables a) none;
  sure = sure;
  seen = also (atom_variables a) none;
}

-- what is known behind a node: the variables of an operator's or a method's head are sure, since a task has no variable
-- when a rule is tried for it, and those of an axiom's head are not, since its goal may have free ones; a branch begins
-- with the variables of the head; and goals and assignments show theirs
abbrev pub behind : Operation → Known → Known
behind (OperatorOf a) k = behind_head a (also (atom_variables a) none)
behind (MethodOf a) k = behind_head a (also (atom_variables a) none)
behind (AxiomOf a) k = behind_head a none
behind (BranchOf name) k = record { head = k.head; sure = k.sure; seen = k.head }
behind (Holds a) k = record { head = k.head; sure = k.sure; seen = also (atom_variables a) k.seen }
behind (Assign v value) k = record { head = k.head; sure = k.sure; seen = also (v ∷ []) k.seen }
behind _ k = k

-- the parts that nodes ask for, as often as they do
unfoldable pub all_asked : Known → List Laid → List ℕ
all_asked k [] = []
all_asked k (n ∷ ns) = asked_by n.op k ++ all_asked (behind n.op k) ns

-- before the first rule nothing is known
abbrev pub nothing_known : Known
nothing_known = record { head = none; sure = none; seen = none }

-- the parts that nodes ask for, each once, in order, as far as indexes are kept
abbrev pub asked_parts : List Laid → List ℕ
asked_parts nodes = filter (λ n. is_in n (all_asked nothing_known nodes)) (range_with_len 0 (LAST_PART + 1))
