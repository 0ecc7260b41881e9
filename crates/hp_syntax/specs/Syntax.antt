-- Domains and problems as they are written: what a public value says, apart from how it lies in memory.
use Rattle.std.specs.Prelude.{ℕ, Bool, ℤ, List, Option}
use Rattle.hp_syntax.specs.declared.pattern.Span.{Span}
use Rattle.hp_syntax.specs.declared.pattern.Tail.{Tail}

-- a pattern is a term of a rule: a variable by its number, a symbol, a number, a list, or a call
mutual
  pub data Pattern : Type 0 where
    Variable : (span : Span) → (v : ℕ) → Pattern
    Symbol : (span : Span) → (name : List ℕ) → Pattern
    Number : (span : Span) → (n : ℤ) → Pattern
    Listing : (span : Span) → (parts : Patterns) → (tail : Option Tail) → Pattern
    Call : (span : Span) → (name : List ℕ) → (args : Patterns) → Pattern

  pub data Patterns : Type 0 where
    NoPattern : Patterns
    Before : (first : Pattern) → (rest : Patterns) → Patterns

pub record Atom : Type 0 where
  pub span : Span
  pub name : List ℕ
  pub args : Patterns
  pub tail : Option Tail

-- a logical expression
mutual
  pub data Expression : Type 0 where
    Holds : (span : Span) → (atom : Atom) → Expression
    And : (span : Span) → (parts : Expressions) → Expression
    Or : (span : Span) → (parts : Expressions) → Expression
    Not : (span : Span) → (part : Expression) → Expression
    Forall : (span : Span) → (vars : List ℕ) → (range body : Expression) → Expression
    Assign : (span : Span) → (v : ℕ) → (value : Pattern) → Expression
    Test : (span : Span) → (call : Pattern) → Expression

  pub data Expressions : Type 0 where
    NoExpression : Expressions
    Also : (first : Expression) → (rest : Expressions) → Expressions

-- by which order satisfiers are sorted; a name that is no order is kept with its span
pub data Order : Type 0 where
  Up : Order
  Down : Order
  Unknown : (name : List ℕ) → (span : Span) → Order

pub record Key : Type 0 where
  pub span : Span
  pub var : ℕ
  pub order : Order

-- all satisfiers of an expression, the first alone, or all in the order of a variable
pub data Precondition : Type 0 where
  Plain : (e : Expression) → Precondition
  First : (e : Expression) → Precondition
  Sorted : (key : Key) → (e : Expression) → Precondition

-- a task, or a list of them
mutual
  pub data Tasks : Type 0 where
    Task : (atom : Atom) → (immediate : Bool) → Tasks
    Ordered : (parts : TaskList) → Tasks
    Unordered : (parts : TaskList) → Tasks

  pub data TaskList : Type 0 where
    NoTasks : TaskList
    Then : (first : Tasks) → (rest : TaskList) → TaskList

-- an effect of an operator: an atom that it deletes or adds, a protection, or such atoms for each satisfier
pub data Effect : Type 0 where
  Change : (atom : Atom) → Effect
  Protection : (atom : Atom) → Effect
  Each : (vars : List ℕ) → (e : Expression) → (atoms : List Atom) → Effect

pub record Operator : Type 0 where
  pub span : Span
  pub vars : List (List ℕ)
  pub head : Atom
  pub pre : Precondition
  pub dels : List Effect
  pub adds : List Effect
  pub cost : Pattern

-- a branch of a method
pub record Branch : Type 0 where
  pub name : Option (List ℕ)
  pub pre : Precondition
  pub tasks : Tasks

pub record Method : Type 0 where
  pub span : Span
  pub vars : List (List ℕ)
  pub head : Atom
  pub branches : List Branch

-- a branch of an axiom
pub record Clause : Type 0 where
  pub name : Option (List ℕ)
  pub body : Expression

pub record Axiom : Type 0 where
  pub span : Span
  pub vars : List (List ℕ)
  pub head : Atom
  pub clauses : List Clause

pub data Rule : Type 0 where
  Does : (operator : Operator) → Rule
  Refines : (method : Method) → Rule
  Concludes : (axiom' : Axiom) → Rule

pub record Domain : Type 0 where
  pub name : List ℕ
  pub rules : List Rule

-- an initial state, as its atoms are written, and what is to be done in it
pub record Pair : Type 0 where
  pub state : List Atom
  pub tasks : Tasks

pub record Problem : Type 0 where
  pub name : List ℕ
  pub domain : List ℕ
  pub domain_span : Span
  pub vars : List (List ℕ)
  pub pairs : List Pair
