-- Steps whose lines are read as the steps.
use Rattle.std.specs.Prelude.{◌≡◌, ℕ, ◌<◌, ◌≤◌, Bool, true, false, ◌||◌, List, length, bytes_eq, codes}
use Rattle.std.specs.List.{list_all}
use Rattle.hp_syntax.specs.declared.limits.TheConstants.{LONGEST_TOKEN, DEEPEST_NESTING}
use Rattle.hp_syntax.specs.Calls.{fits}
use Rattle.hp_syntax.specs.Names.{is_variable, is_plain}
use Rattle.hp_syntax.specs.Terms.{Term, Terms, Symbol, Number, Listed, NoTerm, More, term_nesting}
use Rattle.hp_syntax.specs.Report.{lines_text}
use Rattle.hp_syntax.specs.Text.{is_name_byte, AName, spelling_of}
use Rattle.hp_syntax.specs.TextForms.{IsRead}
use Rattle.hp_forms.specs.PlanForms.{plan_form}

-- a token spells the name
pub record IsName (name : List ℕ) : Type 0 where
  pub bytes : list_all is_name_byte name ≡ true
  pub some : 0 < length name
  pub short : length name ≤ LONGEST_TOKEN
  pub spells : spelling_of name ≡ AName

-- a dot, `nil` or a variable, which among terms are no symbols
abbrev pub is_no_symbol : List ℕ → Bool
is_no_symbol name = bytes_eq name (codes ".") || bytes_eq name (codes "nil") || is_variable name

-- a token spells the name, and it is the name of a symbol
pub record IsSymbol (name : List ℕ) : Type 0 where
  pub token : IsName name
  pub symbol : is_no_symbol name ≡ false

-- each symbol of a term is read as that symbol, and each number fits
abbrev mutual
  pub IsSpelled : Term → Type 0
  IsSpelled (Symbol name) = IsSymbol name
  IsSpelled (Number n) = fits n ≡ true
  IsSpelled (Listed ts) = AreSpelled ts

  -- so of each of these terms
  pub AreSpelled : Terms → Type 0
  AreSpelled NoTerm = Unit {0}
  AreSpelled (More t ts) = IsSpelled t × AreSpelled ts

-- the first of these terms is the symbol `call`
abbrev pub begins_call : Terms → Bool
begins_call (More (Symbol name) ts) = bytes_eq name (codes "call")
begins_call _ = false

-- a list in a term begins with `call`
abbrev mutual
  pub holds_call : Term → Bool
  holds_call (Listed ts) = begins_call ts || hold_call ts
  holds_call _ = false

  -- a list in one of these terms begins with `call`
  pub hold_call : Terms → Bool
  hold_call NoTerm = false
  hold_call (More t ts) = holds_call t || hold_call ts

-- a list that begins with a plain name
abbrev pub is_named : Term → Bool
is_named (Listed (More (Symbol name) args)) = is_plain name
is_named _ = false

-- a list that begins with a plain name, of symbols and numbers that are read as they are, and that nests no deeper than
-- a text may
pub record IsStep (t : Term) : Type 0 where
  pub named : is_named t ≡ true
  pub spelled : IsSpelled t
  pub shallow : term_nesting t ≤ DEEPEST_NESTING

-- a step whose line is read as the step: no list in it begins with `call`
pub record IsWritable (t : Term) : Type 0 where
  pub step : IsStep t
  pub free : holds_call t ≡ false

-- the lines of steps are read as the steps
abbrev pub IsReadBack : List Term → Type 0
IsReadBack steps = IsRead (λ _ f. plan_form f) (lines_text steps) steps
