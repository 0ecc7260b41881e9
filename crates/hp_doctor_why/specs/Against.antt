-- The variables to which a satisfier gives values.
use Rattle.std.specs.Prelude.{ℕ, cond, List, [], ◌∷◌, ◌++◌, Option, Some, None, bytes_eq, codes}
use Rattle.hp_syntax.specs.Syntax.{Domain}
use Rattle.hp_syntax.specs.Values.{Bindings}
use Rattle.hp_doctor_why.specs.declared.phrases.TheConstants as says
use Rattle.hp_doctor_why.specs.Filled.{filled_names, names_at}

-- a variable that is written in another way now than before
abbrev pub change : List ℕ → List ℕ → List ℕ → List ℕ
change name before after = cond (bytes_eq before after) [] (codes " " ++ name ++ codes " = " ++ after)

abbrev pub changes : List (List ℕ) → List (List ℕ) → List (List ℕ) → List ℕ
changes [] bs as' = []
changes (n ∷ ns) [] as' = []
changes (n ∷ ns) (b ∷ bs) [] = []
changes (n ∷ ns) (b ∷ bs) (a ∷ as') = change n b a ++ changes ns bs as'

-- a line with what there is
abbrev pub against_line : List ℕ → List ℕ
against_line [] = []
against_line (b ∷ bs) = says.AGAINST.now ++ (b ∷ bs) ++ codes "\n"

-- the variables that have a value by one satisfier and none by another
abbrev pub against_names : List (List ℕ) → Bindings → Bindings → List ℕ
against_names names e f = against_line (changes names (filled_names names e) (filled_names names f))

-- those of a rule that have values by a satisfier that makes a part false, where there is one
abbrev pub against_at : Domain → ℕ → Bindings → Option Bindings → List ℕ
against_at d rule e None = []
against_at d rule e (Some f) = against_names (names_at d rule) e f
