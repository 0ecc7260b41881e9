-- What is formed of a text between two places.
use Rattle.std.specs.Prelude.{◌≡◌, ℕ, ◌≤◌, List, Ok}
use Rattle.hp_syntax.specs.Forest.{Node, Forest, Spells}
use Rattle.hp_syntax.specs.Grammar.{InProblem, atoms, tasks}
use Rattle.hp_syntax.specs.Steps.{Names, Parse}
use Rattle.hp_syntax.specs.Syntax.{Pair}
use Rattle.hp_syntax.specs.Text.{IsGap}
use Rattle.hp_text.specs.Stepping.{PassesNode}

-- the node between the two places is read as this
pub record PassesAs {A : Type 0} (item : Node → Parse A) (text : List ℕ) (from to : ℕ) (before after : Names) (x : A)
    : Type 0 where
  pub node : Node
  pub passes : PassesNode text from to node
  pub read : item node before ≡ Ok (x, after)

-- the forest between the two places, and whatever gap follows it, is read as this
pub record HasForm {A : Type 0} (step : Forest → Parse A) (text : List ℕ) (from to : ℕ) (before after : Names) (x : A)
    : Type 0 where
  pub order : from ≤ to
  pub parts : Forest
  pub spelled : (end : ℕ) → IsGap text to end → Spells text from end parts
  pub read : step parts before ≡ Ok (x, after)

-- the two nodes between the two places are read as a state and the tasks of a pair
pub record PassesPair (text : List ℕ) (from to : ℕ) (before after : Names) (pair : Pair) : Type 0 where
  pub place : ℕ
  pub names : Names
  pub state : PassesAs (atoms InProblem) text from place before names pair.state
  pub tasks : PassesAs (tasks InProblem) text place to names after pair.tasks
