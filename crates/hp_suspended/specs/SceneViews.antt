-- Scenes as settings.
use Rattle.std.specs.Prelude.{List, length}
use Rattle.hp_syntax.specs.Terms.{Term}
use Rattle.hp_code.specs.CodeViews.{CodeView}
use Rattle.hp_code.specs.Codes.{code_of}
use Rattle.hp_eval.specs.Slotted.{Slotted, AreBelow}
use Rattle.hp_world.specs.Recorded.{Knows}
use Rattle.hp_world.specs.Stages.{AllBelow, live_atoms}
use Rattle.hp_suspended.specs.declared.scene.Scene.{Scene}
use Rattle.hp_suspended.specs.Settings.{Setting}

-- the code of a scene
abbrev pub code_in : Scene → CodeView
code_in s = code_of s.code.now

-- a scene, where cells name these terms
abbrev pub setting_of : Scene → List Term → Setting
setting_of s terms = record { code = code_in s; terms = terms; places = s.world.now.places }

-- the atoms of a scene and what slots hold are cells, and the indexes know the atoms
pub record IsReady (s : Scene) (cells : List Term) (slots : Slotted) : Type 0 where
  pub atoms : AllBelow (length cells) (live_atoms s.world.now.places)
  pub knows : Knows cells s.world
  pub bindings : AreBelow (length cells) slots
