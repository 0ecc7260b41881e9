-- A code as its value.
use Rattle.hp_code.specs.declared.code.Code.{Code}
use Rattle.hp_code.specs.CodeValues.{value_of}
use Rattle.hp_code.specs.CodeViews.{CodeView}

abbrev pub code_of : Code → CodeView
code_of c = value_of c.nodes.items c.vars.items c.task_rules c.axiom_rules
