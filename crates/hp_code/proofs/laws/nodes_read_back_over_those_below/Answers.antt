use Rattle.hp_nodes.specs.Trees.{trees}
use Rattle.hp_code.proofs.CodeLemmas.{code_read}
use Rattle.hp_code.proofs.NodeLemmas.{node_there, none_between, first_between, laid_by_ends}
use Rattle.hp_code.proofs.laws.nodes_read_back_over_those_below.Goals as goal

pub returns-clause-rules : goal.returns-clause-rules
returns-clause-rules c = code_read

pub returns-clause-laid : goal.returns-clause-laid
returns-clause-laid c = λ code is. laid_by_ends code.nodes is.ends

pub returns-clause-node : goal.returns-clause-node
returns-clause-node c = λ code is. node_there code.nodes

pub returns-clause-none : goal.returns-clause-none
returns-clause-none c = λ code is. none_between code.nodes

pub returns-clause-first : goal.returns-clause-first
returns-clause-first c = λ code is. first_between (trees 0 code.nodes) code.nodes (laid_by_ends code.nodes is.ends)
