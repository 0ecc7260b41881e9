use Rattle.std.proofs.lemmas.Result.{IfOk-weaker}
use Rattle.hp_syntax.specs.Networks.{tasks_value}
use Rattle.hp_syntax.specs.Views.{tasks_of}
use Rattle.hp_eval.specs.GoalViews.{network_of}
use Rattle.hp_eval.specs.Slotted.{bindings_of}
use Rattle.hp_plain.specs.Candidates.{own_node, place_at}
use Rattle.hp_tree.proofs.ChildLemmas.{decomposed_value}
use Rattle.hp_tree.proofs.SearchNodeLemmas.{node_stays}
use Rattle.hp_plain.specs.SearchNodes.{held}
use Rattle.hp_plain.proofs.CandidateLemmas.{candidate_grows}
use Rattle.hp_plain.proofs.CandidateSteps.{makes_same}
use Rattle.hp_plain.proofs.candidate.Candidate.refined.Goals as goal

pub returns-in-Ok-clause-makes : goal.returns-in-Ok-clause-makes
returns-in-Ok-clause-makes c =
    let old = c.args.cells.now in
    let new = c.tasks_value.new.cells in
    let s = c.args.self.now in
    IfOk-weaker c.expanded.result _ _
    (λ child h. makes_same new child _ _
    (decomposed_value (own_node new s) (own_node old s) (place_at s)
    (node_stays old new c.in-Ok.ensures.cells (held s.node.now) c.requires.candidate.node) (network_of new c.in-Ok.tree)
    (tasks_value (tasks_of c.args.tasks.now) (bindings_of old c.args.slots.now)) c.in-Ok.ensures.gives) h)
    c.expanded.ensures

pub expanded-requires-clause-candidate : goal.expanded-requires-clause-candidate
expanded-requires-clause-candidate c =
    candidate_grows c.args.cells.now c.tasks_value.new.cells c.in-Ok.ensures.cells c.args.self.now c.requires.candidate

pub returns-in-Ok-clause-cells : goal.returns-in-Ok-clause-cells
returns-in-Ok-clause-cells c = c.tasks_value.ensures.cells

pub returns-in-Err-Fault-clause-cells : goal.returns-in-Err-Fault-clause-cells
returns-in-Err-Fault-clause-cells c = c.tasks_value.ensures.cells

pub returns-in-Err-NoMemory-clause-cells : goal.returns-in-Err-NoMemory-clause-cells
returns-in-Err-NoMemory-clause-cells c = c.tasks_value.ensures.cells
