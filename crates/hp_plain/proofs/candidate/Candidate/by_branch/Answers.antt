use Rattle.std.proofs.Common.{◌∙◌, ap, sym, map}
use Rattle.std.specs.Prelude.{slice_get}
use Rattle.std.proofs.lemmas.Result.{IfOk-weaker}
use Rattle.hp_eval.specs.Slotted.{bindings_of}
use Rattle.hp_syntax.specs.Views.{branch_of}
use Rattle.hp_tree.specs.Children.{branch_done}
use Rattle.hp_plain.specs.Candidates.{own_node, place_at}
use Rattle.hp_plain.proofs.CandidateSteps.{branch_there, makes_same}
use Rattle.hp_eval.proofs.GrowthLemmas.{grows_self}
use Rattle.hp_plain.proofs.candidate.Candidate.by_branch.Goals as goal

pub returns-in-Some-clause-makes : goal.returns-in-Some-clause-makes
returns-in-Some-clause-makes c =
    let s = c.args.self.now in
    let old = c.args.cells.now in
    let k = c.args.branch in
    let at = c.in-Some.ensures.lookup in
    let there =
    ap (λ bs. slice_get (map branch_of bs) k) (sym c.deref.ensures.value)
    ∙ branch_there c.deref.result.now k c.in-Some.branch.now at.3.0 at.1 in
    IfOk-weaker c.refined.result _ _
    (λ child h. makes_same c.refined.new.cells child _ _
    (ap (λ o. branch_done (own_node old s) (place_at s) o (bindings_of old c.args.slots.now)) (sym there)) h)
    c.refined.ensures.makes

pub returns-in-None-clause-cells : goal.returns-in-None-clause-cells
returns-in-None-clause-cells c = grows_self c.args.cells.now
