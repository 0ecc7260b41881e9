use Rattle.std.proofs.Common.{sym, ◌∙◌, ap, subst, arith, ◌==◌}
use Rattle.hp_tree.proofs.SuccessorLemmas.{successors_cut, successors_plan}
use Rattle.hp_tree.specs.SearchNodes.{node_of}
use Rattle.hp_site.specs.Sites.{held_now}
use Rattle.hp_agenda.specs.Frames.{Opens, rules_at}
use Rattle.hp_agenda.proofs.FrameSteps.{opens_children}
use Rattle.hp_agenda.proofs.frame.Frame.new.Goals as goal

pub returns-then-is_empty : goal.returns-then-is_empty
returns-then-is_empty c = λ nest.
    let site = c.args.site.now in
    let terms = c.args.cells.now in
    let empty = sym (c.is_empty.ensures terms) ∙ c.if-is_empty.true in
    c.ended.ensures nest (sym (successors_plan (rules_at site) nest (node_of terms (held_now site)) empty))

pub returns-then-site-eq0 : goal.returns-then-site-eq0
returns-then-site-eq0 c = λ nest.
    let site = c.args.site.now in
    let terms = c.args.cells.now in
    let some = sym (c.is_empty.ensures terms) ∙ c.if-is_empty.false in
    let last = ap (λ k. k == 0) c.if-site-eq0.true in
    c.ended-then-site-eq0.ensures nest
    (sym (successors_cut (rules_at site) nest (node_of terms (held_now site)) some last))

pub returns : goal.returns
returns c = λ nest.
    let site = c.args.site.now in
    let terms = c.args.cells.now in
    let some = sym (c.is_empty.ensures terms) ∙ c.if-is_empty.false in
    subst (Opens site nest terms) (sym c.at.ensures)
    (opens_children site nest terms c.in_ok-queue.queue some (omega arith) (c.in_ok-queue.ensures.left nest)
    c.in_ok-queue.ensures.queue c.in_ok-queue.ensures.first)
