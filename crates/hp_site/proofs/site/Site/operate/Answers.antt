use Rattle.std.proofs.Common.{w64, length, ap, ap₂, ◌∙◌}
use Rattle.std.proofs.lemmas.Int.{to_z-of_z}
use Rattle.hp_syntax.specs.Walk.{operated}
use Rattle.hp_eval.specs.GoalViews.{term_at}
use Rattle.hp_world.specs.Histories.{mark_of}
use Rattle.hp_world.specs.Recorded.{history_in}
use Rattle.hp_tree.specs.Children.{place_in}
use Rattle.hp_tree.specs.SearchNodes.{node_of}
use Rattle.hp_site.specs.Sites.{held_now, mark_now}
use Rattle.hp_site.proofs.OperatingSteps.{applied_done, applied_guarded, done_keeps, guarded_same}
use Rattle.hp_site.proofs.OperatingSteps.{keeps_with, site_with, with_world}
use Rattle.hp_site.proofs.SiteLemmas.{keeps_after, keeps_within}
use Rattle.hp_site.proofs.site.Site.operate.Goals as goal

pub returns-in_ok-finish-in-Done-clause-operates : goal.returns-in_ok-finish-in-Done-clause-operates
returns-in_ok-finish-in-Done-clause-operates c =
    let terms = c.args.cells.now in
    let s = c.args.self.now in
    let w = c.apply_in.new.world in
    let given = c.in_ok-apply_in.ensures.terms terms c.len.ensures.cells c.requires.site.node.stage
    c.requires.changes in
    let now = applied_done terms w.now c.in_ok-apply_in.field-0 _ c.in-Done.is given in
    c.in_ok-finish-in-Done.ensures.child terms
    ∙ ap₂ (operated (node_of terms (held_now s)) (place_in s.net.now c.args.id) (term_at terms c.args.task))
    (to_z-of_z w64 c.args.cost c.ranges.cost) now

pub returns-in_ok-finish-in-Done-clause-site : goal.returns-in_ok-finish-in-Done-clause-site
returns-in_ok-finish-in-Done-clause-site c =
    let terms = c.args.cells.now in
    let n = length terms in
    let site = c.requires.site in
    let changes = c.requires.changes in
    let e = c.apply_in.ensures in
    c.in_ok-finish-in-Done.ensures.site terms c.requires.task
    (site_with terms c.args.self.now c.apply_in.new.world site (e.below n site.node.stage changes)
    (e.pasts n changes.add site.pasts) (e.knows site.knows) e.stood)

pub returns-in_ok-finish-in-Done-clause-keeps : goal.returns-in_ok-finish-in-Done-clause-keeps
returns-in_ok-finish-in-Done-clause-keeps c =
    let s = c.args.self.now in
    let w = c.apply_in.new.world in
    let next = with_world s w in
    let keeps = keeps_with s w
    (done_keeps c.in_ok-apply_in.field-0 _ (history_in s.scene.world) (history_in w) c.in-Done.is
    c.in_ok-apply_in.ensures.ok) in
    keeps_after (mark_now s) s next c.finish.new.self keeps
    (keeps_within (mark_now next) (mark_now s) next c.finish.new.self c.in_ok-finish-in-Done.ensures.keeps
    keeps.mark)

pub returns-in-Guarded-clause-operates : goal.returns-in-Guarded-clause-operates
returns-in-Guarded-clause-operates c =
    let terms = c.args.cells.now in
    let s = c.args.self.now in
    let w = c.apply_in.new.world in
    let given = c.in_ok-apply_in.ensures.terms terms c.len.ensures.cells c.requires.site.node.stage
    c.requires.changes in
    let same = guarded_same c.in_ok-apply_in.field-0 c.in-Guarded.atom _ (history_in s.scene.world) (history_in w)
    c.in-Guarded.is c.in_ok-apply_in.ensures.ok in (
      applied_guarded terms w.now c.in_ok-apply_in.field-0 c.in-Guarded.atom _ (node_of terms (held_now s))
          (place_in s.net.now c.args.id) (term_at terms c.args.task) c.args.cost c.in-Guarded.is given,
      ap (λ h. record (mark_now s) { world = mark_of h }) same,
    )

pub returns-in-Guarded-clause-site : goal.returns-in-Guarded-clause-site
returns-in-Guarded-clause-site c =
    let terms = c.args.cells.now in
    let n = length terms in
    let site = c.requires.site in
    let changes = c.requires.changes in
    let e = c.apply_in.ensures in
    site_with terms c.args.self.now c.apply_in.new.world site (e.below n site.node.stage changes)
    (e.pasts n changes.add site.pasts) (e.knows site.knows) e.stood
