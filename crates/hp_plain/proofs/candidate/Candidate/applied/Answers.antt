use Rattle.std.proofs.Common.{w64, length, ap, ap₂, sym, subst}
use Rattle.std.proofs.lemmas.Int.{to_z-of_z}
use Rattle.std.proofs.lemmas.Result.{IfOk-weaker}
use Rattle.hp_syntax.specs.Changes.{apply}
use Rattle.hp_syntax.specs.Walk.{operated}
use Rattle.hp_world.specs.Stages.{StageBelow, state_of, guards_of, changes_of}
use Rattle.hp_effect.specs.Puts.{IsApplied}
use Rattle.hp_plain.specs.Candidates.{own_node, place_at, own_task}
use Rattle.hp_plain.proofs.CandidateSteps.{makes_same, applied_done, applied_guarded}
use Rattle.hp_plain.proofs.candidate.Candidate.applied.Goals as goal

pub finished-requires-clause-world : goal.finished-requires-clause-world
finished-requires-clause-world c =
    let n = length c.args.cells.now in
    c.in_ok-apply_to.ensures.below n
    (subst (λ w. StageBelow n w.now) (sym c.in_ok-world.ensures) c.requires.candidate.node.stage) c.requires.changes

pub returns-in-Done : goal.returns-in-Done
returns-in-Done c =
    let terms = c.args.cells.now in
    let s = c.args.self.now in
    let old = s.node.now.world.now in
    let copied = c.in_ok-world.ensures in
    let given = c.in_ok-apply_to.ensures.terms terms c.len.ensures.cells
    (subst (λ w. StageBelow (length terms) w.now) (sym copied) c.requires.candidate.node.stage) c.requires.changes in
    let same = ap (λ w. apply (state_of terms w.now) (guards_of terms w.now) (changes_of terms c.args.changes.now))
    copied in
    let now = subst (IsApplied c.in_ok-apply_to.field-0 terms c.apply_to.new.world.now) same given in
    IfOk-weaker c.finished.result _ _
    (λ child h. makes_same terms child _ _
    (ap₂ (operated (own_node terms s) (place_at s) (own_task terms s)) (to_z-of_z w64 c.args.cost c.ranges.cost)
    (applied_done terms c.apply_to.new.world.now c.in_ok-apply_to.field-0 _ c.in-Done.is now)) h)
    c.finished.ensures

pub returns-in-Guarded : goal.returns-in-Guarded
returns-in-Guarded c =
    let terms = c.args.cells.now in
    let s = c.args.self.now in
    let copied = c.in_ok-world.ensures in
    let given = c.in_ok-apply_to.ensures.terms terms c.len.ensures.cells
    (subst (λ w. StageBelow (length terms) w.now) (sym copied) c.requires.candidate.node.stage) c.requires.changes in
    let same = ap (λ w. apply (state_of terms w.now) (guards_of terms w.now) (changes_of terms c.args.changes.now))
    copied in
    let now = subst (IsApplied c.in_ok-apply_to.field-0 terms c.apply_to.new.world.now) same given in
    record {
      are =
          applied_guarded terms c.apply_to.new.world.now c.in_ok-apply_to.field-0 c.in-Guarded.field-0 _
          (own_node terms s) (place_at s) (own_task terms s) c.args.cost c.in-Guarded.is now;
      fits = tt;
    }
