use Rattle.std.proofs.Common.{◌≡◌, Some, true, length}
use Rattle.std.proofs.lemmas.List.Elements.{All-pop}
use Rattle.hp_eval.specs.GoalViews.{is_below, fillings_of}
use Rattle.hp_eval.specs.FillSteps.{parts_at}
use Rattle.hp_eval.proofs.GrowthLemmas.{grows_length, grows_on}
use Rattle.hp_eval.proofs.GoalViewLemmas.{is_below_more}
use Rattle.hp_eval.proofs.FillStepLemmas.{part_consed, known_joined}
use Rattle.hp_eval.proofs.goals.cons_parts.Goals as goal

pub cons_part-requires-clause-part : goal.cons_part-requires-clause-part
cons_part-requires-clause-part c =
    let held = c.loop-part.invariant in
    let items = c.in-Some.ensures.items in
    let kept = All-pop (λ f. is_below (length c.args.cells.now) f ≡ true) _ _ (Some c.in-Some.part) items held.1 in
    is_below_more _ _ c.in-Some.part (grows_length _ _ held.2) kept.1

pub loop-part-preserved : goal.loop-part-preserved
loop-part-preserved c =
    let held = c.loop-part.invariant in
    let items = c.in-Some.ensures.items in
    let kept = All-pop (λ f. is_below (length c.args.cells.now) f ≡ true) _ _ (Some c.in-Some.part) items held.1 in (
      c.in_ok-left.ensures.names,
      kept.0,
      grows_on c.args.cells.now c.loop-part.cells c.cons_part.new.cells held.2 c.in_ok-left.ensures.cells,
      part_consed c.args.cells.now c.loop-part.cells c.cons_part.new.cells _ c.pop.new.self.items c.in-Some.part
          c.loop-part.left c.in_ok-left.left held.2 kept.1
          (known_joined (fillings_of c.args.cells.now c.args.parts.items) (parts_at c.args.cells.now c.args.list)
          c.requires.known)
          c.in_ok-left.ensures.parts (rw items at held.3),
    )

pub returns-in_err-left-clause-cells : goal.returns-in_err-left-clause-cells
returns-in_err-left-clause-cells c =
    grows_on c.args.cells.now c.loop-part.cells c.cons_part.new.cells c.loop-part.invariant.2 c.cons_part.ensures.cells

pub returns-clause-names : goal.returns-clause-names
returns-clause-names c = c.loop-part.invariant.0

pub returns-clause-cells : goal.returns-clause-cells
returns-clause-cells c = c.loop-part.invariant.2
