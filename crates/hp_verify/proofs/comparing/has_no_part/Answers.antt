use Rattle.std.proofs.Common.{◌≡◌, true, ap, sym, ◌∙◌, inl, inr}
use Rattle.hp_best.proofs.GroundSteps.{shown_at}
use Rattle.hp_cells.specs.declared.keys.View.TheVariants.{Cons}
use Rattle.hp_eval.proofs.AttemptLemmas.{list_within}
use Rattle.hp_eval.specs.GoalViews.{term_at}
use Rattle.hp_verify.proofs.ComparedSteps.{no_part_seen, no_part_shown}
use Rattle.hp_verify.proofs.comparing.has_no_part.Goals as goal

pub returns-in-Cons : goal.returns-in-Cons
returns-in-Cons c =
    let terms = c.args.cells.now in
    let v = Cons c.in-Cons.field-0 c.in-Cons.field-1 in
    no_part_shown terms v (term_at terms c.args.list)
    (shown_at terms c.args.list v (list_within terms c.args.list c.requires) c.in-Cons.ensures.shows)

pub returns-in-Nil : goal.returns-in-Nil
returns-in-Nil c =
    let terms = c.args.cells.now in
    let seen : true ≡ no_part_seen c.get.result =
    elim c.in-Nil.is [
      | inl h ↦ sym (ap no_part_seen h)
      | inr q ↦ elim q [ inl e ↦ sym (ap no_part_seen e.1) | inr e ↦ sym (ap no_part_seen e.1) ]
    ] in
    seen ∙ no_part_shown terms c.get.result (term_at terms c.args.list)
    (shown_at terms c.args.list c.get.result (list_within terms c.args.list c.requires) c.get.ensures.shows)
