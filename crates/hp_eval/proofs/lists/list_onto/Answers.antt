use Rattle.std.proofs.Common.{ap, sym, ◌∙◌, map, Some}
use Rattle.std.proofs.lemmas.List.{nil_from_length}
use Rattle.hp_syntax.specs.Terms.{Listed}
use Rattle.hp_eval.specs.GoalViews.{term_at}
use Rattle.hp_eval.specs.Steps.{onto}
use Rattle.hp_eval.proofs.GrowthLemmas.{grows_on, all_below}
use Rattle.hp_eval.proofs.ListSteps.{kept_below, interned_list, list_grows, onto_same}
use Rattle.hp_eval.proofs.lists.list_onto.Goals as goal

pub loop-part-preserved : goal.loop-part-preserved
loop-part-preserved c =
    let old = c.loop-part.cells in
    let new = c.cons.new.self in
    let before = c.loop-part.parts.items in
    let after = c.pop.new.self.items in
    let held = c.loop-part.invariant in
    let items = c.in-Some.ensures.items in
    let grows =
    list_grows old new before after c.in-Some.part c.loop-part.list c.in_ok-list.list held.list.0 items held.below
    held.list.1 c.in_ok-list.ensures.ok in
    let kept =
    kept_below old new before after c.in-Some.part c.loop-part.list c.in_ok-list.list held.list.0 items held.below
    held.list.1 c.in_ok-list.ensures.ok in
    let longer =
    interned_list old new before after c.in-Some.part c.loop-part.list c.in_ok-list.list held.list.0 items held.below
    held.list.1 c.in_ok-list.ensures.ok in
    record {
      grows = grows_on c.args.cells.now old new held.grows grows;
      below = all_below old new grows after kept.0;
      list = (_, longer.names);
      whole =
          λ ts us is names.
          onto_same old new before after c.in-Some.part c.loop-part.list c.in_ok-list.list held.list.0 items held.below
          held.list.1 c.in_ok-list.ensures.ok us names
          ∙ held.whole ts held.list.0 is held.list.1;
    }

pub returns-clause-names : goal.returns-clause-names
returns-clause-names c = λ ts is.
    let terms = c.loop-part.cells in
    let held = c.loop-part.invariant in
    let us = held.list.0 in
    let none = nil_from_length c.loop-part.parts.items (sym c.loop-part.parts.ok.0 ∙ c.in_default.ensures.cases.0) in
    held.list.1
    ∙ ap (λ vs. Some (Listed vs))
    (sym (ap (λ cs. onto (map (term_at terms) cs) us) none) ∙ held.whole ts us is held.list.1)
