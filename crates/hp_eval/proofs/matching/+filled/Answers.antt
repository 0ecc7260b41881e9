use Rattle.std.proofs.Common.{◌+◌, refl, ap, sym, ◌∙◌, drop, Bool, cond, None, rules, arith}
use Rattle.std.proofs.lemmas.Option.{slice_get_within}
use Rattle.hp_syntax.specs.Goals.{match_fillings}
use Rattle.hp_eval.specs.GoalViews.{fillings_of}
use Rattle.hp_eval.specs.Slotted.{bindings_of}
use Rattle.hp_eval.specs.Attempts.{extended}
use Rattle.hp_eval.specs.FillSteps.{parts_at}
use Rattle.hp_eval.proofs.SlotLemmas.{binds_self, binds_through}
use Rattle.hp_eval.proofs.GoalViewLemmas.{below_cell}
use Rattle.hp_eval.proofs.AttemptLemmas.{tries_here, tries_as, tries_above, then_fails, then_goes_on, names_list}
use Rattle.hp_eval.proofs.GoalMatchSteps.{below_part, matches_known, matches_free, matches_partly, fillings_missing, fillings_step, fillings_end}
use Rattle.hp_eval.proofs.Sizes.{filled-smaller, partly-size}
use Rattle.hp_eval.proofs.matching.+filled.Goals as goal

pub match_fillings-returns-in_default : goal.match_fillings-returns-in_default
match_fillings-returns-in_default t c =
    let before = c.loop-part.invariant in
    let none = rw c.in_default.is at c.split.ensures in
    record {
      answers =
          sym before.so_far
          ∙ fillings_missing c.args.cells.now c.args.parts.now c.loop-part.part-index c.part-item.result c.args.tail _ _
          c.loop-part-test.true none;
      binds = before.binds;
      below = before.below;
    }

pub match_fillings-returns-then-not-match_filled : goal.match_fillings-returns-then-not-match_filled
match_fillings-returns-then-not-match_filled t c =
    let before = c.loop-part.invariant in
    let behind = fillings_of c.args.cells.now (drop (c.loop-part.part-index + 1) c.args.parts.now) in
    then_fails (match_fillings behind c.args.tail _) _
    (sym before.so_far
    ∙ fillings_step c.args.cells.now c.args.parts.now c.loop-part.part-index c.part-item.result c.args.tail _ _ _
    (bindings_of c.args.cells.now c.loop-part.slots) c.loop-part-test.true c.part-item.is c.in-Some.ensures.parts)
    c.if-not-match_filled.true before.binds c.match_filled.ensures

pub match_fillings-loop-part-preserved : goal.match_fillings-loop-part-preserved
match_fillings-loop-part-preserved t c =
    let before = c.loop-part.invariant in
    record {
      list = c.in-Some.ensures.others_named;
      binds = binds_through c.args.slots.now c.loop-part.slots c.match_filled.new.slots before.binds
          c.match_filled.ensures.binds;
      below = c.match_filled.ensures.below;
      so_far =
          then_goes_on
          (match_fillings (fillings_of c.args.cells.now (drop (c.loop-part.part-index + 1) c.args.parts.now))
          c.args.tail _) _
          (sym before.so_far
          ∙ fillings_step c.args.cells.now c.args.parts.now c.loop-part.part-index c.part-item.result c.args.tail _ _ _
          (bindings_of c.args.cells.now c.loop-part.slots) c.loop-part-test.true c.part-item.is
          c.in-Some.ensures.parts)
          c.if-not-match_filled.false c.match_filled.ensures;
    }

pub match_fillings-returns : goal.match_fillings-returns
match_fillings-returns t c =
    tries_as _
    (sym c.loop-part.invariant.so_far
    ∙ fillings_end c.args.cells.now c.args.parts.now c.loop-part.part-index c.args.tail
    (parts_at c.args.cells.now c.loop-part.left)
    (bindings_of c.args.cells.now c.loop-part.slots) c.loop-part-test.false)
    (tries_above c.loop-part.invariant.binds c.match_free_tail.ensures)

pub match_filled-returns-in-Known : goal.match_filled-returns-in-Known
match_filled-returns-in-Known t c =
    let terms = c.args.cells.now in
    let own = c.in-Known.own in
    let e = bindings_of terms c.args.slots.now in
    tries_here c.same_term.result _ terms c.args.slots.now c.requires.slots
    (matches_known terms c.args.part.now own _ e c.in-Known.is
    ∙ ap (λ does. extended does e) (sym c.same_term.ensures))

pub match_filled-returns-in-Free : goal.match_filled-returns-in-Free
match_filled-returns-in-Free t c =
    tries_as _ (matches_free c.args.cells.now c.args.part.now c.in-Free.v _ _ c.in-Free.is) c.meet.ensures

pub match_filled-returns-then-is_listed : goal.match_filled-returns-then-is_listed
match_filled-returns-then-is_listed t c =
    let terms = c.args.cells.now in
    let e = bindings_of terms c.args.slots.now in
    let fs = fillings_of terms c.in-List.parts.items in
    let found = λ (is : Bool). cond is (match_fillings fs c.in-List.tail (parts_at terms c.args.cell) e) None in
    tries_as _
    (matches_partly terms c.args.part.now c.in-List.parts c.in-List.tail _ e c.in-List.is
    ∙ ap found (sym c.is_listed.ensures ∙ c.if-is_listed.true))
    (rw (← c.as_slice.ensures.value) c.match_fillings.ensures)

pub match_filled-returns-else-is_listed : goal.match_filled-returns-else-is_listed
match_filled-returns-else-is_listed t c =
    let terms = c.args.cells.now in
    let e = bindings_of terms c.args.slots.now in
    let fs = fillings_of terms c.in-List.parts.items in
    let found = λ (is : Bool). cond is (match_fillings fs c.in-List.tail (parts_at terms c.args.cell) e) None in
    tries_here c.is_listed.result _ terms c.args.slots.now c.requires.slots
    (matches_partly terms c.args.part.now c.in-List.parts c.in-List.tail _ e c.in-List.is
    ∙ (ap found (sym c.is_listed.ensures ∙ c.if-is_listed.false)
    ∙ ap (λ does. extended does e) (sym c.if-is_listed.false)))

pub match_filled-match_fillings-requires : goal.match_filled-match_fillings-requires
match_filled-match_fillings-requires t c =
    let terms = c.args.cells.now in
    let list = names_list terms c.args.cell c.requires.cell (sym c.is_listed.ensures ∙ c.if-is_listed.true) in
    let size = partly-size terms c.args.part.now c.as_slice.result.now c.in-List.parts c.in-List.tail c.in-List.is
    c.as_slice.ensures.value in
    let whole = c.decreases in
    (omega (arith, size, whole), (c.requires.slots, (search (rules, below_part), list)))

pub match_fillings-match_filled-requires : goal.match_fillings-match_filled-requires
match_fillings-match_filled-requires t c =
    let smaller = filled-smaller c.args.cells.now c.args.parts.now c.loop-part.part-index c.part-item.result
    c.loop-part-test.true c.part-item.is in
    let whole = c.decreases in
    (omega (arith, smaller, whole), (c.loop-part.invariant.below, (search rules, c.in-Some.ensures.first_named)))

pub match_fillings-loop-part-init : goal.match_fillings-loop-part-init
match_fillings-loop-part-init t c = record {
  list = c.requires.list;
  binds = binds_self c.args.slots.now;
  below = c.requires.slots;
  so_far = refl;
}

pub match_filled-same_term-requires-clause-a : goal.match_filled-same_term-requires-clause-a
match_filled-same_term-requires-clause-a t c =
    below_cell _ c.args.part.now c.in-Known.own c.requires.part c.in-Known.is

pub match_fillings-loop-part-smaller : goal.match_fillings-loop-part-smaller
match_fillings-loop-part-smaller t c = omega arith

pub match_fillings-split-requires : goal.match_fillings-split-requires
match_fillings-split-requires t c =
    let list = c.loop-part.invariant.list in slice_get_within c.args.cells.now c.loop-part.left _ list.1
