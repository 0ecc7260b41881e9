use Rattle.std.proofs.Common.{◌≡◌, ◌+◌, refl, ap, sym, ◌∙◌, true, false, drop, length, arith, rules}
use Rattle.std.proofs.lemmas.List.{take_rest}
use Rattle.std.proofs.lemmas.List.Elements.{All-drop}
use Rattle.hp_syntax.specs.Views.{pattern_of, patterns_of}
use Rattle.hp_syntax.specs.ViewLaws.{pattern_of-var, pattern_of-list}
use Rattle.hp_syntax.specs.Syntax.{NoPattern}
use Rattle.hp_syntax.specs.Goals.{start_parts}
use Rattle.hp_eval.specs.Slotted.{bindings_of}
use Rattle.hp_eval.specs.GoalViews.{fillings_of, is_below}
use Rattle.hp_eval.specs.Attempts.{extended}
use Rattle.hp_eval.proofs.SlotLemmas.{binds_self, binds_through}
use Rattle.hp_eval.proofs.GrowthLemmas.{grows_length, grows_on, grows_self}
use Rattle.hp_eval.proofs.GoalViewLemmas.{below_cell, all_below_grow}
use Rattle.hp_eval.proofs.AttemptLemmas.{tries_here, tries_as, starts_same, starts_above, starts_failed, then_fails, then_goes_on}
use Rattle.hp_eval.proofs.GoalMatchSteps.{below_part}
use Rattle.hp_eval.proofs.StartingSteps.{starts_known, starts_free, starts_variable, starts_list, starts_never, starts_missing, starts_next, starts_rest}
use Rattle.hp_eval.proofs.Sizes.{pattern-smaller, list-size}
use Rattle.hp_eval.proofs.starting.+starting.Goals as goal

pub start_part-match_pattern-requires-clause-cell : goal.start_part-match_pattern-requires-clause-cell
start_part-match_pattern-requires-clause-cell t c =
    below_cell _ c.args.part.now c.in-Known.cell c.requires.part c.in-Known.is

pub start_part-start_parts-requires : goal.start_part-start_parts-requires
start_part-start_parts-requires t c =
    let size = list-size c.args.pat.now c.as_slice.result.now c.in-List-kind.parts c.in-List-kind.own c.in-List-kind.is
    c.as_slice.ensures.value in
    let whole = c.decreases in
    (omega (arith, size, whole), (c.requires.slots, search (rules, below_part)))

pub start_parts-start_part-requires : goal.start_parts-start_part-requires
start_parts-start_part-requires t c =
    let smaller = pattern-smaller c.args.parts.now c.loop-i.i c.index-parts-i.result c.loop-i-test.true
    c.index-parts-i.is in
    let whole = c.decreases in
    (omega (arith, smaller, whole), (c.loop-i.invariant.below, search rules))

pub start_part-returns-in-Known-clause-started : goal.start_part-returns-in-Known-clause-started
start_part-returns-in-Known-clause-started t c =
    tries_as _
    (starts_known c.args.cells.now (pattern_of c.args.pat.now) c.args.part.now c.in-Known.cell _ c.in-Known.is)
    c.match_pattern.ensures

pub start_part-returns-in-Free-clause-started : goal.start_part-returns-in-Free-clause-started
start_part-returns-in-Free-clause-started t c =
    let terms = c.args.cells.now in
    tries_here true _ terms c.args.slots.now c.requires.slots
    (starts_free terms (pattern_of c.args.pat.now) c.args.part.now c.in-Free.field-0 _ c.in-Free.is)

pub start_part-returns-in-Var-clause-started : goal.start_part-returns-in-Var-clause-started
start_part-returns-in-Var-clause-started t c =
    let p = c.args.pat.now in
    let terms = c.args.cells.now in
    tries_here true _ terms c.args.slots.now c.requires.slots
    (starts_variable terms (pattern_of p) p.span c.in-Var.field-0 c.args.part.now c.in-List.fillings c.in-List.free _
    (pattern_of-var p c.in-Var.field-0 c.in-Var.is) c.in-List.is)

pub start_part-returns-in-List-kind-clause-started : goal.start_part-returns-in-List-kind-clause-started
start_part-returns-in-List-kind-clause-started t c =
    let p = c.args.pat.now in
    let kind = c.in-List-kind in
    let terms = c.args.cells.now in
    starts_same c.start_parts.result _ c.start_parts.new.cells c.args.slots.now c.start_parts.new.slots
    (starts_list terms (pattern_of p) p.span (patterns_of kind.parts.items) kind.own c.args.part.now c.in-List.fillings
    c.in-List.free _ (pattern_of-list p kind.parts kind.own kind.is) c.in-List.is)
    (rw (← c.as_slice.ensures.value, ← c.as_slice-in-List-kind.ensures.value) c.start_parts.ensures.started)

pub start_part-returns-in-Sym-clause-started : goal.start_part-returns-in-Sym-clause-started
start_part-returns-in-Sym-clause-started t c =
    let part = c.args.part.now in
    let terms = c.args.cells.now in
    tries_here false _ terms c.args.slots.now c.requires.slots
    (starts_never terms c.args.pat.now part c.in-List.fillings c.in-List.free _ c.in-Sym.is c.in-List.is)

pub start_part-returns-in-Sym-2-clause-started : goal.start_part-returns-in-Sym-2-clause-started
start_part-returns-in-Sym-2-clause-started t c =
    let part = c.args.part.now in
    let terms = c.args.cells.now in
    tries_here false _ terms c.args.slots.now c.requires.slots
    (starts_never terms c.args.pat.now part c.in-List.fillings c.in-List.free _ c.in-Sym.is c.in-List.is)

pub start_part-returns-in-Sym-3-clause-started : goal.start_part-returns-in-Sym-3-clause-started
start_part-returns-in-Sym-3-clause-started t c =
    let part = c.args.part.now in
    let terms = c.args.cells.now in
    tries_here false _ terms c.args.slots.now c.requires.slots
    (starts_never terms c.args.pat.now part c.in-List.fillings c.in-List.free _ c.in-Sym.is c.in-List.is)

pub start_parts-returns-in_default-clause-started : goal.start_parts-returns-in_default-clause-started
start_parts-returns-in_default-clause-started t c =
    let before = c.loop-i.invariant in
    let e = bindings_of c.loop-i.cells c.loop-i.slots in
    record {
      answers =
          sym before.so_far
          ∙ (starts_missing c.args.cells.now c.args.parts.now c.args.own c.args.fillings.now c.args.free c.loop-i.i
          c.index-parts-i.result e c.loop-i-test.true c.in_default.ensures.lookup.3
          ∙ ap (λ does. extended does e) (sym c.is_some.ensures));
      binds = before.binds;
      below = before.below;
    }

pub start_parts-returns-in_err-start_part-clause-started : goal.start_parts-returns-in_err-start_part-clause-started
start_parts-returns-in_err-start_part-clause-started t c =
    starts_failed c.from_residual.result _ c.start_part.new.cells c.args.slots.now c.loop-i.slots c.start_part.new.slots
    c.from_residual.ensures.0 c.loop-i.invariant.binds c.in_err-start_part.ensures.started

pub start_parts-returns-then-not-branch-clause-started : goal.start_parts-returns-then-not-branch-clause-started
start_parts-returns-then-not-branch-clause-started t c =
    let before = c.loop-i.invariant in
    let e = bindings_of c.loop-i.cells c.loop-i.slots in
    then_fails
    (start_parts (patterns_of (drop (c.loop-i.i + 1) c.args.parts.now)) c.args.own
    (fillings_of c.args.cells.now (drop (c.loop-i.i + 1) c.args.fillings.now)) c.args.free) _
    (sym before.so_far
    ∙ starts_next c.args.cells.now c.loop-i.cells c.args.parts.now c.args.own c.args.fillings.now c.args.free c.loop-i.i
    c.index-parts-i.result c.in-Some.filling.now e before.grows c.requires.fillings c.loop-i-test.true
    c.index-parts-i.is c.in-Some.ensures.lookup.3.0 c.in-Some.ensures.lookup.1)
    c.if-not-branch.true before.binds c.in_ok-start_part.ensures.started

pub start_parts-loop-i-preserved : goal.start_parts-loop-i-preserved
start_parts-loop-i-preserved t c =
    let before = c.loop-i.invariant in
    let e = bindings_of c.loop-i.cells c.loop-i.slots in
    let started = c.in_ok-start_part.ensures.started in
    let grows = c.in_ok-start_part.ensures.cells in
    record {
      within = omega (arith, c.in-Some.ensures.lookup.3.0);
      grows = grows_on c.args.cells.now c.loop-i.cells c.start_part.new.cells before.grows grows;
      binds = binds_through c.args.slots.now c.loop-i.slots c.start_part.new.slots before.binds started.binds;
      below = started.below;
      fillings = all_below_grow _ _ c.args.fillings.now (grows_length c.loop-i.cells c.start_part.new.cells grows)
          before.fillings;
      so_far =
          then_goes_on
          (start_parts (patterns_of (drop (c.loop-i.i + 1) c.args.parts.now)) c.args.own
          (fillings_of c.args.cells.now (drop (c.loop-i.i + 1) c.args.fillings.now)) c.args.free) _
          (sym before.so_far
          ∙ starts_next c.args.cells.now c.loop-i.cells c.args.parts.now c.args.own c.args.fillings.now c.args.free
          c.loop-i.i c.index-parts-i.result c.in-Some.filling.now e before.grows c.requires.fillings
          c.loop-i-test.true c.index-parts-i.is c.in-Some.ensures.lookup.3.0 c.in-Some.ensures.lookup.1)
          c.if-not-branch.false started;
    }

pub start_parts-start_behind-requires-clause-left : goal.start_parts-start_behind-requires-clause-left
start_parts-start_behind-requires-clause-left t c =
    rw take_rest
    (All-drop (λ f. is_below (length c.loop-i.cells) f ≡ true) (length c.args.parts.now) c.args.fillings.now
    c.loop-i.invariant.fillings)

pub start_parts-returns-clause-started : goal.start_parts-returns-clause-started
start_parts-returns-clause-started t c =
    let old = c.args.cells.now in
    let cells = c.loop-i.cells in
    let e = bindings_of cells c.loop-i.slots in
    let fs = c.args.fillings.now in
    let before = c.loop-i.invariant in
    starts_above c.start_behind.result _ c.start_behind.new.cells c.args.slots.now c.loop-i.slots
    c.start_behind.new.slots before.binds
    (starts_same c.start_behind.result _ c.start_behind.new.cells c.loop-i.slots c.start_behind.new.slots
    (sym before.so_far
    ∙ (starts_rest old cells c.args.parts.now c.args.own fs c.args.free c.loop-i.i e before.grows c.requires.fillings
    (omega arith)
    ∙ ap (λ gs. start_parts NoPattern c.args.own (fillings_of cells gs) c.args.free e)
    (sym (take_rest fs (length c.args.parts.now)))))
    c.start_behind.ensures.started)

pub start_part-returns-in-Known-clause-cells : goal.start_part-returns-in-Known-clause-cells
start_part-returns-in-Known-clause-cells t c = grows_self c.args.cells.now

pub start_part-returns-in-Free-clause-cells : goal.start_part-returns-in-Free-clause-cells
start_part-returns-in-Free-clause-cells t c = grows_self c.args.cells.now

pub start_part-returns-in-Var-clause-cells : goal.start_part-returns-in-Var-clause-cells
start_part-returns-in-Var-clause-cells t c = grows_self c.args.cells.now

pub start_part-returns-in-Sym-clause-cells : goal.start_part-returns-in-Sym-clause-cells
start_part-returns-in-Sym-clause-cells t c = grows_self c.args.cells.now

pub start_part-returns-in-Sym-2-clause-cells : goal.start_part-returns-in-Sym-2-clause-cells
start_part-returns-in-Sym-2-clause-cells t c = grows_self c.args.cells.now

pub start_part-returns-in-Sym-3-clause-cells : goal.start_part-returns-in-Sym-3-clause-cells
start_part-returns-in-Sym-3-clause-cells t c = grows_self c.args.cells.now

pub start_part-returns-in-List-kind-clause-cells : goal.start_part-returns-in-List-kind-clause-cells
start_part-returns-in-List-kind-clause-cells t c = c.start_parts.ensures.cells

pub start_parts-start_behind-requires-clause-slots : goal.start_parts-start_behind-requires-clause-slots
start_parts-start_behind-requires-clause-slots t c = c.loop-i.invariant.below

pub start_parts-returns-in_default-clause-cells : goal.start_parts-returns-in_default-clause-cells
start_parts-returns-in_default-clause-cells t c = c.loop-i.invariant.grows

pub start_parts-returns-in_err-start_part-clause-cells : goal.start_parts-returns-in_err-start_part-clause-cells
start_parts-returns-in_err-start_part-clause-cells t c =
    grows_on c.args.cells.now c.loop-i.cells c.start_part.new.cells c.loop-i.invariant.grows c.start_part.ensures.cells

pub start_parts-returns-then-not-branch-clause-cells : goal.start_parts-returns-then-not-branch-clause-cells
start_parts-returns-then-not-branch-clause-cells t c =
    grows_on c.args.cells.now c.loop-i.cells c.start_part.new.cells c.loop-i.invariant.grows c.start_part.ensures.cells

pub start_parts-returns-clause-cells : goal.start_parts-returns-clause-cells
start_parts-returns-clause-cells t c =
    grows_on c.args.cells.now c.loop-i.cells c.start_behind.new.cells c.loop-i.invariant.grows
    c.start_behind.ensures.cells

pub start_parts-loop-i-init : goal.start_parts-loop-i-init
start_parts-loop-i-init t c = record {
  within = omega arith;
  grows = grows_self c.args.cells.now;
  binds = binds_self c.args.slots.now;
  below = c.requires.slots;
  fillings = c.requires.fillings;
  so_far = refl;
}
