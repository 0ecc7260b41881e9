use Rattle.std.proofs.Common.{◌≡◌, ◌<◌, length, refl, ap, sym, ◌∙◌, subst, map, Some, inl, inr, FitsSigned, rules, arith}
use Rattle.std.specs.Int.{w64}
use Rattle.std.specs.List.{All}
use Rattle.std.proofs.lemmas.Int.{to_z-of_z}
use Rattle.std.proofs.lemmas.List.Elements.{All-nil}
use Rattle.std.proofs.lemmas.Option.{slice_get_within}
use Rattle.hp_syntax.specs.GroundPatterns.{AreGroundPatterns, term_said, terms_said}
use Rattle.hp_syntax.specs.Terms.{Number, Listed}
use Rattle.hp_syntax.specs.Views.{pattern_of, patterns_of}
use Rattle.hp_eval.specs.GoalViews.{term_at}
use Rattle.hp_eval.proofs.CellViews.{named_at, at_named}
use Rattle.hp_eval.proofs.ListSteps.{interns_grows}
use Rattle.hp_eval.proofs.GroundSteps.{first_ground, said_more, said_all, said-sym, said-num, said-list, ground-var, ground-call, ground-list}
use Rattle.hp_eval.proofs.GrowthLemmas.{grows_on, grows_self, grows_same}
use Rattle.hp_eval.proofs.ValueSteps.{terms_pushed, below_pushed}
use Rattle.hp_eval.specs.Steps.{onto}
use Rattle.hp_eval.proofs.Sizes.{pattern-smaller, list-size}
use Rattle.hp_eval.proofs.grounds.+ground.Goals as goal

-- ---- parts

pub ground_parts-loop-part-preserved : goal.ground_parts-loop-part-preserved
ground_parts-loop-part-preserved t c =
    let old = c.loop-part.cells in
    let new = c.ground_term.new.cells in
    let ps = c.args.parts.now in
    let i = c.loop-part.part-index in
    let p = c.part-item.result in
    let found = c.loop-part.found.items in
    let pushed = c.push_reserved.new.self.items in
    let cell = c.in_ok-cell.cell in
    let held = c.loop-part.invariant in
    let got = c.in_ok-cell.ensures in
    let names = named_at new cell got.below in
    record {
      grows = grows_on c.args.cells.now old new held.grows got.cells;
      room = omega arith;
      below =
          below_pushed old new got.cells found pushed cell (term_at new cell) held.below c.push_reserved.ensures.items
          names;
      left = (first_ground ps i p c.loop-part-test.true c.part-item.is held.left).1;
      so_far =
          said_more ps i p c.loop-part-test.true c.part-item.is (map (term_at old) found) (map (term_at new) pushed)
          (terms_said (patterns_of ps)) held.so_far
          (terms_pushed old new got.cells found pushed cell (term_said (pattern_of p)) held.below
          c.push_reserved.ensures.items (names ∙ ap Some got.term));
    }

pub ground_parts-returns-clause-terms : goal.ground_parts-returns-clause-terms
ground_parts-returns-clause-terms t c =
    said_all c.args.parts.now c.loop-part.part-index (map (term_at c.loop-part.cells) c.loop-part.found.items) _
    c.loop-part-test.false c.loop-part.invariant.so_far

pub ground_parts-returns-clause-below : goal.ground_parts-returns-clause-below
ground_parts-returns-clause-below t c = c.loop-part.invariant.below

pub ground_parts-returns-clause-cells : goal.ground_parts-returns-clause-cells
ground_parts-returns-clause-cells t c = c.loop-part.invariant.grows

pub ground_parts-returns-in_err-found-clause-cells : goal.ground_parts-returns-in_err-found-clause-cells
ground_parts-returns-in_err-found-clause-cells t c = grows_self c.args.cells.now

pub ground_parts-returns-in_err-cell-clause-cells : goal.ground_parts-returns-in_err-cell-clause-cells
ground_parts-returns-in_err-cell-clause-cells t c =
    grows_on c.args.cells.now c.loop-part.cells c.ground_term.new.cells c.loop-part.invariant.grows
    c.ground_term.ensures.cells

-- ---- patterns

pub ground_term-ground_list-requires : goal.ground_term-ground_list-requires
ground_term-ground_list-requires t c =
    let size = list-size c.args.pat.now c.as_slice.result.now c.in-List.parts c.in-List.field-1 c.in-List.is
    c.as_slice.ensures.value in
    let whole = c.decreases in (
      omega (arith, size, whole),
      subst (λ ps. AreGroundPatterns (patterns_of ps)) (sym c.as_slice.ensures.value)
          (ground-list c.args.pat.now c.requires.ground c.in-List.parts c.in-List.field-1 c.in-List.is),
    )

pub ground_term-returns-in_ok-cell-in-Sym-clause-term : goal.ground_term-returns-in_ok-cell-in-Sym-clause-term
ground_term-returns-in_ok-cell-in-Sym-clause-term t c =
    at_named c.sym.new.self c.in_ok-cell-in-Sym.cell _ c.in_ok-cell-in-Sym.ensures.ok.names
    ∙ sym (said-sym c.args.pat.now c.in-Sym.name c.in-Sym.is)

pub ground_term-returns-in_ok-cell-in-Sym-clause-below : goal.ground_term-returns-in_ok-cell-in-Sym-clause-below
ground_term-returns-in_ok-cell-in-Sym-clause-below t c =
    slice_get_within c.sym.new.self c.in_ok-cell-in-Sym.cell _ c.in_ok-cell-in-Sym.ensures.ok.names

pub ground_term-returns-in_ok-cell-in-Num-clause-term : goal.ground_term-returns-in_ok-cell-in-Num-clause-term
ground_term-returns-in_ok-cell-in-Num-clause-term t c =
    let fits : FitsSigned w64 c.in-Num.n = search rules in
    at_named c.num.new.self c.in_ok-cell-in-Num.cell _ c.in_ok-cell-in-Num.ensures.ok.names
    ∙ (ap Number (to_z-of_z w64 c.in-Num.n fits) ∙ sym (said-num c.args.pat.now c.in-Num.n c.in-Num.is))

pub ground_term-returns-in_ok-cell-in-Num-clause-below : goal.ground_term-returns-in_ok-cell-in-Num-clause-below
ground_term-returns-in_ok-cell-in-Num-clause-below t c =
    slice_get_within c.num.new.self c.in_ok-cell-in-Num.cell _ c.in_ok-cell-in-Num.ensures.ok.names

pub ground_term-returns-in_ok-cell-in-List-clause-term : goal.ground_term-returns-in_ok-cell-in-List-clause-term
ground_term-returns-in_ok-cell-in-List-clause-term t c =
    at_named c.ground_list.new.cells c.in_ok-cell-in-List.cell _ c.in_ok-cell-in-List.ensures.names
    ∙ (ap (λ ps. Listed (terms_said (patterns_of ps))) c.as_slice.ensures.value
    ∙ sym (said-list c.args.pat.now c.in-List.parts c.in-List.field-1 c.in-List.is))

pub ground_term-returns-in_ok-cell-in-List-clause-below : goal.ground_term-returns-in_ok-cell-in-List-clause-below
ground_term-returns-in_ok-cell-in-List-clause-below t c =
    slice_get_within c.ground_list.new.cells c.in_ok-cell-in-List.cell _ c.in_ok-cell-in-List.ensures.names

pub ground_term-returns-in-Var-clause-term : goal.ground_term-returns-in-Var-clause-term
ground_term-returns-in-Var-clause-term t c =
    elim c.in-Var.is [
      | inl p ↦ absurd (ground-var c.args.pat.now c.requires.ground p.0 p.1)
      | inr p ↦ absurd (ground-call c.args.pat.now c.requires.ground p.0 p.1 p.2)
    ]

-- ---- terms only grow

pub ground_term-returns-in_err-cell-in-Sym-clause-cells : goal.ground_term-returns-in_err-cell-in-Sym-clause-cells
ground_term-returns-in_err-cell-in-Sym-clause-cells t c =
    grows_same c.args.cells.now c.sym.new.self c.in_err-cell-in-Sym.ensures.err

pub ground_term-returns-in_ok-cell-in-Sym-clause-cells : goal.ground_term-returns-in_ok-cell-in-Sym-clause-cells
ground_term-returns-in_ok-cell-in-Sym-clause-cells t c =
    interns_grows _ c.in_ok-cell-in-Sym.cell c.args.cells.now c.sym.new.self c.in_ok-cell-in-Sym.ensures.ok

pub ground_term-returns-in_err-cell-in-Num-clause-cells : goal.ground_term-returns-in_err-cell-in-Num-clause-cells
ground_term-returns-in_err-cell-in-Num-clause-cells t c =
    grows_same c.args.cells.now c.num.new.self c.in_err-cell-in-Num.ensures.err

pub ground_term-returns-in_ok-cell-in-Num-clause-cells : goal.ground_term-returns-in_ok-cell-in-Num-clause-cells
ground_term-returns-in_ok-cell-in-Num-clause-cells t c =
    interns_grows _ c.in_ok-cell-in-Num.cell c.args.cells.now c.num.new.self c.in_ok-cell-in-Num.ensures.ok

pub ground_term-returns-in-Var-clause-cells : goal.ground_term-returns-in-Var-clause-cells
ground_term-returns-in-Var-clause-cells t c = grows_self c.args.cells.now

-- ---- recursion goes to smaller patterns

pub ground_list-ground_parts-requires : goal.ground_list-ground_parts-requires
ground_list-ground_parts-requires t c = let whole = c.decreases in (omega (arith, whole), c.requires.ground)

pub ground_parts-ground_term-requires : goal.ground_parts-ground_term-requires
ground_parts-ground_term-requires t c =
    let i = c.loop-part.part-index in
    let p = c.part-item.result in
    let smaller = pattern-smaller c.args.parts.now i p c.loop-part-test.true c.part-item.is in
    let whole = c.decreases in (
      omega (arith, smaller, whole),
      (first_ground c.args.parts.now i p c.loop-part-test.true c.part-item.is c.loop-part.invariant.left).0,
    )

pub ground_parts-loop-part-init : goal.ground_parts-loop-part-init
ground_parts-loop-part-init t c =
    let old = c.args.cells.now in
    let said = terms_said (patterns_of c.args.parts.now) in
    let made = c.in_ok-found.ensures in
    let items = made.items in
    record {
      grows = grows_self old;
      room = (made.len, made.capacity);
      below = subst (All (λ n. n < length old)) (sym items) (All-nil (λ n. n < length old));
      left = c.requires.ground;
      so_far = subst (λ ns. said ≡ onto (map (term_at old) ns) said) (sym items) refl;
    }

pub ground_parts-loop-part-smaller : goal.ground_parts-loop-part-smaller
ground_parts-loop-part-smaller t c = omega arith
