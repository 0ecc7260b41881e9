use Rattle.std.proofs.Common.{FitsSigned, arith, rules, ap, ◌∙◌}
use Rattle.std.specs.Int.{w64}
use Rattle.std.proofs.lemmas.Int.{to_z-of_z}
use Rattle.hp_cells.specs.declared.keys.View.TheVariants.{Nil, Sym, Num, Cons}
use Rattle.hp_eval.specs.GoalViews.{term_at}
use Rattle.hp_syntax.specs.declared.pattern.Ground.TheVariants as grounds
use Rattle.hp_syntax.specs.GroundViews.{ground_of}
use Rattle.hp_best.proofs.GroundSteps.{cons_list, cons_shown, list_made, nil_made, number_made, part_made, parts_made, shown_at, symbol_made, tail_list}
use Rattle.hp_best.proofs.grounds.+ground.Goals as goal

-- ---- the parts of a list

pub list_parts-loop-head-preserved : goal.list_parts-loop-head-preserved
list_parts-loop-head-preserved t c =
    let terms = c.args.cells.now in
    let rest = c.loop-head.rest in
    let head = c.in-Cons.head in
    let tail = c.in-Cons.tail in
    let held = c.loop-head.invariant in
    let shown = cons_shown terms rest head tail held.list c.in-Cons.ensures.shows in
    record {
      list = tail_list terms rest head tail shown;
      back = omega (arith, c.in-Cons.ensures.earlier.1, held.back);
      so_far =
          part_made c.loop-head.parts.items c.push.new.self.items c.in_ok-part.part terms rest head tail
          c.in_ok-push.ensures.items c.in_ok-part.ensures shown
          ∙ held.so_far;
    }

pub list_parts-returns : goal.list_parts-returns
list_parts-returns t c =
    let held = c.loop-head.invariant in
    parts_made c.loop-head.parts.items c.args.cells.now c.loop-head.rest c.get.result held.list c.get.ensures.shows
    c.in_default.not-Cons
    ∙ held.so_far

-- ---- a term

pub to_ground-list_parts-requires : goal.to_ground-list_parts-requires
to_ground-list_parts-requires t c =
    let terms = c.args.cells.now in
    let shown = shown_at terms c.args.cell (Cons c.in-Cons.field-0 c.in-Cons.field-1) c.requires
    c.in-Cons.ensures.shows in
    let whole = c.decreases in (
      omega (arith, whole),
      cons_list terms c.args.cell c.in-Cons.field-0 c.in-Cons.field-1 shown c.requires,
    )

pub to_ground-returns-in-Nil : goal.to_ground-returns-in-Nil
to_ground-returns-in-Nil t c =
    nil_made c.new.result (term_at c.args.cells.now c.args.cell) c.new.ensures.items
    (shown_at c.args.cells.now c.args.cell Nil c.requires c.in-Nil.ensures.shows)

pub to_ground-returns-in_ok-own-in-Sym : goal.to_ground-returns-in_ok-own-in-Sym
to_ground-returns-in_ok-own-in-Sym t c =
    symbol_made c.in_ok-own-in-Sym.own c.in-Sym.name.now (term_at c.args.cells.now c.args.cell)
    c.in_ok-own-in-Sym.ensures.same
    (shown_at c.args.cells.now c.args.cell (Sym c.in-Sym.name) c.requires c.in-Sym.ensures.shows)

pub to_ground-returns-in-Num : goal.to_ground-returns-in-Num
to_ground-returns-in-Num t c =
    let n = c.in-Num.n in
    let fits : FitsSigned w64 n = search rules in
    ap (λ k. ground_of (grounds.Num k)) (to_z-of_z w64 n fits)
    ∙ number_made n (term_at c.args.cells.now c.args.cell)
    (shown_at c.args.cells.now c.args.cell (Num n) c.requires c.in-Num.ensures.shows)

pub to_ground-returns-in_ok-parts-in-Cons : goal.to_ground-returns-in_ok-parts-in-Cons
to_ground-returns-in_ok-parts-in-Cons t c =
    let terms = c.args.cells.now in
    let shown = shown_at terms c.args.cell (Cons c.in-Cons.field-0 c.in-Cons.field-1) c.requires
    c.in-Cons.ensures.shows in
    list_made c.in_ok-parts-in-Cons.parts terms c.args.cell c.in-Cons.field-0 c.in-Cons.field-1
    c.in_ok-parts-in-Cons.ensures shown
