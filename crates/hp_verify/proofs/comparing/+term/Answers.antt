use Rattle.std.proofs.Common.{FitsSigned, arith, rules, ap, sym, ◌∙◌}
use Rattle.std.specs.Int.{w64}
use Rattle.std.proofs.lemmas.Int.{to_z-of_z}
use Rattle.hp_best.proofs.GroundSteps.{cons_shown, tail_list}
use Rattle.hp_cells.specs.Compared.{is_number}
use Rattle.hp_cells.specs.Keys.{parts_of}
use Rattle.hp_eval.proofs.AttemptLemmas.{names_list}
use Rattle.hp_eval.proofs.CellViews.{named_at}
use Rattle.hp_eval.specs.GoalViews.{term_at}
use Rattle.hp_syntax.specs.GroundViews.{grounds_of}
use Rattle.hp_syntax.specs.Terms.{same_terms}
use Rattle.hp_verify.proofs.ComparedSteps.{listed_same, number_same, part_differs, part_same, parts_end, parts_missing, symbol_same, unlisted_same}
use Rattle.hp_verify.proofs.comparing.+term.Goals as goal

-- ---- the parts of a list

pub are_parts-returns-in_default : goal.are_parts-returns-in_default
are_parts-returns-in_default t c =
    let held = c.loop-part.invariant in
    parts_missing c.args.parts.now c.loop-part.part-index c.part-item.result c.args.cells.now c.loop-part.rest
    c.loop-part-test.true c.get.result held.list c.get.ensures.shows c.in_default.not-Cons
    ∙ held.so_far

pub are_parts-returns-then-not-is_term : goal.are_parts-returns-then-not-is_term
are_parts-returns-then-not-is_term t c =
    let held = c.loop-part.invariant in
    let head = c.in-Cons.head in
    let tail = c.in-Cons.tail in
    part_differs c.args.parts.now c.loop-part.part-index c.part-item.result c.args.cells.now c.loop-part.rest
    c.loop-part-test.true head tail c.part-item.is
    (cons_shown c.args.cells.now c.loop-part.rest head tail held.list c.in-Cons.ensures.shows)
    (sym c.is_term.ensures ∙ c.if-not-is_term.true)
    ∙ held.so_far

pub are_parts-loop-part-preserved : goal.are_parts-loop-part-preserved
are_parts-loop-part-preserved t c =
    let terms = c.args.cells.now in
    let rest = c.loop-part.rest in
    let head = c.in-Cons.head in
    let tail = c.in-Cons.tail in
    let held = c.loop-part.invariant in
    let shown = cons_shown terms rest head tail held.list c.in-Cons.ensures.shows in
    record {
      list = tail_list terms rest head tail shown;
      back = omega (arith, c.in-Cons.ensures.earlier.1, held.back);
      so_far =
          part_same c.args.parts.now c.loop-part.part-index c.part-item.result terms rest c.loop-part-test.true head
          tail c.part-item.is shown (sym c.is_term.ensures ∙ c.if-not-is_term.false)
          ∙ held.so_far;
    }

pub are_parts-returns : goal.are_parts-returns
are_parts-returns t c =
    let held = c.loop-part.invariant in
    c.has_no_part.ensures
    ∙ (parts_end c.args.parts.now c.loop-part.part-index c.args.cells.now c.loop-part.rest c.loop-part-test.false
    ∙ held.so_far)

-- ---- a term

pub is_term-are_parts-requires : goal.is_term-are_parts-requires
is_term-are_parts-requires t c =
    let whole = c.decreases in (
      omega (arith, whole),
      names_list c.args.cells.now c.args.cell c.requires (sym c.is_listed.ensures ∙ c.if-is_listed.true),
    )

pub is_term-returns-in-Sym : goal.is_term-returns-in-Sym
is_term-returns-in-Sym t c =
    let terms = c.args.cells.now in
    let own = term_at terms c.args.cell in
    c.is_symbol.ensures own (named_at terms c.args.cell c.requires)
    ∙ symbol_same c.args.term.now c.in-Sym.name own c.in-Sym.is

pub is_term-returns-in-Num : goal.is_term-returns-in-Num
is_term-returns-in-Num t c =
    let terms = c.args.cells.now in
    let own = term_at terms c.args.cell in
    let fits : FitsSigned w64 c.in-Num.n = search rules in
    c.is_number.ensures own (named_at terms c.args.cell c.requires)
    ∙ (ap (λ n. is_number n own) (to_z-of_z w64 c.in-Num.n fits)
    ∙ number_same c.args.term.now c.in-Num.n own c.in-Num.is)

pub is_term-returns-then-is_listed : goal.is_term-returns-then-is_listed
is_term-returns-then-is_listed t c =
    let own = term_at c.args.cells.now c.args.cell in
    c.are_parts.ensures
    ∙ (ap (λ gs. same_terms (grounds_of gs) (parts_of own)) c.as_slice.ensures.value
    ∙ listed_same c.args.term.now c.in-List.parts own c.in-List.is (sym c.is_listed.ensures ∙ c.if-is_listed.true))

pub is_term-returns-else-is_listed : goal.is_term-returns-else-is_listed
is_term-returns-else-is_listed t c =
    let own = term_at c.args.cells.now c.args.cell in
    c.if-is_listed.false
    ∙ unlisted_same c.args.term.now c.in-List.parts own c.in-List.is (sym c.is_listed.ensures ∙ c.if-is_listed.false)
