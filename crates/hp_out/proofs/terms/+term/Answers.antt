use Rattle.std.proofs.Common.{◌≡◌, ◌<◌, ◌++◌, FitsSigned, w64, ap, arith, codes, length, refl, rules, ◌∙◌}
use Rattle.std.proofs.lemmas.Int.{to_z-of_z}
use Rattle.hp_cells.specs.Cells.{NamesList}
use Rattle.hp_cells.specs.declared.keys.View.TheVariants.{Sym, Num, Cons}
use Rattle.hp_eval.specs.GoalViews.{term_at}
use Rattle.hp_syntax.specs.Terms.{Symbol, Number}
use Rattle.hp_syntax.specs.TermTexts.{num_text, term_text}
use Rattle.hp_out.proofs.PageSteps.{first_not_put, rest_put, rest_of_whole, part_not_put, less_left, puts_same}
use Rattle.hp_out.proofs.TermSteps.{shown_at, cons_shown, rest_at, head_within, tail_list, cons_text, parts_text, symbol_text, number_text, end_text}
use Rattle.hp_out.proofs.terms.+term.Goals as goal

-- ---- what follows in a list

pub push_parts-returns-in_err-push-clause-puts : goal.push_parts-returns-in_err-push-clause-puts
push_parts-returns-in_err-push-clause-puts g t c =
    let terms = c.args.cells.now in
    let rest = c.loop-head.rest in
    let shown =
    cons_shown terms rest c.in-Cons.head c.in-Cons.tail c.loop-head.invariant.list c.in-Cons.ensures.shows in
    part_not_put _ _ _ (codes " ") (term_text (term_at terms c.in-Cons.head) ++ rest_at terms c.in-Cons.tail) _ _ _ _ _
    c.from_residual.ensures.0 c.in_err-push.was c.loop-head.invariant.put c.push.ensures.puts
    (parts_text terms rest c.in-Cons.head c.in-Cons.tail shown)

pub push_parts-push_term-requires : goal.push_parts-push_term-requires
push_parts-push_term-requires g t c κs within =
    let terms = c.args.cells.now in
    let rest = c.loop-head.rest in
    let shown =
    cons_shown terms rest c.in-Cons.head c.in-Cons.tail c.loop-head.invariant.list c.in-Cons.ensures.shows in
    let named : c.in-Cons.head < length terms = head_within terms rest c.in-Cons.head c.in-Cons.tail shown in
    let earlier : c.in-Cons.head < rest = c.in-Cons.ensures.earlier.0 in
    let back = c.loop-head.invariant.back in
    let less : c.in-Cons.head < t = omega arith in
    search rules

pub push_parts-returns-in_err-push_term-clause-puts : goal.push_parts-returns-in_err-push_term-clause-puts
push_parts-returns-in_err-push_term-clause-puts g t c =
    let terms = c.args.cells.now in
    let rest = c.loop-head.rest in
    let shown =
    cons_shown terms rest c.in-Cons.head c.in-Cons.tail c.loop-head.invariant.list c.in-Cons.ensures.shows in
    let first = term_text (term_at terms c.in-Cons.head) in
    let others = rest_at terms c.in-Cons.tail in
    part_not_put _ _ _ first others (first ++ others) _ _ _ _ c.from_residual-in_err-push_term.ensures.0
    c.in_err-push_term.was
    (less_left (codes " ") (first ++ others) _ _ _ _ _ c.loop-head.invariant.put c.in_ok-push.ensures.puts
    (parts_text terms rest c.in-Cons.head c.in-Cons.tail shown))
    c.push_term.ensures.puts refl

pub push_parts-loop-head-preserved : goal.push_parts-loop-head-preserved
push_parts-loop-head-preserved g t c =
    let terms = c.args.cells.now in
    let rest = c.loop-head.rest in
    let shown =
    cons_shown terms rest c.in-Cons.head c.in-Cons.tail c.loop-head.invariant.list c.in-Cons.ensures.shows in
    let first = term_text (term_at terms c.in-Cons.head) in
    let others = rest_at terms c.in-Cons.tail in
    record {
      list = tail_list terms rest c.in-Cons.head c.in-Cons.tail shown;
      back = omega (arith, c.in-Cons.ensures.earlier.1, c.loop-head.invariant.back);
      put =
          less_left first others (first ++ others) _ _ _ _
          (less_left (codes " ") (first ++ others) _ _ _ _ _ c.loop-head.invariant.put c.in_ok-push.ensures.puts
          (parts_text terms rest c.in-Cons.head c.in-Cons.tail shown))
          c.in_ok-push_term.ensures.puts refl;
      later =
          omega (arith, c.loop-head.invariant.later, c.in_ok-push.ensures.later, c.in_ok-push_term.ensures.later);
    }

pub push_parts-returns : goal.push_parts-returns
push_parts-returns g t c =
    let terms = c.args.cells.now in
    let rest = c.loop-head.rest in
    let later = c.loop-head.invariant.later in
    record {
      puts =
          rest_of_whole c.push-2.result _ _ _ _ _ c.loop-head.invariant.put
          (puts_same c.push-2.result _ _ _ _
          (end_text terms rest c.get.result c.loop-head.invariant.list c.get.ensures.shows c.in_default.not-Cons)
          c.push-2.ensures.puts);
      later = omega (arith, later, c.push-2.ensures.later);
      cause = search rules;
    }

-- ---- a term

pub push_term-returns-in_err-push-in-Cons-clause-puts : goal.push_term-returns-in_err-push-in-Cons-clause-puts
push_term-returns-in_err-push-in-Cons-clause-puts g t c =
    let terms = c.args.cells.now in
    let shown = shown_at terms c.args.cell (Cons c.in-Cons.head c.in-Cons.tail) c.requires c.in-Cons.ensures.shows in
    first_not_put _ _ _ (codes "(") (term_text (term_at terms c.in-Cons.head) ++ rest_at terms c.in-Cons.tail) _ _ _
    c.from_residual.ensures.0 c.in_err-push-in-Cons.was c.push-in-Cons.ensures.puts
    (cons_text terms c.args.cell c.in-Cons.head c.in-Cons.tail shown)

pub push_term-returns-in_err-push_term-in-Cons-clause-puts :
    goal.push_term-returns-in_err-push_term-in-Cons-clause-puts
push_term-returns-in_err-push_term-in-Cons-clause-puts g t c =
    let terms = c.args.cells.now in
    let shown = shown_at terms c.args.cell (Cons c.in-Cons.head c.in-Cons.tail) c.requires c.in-Cons.ensures.shows in
    let first = term_text (term_at terms c.in-Cons.head) in
    let others = rest_at terms c.in-Cons.tail in
    rest_put _ (codes "(") (first ++ others) _ _ _ _ c.in_ok-push-in-Cons.ensures.puts
    (first_not_put _ _ _ first others (first ++ others) _ _ c.from_residual-in_err-push_term-in-Cons.ensures.0
    c.in_err-push_term-in-Cons.was c.push_term.ensures.puts refl)
    (cons_text terms c.args.cell c.in-Cons.head c.in-Cons.tail shown)

pub push_term-push_parts-requires : goal.push_term-push_parts-requires
push_term-push_parts-requires g t c κs within =
    let terms = c.args.cells.now in
    let shown = shown_at terms c.args.cell (Cons c.in-Cons.head c.in-Cons.tail) c.requires c.in-Cons.ensures.shows in
    let named : NamesList terms c.in-Cons.tail = tail_list terms c.args.cell c.in-Cons.head c.in-Cons.tail shown in
    let earlier : c.in-Cons.tail < c.args.cell = c.in-Cons.ensures.earlier.1 in
    let less : c.in-Cons.tail < t = omega arith in
    search rules

pub push_term-returns-in-Sym-clause-puts : goal.push_term-returns-in-Sym-clause-puts
push_term-returns-in-Sym-clause-puts g t c =
    let terms = c.args.cells.now in
    let name = c.in-Sym.name.now in
    let shown : term_at terms c.args.cell ≡ Symbol name =
    shown_at terms c.args.cell (Sym c.in-Sym.name) c.requires c.in-Sym.ensures.shows in
    puts_same c.push-in-Sym.result _ _ _ _ (c.bytes.ensures.same ∙ symbol_text name (term_at terms c.args.cell) shown)
    c.push-in-Sym.ensures.puts

pub push_term-returns-in-Num-clause-puts : goal.push_term-returns-in-Num-clause-puts
push_term-returns-in-Num-clause-puts g t c =
    let terms = c.args.cells.now in
    let n = c.in-Num.n in
    let fits : FitsSigned w64 n = search rules in
    let shown : term_at terms c.args.cell ≡ Number n =
    shown_at terms c.args.cell (Num n) c.requires c.in-Num.ensures.shows in
    puts_same c.push_number.result _ _ _ _
    (ap num_text (to_z-of_z w64 n fits) ∙ number_text n (term_at terms c.args.cell) shown)
    c.push_number.ensures.puts

pub push_term-returns-in_ok-push_term-in-Cons-clause-puts : goal.push_term-returns-in_ok-push_term-in-Cons-clause-puts
push_term-returns-in_ok-push_term-in-Cons-clause-puts g t c =
    let terms = c.args.cells.now in
    let shown = shown_at terms c.args.cell (Cons c.in-Cons.head c.in-Cons.tail) c.requires c.in-Cons.ensures.shows in
    let first = term_text (term_at terms c.in-Cons.head) in
    let others = rest_at terms c.in-Cons.tail in
    rest_put _ (codes "(") (first ++ others) _ _ _ _ c.in_ok-push-in-Cons.ensures.puts
    (rest_put _ first others (first ++ others) _ _ _ c.in_ok-push_term-in-Cons.ensures.puts c.push_parts.ensures.puts
    refl)
    (cons_text terms c.args.cell c.in-Cons.head c.in-Cons.tail shown)
