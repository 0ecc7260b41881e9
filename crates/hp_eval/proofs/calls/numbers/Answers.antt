use Rattle.std.proofs.Common.{◌≡◌, ℕ, List, [], ◌∷◌, ◌++◌, map, Result, Ok, ℤ, FitsSigned, refl, ap, sym, ◌∙◌, rules, arith}
use Rattle.std.specs.Int.{w64}
use Rattle.std.proofs.lemmas.Int.{to_z-of_z}
use Rattle.std.proofs.lemmas.Result.{err_from_is_err_and}
use Rattle.hp_syntax.specs.declared.pattern.Span.{Span}
use Rattle.hp_syntax.specs.declared.fault.RunFault.{RunFault}
use Rattle.hp_syntax.specs.Terms.{Term}
use Rattle.hp_syntax.specs.Calls as plain
use Rattle.hp_syntax.specs.Values.{on_ok}
use Rattle.hp_eval.specs.CallRows.{number_of, all_numbers}
use Rattle.hp_eval.specs.GoalViews.{term_at, row_of}
use Rattle.hp_eval.proofs.Loops.{values_more, values_stop, values_all, list_in_front}
use Rattle.hp_eval.proofs.ListViews.{numbers_step}
use Rattle.hp_eval.proofs.calls.numbers.Goals as goal

-- the number at a cell, and those at cells
abbrev one : Span → List Term → ℕ → Result ℤ RunFault
one s terms cell = number_of s (term_at terms cell)

abbrev all : Span → List Term → List ℕ → Result (List ℤ) RunFault
all s terms cells = all_numbers s (plain.numbers (row_of (map (term_at terms) cells)))

-- the numbers at cells are that at the first and those at the others
step : (s : Span) (terms : List Term) (cell : ℕ) (cells : List ℕ)
    → all s terms (cell ∷ cells) ≡ on_ok (one s terms cell) (λ n. on_ok (all s terms cells) (λ ns. Ok (n ∷ ns)))
step s terms cell cells = numbers_step s (term_at terms cell) (row_of (map (term_at terms) cells))

pub loop-arg-preserved : goal.loop-arg-preserved
loop-arg-preserved c =
    let s = c.args.span in
    let terms = c.args.cells.now in
    let n-fits : FitsSigned w64 c.in_ok-n.n = search rules in
    record {
      room = omega arith;
      so_far =
          values_more (one s terms) (all s terms) ◌∷◌ (step s terms)
          c.args.args.now c.loop-arg.arg-index c.arg-item.result c.loop-arg.found.items (all s terms c.args.args.now)
          c.loop-arg-test.true c.arg-item.is c.loop-arg.invariant.so_far c.in_ok-n.n c.push_reserved.new.self.items
          (sym c.in_ok-n.ensures)
          (c.push_reserved.ensures.items
          ∙ ap (λ n. c.loop-arg.found.items ++ n ∷ []) (to_z-of_z w64 c.in_ok-n.n n-fits));
    }

pub returns-in_err-n : goal.returns-in_err-n
returns-in_err-n c =
    let s = c.args.span in
    let terms = c.args.cells.now in
    let p = err_from_is_err_and c.from_residual-in_err-n.result c.from_residual-in_err-n.ensures.1 in
    rw (p.1, p.2)
    (values_stop (one s terms) (all s terms) ◌∷◌ (step s terms)
    c.args.args.now c.loop-arg.arg-index c.arg-item.result c.loop-arg.found.items (all s terms c.args.args.now)
    c.loop-arg-test.true c.arg-item.is c.loop-arg.invariant.so_far c.in_err-n.field-0.0 (sym c.in_err-n.ensures))

pub returns : goal.returns
returns c =
    let s = c.args.span in
    let terms = c.args.cells.now in
    values_all (one s terms) (all s terms) ◌∷◌ (step s terms) (Ok [])
    c.args.args.now c.loop-arg.arg-index c.loop-arg.found.items (all s terms c.args.args.now) refl
    c.loop-arg-test.false c.loop-arg.invariant.so_far
    ∙ ap Ok (list_in_front c.loop-arg.found.items)
