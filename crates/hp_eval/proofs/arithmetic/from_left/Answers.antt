use Rattle.std.proofs.Common.{ap, ◌∙◌, pos, to_z, of_z, FitsSigned, get_or, Ok, Err, rules}
use Rattle.std.specs.Int.{w64}
use Rattle.std.proofs.lemmas.Int.{to_z-of_z}
use Rattle.std.proofs.lemmas.Result.{err_from_is_err_and}
use Rattle.hp_syntax.specs.Terms.{Number}
use Rattle.hp_eval.specs.CallRows.{step_of, answered}
use Rattle.hp_eval.proofs.CallRowLemmas.{from_left_first}
use Rattle.hp_eval.proofs.arithmetic.from_left.Goals as goal

pub returns-in_err-total-in-len1-up : goal.returns-in_err-total-in-len1-up
returns-in_err-total-in-len1-up c =
    let ns = c.args.numbers.now in
    let n-fits : FitsSigned w64 (get_or ns 0 (pos 0)) = search rules in
    let p = err_from_is_err_and c.from_residual.result c.from_residual.ensures.1 in
    ap answered p.1
    ∙ (ap (λ e. answered (Err e)) p.2
    ∙ (c.in_err-total-in-len1-up.ensures
    ∙ from_left_first (step_of c.args.function) c.args.span ns (to_z w64 (of_z w64 (get_or ns 0 (pos 0))))
    c.in-len1-up.len_at_least (to_z-of_z w64 (get_or ns 0 (pos 0)) n-fits)))

pub returns-in_ok-total-in-len1-up : goal.returns-in_ok-total-in-len1-up
returns-in_ok-total-in-len1-up c =
    let ns = c.args.numbers.now in
    let n-fits : FitsSigned w64 (get_or ns 0 (pos 0)) = search rules in
    let total-fits : FitsSigned w64 c.in_ok-total-in-len1-up.total = search rules in
    ap (λ n. Ok (Number n)) (to_z-of_z w64 c.in_ok-total-in-len1-up.total total-fits)
    ∙ (c.in_ok-total-in-len1-up.ensures
    ∙ from_left_first (step_of c.args.function) c.args.span ns (to_z w64 (of_z w64 (get_or ns 0 (pos 0))))
    c.in-len1-up.len_at_least (to_z-of_z w64 (get_or ns 0 (pos 0)) n-fits))
