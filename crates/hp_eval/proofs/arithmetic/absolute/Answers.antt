use Rattle.std.proofs.Common.{ap, sym, ◌∙◌, pos, unsigned_abs, to_z, of_z, FitsSigned, get_or, rules}
use Rattle.std.specs.Int.{w64}
use Rattle.std.proofs.lemmas.Int.{to_z-of_z}
use Rattle.hp_syntax.specs.Calls as plain
use Rattle.hp_eval.proofs.CallRowLemmas.{size_iff, of_one_first}
use Rattle.hp_eval.proofs.arithmetic.absolute.Goals as goal

pub returns-in-len1 : goal.returns-in-len1
returns-in-len1 c =
    let n = get_or c.args.numbers.now 0 (pos 0) in
    let n-fits : FitsSigned w64 n = search rules in
    let m-fits : FitsSigned w64 (to_z w64 (of_z w64 n)) = search rules in
    c.number.ensures _ (size_iff c.checked_abs.result (to_z w64 (of_z w64 n)) m-fits c.checked_abs.ensures)
    ∙ (ap (λ k. plain.number c.args.span (pos (unsigned_abs k))) (to_z-of_z w64 n n-fits)
    ∙ sym (of_one_first (λ s k. plain.number s (pos (unsigned_abs k))) c.args.span c.args.numbers.now
    c.in-len1.len_at_least c.in-len1.len_below))
