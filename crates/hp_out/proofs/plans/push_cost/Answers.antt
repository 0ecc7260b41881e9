use Rattle.std.proofs.Common.{◌≡◌, ◌∙◌, ◌/◌, ◌%◌, ℕ, ℤ, [], FitsSigned, to_z, of_z, cond, pos, codes, ap, rules}
use Rattle.std.specs.Prelude.{decimal, int_lt, unsigned_abs}
use Rattle.std.specs.Int.{w128}
use Rattle.std.proofs.lemmas.Int.{to_z-of_z}
use Rattle.hp_syntax.specs.TermTexts.{decimals_text}
use Rattle.hp_out.proofs.PageSteps.{puts_same}
use Rattle.hp_out.proofs.ReportSteps.{cost_words}
use Rattle.hp_out.proofs.plans.push_cost.Goals as goal

-- the word, a sign, digits and decimals, one behind the other
pub returns-clause-puts : goal.returns-clause-puts
returns-clause-puts g c =
    let n = c.args.cost in
    let fits : FitsSigned w128 n = search rules in
    let same : to_z w128 (of_z w128 n) ≡ n = to_z-of_z w128 n fits in
    let size : c.unsigned_abs-magnitude.result ≡ unsigned_abs n =
    c.unsigned_abs-magnitude.ensures.value ∙ ap unsigned_abs same in
    puts_same c.push_all.result _ _ _ _
    (cost_words c.args.word.now n c.sign.result.now c.as_bytes-digits.result.now c.as_bytes.result.now
    (c.sign.ensures ∙ ap (λ (m : ℤ). cond (int_lt m (pos 0)) (codes "-") []) same)
    (c.as_bytes-digits.ensures.value ∙ c.format.ensures.text ∙ ap (λ (m : ℕ). decimal (m / 1000)) size)
    (c.as_bytes.ensures ∙ c.new-decimals.ensures ∙ ap (λ (m : ℕ). decimals_text (m % 1000)) size))
    c.push_all.ensures.puts
