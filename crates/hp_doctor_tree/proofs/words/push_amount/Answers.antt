use Rattle.std.proofs.Common.{◌≡◌, ◌∙◌, ◌/◌, ◌%◌, ℕ, ℤ, [], FitsSigned, to_z, of_z, cond, pos, codes, ap, rules}
use Rattle.std.specs.Prelude.{decimal, int_lt, unsigned_abs}
use Rattle.std.specs.Int.{w128}
use Rattle.std.proofs.lemmas.Int.{to_z-of_z}
use Rattle.hp_syntax.specs.TermTexts.{decimals_text}
use Rattle.hp_doctor_tree.proofs.TextSteps.{amount_put}
use Rattle.hp_doctor_tree.proofs.words.push_amount.Goals as goal

-- a sign, digits and decimals, one behind the other
pub returns : goal.returns
returns c =
    let n = c.args.amount in
    let fits : FitsSigned w128 n = search rules in
    let same : to_z w128 (of_z w128 n) ≡ n = to_z-of_z w128 n fits in
    let size : c.unsigned_abs-magnitude.result ≡ unsigned_abs n =
    c.unsigned_abs-magnitude.ensures.value ∙ ap unsigned_abs same in
    amount_put n c.args.out.now.items c.extend_from_slice.new.self.items c.extend_from_slice-2.new.self.items
    c.extend_from_slice-3.new.self.items c.sign.result.now c.as_bytes.result.now c.as_bytes-2.result.now
    c.in_ok-extend_from_slice.ensures.items c.in_ok-extend_from_slice-2.ensures.items
    c.in_ok-extend_from_slice-3.ensures.items
    (c.sign.ensures ∙ ap (λ (m : ℤ). cond (int_lt m (pos 0)) (codes "-") []) same)
    (c.as_bytes.ensures.value ∙ c.format.ensures.text ∙ ap (λ (m : ℕ). decimal (m / 1000)) size)
    (c.as_bytes-2.ensures ∙ c.new-decimals.ensures ∙ ap (λ (m : ℕ). decimals_text (m % 1000)) size)
