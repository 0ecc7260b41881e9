use Rattle.std.proofs.Common.{◌≡◌, ℕ, List, ◌++◌, codes, append_assoc, ap, sym, ◌∙◌}
use Rattle.hp_syntax.specs.Written.{operator}
use Rattle.hp_print.proofs.WrittenTexts.{ended, text_of_five}
use Rattle.hp_print.proofs.rules.push_operator.Goals as goal

-- five parts that were written one after another, with a gap between each two, from the front
spaced : (t o w a b c d e gap end : List ℕ)
    → ((((((((((((t ++ o) ++ w) ++ a) ++ gap) ++ b) ++ gap) ++ c) ++ gap) ++ d) ++ gap) ++ e) ++ end)
    ≡ t ++ (o ++ (w ++ (a ++ (gap ++ (b ++ (gap ++ (c ++ (gap ++ (d ++ (gap ++ (e ++ end)))))))))))
spaced t o w a b c d e gap end = simp append_assoc

pub returns : goal.returns
unfolding operator
returns c =
    let vars = c.as_slice-vars.ensures.value in
    let headed = rw (c.in_ok-push_atom.ensures, c.in_ok-push_begun.ensures, vars) at c.in_ok-push.ensures.items in
    let asked = rw (c.in_ok-push_precondition.ensures, headed, vars) at c.in_ok-push-2.ensures.items in
    let deleted =
    rw (c.in_ok-push_effects.ensures, asked, vars, c.as_slice.ensures.value) at c.in_ok-push-3.ensures.items in
    let added =
    rw (c.in_ok-push_effects-2.ensures, deleted, vars, c.as_slice-2.ensures.value) at c.in_ok-push-4.ensures.items in
    let written = rw (added, vars) at c.in_ok-push_pattern.ensures in
    let text = c.args.text.now.items in
    ended c.extend_from_slice.result _ (c.push_pattern.new.text.items ++ codes ")") _ _
    c.extend_from_slice.ensures.items
    (rw written (spaced _ (codes "(") (codes ":operator ") _ _ _ _ _ (codes " ") (codes ")")
    ∙ ap (λ x. text ++ x) (sym (text_of_five (codes ":operator") _ _ _ _ _))))
