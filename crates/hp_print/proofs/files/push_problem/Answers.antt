use Rattle.std.proofs.Common.{◌++◌, codes, append_assoc}
use Rattle.hp_syntax.specs.Written.{problem_text}
use Rattle.hp_print.proofs.WrittenTexts.{ended}
use Rattle.hp_print.proofs.files.push_problem.Goals as goal

pub returns : goal.returns
unfolding problem_text
returns c =
    let begun = rw (c.bytes.ensures.same, c.bytes-2.ensures.same) at c.in_ok-push_all.ensures in
    let written = rw (begun, c.as_slice.ensures.value, c.as_slice-2.ensures.value) at c.in_ok-push_pairs.ensures in
    ended c.extend_from_slice.result _ (c.push_pairs.new.text.items ++ codes ")\n") _ _
    c.extend_from_slice.ensures.items (rw written (simp append_assoc))
