use Rattle.std.proofs.Common.{◌++◌, codes, append_assoc}
use Rattle.hp_print.proofs.WrittenTexts.{ended}
use Rattle.hp_top.specs.Making.{made_lines}
use Rattle.hp_top.proofs.summing.push_made.Goals as goal

pub returns : goal.returns
unfolding made_lines
returns c =
    let counted =
    rw (c.in_ok-push_making.ensures, c.atoms_written.ensures, c.as_slice.ensures.value) at c.in_ok-push_count.ensures in
    ended c.extend_from_slice.result _ (c.push_count.new.text.items ++ codes "\n") _ _
    c.extend_from_slice.ensures.items (rw counted (simp append_assoc))
