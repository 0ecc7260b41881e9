use Rattle.std.proofs.Common.{codes, append_assoc}
use Rattle.hp_make.specs.Texts.{atom_text}
use Rattle.hp_make.proofs.problem.write_package.Goals as goal

pub returns : goal.returns
returns c =
    let first = atom_text (codes " (at p") c.args.number c.args.from in
    let second = atom_text (codes " (goal p") c.args.number c.args.to in
    rw (append_assoc c.args.text.now.items first second) at (rw c.in_ok-write_atom.ensures at c.write_atom-2.ensures)
