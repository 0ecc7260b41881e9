use Rattle.std.proofs.Common.{codes, refl}
use Rattle.hp_syntax.specs.Views.{atom_of, atoms_of}
use Rattle.hp_syntax.specs.Written as written
use Rattle.hp_syntax.specs.Written.{node_text, rest_text}
use Rattle.hp_print.proofs.WrittenLists.{spaced_on, all_and_more}
use Rattle.hp_print.proofs.terms.push_more_atoms.Goals as goal

pub loop-atom-preserved : goal.loop-atom-preserved
unfolding rest_text
loop-atom-preserved c =
    let vars = c.args.vars.now in
    spaced_on (λ as'. rest_text (written.atoms vars (atoms_of as'))) (λ a. node_text (written.atom vars (atom_of a)))
    c.args.atoms.now c.loop-atom.atom-index c.atom-item.result c.loop-atom.text.items c.push.new.self.items _ _
    (λ a as'. refl) c.loop-atom-test.true c.atom-item.is c.loop-atom.invariant c.in_ok-push.ensures.items
    c.in_ok-push_atom.ensures

pub returns : goal.returns
unfolding rest_text
returns c =
    all_and_more c.extend_from_slice.result (λ as'. rest_text (written.atoms c.args.vars.now (atoms_of as')))
    c.args.atoms.now c.loop-atom.atom-index c.loop-atom.text.items _ _ c.loop-atom-test.false c.loop-atom.invariant
    (codes ")") refl c.extend_from_slice.ensures.items
