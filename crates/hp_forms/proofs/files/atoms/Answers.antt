use Rattle.std.proofs.lemmas.Result.{err_from_is_err_and}
use Rattle.hp_syntax.specs.Grammar as grammar
use Rattle.hp_syntax.specs.Views.{atom_of}
use Rattle.hp_terms.proofs.Turns.{first_taken, none_taken, first_read, first_refused, none_is_left}
use Rattle.hp_forms.proofs.files.atoms.Goals as goal

pub returns-in_err-atom : goal.returns-in_err-atom
returns-in_err-atom c =
    let p = err_from_is_err_and c.from_residual-in_err-atom.result c.from_residual-in_err-atom.ensures.1 in
    let taken = first_taken c.loop-node.node-iterator c.next.new.self _ c.in-Some.node
    c.in-Some.is c.next.ensures.steps in
    rw (p.1, p.2) (first_refused atom_of (grammar.atom grammar.InProblem) c.loop-node.atoms.items _ _ _
    c.loop-node.invariant _ _ c.in_err-atom.field-0.0 taken c.in_err-atom.ensures)

pub loop-node-preserved : goal.loop-node-preserved
loop-node-preserved c =
    let taken = first_taken c.loop-node.node-iterator c.next.new.self _ c.in-Some.node
    c.in-Some.is c.next.ensures.steps in
    rw c.in_ok-push.ensures.items (first_read atom_of (grammar.atom grammar.InProblem) c.loop-node.atoms.items _ _ _
    c.loop-node.invariant _ _ _ _ taken c.in_ok-atom.ensures)

pub returns : goal.returns
returns c =
    let none = none_taken c.loop-node.node-iterator c.next.new.self _ c.in-None.is c.next.ensures.steps in
    none_is_left atom_of (grammar.atom grammar.InProblem) c.loop-node.atoms.items _ _ _ c.loop-node.invariant none
