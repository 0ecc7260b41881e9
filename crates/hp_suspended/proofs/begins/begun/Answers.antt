use Rattle.std.proofs.Common.{ap, refl, subst, sym}
use Rattle.std.proofs.lemmas.Result.{IfOk-weaker}
use Rattle.hp_nodes.specs.NodeViews.{laid_of, operation_of}
use Rattle.hp_syntax.specs.Views.{atom_of}
use Rattle.hp_eval.proofs.GrowthLemmas.{grows_self}
use Rattle.hp_suspended.specs.Beginning.{Begins}
use Rattle.hp_suspended.specs.Branching.{MayLast}
use Rattle.hp_suspended.specs.SceneViews.{setting_of}
use Rattle.hp_suspended.specs.Views.{view}
use Rattle.hp_suspended.proofs.NodeBegins.{begins_filled, begins_simple, no_other}
use Rattle.hp_suspended.proofs.NodeReadings.{node_is_expression}
use Rattle.hp_suspended.proofs.Shapes.{view_simple}
use Rattle.hp_suspended.proofs.begins.begun.Goals as goal

pub returns-in-Some-clause-begins : goal.returns-in-Some-clause-begins
returns-in-Some-clause-begins c =
    let s = c.args.scene.now in
    let cells = c.args.cells.now in
    subst (Begins s cells c.args.slots.now c.args.mark c.args.nest c.args.node) (sym (view_simple _))
    (begins_simple s s.code.now.kept c.args.mark c.args.nest c.args.node c.requires.node
    (laid_of c.node_at.result.now) c.node_at.ensures.is (atom_of c.in-Atom.atom) (ap operation_of c.in-Atom.is)
    cells cells (grows_self cells) c.args.slots.now c.requires.ready.bindings c.requires.mark c.in-Atom.atom refl
    c.in-Some.filter c.in-Some.ensures)

pub returns-in-None-clause-begins : goal.returns-in-None-clause-begins
returns-in-None-clause-begins c =
    let s = c.args.scene.now in
    IfOk-weaker c.begun_atom.result _ _
    (λ x h. begins_filled s s.code.now.kept c.args.mark c.args.nest c.args.node c.requires.node
    (laid_of c.node_at.result.now) c.node_at.ensures.is (atom_of c.in-Atom.atom) (ap operation_of c.in-Atom.is)
    c.args.cells.now c.begun_atom.new.cells c.begun_atom.ensures.cells c.args.slots.now c.requires.ready.bindings
    c.requires.mark (view x) h)
    c.begun_atom.ensures.begins

pub returns-in_default : goal.returns-in_default
returns-in_default c =
    let s = c.args.scene.now in
    let is =
    node_is_expression (setting_of s c.args.cells.now) c.args.nest c.args.node s.code.now.kept c.requires.node
    (laid_of c.node_at.result.now) c.node_at.ensures.is in
    let lasts = subst MayLast c.node_at.ensures.is c.requires.lasting in
    absurd (no_other c.node_at.result.now.op is lasts c.in_default.not-Atom c.in_default.not-And c.in_default.not-Or)
