-- The node of a negation or a `forall` stands after the parts before it, and its expressions after that.
use Rattle.std.proofs.Common.{is_some, refl, sym, ap, ◌∙◌}
use Rattle.std.proofs.lemmas.Result.{IfOk-weaker}
use Rattle.hp_syntax.specs.GroundPatterns.{atom_said}
use Rattle.hp_syntax.specs.ViewLaws.{expression_of-atom, expression_of-and, expression_of-or, expression_of-not, expression_of-forall, expression_of-assign, expression_of-call}
use Rattle.hp_syntax.specs.Views.{atom_of, expression_of}
use Rattle.hp_unmet.specs.Against.{against_part}
use Rattle.hp_unmet.specs.Trials.{conjunction_of, rules_tried}
use Rattle.hp_unmet.proofs.AgainstSteps.{against_forall, against_not, forall_there, none_against, not_there, part_there}
use Rattle.hp_unmet.proofs.trial.Trial.against_part.Goals as goal

pub denied_node-denied-requires : goal.denied_node-denied-requires
denied_node-denied-requires c =
    ap is_some (part_there c.args.self.now c.requires.can c.args.before c.requires.before _ c.requires.part)

pub first_after-requires-clause-node : goal.first_after-requires-clause-node
first_after-requires-clause-node c =
    let part = c.args.part.now in
    ap is_some
    (c.denied_node-denied.ensures.denied part.span _
    (not_there c.args.self.now c.requires.can c.args.before c.requires.before _ c.requires.part part.span _
    (expression_of-not part _ c.in-Not.is)))

pub denied_node-range-requires : goal.denied_node-range-requires
denied_node-range-requires c =
    ap is_some (part_there c.args.self.now c.requires.can c.args.before c.requires.before _ c.requires.part)

pub body_node-body-requires : goal.body_node-body-requires
body_node-body-requires c =
    ap is_some (part_there c.args.self.now c.requires.can c.args.before c.requires.before _ c.requires.part)

pub first_after-requires-in-Forall-clause-node : goal.first_after-requires-in-Forall-clause-node
first_after-requires-in-Forall-clause-node c =
    let part = c.args.part.now in
    ap is_some
    (c.denied_node-range.ensures.range part.span _ _ _
    (forall_there c.args.self.now c.requires.can c.args.before c.requires.before _ c.requires.part part.span _ _ _
    (expression_of-forall part _ _ _ c.in-Forall.is)))

pub first_after-requires-in-Forall-clause-test : goal.first_after-requires-in-Forall-clause-test
first_after-requires-in-Forall-clause-test c =
    let part = c.args.part.now in
    ap is_some
    (c.body_node-body.ensures part.span _ _ _
    (forall_there c.args.self.now c.requires.can c.args.before c.requires.before _ c.requires.part part.span _ _ _
    (expression_of-forall part _ _ _ c.in-Forall.is)))

pub returns-in-Not-clause-values : goal.returns-in-Not-clause-values
returns-in-Not-clause-values c =
    let s = c.args.self.now in
    let part = c.args.part.now in
    let task = atom_said (atom_of c.args.task.now) in
    let is = expression_of-not part c.in-Not.field-0 c.in-Not.is in
    let at' = c.denied_node-denied.ensures.denied part.span _
    (not_there s c.requires.can c.args.before c.requires.before _ c.requires.part part.span _ is) in
    IfOk-weaker c.first_after.result _ _
    (λ o h n at.
    against_not s c.requires.can c.args.walk.now.nest n.state task c.args.before.count o part.span
    (expression_of c.in-Not.field-0.value) c.denied_node-denied.result at' (h n at)
    ∙ ap (against_part (rules_tried s) c.args.walk.now.nest n.state task (conjunction_of s.asked) c.args.before.count)
    (sym is))
    c.first_after.ensures.values

pub returns-in-Forall-clause-values : goal.returns-in-Forall-clause-values
returns-in-Forall-clause-values c =
    let s = c.args.self.now in
    let part = c.args.part.now in
    let task = atom_said (atom_of c.args.task.now) in
    let is = expression_of-forall part c.in-Forall.field-0 c.in-Forall.field-1 c.in-Forall.field-2 c.in-Forall.is in
    let there = forall_there s c.requires.can c.args.before c.requires.before _ c.requires.part part.span _ _ _ is in
    IfOk-weaker c.first_after-in-Forall.result _ _
    (λ o h n at.
    against_forall s c.requires.can c.args.walk.now.nest n.state task c.args.before.count o part.span
    c.in-Forall.field-0.items (expression_of c.in-Forall.field-1.value) (expression_of c.in-Forall.field-2.value)
    c.denied_node-range.result c.body_node-body.result (c.denied_node-range.ensures.range part.span _ _ _ there)
    (c.body_node-body.ensures part.span _ _ _ there) (h n at)
    ∙ ap (against_part (rules_tried s) c.args.walk.now.nest n.state task (conjunction_of s.asked) c.args.before.count)
    (sym is))
    c.first_after-in-Forall.ensures.values

pub returns-in-Atom-clause-values : goal.returns-in-Atom-clause-values
returns-in-Atom-clause-values c = λ n at.
    let s = c.args.self.now in
    none_against (rules_tried s) c.args.walk.now.nest n.state (atom_said (atom_of c.args.task.now))
    (conjunction_of s.asked) c.args.before.count (expression_of c.args.part.now) _
    (expression_of-atom c.args.part.now _ c.in-Atom.is) (λ e. refl)

pub returns-in-And-clause-values : goal.returns-in-And-clause-values
returns-in-And-clause-values c = λ n at.
    let s = c.args.self.now in
    none_against (rules_tried s) c.args.walk.now.nest n.state (atom_said (atom_of c.args.task.now))
    (conjunction_of s.asked) c.args.before.count (expression_of c.args.part.now) _
    (expression_of-and c.args.part.now _ c.in-And.is) (λ e. refl)

pub returns-in-Or-clause-values : goal.returns-in-Or-clause-values
returns-in-Or-clause-values c = λ n at.
    let s = c.args.self.now in
    none_against (rules_tried s) c.args.walk.now.nest n.state (atom_said (atom_of c.args.task.now))
    (conjunction_of s.asked) c.args.before.count (expression_of c.args.part.now) _
    (expression_of-or c.args.part.now _ c.in-Or.is) (λ e. refl)

pub returns-in-Assign-clause-values : goal.returns-in-Assign-clause-values
returns-in-Assign-clause-values c = λ n at.
    let s = c.args.self.now in
    none_against (rules_tried s) c.args.walk.now.nest n.state (atom_said (atom_of c.args.task.now))
    (conjunction_of s.asked) c.args.before.count (expression_of c.args.part.now) _
    (expression_of-assign c.args.part.now _ _ c.in-Assign.is) (λ e. refl)

pub returns-in-Call-clause-values : goal.returns-in-Call-clause-values
returns-in-Call-clause-values c = λ n at.
    let s = c.args.self.now in
    none_against (rules_tried s) c.args.walk.now.nest n.state (atom_said (atom_of c.args.task.now))
    (conjunction_of s.asked) c.args.before.count (expression_of c.args.part.now) _
    (expression_of-call c.args.part.now _ c.in-Call.is) (λ e. refl)
