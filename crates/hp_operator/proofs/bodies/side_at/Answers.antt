use Rattle.std.proofs.Common.{refl, ap}
use Rattle.hp_syntax.specs.declared.domain.Side.TheVariants.{Deletes, Adds}
use Rattle.hp_nodes.specs.NodeViews.{laid_of, operation_of}
use Rattle.hp_suspended.specs.SceneViews.{code_in}
use Rattle.hp_operator.proofs.BodyLemmas.{first_within, only_side, stands_on, stands_each, each_on, stands_cost}
use Rattle.hp_operator.proofs.bodies.side_at.Goals as goal

pub node_at-here-requires : goal.node_at-here-requires
node_at-here-requires c =
    let s = c.args.scene.now in first_within (code_in s) s.code.now.kept c.args.node c.args.end c.requires

pub changed_below-requires : goal.changed_below-requires
changed_below-requires c =
    let s = c.args.scene.now in
    stands_each (code_in s) s.code.now.kept c.args.node c.args.end c.requires (laid_of c.node_at-here.result.now)
    c.node_at-here.ensures.is (ap operation_of c.in-Each.is)

pub returns-in-Delete : goal.returns-in-Delete
returns-in-Delete c =
    let s = c.args.scene.now in
    stands_on (code_in s) s.code.now.kept c.args.node c.args.end c.requires (laid_of c.node_at-here.result.now)
    c.node_at-here.ensures.is Deletes (ap (λ o. only_side (operation_of o)) c.in-Delete.is)
    (λ p h. let same = ap operation_of c.in-Delete.is in cc)

pub returns-in-Unguard : goal.returns-in-Unguard
returns-in-Unguard c =
    let s = c.args.scene.now in
    stands_on (code_in s) s.code.now.kept c.args.node c.args.end c.requires (laid_of c.node_at-here.result.now)
    c.node_at-here.ensures.is Deletes (ap (λ o. only_side (operation_of o)) c.in-Unguard.is)
    (λ p h. let same = ap operation_of c.in-Unguard.is in cc)

pub returns-in-Add : goal.returns-in-Add
returns-in-Add c =
    let s = c.args.scene.now in
    stands_on (code_in s) s.code.now.kept c.args.node c.args.end c.requires (laid_of c.node_at-here.result.now)
    c.node_at-here.ensures.is Adds (ap (λ o. only_side (operation_of o)) c.in-Add.is)
    (λ p h. let same = ap operation_of c.in-Add.is in cc)

pub returns-in-Guard : goal.returns-in-Guard
returns-in-Guard c =
    let s = c.args.scene.now in
    stands_on (code_in s) s.code.now.kept c.args.node c.args.end c.requires (laid_of c.node_at-here.result.now)
    c.node_at-here.ensures.is Adds (ap (λ o. only_side (operation_of o)) c.in-Guard.is)
    (λ p h. let same = ap operation_of c.in-Guard.is in cc)

pub returns-in-Each : goal.returns-in-Each
returns-in-Each c =
    let s = c.args.scene.now in
    each_on (code_in s) s.code.now.kept c.args.node c.args.end c.requires (laid_of c.node_at-here.result.now)
    c.node_at-here.ensures.is c.side_of.result _ (ap operation_of c.in-Each.is) c.changed_below.ensures
    c.side_of.ensures

pub returns-in_default : goal.returns-in_default
returns-in_default c =
    let s = c.args.scene.now in
    stands_cost (code_in s) s.code.now.kept c.args.node c.args.end c.requires (laid_of c.node_at-here.result.now)
    c.node_at-here.ensures.is c.node_at-here.result.now.op refl c.in_default.not-Delete c.in_default.not-Unguard
    c.in_default.not-Add c.in_default.not-Guard c.in_default.not-Each
