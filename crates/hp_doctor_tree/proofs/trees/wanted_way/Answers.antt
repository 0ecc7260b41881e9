use Rattle.hp_code.specs.CodeViews.{rules_in}
use Rattle.hp_code.specs.Codes.{code_of}
use Rattle.hp_syntax.specs.Views.{pair_of}
use Rattle.hp_syntax.specs.Walk.{root}
use Rattle.hp_doctor_tree.proofs.ChangeSteps.{if_both, path_asked, path_numbered}
use Rattle.hp_doctor_tree.proofs.trees.wanted_way.Goals as goal

pub returns-in-At-clause-path : goal.returns-in-At-clause-path
returns-in-At-clause-path c =
    let asked = c.args.asked.now in
    if_both c.way_at.result _ _ _
    (λ w h e. path_asked (rules_in (code_of c.args.code.now)) asked.nest (root (pair_of c.args.pair.now) asked.depth) w.way
    c.in-At.path.now w.path.items e h)
    c.way_at.ensures.way c.way_at.ensures.path

pub returns-in-Nth-clause-path : goal.returns-in-Nth-clause-path
returns-in-Nth-clause-path c =
    let asked = c.args.asked.now in
    if_both c.numbered_way.result _ _ _
    (λ w h e. path_numbered (rules_in (code_of c.args.code.now)) asked.nest (root (pair_of c.args.pair.now) asked.depth)
    w.way c.in-Nth.number w.path.items h e)
    c.numbered_way.ensures.way c.numbered_way.ensures.path
