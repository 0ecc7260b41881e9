use Rattle.std.proofs.Common.{IfOk, MatchOption, ◌∙◌, ap, subst}
use Rattle.std.proofs.lemmas.Result.{IfOk-weaker}
use Rattle.hp_code.specs.Codes.{code_of}
use Rattle.hp_choice.specs.Questions.{Finds}
use Rattle.hp_net.specs.Standings.{node_reached}
use Rattle.hp_search.specs.Planned.{Planned, stands_planned, tree_planned}
use Rattle.hp_search.proofs.AgainSteps.{at_node}
use Rattle.hp_search.proofs.planner.Planner.ask.Goals as goal

pub returns-clause-found : goal.returns-clause-found
returns-clause-found c =
    let is = c.self.view_is in
    let s = c.self.inside.search in
    let h = c.self.invariant (ap (λ (p : Planned). p.live) is ∙ c.requires.live) in
    subst (λ (p : Planned). IfOk c.ask.result (λ f. MatchOption (node_reached (tree_planned p) (stands_planned p)) ⊥
    (λ n. Finds (code_of c.args.code.now) p.nest n.state c.args.asked c.args.start.now f))) is
    (IfOk-weaker c.ask.result _ _
    (λ f own. at_node s h (λ n. Finds (code_of c.args.code.now) s.nest n.state c.args.asked c.args.start.now f) own)
    c.ask.ensures.found)
