use Rattle.std.proofs.Common.{◌≡◌, [], Some, ap, sym, ◌∙◌}
use Rattle.std.proofs.lemmas.Option.{same_Some}
use Rattle.hp_syntax.specs.Syntax.{Pattern}
use Rattle.hp_syntax.specs.Views.{pattern_of}
use Rattle.hp_nodes.specs.NodeViews.{laid_of, operation_of}
use Rattle.hp_nodes.specs.Trees.{CostOf, Laid}
use Rattle.hp_code.specs.Sources.{Body}
use Rattle.hp_suspended.specs.SceneViews.{code_in}
use Rattle.hp_operator.proofs.BodyLemmas.{first_within, cost_stands, cost_pattern}
use Rattle.hp_operator.proofs.bodies.cost_at.Goals as goal

pub node_at-requires : goal.node_at-requires
node_at-requires c =
    let s = c.args.scene.now in first_within (code_in s) s.code.now.kept c.args.node c.args.end c.requires.body

pub unreachable-requires : goal.unreachable-requires
unreachable-requires c =
    let s = c.args.scene.now in
    let stands = cost_stands (code_in s) c.args.node c.args.end s.code.now.kept c.requires in
    let same = same_Some stands.node (laid_of c.node_at.result.now) (sym stands.there ∙ c.node_at.ensures.is) in
    cost_pattern c.node_at.result.now.op stands.cost (sym (ap (λ (l : Laid). l.op) same) ∙ stands.does)
    c.in_default.not-Cost

pub returns : goal.returns
returns c =
    let s = c.args.scene.now in
    let stands = cost_stands (code_in s) c.args.node c.args.end s.code.now.kept c.requires in
    let same = same_Some stands.node (laid_of c.node_at.result.now) (sym stands.there ∙ c.node_at.ensures.is) in
    let op = ap operation_of c.in-Cost.is in
    let cost : CostOf (pattern_of c.in-Cost.pattern) ≡ CostOf stands.cost =
    sym op ∙ sym (ap (λ (l : Laid). l.op) same) ∙ stands.does in
    let is : pattern_of c.in-Cost.pattern ≡ stands.cost = cc in
    let body : Pattern → Body = λ p. record { effects = []; cost = p } in
    stands.is ∙ ap (λ p. Some (body p)) (sym is)
