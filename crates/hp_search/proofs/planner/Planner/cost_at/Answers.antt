use Rattle.std.proofs.Common.{FitsSigned, ℤ, ◌≡◌, ◌∙◌, length, ap, subst, sym, arith, rules}
use Rattle.std.specs.Int.{w128}
use Rattle.std.specs.Prelude.{MatchOption}
use Rattle.std.proofs.lemmas.Int.{to_z-of_z}
use Rattle.hp_search.specs.Led.{node_on}
use Rattle.hp_search.specs.Planned.{Planned}
use Rattle.hp_search.proofs.PathFrames.{cost_there, path_above}
use Rattle.hp_search.proofs.planner.Planner.cost_at.Goals as goal

pub mark_at-requires : goal.mark_at-requires
mark_at-requires c =
    omega (arith, c.requires.level, path_above c.args.self.now, ap (λ (p : Planned). length p.above) c.self.view_is)

pub returns : goal.returns
returns c =
    let live = c.self.inside.live in
    let is = c.self.view_is in
    let paid : ℤ = c.mark_at.result.cost in
    let fits : FitsSigned w128 paid = search rules in
    subst (λ (z : ℤ). MatchOption (node_on c.args.self.now c.args.level) ⊥ (λ n. z ≡ n.cost))
    (sym (to_z-of_z w128 paid fits))
    (subst (λ (p : Planned). MatchOption (node_on p c.args.level) ⊥ (λ n. paid ≡ n.cost)) is
    (cost_there c.self.inside.search live (c.self.invariant (ap (λ (p : Planned). p.live) is ∙ c.requires.live))
    c.args.level c.mark_at.result (c.mark_at.ensures live)))
