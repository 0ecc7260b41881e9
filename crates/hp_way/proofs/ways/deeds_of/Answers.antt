use Rattle.std.proofs.Common.{◌≡◌, ◌+◌, ◌-◌, ◌^◌, min, [], ◌∷◌, length, map, ap, sym, subst, ◌∙◌, arith}
use Rattle.std.proofs.lemmas.List.{length-map, map-append}
use Rattle.hp_search.specs.Planned.{stands_planned}
use Rattle.hp_way.specs.Along.{LeadSoFar}
use Rattle.hp_way.specs.Ways.{deed_of}
use Rattle.hp_way.proofs.WaySteps.{so_far_none, so_far_on}
use Rattle.hp_way.proofs.ways.deeds_of.Goals as goal

pub loop-level-init : goal.loop-level-init
loop-level-init c =
    subst (λ ds. LeadSoFar c.args.planner.now 0 (map deed_of ds)) (sym c.new-deeds.ensures.items)
    (so_far_none c.args.planner.now)

pub deed_at-requires-clause-level : goal.deed_at-requires-clause-level
deed_at-requires-clause-level c =
    omega (
      arith,
      c.loop-level-test.true,
      ap length c.path-count.ensures,
      length-map (stands_planned c.args.planner.now).path (λ i. min i (2 ^ 64 - 1)),
    )

pub loop-level-preserved : goal.loop-level-preserved
loop-level-preserved c =
    let p = c.args.planner.now in
    subst (LeadSoFar p (c.loop-level.level + 1))
    (sym (ap (map deed_of) c.in_ok-push.ensures.items
    ∙ map-append deed_of c.loop-level.deeds.items (c.in_ok-deed.deed ∷ [])))
    (so_far_on p c.loop-level.level (map deed_of c.loop-level.deeds.items) (deed_of c.in_ok-deed.deed)
    c.loop-level.invariant c.in_ok-deed.ensures)

pub returns : goal.returns
returns c =
    let p = c.args.planner.now in
    let all : c.loop-level.level ≡ length (stands_planned p).path =
    omega (
      arith,
      c.loop-level-test.false,
      ap length c.path-count.ensures,
      length-map (stands_planned p).path (λ i. min i (2 ^ 64 - 1)),
    ) in
    subst (λ k. LeadSoFar p k (map deed_of c.loop-level.deeds.items)) all c.loop-level.invariant
