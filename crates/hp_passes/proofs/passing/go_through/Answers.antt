use Rattle.std.proofs.Common.{arith, ◌∙◌, subst}
use Rattle.hp_passes.specs.Passing.{Between, Fits, sight_of}
use Rattle.hp_passes.specs.declared.passing.Turn.TheVariants.{On, Past, Last}
use Rattle.hp_passes.proofs.PassingSteps.{Next, next_seen, none_seen, stands_at_end, node_there, said, shorter, pruned_shorter, pruned_at, ends_here, goes_on, leaves_out, ends, stops_within, stops_after, stops_past}
use Rattle.hp_net.proofs.NextVisits.{at_kept}
use Rattle.hp_passes.proofs.passing.go_through.Goals as goal

pub returns-in_default-clause-stops : goal.returns-in_default-clause-stops
returns-in_default-clause-stops g c =
    c.loop-step.invariant.stops _ _
    (Between c.loop-step.pass c.loop-step.hand (g.W.Walk.stands c.loop-step.walk).rest)

pub returns-in_default-seen-clause-passes : goal.returns-in_default-seen-clause-passes
returns-in_default-seen-clause-passes g c =
    let s = g.W.Walk.stands c.loop-step.walk in
    let t = g.W.Walk.stands c.next.new.self in
    let none = none_seen c.in-Ok.step s.rest c.in-Ok.ensures.answer c.in_default-seen.ensures in
    c.loop-step.invariant.leads _ _ _
    (ends_here _ c.loop-step.pass c.loop-step.hand s t none
    (stands_at_end s t c.in-Ok.ensures.stands none))

pub meet-requires-clause-reached : goal.meet-requires-clause-reached
meet-requires-clause-reached g c =
    let s = g.W.Walk.stands c.loop-step.walk in
    let t = g.W.Walk.stands c.next.new.self in
    let next : Next s t (sight_of c.in-Some.sight) =
    next_seen s t _ c.in-Ok.step c.in-Ok.ensures.stands c.in-Ok.ensures.answer c.in-Some.ensures in
    (next.visit.node, node_there s t _ next _ _ c.next.ensures.tree c.loop-step.invariant.at)

pub loop-step-preserved-in-Ok-On : goal.loop-step-preserved-in-Ok-On
loop-step-preserved-in-Ok-On g c =
    let s = g.W.Walk.stands c.loop-step.walk in
    let t = g.W.Walk.stands c.next.new.self in
    let y = c.in-Some.sight in
    let next : Next s t (sight_of y) =
    next_seen s t _ c.in-Ok.step c.in-Ok.ensures.stands c.in-Ok.ensures.answer c.in-Some.ensures in
    let fits = subst (Fits y) c.in-Ok-On.field-0-is c.in-Ok-On.ensures.fits in
    let meets =
    subst (λ w. g.P.Pass.meets w c.loop-step.pass c.loop-step.hand next.visit On c.meet.new.self c.meet.new.hand)
    (c.next.ensures.tree ∙ c.loop-step.invariant.tree)
    (subst (λ x. g.P.Pass.meets (g.W.Walk.tree c.next.new.self) c.loop-step.pass c.loop-step.hand next.visit x
    c.meet.new.self c.meet.new.hand)
    c.in-Ok-On.field-0-is
    (said s t _ next _ _ c.next.ensures.tree c.loop-step.invariant.at
    (λ v. g.P.Pass.meets (g.W.Walk.tree c.next.new.self) c.loop-step.pass c.loop-step.hand v c.in-Ok-On.field-0
    c.meet.new.self c.meet.new.hand)
    c.in-Ok-On.ensures.meets)) in
    record {
      leads = λ u e there p.
          c.loop-step.invariant.leads u e there
          (goes_on _ s t y next c.loop-step.pass c.meet.new.self c.loop-step.hand c.meet.new.hand u e there
          fits meets p);
      stops = λ x e p.
          c.loop-step.invariant.stops x e
          (stops_after _ s t y next c.loop-step.pass c.meet.new.self c.loop-step.hand c.meet.new.hand
          g.P.Pass.fails e x fits meets p);
      live = c.in-Ok.ensures.live;
      tree = c.next.ensures.tree ∙ c.loop-step.invariant.tree;
      root_cells = c.next.ensures.root_cells ∙ c.loop-step.invariant.root_cells;
      at = at_kept _ _ s t c.next.ensures.tree c.in-Ok.ensures.stands c.loop-step.invariant.at;
    }

pub loop-step-smaller : goal.loop-step-smaller
loop-step-smaller g c =
    let s = g.W.Walk.stands c.loop-step.walk in
    let t = g.W.Walk.stands c.next.new.self in
    let next : Next s t (sight_of c.in-Some.sight) =
    next_seen s t _ c.in-Ok.step c.in-Ok.ensures.stands c.in-Ok.ensures.answer c.in-Some.ensures in
    let h = shorter s t _ next in
    let k = pruned_shorter t (g.W.Walk.stands c.prune.new.self) c.prune.ensures.stands in omega (arith, h, k)

pub loop-step-preserved : goal.loop-step-preserved
loop-step-preserved g c =
    let s = g.W.Walk.stands c.loop-step.walk in
    let t = g.W.Walk.stands c.next.new.self in
    let r = g.W.Walk.stands c.prune.new.self in
    let y = c.in-Some.sight in
    let next : Next s t (sight_of y) =
    next_seen s t _ c.in-Ok.step c.in-Ok.ensures.stands c.in-Ok.ensures.answer c.in-Some.ensures in
    let fits = subst (Fits y) c.in-Ok-Past.field-0-is c.in-Ok-Past.ensures.fits in
    let meets =
    subst (λ w. g.P.Pass.meets w c.loop-step.pass c.loop-step.hand next.visit Past c.meet.new.self c.meet.new.hand)
    (c.next.ensures.tree ∙ c.loop-step.invariant.tree)
    (subst (λ x. g.P.Pass.meets (g.W.Walk.tree c.next.new.self) c.loop-step.pass c.loop-step.hand next.visit x
    c.meet.new.self c.meet.new.hand)
    c.in-Ok-Past.field-0-is
    (said s t _ next _ _ c.next.ensures.tree c.loop-step.invariant.at
    (λ v. g.P.Pass.meets (g.W.Walk.tree c.next.new.self) c.loop-step.pass c.loop-step.hand v c.in-Ok-Past.field-0
    c.meet.new.self c.meet.new.hand)
    c.in-Ok-Past.ensures.meets)) in
    record {
      leads = λ u e there p.
          c.loop-step.invariant.leads u e there
          (leaves_out _ s t y next c.loop-step.pass c.meet.new.self c.loop-step.hand c.meet.new.hand r u e
          there fits c.prune.ensures.stands meets p);
      stops = λ x e p.
          c.loop-step.invariant.stops x e
          (stops_past _ s t y next c.loop-step.pass c.meet.new.self c.loop-step.hand c.meet.new.hand
          g.P.Pass.fails r e x fits c.prune.ensures.stands meets p);
      live = c.prune.ensures.live;
      tree = c.prune.ensures.tree ∙ (c.next.ensures.tree ∙ c.loop-step.invariant.tree);
      root_cells = c.prune.ensures.root_cells ∙ (c.next.ensures.root_cells ∙ c.loop-step.invariant.root_cells);
      at = pruned_at _ _ t r c.prune.ensures.tree c.prune.ensures.stands
          (at_kept _ _ s t c.next.ensures.tree c.in-Ok.ensures.stands c.loop-step.invariant.at);
    }

pub returns-in-Ok-Last-clause-passes : goal.returns-in-Ok-Last-clause-passes
returns-in-Ok-Last-clause-passes g c =
    let s = g.W.Walk.stands c.loop-step.walk in
    let t = g.W.Walk.stands c.next.new.self in
    let y = c.in-Some.sight in
    let next : Next s t (sight_of y) =
    next_seen s t _ c.in-Ok.step c.in-Ok.ensures.stands c.in-Ok.ensures.answer c.in-Some.ensures in
    let meets =
    subst (λ w. g.P.Pass.meets w c.loop-step.pass c.loop-step.hand next.visit Last c.meet.new.self c.meet.new.hand)
    (c.next.ensures.tree ∙ c.loop-step.invariant.tree)
    (subst (λ x. g.P.Pass.meets (g.W.Walk.tree c.next.new.self) c.loop-step.pass c.loop-step.hand next.visit x
    c.meet.new.self c.meet.new.hand)
    c.in-Ok-Last.field-0-is
    (said s t _ next _ _ c.next.ensures.tree c.loop-step.invariant.at
    (λ v. g.P.Pass.meets (g.W.Walk.tree c.next.new.self) c.loop-step.pass c.loop-step.hand v c.in-Ok-Last.field-0
    c.meet.new.self c.meet.new.hand)
    c.in-Ok-Last.ensures.meets)) in
    c.loop-step.invariant.leads _ _ _
    (ends _ s t y next c.loop-step.pass c.meet.new.self c.loop-step.hand c.meet.new.hand meets)

pub returns-in-Err-clause-stops : goal.returns-in-Err-clause-stops
returns-in-Err-clause-stops g c =
    let s = g.W.Walk.stands c.loop-step.walk in
    let t = g.W.Walk.stands c.next.new.self in
    let y = c.in-Some.sight in
    let next : Next s t (sight_of y) =
    next_seen s t _ c.in-Ok.step c.in-Ok.ensures.stands c.in-Ok.ensures.answer c.in-Some.ensures in
    c.loop-step.invariant.stops _ _
    (stops_within _ s t y next c.loop-step.pass c.loop-step.pass c.loop-step.hand c.meet.new.hand
    g.P.Pass.fails c.in-Err.error
    (said s t _ next _ _ c.next.ensures.tree c.loop-step.invariant.at
    (λ v. g.P.Pass.fails c.loop-step.pass c.loop-step.hand v c.in-Err.error c.meet.new.hand)
    c.in-Err.ensures.fails))
