use Rattle.std.proofs.Common.{w64, FitsSigned, rules}
use Rattle.std.proofs.lemmas.Int.{to_z-of_z}
use Rattle.hp_choice.proofs.DeedSteps.{operate_did, operate_guarded}
use Rattle.hp_choice.proofs.SiteSteps.{site_grows}
use Rattle.hp_choice.proofs.choice.Choice.operated.Goals as goal

pub operate-requires-clause-site : goal.operate-requires-clause-site
operate-requires-clause-site c =
    site_grows c.args.cells.now c.effects.new.cells c.in-Ok.ensures.cells c.args.site.now c.requires.site

pub returns-in-Done-clause-gives : goal.returns-in-Done-clause-gives
returns-in-Done-clause-gives c =
    let within : FitsSigned w64 c.in-Ok.cost = search rules in
    operate_did c.args.cells.now c.effects.new.cells c.in-Ok.ensures.cells c.args.nest c.args.site.now c.requires.site
    c.args.self.now c.requires.choice.task c.len-floor.result c.len-floor.ensures.count c.args.start c.args.end
    c.requires.body c.in-Ok.changes c.in-Ok.cost _ c.in_ok-operate-in-Ok.field-0 c.operate.new.self c.in-Ok.ensures.goes
    (to_z-of_z w64 c.in-Ok.cost within) c.in_ok-operate-in-Ok.ensures.operates c.in-Done.is

pub returns-in-Ok-clause-gives : goal.returns-in-Ok-clause-gives
returns-in-Ok-clause-gives c =
    let within : FitsSigned w64 c.in-Ok.cost = search rules in
    operate_guarded c.args.cells.now c.effects.new.cells c.in-Ok.ensures.cells c.args.nest c.args.site.now
    c.requires.site c.args.self.now c.requires.choice.task c.len-floor.result c.len-floor.ensures.count c.args.start
    c.args.end c.requires.body c.in-Ok.changes c.in-Ok.cost _ c.in_ok-operate-in-Ok.field-0 c.in-Guarded.field-0
    c.operate.new.self c.in-Ok.ensures.goes (to_z-of_z w64 c.in-Ok.cost within) c.in_ok-operate-in-Ok.ensures.operates
    c.in-Guarded.is

pub returns-in-Err-Cut-clause-site : goal.returns-in-Err-Cut-clause-site
returns-in-Err-Cut-clause-site c =
    site_grows c.args.cells.now c.effects.new.cells c.in-Err-Cut.ensures.cells c.args.site.now c.requires.site

pub returns-in-Err-Fault-clause-site : goal.returns-in-Err-Fault-clause-site
returns-in-Err-Fault-clause-site c =
    site_grows c.args.cells.now c.effects.new.cells c.in-Err-Fault.ensures.cells c.args.site.now c.requires.site
