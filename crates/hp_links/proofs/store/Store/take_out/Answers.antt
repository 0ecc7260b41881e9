use Rattle.hp_links.specs.Undoing.{stage_of}
use Rattle.hp_links.proofs.StepLemmas.{cleared_steps}
use Rattle.hp_links.proofs.store.Store.take_out.Goals as goal

pub returns-in-None-clause-steps : goal.returns-in-None-clause-steps
returns-in-None-clause-steps c =
    cleared_steps (stage_of c.args.self.now) (stage_of c.clear.new.self) c.clear.result c.args.id c.requires.stage
    c.requires.names c.in-None.ensures c.clear.ensures.cleared
