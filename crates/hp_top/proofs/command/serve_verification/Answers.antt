use Rattle.std.proofs.Common.{Err, Ok, map}
use Rattle.hp_syntax.specs.GroundViews.{ground_of}
use Rattle.hp_syntax.specs.Views.{domain_of, problem_of}
use Rattle.hp_top.proofs.command.serve_verification.Goals as goal

pub returns-in-Ok-clause-serves : goal.returns-in-Ok-clause-serves
returns-in-Ok-clause-serves g c =
    let l = c.in-Ok.loaded in
    record {
      loaded = Ok ((domain_of l.files.domain, problem_of l.files.problem), map ground_of l.steps.items);
      loads = c.in-Ok.ensures.loads;
      tells = c.verify_loaded.ensures.tells;
    }

pub returns-in-Err-clause-serves : goal.returns-in-Err-clause-serves
returns-in-Err-clause-serves g c = record {
  loaded = Err c.in-Err.error;
  loads = c.in-Err.ensures.loads;
  tells = c.refuse_files.ensures.tells;
}
