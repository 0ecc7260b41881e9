use Rattle.std.proofs.Common.{Err, Ok, codes}
use Rattle.hp_syntax.specs.Views.{domain_of, problem_of}
use Rattle.hp_top.proofs.making.serve_made.Goals as goal

pub returns-in-Ok-clause-serves : goal.returns-in-Ok-clause-serves
returns-in-Ok-clause-serves g c = record {
  loaded = Ok (domain_of c.in-Ok.loaded.domain, problem_of c.in-Ok.loaded.problem);
  loads = c.in-Ok.ensures.loads;
  tells = c.serve_job.ensures.tells (codes "domain") (codes "problem");
}

pub returns-in-Err-clause-serves : goal.returns-in-Err-clause-serves
returns-in-Err-clause-serves g c = record {
  loaded = Err c.in-Err.error;
  loads = c.in-Err.ensures.loads;
  tells = c.refuse_files.ensures.tells;
}
