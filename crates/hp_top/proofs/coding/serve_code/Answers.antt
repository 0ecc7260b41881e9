use Rattle.std.proofs.Common.{Err, Ok}
use Rattle.hp_syntax.specs.Views.{domain_of}
use Rattle.hp_top.proofs.coding.serve_code.Goals as goal

pub returns-in-Ok-clause-serves : goal.returns-in-Ok-clause-serves
returns-in-Ok-clause-serves g c = record {
  loaded = Ok (domain_of c.in-Ok.domain);
  loads = c.in-Ok.ensures.domain;
  tells = c.tell_code.ensures.tells;
}

pub returns-in-Err-clause-serves : goal.returns-in-Err-clause-serves
returns-in-Err-clause-serves g c = record {
  loaded = Err c.in-Err.error;
  loads = c.in-Err.ensures.stops;
  tells = c.refuse_files.ensures.tells;
}
