-- The node's rule asks for what the domain's does, so the parts stand where it asks for them.
use Rattle.std.proofs.Common.{map}
use Rattle.hp_code.specs.Codes.{code_of}
use Rattle.hp_code.specs.Lowered.{lowered}
use Rattle.hp_syntax.specs.Views.{domain_of}
use Rattle.hp_unmet.specs.Trials.{conjunction_of}
use Rattle.hp_unmet.proofs.AskedRules.{asks_there, stand_there}
use Rattle.hp_unmet.proofs.nodes.nodes_asked.Goals as goal

pub parts_asked-requires-clause-asks : goal.parts_asked-requires-clause-asks
parts_asked-requires-clause-asks c =
    let asked = conjunction_of c.args.asked in (
      map lowered asked.parts,
      asks_there (domain_of c.args.domain.now).rules c.args.spot.rule (code_of c.args.code.now) c.args.spot.node c.requires.spot.serves
          c.args.spot.branch asked c.requires.asked,
    )

pub returns : goal.returns
returns c =
    stand_there (domain_of c.args.domain.now).rules c.args.spot.rule (code_of c.args.code.now) c.args.spot.node c.requires.spot.serves
    c.args.spot.branch (conjunction_of c.args.asked) c.requires.asked c.parts_asked.result c.parts_asked.ensures.rule
    c.parts_asked.ensures.parts
