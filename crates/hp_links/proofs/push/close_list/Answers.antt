use Rattle.std.proofs.Common.{rules}
use Rattle.hp_links.proofs.push.close_list.Goals as goal

pub returns-clause-entries : goal.returns-clause-entries
returns-clause-entries c = search rules
