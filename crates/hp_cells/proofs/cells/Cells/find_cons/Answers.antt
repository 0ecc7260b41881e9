use Rattle.std.proofs.Common.{subst}
use Rattle.hp_syntax.specs.Terms.{Listed, More}
use Rattle.hp_cells.specs.Cells.{LooksUp}
use Rattle.hp_cells.proofs.InternSteps.{cons_seen}
use Rattle.hp_cells.proofs.cells.Cells.find_cons.Goals as goal

pub returns : goal.returns
returns c = λ x xs e f.
    subst (λ ts. LooksUp (Listed (More x xs)) ts c.find.result) c.self.view_is
    (c.find.ensures (Listed (More x xs)) (cons_seen c.self.view_is c.args.head c.args.tail x xs e f))
