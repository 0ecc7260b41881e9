use Rattle.std.proofs.Common.{◌≡◌, ◌+◌, arith}
use Rattle.std.proofs.lemmas.Option.{slice_get-get_or}
use Rattle.std.proofs.lemmas.Result.{IfOk-weaker}
use Rattle.hp_syntax.specs.Terms.{Listed, NoTerm, More, deepest}
use Rattle.hp_cells.proofs.InternSteps.{interns_seen, cons_seen}
use Rattle.hp_cells.proofs.cells.Cells.cons.Goals as goal

pub intern-requires-clause-stands : goal.intern-requires-clause-stands
intern-requires-clause-stands c =
    let head = slice_get-get_or c.args.self.now c.args.head (Listed NoTerm) c.requires.head in
    let tail = c.requires.tail in
    let first = c.depth.ensures.depth _ head in
    let rest : c.depth-2.result ≡ 1 + deepest tail.0 = c.depth-2.ensures.depth _ tail.1 in
    let depth = c.max-depth.ensures in
    record {
      term = Listed (More _ tail.0);
      stands = cons_seen c.self.view_is c.args.head c.args.tail _ tail.0 head tail.1;
      nests = omega arith;
    }

pub returns-clause-ok : goal.returns-clause-ok
returns-clause-ok c =
    IfOk-weaker c.intern.result _ _ (λ cell h x xs e f.
    interns_seen c.self.view_is
    (h (Listed (More x xs)) (cons_seen c.self.view_is c.args.head c.args.tail x xs e f)))
    c.intern.ensures.ok
