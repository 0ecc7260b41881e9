use Rattle.std.proofs.lemmas.Option.{slice_get_within, slice_get-get_or}
use Rattle.std.proofs.lemmas.Result.{IfOk-weaker}
use Rattle.hp_syntax.specs.Terms.{Listed, NoTerm}
use Rattle.hp_part_trials.proofs.parts.cells.list_of.Goals as goal

pub cons-requires-clause-tail : goal.cons-requires-clause-tail
cons-requires-clause-tail c = (NoTerm, c.nil-nil.ensures.names)

pub returns : goal.returns
returns c =
    let part = slice_get-get_or c.args.cells.now c.args.part (Listed NoTerm) c.requires in
    IfOk-weaker c.cons.result _ _
    (λ cell h. slice_get_within c.cons.new.self cell _ (h _ _ part c.nil-nil.ensures.names).names)
    c.cons.ensures.ok
