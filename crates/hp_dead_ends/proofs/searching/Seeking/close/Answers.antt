use Rattle.std.proofs.lemmas.Result.{on_ok_weaker}
use Rattle.hp_dead_ends.proofs.KeepSteps.{closes_over}
use Rattle.hp_dead_ends.proofs.searching.Seeking.close.Goals as goal

pub returns-then-is_over : goal.returns-then-is_over
returns-then-is_over c =
    on_ok_weaker c.keep.result
    (λ g. closes_over c.args.self.now c.keep.new.self c.args.is_over c.if-was_open.true c.if-is_over.true g)
    c.keep.ensures
