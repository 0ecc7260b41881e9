use Rattle.std.proofs.Common.{arith}
use Rattle.hp_search.proofs.PathFrames.{mark_above, mark_top}
use Rattle.hp_search.proofs.search.Search.mark_at.Goals as goal

pub returns-then-level-len : goal.returns-then-level-len
returns-then-level-len c = λ live. mark_top c.args.self.now live c.args.level (omega arith)

pub returns : goal.returns
returns c = λ live. mark_above c.args.self.now live c.args.level c.frame_at.result.now c.frame_at.ensures
