use Rattle.std.proofs.Common.{sym, ◌∙◌, arith}
use Rattle.hp_plain.proofs.FrameSteps.{opens_plan, opens_cut, opens_children}
use Rattle.hp_plain.proofs.frame.Frame.new.Goals as goal

pub returns-then-is_empty : goal.returns-then-is_empty
returns-then-is_empty c = λ rules nest terms h.
    let made = c.ended.ensures in
    opens_plan rules nest terms c.args.node c.ended.result made.node made.dids made.open made.queue
    made.tried made.end (sym (c.is_empty.ensures terms) ∙ c.if-is_empty.true)

pub returns-then-node-eq0 : goal.returns-then-node-eq0
returns-then-node-eq0 c = λ rules nest terms h.
    let made = c.ended-then-node-eq0.ensures in
    opens_cut rules nest terms c.args.node c.ended-then-node-eq0.result made.node made.dids made.open
    made.queue made.tried made.end (sym (c.is_empty.ensures terms) ∙ c.if-is_empty.false) (omega arith)

pub returns : goal.returns
returns c = λ rules nest terms h.
    let told = c.in_ok-candidates.ensures in
    opens_children rules nest terms c.args.node c.in_ok-candidates.candidates
    (sym (c.is_empty.ensures terms) ∙ c.if-is_empty.false) (omega arith) told.tasks (told.places terms)
