use Rattle.std.proofs.Common.{◌≡◌, ◌∙◌}
use Rattle.hp_out.proofs.PageSteps.{put_behind}
use Rattle.hp_out.proofs.page.Page.push.Goals as goal

-- there was no room on the empty page either: the text is written itself
pub returns-clause-puts : goal.returns-clause-puts
returns-clause-puts g c =
    let kept : c.fits.new.self ≡ c.args.self.now = c.if-fits.ensures in
    put_behind c.write_all.result c.args.text.now c.args.self.now c.fits-2.new.self _ _ _
    (c.if-fits-2.ensures ∙ c.in_ok-flush.ensures.empty) (rw kept at c.in_ok-flush.ensures.writes)
    c.write_all.ensures.writes
