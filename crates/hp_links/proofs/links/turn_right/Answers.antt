use Rattle.std.proofs.Common.{refl}
use Rattle.hp_links.proofs.TurnLemmas.{put_right}
use Rattle.hp_links.proofs.links.turn_right.Goals as goal

pub returns : goal.returns
returns c =
    put_right c.args.rows.now c.rotate_right.new.self c.args.start c.args.end _ c.requires.start c.requires.end refl
    c.rotate_right.ensures.after
