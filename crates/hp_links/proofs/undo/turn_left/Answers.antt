use Rattle.std.proofs.Common.{refl}
use Rattle.hp_links.proofs.TurnLemmas.{put_left}
use Rattle.hp_links.proofs.undo.turn_left.Goals as goal

pub returns : goal.returns
returns c =
    put_left c.args.rows.now c.rotate_left.new.self c.args.start c.args.end _ c.requires.start c.requires.end refl
    c.rotate_left.ensures.after
