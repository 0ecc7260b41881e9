use Rattle.std.proofs.Common.{refl}
use Rattle.hp_derivation.proofs.GoingSteps.{finish_stands}
use Rattle.hp_derivation.proofs.going.Going.finish.Goals as goal

pub returns : goal.returns
returns c = λ s t st tk.
    finish_stands c.args.self.now _ c.args.number c.args.taken.now s t st tk refl refl c.in_ok-finish.ensures.net
    c.note.ensures
