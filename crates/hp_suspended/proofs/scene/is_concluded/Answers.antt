use Rattle.hp_suspended.specs.SceneViews.{code_in}
use Rattle.hp_suspended.proofs.BeginSteps.{atom_concluded, atom_within}
use Rattle.hp_suspended.proofs.scene.is_concluded.Goals as goal

pub is_concluded-requires : goal.is_concluded-requires
is_concluded-requires c = atom_within (code_in c.args.scene.now) c.args.node c.requires

pub returns : goal.returns
returns c = atom_concluded (code_in c.args.scene.now) c.args.node c.is_concluded.result c.is_concluded.ensures
