use Rattle.std.proofs.Common.{◌≡◌, length, map, sym, subst, ◌∙◌}
use Rattle.std.specs.Prelude.{IfOk}
use Rattle.hp_syntax.specs.GroundViews.{ground_of}
use Rattle.hp_world.specs.Stages.{AllBelow, terms_at}
use Rattle.hp_changes.proofs.comparing.atoms_of.Goals as goal

pub to_grounds-requires : goal.to_grounds-requires
to_grounds-requires c =
    subst (AllBelow (length c.args.cells.now)) (sym (c.as_slice.ensures.value ∙ c.in_ok-atoms.ensures))
    c.requires.atoms

pub returns : goal.returns
returns c =
    subst (λ xs. IfOk c.to_grounds.result (λ v. map ground_of v.items ≡ terms_at c.args.cells.now xs))
    (c.as_slice.ensures.value ∙ c.in_ok-atoms.ensures) c.to_grounds.ensures
