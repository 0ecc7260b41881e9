use Rattle.std.proofs.Common.{List, length, ap, sym, subst, ◌∙◌}
use Rattle.std.proofs.lemmas.Result.{IfOk-weaker}
use Rattle.hp_syntax.specs.Terms.{Term}
use Rattle.hp_world.specs.Stages.{StageBelow, state_of}
use Rattle.hp_way.proofs.states.atoms_at.Goals as goal

pub atoms_of-requires : goal.atoms_of-requires
atoms_of-requires c =
    let told = c.into_world_at-world.ensures in
    subst (λ (ts : List Term). StageBelow (length ts) c.into_world_at-world.result.0.now) (sym told.cells)
    told.stage.below

pub returns : goal.returns
returns c =
    let told = c.into_world_at-world.ensures in
    IfOk-weaker c.atoms_of.result _ _
    (λ v e. record {
      node = told.stage.node;
      there = told.stage.there;
      state =
          e
          ∙ (ap (λ (ts : List Term). state_of ts c.into_world_at-world.result.0.now) told.cells ∙ told.stage.state);
    })
    c.atoms_of.ensures
