use Rattle.std.proofs.Common.{ap, sym, ◌∙◌, Some, ◌++◌, ◌∷◌, [], arith}
use Rattle.hp_syntax.specs.GroundPatterns.{atom_said}
use Rattle.hp_syntax.specs.Views.{atom_of}
use Rattle.hp_eval.specs.GoalViews.{term_at}
use Rattle.hp_eval.proofs.CellViews.{named_at}
use Rattle.hp_eval.proofs.GrowthLemmas.{grows_on, grows_self}
use Rattle.hp_eval.proofs.ValueSteps.{terms_pushed, below_pushed}
use Rattle.hp_tree.proofs.RootSteps.{each_ground, said_more}
use Rattle.hp_tree.proofs.root.cells_of.Goals as goal

pub ground_atom-requires : goal.ground_atom-requires
ground_atom-requires c = record {
  ground =
      each_ground c.args.atoms.now c.loop-atom.atom-index c.atom-item.result c.loop-atom-test.true c.atom-item.is
      c.requires.ground;
}

pub loop-atom-preserved : goal.loop-atom-preserved
loop-atom-preserved c =
    let old = c.loop-atom.cells in
    let new = c.ground_atom.new.cells in
    let found = c.loop-atom.found.items in
    let pushed = c.push_reserved.new.self.items in
    let cell = c.in_ok-cell.cell in
    let held = c.loop-atom.invariant in
    let got = c.in_ok-cell.ensures in
    let names = named_at new cell got.below in
    record {
      grows = grows_on c.args.cells.now old new held.grows got.cells;
      room = omega arith;
      below =
          below_pushed old new got.cells found pushed cell (term_at new cell) held.below c.push_reserved.ensures.items
          names;
      terms =
          terms_pushed old new got.cells found pushed cell (atom_said (atom_of c.atom-item.result)) held.below
          c.push_reserved.ensures.items (names ∙ ap Some got.term)
          ∙ (ap (λ ts. ts ++ atom_said (atom_of c.atom-item.result) ∷ []) held.terms
          ∙ sym (said_more c.args.atoms.now c.loop-atom.atom-index c.atom-item.result c.loop-atom-test.true
          c.atom-item.is));
    }

pub returns-clause-below : goal.returns-clause-below
returns-clause-below c = c.loop-atom.invariant.below

pub returns-clause-cells : goal.returns-clause-cells
returns-clause-cells c = c.loop-atom.invariant.grows

pub returns-in_err-found-clause-cells : goal.returns-in_err-found-clause-cells
returns-in_err-found-clause-cells c = grows_self c.args.cells.now

pub returns-in_err-cell-clause-cells : goal.returns-in_err-cell-clause-cells
returns-in_err-cell-clause-cells c =
    grows_on c.args.cells.now c.loop-atom.cells c.ground_atom.new.cells c.loop-atom.invariant.grows
    c.ground_atom.ensures.cells
