use Rattle.std.proofs.Common.{◌<◌, ◌∙◌, length, [], None, ap, refl, arith}
use Rattle.std.proofs.lemmas.Int.{ints}
use Rattle.std.proofs.lemmas.List.Elements.{All-nil}
use Rattle.hp_syntax.specs.Changes.{added}
use Rattle.hp_syntax.specs.GroundPatterns.{atoms_said}
use Rattle.hp_syntax.specs.Networks.{normal}
use Rattle.hp_syntax.specs.Views.{atoms_of, pair_of}
use Rattle.hp_syntax.specs.Walk.{root}
use Rattle.hp_world.specs.Stages.{terms_at}
use Rattle.hp_eval.proofs.GrowthLemmas.{all_below, grows_on, terms_stay}
use Rattle.hp_tree.specs.declared.root.Root.{Root}
use Rattle.hp_tree.specs.Roots.{held_root}
use Rattle.hp_tree.proofs.SearchNodeLemmas.{node_is}
use Rattle.hp_tree.proofs.root.Root.of_pair.Goals as goal

pub fill-requires : goal.fill-requires
fill-requires c = record {
  empty = c.requires.empty;
  below =
      rw (c.as_slice-2.ensures.value)
      (all_below c.cells_of.new.cells c.ground_tasks.new.cells c.in_ok-tree.ensures.cells c.in_ok-atoms.atoms.items
      c.in_ok-atoms.ensures.below);
}

pub returns-clause-is : goal.returns-clause-is
unfolding root
returns-clause-is c =
    let mid = c.cells_of.new.cells in
    let new = c.ground_tasks.new.cells in
    let n = length new in
    let told = c.in_ok-fill.ensures in
    let r : Root = record { world = c.fill.new.world; net = c.in_ok-net.net } in
    let atoms =
    ap (terms_at new) c.as_slice-2.ensures.value
    ∙ terms_stay mid new c.in_ok-tree.ensures.cells c.in_ok-atoms.atoms.items c.in_ok-atoms.ensures.below
    ∙ c.in_ok-atoms.ensures.terms ∙ ap (λ xs. atoms_said (atoms_of xs)) c.as_slice.ensures.value in
    record {
      node = λ depth.
          node_is new (held_root r depth) (root (pair_of c.args.pair.now) depth) (told.state ∙ ap (added []) atoms)
          (ap (terms_at new) told.guards)
          (c.in_ok-net.ensures.net new ∙ ap (λ n. (normal n, None)) c.in_ok-tree.ensures.tree)
          refl refl refl;
      below = λ depth deep. record {
        stage = told.below;
        network = c.in_ok-net.ensures.below n c.in_ok-tree.ensures.below;
        steps = All-nil (λ k. k < n);
        depth = deep;
        low = omega (arith, ints);
        high = omega (arith, ints);
      };
      knows = told.knows (c.requires.knows new);
      stood = told.stood;
      pasts = told.pasts;
    }

pub returns-clause-cells : goal.returns-clause-cells
returns-clause-cells c =
    grows_on c.args.cells.now c.cells_of.new.cells c.ground_tasks.new.cells c.in_ok-atoms.ensures.cells
    c.in_ok-tree.ensures.cells

pub returns-in_err-tree-clause-cells : goal.returns-in_err-tree-clause-cells
returns-in_err-tree-clause-cells c =
    grows_on c.args.cells.now c.cells_of.new.cells c.ground_tasks.new.cells c.in_ok-atoms.ensures.cells
    c.ground_tasks.ensures.cells

pub returns-in_err-net-clause-cells : goal.returns-in_err-net-clause-cells
returns-in_err-net-clause-cells c =
    grows_on c.args.cells.now c.cells_of.new.cells c.ground_tasks.new.cells c.in_ok-atoms.ensures.cells
    c.in_ok-tree.ensures.cells

pub returns-in_err-fill-clause-cells : goal.returns-in_err-fill-clause-cells
returns-in_err-fill-clause-cells c =
    grows_on c.args.cells.now c.cells_of.new.cells c.ground_tasks.new.cells c.in_ok-atoms.ensures.cells
    c.in_ok-tree.ensures.cells
