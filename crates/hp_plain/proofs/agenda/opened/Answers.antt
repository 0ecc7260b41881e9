use Rattle.std.proofs.Common.{length, ap, sym, ◌∙◌, arith, refl}
use Rattle.hp_eval.proofs.GrowthLemmas.{grows_length}
use Rattle.std.specs.Prelude.{slice_get}
use Rattle.hp_tree.specs.Children.{place_in, one_by}
use Rattle.hp_plain.specs.Agendas.{rules_of}
use Rattle.hp_plain.specs.SearchNodes.{node_in}
use Rattle.hp_plain.proofs.agenda.opened.Goals as goal

pub choice-requires : goal.choice-requires
choice-requires c =
    record {
      candidate =
          record {
            node = c.requires.node;
            candidate = c.requires.candidate;
            task = c.task-task.ensures.below (length c.args.cells.now) c.requires.node.network;
            deep = c.requires.deep;
            few = c.requires.few;
            book = refl;
            world = refl;
          };
    }

pub returns-clause-children : goal.returns-clause-children
returns-clause-children c =
    let old = c.args.cells.now in
    let node = c.args.node.now in
    let context = c.args.context.now in
    let p = place_in node.net.now c.args.id in
    let part = c.task-task.ensures.task old p c.requires.candidate.stands in
    c.in_ok-choice.ensures.chooses.stand
    ∙ sym (ap (λ o. one_by (rules_of context) context.nest (node_in old node) p o (slice_get (rules_of context)
    c.args.rule)) part.1)

pub returns-clause-choice : goal.returns-clause-choice
returns-clause-choice c =
    record {
      candidate = c.requires.candidate;
      task =
          (let l = grows_length c.args.cells.now c.choice.new.cells c.in_ok-choice.ensures.cells in
          let k = c.task-task.ensures.below (length c.args.cells.now) c.requires.node.network in omega (arith, l, k));
      deep = c.requires.deep;
      below = c.in_ok-choice.ensures.chooses.below;
    }

pub returns-clause-cells : goal.returns-clause-cells
returns-clause-cells c = c.choice.ensures.cells

pub returns-in_err-choice-clause-cells : goal.returns-in_err-choice-clause-cells
returns-in_err-choice-clause-cells c = c.choice.ensures.cells
