use Rattle.std.proofs.Common.{ap, sym, ◌∙◌}
use Rattle.hp_code.specs.Codes.{code_of}
use Rattle.hp_net.specs.Standings.{Standing, tree_visits}
use Rattle.hp_search.specs.Planned.{tree_planned}
use Rattle.hp_doctor_why.specs.Searches.{tree_searched}
use Rattle.hp_doctor_why.proofs.ReasonSteps.{tree_known}
use Rattle.hp_doctor_why.proofs.reasons.new_walk.Goals as goal

pub returns : goal.returns
returns c =
    let t = tree_searched c.args.search in
    let code = code_of c.args.search.code.now in
    let made = c.in_ok-walk.ensures in
    record {
      of = record {
        live = made.live;
        tree =
            tree_known code t (tree_planned c.in_ok-walk.walk)
            (c.compiled_rules_are_a_code.ensures.reads t.rules code c.requires.search.code) made.tree;
      };
      rest = ap (λ (s : Standing). s.rest) made.stands ∙ sym (ap tree_visits made.tree);
      at_root = ap (λ (s : Standing). s.path) made.stands;
    }
