use Rattle.std.proofs.Common.{ap, sym, ◌∙◌}
use Rattle.hp_code.specs.Lowered.{lowered_rules}
use Rattle.hp_net.specs.Standings.{Standing, Tree, tree_visits}
use Rattle.hp_search.specs.Planned.{with_depth}
use Rattle.hp_syntax.specs.Views.{domain_of, pair_of}
use Rattle.hp_doctor_why.proofs.ReasonSteps.{root_cost, same_depth}
use Rattle.hp_doctor_why.proofs.reasons.renewed.Goals as goal

pub begin_again-requires-clause-cost : goal.begin_again-requires-clause-cost
begin_again-requires-clause-cost c =
    ap (λ (x : Tree). x.root.cost) c.requires.of.tree
    ∙ root_cost (pair_of c.args.search.pair.now) c.args.search.depth

pub returns : goal.returns
returns c =
    let s = c.args.search in
    let again = c.in_ok-begin_again.ensures in
    record {
      of = record {
        live = again.live;
        tree =
            again.tree ∙ (ap (with_depth s.depth) c.requires.of.tree
            ∙ same_depth (lowered_rules (domain_of s.domain.now).rules) s.nest (pair_of s.pair.now) s.depth);
      };
      rest = ap (λ (x : Standing). x.rest) again.stands ∙ sym (ap tree_visits again.tree);
      at_root = ap (λ (x : Standing). x.path) again.stands;
    }
