use Rattle.std.proofs.Common.{List, length, ◌∷◌, [], ◌++◌, ap, ap₂, sym, ◌∙◌, refl, subst}
use Rattle.hp_syntax.specs.Terms.{Term}
use Rattle.hp_plain.specs.Frames.{Opens}
use Rattle.hp_plain.specs.Searches.{rules_in_search}
use Rattle.hp_plain.specs.SearchNodes.{IsSearchNode}
use Rattle.hp_plain.proofs.SearchSteps.{tree_above, tree_entered}
use Rattle.hp_plain.proofs.search.Search.enter.Goals as goal

pub returns-clause-entered : goal.returns-clause-entered
returns-clause-entered c =
    let s = c.args.self.now in
    record {
      top =
          subst (λ f. (terms : List Term) → IsSearchNode (length terms) c.args.node
          → Opens (rules_in_search s) s.nest terms c.args.node f) (sym c.replace.ensures.after)
          (c.in_ok-child.ensures (rules_in_search s) s.nest);
      above =
          c.push_reserved.ensures.items
          ∙ ap₂ (λ fs f. fs ++ f ∷ []) c.in_ok-reserve.ensures.items
          (c.replace.ensures.value ∙ ap (λ d. record s.top { dids = d }) c.saturating_add-self.ensures);
      path = c.in_ok-push.ensures.items;
      same = refl;
    }

pub returns-clause-tree : goal.returns-clause-tree
returns-clause-tree c =
    tree_entered c.args.self.now c.replace.new.dest c.push_reserved.new.self c.push.new.self
    c.saturating_add-self.result
    (c.push_reserved.ensures.items
    ∙ ap₂ (λ fs f. fs ++ f ∷ []) c.in_ok-reserve.ensures.items c.replace.ensures.value)

pub returns-in_err-child-clause-tree : goal.returns-in_err-child-clause-tree
returns-in_err-child-clause-tree c = refl

pub returns-in_err-reserve-clause-tree : goal.returns-in_err-reserve-clause-tree
returns-in_err-reserve-clause-tree c =
    tree_above c.args.self.now c.reserve.new.self c.args.self.now.path c.reserve.ensures.items

pub returns-in_err-push-clause-tree : goal.returns-in_err-push-clause-tree
returns-in_err-push-clause-tree c =
    tree_above c.args.self.now c.reserve.new.self c.push.new.self c.in_ok-reserve.ensures.items
