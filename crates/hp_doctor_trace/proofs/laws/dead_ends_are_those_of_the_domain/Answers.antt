use Rattle.std.proofs.Common.{sym, ◌∙◌}
use Rattle.hp_doctor_trace.specs.TraceTold.{tree_of}
use Rattle.hp_doctor_trace.proofs.laws.dead_ends_are_those_of_the_domain.Goals as goal

pub returns : goal.returns
returns c =
    let same = c.lowered_rules_have_the_tree.ensures.children in
    record {
      dead =
          λ a rules pair xs i x v are here there did less told.
          let d = c.dead_ends_have_no_children.ensures.dead rules (tree_of a rules pair) a.from.now a.most i xs x v are here
          there did less told in
          record { tasks = d.tasks; depth = d.depth; none = sym (same rules a.nest v.node) ∙ d.none };
      found =
          λ a rules pair xs i x v are here there did d.
          c.dead_ends_have_no_children.ensures.found rules (tree_of a rules pair) a.from.now a.most i xs x v are here there
          did (record { tasks = d.tasks; depth = d.depth; none = same rules a.nest v.node ∙ d.none });
    }
