use Rattle.std.proofs.Common.{List, map, refl, subst}
use Rattle.hp_changes.specs.Changes.{changed_of}
use Rattle.hp_code.specs.Codes.{code_of}
use Rattle.hp_code.specs.Lowered.{lowered_rules}
use Rattle.hp_doctor.specs.Texts.{texts_of}
use Rattle.hp_syntax.specs.Syntax.{Rule}
use Rattle.hp_syntax.specs.Views.{domain_of, pair_of}
use Rattle.hp_syntax.specs.Walk.{root}
use Rattle.hp_doctor_tree.specs.TreeTold.{HasChanges, IsWantedWay, Told, way_answer}
use Rattle.hp_doctor_tree.proofs.TreeSteps.{rules_known}
use Rattle.hp_doctor_tree.proofs.trees.answer_pair.Goals as goal

pub returns-in-Ok-find-clause-tells : goal.returns-in-Ok-find-clause-tells
returns-in-Ok-find-clause-tells g c =
    let asked = c.args.asked.now in
    let rules = (domain_of c.args.domain.now).rules in
    let pair = pair_of c.args.pair.now in
    let code = code_of c.in-Ok.code in
    let found = c.in-Ok-find.found in
    let changes = map changed_of found.changes.items in
    let known = rules_known code (lowered_rules rules)
    (c.compiled_rules_are_a_code.ensures.reads rules code c.in-Ok.ensures) in
    Told (way_answer (texts_of c.args.files.now) asked rules pair found.way changes)
    (record {
      way = found.way;
      there =
          subst (λ (rs : List Rule). IsWantedWay rs asked.nest (root pair asked.depth) asked.wanted found.way) known
          c.in-Ok-find.ensures.way;
      changes = changes;
      changed =
          subst (λ (rs : List Rule). HasChanges rs asked.nest (root pair asked.depth) asked.changes found.way changes)
          known c.in-Ok-find.ensures.changes;
      is = refl;
    }) c.answer_way.ensures.tells
