use Rattle.std.proofs.Common.{length, ap, sym, ◌∙◌, subst, arith, rules}
use Rattle.hp_syntax.specs.Goals.{match_goal}
use Rattle.hp_syntax.specs.Events.{sat_if}
use Rattle.hp_eval.specs.GoalViews.{term_at, goal_of}
use Rattle.hp_eval.specs.Slotted.{bindings_of, undone}
use Rattle.hp_eval.proofs.CellViews.{named_at}
use Rattle.hp_answers.specs.AnswerViews.{Finds}
use Rattle.hp_answers.proofs.AnswerLemmas.{finds_same}
use Rattle.hp_eval.proofs.SlotLemmas.{binds_vars, match_failed, match_made}
use Rattle.hp_satisfiers.proofs.matches.matched.Goals as goal

pub returns-then-not-match_goal-clause-slots : goal.returns-then-not-match_goal-clause-slots
returns-then-not-match_goal-clause-slots c =
    let terms = c.args.cells.now in
    let m = c.match_goal.ensures.matched (term_at terms c.args.atom) (named_at terms c.args.atom c.requires.atom) in
    (match_failed c.match_goal.result _ terms c.args.slots.now c.match_goal.new.slots (search rules) m).1

pub undo_to-requires : goal.undo_to-requires
undo_to-requires c =
    let terms = c.args.cells.now in
    let m = c.match_goal.ensures.matched (term_at terms c.args.atom) (named_at terms c.args.atom c.requires.atom) in
    let made = match_made c.match_goal.result _ terms c.args.slots.now c.match_goal.new.slots (search rules) m in
    record { earlier = omega (arith, made.1.later) }

pub returns-clause-found : goal.returns-clause-found
returns-clause-found c =
    let terms = c.args.cells.now in
    let new = c.match_goal.new.slots in
    let m = c.match_goal.ensures.matched (term_at terms c.args.atom) (named_at terms c.args.atom c.requires.atom) in
    let made = match_made c.match_goal.result _ terms c.args.slots.now new (search rules) m in
    let vars = binds_vars c.args.slots.now new made.1 in
    let e = bindings_of terms c.args.slots.now in
    let events = sat_if (match_goal (goal_of terms c.args.goal.now) (term_at terms c.args.atom) e) in
    subst (λ n. Finds terms n c.in_ok-found.found.items events) vars
    (finds_same terms (length new.values) c.in_ok-found.found.items _ _ (ap sat_if (sym made.0))
    (c.in_ok-found.ensures terms c.match_goal.ensures.below))

pub returns-clause-slots : goal.returns-clause-slots
returns-clause-slots c =
    let terms = c.args.cells.now in
    let new = c.match_goal.new.slots in
    let m = c.match_goal.ensures.matched (term_at terms c.args.atom) (named_at terms c.args.atom c.requires.atom) in
    let made = match_made c.match_goal.result _ terms c.args.slots.now new (search rules) m in
    c.undo_to.ensures ∙ (ap (λ n. undone n new) c.mark-mark.ensures ∙ made.1.undoes)
