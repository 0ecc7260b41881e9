use Rattle.std.proofs.Common.{None, subst, sym, ap, ◌∙◌}
use Rattle.std.proofs.lemmas.Option.{slice_get_within}
use Rattle.hp_syntax.specs.Terms.{Symbol}
use Rattle.hp_syntax.specs.Goals.{ground_parts}
use Rattle.hp_eval.specs.FillSteps.{AreKnown}
use Rattle.hp_eval.specs.GoalViews.{fillings_of}
use Rattle.hp_suspended.proofs.GroundLemmas.{ground_known, ground_untailed}
use Rattle.hp_suspended.proofs.known.find_atom.Goals as goal

pub find_parts-requires-clause-known : goal.find_parts-requires-clause-known
find_parts-requires-clause-known c =
    let terms = c.args.cells.now in
    subst (λ fs. AreKnown (fillings_of terms fs)) (sym c.as_slice.ensures.value)
    (ground_known terms c.args.goal.now c.requires.ground)

pub returns-in_err-list-clause-atom : goal.returns-in_err-list-clause-atom
returns-in_err-list-clause-atom c =
    let terms = c.args.cells.now in
    let q = c.args.goal.now in
    rw c.from_residual.ensures (λ ts g i is.
    let untailed = ground_untailed (fillings_of terms q.args.items) q.tail ts g in
    let before = c.len.ensures.cells.parts i (Symbol q.name) ts is in
    c.in_err-list.ensures ts
    (ap (λ fs. ground_parts (fillings_of terms fs) None) c.as_slice.ensures.value ∙ untailed) before.1.0 before.1.2)

pub find_cons-requires-clause-head : goal.find_cons-requires-clause-head
find_cons-requires-clause-head c =
    slice_get_within c.args.cells.now c.args.name (Symbol c.args.goal.now.name) c.requires.name

pub find_cons-requires-clause-tail : goal.find_cons-requires-clause-tail
find_cons-requires-clause-tail c =
    let terms = c.args.cells.now in
    let q = c.args.goal.now in
    let k = ground_known terms q c.requires.ground in (
      k.0,
      c.in_ok-list.ensures k.0
          (ap (λ fs. ground_parts (fillings_of terms fs) None) c.as_slice.ensures.value ∙ k.1),
    )

pub returns-clause-atom : goal.returns-clause-atom
returns-clause-atom c = λ ts g.
    let terms = c.args.cells.now in
    let q = c.args.goal.now in
    let untailed = ground_untailed (fillings_of terms q.args.items) q.tail ts g in
    c.find_cons.ensures (Symbol q.name) ts c.requires.name
    (c.in_ok-list.ensures ts
    (ap (λ fs. ground_parts (fillings_of terms fs) None) c.as_slice.ensures.value ∙ untailed))
