use Rattle.std.proofs.Common.{ap, sym, ◌∙◌, rules}
use Rattle.hp_eval.specs.Slotted.{bindings_of}
use Rattle.hp_precondition.proofs.PickedScenes.{rest_heard}
use Rattle.hp_precondition.specs.Picks.{picked_rest}
use Rattle.hp_method.specs.Branches.{heard_before}
use Rattle.hp_method.proofs.ChosenEvents.{heard_first}
use Rattle.hp_method.proofs.chosen.heard.Goals as goal

pub returns-clause-hears : goal.returns-clause-hears
returns-clause-hears c = λ b is.
    let s = c.args.scene.now in
    let old = c.args.cells.now in
    let e = c.args.slots.now in
    let p = c.parts-pre.ensures b is in
    let sats = c.in_ok-sats.sats in
    let xs = picked_rest sats s old e in
    let own = bindings_of c.next.new.cells c.next.new.slots in (
      sym (c.in_ok-sats.ensures.rest b.pre p.pre)
          ∙ heard_first xs c.in_ok-first.first own (rest_heard sats s old e) c.in_ok-first.ensures.event
          c.in_ok-first.ensures.sat
          ∙ ap (heard_before c.in_ok-first.first own) (sym c.in_ok-first.ensures.rest),
      (λ h. search rules, p.tasks),
    )
