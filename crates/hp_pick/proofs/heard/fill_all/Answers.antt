use Rattle.std.proofs.Common.{Some, sym, ap, ◌∙◌, arith, ◌++◌, ap₂, refl}
use Rattle.std.specs.Prelude.{slice_set}
use Rattle.std.proofs.lemmas.Option.{slice_get-get_or}
use Rattle.hp_eval.proofs.SlotLemmas.{binds_through, binds_self}
use Rattle.hp_pick.proofs.FillSteps.{filled_more}
use Rattle.std.proofs.lemmas.List.{append-nil, drop_all, take_all}
use Rattle.hp_pick.proofs.heard.fill_all.Goals as goal

pub loop-v-preserved : goal.loop-v-preserved
loop-v-preserved c =
    let values = c.args.values.now in
    let slots = c.args.slots.now in
    let v = c.loop-v.v in
    let value = c.index-values-v.result in
    record {
      filled =
          c.fill.ensures.value
          ∙ (ap (λ vs. slice_set vs v value) c.loop-v.invariant.filled
          ∙ filled_more v values slots.values value c.requires.keeps.as_many
          (slice_get-get_or values v value (omega arith) ∙ ap Some (sym c.index-values-v.is)));
      above = binds_through slots c.loop-v.slots c.fill.new.slots c.loop-v.invariant.above c.fill.ensures.above;
    }

pub returns-clause-above : goal.returns-clause-above
returns-clause-above c = c.loop-v.invariant.above

pub loop-v-init : goal.loop-v-init
loop-v-init c = record { filled = refl; above = binds_self c.args.slots.now }

pub returns-clause-values : goal.returns-clause-values
returns-clause-values c =
    let values = c.args.values.now in
    let old = c.args.slots.now.values in
    let v = c.loop-v.v in
    c.loop-v.invariant.filled
    ∙ (ap₂ (λ xs ys. xs ++ ys) (take_all v values c.loop-v-test.false)
    (drop_all v old (omega (arith, c.requires.keeps.as_many)))
    ∙ append-nil values)
