use Rattle.std.proofs.Common.{◌≡◌, ◌+◌, ◌++◌, [], ◌∷◌, length, map, take, sym, ap, ap₂, ◌∙◌, arith}
use Rattle.std.specs.Prelude.{option_map}
use Rattle.std.proofs.lemmas.List.{length-take-le, take_more}
use Rattle.hp_syntax.specs.GroundViews.{ground_of}
use Rattle.std.specs.Prelude.{slice_get}
use Rattle.hp_doctor_why.specs.Filled.{filled_names, value_or_name}
use Rattle.hp_doctor_why.proofs.FilledSteps.{filled_more}
use Rattle.hp_doctor_why.proofs.filled.filled_names.Goals as goal

pub loop-place-preserved : goal.loop-place-preserved
loop-place-preserved c =
    let names = c.args.names.now in
    let values = map (option_map ground_of) c.args.values.now in
    let place = c.loop-place.place in
    let name = c.index-names-place.result in
    let below = c.loop-place-test.true in
    let here : 0 + length (take place names) ≡ place =
    omega (arith, length-take-le place names (omega (arith, below))) in
    c.in_ok-push.ensures.items
    ∙ (ap₂ (λ xs x. xs ++ x ∷ []) c.loop-place.invariant
    (c.in_ok-own.ensures ∙ ap (λ k. value_or_name name (slice_get values k)) (sym here))
    ∙ (sym (filled_more 0 (take place names) name values)
    ∙ ap (λ ns. filled_names ns values)
    (sym (take_more names place name below ∙ ap (λ x. take place names ++ x ∷ []) (sym c.index-names-place.is)))))
