use Rattle.std.proofs.Common.{List, ℕ, Option, Some, set, take, get_or, ap, sym, ◌∙◌}
use Rattle.std.proofs.lemmas.List.{take_more}
use Rattle.hp_links.specs.Planted.{own_all}
use Rattle.hp_links.proofs.PlantLemmas.{own_all-push}
use Rattle.hp_links.proofs.plant.own.Goals as goal

pub loop-part-preserved : goal.loop-part-preserved
loop-part-preserved c =
    let ps = c.args.parts.now in
    let i = c.loop-part.part-index in
    ap (λ (os : List (Option ℕ)). set os (get_or ps i 0) (Some c.args.list)) c.loop-part.invariant
    ∙ sym (own_all-push (Some c.args.list) (take i ps) (get_or ps i 0) c.args.owners.now)
    ∙ sym (ap (λ (js : List ℕ). own_all (Some c.args.list) js c.args.owners.now) (take_more ps i 0 c.loop-part-test.true))
