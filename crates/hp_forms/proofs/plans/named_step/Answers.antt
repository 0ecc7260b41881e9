use Rattle.std.proofs.Common.{◌≡◌, ◌∙◌, ap, sym, [], ◌∷◌, ◌++◌, Ok}
use Rattle.hp_syntax.specs.declared.pattern.Ground.TheVariants as grounds
use Rattle.hp_syntax.specs.Steps.{closing}
use Rattle.hp_syntax.specs.GroundViews.{grounds_of}
use Rattle.hp_text.specs.Nodes.{nodes_of}
use Rattle.hp_forms.specs.PlanForms as plans
use Rattle.hp_forms.specs.PlanForms.{and_then, headed}
use Rattle.hp_forms.proofs.PlanSteps.{list-headed}
use Rattle.hp_forms.proofs.plans.named_step.Goals as goal

pub returns : goal.returns
unfolding plans.named_step
returns c =
    let name = c.args.name.now in
    let begun : c.push.new.self.items ≡ grounds.Sym name ∷ [] =
    c.in_ok-push.ensures.items
    ∙ ap (λ gs. gs ++ grounds.Sym c.in_ok-copy.field-0 ∷ []) c.in_ok-parts.ensures.items
    ∙ ap (λ n. grounds.Sym n ∷ []) c.in_ok-copy.ensures.same in
    let read : plans.items (closing c.args.span) (nodes_of c.args.nodes.now) ≡ Ok (grounds_of c.in_ok-items.ensures.0) =
    ap (λ s. plans.items s (nodes_of c.args.nodes.now)) (sym c.closing.ensures) ∙ c.in_ok-items.ensures.2 in
    ap (λ r. and_then r (λ args. Ok (headed name args))) read
    ∙ ap Ok (sym (list-headed name c.items.new.parts _ c.in_ok-items.ensures.0 begun c.in_ok-items.ensures.1))
