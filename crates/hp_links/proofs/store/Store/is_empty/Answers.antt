use Rattle.std.proofs.Common.{ap, sym, ◌∙◌}
use Rattle.std.specs.Prelude.{is_none}
use Rattle.hp_links.specs.Linked.{whole}
use Rattle.hp_links.specs.Undoing.{stage_of}
use Rattle.hp_links.proofs.ScopeLemmas.{none_empty}
use Rattle.hp_links.proofs.TrailSteps.{stage_now}
use Rattle.hp_links.proofs.store.Store.is_empty.Goals as goal

pub returns-in-None : goal.returns-in-None
returns-in-None c = λ terms.
    let s = stage_of c.args.self.now in
    let stage = stage_now c.args.self.now.trail.items s c.requires in
    ap is_none (sym c.in-None.is ∙ stage.stands.is) ∙ none_empty terms (whole s)

pub returns-in-Some : goal.returns-in-Some
returns-in-Some c = λ terms.
    let s = stage_of c.args.self.now in
    let stage = stage_now c.args.self.now.trail.items s c.requires in
    ap is_none (sym c.in-Some.is ∙ stage.stands.is) ∙ none_empty terms (whole s)
