use Rattle.std.proofs.Common.{List, ℕ, ap, min, length, subst, ◌∙◌}
use Rattle.hp_places.proofs.StartLemmas.{place_found}
use Rattle.hp_places.specs.Starts.{IsLast}
use Rattle.hp_places.proofs.lines.Lines.index.Goals as goal

pub returns : goal.returns
returns c =
    place_found c.args.self.now.text.items c.as_slice.result.now c.args.offset c.last_start.result
    (c.as_slice.ensures.value ∙ c.args.self.now.begin)
    (subst (λ (n : ℕ). IsLast c.as_slice.result.now n c.last_start.result)
    (c.min-offset.ensures ∙ ap (λ (t : List ℕ). min c.args.offset (length t)) c.text.ensures) c.last_start.ensures)
