use Rattle.std.proofs.Common.{List, ℕ, ◌-◌, ap, length, ◌∙◌}
use Rattle.hp_places.specs.Starts.{next_start}
use Rattle.hp_places.proofs.StartLemmas.{line_found}
use Rattle.hp_places.proofs.lines.Lines.line_end.Goals as goal

pub returns : goal.returns
returns c =
    let lines = c.args.self.now in
    line_found lines.text.items lines.starts.items c.args.index c.end_before.result lines.begin c.requires
    (c.end_before.ensures
    ∙ ap (λ (s : List ℕ). next_start s (length c.text.result.now) c.args.index - 1) c.as_slice.ensures.value
    ∙ ap (λ (t : List ℕ). next_start lines.starts.items (length t) c.args.index - 1) c.text.ensures)
