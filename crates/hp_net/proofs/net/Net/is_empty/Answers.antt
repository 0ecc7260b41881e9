use Rattle.std.proofs.Common.{ap, ◌∙◌}
use Rattle.hp_syntax.specs.Networks as plain
use Rattle.hp_world.specs.Histories.{History}
use Rattle.hp_links.specs.Linked.{Linked, focused}
use Rattle.hp_net.proofs.net.Net.is_empty.Goals as goal

pub returns : goal.returns
returns c = λ terms.
    c.is_empty.ensures terms ∙ ap (λ (h : History Linked). plain.is_empty (focused terms h.now).0) c.self.view_is
