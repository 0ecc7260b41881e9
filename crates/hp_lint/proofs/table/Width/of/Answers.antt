use Rattle.std.proofs.Common.{ap₂, sym, ◌∙◌}
use Rattle.hp_lint.specs.declared.table.Width.{Width}
use Rattle.hp_lint.proofs.TableLemmas.{count-length}
use Rattle.hp_lint.proofs.table.Width.of.Goals as goal

pub returns : goal.returns
returns c =
    ap₂ {C = Width} (λ n b. record { count = n; tailed = b })
    (c.len.ensures ∙ (c.args.atom.now.args.ok.0 ∙ sym (count-length c.args.atom.now.args.items)))
    c.is_some.ensures
