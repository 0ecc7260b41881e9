use Rattle.std.proofs.Common.{sym, ap}
use Rattle.std.proofs.lemmas.Result.{IfOk-weaker}
use Rattle.hp_syntax.specs.Terms.{Listed}
use Rattle.hp_unmet.proofs.SaidLemmas.{says_if_same}
use Rattle.hp_unmet.proofs.SaidLemmas.{grounds_split}
use Rattle.hp_unmet.proofs.said.listed_atom.Goals as goal

pub returns-in-len1-up : goal.returns-in-len1-up
returns-in-len1-up c =
    IfOk-weaker c.headed_atom.result _ _
    (λ o h. says_if_same o _ _
    (ap (λ ts. Listed ts)
    (sym (grounds_split c.args.parts.now c.first-item.result c.in-len1-up.len_at_least c.first-item.is))) h)
    c.headed_atom.ensures
