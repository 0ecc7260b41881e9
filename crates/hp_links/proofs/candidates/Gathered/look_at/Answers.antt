use Rattle.std.proofs.Common.{[], refl, sym, ◌∙◌}
use Rattle.std.proofs.lemmas.Result.{on_ok_weaker}
use Rattle.hp_links.proofs.CandidateLemmas.{gathers_immediate, take_nil}
use Rattle.hp_links.proofs.candidates.Gathered.look_at.Goals as goal

pub returns-in-false-true-clause-gathers : goal.returns-in-false-true-clause-gathers
returns-in-false-true-clause-gathers c =
    on_ok_weaker c.push_within.result
    (λ within ks is.
    gathers_immediate c.args.parts.now ks c.args.id c.args.self.now _ is c.in-false-true.is-0
    (sym c.in-false-true.ensures) refl refl (within [] (c.clear.ensures.items ∙ sym (take_nil c.args.self.now.limit))))
    c.push_within.ensures
