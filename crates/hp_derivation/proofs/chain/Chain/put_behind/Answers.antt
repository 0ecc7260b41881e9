use Rattle.std.proofs.Common.{List, ℕ, Option, Some, [], ◌∷◌, ◌++◌, slice_set, refl, sym, ap, ◌∙◌}
use Rattle.std.proofs.lemmas.Option.{slice_get-get_or}
use Rattle.hp_derivation.proofs.ChainLemmas.{behind_reads}
use Rattle.hp_derivation.proofs.chain.Chain.put_behind.Goals as goal

pub returns-clause-reads : goal.returns-clause-reads
returns-clause-reads c = λ xs h.
    let links = c.args.self.now.links.items in
    let other = c.args.other in
    let next = c.index-next.result.now in
    behind_reads c.args.self.now _ other next xs
    (slice_get-get_or links other next c.requires.other ∙ ap Some (sym c.index-next.ensures))
    (ap (λ (ls : List (Option ℕ)). slice_set ls other (Some c.len-number.result)) c.in_ok-push.ensures.items
    ∙ ap (λ k. slice_set (links ++ next ∷ []) other (Some k)) (c.len-number.ensures ∙ c.args.self.now.links.ok.0))
    refl h
