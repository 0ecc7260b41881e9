use Rattle.std.proofs.Common.{◌++◌, get_or, refl, ap, sym, ◌∙◌, append-nil}
use Rattle.std.specs.Prelude.{decimal}
use Rattle.std.proofs.lemmas.List.{at_drop_all, get_or_default}
use Rattle.hp_print.proofs.WrittenLists.{spaced_on}
use Rattle.hp_code.specs.Listing.{indices_text}
use Rattle.hp_code.proofs.lines.push_indices.Goals as goal

pub loop-index-preserved : goal.loop-index-preserved
loop-index-preserved c =
    let indices = c.args.indices.now in
    let i = c.loop-index.index-index in
    let index = get_or indices i 0 in
    spaced_on indices_text decimal indices i index c.loop-index.text.items c.push.new.self.items _ _
    (λ n ns. refl) c.loop-index-test.true (get_or_default indices i 0 index c.loop-index-test.true)
    c.loop-index.invariant c.in_ok-push.ensures.items c.in_ok-push_index.ensures

pub returns : goal.returns
returns c =
    let text = c.loop-index.text.items in
    sym (append-nil text)
    ∙ ap (λ t. text ++ t)
    (sym (at_drop_all indices_text c.args.indices.now c.loop-index.index-index c.loop-index-test.false))
    ∙ c.loop-index.invariant
