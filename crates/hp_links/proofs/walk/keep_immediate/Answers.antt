use Rattle.std.proofs.Common.{◌≡◌, ℕ, cond, rules, tests, sym, ap, ◌∙◌}
use Rattle.std.specs.Prelude.{filter, slice_get}
use Rattle.std.specs.List.{list_any}
use Rattle.std.proofs.lemmas.Fn.{filter_same}
use Rattle.std.proofs.lemmas.Iterator.{YieldsList-from_slice}
use Rattle.std.proofs.lemmas.Iterator.Search.{any_from_yields_List}
use Rattle.hp_links.specs.Placed.{is_immediate}
use Rattle.hp_links.proofs.walk.keep_immediate.Goals as goal

pub returns-then-any : goal.returns-then-any
returns-then-any c =
    let found = c.args.found.now.items in
    let test = λ (i : ℕ). is_immediate (slice_get c.args.parts.now i) in
    let e : c.any.result ≡ list_any test found
    = any_from_yields_List test _ _ c.any.result c.any.ensures.ran (YieldsList-from_slice found cc)
    (λ x b q k. search (rules, tests)) in
    filter_same _ test _ (λ x b q k. search (rules, tests)) found _ c.retain.ensures.filtered
    ∙ ap (λ b. cond b (filter test found) found) (sym c.if-any.true ∙ e)

pub returns-else-any : goal.returns-else-any
returns-else-any c =
    let found = c.args.found.now.items in
    let test = λ (i : ℕ). is_immediate (slice_get c.args.parts.now i) in
    let e : c.any.result ≡ list_any test found
    = any_from_yields_List test _ _ c.any.result c.any.ensures.ran (YieldsList-from_slice found cc)
    (λ x b q k. search (rules, tests)) in
    ap (λ b. cond b (filter test found) found) (sym c.if-any.false ∙ e)
