use Rattle.std.proofs.Common.{◌≡◌, map, rules, sym, ap, ◌∙◌, inl, inr}
use Rattle.std.proofs.lemmas.Result.{on_ok_weaker}
use Rattle.hp_syntax.specs.Syntax.{Down, Up}
use Rattle.hp_syntax.specs.Views.{order_of}
use Rattle.hp_syntax.specs.Preconditions.{sorts_before, sorted}
use Rattle.hp_pick.specs.Noted.{entry_of}
use Rattle.hp_pick.proofs.SortSteps.{is_lt-int_cmp, sort_by_order}
use Rattle.hp_pick.proofs.hearing.sort.Goals as goal

pub returns-in-Down-clause-sorted : goal.returns-in-Down-clause-sorted
returns-in-Down-clause-sorted c =
    on_ok_weaker c.sort_by.result
    (λ up c'.
    sort_by_order Down c' c.args.sats.now.items c.sort_by.new.self.items up c.sort_by.ensures.stable
    (λ f a r g h. search (rules, is_lt-int_cmp))
    ∙ ap (λ o. sorted (sorts_before (order_of o)) (map (entry_of c') c.args.sats.now.items)) (sym c.in-Down.is))
    c.sort_by.ensures.sorted

pub returns-in-Up-clause-sorted : goal.returns-in-Up-clause-sorted
returns-in-Up-clause-sorted c =
    let rises : sorts_before Up ≡ sorts_before (order_of c.args.order.now) =
    elim c.in-Up.is [
      | inl e ↦ ap (λ o. sorts_before (order_of o)) (sym e)
      | inr e ↦ ap (λ o. sorts_before (order_of o)) (sym e.2)
    ] in
    on_ok_weaker c.sort_by-in-Up.result
    (λ up c'.
    sort_by_order Up c' c.args.sats.now.items c.sort_by-in-Up.new.self.items up c.sort_by-in-Up.ensures.stable
    (λ f a r g h. search (rules, is_lt-int_cmp))
    ∙ ap (λ before. sorted before (map (entry_of c') c.args.sats.now.items)) rises)
    c.sort_by-in-Up.ensures.sorted
