use Rattle.std.proofs.Common.{◌≡◌, rules}
use Rattle.std.proofs.lemmas.Result.{on_ok_weaker}
use Rattle.std.proofs.lemmas.List.Sorted.{answers_always}
use Rattle.hp_lint.specs.declared.report.Remark.{Remark}
use Rattle.hp_lint.proofs.OrderLemmas.{remarks_in_order}
use Rattle.hp_lint.proofs.order.put_in_order.Goals as goal

pub returns : goal.returns
returns c =
    on_ok_weaker c.sort_by_key.result
    (λ up. remarks_in_order c.args.list.now.items c.sort_by_key.new.self.items
    (up (λ (r : Remark). r.span.from) (answers_always _ (λ a r. r ≡ a.0.now.span.from) _ (λ q a r k. search rules)))
    (c.sort_by_key.ensures.stable (λ (r : Remark). r.span.from)
    (answers_always _ (λ a r. r ≡ a.0.now.span.from) _ (λ q a r k. search rules))))
    c.sort_by_key.ensures.sorted
