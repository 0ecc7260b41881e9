use Rattle.std.proofs.Common.{rules, List, ◌≡◌, ◌+◌, length, ◌++◌, ◌∷◌, [], take, refl, sym, ap, subst, ◌∙◌, arith, length-append}
use Rattle.std.specs.List.{All}
use Rattle.std.proofs.lemmas.List.{take_all, take_more}
use Rattle.std.proofs.lemmas.List.Elements.{All-push}
use Rattle.std.proofs.lemmas.Result.{IfOk-weaker, on_ok_weaker}
use Rattle.hp_eval.specs.GoalViews.{TreeBelow, TreesBelow}
use Rattle.hp_syntax.specs.Terms.{Term}
use Rattle.hp_links.specs.declared.entry.Order.TheVariants.{Ordered, Unordered}
use Rattle.hp_links.specs.declared.entry.Entry.TheVariants.{List as Parts}
use Rattle.hp_links.specs.Entries.{EntryBelow}
use Rattle.hp_links.specs.Pushed.{kept, kept_list, closed, Adds}
use Rattle.hp_links.proofs.PushedLemmas.{kept-ordered, kept-unordered, one_or_none, adds_none, adds_same, adds_task, adds_tree, adds_list, below_closed, task_below, ordered_below, unordered_below, part_below}
use Rattle.hp_links.proofs.push.+push.Goals as goal

pub push_list-loop-part-init : goal.push_list-loop-part-init
push_list-loop-part-init t c = record {
  adds = adds_none _ _ c.in_ok-push.ensures.items;
  few = omega arith;
  below = λ k b h.
      subst (All (EntryBelow k)) (sym c.in_ok-push.ensures.items)
      (All-push (EntryBelow k) c.args.entries.now.items (Parts c.args.order 0) h tt);
}

pub push_list-overflow_add-count : goal.push_list-overflow_add-count
push_list-overflow_add-count t c =
    let one = one_or_none c.part-item.result c.in_ok-count.field-0 _ _ c.in_ok-count.ensures.adds in
    let few = c.loop-part.invariant.few in
    omega arith

pub push_list-loop-part-preserved : goal.push_list-loop-part-preserved
push_list-loop-part-preserved t c =
    let i = c.loop-part.part-index in
    let ts = c.args.parts.now in
    let d = c.part-item.result in
    let one = one_or_none d c.in_ok-count.field-0 _ _ c.in_ok-count.ensures.adds in
    let few = c.loop-part.invariant.few in
    let more = take_more ts i d c.loop-part-test.true ∙ ap (λ x. take i ts ++ x ∷ []) (sym c.part-item.is) in
    record {
      adds =
          adds_tree (take i ts) (take (i + 1) ts) d c.loop-part.count c.in_ok-count.field-0 _ _ _ more
          c.loop-part.invariant.adds c.in_ok-count.ensures.adds;
      few = omega arith;
      below = λ k b h.
          c.in_ok-count.ensures.below k
          (subst (TreeBelow k) (sym c.part-item.is) (part_below k ts i d c.loop-part-test.true b))
          (c.loop-part.invariant.below k b h);
    }

pub push_list-close_list-requires : goal.push_list-close_list-requires
push_list-close_list-requires t c =
    let e = ap length c.loop-part.invariant.adds.is in
    let longer =
    length-append (c.args.entries.now.items ++ Parts c.args.order 0 ∷ []) c.loop-part.invariant.adds.added in
    let more = length-append c.args.entries.now.items (Parts c.args.order 0 ∷ []) in
    omega arith

pub push_list-returns-clause-adds : goal.push_list-returns-clause-adds
push_list-returns-clause-adds t c =
    let old = c.args.entries.now.items in
    let at : c.len-at.result ≡ length old = search rules in
    adds_list c.args.order c.args.parts.now (take c.loop-part.part-index c.args.parts.now) c.loop-part.count
    c.close_list.result old (old ++ Parts c.args.order 0 ∷ []) c.loop-part.entries.items c.close_list.new.entries.items
    (take_all c.loop-part.part-index c.args.parts.now c.loop-part-test.false) refl c.loop-part.invariant.adds
    (c.close_list.ensures.entries
    ∙ ap (λ n. closed n c.args.order c.loop-part.count c.loop-part.entries.items) at)
    c.close_list.ensures.networks

pub push_list-returns-clause-below : goal.push_list-returns-clause-below
push_list-returns-clause-below t c = λ k b h.
    subst (All (EntryBelow k)) (sym c.close_list.ensures.entries)
    (below_closed k c.len-at.result c.args.order c.loop-part.count c.loop-part.entries.items
    (c.loop-part.invariant.below k b h))

pub push_tree-returns-in_ok-push-in-Task-clause-adds :
    goal.push_tree-returns-in_ok-push-in-Task-clause-adds
push_tree-returns-in_ok-push-in-Task-clause-adds t c =
    subst (λ x. Adds (kept x) 1 c.args.entries.now.items c.push.new.self.items) (sym c.in-Task.is)
    (adds_task c.in-Task.cell c.in-Task.immediate _ _ c.in_ok-push-in-Task.ensures.items)

pub push_tree-returns-in_ok-push-in-Task-clause-below :
    goal.push_tree-returns-in_ok-push-in-Task-clause-below
push_tree-returns-in_ok-push-in-Task-clause-below t c = λ k b h.
    subst (All (EntryBelow k)) (sym c.in_ok-push-in-Task.ensures.items)
    (All-push (EntryBelow k) c.args.entries.now.items _ h
    (task_below k _ _ (subst (TreeBelow k) c.in-Task.is b)))

pub push_tree-returns-in-Ordered-clause-adds : goal.push_tree-returns-in-Ordered-clause-adds
push_tree-returns-in-Ordered-clause-adds t c =
    let ts = c.as_slice.result.now in
    let is : (terms : List Term) → kept c.args.tree.now terms ≡ kept_list Ordered ts terms
    = λ terms.
    ap (λ x. kept x terms) c.in-Ordered.is
    ∙ (kept-ordered c.in-Ordered.parts terms ∙ ap (λ xs. kept_list Ordered xs terms) (sym c.as_slice.ensures.value)) in
    IfOk-weaker c.push_list.result _ _
    (λ n a. adds_same (kept_list Ordered ts) (kept c.args.tree.now) n _ _ is a) c.push_list.ensures.adds

pub push_tree-returns-in-Ordered-clause-below : goal.push_tree-returns-in-Ordered-clause-below
push_tree-returns-in-Ordered-clause-below t c =
    on_ok_weaker c.push_list.result
    (λ f k b h.
    f k
    (subst (TreesBelow k) (sym c.as_slice.ensures.value)
    (ordered_below k c.in-Ordered.parts (subst (TreeBelow k) c.in-Ordered.is b))) h)
    c.push_list.ensures.below

pub push_tree-returns-in-Unordered-clause-adds : goal.push_tree-returns-in-Unordered-clause-adds
push_tree-returns-in-Unordered-clause-adds t c =
    let ts = c.as_slice-in-Unordered.result.now in
    let is : (terms : List Term) → kept c.args.tree.now terms ≡ kept_list Unordered ts terms
    = λ terms.
    ap (λ x. kept x terms) c.in-Unordered.is
    ∙ (kept-unordered c.in-Unordered.parts terms
    ∙ ap (λ xs. kept_list Unordered xs terms) (sym c.as_slice-in-Unordered.ensures.value)) in
    IfOk-weaker c.push_list-in-Unordered.result _ _
    (λ n a. adds_same (kept_list Unordered ts) (kept c.args.tree.now) n _ _ is a)
    c.push_list-in-Unordered.ensures.adds

pub push_tree-returns-in-Unordered-clause-below : goal.push_tree-returns-in-Unordered-clause-below
push_tree-returns-in-Unordered-clause-below t c =
    on_ok_weaker c.push_list-in-Unordered.result
    (λ f k b h.
    f k
    (subst (TreesBelow k) (sym c.as_slice-in-Unordered.ensures.value)
    (unordered_below k c.in-Unordered.parts (subst (TreeBelow k) c.in-Unordered.is b))) h)
    c.push_list-in-Unordered.ensures.below
