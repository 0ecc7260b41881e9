use Rattle.std.proofs.Common.{◌≡◌, [], length, sym, ap, subst, ◌∙◌, arith}
use Rattle.std.specs.List.{All}
use Rattle.std.proofs.lemmas.List.Elements.{All-nil}
use Rattle.std.proofs.lemmas.Result.{IfOk-weaker}
use Rattle.hp_links.specs.Entries.{forest, AreClosed, EntryBelow}
use Rattle.hp_links.specs.Pushed.{kept, Adds}
use Rattle.hp_links.specs.Undoing.{Starts, stage_of}
use Rattle.hp_links.proofs.EntryLemmas.{kept_closed, kept_many}
use Rattle.hp_links.proofs.PushedLemmas.{one_or_none}
use Rattle.hp_links.proofs.StartLemmas.{start_net}
use Rattle.hp_links.proofs.store.Store.new.Goals as goal

pub from_entries-requires-clause-closed : goal.from_entries-requires-clause-closed
from_entries-requires-clause-closed c =
    let es = c.push_tree.new.entries.items in
    let a : Adds (kept c.args.tree.now) c.in_ok-push_tree.field-0 [] es =
    subst (λ old. Adds (kept c.args.tree.now) c.in_ok-push_tree.field-0 old es) c.new-entries.ensures.items
    c.in_ok-push_tree.ensures.adds in
    subst AreClosed (sym c.as_slice.ensures.value) (kept_closed c.args.tree.now c.in_ok-push_tree.field-0 es a)

pub from_entries-requires-clause-one : goal.from_entries-requires-clause-one
from_entries-requires-clause-one c =
    let es = c.push_tree.new.entries.items in
    let a : Adds (kept c.args.tree.now) c.in_ok-push_tree.field-0 [] es =
    subst (λ old. Adds (kept c.args.tree.now) c.in_ok-push_tree.field-0 old es) c.new-entries.ensures.items
    c.in_ok-push_tree.ensures.adds in
    let few = one_or_none c.args.tree.now c.in_ok-push_tree.field-0 [] es a in
    let many : length (forest [] c.as_slice.result.now) ≡ c.in_ok-push_tree.field-0 =
    ap (λ xs. length (forest [] xs)) c.as_slice.ensures.value
    ∙ kept_many c.args.tree.now c.in_ok-push_tree.field-0 es a [] in
    omega arith

pub returns-clause-net : goal.returns-clause-net
returns-clause-net c =
    let es = c.push_tree.new.entries.items in
    let a : Adds (kept c.args.tree.now) c.in_ok-push_tree.field-0 [] es =
    subst (λ old. Adds (kept c.args.tree.now) c.in_ok-push_tree.field-0 old es) c.new-entries.ensures.items
    c.in_ok-push_tree.ensures.adds in
    IfOk-weaker c.from_entries.result _ _
    (λ s h terms.
    start_net c.args.tree.now c.in_ok-push_tree.field-0 es a (stage_of s)
    (subst (λ xs. Starts xs (stage_of s)) c.as_slice.ensures.value h) terms) c.from_entries.ensures.starts

pub returns-clause-below : goal.returns-clause-below
returns-clause-below c =
    IfOk-weaker c.from_entries.result _ _
    (λ s h k b.
    h k
    (subst (All (EntryBelow k)) (sym c.as_slice.ensures.value)
    (c.in_ok-push_tree.ensures.below k b
    (subst (All (EntryBelow k)) (sym c.new-entries.ensures.items) (All-nil (EntryBelow k))))))
    c.from_entries.ensures.below
