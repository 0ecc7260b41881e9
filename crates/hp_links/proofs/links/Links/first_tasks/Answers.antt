use Rattle.std.proofs.Common.{List, ℕ, ◌≡◌, ◌++◌, ◌∷◌, [], refl, rules}
use Rattle.hp_links.specs.Frames.{frame_in, tree_at}
use Rattle.hp_links.specs.Labelled.{leads}
use Rattle.hp_links.proofs.WalkLemmas.{row_within, popped_held, task_walked, list_walked}
use Rattle.hp_links.proofs.links.Links.first_tasks.Goals as goal

pub push_parts-requires : goal.push_parts-requires
push_parts-requires c =
    let f = frame_in c.args.self.now in
    let h = popped_held f c.loop-number.stack.items c.pop.new.self.items c.in-Some.number c.in-Some.ensures.items
    c.loop-number.invariant.held in
    row_within f c.in-Some.number c.in-Row.start c.in-Row.many c.in-Row.order h.0 c.in-Row.ensures

pub loop-number-smaller-in-Continue-branch-2 : goal.loop-number-smaller-in-Continue-branch-2
loop-number-smaller-in-Continue-branch-2 c =
    let f = frame_in c.args.self.now in
    let stack : List ℕ = c.loop-number.stack.items in
    let h = popped_held f stack c.pop.new.self.items c.in-Some.number c.in-Some.ensures.items
    c.loop-number.invariant.held in
    (task_walked f stack c.pop.new.self.items c.in-Some.number c.in-Some.ensures.items c.loop-number.found.items
    (c.loop-number.found.items ++ c.in-Some.number ∷ []) _ c.in-Task.field-0 c.in-Task.field-1 h.0 c.in-Task.ensures
    c.loop-number.invariant.rest refl).1

pub loop-number-preserved-in-Continue-branch-2 : goal.loop-number-preserved-in-Continue-branch-2
loop-number-preserved-in-Continue-branch-2 c =
    let f = frame_in c.args.self.now in
    let stack : List ℕ = c.loop-number.stack.items in
    let h = popped_held f stack c.pop.new.self.items c.in-Some.number c.in-Some.ensures.items
    c.loop-number.invariant.held in
    let more : c.push-in-Task.new.self.items ≡ c.loop-number.found.items ++ c.in-Some.number ∷ [] = search rules in
    record {
      held = h.1;
      rest =
          (task_walked f stack c.pop.new.self.items c.in-Some.number c.in-Some.ensures.items
          c.loop-number.found.items c.push-in-Task.new.self.items (leads (tree_at f c.args.start)) c.in-Task.field-0
          c.in-Task.field-1 h.0 c.in-Task.ensures c.loop-number.invariant.rest more).0;
    }

pub loop-number-smaller : goal.loop-number-smaller
loop-number-smaller c =
    let f = frame_in c.args.self.now in
    let stack : List ℕ = c.loop-number.stack.items in
    let h = popped_held f stack c.pop.new.self.items c.in-Some.number c.in-Some.ensures.items
    c.loop-number.invariant.held in
    (list_walked f stack c.pop.new.self.items c.in-Some.number c.in-Some.ensures.items c.loop-number.found.items
    c.push_parts.new.stack.items (leads (tree_at f c.args.start)) c.in-Row.start c.in-Row.many c.in-Row.order h.0 h.1
    c.in-Row.ensures c.loop-number.invariant.rest c.in_ok-push_parts-in-Row.ensures).2

pub loop-number-preserved : goal.loop-number-preserved
loop-number-preserved c =
    let f = frame_in c.args.self.now in
    let stack : List ℕ = c.loop-number.stack.items in
    let h = popped_held f stack c.pop.new.self.items c.in-Some.number c.in-Some.ensures.items
    c.loop-number.invariant.held in
    let r = list_walked f stack c.pop.new.self.items c.in-Some.number c.in-Some.ensures.items
    c.loop-number.found.items c.push_parts.new.stack.items (leads (tree_at f c.args.start)) c.in-Row.start
    c.in-Row.many c.in-Row.order h.0 h.1 c.in-Row.ensures c.loop-number.invariant.rest
    c.in_ok-push_parts-in-Row.ensures in
    record { held = r.0; rest = r.1 }
