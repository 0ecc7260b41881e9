use Rattle.std.proofs.Common.{◌≡◌, ◌+◌, ◌-◌, ◌<◌, ℕ, List, suc, length, refl, sym, subst, arith}
use Rattle.std.specs.List.{All}
use Rattle.hp_links.specs.Linked.{PartBelow}
use Rattle.std.proofs.lemmas.Option.{slice_get_read}
use Rattle.hp_links.specs.Frames.{Frame, frame_in}
use Rattle.hp_links.specs.Planted.{Planting, roots_left}
use Rattle.hp_links.proofs.PlantSteps.{planting_first, has_roots, roots_within, planted_step, linked_below, entries_below}
use Rattle.hp_links.proofs.links.Links.plant.Goals as goal

pub loop-at-init : goal.loop-at-init
loop-at-init c = record {
  within = omega arith;
  planting =
      planting_first c.args.entries.now c.clear.new.self.items (frame_in c.args.self.now)
      (frame_in c.push_entries.new.self) c.clear.ensures.items c.push_entries.ensures.keeps
      c.in_ok-push_entries.ensures.parts c.in_ok-push_entries.ensures.owners c.requires.owners;
  below = λ k h g.
      subst (All (PartBelow k)) (sym c.in_ok-push_entries.ensures.parts)
      (entries_below k c.args.entries.now c.args.self.now.parts.items h g);
}

pub link-requires-clause-roots : goal.link-requires-clause-roots
link-requires-clause-roots c =
    let es = c.args.entries.now in
    let n = c.loop-at.at - 1 in
    let test : 0 < c.loop-at.at = c.loop-at-test.true in
    let same : c.loop-at.at ≡ suc n = omega arith in
    let read = slice_get_read es (length es) n c.index-entries-at.result refl
    (omega (arith, c.loop-at.invariant.within)) c.index-entries-at.is in
    has_roots es n c.loop-at.roots.items (frame_in c.args.self.now) (frame_in c.loop-at.self)
    (subst (λ q. Planting es q c.loop-at.roots.items (frame_in c.args.self.now) (frame_in c.loop-at.self)) same
    c.loop-at.invariant.planting) c.requires.closed c.index-entries-at.result read

pub link-requires-clause-owned : goal.link-requires-clause-owned
link-requires-clause-owned c =
    let es = c.args.entries.now in
    let n = c.loop-at.at - 1 in
    let test : 0 < c.loop-at.at = c.loop-at-test.true in
    let same : c.loop-at.at ≡ suc n = omega arith in
    roots_within es n c.loop-at.roots.items (frame_in c.args.self.now) (frame_in c.loop-at.self)
    (subst (λ q. Planting es q c.loop-at.roots.items (frame_in c.args.self.now) (frame_in c.loop-at.self)) same
    c.loop-at.invariant.planting) c.requires.closed

pub loop-at-preserved : goal.loop-at-preserved
loop-at-preserved c =
    let es = c.args.entries.now in
    let n = c.loop-at.at - 1 in
    let test : 0 < c.loop-at.at = c.loop-at-test.true in
    let same : c.loop-at.at ≡ suc n = omega arith in
    let read = slice_get_read es (length es) n c.index-entries-at.result refl
    (omega (arith, c.loop-at.invariant.within)) c.index-entries-at.is in
    let k = c.len-base.result + n in
    let is : k ≡ length c.args.self.now.parts.items + n =
    omega (arith, c.len-base.ensures, c.args.self.now.parts.ok.0) in
    let step = planted_step es n c.loop-at.roots.items (frame_in c.args.self.now) (frame_in c.loop-at.self)
    (subst (λ q. Planting es q c.loop-at.roots.items (frame_in c.args.self.now) (frame_in c.loop-at.self)) same
    c.loop-at.invariant.planting) c.requires.closed c.index-entries-at.result k read c.requires.owners is in
    record {
      within = omega (arith, c.loop-at.invariant.within);
      planting =
          subst (λ (js : List ℕ). Planting es n js (frame_in c.args.self.now) (frame_in c.link.new.self))
          (sym c.in_ok-link.ensures.roots)
          (subst
          (λ (f : Frame). Planting es n (roots_left k c.index-entries-at.result c.loop-at.roots.items)
          (frame_in c.args.self.now) f)
          (sym c.in_ok-link.ensures.linked) step);
      below = λ b h g.
          subst (λ (f : Frame). All (PartBelow b) f.parts) (sym c.in_ok-link.ensures.linked)
          (linked_below b k c.index-entries-at.result c.loop-at.roots.items (frame_in c.loop-at.self)
          (c.loop-at.invariant.below b h g));
    }
