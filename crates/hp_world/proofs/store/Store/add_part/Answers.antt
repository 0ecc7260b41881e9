use Rattle.std.proofs.Common.{◌≡◌, [], List, length, sym, ap, subst, arith}
use Rattle.std.proofs.lemmas.List.{nil_from_length}
use Rattle.std.specs.List.{All}
use Rattle.std.proofs.lemmas.List.Elements.{All-push}
use Rattle.hp_world.specs.declared.store.Change.{Change}
use Rattle.hp_world.specs.Histories.{History}
use Rattle.hp_world.specs.Keyed.{Keyed}
use Rattle.hp_world.specs.Stages.{Stage}
use Rattle.hp_world.specs.Undoing.{undone, IsFollowed, stage_of}
use Rattle.hp_world.proofs.FollowedLemmas.{followed_empty}
use Rattle.hp_world.proofs.TrailLemmas.{length_pasts}
use Rattle.hp_world.proofs.store.Store.add_part.Goals as goal

pub returns-clause-sound : goal.returns-clause-sound
returns-clause-sound c =
    let s = c.args.self.now in
    let stage = ap (λ (h : History Stage). h.now) c.requires.empty in
    let count = ap (λ (h : History Stage). length h.past) c.requires.empty in
    let trail : s.trail.items ≡ [] =
    nil_from_length s.trail.items (omega (arith, count, length_pasts undone s.trail.items (stage_of s))) in
    let here : IsFollowed (stage_of s) s.trail.items c.new.result =
    subst (λ (ts : List Change). IsFollowed (stage_of s) ts c.new.result) (sym trail)
    (subst (λ (u : Stage). IsFollowed u [] c.new.result) (sym stage)
    (followed_empty c.new.result c.new.ensures.entries c.new.ensures.atoms)) in
    record {
      undoable = c.requires.sound.undoable;
      followed =
          subst (λ (ps : List Keyed). All (IsFollowed (stage_of s) s.trail.items) ps) (sym c.in_ok-push.ensures.items)
          (All-push (IsFollowed (stage_of s) s.trail.items) s.parts.items c.new.result c.requires.sound.followed here);
    }
