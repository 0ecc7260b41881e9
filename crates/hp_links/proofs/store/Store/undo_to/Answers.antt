use Rattle.std.proofs.Common.{◌∙◌, refl, sym, arith}
use Rattle.hp_world.proofs.TrailLemmas.{length_pasts}
use Rattle.hp_world.proofs.HistoryLemmas.{undone_end}
use Rattle.hp_links.specs.Undoing.{undone, stage_of}
use Rattle.hp_links.proofs.store.Store.undo_to.Goals as goal

pub loop-self-init : goal.loop-self-init
loop-self-init c =
    let s = c.args.self.now in
    let many = length_pasts undone s.trail.items (stage_of s) in
    record {
      mark = omega (arith, c.requires.mark, many, s.trail.ok.0);
      sound = c.requires.sound;
      back = refl;
    }

pub loop-self-preserved : goal.loop-self-preserved
loop-self-preserved c =
    let more = c.loop-self-test.true in
    let undoes = c.undo_last.ensures in
    record {
      mark = omega (arith, undoes.fewer, c.len.ensures, more);
      sound = undoes.sound;
      back = undoes.back c.args.mark (omega (arith, c.len.ensures, more)) ∙ c.loop-self.invariant.back;
    }

pub returns-clause-back : goal.returns-clause-back
returns-clause-back c =
    let s = c.loop-self.self in
    sym (undone_end undone c.args.mark s.trail.items (stage_of s) (omega (arith, s.trail.ok.0, c.len.ensures)))
    ∙ c.loop-self.invariant.back
