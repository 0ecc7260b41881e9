use Rattle.std.proofs.Common.{map, refl, sym, ap, ◌∙◌, subst, arith}
use Rattle.std.proofs.lemmas.Result.{on_ok_weaker}
use Rattle.hp_dead_ends.specs.DeadEnds.{rank}
use Rattle.hp_dead_ends.specs.Finding.{told_of}
use Rattle.hp_dead_ends.specs.Searching.{Tells, one_more, told_as, with_end_here}
use Rattle.hp_dead_ends.proofs.KeepSteps.{keeps_further, keeps_nearer, keeps_same}
use Rattle.hp_dead_ends.proofs.searching.Seeking.keep.Goals as goal

pub returns-then-is_further : goal.returns-then-is_further
returns-then-is_further c = record {
  kept = record { depth = refl; most = refl };
  tells =
      λ k any h.
      keeps_nearer c.args.self.now k h c.saturating_add-self.result c.saturating_add-self.ensures _ (ap (rank c.args.self.now.steps) (omega arith))
      (sym c.is_further.ensures ∙ c.if-is_further.true);
}

pub returns-then-is_further-2 : goal.returns-then-is_further-2
returns-then-is_further-2 c =
    on_ok_weaker c.tell_last.result
    (λ t. record {
      kept = record { depth = ap (λ s. s.depth) t.same; most = ap (λ s. s.most) t.same };
      tells =
          λ k any h.
          subst (λ s. Tells s (with_end_here k)) (sym t.same)
          (keeps_further c.args.self.now k h c.saturating_add-self.result c.saturating_add-self.ensures _ (ap (rank c.args.self.now.steps) (omega arith))
          c.tell_last.new.self.found.furthest (sym c.is_further-2.ensures ∙ c.if-is_further-2.true) _ refl
          (t.more
          ∙ ap (λ es. one_more c.args.self.now.most (map told_of es)
          (told_as c.args.self.now.path.items c.args.self.now.steps)) c.clear.ensures.items));
    })
    c.tell_last.ensures

pub returns : goal.returns
returns c =
    on_ok_weaker c.tell_last-2.result
    (λ t. record {
      kept = record { depth = ap (λ s. s.depth) t.same; most = ap (λ s. s.most) t.same };
      tells =
          λ k any h.
          subst (λ s. Tells s (with_end_here k)) (sym t.same)
          (keeps_same c.args.self.now k h c.saturating_add-self.result c.saturating_add-self.ensures _ (ap (rank c.args.self.now.steps) (omega arith))
          c.tell_last-2.new.self.found.furthest (sym c.is_further.ensures ∙ c.if-is_further.false)
          (sym c.is_further-2.ensures ∙ c.if-is_further-2.false) c.saturating_add-self-2.result
          c.saturating_add-self-2.ensures t.more);
    })
    c.tell_last-2.ensures
