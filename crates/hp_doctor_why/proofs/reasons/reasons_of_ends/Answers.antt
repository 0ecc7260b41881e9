use Rattle.std.proofs.Common.{◌++◌, [], ◌∷◌, map, option_map, take, sym, ap, ap₂, ◌∙◌}
use Rattle.std.proofs.lemmas.List.{map-append, take_all, take_more}
use Rattle.hp_doctor_why.specs.Reasons.{reason_of}
use Rattle.hp_doctor_why.specs.Searches.{tree_searched}
use Rattle.hp_doctor_why.specs.Whys.{kept}
use Rattle.hp_dead_ends.specs.declared.searching.DeadEnd.{DeadEnd}
use Rattle.hp_doctor_why.proofs.reasons.reasons_of_ends.Goals as goal

pub loop-end-preserved : goal.loop-end-preserved
loop-end-preserved c =
    let ends = c.args.ends.now in
    let i = c.loop-end.end-index in
    let t = tree_searched c.args.search in
    record {
      so_far =
          ap (map (option_map kept)) c.in_ok-push.ensures.items
          ∙ (map-append (option_map kept) c.loop-end.reasons.items (c.in_ok-found.found ∷ [])
          ∙ (ap₂ (λ xs x. xs ++ x ∷ []) c.loop-end.invariant.so_far c.in_ok-found.ensures
          ∙ (sym (map-append (λ (e : DeadEnd). reason_of t e.path.items) (take i ends) (c.end-item.result ∷ []))
          ∙ ap (map (λ (e : DeadEnd). reason_of t e.path.items))
          (sym (take_more ends i c.end-item.result c.loop-end-test.true
          ∙ ap (λ x. take i ends ++ x ∷ []) (sym c.end-item.is))))));
      left = tt;
    }

pub returns : goal.returns
returns c =
    let t = tree_searched c.args.search in
    c.loop-end.invariant.so_far
    ∙ ap (map (λ (e : DeadEnd). reason_of t e.path.items))
    (take_all c.loop-end.end-index c.args.ends.now c.loop-end-test.false)
