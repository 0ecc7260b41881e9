use Rattle.std.proofs.Common.{◌<◌, length, refl, ap}
use Rattle.hp_syntax.specs.GroundViews.{ground_of, grounds_of}
use Rattle.hp_syntax.specs.TermTexts.{term_text, terms_text}
use Rattle.hp_print.proofs.Sizes.{terms_size, call-smaller, ground-smaller, grounds-smaller, ground_parts-smaller}
use Rattle.hp_print.proofs.WrittenLists.{spaced_on, written_to_its_end}
use Rattle.hp_print.proofs.grounds.+ground.Goals as goal

pub push_ground-push_list-requires : goal.push_ground-push_list-requires
push_ground-push_list-requires t c =
    let same = ap (λ gs. terms_size (grounds_of gs)) c.as_slice.ensures.value in
    call-smaller same (ground_parts-smaller c.args.term.now c.in-List.parts c.in-List.is) c.decreases

pub push_list-push_ground-requires : goal.push_list-push_ground-requires
push_list-push_ground-requires t c =
    let some : 0 < length c.args.parts.now = c.in-len1-up.len_at_least in
    call-smaller refl (ground-smaller c.args.parts.now 0 c.first-item.result some c.first-item.is) c.decreases

pub push_list-push_more-requires : goal.push_list-push_more-requires
push_list-push_more-requires t c =
    call-smaller refl (grounds-smaller c.args.parts.now c.in-len1-up.len_at_least) c.decreases

pub push_more-push_ground-requires : goal.push_more-push_ground-requires
push_more-push_ground-requires t c =
    let smaller = ground-smaller c.args.parts.now c.loop-part.part-index c.part-item.result
    c.loop-part-test.true c.part-item.is in
    call-smaller refl smaller c.decreases

pub push_more-loop-part-preserved : goal.push_more-loop-part-preserved
push_more-loop-part-preserved t c =
    spaced_on (λ gs. terms_text (grounds_of gs)) (λ g. term_text (ground_of g)) c.args.parts.now
    c.loop-part.part-index c.part-item.result c.loop-part.text.items c.push.new.self.items _ _ (λ g gs. refl)
    c.loop-part-test.true c.part-item.is c.loop-part.invariant c.in_ok-push.ensures.items
    c.in_ok-push_ground.ensures

pub push_more-returns : goal.push_more-returns
push_more-returns t c =
    written_to_its_end c.extend_from_slice.result (λ gs. terms_text (grounds_of gs)) c.args.parts.now
    c.loop-part.part-index c.loop-part.text.items _ _ c.loop-part-test.false c.loop-part.invariant
    c.extend_from_slice.ensures.items
