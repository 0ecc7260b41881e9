use Rattle.std.proofs.Common.{◌≡◌, FitsSigned, to_z, of_z, ap, refl, rules, ◌∙◌}
use Rattle.std.specs.Int.{w128}
use Rattle.std.proofs.lemmas.Int.{to_z-of_z}
use Rattle.hp_out.proofs.GroundSteps.{call-smaller, ground-smaller, ground_parts-smaller, list_text, number_text, symbol_text, terms_size}
use Rattle.hp_syntax.specs.GroundViews.{grounds_of}
use Rattle.hp_syntax.specs.TermTexts.{num_text}
use Rattle.hp_doctor_tree.proofs.TextSteps.{extended, part_pushed, put_same}
use Rattle.hp_doctor_tree.proofs.grounds.+ground.Goals as goal

-- ---- what follows in a list

pub push_others-push_ground-requires : goal.push_others-push_ground-requires
push_others-push_ground-requires t c =
    let part = c.part-item.result in
    let smaller =
    ground-smaller c.args.parts.now c.loop-part.part-index part c.loop-part-test.true c.part-item.is in
    call-smaller refl smaller c.decreases

pub push_others-loop-part-preserved : goal.push_others-loop-part-preserved
push_others-loop-part-preserved t c =
    part_pushed c.args.parts.now c.loop-part.part-index c.part-item.result c.loop-part-test.true c.part-item.is
    c.loop-part.out.items c.extend_from_slice.new.self.items c.push_ground.new.out.items _
    c.in_ok-extend_from_slice.ensures.items c.in_ok-push_ground.ensures c.loop-part.invariant

-- ---- a term

pub push_ground-push_list-requires : goal.push_ground-push_list-requires
push_ground-push_list-requires t c =
    let same = ap (λ gs. terms_size (grounds_of gs)) c.as_slice.ensures.value in
    let smaller = ground_parts-smaller c.args.term.now c.in-List.parts c.in-List.is in
    call-smaller same smaller c.decreases

pub push_ground-returns-in-Sym : goal.push_ground-returns-in-Sym
push_ground-returns-in-Sym t c =
    extended c.extend_from_slice.result c.args.out.now.items c.extend_from_slice.new.self.items c.bytes.result.now _
    c.extend_from_slice.ensures.items (c.bytes.ensures.same ∙ symbol_text c.args.term.now c.in-Sym.name c.in-Sym.is)

pub push_ground-returns-in-Num : goal.push_ground-returns-in-Num
push_ground-returns-in-Num t c =
    let n = c.from.result in
    let same : n ≡ c.in-Num.n = search rules in
    let fits : FitsSigned w128 n = search rules in
    put_same c.push_amount.result c.args.out.now.items c.push_amount.new.out.items (num_text (to_z w128 (of_z w128 n)))
    _ c.push_amount.ensures
    (ap num_text (to_z-of_z w128 n fits ∙ same) ∙ number_text c.args.term.now c.in-Num.n c.in-Num.is)

pub push_ground-returns-in-List : goal.push_ground-returns-in-List
push_ground-returns-in-List t c =
    put_same c.push_list.result c.args.out.now.items c.push_list.new.out.items _ _ c.push_list.ensures
    (list_text c.args.term.now c.in-List.parts _ c.in-List.is c.as_slice.ensures.value)
