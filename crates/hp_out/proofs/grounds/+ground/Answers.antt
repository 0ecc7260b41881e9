use Rattle.std.proofs.Common.{◌+◌, ◌<◌, ◌++◌, FitsSigned, w64, ap, arith, codes, refl, rules, ◌∙◌}
use Rattle.std.proofs.lemmas.Int.{to_z-of_z}
use Rattle.hp_syntax.specs.GroundViews.{ground_of, grounds_of}
use Rattle.hp_syntax.specs.TermTexts.{num_text, term_text}
use Rattle.hp_out.proofs.GroundSteps.{bracket_left, call-smaller, first_and_others, ground-smaller, ground_parts-smaller, list_text, number_text, part_and_others, rest_from, symbol_text, term_size, terms_size}
use Rattle.hp_out.proofs.PageSteps.{first_not_put, rest_put, rest_of_whole, part_not_put, less_left, puts_same}
use Rattle.hp_out.proofs.grounds.+ground.Goals as goal

-- ---- what follows in a list

pub push_others-returns-in_err-push-clause-puts : goal.push_others-returns-in_err-push-clause-puts
push_others-returns-in_err-push-clause-puts g t c =
    let parts = c.args.parts.now in
    let i = c.loop-part.part-index in
    part_not_put _ _ _ (codes " ") (term_text (ground_of c.part-item.result) ++ rest_from parts (i + 1)) _ _ _ _ _
    c.from_residual.ensures.0 c.in_err-push.was c.loop-part.invariant.put c.push.ensures.puts
    (part_and_others parts i c.part-item.result c.loop-part-test.true c.part-item.is)

pub push_others-push_ground-requires : goal.push_others-push_ground-requires
push_others-push_ground-requires g t c κs within =
    let part = c.part-item.result in
    let smaller =
    ground-smaller c.args.parts.now c.loop-part.part-index part c.loop-part-test.true c.part-item.is in
    let less : term_size (ground_of part) < t = (call-smaller refl smaller c.decreases).0 in
    search rules

pub push_others-returns-in_err-push_ground-clause-puts : goal.push_others-returns-in_err-push_ground-clause-puts
push_others-returns-in_err-push_ground-clause-puts g t c =
    let parts = c.args.parts.now in
    let i = c.loop-part.part-index in
    let first = term_text (ground_of c.part-item.result) in
    let others = rest_from parts (i + 1) in
    part_not_put _ _ _ first others (first ++ others) _ _ _ _ c.from_residual-in_err-push_ground.ensures.0
    c.in_err-push_ground.was
    (less_left (codes " ") (first ++ others) _ _ _ _ _ c.loop-part.invariant.put c.in_ok-push.ensures.puts
    (part_and_others parts i c.part-item.result c.loop-part-test.true c.part-item.is))
    c.push_ground.ensures.puts refl

pub push_others-loop-part-preserved : goal.push_others-loop-part-preserved
push_others-loop-part-preserved g t c =
    let parts = c.args.parts.now in
    let i = c.loop-part.part-index in
    let first = term_text (ground_of c.part-item.result) in
    let others = rest_from parts (i + 1) in
    record {
      put =
          less_left first others (first ++ others) _ _ _ _
          (less_left (codes " ") (first ++ others) _ _ _ _ _ c.loop-part.invariant.put c.in_ok-push.ensures.puts
          (part_and_others parts i c.part-item.result c.loop-part-test.true c.part-item.is))
          c.in_ok-push_ground.ensures.puts refl;
      later =
          omega (arith, c.loop-part.invariant.later, c.in_ok-push.ensures.later, c.in_ok-push_ground.ensures.later);
    }

pub push_others-returns-clause-puts : goal.push_others-returns-clause-puts
push_others-returns-clause-puts g t c =
    rest_of_whole c.push-2.result _ _ _ _ _ c.loop-part.invariant.put
    (puts_same c.push-2.result _ _ _ _
    (bracket_left c.args.parts.now c.loop-part.part-index c.loop-part-test.false)
    c.push-2.ensures.puts)

-- ---- a list

pub push_list-returns-in_err-push-in-len1-up-clause-puts : goal.push_list-returns-in_err-push-in-len1-up-clause-puts
push_list-returns-in_err-push-in-len1-up-clause-puts g t c =
    first_not_put _ _ _ (codes "(") _ _ _ _ c.from_residual.ensures.0 c.in_err-push-in-len1-up.was
    c.push-in-len1-up.ensures.puts
    (first_and_others c.args.parts.now c.first-item.result c.in-len1-up.len_at_least c.first-item.is)

pub push_list-returns-in_err-push_ground-in-len1-up-clause-puts :
    goal.push_list-returns-in_err-push_ground-in-len1-up-clause-puts
push_list-returns-in_err-push_ground-in-len1-up-clause-puts g t c =
    rest_put _ (codes "(") _ _ _ _ _ c.in_ok-push-in-len1-up.ensures.puts
    (first_not_put _ _ _ (term_text (ground_of c.first-item.result)) _ _ _ _
    c.from_residual-in_err-push_ground-in-len1-up.ensures.0 c.in_err-push_ground-in-len1-up.was
    c.push_ground.ensures.puts refl)
    (first_and_others c.args.parts.now c.first-item.result c.in-len1-up.len_at_least c.first-item.is)

pub push_list-returns-in_ok-push_ground-in-len1-up-clause-puts :
    goal.push_list-returns-in_ok-push_ground-in-len1-up-clause-puts
push_list-returns-in_ok-push_ground-in-len1-up-clause-puts g t c =
    rest_put _ (codes "(") _ _ _ _ _ c.in_ok-push-in-len1-up.ensures.puts
    (rest_put _ (term_text (ground_of c.first-item.result)) _ _ _ _ _ c.in_ok-push_ground-in-len1-up.ensures.puts
    c.push_others.ensures.puts refl)
    (first_and_others c.args.parts.now c.first-item.result c.in-len1-up.len_at_least c.first-item.is)

-- ---- a term

pub push_ground-returns-in-Sym-clause-puts : goal.push_ground-returns-in-Sym-clause-puts
push_ground-returns-in-Sym-clause-puts g t c =
    puts_same c.push.result _ _ _ _ (c.bytes.ensures.same ∙ symbol_text c.args.term.now c.in-Sym.name c.in-Sym.is)
    c.push.ensures.puts

pub push_ground-returns-in-Num-clause-puts : goal.push_ground-returns-in-Num-clause-puts
push_ground-returns-in-Num-clause-puts g t c =
    let n = c.in-Num.n in
    let fits : FitsSigned w64 n = search rules in
    puts_same c.push_number.result _ _ _ _
    (ap num_text (to_z-of_z w64 n fits) ∙ number_text c.args.term.now n c.in-Num.is) c.push_number.ensures.puts

pub push_ground-push_list-requires : goal.push_ground-push_list-requires
push_ground-push_list-requires g t c κs within =
    let own = c.as_slice.result.now in
    let same = ap (λ gs. terms_size (grounds_of gs)) c.as_slice.ensures.value in
    let smaller = ground_parts-smaller c.args.term.now c.in-List.parts c.in-List.is in
    let less : terms_size (grounds_of own) < t = (call-smaller same smaller c.decreases).0 in
    search rules

pub push_ground-returns-in-List-clause-puts : goal.push_ground-returns-in-List-clause-puts
push_ground-returns-in-List-clause-puts g t c =
    puts_same c.push_list.result _ _ _ _
    (list_text c.args.term.now c.in-List.parts _ c.in-List.is c.as_slice.ensures.value) c.push_list.ensures.puts
