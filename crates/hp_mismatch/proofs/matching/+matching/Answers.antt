use Rattle.std.proofs.Common.{FitsSigned, rules, length, sym, ap, drop, ◌∙◌, ◌≡◌, arith}
use Rattle.std.specs.Int.{w64}
use Rattle.std.proofs.lemmas.Int.{to_z-of_z}
use Rattle.hp_syntax.specs.GroundViews.{grounds_of}
use Rattle.hp_syntax.specs.Matching.{match_tail}
use Rattle.hp_syntax.specs.Terms.{Number, same_term}
use Rattle.hp_syntax.specs.Views.{pattern_of, patterns_of}
use Rattle.hp_syntax.specs.ViewLaws.{pattern_of-call, pattern_of-list, pattern_of-num, pattern_of-sym, pattern_of-var}
use Rattle.hp_mismatch.specs.ValueViews.{bindings_of, extended, match_listed, value_of}
use Rattle.hp_mismatch.proofs.MatchSteps.{matches_call, matches_list, matches_number, matches_symbol, matches_variable, left_slice, part_differs, part_matches, parts_end, too_few}
use Rattle.hp_mismatch.proofs.matching.+matching.Goals as goal

-- ---- patterns one after the other

pub match_parts-returns-then-terms-parts : goal.match_parts-returns-then-terms-parts
match_parts-returns-then-terms-parts t c =
    too_few c.args.parts.now c.args.terms.now c.args.tail (bindings_of c.args.values.now.items) c.if-terms-parts.true

pub match_parts-returns-then-not-match_pattern : goal.match_parts-returns-then-not-match_pattern
match_parts-returns-then-not-match_pattern t c =
    sym c.loop-place.invariant
    ∙ part_differs c.args.parts.now c.args.tail c.args.terms.now c.loop-place.place c.index-parts-place.result
    c.index-terms-place.result c.loop-place-test.true (omega arith) c.index-parts-place.is c.index-terms-place.is
    (value_of c.as_value.result) c.as_value.ensures (bindings_of c.loop-place.values.items)
    (bindings_of c.match_pattern.new.values.items) c.match_pattern.result c.match_pattern.ensures
    c.if-not-match_pattern.true

pub match_parts-loop-place-preserved : goal.match_parts-loop-place-preserved
match_parts-loop-place-preserved t c =
    part_matches c.args.parts.now c.args.tail c.args.terms.now c.loop-place.place c.index-parts-place.result
    c.index-terms-place.result c.loop-place-test.true (omega arith) c.index-parts-place.is c.index-terms-place.is
    (value_of c.as_value.result) c.as_value.ensures (bindings_of c.loop-place.values.items)
    (bindings_of c.match_pattern.new.values.items) c.match_pattern.result c.match_pattern.ensures
    c.if-not-match_pattern.false
    ∙ c.loop-place.invariant

pub match_parts-returns : goal.match_parts-returns
match_parts-returns t c =
    let at : c.loop-place.place ≡ length c.args.parts.now = omega arith in
    let e = bindings_of c.loop-place.values.items in
    sym c.loop-place.invariant
    ∙ (parts_end c.args.parts.now c.args.tail c.args.terms.now c.loop-place.place e c.loop-place-test.false
    ∙ (ap (λ i. match_tail c.args.tail (grounds_of (drop i c.args.terms.now)) e) at
    ∙ (ap (λ gs. match_tail c.args.tail (grounds_of gs) e)
    (sym (left_slice c.args.terms.now (length c.args.parts.now)))
    ∙ c.match_tail.ensures)))

-- ---- one pattern

pub match_pattern-returns-in-Var : goal.match_pattern-returns-in-Var
match_pattern-returns-in-Var t c =
    let p = c.args.pat.now in
    matches_variable (pattern_of p) p.span c.in-Var.v _ _ (pattern_of-var p c.in-Var.v c.in-Var.is) ∙ c.meet.ensures

pub match_pattern-returns-in-Sym : goal.match_pattern-returns-in-Sym
match_pattern-returns-in-Sym t c =
    let p = c.args.pat.now in
    let e = bindings_of c.args.values.now.items in
    matches_symbol (pattern_of p) p.span c.in-Sym.name _ e (pattern_of-sym p c.in-Sym.name c.in-Sym.is)
    ∙ ap (λ does. extended does e) (sym c.is_symbol.ensures)

pub match_pattern-returns-in-Num : goal.match_pattern-returns-in-Num
match_pattern-returns-in-Num t c =
    let p = c.args.pat.now in
    let e = bindings_of c.args.values.now.items in
    let fits : FitsSigned w64 c.in-Num.n = search rules in
    matches_number (pattern_of p) p.span c.in-Num.n _ e (pattern_of-num p c.in-Num.n c.in-Num.is)
    ∙ ap (λ does. extended does e)
    (sym (c.is_number.ensures ∙ ap (λ n. same_term (Number n) (value_of c.args.found)) (to_z-of_z w64 c.in-Num.n fits)))

pub match_pattern-returns-in-List : goal.match_pattern-returns-in-List
match_pattern-returns-in-List t c =
    let p = c.args.pat.now in
    let e = bindings_of c.args.values.now.items in
    matches_list (pattern_of p) p.span _ c.in-List.tail _ e
    (pattern_of-list p c.in-List.parts c.in-List.tail c.in-List.is)
    ∙ (ap (λ ps. match_listed (patterns_of ps) c.in-List.tail (value_of c.args.found) e) (sym c.as_slice.ensures.value)
    ∙ c.match_list.ensures)

pub match_pattern-returns-in-Call : goal.match_pattern-returns-in-Call
match_pattern-returns-in-Call t c =
    let p = c.args.pat.now in
    matches_call (pattern_of p) p.span _ _ _ _ (pattern_of-call p c.in-Call.field-0 c.in-Call.field-1 c.in-Call.is)
