use Rattle.std.proofs.Common.{◌+◌, refl, ap, sym, ◌∙◌, false, drop, Bool, cond, None, FitsSigned, rules, arith}
use Rattle.std.specs.Int.{w64}
use Rattle.std.proofs.lemmas.Int.{to_z-of_z}
use Rattle.hp_cells.specs.Compared.{is_number}
use Rattle.hp_syntax.specs.Views.{patterns_of, pattern_of}
use Rattle.hp_syntax.specs.ViewLaws.{pattern_of-var, pattern_of-sym, pattern_of-num, pattern_of-list, pattern_of-call}
use Rattle.hp_syntax.specs.Matching.{match_parts}
use Rattle.hp_eval.specs.GoalViews.{term_at}
use Rattle.hp_eval.specs.Slotted.{bindings_of}
use Rattle.hp_eval.specs.Attempts.{extended}
use Rattle.hp_eval.specs.FillSteps.{parts_at}
use Rattle.hp_eval.proofs.SlotLemmas.{binds_self, binds_through}
use Rattle.hp_eval.proofs.CellViews.{named_at}
use Rattle.hp_eval.proofs.AttemptLemmas.{tries_here, tries_as, tries_above, then_fails, then_goes_on, names_list}
use Rattle.hp_eval.proofs.MatchingSteps.{matches_variable, matches_symbol, matches_number, matches_list, matches_call, parts_missing, parts_step, parts_end}
use Rattle.hp_eval.proofs.Sizes.{pattern-smaller, list-size}
use Rattle.hp_eval.proofs.matching.+matching.Goals as goal

pub match_parts-returns-in_default : goal.match_parts-returns-in_default
match_parts-returns-in_default t c =
    let before = c.loop-part.invariant in
    let none = rw c.in_default.is at c.split.ensures in
    record {
      answers =
          sym before.so_far
          ∙ parts_missing c.args.parts.now c.loop-part.part-index c.part-item.result c.args.tail _ _
          c.loop-part-test.true none;
      binds = before.binds;
      below = before.below;
    }

pub match_parts-returns-then-not-match_pattern : goal.match_parts-returns-then-not-match_pattern
match_parts-returns-then-not-match_pattern t c =
    let before = c.loop-part.invariant in
    then_fails (match_parts (patterns_of (drop (c.loop-part.part-index + 1) c.args.parts.now)) c.args.tail _) _
    (sym before.so_far
    ∙ parts_step c.args.parts.now c.loop-part.part-index c.part-item.result c.args.tail _ _ _
    (bindings_of c.args.cells.now c.loop-part.slots) c.loop-part-test.true c.part-item.is c.in-Some.ensures.parts)
    c.if-not-match_pattern.true before.binds c.match_pattern.ensures

pub match_parts-loop-part-preserved : goal.match_parts-loop-part-preserved
match_parts-loop-part-preserved t c =
    let before = c.loop-part.invariant in
    record {
      list = c.in-Some.ensures.others_named;
      binds = binds_through c.args.slots.now c.loop-part.slots c.match_pattern.new.slots before.binds
          c.match_pattern.ensures.binds;
      below = c.match_pattern.ensures.below;
      so_far =
          then_goes_on (match_parts (patterns_of (drop (c.loop-part.part-index + 1) c.args.parts.now)) c.args.tail _) _
          (sym before.so_far
          ∙ parts_step c.args.parts.now c.loop-part.part-index c.part-item.result c.args.tail _ _ _
          (bindings_of c.args.cells.now c.loop-part.slots) c.loop-part-test.true c.part-item.is
          c.in-Some.ensures.parts)
          c.if-not-match_pattern.false c.match_pattern.ensures;
    }

pub match_parts-returns : goal.match_parts-returns
match_parts-returns t c =
    tries_as _
    (sym c.loop-part.invariant.so_far
    ∙ parts_end c.args.parts.now c.loop-part.part-index c.args.tail (parts_at c.args.cells.now c.loop-part.left)
    (bindings_of c.args.cells.now c.loop-part.slots) c.loop-part-test.false)
    (tries_above c.loop-part.invariant.binds c.match_tail.ensures)

pub match_pattern-returns-in-Var : goal.match_pattern-returns-in-Var
match_pattern-returns-in-Var t c =
    let p = c.args.pat.now in
    tries_as _ (matches_variable (pattern_of p) p.span c.in-Var.v _ _ (pattern_of-var p c.in-Var.v c.in-Var.is))
    c.meet.ensures

pub match_pattern-returns-in-Sym : goal.match_pattern-returns-in-Sym
match_pattern-returns-in-Sym t c =
    let p = c.args.pat.now in
    let terms = c.args.cells.now in
    let e = bindings_of terms c.args.slots.now in
    let same = c.is_symbol.ensures (term_at terms c.args.cell) (named_at terms c.args.cell c.requires.cell) in
    tries_here c.is_symbol.result _ terms c.args.slots.now c.requires.slots
    (matches_symbol (pattern_of p) p.span c.in-Sym.name _ e (pattern_of-sym p c.in-Sym.name c.in-Sym.is)
    ∙ ap (λ does. extended does e) (sym same))

pub match_pattern-returns-in-Num : goal.match_pattern-returns-in-Num
match_pattern-returns-in-Num t c =
    let p = c.args.pat.now in
    let terms = c.args.cells.now in
    let e = bindings_of terms c.args.slots.now in
    let t = term_at terms c.args.cell in
    let fits : FitsSigned w64 c.in-Num.n = search rules in
    let same =
    c.is_number.ensures t (named_at terms c.args.cell c.requires.cell)
    ∙ ap (λ n. is_number n t) (to_z-of_z w64 c.in-Num.n fits) in
    tries_here c.is_number.result _ terms c.args.slots.now c.requires.slots
    (matches_number (pattern_of p) p.span c.in-Num.n _ e (pattern_of-num p c.in-Num.n c.in-Num.is)
    ∙ ap (λ does. extended does e) (sym same))

pub match_pattern-returns-then-is_listed : goal.match_pattern-returns-then-is_listed
match_pattern-returns-then-is_listed t c =
    let p = c.args.pat.now in
    let e = bindings_of c.args.cells.now c.args.slots.now in
    let ps = patterns_of c.in-List.parts.items in
    let found = λ (is : Bool). cond is (match_parts ps c.in-List.tail (parts_at c.args.cells.now c.args.cell) e) None in
    tries_as _
    (matches_list (pattern_of p) p.span ps c.in-List.tail _ e
    (pattern_of-list p c.in-List.parts c.in-List.tail c.in-List.is)
    ∙ ap found (sym c.is_listed.ensures ∙ c.if-is_listed.true))
    (rw (← c.as_slice.ensures.value) c.match_parts.ensures)

pub match_pattern-returns-else-is_listed : goal.match_pattern-returns-else-is_listed
match_pattern-returns-else-is_listed t c =
    let p = c.args.pat.now in
    let e = bindings_of c.args.cells.now c.args.slots.now in
    let ps = patterns_of c.in-List.parts.items in
    let found = λ (is : Bool). cond is (match_parts ps c.in-List.tail (parts_at c.args.cells.now c.args.cell) e) None in
    tries_here c.is_listed.result _ c.args.cells.now c.args.slots.now c.requires.slots
    (matches_list (pattern_of p) p.span ps c.in-List.tail _ e
    (pattern_of-list p c.in-List.parts c.in-List.tail c.in-List.is)
    ∙ (ap found (sym c.is_listed.ensures ∙ c.if-is_listed.false)
    ∙ ap (λ does. extended does e) (sym c.if-is_listed.false)))

pub match_pattern-returns-in-Call : goal.match_pattern-returns-in-Call
match_pattern-returns-in-Call t c =
    let p = c.args.pat.now in
    tries_here false _ c.args.cells.now c.args.slots.now c.requires.slots
    (matches_call (pattern_of p) p.span _ _ _ _ (pattern_of-call p c.in-Call.field-0 c.in-Call.field-1 c.in-Call.is))

pub match_pattern-match_parts-requires : goal.match_pattern-match_parts-requires
match_pattern-match_parts-requires t c =
    let terms = c.args.cells.now in
    let list = names_list terms c.args.cell c.requires.cell (sym c.is_listed.ensures ∙ c.if-is_listed.true) in
    let size = list-size c.args.pat.now c.as_slice.result.now c.in-List.parts c.in-List.tail c.in-List.is
    c.as_slice.ensures.value in
    let whole = c.decreases in
    (omega (arith, size, whole), (c.requires.slots, list))

pub match_parts-match_pattern-requires : goal.match_parts-match_pattern-requires
match_parts-match_pattern-requires t c =
    let smaller = pattern-smaller c.args.parts.now c.loop-part.part-index c.part-item.result c.loop-part-test.true
    c.part-item.is in
    let whole = c.decreases in
    (omega (arith, smaller, whole), (c.loop-part.invariant.below, search rules))

pub match_parts-loop-part-smaller : goal.match_parts-loop-part-smaller
match_parts-loop-part-smaller t c = omega arith

pub match_parts-loop-part-init : goal.match_parts-loop-part-init
match_parts-loop-part-init t c = record {
  list = c.requires.list;
  binds = binds_self c.args.slots.now;
  below = c.requires.slots;
  so_far = refl;
}

pub match_pattern-is_symbol-requires : goal.match_pattern-is_symbol-requires
match_pattern-is_symbol-requires t c = c.requires.cell

pub match_pattern-is_number-requires : goal.match_pattern-is_number-requires
match_pattern-is_number-requires t c = c.requires.cell
