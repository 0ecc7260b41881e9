use Rattle.std.proofs.Common.{◌≡◌, ◌<◌, [], ◌∷◌, ◌++◌, length, refl, sym, rules, arith}
use Rattle.std.proofs.lemmas.List.{nil_from_length}
use Rattle.std.proofs.lemmas.List.Elements.{All-head, All-same}
use Rattle.hp_laws.proofs.JoinLemmas.{all_right}
use Rattle.hp_search.specs.Searches.{HasCell}
use Rattle.hp_search.proofs.CellSteps.{back_cells}
use Rattle.hp_search.proofs.BackSteps.{back_at_root, goes_back, lead_first}
use Rattle.hp_search.proofs.search.Search.back.Goals as goal

pub rise-requires-clause-mark : goal.rise-requires-clause-mark
rise-requires-clause-mark c =
    (lead_first c.args.self.now c.requires.search c.in-Some.frame c.pop.new.self.items c.in-Some.ensures.items).0.mark

pub rise-requires-clause-some : goal.rise-requires-clause-some
rise-requires-clause-some c =
    let s = c.args.self.now in
    let f = c.in-Some.frame in
    let fs = c.pop.new.self.items in
    let lead = lead_first s c.requires.search f fs c.in-Some.ensures.items in
    let base = lead.0.base in
    let some : 0 < f.base =
    All-head HasCell f []
    (all_right HasCell fs (f ∷ [])
    (All-same HasCell (fs ++ f ∷ []) s.above.items (sym c.in-Some.ensures.items) c.requires.search.each)) in
    omega arith

pub returns-in-None-clause-goes : goal.returns-in-None-clause-goes
returns-in-None-clause-goes c =
    let s = c.args.self.now in
    let few : length s.above.items ≡ 0 = search rules in
    absurd (c.requires.below (back_at_root s (nil_from_length s.above.items few)))

pub returns-in-None-clause-cells : goal.returns-in-None-clause-cells
returns-in-None-clause-cells c =
    let s = c.args.self.now in
    let few : length s.above.items ≡ 0 = search rules in
    absurd (c.requires.below (back_at_root s (nil_from_length s.above.items few)))

pub returns-in-Some-clause-goes : goal.returns-in-Some-clause-goes
returns-in-Some-clause-goes c =
    goes_back c.args.self.now c.requires.search c.in-Some.frame c.pop.new.self.items c.pop.new.self
    c.in-Some.ensures.items refl c.rise.new.self c.rise.ensures c.requires.done

pub returns-in-Some-clause-cells : goal.returns-in-Some-clause-cells
returns-in-Some-clause-cells c =
    back_cells c.args.self.now c.in-Some.frame c.pop.new.self c.rise.new.self c.in-Some.ensures.items c.rise.ensures
