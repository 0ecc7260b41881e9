use Rattle.std.proofs.Common.{◌≡◌, length, sym, subst, refl, rules}
use Rattle.std.proofs.lemmas.List.{nil_from_length}
use Rattle.hp_net.specs.Standings.{gone_back}
use Rattle.hp_plain.specs.Searches.{stands_in, Goes}
use Rattle.hp_plain.proofs.SearchSteps.{goes_back, back_at_root}
use Rattle.hp_plain.proofs.search.Search.back.Goals as goal

pub returns-in-None : goal.returns-in-None
returns-in-None c =
    let s = c.args.self.now in
    let few : length s.above.items ≡ 0 = search rules in
    absurd (c.requires.below (back_at_root s (nil_from_length s.above.items few)))

pub returns-in-Some : goal.returns-in-Some
returns-in-Some c =
    let s = c.args.self.now in
    let told = c.rise.ensures in
    subst (Goes s (gone_back (stands_in s))) (sym told.search)
    (goes_back s c.requires.search c.in-Some.frame c.pop.new.self.items c.pop.new.self c.rise.new.self.path
    c.in-Some.ensures.items refl told.path c.requires.done)
