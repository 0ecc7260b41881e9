use Rattle.std.proofs.Common.{◌≡◌, ℕ, suc, ◌+◌, ◌-◌, ◌<◌, ◌++◌, ap, arith, rules}
use Rattle.std.proofs.lemmas.Grind.{common_steps}
use Rattle.hp_make.specs.Draws.{next, draw}
use Rattle.hp_make.specs.Texts.{package_text, packages_text}
use Rattle.hp_make.proofs.problem.write_packages.Goals as goal

-- packages i to n begin with package i, where i is below n
packages_text-first : (s i n : ℕ) → i < n
    → packages_text s i (n - i)
    ≡ package_text i (draw (next s)) (draw (next (next s))) ++ packages_text (next (next s)) (i + 1) (n - (i + 1))
packages_text-first s i n h = let e : n - i ≡ suc (n - (i + 1)) = omega arith in ap (packages_text s i) e

pub loop-number-preserved : goal.loop-number-preserved
loop-number-preserved c =
    let first = packages_text-first c.loop-number.draws.state c.loop-number.number c.args.n c.loop-number-test.true in
    grind (arith, common_steps)

pub loop-number-init : goal.loop-number-init
loop-number-init c = search rules
